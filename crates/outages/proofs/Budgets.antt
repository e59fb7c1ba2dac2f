-- How often a sender and a receiver tried again, and that the steps of a settling leave that.
use Rattle.std.proofs.Common.{◌≡◌, inl, inr, ℕ, zero, suc, ◌+◌, ◌≤◌, Bool, true, false, not, length, Option, Some, None, refl, sym, ap, subst, arith}
use Rattle.std.specs.FinMap as map
use Rattle.std.proofs.lemmas.Bool.{false≢true, both_ways, false_from_ne_true}
use Rattle.cfdp_directives.specs.declared.user.limits.Limits.{Limits}
use Rattle.cfdp_directives.specs.User.Put.{Put}
use Rattle.cfdp_timers.specs.declared.kind.Kind.TheVariants.{EofAck}
use Rattle.cfdp_sender.specs.declared.phase.SenderPhase.{SenderPhase}
use Rattle.cfdp_sender.specs.declared.phase.SenderPhase.TheVariants as sending
use Rattle.cfdp_sender.specs.State.{SenderState}
use Rattle.cfdp_sender.specs.Steps.{sender_waits}
use Rattle.cfdp_receiver.specs.State.{ReceiverState, opened_receiver}
use Rattle.link_sim.specs.Exchange.{IsTrueForth, AllTrue, is_closed, is_closed_in}
use Rattle.link_sim.specs.Runs.{Exchange, ReceiverOpens, Runs, Settles}
use Rattle.link_sim.specs.Stages.{IsActiveCourse, is_answered}
use Rattle.link_sim.specs.Waiting.{is_open_sender}
use Rattle.link_sim.proofs.Stages.Keep.{ExchangeKeeps, ReceiverKeeps, SenderKeeps, StaysReceiver, closed-is, receiver-keeps, runs-keep, settles-keep}
use Rattle.link_sim.proofs.Stages.Rest.{answered-waits, closed-sender-waits}
use Rattle.link_sim.proofs.Stages.Runs.{OpensWell, opened-by, opened-well, runs-course}

-- ---- a sender that needs no more tries: it is closed, or, if `strict` isn't set, its EOF was
-- answered
abbrev pub is_done : (strict : Bool) → SenderState → Bool
is_done true x = not (is_open_sender x.phase)
is_done false x = is_answered x

not-open : (p : SenderPhase) → not (is_open_sender p) ≡ true → p ≡ sending.Closed
not-open sending.Sending h = absurd (false≢true h)
not-open sending.Cancelling h = absurd (false≢true h)
not-open sending.Closed h = refl

pub done-keeps : (strict : Bool) (x y : SenderState) → SenderKeeps x y → is_done strict x ≡ true → is_done strict y ≡ true
done-keeps true x y k h = ap (λ p. not (is_open_sender p)) (k.closed (not-open x.phase h))
done-keeps false x y k h = k.answered h

pub done-same : (strict : Bool) (x : SenderState) (count : ℕ) (due : Bool) → is_done strict (record x { count = count; eof_due = due }) ≡ is_done strict x
done-same true x count due = refl
done-same false x count due = refl

-- one that waits for the ACK of its EOF does need them
pub waits-undone : (strict : Bool) (x : SenderState) → sender_waits EofAck x ≡ true → is_done strict x ≡ false
waits-undone true x w = false_from_ne_true (not (is_open_sender x.phase)) (λ h. both_ways (sender_waits EofAck x) (closed-sender-waits x (not-open x.phase h) EofAck) w)
waits-undone false x w = false_from_ne_true (is_answered x) (λ h. both_ways (sender_waits EofAck x) (answered-waits x h) w)

-- ---- so many tries more are left
abbrev pub HoldsHere : (strict : Bool) → Limits → (eof : ℕ) → SenderState → Type 0
HoldsHere strict here eof x = is_done strict x ≡ false → x.count + eof ≤ here.eof

abbrev pub HoldsThere : Limits → (nak finished : ℕ) → Option ReceiverState → Type 0
HoldsThere there nak finished (Some r) = is_closed r ≡ false → (r.nak_count + nak ≤ there.nak) × (r.finished_count + finished ≤ there.finished)
HoldsThere there nak finished None = (nak ≤ there.nak) × (finished ≤ there.finished)

pub fewer-here : (strict : Bool) (here : Limits) (n m : ℕ) (x : SenderState) → m ≤ n → HoldsHere strict here n x → HoldsHere strict here m x
fewer-here strict here n m x less h undone = (let few : x.count + n ≤ here.eof = h undone in omega (arith, few, less))

pub fewer-there : (there : Limits) (n m f g : ℕ) (o : Option ReceiverState) → m ≤ n → g ≤ f → HoldsThere there n f o → HoldsThere there m g o
fewer-there there n m f g (Some r) less lesser h = λ open_. (
    let h0 : r.nak_count + n ≤ there.nak = (h open_).0 in
    let h1 : r.finished_count + f ≤ there.finished = (h open_).1 in
    (omega (arith, h0, less), omega (arith, h1, lesser)))
fewer-there there n m f g None less lesser h =
    let h0 : n ≤ there.nak = h.0 in
    let h1 : f ≤ there.finished = h.1 in
    (omega (arith, h0, less), omega (arith, h1, lesser))

-- ---- a run
pub runs-here : (strict : Bool) (here : Limits) (eof n : ℕ) (put : Put) (a b : Exchange) → Runs n put a b → HoldsHere strict here eof a.sender → HoldsHere strict here eof b.sender
runs-here strict here eof n put a b runs h undone =
    let k : SenderKeeps a.sender b.sender = (runs-keep n put a b runs).sender in
    let was : is_done strict a.sender ≡ false = false_from_ne_true (is_done strict a.sender) (λ t. both_ways (is_done strict b.sender) undone (done-keeps strict a.sender b.sender k t)) in
    subst (λ count. count + eof ≤ here.eof) (sym k.count) (h was)

module _ (there : Limits) (nak finished : ℕ) where
  abbrev There : Option ReceiverState → Type 0
  There o = HoldsThere there nak finished o

  kept-there : (r s : ReceiverState) → ReceiverKeeps r s → There (Some r) → There (Some s)
  kept-there r s k h open_ =
      let was : is_closed r ≡ false = false_from_ne_true (is_closed r) (λ t. both_ways (is_closed s) open_ (ap is_closed_in (k.closed (closed-is r.phase t)))) in
      let h0 : r.nak_count + nak ≤ there.nak = (h was).0 in
      let h1 : r.finished_count + finished ≤ there.finished = (h was).1 in
      let k0 : s.nak_count ≤ r.nak_count = k.fewer.naks in
      let k1 : s.finished_count ≤ r.finished_count = k.fewer.finisheds in
      (omega (arith, h0, k0), omega (arith, h1, k1))

  stays-there : (o p : Option ReceiverState) → (r : ReceiverState) → o ≡ Some r → StaysReceiver o p → There o → There p
  stays-there o p r is stays h =
      let s = subst (λ o. StaysReceiver o p) is stays in
      subst There (sym s.1.0) (kept-there r s.0 s.1.1 (subst There is h))

  module _ (put : Put) (a b : Exchange) (c : IsActiveCourse put a) (h : There a.receiver) where
    -- a receiver that a true PDU opened has tried nothing yet
    opens-there : ReceiverOpens put a b → There b.receiver
    opens-there s =
        let t : IsTrueForth put s.heard = (subst (AllTrue (IsTrueForth put)) s.front c.truth.true_forth).0 in
        let o : OpensWell put a b s = opened-well put a b s t in
        let k : ReceiverKeeps (opened_receiver s.addressing) (opened-by put a b s).receiver = receiver-keeps map.empty s.files (opened_receiver s.addressing) s.large s.heard in
        let none : There None = subst There s.none h in
        let new : There (Some (opened_receiver s.addressing)) = λ _. (
        let h0 : nak ≤ there.nak = none.0 in
        let h1 : finished ≤ there.finished = none.1 in
        (omega (arith, h0), omega (arith, h1))) in
        subst (λ (e : Exchange). There e.receiver) (sym s.is)
        (subst (λ r. There (Some r)) (sym o.receiver) (kept-there (opened_receiver s.addressing) (opened-by put a b s).receiver k new))

    same-there : b.receiver ≡ a.receiver → There b.receiver
    same-there is = subst There (sym is) h

    settles-there : Settles put a b → There b.receiver
    settles-there step = by step (settles-keep put a b step)
      where
        by : Settles put a b → ExchangeKeeps a b → There b.receiver
        by (inl s) k = same-there (ap (λ (e : Exchange). e.receiver) s.is)
        by (inr (inl s)) k = same-there (ap (λ (e : Exchange). e.receiver) s.is)
        by (inr (inr (inl s))) k = same-there (ap (λ (e : Exchange). e.receiver) s.is)
        by (inr (inr (inr (inl s)))) k = stays-there a.receiver b.receiver s.receiver s.is_receiver k.receiver h
        by (inr (inr (inr (inr (inl s))))) k = stays-there a.receiver b.receiver s.receiver s.is_receiver k.receiver h
        by (inr (inr (inr (inr (inr (inl s)))))) k = same-there (ap (λ (e : Exchange). e.receiver) s.is)
        by (inr (inr (inr (inr (inr (inr (inl s))))))) k = opens-there s
        by (inr (inr (inr (inr (inr (inr (inr (inl s)))))))) k = same-there (ap (λ (e : Exchange). e.receiver) s.is)
        by (inr (inr (inr (inr (inr (inr (inr (inr (inl s))))))))) k = same-there (ap (λ (e : Exchange). e.receiver) s.is)
        by (inr (inr (inr (inr (inr (inr (inr (inr (inr s))))))))) k = same-there (ap (λ (e : Exchange). e.receiver) s.is)

  pub runs-there : (n : ℕ) (put : Put) (a b : Exchange) → a.sender.size ≡ length put.octets → IsActiveCourse put a → Runs n put a b → There a.receiver → There b.receiver
  unfolding Runs
  runs-there zero put a b size c runs h = subst (λ (e : Exchange). There e.receiver) (sym runs) h
  runs-there (suc n) put a b size c runs h =
      settles-there put runs.0 b (runs-course n put true false false false a runs.0 size c runs.1.0) (runs-there n put a runs.0 size c runs.1.0 h) runs.1.1
