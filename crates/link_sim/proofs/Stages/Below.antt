-- A transaction that was sent less often than it may be, once it has settled, stands still, and that is
-- so still.
use Rattle.std.proofs.Common.{◌≡◌, inl, inr, ℕ, ◌<◌, ◌≤◌, true, false, Option, Some, None, is_some, refl, sym, ap, subst, ◌∙◌, arith}
use Rattle.std.proofs.lemmas.Bool.{false≢true, both_ways}
use Rattle.cfdp_directives.specs.declared.user.limits.Limits.{Limits}
use Rattle.cfdp_directives.specs.User.Put.{Put}
use Rattle.cfdp_sender.specs.declared.phase.SenderPhase.TheVariants as sending
use Rattle.cfdp_receiver.specs.declared.state.ReceiverPhase.TheVariants as receiving
use Rattle.cfdp_receiver.specs.State.{ReceiverState}
use Rattle.link_sim.specs.Exchange.{once_ended, knows_ending, is_closed_in, is_closed, maybe}
use Rattle.link_sim.specs.Runs.{Exchange, IsItsSender, Runs}
use Rattle.link_sim.specs.Stages.{IsAtRest, IsActiveCourse, IsReceiverBelow, IsBelow, IsReceiverBelowNow, Stands}
use Rattle.link_sim.proofs.Stages.Keep.{ExchangeKeeps, StaysReceiver, runs-keep}
use Rattle.link_sim.proofs.Stages.Runs.{runs-course}
use Rattle.link_sim.proofs.Stages.Unheard.{first-settle}

-- no timer that counts is waited for by a closed receiver, nor by one that knows no EOF
pub closed-below : (there : Limits) (o : Option ReceiverState) → maybe is_closed o ≡ true → IsReceiverBelowNow there o
closed-below there None h = tt
closed-below there (Some r) h = (λ is _. absurd (false≢true (ap is_closed_in (sym is) ∙ h)), λ is. absurd (false≢true (ap is_closed_in (sym is) ∙ h)))

pub unknown-below : (there : Limits) (o : Option ReceiverState) → maybe knows_ending o ≡ false → IsReceiverBelowNow there o
unknown-below there None h = tt
unknown-below there (Some r) h = (
  λ is known. absurd (both_ways (knows_ending r) h (ap (λ p. once_ended p (is_some r.ending)) is ∙ known)),
  λ is. absurd (both_ways (knows_ending r) h (ap (λ p. once_ended p (is_some r.ending)) is)),
)

module _ (here there : Limits) (n : ℕ) (put : Put) (a b : Exchange) (own : IsItsSender put a.sender) (c : IsActiveCourse put a) (below : IsBelow here there a) (runs : Runs n put a b)
    (rests : IsAtRest b) where
  keeps : ExchangeKeeps a b
  keeps = runs-keep n put a b runs

  sender-below : b.sender.phase ≡ sending.Sending → b.sender.count < here.eof
  sender-below is =
      let open_ : a.sender.phase ≡ sending.Closed → ⊥ = (λ over. let both : sending.Sending ≡ sending.Closed = sym is ∙ keeps.sender.closed over in cc) in
      subst (λ count. count < here.eof) (sym keeps.sender.count) (below.sender open_)

  receiver-below : (o p : Option ReceiverState) → a.receiver ≡ o → b.receiver ≡ p → StaysReceiver o p → IsReceiverBelow there o → IsReceiverBelowNow there p
  receiver-below (Some r) p is is_there stays under = subst (IsReceiverBelowNow there) (sym stays.1.0) (
    λ phase _. (
        let counts = under (λ over. let both : receiving.Receiving ≡ receiving.Closed = sym phase ∙ stays.1.1.closed over in cc) in
        let few : r.nak_count < there.nak = counts.0 in
        let fewer : stays.0.nak_count ≤ r.nak_count = stays.1.1.fewer.naks in
        omega (arith, few, fewer)
        ),
    λ phase. (
        let counts = under (λ over. let both : receiving.Finishing ≡ receiving.Closed = sym phase ∙ stays.1.1.closed over in cc) in
        let few : r.finished_count < there.finished = counts.1 in
        let fewer : stays.0.finished_count ≤ r.finished_count = stays.1.1.fewer.finisheds in
        omega (arith, few, fewer)
        ),
  )
  receiver-below None p is is_there stays under =
      elim (first-settle n put a b own.is_sender.size own.in_file.some c (ap (maybe knows_ending) is) runs rests) [
        | inl done ↦ closed-below there p (ap (maybe is_closed) (sym is_there) ∙ done.receiver)
        | inr unknown ↦ unknown-below there p (ap (maybe knows_ending) (sym is_there) ∙ unknown)
      ]

  stands : Stands here there put b
  stands = record {
    course = runs-course n put true false false false a b own.is_sender.size c runs;
    below = record { sender = λ is _. sender-below is; receiver = receiver-below a.receiver b.receiver refl refl keeps.receiver below.receiver };
    rests = rests;
  }

pub settled-below : (here there : Limits) (n : ℕ) (put : Put) (a b : Exchange) → IsItsSender put a.sender → IsActiveCourse put a → IsBelow here there a → Runs n put a b → IsAtRest b →
    Stands here there put b
settled-below here there n put a b own c below runs rests = stands here there n put a b own c below runs rests
