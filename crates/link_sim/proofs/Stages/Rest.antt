-- A transaction at rest stays as it is, and what is over stays over.
use Rattle.std.proofs.Common.{◌≡◌, inl, inr, ℕ, zero, suc, ◌&&◌, not, true, false, List, [], ◌∷◌, ◌++◌, Option, Some, None, refl, sym, ap, subst, ◌∙◌}
use Rattle.std.proofs.lemmas.Bool.{false≢true, and_right, cond_both}
use Rattle.cfdp_directives.specs.Pdu.Content.{Content}
use Rattle.cfdp_directives.specs.User.Put.{Put}
use Rattle.cfdp_timers.specs.declared.kind.Kind.{Kind}
use Rattle.cfdp_timers.specs.declared.kind.Kind.TheVariants.{EofAck, Nak, FinishedAck, Inactivity}
use Rattle.cfdp_sender.specs.declared.due.SenderDue.{SenderDue}
use Rattle.cfdp_sender.specs.declared.due.SenderDue.TheVariants as dues
use Rattle.cfdp_sender.specs.declared.phase.SenderPhase.{SenderPhase}
use Rattle.cfdp_sender.specs.declared.phase.SenderPhase.TheVariants as sending
use Rattle.cfdp_sender.specs.Due.{sender_due, sender_says}
use Rattle.cfdp_sender.specs.Due as sender
use Rattle.cfdp_sender.specs.State.{SenderState}
use Rattle.cfdp_sender.specs.Steps.{sender_waits, waits_for_eof_ack, waits_for_anything}
use Rattle.cfdp_receiver.specs.declared.state.ReceiverPhase.TheVariants as receiving
use Rattle.cfdp_receiver.specs.State.{ReceiverState}
use Rattle.cfdp_receiver.specs.Steps.{waits, waits_in}
use Rattle.link_sim.specs.Exchange.{AllTrue}
use Rattle.link_sim.specs.Runs.{Exchange, TellsMore, Settles, Runs, IsSwapped}
use Rattle.link_sim.specs.Stages.{NothingDue, IsAtRest, IsOverAt, IsOver, is_answered_in, is_answered}
use Rattle.link_sim.specs.Work.{opening_work}
use Rattle.link_sim.proofs.Course.Lists.{true-sent}
use Rattle.link_sim.proofs.Lanes.Swapping.{swapped-all, swapped-nil}
use Rattle.link_sim.proofs.Stages.Keep.{ExchangeKeeps, StaysReceiver, settles-keep}

not-both : {X : Type 0} (o : Option X) (x : X) → o ≡ None → o ≡ Some x → ⊥
not-both o x e f = (let both : None ≡ Some x = sym e ∙ f in cc)

no-front : (l rest : List Content) (v : Content) → l ≡ [] → l ≡ v ∷ rest → ⊥
no-front l rest v e f = (let both : [] ≡ v ∷ rest = sym e ∙ f in cc)

-- ---- at rest
rests : (put : Put) (a b : Exchange) → IsAtRest a → Settles put a b → TellsMore a b
rests put a b r (inl s) = absurd (not-both (sender_due a.sender) s.due r.sender s.is_due)
rests put a b r (inr (inl s)) = absurd (no-front a.back s.rest s.heard r.back s.front)
rests put a b r (inr (inr (inl s))) = absurd (no-front a.back s.rest s.heard r.back s.front)
rests put a b r (inr (inr (inr (inl s)))) = absurd (not-both _ s.due (subst NothingDue s.is_receiver r.receiver) s.is_due)
rests put a b r (inr (inr (inr (inr (inl s))))) = absurd (no-front a.forth s.rest s.heard r.forth s.front)
rests put a b r (inr (inr (inr (inr (inr (inl s)))))) = absurd (no-front a.forth s.rest s.heard r.forth s.front)
rests put a b r (inr (inr (inr (inr (inr (inr (inl s))))))) = absurd (no-front a.forth s.rest s.heard r.forth s.front)
rests put a b r (inr (inr (inr (inr (inr (inr (inr (inl s)))))))) = absurd (no-front a.forth s.rest s.heard r.forth s.front)
rests put a b r (inr (inr (inr (inr (inr (inr (inr (inr (inl s))))))))) = record {
  told = a.told;
  told_there = a.told_there;
  stays = λ h. h;
  stays_there = λ h. h;
  is = s.is ∙ ap (λ l. record a { forth = l; back = s.back }) (swapped-nil s.forth (subst (λ l. IsSwapped l s.forth) r.forth s.swaps) ∙ sym r.forth)
      ∙ ap (λ l. record a { back = l }) (swapped-nil s.back (subst (λ l. IsSwapped l s.back) r.back s.swaps_back) ∙ sym r.back);
}
rests put a b r (inr (inr (inr (inr (inr (inr (inr (inr (inr s))))))))) = s

pub tells-then : (a b c : Exchange) → TellsMore a b → TellsMore b c → TellsMore a c
tells-then a b c s t = record {
  told = t.told;
  told_there = t.told_there;
  stays = λ h. t.stays (ap (λ (e : Exchange). e.told) s.is ∙ s.stays h);
  stays_there = λ h. t.stays_there (ap (λ (e : Exchange). e.told_there) s.is ∙ s.stays_there h);
  is = t.is ∙ ap (λ (e : Exchange). record e { told = t.told; told_there = t.told_there }) s.is;
}

pub rests-told : (a b : Exchange) → TellsMore a b → IsAtRest a → IsAtRest b
rests-told a b t r = subst IsAtRest (sym t.is) (record { sender = r.sender; receiver = r.receiver; forth = r.forth; back = r.back })

pub rest-runs : (n : ℕ) (put : Put) (a b : Exchange) → IsAtRest a → Runs n put a b → TellsMore a b
unfolding Runs
rest-runs zero put a b r runs = record { told = a.told; told_there = a.told_there; stays = λ h. h; stays_there = λ h. h; is = runs }
rest-runs (suc n) put a b r runs =
    let first : TellsMore a runs.0 = rest-runs n put a runs.0 r runs.1.0 in
    tells-then a runs.0 b first (rests put runs.0 b (rests-told a runs.0 first r) runs.1.1)

-- ---- runs one after another
pub runs-then : (m n : ℕ) (put : Put) (a b c : Exchange) → Runs m put a b → Runs n put b c → (steps : ℕ) × Runs steps put a c
unfolding Runs
runs-then m zero put a b c first last = (m, subst (Runs m put a) (sym last) first)
runs-then m (suc n) put a b c first last = let before = runs-then m n put a b last.0 first last.1.0 in (suc before.0, (last.0, (before.1, last.1.1)))

-- ---- what is over
-- a closed sender sends an ACK alone
closed-due : (x : SenderState) (d : SenderDue) → x.phase ≡ sending.Closed → sender_due x ≡ Some d → (condition : ℕ) × (d ≡ dues.AckOfFinished condition)
closed-due x d is = cond_both x.suspended None (sender.ack_first x.ack_due x) (λ o. o ≡ Some d → (condition : ℕ) × (d ≡ dues.AckOfFinished condition)) (λ _ e. absurd cc) (λ _. from x.ack_due)
  where
    from : (ack : Option ℕ) → sender.ack_first ack x ≡ Some d → (condition : ℕ) × (d ≡ dues.AckOfFinished condition)
    from (Some condition) e = (condition, (let same : Some (dues.AckOfFinished condition) ≡ Some d = e in cc))
    from None e = absurd (not-both (sender.phase_due x.phase x) d (ap (λ p. sender.phase_due p x) is) e)

opens-none : (file : List ℕ) (x : SenderState) (d : SenderDue) → x.phase ≡ sending.Closed → sender_due x ≡ Some d → opening_work (sender_says file x d) ≡ 0
opens-none file x d is e = let ack = closed-due x d is e in subst (λ d. opening_work (sender_says file x d) ≡ 0) (sym ack.1) refl

module _ (put : Put) (a b : Exchange) (over : a.sender.phase ≡ sending.Closed) (none : a.receiver ≡ None) (unopened : AllTrue (λ v. opening_work v ≡ 0) a.forth) where
  front-opens : (rest : List Content) (v : Content) → a.forth ≡ v ∷ rest → (opening_work v ≡ 0) × AllTrue (λ v. opening_work v ≡ 0) rest
  front-opens rest v e = subst (AllTrue (λ v. opening_work v ≡ 0)) e unopened

  none-at : (forth : List Content) → AllTrue (λ v. opening_work v ≡ 0) forth → IsOverAt a.receiver forth
  none-at forth h = subst (λ o. IsOverAt o forth) (sym none) h

  abbrev OverAt : Exchange → Type 0
  OverAt e = IsOverAt e.receiver e.forth

  none-over : Settles put a b → OverAt b
  none-over (inl s) = subst OverAt (sym s.is) (none-at (a.forth ++ sender_says put.octets a.sender s.due ∷ [])
      (true-sent (λ v. opening_work v ≡ 0) a.forth _ unopened (opens-none put.octets a.sender s.due over s.is_due)))
  none-over (inr (inl s)) = subst OverAt (sym s.is) (none-at a.forth unopened)
  none-over (inr (inr (inl s))) = subst OverAt (sym s.is) (none-at a.forth unopened)
  none-over (inr (inr (inr (inl s)))) = absurd (not-both a.receiver s.receiver none s.is_receiver)
  none-over (inr (inr (inr (inr (inl s))))) = absurd (not-both a.receiver s.receiver none s.is_receiver)
  none-over (inr (inr (inr (inr (inr (inl s)))))) = absurd (not-both a.receiver s.receiver none s.is_receiver)
  none-over (inr (inr (inr (inr (inr (inr (inl s))))))) = absurd (s.opening (front-opens s.rest s.heard s.front).0)
  none-over (inr (inr (inr (inr (inr (inr (inr (inl s)))))))) = subst OverAt (sym s.is) (none-at s.rest (front-opens s.rest s.heard s.front).1)
  none-over (inr (inr (inr (inr (inr (inr (inr (inr (inl s))))))))) = subst OverAt (sym s.is) (none-at s.forth (swapped-all (λ v. opening_work v ≡ 0) a.forth s.forth s.swaps unopened))
  none-over (inr (inr (inr (inr (inr (inr (inr (inr (inr s))))))))) = subst OverAt (sym s.is) (none-at a.forth unopened)

over-step : (put : Put) (a b : Exchange) → IsOver a → Settles put a b → IsOver b
over-step put a b over s = record { sender = keeps.sender.closed over.sender; receiver = by a.receiver refl keeps.receiver over.receiver }
  where
    keeps : ExchangeKeeps a b
    keeps = settles-keep put a b s

    by : (o : Option ReceiverState) → a.receiver ≡ o → StaysReceiver o b.receiver → IsOverAt o a.forth → IsOverAt b.receiver b.forth
    by (Some r) is stays closed = subst (λ o. IsOverAt o b.forth) (sym stays.1.0) (stays.1.1.closed closed)
    by None is stays unopened = none-over put a b over.sender is unopened s

pub over-runs : (n : ℕ) (put : Put) (a b : Exchange) → IsOver a → Runs n put a b → IsOver b
unfolding Runs
over-runs zero put a b over runs = subst IsOver (sym runs) over
over-runs (suc n) put a b over runs = over-step put runs.0 b (over-runs n put a runs.0 over runs.1.0) runs.1.1

-- if the EOF was acknowledged, no ACK is waited for
pub answered-waits : (x : SenderState) → is_answered x ≡ true → sender_waits EofAck x ≡ false
answered-waits x h = and_right (not x.suspended) (waits_for_eof_ack x.phase x) (by x.phase h)
  where
    by : (phase : SenderPhase) → is_answered_in phase x.acknowledged ≡ true → waits_for_eof_ack phase x ≡ false
    by sending.Sending h = and_right (x.eof_taken && not x.eof_due) (not x.acknowledged) (ap not h)
    by sending.Cancelling h = absurd (false≢true h)
    by sending.Closed h = refl

-- what is over waits for nothing
pub closed-sender-waits : (x : SenderState) → x.phase ≡ sending.Closed → (k : Kind) → sender_waits k x ≡ false
closed-sender-waits x is EofAck = and_right (not x.suspended) (waits_for_eof_ack x.phase x) (ap (λ p. waits_for_eof_ack p x) is)
closed-sender-waits x is Inactivity = and_right (not x.suspended) (waits_for_anything x.phase x) (ap (λ p. waits_for_anything p x) is)
closed-sender-waits x is Nak = refl
closed-sender-waits x is FinishedAck = refl

pub closed-waits : (r : ReceiverState) → r.phase ≡ receiving.Closed → (k : Kind) → waits k r ≡ false
closed-waits r is k = and_right (not r.suspended) (waits_in r.phase k r) (ap (λ p. waits_in p k r) is)

pub over-waits : (a : Exchange) → IsOver a → ((k : Kind) → sender_waits k a.sender ≡ false) × ((r : ReceiverState) → a.receiver ≡ Some r → (k : Kind) → waits k r ≡ false)
over-waits a over = (closed-sender-waits a.sender over.sender, λ r is. closed-waits r (subst (λ o. IsOverAt o a.forth) is over.receiver))
