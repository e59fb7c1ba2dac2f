-- Exported: the timers of a transaction, once they were set by what it waits for.
use Rattle.std.proofs.Common.{◌≡◌, ◌≢◌, ℕ, true, false, true≢false, cond, refl, sym, ap, subst, ◌∙◌}
use Rattle.std.specs.Cmp.{Equal-is}
use Rattle.std.specs.FinMap as map
use Rattle.std.specs.Ordering.{eq_by_cmp}
use Rattle.cfdp_header.specs.declared.value.TransactionId.{TransactionId}
use Rattle.cfdp_header.specs.Ids.{same_id}
use Rattle.cfdp_header.proofs.Ids.{same_id-is, same_id-itself}
use Rattle.cfdp_timers.specs.declared.kind.Kind.{Kind}
use Rattle.cfdp_timers.specs.declared.kind.Kind.TheVariants.{EofAck, Nak, FinishedAck, Inactivity}
use Rattle.cfdp_timers.specs.declared.wait.Wait.{Wait}
use Rattle.cfdp_timers.specs.declared.wait.Waits.{Waits}
use Rattle.cfdp_timers.specs.Order.{Timer, timer_cmp, kind_place}
use Rattle.cfdp_timers.specs.Armed.{Armed, with_timer}
use Rattle.cfdp_timers.specs.Waits.{deadline_by, wait_for, with_wait, waited}
use Rattle.cfdp_timers.proofs.Orders.{timer_total, timer_laws, same_timer}
use Rattle.cfdp_timers.proofs.Written.{get-with_timer}

-- a timer whose deadline stays leaves all as it was
pub with_timer_kept : (armed : Armed) (t : Timer) → with_timer armed t (map.get armed t) ≡ armed
with_timer_kept armed t = map.same_map timer_total same_timer _ _ (λ u. get-with_timer armed t (map.get armed t) u ∙ same u)
  where
    same : (u : Timer) → cond (eq_by_cmp timer_cmp u t) (map.get armed t) (map.get armed u) ≡ map.get armed u
    same u = elim (eq_by_cmp timer_cmp u t) as (λ b. eq_by_cmp timer_cmp u t ≡ b → cond b (map.get armed t) (map.get armed u) ≡ map.get armed u) [
      | true ↦ λ tie. ap (map.get armed) (sym (same_timer u t ((Equal-is (timer_cmp u t)).0 tie)))
      | false ↦ λ tie. refl
    ] refl

module _ (now : ℕ) (id : TransactionId) (wait : Wait) (armed : Armed) (kind : Kind) where
  own : map.get (with_wait now id kind wait armed) (id, kind) ≡ deadline_by now wait (map.get armed (id, kind))
  own = get-with_timer armed (id, kind) _ (id, kind)
      ∙ ap (λ b. cond b (deadline_by now wait (map.get armed (id, kind))) (map.get armed (id, kind))) (timer_laws.refl (id, kind))

  other : (u : Timer) → u ≢ (id, kind) → map.get (with_wait now id kind wait armed) u ≡ map.get armed u
  other u apart = get-with_timer armed (id, kind) _ u
      ∙ elim (eq_by_cmp timer_cmp u (id, kind))
      as (λ b. eq_by_cmp timer_cmp u (id, kind) ≡ b → cond b (deadline_by now wait (map.get armed (id, kind))) (map.get armed u) ≡ map.get armed u) [
        | true ↦ λ tie. absurd (apart (same_timer u (id, kind) ((Equal-is (timer_cmp u (id, kind))).0 tie)))
        | false ↦ λ tie. refl
      ] refl

  -- a timer of another kind
  pub of_kind : (k : Kind) → kind_place k ≢ kind_place kind → map.get (with_wait now id kind wait armed) (id, k) ≡ map.get armed (id, k)
  of_kind k apart = other (id, k) (λ e. apart (ap (λ t. kind_place t.1) e))

module _ (now : ℕ) (id : TransactionId) (w : Waits) (armed : Armed) where
  abbrev with_first : Armed
  with_first = with_wait now id EofAck w.eof_ack armed

  abbrev with_two : Armed
  with_two = with_wait now id Nak w.nak with_first

  abbrev with_three : Armed
  with_three = with_wait now id FinishedAck w.finished_ack with_two

  at_kind : (k : Kind) → map.get (waited now id w armed) (id, k) ≡ deadline_by now (wait_for w k) (map.get armed (id, k))
  unfolding waited
  at_kind EofAck = of_kind now id w.inactivity with_three Inactivity EofAck (λ e. absurd (cc))
      ∙ of_kind now id w.finished_ack with_two FinishedAck EofAck (λ e. absurd (cc))
      ∙ of_kind now id w.nak with_first Nak EofAck (λ e. absurd (cc)) ∙ own now id w.eof_ack armed EofAck
  at_kind Nak = of_kind now id w.inactivity with_three Inactivity Nak (λ e. absurd (cc))
      ∙ of_kind now id w.finished_ack with_two FinishedAck Nak (λ e. absurd (cc))
      ∙ own now id w.nak with_first Nak
      ∙ ap (deadline_by now w.nak) (of_kind now id w.eof_ack armed EofAck Nak (λ e. absurd (cc)))
  at_kind FinishedAck = of_kind now id w.inactivity with_three Inactivity FinishedAck (λ e. absurd (cc))
      ∙ own now id w.finished_ack with_two FinishedAck
      ∙ ap (deadline_by now w.finished_ack)
      (of_kind now id w.nak with_first Nak FinishedAck (λ e. absurd (cc)) ∙ of_kind now id w.eof_ack armed EofAck FinishedAck (λ e. absurd (cc)))
  at_kind Inactivity = own now id w.inactivity with_three Inactivity
      ∙ ap (deadline_by now w.inactivity)
      (of_kind now id w.finished_ack with_two FinishedAck Inactivity (λ e. absurd (cc))
      ∙ of_kind now id w.nak with_first Nak Inactivity (λ e. absurd (cc)) ∙ of_kind now id w.eof_ack armed EofAck Inactivity (λ e. absurd (cc)))

  elsewhere : (t : Timer) → same_id id t.0 ≡ false → map.get (waited now id w armed) t ≡ map.get armed t
  unfolding waited
  elsewhere t apart = other now id w.inactivity with_three Inactivity t (λ e. no_tie Inactivity e) ∙ other now id w.finished_ack with_two FinishedAck t (λ e. no_tie FinishedAck e)
      ∙ other now id w.nak with_first Nak t (λ e. no_tie Nak e) ∙ other now id w.eof_ack armed EofAck t (λ e. no_tie EofAck e)
    where
      no_tie : (k : Kind) → t ≢ (id, k)
      no_tie k e = true≢false (sym (same_id-itself id) ∙ ap (same_id id) (sym (ap (λ u. u.0) e)) ∙ apart)

  pub get-waited : (t : Timer) → map.get (waited now id w armed) t ≡ cond (same_id id t.0) (deadline_by now (wait_for w t.1) (map.get armed t)) (map.get armed t)
  get-waited t = elim (same_id id t.0)
      as (λ b. same_id id t.0 ≡ b → map.get (waited now id w armed) t ≡ cond b (deadline_by now (wait_for w t.1) (map.get armed t)) (map.get armed t)) [
        | true ↦ λ tie. subst (λ i. map.get (waited now id w armed) (i, t.1) ≡ deadline_by now (wait_for w t.1) (map.get armed (i, t.1))) (same_id-is id t.0 tie) (at_kind t.1)
        | false ↦ λ apart. elsewhere t apart
      ] refl
