-- One more timer is cleared.
use Rattle.std.proofs.Common.{◌≡◌, ℕ, Bool, true, false, cond, ◌||◌, Option, None, take, get_or, arith, refl, sym, ap, ◌∙◌}
use Rattle.std.specs.List.{list_any}
use Rattle.std.specs.Ordering.{eq_by_cmp}
use Rattle.std.specs.FinMap as map
use Rattle.std.proofs.lemmas.List.Folds.{list_any_more}
use Rattle.cfdp_timers.specs.declared.kind.Kind.TheVariants.{EofAck}
use Rattle.cfdp_timers.specs.Order.{Timer, timer_cmp}
use Rattle.cfdp_timers.proofs.Orders.{timer_total}
use Rattle.cfdp_timers.proofs.timers.Timers.clear_all.Goals as goal

twice : (a b : Bool) (g : Option ℕ) → cond a None (cond b None g) ≡ cond (b || a) None g
twice true true g = refl
twice true false g = refl
twice false true g = refl
twice false false g = refl

pub loop-id-preserved : goal.loop-id-preserved
loop-id-preserved c =
    let first : Timer = (record { source = 0; number = 0 }, EofAck) in
    let next : Timer = get_or c.args.timers.now c.loop-id.id-index first in
    record {
      time = ap (λ state. state.time) c.clear.ensures.cleared ∙ c.loop-id.invariant.time;
      roomy = ap (λ state. state.roomy) c.clear.ensures.cleared ∙ c.loop-id.invariant.roomy;
      cleared = λ t.
          ap (λ state. map.get state.armed t) c.clear.ensures.cleared
          ∙ map.get-remove timer_total c.loop-id.self.armed next t
          ∙ ap (cond (eq_by_cmp timer_cmp t next) None) (c.loop-id.invariant.cleared t)
          ∙ twice (eq_by_cmp timer_cmp t next) (list_any (eq_by_cmp timer_cmp t) (take c.loop-id.id-index c.args.timers.now)) (map.get c.args.self.now.armed t)
          ∙ ap (λ b. cond b None (map.get c.args.self.now.armed t)) (sym (list_any_more (eq_by_cmp timer_cmp t) c.args.timers.now c.loop-id.id-index first (omega arith)));
    }
