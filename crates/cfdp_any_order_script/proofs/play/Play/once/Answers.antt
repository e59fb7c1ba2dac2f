use Rattle.std.proofs.Common.{List, ℕ, Some, subst, sym}
use Rattle.link_sim.specs.declared.event.Event.{Event}
use Rattle.cfdp_any_order_script.specs.Performing.{At, ComesDamaged, HappensOnce}
use Rattle.cfdp_any_order_script.proofs.play.Play.once.Goals as goal

pub returns-in-Tick : goal.returns-in-Tick
returns-in-Tick c = subst (λ (e : Event). HappensOnce e c.tick.result c.args.self.now c.tick.new.self) (sym c.in-Tick.is) c.tick.ensures

pub returns-in-Deliver : goal.returns-in-Deliver
returns-in-Deliver c = subst (λ (e : Event). HappensOnce e c.arrive.result c.args.self.now c.arrive.new.self) (sym c.in-Deliver.is) c.arrive.ensures

pub returns-in-Strike : goal.returns-in-Strike
returns-in-Strike c = subst (λ (e : Event). HappensOnce e c.lose.result c.args.self.now c.lose.new.self) (sym c.in-Strike.is) c.lose.ensures

pub returns-in-Damage : goal.returns-in-Damage
returns-in-Damage c =
    subst (λ (e : Event). HappensOnce e c.damage.result c.args.self.now c.damage.new.self) (sym c.in-Damage.is)
    (subst (λ (o : List ℕ). At c.in-Damage.side (ComesDamaged (λ (f : List ℕ). o) c.in-Damage.side (Some c.in-Damage.lane) c.damage.result) c.args.self.now c.damage.new.self) c.as_slice.ensures c.damage.ensures)
