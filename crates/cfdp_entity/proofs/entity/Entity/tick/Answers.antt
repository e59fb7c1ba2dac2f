use Rattle.std.proofs.Common.{Result, Ok, Err, OnErr, refl}
use Rattle.cfdp_entity.specs.Entity.{next_of}
use Rattle.cfdp_entity.specs.Roomy.{Becomes}
use Rattle.cfdp_entity.proofs.PutNumbers.{free-ticked}
use Rattle.cfdp_entity.proofs.entity.Entity.tick.Goals as goal

on_err : {X E P Q : Type 0} (r : Result X E) → (P → Q) → OnErr r P → OnErr r Q
on_err (Ok x) f p = tt
on_err (Err e) f p = f p

pub invariant_of-self : goal.invariant_of-self
invariant_of-self g c = (
  c.self.invariant.0,
  c.self.invariant.1,
  free-ticked c.self.inside.config.entity (next_of c.self.inside.next) c.self.inside.table.state c.self.inside.table.state c.tick.new.self.state refl c.self.invariant.2
      c.tick.result c.args.now c.tick.ensures.ticked
      (on_err c.tick.result (λ (kept : Becomes c.self.inside.table.state c.self.inside.table c.tick.new.self). kept.state) c.tick.ensures.err),
  c.self.invariant.3,
)
