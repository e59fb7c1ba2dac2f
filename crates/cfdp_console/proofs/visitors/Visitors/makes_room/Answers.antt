use Rattle.std.proofs.Common.{subst, sym}
use Rattle.cfdp_console.specs.Serving.{AreKnownOrNew}
use Rattle.cfdp_console.proofs.KnownVisitors.{known_all, known_rest}
use Rattle.cfdp_console.proofs.visitors.Visitors.makes_room.Goals as goal

pub returns-then-len-ge-MOST_VISITORS-clause-known :
    goal.returns-then-len-ge-MOST_VISITORS-clause-known
returns-then-len-ge-MOST_VISITORS-clause-known g c =
    subst (λ all. AreKnownOrNew c.args.self.now.all.items all) (sym c.remove.ensures.items)
    (known_rest c.args.self.now.all.items)

pub returns-else-len-ge-MOST_VISITORS-clause-known :
    goal.returns-else-len-ge-MOST_VISITORS-clause-known
returns-else-len-ge-MOST_VISITORS-clause-known g c = known_all c.args.self.now.all.items
