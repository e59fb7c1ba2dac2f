use Rattle.std.proofs.Common.{◌<◌, ◌∙◌, sym, ap, arith}
use Rattle.std.specs.FinSet.{is_subset}
use Rattle.cfdp_extents.specs.Offsets.{range}
use Rattle.cfdp_extents.specs.Ranges.{turned, with_last}
use Rattle.cfdp_extents.proofs.Joined.{covers-nothing}
use Rattle.cfdp_extents.proofs.Inserted.{covers-some, covers-none}
use Rattle.cfdp_extents.proofs.extents.Extents.covers.Goals as goal

pub returns-then-start-end : goal.returns-then-start-end
returns-then-start-end c = covers-nothing c.args.start c.args.end c.args.self.now c.if-start-end.true

pub returns-in-Some : goal.returns-in-Some
returns-in-Some c =
    let some : c.args.start < c.args.end = grind (arith, c.requires, c.if-start-end.false) in
    covers-some c.args.start c.args.end (with_last (turned c.self.inside.ranges.entries) c.self.inside.last) c.in-Some.range some c.self.invariant.0 (sym c.first_at.ensures ∙ c.in-Some.is)
    ∙ ap (is_subset (range c.args.start c.args.end)) c.self.view_is

pub returns-in-None : goal.returns-in-None
returns-in-None c =
    let some : c.args.start < c.args.end = grind (arith, c.requires, c.if-start-end.false) in
    covers-none c.args.start c.args.end (with_last (turned c.self.inside.ranges.entries) c.self.inside.last) some (sym c.first_at.ensures ∙ c.in-None.is)
    ∙ ap (is_subset (range c.args.start c.args.end)) c.self.view_is
