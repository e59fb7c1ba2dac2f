use Rattle.std.proofs.Common.{refl}
use Rattle.std.proofs.Output.{has_written_of_eq, has_written_append}
use Rattle.cfdp_dump.specs.Spelled.Lines.{range_text}
use Rattle.cfdp_dump.proofs.AskedRanges.{rest_behind, text_with_next, some_left, next_known}
use Rattle.cfdp_dump.proofs.spelled.line.RangesDisplay.fmt.Goals as goal

pub unreachable-requires : goal.unreachable-requires
unreachable-requires g c =
    some_left c.args.self.now.0.now c.loop-index._index (rw c.len-index-end.ensures at c.loop-index-test.true) (rw c.in_default.is at c.loop-index.invariant.1)

pub loop-index-preserved : goal.loop-index-preserved
loop-index-preserved g c =
    let within = rw c.len-index-end.ensures at c.loop-index-test.true in
    let left = rw c.in-Some.is at c.loop-index.invariant.1 in
    let rest = rest_behind c.args.self.now.0.now c.loop-index._index (c.in-Some.start, c.in-Some.end) c.in-Some.behind within left in (
      λ plain. has_written_of_eq _ _ _ _ _
          (text_with_next range_text c.args.self.now.0.now c.loop-index._index (c.in-Some.start, c.in-Some.end) c.in-Some.behind within left)
          (has_written_append _ _ _ _ _ _ (c.loop-index.invariant.0 plain) (c.in_ok-write.ensures.writes (c.loop-index.invariant.0 plain).plain refl)),
      next_known _ _ _ rest c.split_first-next-in-loop-index.ensures.some c.split_first-next-in-loop-index.ensures.none,
    )
