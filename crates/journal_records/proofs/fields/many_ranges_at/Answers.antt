use Rattle.std.proofs.lemmas.Result.{err_from_is_err_and}
use Rattle.journal_records.specs.Reading.{range_at, many_at}
use Rattle.journal_records.proofs.Parts.{goes_on, ends, is_done}
use Rattle.journal_records.proofs.fields.many_ranges_at.Goals as goal

pub returns-in_err-range : goal.returns-in_err-range
returns-in_err-range c =
    let p = err_from_is_err_and c.from_residual.result c.from_residual.ensures.1 in
    rw (p.1, p.2) (ends range_at c.in_err-range.field-0.0 c.loop.ranges.items c.args.count c.loop.counter c.loop.rest.now (many_at range_at c.args.count c.args.bytes.now) c.loop-test.true c.in_err-range.ensures c.loop.invariant)

pub loop-preserved : goal.loop-preserved
loop-preserved c =
    rw c.in_ok-push.ensures.items (goes_on range_at c.loop.ranges.items c.args.count c.loop.counter c.loop.rest.now c.in_ok-range.range c.in_ok-range.after.now (many_at range_at c.args.count c.args.bytes.now) c.loop-test.true c.in_ok-range.ensures c.loop.invariant)

pub returns : goal.returns
returns c = is_done range_at c.loop.ranges.items c.args.count c.loop.counter c.loop.rest.now (many_at range_at c.args.count c.args.bytes.now) c.loop-test.false c.loop.invariant
