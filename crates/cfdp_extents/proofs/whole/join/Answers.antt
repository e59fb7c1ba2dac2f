use Rattle.std.proofs.lemmas.Result.{err_from_is_err_and}
use Rattle.cfdp_extents.specs.Ranges.{turned}
use Rattle.cfdp_extents.proofs.Last.{apart-others, join-past, join-early, join-inside, join-late, untouched-behind, untouched-before, on_ok, on_err}
use Rattle.cfdp_extents.proofs.whole.join.Goals as goal

pub returns-in_err-insert-clause-touched : goal.returns-in_err-insert-clause-touched
returns-in_err-insert-clause-touched c =
    let p = err_from_is_err_and c.from_residual.result c.from_residual.ensures.1 in
    rw (p.1) (untouched-behind c.args.start c.args.end (turned c.args.ranges.now.entries) c.args.last.now
    (c.in-Some.low, c.in-Some.high) c.requires.some c.requires.apart c.in-Some.is c.if-high-start.true)

pub returns-then-high-start-clause-ok : goal.returns-then-high-start-clause-ok
returns-then-high-start-clause-ok c = join-past c.args.start c.args.end c.args.ranges.now.entries c.insert.new.self.entries c.args.last.now
    (c.in-Some.low, c.in-Some.high) c.requires.some c.requires.apart c.in-Some.is c.if-high-start.true c.in_ok-insert.ensures.entries

pub join_between-requires : goal.join_between-requires
join_between-requires c = apart-others (turned c.args.ranges.now.entries) c.args.last.now c.requires.apart

pub returns-then-end-low-clause-ok : goal.returns-then-end-low-clause-ok
returns-then-end-low-clause-ok c = on_ok c.join_between.result (λ put. join-early c.args.start c.args.end (turned c.args.ranges.now.entries) (turned c.join_between.new.ranges.entries) c.args.last.now
    (c.in-Some.low, c.in-Some.high) c.requires.some c.requires.apart c.in-Some.is c.if-end-low.true put) c.join_between.ensures.ok

pub returns-then-end-low-clause-touched : goal.returns-then-end-low-clause-touched
returns-then-end-low-clause-touched c = on_err c.join_between.result (λ u. untouched-before c.args.end (turned c.args.ranges.now.entries) c.args.last.now
    (c.in-Some.low, c.in-Some.high) c.requires.apart c.in-Some.is c.if-end-low.true u) c.join_between.ensures.touched

pub returns-then-low-start-clause-ok : goal.returns-then-low-start-clause-ok
returns-then-low-start-clause-ok c = join-inside c.args.start c.args.end c.max.result (turned c.args.ranges.now.entries) c.args.last.now
    (c.in-Some.low, c.in-Some.high) c.requires.some c.requires.apart c.in-Some.is c.if-low-start.true c.if-high-start.false c.max.ensures

pub returns-clause-ok : goal.returns-clause-ok
returns-clause-ok c = join-late c.args.start c.args.end c.lowest-from.result c.max-2.result (turned c.args.ranges.now.entries) (turned c.remove_within.new.ranges.entries) c.args.last.now
    (c.in-Some.low, c.in-Some.high) c.requires.some c.requires.apart c.in-Some.is c.if-low-start.false c.if-end-low.false c.lowest-from.ensures c.max-2.ensures c.remove_within.ensures
