use Rattle.std.proofs.Common.{◌∙◌, sym, arith}
use Rattle.cfdp_extents.specs.Ranges.{turned, with_last}
use Rattle.cfdp_extents.proofs.Kept.{first-some, first-none}
use Rattle.cfdp_extents.proofs.Taken.{First, first-of, no-offsets}
use Rattle.cfdp_extents.proofs.CallerLemmas.{front-zero, front-empty, front-min, front-is, front-none}
use Rattle.cfdp_extents.proofs.extents.Extents.front.Goals as goal

pub returns-then-max-eq0-clause-is : goal.returns-then-max-eq0-clause-is
returns-then-max-eq0-clause-is c = sym (front-zero c.args.self.now c.args.max c.if-max-eq0.true)

pub overflow_sub-end : goal.overflow_sub-end
overflow_sub-end c =
    let f : First (with_last (turned c.self.inside.ranges.entries) c.self.inside.last) c.args.self.now (c.in-Some.start, c.in-Some.end) =
    first-of (with_last (turned c.self.inside.ranges.entries) c.self.inside.last) c.args.self.now (c.in-Some.start, c.in-Some.end) c.self.invariant.0 c.self.view_is
    (first-some (with_last (turned c.self.inside.ranges.entries) c.self.inside.last) (c.in-Some.start, c.in-Some.end) (sym c.first_at.ensures ∙ c.in-Some.is)) in
    omega (arith, f.apart.0)

pub returns-in-Some-clause-is : goal.returns-in-Some-clause-is
returns-in-Some-clause-is c =
    let f : First (with_last (turned c.self.inside.ranges.entries) c.self.inside.last) c.args.self.now (c.in-Some.start, c.in-Some.end) =
    first-of (with_last (turned c.self.inside.ranges.entries) c.self.inside.last) c.args.self.now (c.in-Some.start, c.in-Some.end) c.self.invariant.0 c.self.view_is
    (first-some (with_last (turned c.self.inside.ranges.entries) c.self.inside.last) (c.in-Some.start, c.in-Some.end) (sym c.first_at.ensures ∙ c.in-Some.is)) in
    front-min (with_last (turned c.self.inside.ranges.entries) c.self.inside.last) c.args.self.now (c.in-Some.start, c.in-Some.end) c.args.max c.min.result f c.if-max-eq0.false c.min.ensures

pub returns-in-Some-clause-front : goal.returns-in-Some-clause-front
returns-in-Some-clause-front c = front-is c.args.self.now c.args.max _ (sym (returns-in-Some-clause-is c))

pub returns-in-None-clause-is : goal.returns-in-None-clause-is
returns-in-None-clause-is c = sym (front-empty c.args.self.now c.args.max
    (sym c.self.view_is ∙ no-offsets (with_last (turned c.self.inside.ranges.entries) c.self.inside.last)
    (first-none (with_last (turned c.self.inside.ranges.entries) c.self.inside.last) (sym c.first_at.ensures ∙ c.in-None.is))))

pub returns-in-None-clause-spent : goal.returns-in-None-clause-spent
returns-in-None-clause-spent c = front-none c.args.self.now c.args.max (sym (returns-in-None-clause-is c))
