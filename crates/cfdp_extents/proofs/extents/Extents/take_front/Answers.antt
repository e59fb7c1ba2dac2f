use Rattle.std.proofs.Common.{◌+◌, ◌∙◌, sym, ap, subst, arith}
use Rattle.cfdp_extents.specs.Offsets.{AreApart, union_of}
use Rattle.cfdp_extents.specs.Ranges.{turned, with_last}
use Rattle.cfdp_extents.proofs.Kept.{first-some, first-none}
use Rattle.cfdp_extents.proofs.Taken.{First, first-of, no-offsets, whole-rest, part-rest, part-apart}
use Rattle.cfdp_extents.proofs.CallerLemmas.{front-zero, front-empty, front-whole, front-part, front-is, front-none}
use Rattle.cfdp_extents.proofs.extents.Extents.take_front.Goals as goal

pub returns-then-max-eq0-clause-is : goal.returns-then-max-eq0-clause-is
returns-then-max-eq0-clause-is c = sym (front-zero c.args.self.now c.args.max c.if-max-eq0.true)

pub returns-in_default-clause-is : goal.returns-in_default-clause-is
returns-in_default-clause-is c = sym (front-empty c.args.self.now c.args.max
    (sym c.self.view_is ∙ no-offsets (with_last (turned c.self.inside.ranges.entries) c.self.inside.last)
    (first-none (with_last (turned c.self.inside.ranges.entries) c.self.inside.last) (sym c.first_at.ensures ∙ c.in_default.is))))

pub returns-in_default-clause-spent : goal.returns-in_default-clause-spent
returns-in_default-clause-spent c = front-none c.args.self.now c.args.max (sym (returns-in_default-clause-is c))

pub overflow_sub-end : goal.overflow_sub-end
overflow_sub-end c =
    let f : First (with_last (turned c.self.inside.ranges.entries) c.self.inside.last) c.args.self.now (c.in-Some.start, c.in-Some.end) =
    first-of (with_last (turned c.self.inside.ranges.entries) c.self.inside.last) c.args.self.now (c.in-Some.start, c.in-Some.end) c.self.invariant.0 c.self.view_is
    (first-some (with_last (turned c.self.inside.ranges.entries) c.self.inside.last) (c.in-Some.start, c.in-Some.end) (sym c.first_at.ensures ∙ c.in-Some.is)) in
    omega (arith, f.apart.0)

pub invariant_of-self : goal.invariant_of-self
invariant_of-self c =
    let f : First (with_last (turned c.self.inside.ranges.entries) c.self.inside.last) c.args.self.now (c.in-Some.start, c.in-Some.end) =
    first-of (with_last (turned c.self.inside.ranges.entries) c.self.inside.last) c.args.self.now (c.in-Some.start, c.in-Some.end) c.self.invariant.0 c.self.view_is
    (first-some (with_last (turned c.self.inside.ranges.entries) c.self.inside.last) (c.in-Some.start, c.in-Some.end) (sym c.first_at.ensures ∙ c.in-Some.is)) in
    (subst AreApart (sym c.drop_first.ensures.rest) (f.apart.2), c.drop_first.ensures.none)

pub returns-then-end-start-clause-is : goal.returns-then-end-start-clause-is
returns-then-end-start-clause-is c =
    let f : First (with_last (turned c.self.inside.ranges.entries) c.self.inside.last) c.args.self.now (c.in-Some.start, c.in-Some.end) =
    first-of (with_last (turned c.self.inside.ranges.entries) c.self.inside.last) c.args.self.now (c.in-Some.start, c.in-Some.end) c.self.invariant.0 c.self.view_is
    (first-some (with_last (turned c.self.inside.ranges.entries) c.self.inside.last) (c.in-Some.start, c.in-Some.end) (sym c.first_at.ensures ∙ c.in-Some.is)) in
    front-whole (with_last (turned c.self.inside.ranges.entries) c.self.inside.last) c.args.self.now (c.in-Some.start, c.in-Some.end) c.args.max f c.if-max-eq0.false c.if-end-start.true

pub returns-then-end-start-clause-front : goal.returns-then-end-start-clause-front
returns-then-end-start-clause-front c = front-is c.args.self.now c.args.max (c.in-Some.start, c.in-Some.end) (sym (returns-then-end-start-clause-is c))

pub returns-then-end-start-clause-rest : goal.returns-then-end-start-clause-rest
returns-then-end-start-clause-rest c =
    let f : First (with_last (turned c.self.inside.ranges.entries) c.self.inside.last) c.args.self.now (c.in-Some.start, c.in-Some.end) =
    first-of (with_last (turned c.self.inside.ranges.entries) c.self.inside.last) c.args.self.now (c.in-Some.start, c.in-Some.end) c.self.invariant.0 c.self.view_is
    (first-some (with_last (turned c.self.inside.ranges.entries) c.self.inside.last) (c.in-Some.start, c.in-Some.end) (sym c.first_at.ensures ∙ c.in-Some.is)) in
    ap union_of c.drop_first.ensures.rest ∙ whole-rest (with_last (turned c.self.inside.ranges.entries) c.self.inside.last) c.args.self.now (c.in-Some.start, c.in-Some.end) f

pub invariant_of-self-2 : goal.invariant_of-self-2
invariant_of-self-2 c =
    let f : First (with_last (turned c.self.inside.ranges.entries) c.self.inside.last) c.args.self.now (c.in-Some.start, c.in-Some.end) =
    first-of (with_last (turned c.self.inside.ranges.entries) c.self.inside.last) c.args.self.now (c.in-Some.start, c.in-Some.end) c.self.invariant.0 c.self.view_is
    (first-some (with_last (turned c.self.inside.ranges.entries) c.self.inside.last) (c.in-Some.start, c.in-Some.end) (sym c.first_at.ensures ∙ c.in-Some.is)) in (
      subst AreApart (sym c.cut_first.ensures.cut) (part-apart (with_last (turned c.self.inside.ranges.entries) c.self.inside.last) c.args.self.now
          (c.in-Some.start, c.in-Some.end) c.args.max f c.if-end-start.false),
      c.cut_first.ensures.none,
    )

pub returns-clause-is : goal.returns-clause-is
returns-clause-is c =
    let f : First (with_last (turned c.self.inside.ranges.entries) c.self.inside.last) c.args.self.now (c.in-Some.start, c.in-Some.end) =
    first-of (with_last (turned c.self.inside.ranges.entries) c.self.inside.last) c.args.self.now (c.in-Some.start, c.in-Some.end) c.self.invariant.0 c.self.view_is
    (first-some (with_last (turned c.self.inside.ranges.entries) c.self.inside.last) (c.in-Some.start, c.in-Some.end) (sym c.first_at.ensures ∙ c.in-Some.is)) in
    front-part (with_last (turned c.self.inside.ranges.entries) c.self.inside.last) c.args.self.now (c.in-Some.start, c.in-Some.end) c.args.max f c.if-max-eq0.false c.if-end-start.false

pub returns-clause-front : goal.returns-clause-front
returns-clause-front c = front-is c.args.self.now c.args.max (c.in-Some.start, c.in-Some.start + c.args.max) (sym (returns-clause-is c))

pub returns-clause-rest : goal.returns-clause-rest
returns-clause-rest c =
    let f : First (with_last (turned c.self.inside.ranges.entries) c.self.inside.last) c.args.self.now (c.in-Some.start, c.in-Some.end) =
    first-of (with_last (turned c.self.inside.ranges.entries) c.self.inside.last) c.args.self.now (c.in-Some.start, c.in-Some.end) c.self.invariant.0 c.self.view_is
    (first-some (with_last (turned c.self.inside.ranges.entries) c.self.inside.last) (c.in-Some.start, c.in-Some.end) (sym c.first_at.ensures ∙ c.in-Some.is)) in
    ap union_of c.cut_first.ensures.cut ∙ part-rest (with_last (turned c.self.inside.ranges.entries) c.self.inside.last) c.args.self.now
    (c.in-Some.start, c.in-Some.end) c.args.max f c.if-max-eq0.false c.if-end-start.false
