use Rattle.std.proofs.Common.{◌≡◌, ◌-◌, ◌∙◌, length, sym, ap, arith, [], ◌∷◌}
use Rattle.cfdp_extents.specs.Offsets.{StartBehind}
use Rattle.cfdp_extents.specs.Ranges.{others_of, with_last, gaps_between}
use Rattle.cfdp_extents.proofs.Missing.{gaps-past, gaps-last, gaps-more, progress-first, behind_limit, behind_none}
use Rattle.cfdp_extents.proofs.gaps.GapsIterator.next.Goals as goal
use Rattle.cfdp_extents.proofs.gaps.GapsIterator.next.Goals.{in_default-via-in-Some+else-behind-self, in_default-via-in_default}

pub returns-then-self-start-clause-steps : goal.returns-then-self-start-clause-steps
returns-then-self-start-clause-steps c =
    let none : c.args.self.now ≡ [] = sym c.self.view_is ∙ gaps-past c.self.inside.start c.self.inside.limit (with_last (others_of c.self.inside.ranges) c.self.inside.last) c.if-self-start.true in
    (none, none)

pub returns-in-Some-clause-steps : goal.returns-in-Some-clause-steps
returns-in-Some-clause-steps c =
    sym c.self.view_is
    ∙ ap (gaps_between c.self.inside.start c.self.inside.limit) c.in-Some.ensures.some
    ∙ gaps-more c.self.inside.start c.self.inside.limit (c.in-Some.behind, c.in-Some.end) (with_last (others_of c.next_range.new.ranges) c.next_range.new.last) c.if-self-start.false c.if-behind-self.true

pub returns-in-Some-clause-goes : goal.returns-in-Some-clause-goes
returns-in-Some-clause-goes c = progress-first _ _ _ (returns-in-Some-clause-steps c)

pub returns-in_default-clause-steps : goal.returns-in_default-clause-steps
returns-in_default-clause-steps c =
    let last : StartBehind (c.self.inside.limit - 1) (with_last (others_of c.self.inside.ranges) c.self.inside.last) = elim c.in_default.branch [
      | in_default-via-in-Some+else-behind-self w ↦ behind_limit c.self.inside.limit (with_last (others_of c.self.inside.ranges) c.self.inside.last) (w.in-Some.behind, w.in-Some.end)
          (with_last (others_of c.next_range.new.ranges) c.next_range.new.last) (omega arith) w.in-Some.ensures.some w.if-behind-self.false
      | in_default-via-in_default w ↦ behind_none (c.self.inside.limit - 1) (with_last (others_of c.self.inside.ranges) c.self.inside.last) (ap length w.in_default.ensures.none)
    ] in
    sym c.self.view_is
    ∙ gaps-last c.self.inside.start c.self.inside.limit (with_last (others_of c.self.inside.ranges) c.self.inside.last) c.if-self-start.false last
    ∙ ap (λ rest. (c.self.inside.start, c.self.inside.limit) ∷ rest) (sym (gaps-past c.self.inside.limit c.self.inside.limit _ (omega arith)))

pub returns-in_default-clause-goes : goal.returns-in_default-clause-goes
returns-in_default-clause-goes c = progress-first _ _ _ (returns-in_default-clause-steps c)
