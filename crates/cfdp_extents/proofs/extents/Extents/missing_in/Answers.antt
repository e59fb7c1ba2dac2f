use Rattle.std.proofs.Common.{◌∙◌, ℕ, List, sym, subst}
use Rattle.std.specs.List.{All}
use Rattle.cfdp_extents.specs.Offsets.{AreRangesOf, missing_from, union_of, LiesIn}
use Rattle.cfdp_extents.specs.Ranges.{turned, with_last, behind, gaps_between}
use Rattle.cfdp_extents.proofs.Missing.{only-ranges, gaps-inside_range, gaps-before_range, gaps-behind_all}
use Rattle.cfdp_extents.proofs.CallerLemmas.{gaps-only, gaps-inside}
use Rattle.cfdp_extents.proofs.extents.Extents.missing_in.Goals as goal
use Rattle.cfdp_extents.proofs.extents.Extents.missing_in.Goals.{in-Some, in_default-2, in_default}

pub returns-clause-gaps : goal.returns-clause-gaps
returns-clause-gaps c =
    let xs : List (ℕ × ℕ) = with_last (turned c.self.inside.ranges.entries) c.self.inside.last in
    let from : ℕ = c.match-first_past.from in
    let gaps : AreRangesOf (missing_from (union_of xs) c.args.start c.args.limit) (gaps_between from c.args.limit (behind from xs)) = elim c.match-first_past.branch [
      | in-Some w ↦ subst (λ (f : ℕ). AreRangesOf (missing_from (union_of xs) c.args.start c.args.limit) (gaps_between f c.args.limit (behind f xs))) (sym w.from-is)
          (gaps-inside_range xs c.args.start c.args.limit w.in-Some.range c.self.invariant.0 (sym c.first_past.ensures ∙ w.in-Some.is) w.if-range-start.true)
      | in_default-2 w ↦ subst (λ (f : ℕ). AreRangesOf (missing_from (union_of xs) c.args.start c.args.limit) (gaps_between f c.args.limit (behind f xs))) (sym w.from-is)
          (gaps-before_range xs c.args.start c.args.limit w.in-Some.range c.self.invariant.0 (sym c.first_past.ensures ∙ w.in-Some.is) w.if-range-start.false)
      | in_default w ↦ subst (λ (f : ℕ). AreRangesOf (missing_from (union_of xs) c.args.start c.args.limit) (gaps_between f c.args.limit (behind f xs))) (sym w.from-is)
          (gaps-behind_all xs c.args.start c.args.limit c.self.invariant.0 (sym c.first_past.ensures ∙ w.in_default.is))
    ] in
    subst (AreRangesOf (missing_from c.args.self.now c.args.start c.args.limit)) (sym c.new.ensures)
    (subst (λ held. AreRangesOf (missing_from held c.args.start c.args.limit) (gaps_between from c.args.limit (behind from xs))) c.self.view_is gaps)

pub returns-clause-only : goal.returns-clause-only
returns-clause-only c = λ gaps h. only-ranges _ gaps _ h (returns-clause-gaps c)

pub returns-clause-is : goal.returns-clause-is
returns-clause-is c = gaps-only _ _ _ _ (returns-clause-gaps c)

pub returns-clause-inside : goal.returns-clause-inside
returns-clause-inside c = subst (All (LiesIn c.args.start c.args.limit)) (sym (returns-clause-is c)) (gaps-inside c.args.self.now c.args.start c.args.limit)
