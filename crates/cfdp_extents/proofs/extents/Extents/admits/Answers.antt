use Rattle.std.proofs.Common.{◌<◌, ◌∙◌, ℕ, List, sym, arith}
use Rattle.cfdp_extents.specs.Ranges.{turned, with_last, first_from, Untouched}
use Rattle.cfdp_extents.proofs.Counted.{admits-first, touched-among, alone-among, admits-no_more, admits-one_more, admits-nothing, untouched-some, untouched-none}
use Rattle.cfdp_extents.proofs.extents.Extents.admits.Goals as goal
use Rattle.cfdp_extents.proofs.extents.Extents.admits.Goals.{then-start-eq0-via-then-start-eq0, then-start-eq0-via-else-start-eq0+then-start-end, in_default-via-in-Some+else-range-end, in_default-via-in_default}

pub returns-then-start-eq0 : goal.returns-then-start-eq0
returns-then-start-eq0 c = elim c.then-start-eq0.branch [
  | then-start-eq0-via-then-start-eq0 w ↦ admits-first c.args.most c.args.start c.args.end c.args.self.now c.requires w.if-start-eq0.true
  | then-start-eq0-via-else-start-eq0+then-start-end w ↦ admits-nothing c.args.most c.args.start c.args.end c.args.self.now w.if-start-end.true
]

pub returns-in-Some : goal.returns-in-Some
returns-in-Some c =
    let some : c.args.start < c.args.end = grind (arith, c.requires, c.if-start-end.false) in
    let xs : List (ℕ × ℕ) = with_last (turned c.self.inside.ranges.entries) c.self.inside.last in
    admits-no_more c.args.most c.args.start c.args.end xs c.args.self.now some c.self.invariant.0 c.self.view_is
    (touched-among c.args.start c.args.end xs c.in-Some.range some c.self.invariant.0 (sym c.first_at.ensures ∙ c.in-Some.is) c.if-range-end.true)

pub returns-in_default : goal.returns-in_default
returns-in_default c =
    let some : c.args.start < c.args.end = grind (arith, c.requires, c.if-start-end.false) in
    let xs : List (ℕ × ℕ) = with_last (turned c.self.inside.ranges.entries) c.self.inside.last in
    let alone : Untouched c.args.end (first_from c.args.start xs) = elim c.in_default.branch [
      | in_default-via-in-Some+else-range-end w ↦ untouched-some c.args.end _ w.in-Some.range (sym c.first_at.ensures ∙ w.in-Some.is) w.if-range-end.false
      | in_default-via-in_default w ↦ untouched-none c.args.end _ (sym c.first_at.ensures ∙ w.in_default.is)
    ] in
    admits-one_more c.args.most c.args.start c.args.end xs c.args.self.now some c.self.invariant.0 c.self.view_is
    (alone-among c.args.start c.args.end xs some c.if-start-eq0.false c.self.invariant.0 alone)
    c.gap_count.result c.gap_count.ensures
