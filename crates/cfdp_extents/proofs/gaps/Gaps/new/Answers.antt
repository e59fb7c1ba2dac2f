use Rattle.std.proofs.Common.{◌≡◌, ℕ, List, refl, ◌∙◌, sym, ap}
use Rattle.std.proofs.lemmas.List.{nil_from_length}
use Rattle.cfdp_extents.specs.Ranges.{turned, others_of, behind, with_last, gaps_between}
use Rattle.cfdp_extents.proofs.Kept.{behind_is}
use Rattle.cfdp_extents.proofs.Last.{apart-others, behind-last}
use Rattle.cfdp_extents.proofs.gaps.Gaps.new.Goals as goal
use Rattle.cfdp_extents.proofs.gaps.Gaps.new.Goals.{then-is_empty, else-is_empty}

pub returns : goal.returns
returns c =
    let entries : List (ℕ × ℕ) = c.args.ranges.now.entries in
    let same : others_of c.if-is_empty.others ≡ behind c.args.start (turned entries) = elim c.if-is_empty.branch [
      | then-is_empty w ↦ ap others_of w.others-is ∙ sym (ap (λ es. behind c.args.start (turned es)) (nil_from_length entries (w.if-is_empty.ensures.0 refl)))
      | else-is_empty w ↦ ap others_of w.others-is ∙ ap turned (w.range.ensures.between tt)
          ∙ behind_is c.args.start entries (apart-others (turned entries) c.args.last c.requires)
    ] in
    ap (λ rs. gaps_between c.args.start c.args.limit (with_last rs c.ending_behind.result)) same
    ∙ ap (gaps_between c.args.start c.args.limit) (behind-last c.args.start (turned entries) c.args.last c.ending_behind.result c.requires c.ending_behind.ensures)
