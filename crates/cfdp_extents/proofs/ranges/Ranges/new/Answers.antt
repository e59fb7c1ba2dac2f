use Rattle.std.proofs.Common.{◌≡◌, ℕ, List, [], ◌∷◌, filter, true, refl, ◌∙◌, sym, ap}
use Rattle.std.proofs.lemmas.List.{nil_from_length}
use Rattle.cfdp_extents.specs.Ranges.{turned, others_of, with_last}
use Rattle.cfdp_extents.proofs.ranges.Ranges.new.Goals as goal
use Rattle.cfdp_extents.proofs.ranges.Ranges.new.Goals.{then-is_empty, else-is_empty}

all_stay : (es : List (ℕ × ℕ)) → filter (λ e. true) es ≡ es
all_stay [] = refl
all_stay (e ∷ es) = ap (λ l. e ∷ l) (all_stay es)

pub returns : goal.returns
returns c =
    let entries : List (ℕ × ℕ) = c.args.ranges.now.entries in
    let same : others_of c.if-is_empty.others ≡ turned entries = elim c.if-is_empty.branch [
      | then-is_empty w ↦ ap others_of w.others-is ∙ sym (ap turned (nil_from_length entries (w.if-is_empty.ensures.0 refl)))
      | else-is_empty w ↦ ap others_of w.others-is ∙ ap turned (w.range.ensures.between tt ∙ all_stay entries)
    ] in
    ap (λ rs. with_last rs c.args.last) same
