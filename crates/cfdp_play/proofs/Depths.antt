-- How deep an array of values nests.
use Rattle.std.proofs.Common.{◌≤◌, ℕ, List, [], ◌∷◌, map, arith}
use Rattle.std.specs.List.{All}
use Rattle.std.proofs.lemmas.List.Elements.{All-head, All-tail}
use Rattle.serde_json.specs.Data.{depth, items_depth}
use Rattle.serde_json.specs.View.{items_of, view}
use Rattle.serde_json.specs.declared.value.Value.{Value}

pub items-shallow : (n : ℕ) (all : List Value) → All (λ it. depth (view it) ≤ n) all → items_depth (items_of (map view all)) ≤ n
items-shallow n [] shallow = omega arith
items-shallow n (it ∷ rest) shallow =
    let head = All-head (λ v. depth (view v) ≤ n) it rest shallow in
    let tail = items-shallow n rest (All-tail (λ v. depth (view v) ≤ n) it rest shallow) in
    omega (arith, head, tail)
