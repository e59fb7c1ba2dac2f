-- Words taken two by two.
use Rattle.std.proofs.Common.{◌≡◌, ◌<◌, ◌≤◌, ◌-◌, List, [], ◌∷◌, length, get_or, take, drop, map, Some, None, Option, Result, Ok, Err, IsErr, refl, String, Global, ◌∙◌, ap, sym, arith}
use Rattle.std.specs.Prelude.{option_and_then}
use Rattle.std.specs.Result.{result_ok}
use Rattle.std.proofs.lemmas.List.{take_all}
use Rattle.cfdp_setup.specs.Sets.{set_all, set_pair}
use Rattle.cfdp_setup.specs.declared.station_setup.StationSetup.{StationSetup}

-- fewer than two words set nothing
pub few_set_nothing : (words : List (String Global)) (s : StationSetup) → length words < 2
    → set_all (map (λ (word : String Global). word.bytes.items) words) s ≡ Some s
unfolding set_all
few_set_nothing [] s few = refl
few_set_nothing (key ∷ []) s few = refl
few_set_nothing (key ∷ value ∷ rest) s few = absurd (lemma few) where
  lemma : length (key ∷ value ∷ rest) < 2 → ⊥
  lemma = omega arith

-- a pair sets this of the settings before the others
pub pair_first : (words : List (String Global)) (s : StationSetup) (key value : String Global) (found : Option StationSetup)
    → 2 ≤ length words → key ≡ get_or words 0 key → value ≡ get_or words 1 value → set_pair key.bytes.items value.bytes.items s ≡ found
    → set_all (map (λ (word : String Global). word.bytes.items) words) s
    ≡ option_and_then (set_all (map (λ (word : String Global). word.bytes.items) (take (length words - 2) (drop 2 words)))) found
unfolding set_all
pair_first (first ∷ second ∷ rest) s key value found more is_first is_second sets =
    let set : List (String Global) → String Global → String Global → Option StationSetup = λ others k v.
    option_and_then (set_all (map (λ (word : String Global). word.bytes.items) others)) (set_pair k.bytes.items v.bytes.items s) in
    let others : List (String Global) = take (length (first ∷ second ∷ rest) - 2) (drop 2 (first ∷ second ∷ rest)) in
    let behind : others ≡ rest = take_all _ rest (omega arith) in
    ap (λ k. set rest k second) (sym is_first) ∙ ap (λ v. set rest key v) (sym is_second) ∙ ap (λ (o : List (String Global)). set o key value) (sym behind)
    ∙ ap (λ (o : Option StationSetup). option_and_then (set_all (map (λ (word : String Global). word.bytes.items) others)) o) sets
pair_first [] s key value found more is_first is_second sets = absurd (lemma more) where
  lemma : 2 ≤ length {A = String Global} [] → ⊥
  lemma = omega arith
pair_first (first ∷ []) s key value found more is_first is_second sets = absurd (lemma more) where
  lemma : 2 ≤ length (first ∷ []) → ⊥
  lemma = omega arith

-- an error has no value
pub none_of : {A E : Type 0} (answer : Result A E) → IsErr answer → None ≡ result_ok answer
none_of (Ok value) wrong = cc
none_of (Err error) is = refl
