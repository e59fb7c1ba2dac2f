-- The lines of a report, one part after another, and the files of a map in the order that it lists them.
use Rattle.std.proofs.Common.{◌≡◌, ℕ, List, [], ◌∷◌, ◌++◌, map, Option, Bool, true, false, ◌&&◌, T, sym, ap, subst, ◌∙◌, append_assoc}
use Rattle.std.specs.Prelude.{Vec}
use Rattle.std.specs.Ordering.{nat_cmp, is_lt}
use Rattle.std.specs.declared.cmp.Ordering.{Ordering}
use Rattle.std.specs.declared.cmp.Ordering.TheVariants.{Less}
use Rattle.std.specs.Cmp.Lexicographic.{slice_cmp, nat_list_cmp_total}
use Rattle.std.specs.List.{AllByRecursion}
use Rattle.std.specs.List.Sorted.{IsStrictlySortedBy}
use Rattle.std.specs.FinMap.{entries, from_entries, from_sorted, same_map, slice_cmp-IsAntisymmetric, nat_cmp-IsAntisymmetric, get-from_entries, get-from_sorted, entries-from_sorted}
use Rattle.std.specs.FinMap.Entries.{below_all, is_sorted}
use Rattle.std.specs.Io.KnownBytes.{Appends}
use Rattle.std.proofs.KnownBytes.{Appends-trans}

-- ---- what is written so far, and what is left to write
-- With this text after it, what was written so far is all.
pub record IsPart (old now : Option (List ℕ)) (left all : List ℕ) : Type 0 where
  pub front : List ℕ
  pub written : Appends old now front
  pub whole : front ++ left ≡ all

-- the next piece is written
pub one_more : (old now new : Option (List ℕ)) (left piece rest all : List ℕ) → left ≡ piece ++ rest
    → IsPart old now left all → Appends now new piece → IsPart old new rest all
one_more old now new left piece rest all cut part written = record {
  front = part.front ++ piece;
  written = Appends-trans old now new part.front piece part.written written;
  whole = append_assoc part.front piece rest ∙ ap (λ l. part.front ++ l) (sym cut) ∙ part.whole;
}

-- ---- the files of a map
abbrev R : List ℕ → List ℕ → Ordering
R = slice_cmp nat_cmp

both : (a b : Bool) → T a → T b → T (a && b)
both true b x y = y
both false b x y = x

abbrev by_items : {Y : Type 0} → Vec ℕ Y → Vec ℕ Y → Ordering
by_items a b = slice_cmp nat_cmp a.items b.items

module _ {Y Z : Type 0} where
  abbrev show : Vec ℕ Y × Vec ℕ Z → List ℕ × List ℕ
  show e = (e.0.items, e.1.items)

  below_shown : (x : Vec ℕ Y) (es : List (Vec ℕ Y × Vec ℕ Z)) → AllByRecursion (λ y. by_items x y ≡ Less) (map (λ e. e.0) es) → T (below_all R x.items (map show es))
  below_shown x [] h = tt
  below_shown x (e ∷ es) h = both _ _ (subst (λ r. T (is_lt r)) (sym h.0) tt) (below_shown x es h.1)

  sorted_shown : (es : List (Vec ℕ Y × Vec ℕ Z)) → IsStrictlySortedBy by_items (map (λ e. e.0) es) → T (is_sorted R (map show es))
  unfolding IsStrictlySortedBy
  sorted_shown [] h = tt
  sorted_shown (e ∷ es) h = both _ _ (below_shown e.0 es h.0) (sorted_shown es h.1)

  -- a map lists its files in their order
  pub entries_listed : (es : List (Vec ℕ Y × Vec ℕ Z)) → IsStrictlySortedBy by_items (map (λ e. e.0) es) → entries (from_entries {R = R} (map show es)) ≡ map show es
  entries_listed es h =
      let sorted : T (is_sorted R (map show es)) = sorted_shown es h in
      let same = same_map nat_list_cmp_total (slice_cmp-IsAntisymmetric nat_cmp-IsAntisymmetric) (from_entries {R = R} (map show es)) (from_sorted {R = R} (map show es))
      (λ q. get-from_entries nat_list_cmp_total (map show es) q ∙ sym (get-from_sorted R (map show es) q sorted)) in
      ap entries same ∙ entries-from_sorted R (map show es) sorted
