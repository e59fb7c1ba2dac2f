-- The files of a map, in the order in which it lists them.
use Rattle.std.proofs.Common.{◌≡◌, ℕ, suc, List, [], ◌∷◌, map, length, Bor, Option, Some, None, Bool, true, false, ◌&&◌, T, refl, sym, ap, subst, ◌∙◌}
use Rattle.std.specs.Prelude.{Vec, slice_get}
use Rattle.std.specs.Option.{option_map}
use Rattle.std.specs.Ordering.{nat_cmp, is_lt}
use Rattle.std.specs.declared.cmp.Ordering.{Ordering}
use Rattle.std.specs.declared.cmp.Ordering.TheVariants.{Less}
use Rattle.std.specs.Cmp.Lexicographic.{slice_cmp, nat_list_cmp_total}
use Rattle.std.specs.List.{AllByRecursion}
use Rattle.std.specs.List.Sorted.{IsStrictlySortedBy}
use Rattle.std.specs.FinMap.{entries, from_entries, from_sorted, same_map, slice_cmp-IsAntisymmetric, nat_cmp-IsAntisymmetric, get-from_entries, get-from_sorted, entries-from_sorted}
use Rattle.std.specs.FinMap.Entries.{below_all, is_sorted}
use Rattle.std.proofs.lemmas.Option.{slice_get-map}

abbrev R : List ℕ → List ℕ → Ordering
R = slice_cmp nat_cmp

both : (a b : Bool) → T a → T b → T (a && b)
both true b x y = y
both false b x y = x

abbrev by_items : {Y : Type 0} → Vec ℕ Y → Vec ℕ Y → Ordering
by_items a b = slice_cmp nat_cmp a.items b.items

module _ {Y Z : Type 0} where
  abbrev pub show : Vec ℕ Y × Vec ℕ Z → List ℕ × List ℕ
  show e = (e.0.items, e.1.items)

  length_shown : (es : List (Vec ℕ Y × Vec ℕ Z)) → length (map show es) ≡ length es
  length_shown [] = refl
  length_shown (e ∷ es) = ap suc (length_shown es)

  below_shown : (x : Vec ℕ Y) (es : List (Vec ℕ Y × Vec ℕ Z)) → AllByRecursion (λ y. by_items x y ≡ Less) (map (λ e. e.0) es) → T (below_all R x.items (map show es))
  below_shown x [] h = tt
  below_shown x (e ∷ es) h = both _ _ (subst (λ r. T (is_lt r)) (sym h.0) tt) (below_shown x es h.1)

  sorted_shown : (es : List (Vec ℕ Y × Vec ℕ Z)) → IsStrictlySortedBy by_items (map (λ e. e.0) es) → T (is_sorted R (map show es))
  unfolding IsStrictlySortedBy
  sorted_shown [] h = tt
  sorted_shown (e ∷ es) h = both _ _ (below_shown e.0 es h.0) (sorted_shown es h.1)

  pub entries_listed : (es : List (Vec ℕ Y × Vec ℕ Z)) → IsStrictlySortedBy by_items (map (λ e. e.0) es) → entries (from_entries {R = R} (map show es)) ≡ map show es
  entries_listed es h =
      let sorted : T (is_sorted R (map show es)) = sorted_shown es h in
      let same = same_map nat_list_cmp_total (slice_cmp-IsAntisymmetric nat_cmp-IsAntisymmetric) (from_entries {R = R} (map show es)) (from_sorted {R = R} (map show es))
      (λ q. get-from_entries nat_list_cmp_total (map show es) q ∙ sym (get-from_sorted R (map show es) q sorted)) in
      ap entries same ∙ entries-from_sorted R (map show es) sorted

  -- the file at an index
  pub file_listed : (es : List (Vec ℕ Y × Vec ℕ Z)) (n : ℕ) → IsStrictlySortedBy by_items (map (λ e. e.0) es) → option_map show (slice_get es n)
      ≡ slice_get (entries (from_entries {R = R} (map show es))) n
  file_listed es n h = sym (slice_get-map show es n) ∙ ap (λ l. slice_get l n) (sym (entries_listed es h))

  -- the same, of borrows of both
  pub file_lent : (r : Option (Bor (Vec ℕ Y) × Bor (Vec ℕ Z))) (es : List (Vec ℕ Y × Vec ℕ Z)) (n : ℕ) → IsStrictlySortedBy by_items (map (λ e. e.0) es) → option_map (λ e. (e.0.now, e.1.now)) r
      ≡ slice_get es n
      → option_map (λ e. (e.0.now.items, e.1.now.items)) r ≡ slice_get (entries (from_entries {R = R} (map show es))) n
  file_lent None es n h at = ap (option_map show) at ∙ file_listed es n h
  file_lent (Some e) es n h at = ap (option_map show) at ∙ file_listed es n h

  -- how many they are
  pub count_listed : (es : List (Vec ℕ Y × Vec ℕ Z)) → IsStrictlySortedBy by_items (map (λ e. e.0) es) → length es ≡ length (entries (from_entries {R = R} (map show es)))
  count_listed es h = sym (length_shown es) ∙ ap length (sym (entries_listed es h))
