-- Flags of places as bits of words.
use Rattle.std.proofs.Common.{◌≡◌, ℕ, zero, suc, ◌+◌, ◌*◌, ◌/◌, ◌%◌, ◌<◌, ◌≤◌, ◌==◌, ◌++◌, ◌∷◌, [], take, drop, inl, inr, Bool, true, false, cond, not, List, length, get_or, position, Some, None, refl, sym, ap, subst, ◌∙◌, arith, ⊎_elim}
use Rattle.std.proofs.lemmas.Bool.Decides.{nat_tests}
use Rattle.std.specs.Prelude.{slice_set}
use Rattle.std.specs.Int.{bit_at}
use Rattle.std.specs.Option.{option_map}
use Rattle.std.proofs.Math.ListN.{replicate}
use Rattle.std.proofs.lemmas.Bool.{cases_lt, cases_order, cases_eq}
use Rattle.std.proofs.lemmas.List.{get_or_past, take-append-le, take_all, get_or-replicate, get_or-set_same, get_or-set_other, length-set, length-replicate, ext_get_or, set_at}
use Rattle.std.proofs.lemmas.List.FromFn.{length-map-range_with_len, get_or-map-range_with_len, map-range_with_len_more}
use Rattle.std.proofs.lemmas.Nat.Bits.{bit_at-zero}
use Rattle.cfdp_entity.specs.Ready.{is_set, flags_in, IsIndexed}
use Rattle.cfdp_entity.proofs.Firsts.{found-from, none-from}

pub length-flags : (n : ℕ) (words : List ℕ) → length (flags_in n words) ≡ n
unfolding flags_in
length-flags n words = length-map-range_with_len (is_set words) 0 n

-- an index of the flags, by their view
pub low-place : (n : ℕ) (words : List ℕ) (flags : List Bool) (place : ℕ) → flags_in n words ≡ flags → place < length flags → place < n
low-place n words flags place is low = let same = ap length is in let len = length-flags n words in omega arith

-- ---- one index

pub place-bit : (words : List ℕ) (k w b : ℕ) → k / 64 ≡ w → k % 64 ≡ b → is_set words k ≡ (bit_at (get_or words w 0) b == 1)
place-bit words k w b row column = λ i. bit_at (get_or words (row i) 0) (column i) == 1

pub clear-bit : (words : List ℕ) (k w : ℕ) → k / 64 ≡ w → bit_at (get_or words w 0) (k % 64) ≡ 0 → is_set words k ≡ false
clear-bit words k w row none = place-bit words k w (k % 64) row refl ∙ ap (λ b. b == 1) none

pub clear-word : (words : List ℕ) (k w : ℕ) → k / 64 ≡ w → get_or words w 0 ≡ 0 → is_set words k ≡ false
clear-word words k w row none = clear-bit words k w row (ap (λ x. bit_at x (k % 64)) none ∙ bit_at-zero (k % 64))

abbrev zeros : List ℕ
zeros = replicate 64 0

zero-word : (w : ℕ) → get_or zeros w 0 ≡ 0
zero-word w = ⊎_elim (λ l. get_or-replicate 64 w 0 0 l) (λ l. get_or_past zeros w 0 l) (cases_lt w 64)

pub first-indexed : (words : List ℕ) → words ≡ replicate 64 0 → IsIndexed 0 words 0
first-indexed words is =
    let empty : IsIndexed 0 zeros 0 = record {
      few = omega arith;
      whole = length-replicate {A = ℕ} 64 0;
      rest = λ k _. clear-word zeros k (k / 64) refl (zero-word (k / 64));
      marked = λ w l set. absurd (let none = bit_at-zero w in cc);
      skipped = λ w l _. zero-word w;
    } in
    subst (λ ws. IsIndexed 0 ws 0) (sym is) empty

pub no-flags : (words : List ℕ) → flags_in 0 words ≡ []
unfolding flags_in
no-flags words = refl

module _ (n : ℕ) (words : List ℕ) (some : ℕ) (is : IsIndexed n words some) where
  pub flag-is : (k : ℕ) → get_or (flags_in n words) k false ≡ is_set words k
  unfolding flags_in
  flag-is k = ⊎_elim
      (λ l. get_or-map-range_with_len (is_set words) 0 n k k false l (omega arith))
      (λ l. get_or_past (flags_in n words) k false (let len = length-flags n words in omega arith) ∙ sym (is.rest k l))
      (cases_lt k n)

  -- ---- one index more

  pub more-indexed : n < 4096 → IsIndexed (n + 1) words some
  more-indexed room = record { few = omega arith; whole = is.whole; rest = λ k l. is.rest k (omega arith); marked = is.marked; skipped = is.skipped }

  pub more-flags : flags_in (n + 1) words ≡ flags_in n words ++ false ∷ []
  unfolding flags_in
  more-flags = map-range_with_len_more (is_set words) 0 n n (omega arith) ∙ ap (λ b. flags_in n words ++ b ∷ []) (is.rest n (omega arith))

  pub pushed : (due : Bool) → slice_set (flags_in (n + 1) words) n due ≡ flags_in n words ++ due ∷ []
  pushed due = ap (λ flags. slice_set flags n due) more-flags ∙ set_at (flags_in n words) false [] due n (length-flags n words)

  -- ---- the first index that is set

  module _ (from : ℕ) where
    place-found : (place : ℕ) → from ≤ place → is_set words place ≡ true → ((k : ℕ) → from ≤ k → k < place → is_set words k ≡ false) → (place < n)
        × (Some place ≡ option_map (λ i. from + i) (position (λ b. b) (drop from (flags_in n words))))
    place-found place on here before =
        let len = length-flags n words in
        let low : place < n = ⊎_elim (λ l. l) (λ l. absurd (let none = is.rest place l in cc)) (cases_lt place n) in
        (low, found-from (flags_in n words) from place on (λ k l m. flag-is k ∙ before k l m) (omega arith) (flag-is place ∙ here))

    pub past-none : n ≤ from → None ≡ option_map (λ i. from + i) (position (λ b. b) (drop from (flags_in n words)))
    past-none past =
        let len = length-flags n words in
        none-from (flags_in n words) from from (omega arith) (λ k l m. absurd (omega arith)) (omega arith)

    place-none : ((k : ℕ) → from ≤ k → k < n → is_set words k ≡ false) → from ≤ n → None ≡ option_map (λ i. from + i) (position (λ b. b) (drop from (flags_in n words)))
    place-none before low =
        let len = length-flags n words in
        none-from (flags_in n words) from n low (λ k l m. flag-is k ∙ before k l m) (omega arith)

    pub unmarked-none : some ≡ 0 → None ≡ option_map (λ i. from + i) (position (λ b. b) (drop from (flags_in n words)))
    unmarked-none none = ⊎_elim
        (λ low. place-none (λ k on l. let few = is.few in clear-word words k (k / 64) refl (is.skipped (k / 64) (omega arith) (ap (λ s. bit_at s (k / 64)) none ∙ bit_at-zero (k / 64)))) (omega arith))
        past-none
        (cases_lt from n)

    module _ (low : from < n) (word_none : (i : ℕ) → from % 64 ≤ i → i < 64 → bit_at (get_or words (from / 64) 0) i ≡ 0) where
      -- places of the word of the first one
      own-clear : (k : ℕ) → from ≤ k → k / 64 ≡ from / 64 → is_set words k ≡ false
      own-clear k on row = clear-bit words k (from / 64) row (word_none (k % 64) (omega arith) (omega arith))

      -- places of a word that isn't marked
      far-clear : (k : ℕ) → k < 4096 → bit_at some (k / 64) ≡ 0 → is_set words k ≡ false
      far-clear k few none = clear-word words k (k / 64) refl (is.skipped (k / 64) (omega arith) none)

      pub behind-none : ((w : ℕ) → from / 64 + 1 ≤ w → w < 64 → bit_at some w ≡ 0) → None ≡ option_map (λ i. from + i) (position (λ b. b) (drop from (flags_in n words)))
      behind-none none = place-none
          (λ k on l. ⊎_elim (λ row. own-clear k on (sym row)) (⊎_elim (λ after. let few = is.few in far-clear k (omega arith) (none (k / 64) (omega arith) (omega arith)))
          (λ before. absurd (omega arith))) (cases_order (from / 64) (k / 64)))
          (omega arith)

      pub behind-found : (w b : ℕ) → from / 64 + 1 ≤ w → w < 64 → b < 64 → bit_at (get_or words w 0) b ≡ 1 → ((v : ℕ) → from / 64 + 1 ≤ v → v < w → bit_at some v ≡ 0) →
          ((i : ℕ) → i < b → bit_at (get_or words w 0) i ≡ 0) → (64 * w + b < n) × (Some (64 * w + b) ≡ option_map (λ i. from + i) (position (λ b. b) (drop from (flags_in n words))))
      behind-found w b behind there short here between before =
          let within : (k : ℕ) → k < 64 * w + b → from ≤ k → from / 64 < k / 64 → is_set words k ≡ false = λ k l on after.
          ⊎_elim (λ row. clear-bit words k w row (before (k % 64) (omega arith)))
          (⊎_elim (λ first. far-clear k (omega arith) (between (k / 64) (omega arith) (omega arith))) (λ past. absurd (omega arith))) (cases_order (k / 64) w) in
          place-found (64 * w + b) (omega arith) (place-bit words (64 * w + b) w b (omega arith) (omega arith) ∙ ap (λ x. x == 1) here)
          (λ k on l. ⊎_elim (λ row. own-clear k on (sym row)) (⊎_elim (λ after. within k l on after) (λ before. absurd (omega arith))) (cases_order (from / 64) (k / 64)))

    pub own-found : (b : ℕ) → from % 64 ≤ b → b < 64 → bit_at (get_or words (from / 64) 0) b ≡ 1 → ((i : ℕ) → from % 64 ≤ i → i < b → bit_at (get_or words (from / 64) 0) i ≡ 0) →
        (64 * (from / 64) + b < n) × (Some (64 * (from / 64) + b) ≡ option_map (λ i. from + i) (position (λ b. b) (drop from (flags_in n words))))
    own-found b on short here before =
        place-found (64 * (from / 64) + b) (omega arith) (place-bit words (64 * (from / 64) + b) (from / 64) b (omega arith) (omega arith) ∙ ap (λ x. x == 1) here)
        (λ k low l. clear-bit words k (from / 64) (omega arith) (before (k % 64) (omega arith) (omega arith)))

-- ---- one index set or cleared

some-bit : (x m : ℕ) → m ≡ cond (not (x == 0)) 1 0 → (m ≡ 1 → 0 < x) × (m ≡ 0 → x ≡ 0)
some-bit zero m is = (λ one. absurd (omega arith), λ _. refl)
some-bit (suc x) m is = (λ _. omega arith, λ none. grind (arith, nat_tests))

module _ (n : ℕ) (words : List ℕ) (some : ℕ) (is : IsIndexed n words some) (place : ℕ) (due : Bool) (x : ℕ) (low : place < n)
    (here : bit_at x (place % 64) ≡ cond due 1 0) (others : (i : ℕ) → i < 64 → (i ≡ place % 64 → ⊥) → bit_at x i ≡ bit_at (get_or words (place / 64) 0) i) where
  abbrev after : List ℕ
  after = slice_set words (place / 64) x

  own-word : get_or after (place / 64) 0 ≡ x
  own-word = let few = is.few in let whole = is.whole in get_or-set_same words (place / 64) x 0 (omega arith)

  pub place-set : is_set after place ≡ due
  place-set =
      place-bit after place (place / 64) (place % 64) refl refl ∙ ap (λ y. bit_at y (place % 64) == 1) own-word ∙ ap (λ y. y == 1) here
      ∙ elim due as (λ d. (cond d 1 0 == 1) ≡ d) [ true ↦ refl | false ↦ refl ]

  pub other-set : (k : ℕ) → (k ≡ place → ⊥) → is_set after k ≡ is_set words k
  other-set k apart = ⊎_elim
      (λ row. place-bit after k (place / 64) (k % 64) row refl ∙ ap (λ y. bit_at y (k % 64) == 1) own-word
      ∙ ap (λ y. y == 1) (others (k % 64) (omega arith) (λ same. apart (omega arith))) ∙ sym (place-bit words k (place / 64) (k % 64) row refl))
      (λ row. ap (λ y. bit_at y (k % 64) == 1) (get_or-set_other words (place / 64) (k / 64) x 0 row))
      (cases_eq (k / 64) (place / 64))

  module _ (marks : ℕ) (mark_here : bit_at marks (place / 64) ≡ cond (not (x == 0)) 1 0) (mark_others : (w : ℕ) → w < 64 → (w ≡ place / 64 → ⊥) → bit_at marks w ≡ bit_at some w) where
    word-at : (w : ℕ) → w ≡ place / 64 → get_or after w 0 ≡ x
    word-at w same = ap (λ v. get_or after v 0) same ∙ own-word

    mark-at : (w : ℕ) → w ≡ place / 64 → bit_at marks w ≡ cond (not (x == 0)) 1 0
    mark-at w same = ap (bit_at marks) same ∙ mark_here

    word-other : (w : ℕ) → (w ≡ place / 64 → ⊥) → get_or after w 0 ≡ get_or words w 0
    word-other w apart = get_or-set_other words (place / 64) w x 0 apart

    pub set-indexed : IsIndexed n after marks
    set-indexed = record {
      few = is.few;
      whole = length-set words (place / 64) x ∙ is.whole;
      rest = λ k l. other-set k (λ same. omega arith) ∙ is.rest k l;
      marked = λ w l set. ⊎_elim
          (λ same. subst (λ y. 0 < y) (sym (word-at w same)) ((some-bit x (bit_at marks w) (mark-at w same)).0 set))
          (λ apart. subst (λ y. 0 < y) (sym (word-other w apart)) (is.marked w l (sym (mark_others w l apart) ∙ set)))
          (cases_eq w (place / 64));
      skipped = λ w l clear. ⊎_elim
          (λ same. word-at w same ∙ (some-bit x (bit_at marks w) (mark-at w same)).1 clear)
          (λ apart. word-other w apart ∙ is.skipped w l (sym (mark_others w l apart) ∙ clear))
          (cases_eq w (place / 64));
    }

    pub set-flags : flags_in n after ≡ slice_set (flags_in n words) place due
    set-flags =
        let len = length-flags n words in
        let len_after = length-flags n after in
        let whole : length (flags_in n after) ≡ length (slice_set (flags_in n words) place due) = len_after ∙ sym (length-set (flags_in n words) place due ∙ len) in
        ext_get_or false (flags_in n after) (slice_set (flags_in n words) place due) whole (λ k l. ⊎_elim
        (λ same. ap (λ i. get_or (flags_in n after) i false) same ∙ flag-is n after marks set-indexed place ∙ place-set
        ∙ sym (ap (λ i. get_or (slice_set (flags_in n words) place due) i false) same ∙ get_or-set_same (flags_in n words) place due false (omega arith)))
        (λ apart. flag-is n after marks set-indexed k ∙ other-set k apart ∙ sym (get_or-set_other (flags_in n words) place k due false apart ∙ flag-is n words some is k))
        (cases_eq k place))

-- ---- one index less
pub shorter-flags : (n : ℕ) (words : List ℕ) → flags_in (n + 1) words ≡ flags_in n words ++ is_set words n ∷ []
unfolding flags_in
shorter-flags n words = map-range_with_len_more (is_set words) 0 n n (omega arith)

pub taken-flags : (n m : ℕ) (words : List ℕ) → n ≡ m + 1 → flags_in m words ≡ take m (flags_in n words)
taken-flags n m words is =
    let len = length-flags m words in
    sym (ap (λ k. take m (flags_in k words)) is ∙ ap (take m) (shorter-flags m words) ∙ take-append-le m (flags_in m words) (is_set words m ∷ []) (omega (arith, len)) ∙ take_all m (flags_in m words) (omega (arith, len)))

pub shorter-indexed : (n m : ℕ) (words : List ℕ) (some : ℕ) → n ≡ m + 1 → IsIndexed n words some → is_set words m ≡ false → IsIndexed m words some
shorter-indexed n m words some is indexed clear =
    let few = indexed.few in
    record {
      few = omega (arith, few, is);
      whole = indexed.whole;
      rest = λ k l. elim (cases_lt m k) [
        | inl past ↦ indexed.rest k (omega (arith, past, is))
        | inr at ↦ ap (is_set words) (same k m l at) ∙ clear
      ];
      marked = indexed.marked;
      skipped = indexed.skipped;
    }
  where
    same : (k m : ℕ) → m ≤ k → k ≤ m → k ≡ m
    same k m l at = omega (arith, l, at)
