-- Pairs of offsets, one after the other: in fields of w octets, and of a large file or of one that
-- isn't.
use Rattle.std.proofs.Common.{◌≡◌, ℕ, Bool, true, false, zero, suc, add-one, ◌+◌, ◌*◌, ◌/◌, ◌%◌, ◌<◌, ◌≤◌, List, [], ◌∷◌, ◌++◌, length, take, drop, slice_index_or, refl, sym, ap, ◌∙◌, arith, length-drop, length-append, append_assoc}
use Rattle.std.proofs.lemmas.List.{take-append-drop, drop-drop, nil_from_length, drop_more}
use Rattle.std.proofs.lemmas.List.Concat.{flat_map-cons}
use Rattle.std.specs.List.{flat_map, AllByRecursion}
use Rattle.cfd_bits.specs.Field.{field, octets}
use Rattle.cfd_bits.proofs.BitFields.{field-below_octets}
use Rattle.cfd_bits.proofs.Fields.{IsBytes, IsBytes-drop, octets-field, length-octets}
use Rattle.cfdp_directives.specs.Pdu.Codes.{file_size_octets}
use Rattle.cfdp_directives.specs.Pdu.Pair.{pair, pair_octets, pairs_of, pairs_read, ArePairs, IsPair}
use Rattle.cfdp_directives.proofs.Options.{field_behind}

-- the octets of one more pair
more_octets : (w n : ℕ) → 2 * w * suc n ≡ 2 * w + 2 * w * n
more_octets w n = omega arith

pub pairs_spelled_at : (w n : ℕ) (octets : List ℕ) → length octets ≡ 2 * w * n → ArePairs w (pairs_of w n octets) octets
unfolding pairs_of
pairs_spelled_at w zero octets h = omega (arith, h)
pairs_spelled_at w (suc n) octets h = (omega (arith, h), refl, refl, pairs_spelled_at w n (drop (2 * w) octets) (omega (arith, h, length-drop (2 * w) octets)))

pub pairs_spelled : (large : Bool) (octets : List ℕ) → length octets % pair_octets large ≡ 0 → ArePairs (file_size_octets large) (pairs_read large octets) octets
pairs_spelled true octets h = pairs_spelled_at 8 (length octets / 16) octets (omega arith)
pairs_spelled false octets h = pairs_spelled_at 4 (length octets / 8) octets (omega arith)

pub same_pairs : (w : ℕ) (ps qs : List (ℕ × ℕ)) (octets : List ℕ) → 1 ≤ w → ArePairs w ps octets → ArePairs w qs octets → ps ≡ qs
same_pairs w [] [] o some h k = refl
same_pairs w [] (q ∷ qs) o some h k = absurd (omega (arith, some, h, k.0))
same_pairs w (p ∷ ps) [] o some h k = absurd (omega (arith, some, h.0, k))
same_pairs w (p ∷ ps) (q ∷ qs) o some h k =
    let a : p.0 ≡ q.0 = sym h.1 ∙ k.1 in
    let b : p.1 ≡ q.1 = sym h.2 ∙ k.2 in
    let c = same_pairs w ps qs (drop (2 * w) o) some h.3 k.3 in
    let first : ℕ → ℕ → ℕ × ℕ = λ x y. (x, y) in
    let d : first p.0 p.1 ≡ first q.0 q.1 = cc in
    let e : p ≡ q = d in
    cc

pub pairs_even : (w : ℕ) (ps : List (ℕ × ℕ)) (octets : List ℕ) → ArePairs w ps octets → length octets ≡ 2 * w * length ps
pairs_even w [] o h = omega (arith, h)
pairs_even w (p ∷ ps) o h = let r = pairs_even w ps (drop (2 * w) o) h.3 in omega (arith, h.0, r, length-drop (2 * w) o, more_octets w (length ps))

pairs_text_at : (w n : ℕ) (o : List ℕ) → IsBytes o → length o ≡ 2 * w * n → o ≡ flat_map (pair w) (pairs_of w n o)
unfolding pairs_of
pairs_text_at w zero o b h = nil_from_length o (omega (arith, h))
pairs_text_at w (suc n) o b h =
    let long : 2 * w ≤ length o = omega (arith, h, more_octets w n) in
    let first : octets w (field o 0 (8 * w)) ≡ take w o = octets-field o 0 0 w b refl (omega (arith, long)) in
    let second : octets w (field o (8 * w) (8 * w)) ≡ take w (drop w o) = octets-field o (8 * w) w w b refl (omega (arith, long)) in
    let rest = pairs_text_at w n (drop (2 * w) o) (IsBytes-drop (2 * w) o b) (omega (arith, h, more_octets w n, length-drop (2 * w) o)) in
    let p : ℕ × ℕ = (field o 0 (8 * w), field o (8 * w) (8 * w)) in
    let twice : w + w ≡ 2 * w = omega arith in
    let joined : drop w (drop w o) ≡ drop (2 * w) o = drop-drop w w o ∙ ap (λ (n : ℕ). drop n o) twice in
    let parts : take w o ++ (take w (drop w o) ++ drop (2 * w) o) ≡ o = rw (← joined, take-append-drop w (drop w o), take-append-drop w o) refl in
    let whole : flat_map (pair w) (p ∷ pairs_of w n (drop (2 * w) o)) ≡ (octets w (field o 0 (8 * w)) ++ octets w (field o (8 * w) (8 * w))) ++ flat_map (pair w) (pairs_of w n (drop (2 * w) o)) =
    flat_map-cons (pair w) p (pairs_of w n (drop (2 * w) o)) in
    sym (whole ∙ rw (first, second, ← rest, append_assoc) parts)

pub pairs_text : (large : Bool) (o : List ℕ) → IsBytes o → length o % pair_octets large ≡ 0 → o ≡ flat_map (pair (file_size_octets large)) (pairs_read large o)
pairs_text true o b h = pairs_text_at 8 (length o / 16) o b (omega arith)
pairs_text false o b h = pairs_text_at 4 (length o / 8) o b (omega arith)

pub pairs_len : (w : ℕ) (ps : List (ℕ × ℕ)) → length (flat_map (pair w) ps) ≡ 2 * w * length ps
pairs_len w [] = omega arith
pairs_len w (p ∷ ps) =
    let both : length (pair w p) ≡ 2 * w = omega (arith, length-append (octets w p.0) (octets w p.1), length-octets w p.0, length-octets w p.1) in
    ap length (flat_map-cons (pair w) p ps) ∙ omega (arith, length-append (pair w p) (flat_map (pair w) ps), both, pairs_len w ps, more_octets w (length ps))

pub pairs_count_at : (w n : ℕ) (o : List ℕ) → length (pairs_of w n o) ≡ n
unfolding pairs_of
pairs_count_at w zero o = refl
pairs_count_at w (suc n) o = ap suc (pairs_count_at w n (drop (2 * w) o))

pub pairs_count : (large : Bool) (o : List ℕ) → length (pairs_read large o) ≡ length o / pair_octets large
pairs_count large o = pairs_count_at (file_size_octets large) (length o / pair_octets large) o

-- one more pair than after the first
one_less : (large : Bool) (o : List ℕ) → length o % pair_octets large ≡ 0 → 0 < length o → length o / pair_octets large ≡ suc (length (drop (pair_octets large) o) / pair_octets large)
one_less true o whole h = omega (arith, length-drop 16 o)
one_less false o whole h = omega (arith, length-drop 8 o)

-- the first pair
pub first_pair : (large : Bool) (o : List ℕ) → length o % pair_octets large ≡ 0 → 0 < length o
    → pairs_read large o ≡ (field o 0 (8 * file_size_octets large), field o (8 * file_size_octets large) (8 * file_size_octets large)) ∷ pairs_read large (drop (pair_octets large) o)
unfolding pairs_of
first_pair large o whole h = ap (λ (n : ℕ). pairs_of (file_size_octets large) n o) (one_less large o whole h)

-- the pair at an index, and the pairs after it
pair_at_in : (w n i : ℕ) (o : List ℕ) → i < n → drop i (pairs_of w n o) ≡ (field (drop (2 * w * i) o) 0 (8 * w), field (drop w (drop (2 * w * i) o)) 0 (8 * w)) ∷ drop (suc i) (pairs_of w n o)
unfolding pairs_of
pair_at_in w zero i o h = absurd (omega (arith, h))
pair_at_in w (suc n) zero o h =
    let none : 2 * w * 0 ≡ 0 = omega arith in
    let second : field (drop w o) 0 (8 * w) ≡ field o (8 * w) (8 * w) = field_behind w (8 * w) o in
    rw (none, second) refl
pair_at_in w (suc n) (suc i) o h =
    rw (more_octets w i, ← drop-drop (2 * w * i) (2 * w) o) (pair_at_in w n i (drop (2 * w) o) (omega (arith, h)))

pub pair_at : (large : Bool) (o : List ℕ) (i : ℕ) → i < length o / pair_octets large
    → drop i (pairs_read large o) ≡ (
      field (drop (pair_octets large * i) o) 0 (8 * file_size_octets large),
      field (drop (file_size_octets large) (drop (pair_octets large * i) o)) 0 (8 * file_size_octets large),
    ) ∷ drop (i + 1) (pairs_read large o)
pair_at large o i h = rw add-one (pair_at_in (file_size_octets large) (length o / pair_octets large) i o h)

pub pair_given : (ps : List (ℕ × ℕ)) (i : ℕ) → i < length ps → drop i ps ≡ slice_index_or ps i (0, 0) ∷ drop (i + 1) ps
pair_given ps i h = drop_more ps i (0, 0) h

pub no_pair : (large : Bool) (o : List ℕ) → length o ≡ 0 → pairs_read large o ≡ []
unfolding pairs_of
no_pair true o h = let none : length o / 16 ≡ 0 = omega arith in rw none refl
no_pair false o h = let none : length o / 8 ≡ 0 = omega arith in rw none refl

-- pairs that were read fit their fields
pairs_fit_at : (w n : ℕ) (o : List ℕ) → AllByRecursion (IsPair w) (pairs_of w n o)
unfolding pairs_of
pairs_fit_at w zero o = tt
pairs_fit_at w (suc n) o = ((field-below_octets o 0 w, field-below_octets o (8 * w) w), pairs_fit_at w n (drop (2 * w) o))

pub pairs_fit : (large : Bool) (o : List ℕ) → AllByRecursion (IsPair (file_size_octets large)) (pairs_read large o)
pairs_fit large o = pairs_fit_at (file_size_octets large) (length o / pair_octets large) o

pub pairs_whole : (large : Bool) (o : List ℕ) → length o % pair_octets large ≡ 0 → length o ≡ pair_octets large * length (pairs_read large o)
pairs_whole true o whole = omega (arith, pairs_count true o)
pairs_whole false o whole = omega (arith, pairs_count false o)

-- a field after so many octets
pub behind_one : (w : ℕ) (o : List ℕ) → field (drop 1 o) 0 w ≡ field o 8 w
behind_one w o = field_behind 1 w o

pub behind_two : (w : ℕ) (o : List ℕ) → field (drop 2 o) 0 w ≡ field o 16 w
behind_two w o = field_behind 2 w o

pub behind_six : (w : ℕ) (o : List ℕ) → field (drop 6 o) 0 w ≡ field o 48 w
behind_six w o = field_behind 6 w o

-- where the end of a NAK's scope stands
pub scope_end : (w n : ℕ) (o : List ℕ) → field (drop (1 + w) o) 0 n ≡ field o (8 + 8 * w) n
scope_end w n o = let place : 8 * (1 + w) ≡ 8 + 8 * w = omega arith in field_behind (1 + w) n o ∙ ap (λ (at : ℕ). field o at n) place
