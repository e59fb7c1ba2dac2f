-- The pairs of a NAK, one after another.
use Rattle.std.proofs.Common.{◌≡◌, ℕ, suc, ◌+◌, ◌<◌, ◌≤◌, true, false, List, [], ◌∷◌, ◌++◌, length, take, refl, sym, ap, subst, ◌∙◌, arith, append_assoc, length-append}
use Rattle.std.specs.Prelude.{Bool, zero, ◌^◌, ◌==◌, ◌&&◌, is_none, nat_lt, slice_set, if◌then◌else◌}
use Rattle.std.specs.List.{All, AllByRecursion}
use Rattle.std.proofs.Math.Seq.{take-append_seam}
use Rattle.std.proofs.lemmas.List.{take_more_set, append-nil, take_all, length-take}
use Rattle.std.proofs.lemmas.Bool.{lt-ltb}
use Rattle.std.proofs.lemmas.Bool.Decides.{nat_tests}
use Rattle.cfdp_directives.specs.Pdu.Codes.{file_size_octets, size_limit}
use Rattle.cfdp_directives.specs.Pdu.Content.{Nak}
use Rattle.cfdp_directives.specs.Pdu.Pair.{IsPair}
use Rattle.cfdp_directives.proofs.FileSizes.{limit_fits, number_fits}
use Rattle.cfdp_directives.specs.Pdu.Written.{FitsContent, content_len}
use Rattle.cfdp_extents.specs.Offsets.{LiesIn}
use Rattle.cfdp_extents.specs.Terms.{gaps_of}
use Rattle.cfdp_receiver.specs.declared.asked.Asked.{Asked}
use Rattle.cfdp_receiver.specs.declared.due.Due.TheVariants as due_is
use Rattle.cfdp_receiver.specs.State.{ReceiverState}
use Rattle.cfdp_receiver.specs.Missing.{asked, has_more, last_end, missing_pairs, scope_limit}
use Rattle.cfdp_receiver.specs.Asked.{pairs_of, with_metadata, IsFilled, IsWritable, AsksFor}
use Rattle.cfdp_receiver.specs.Due.{receiver_says}

pub last_end_added : (end : ℕ) (xs : List (ℕ × ℕ)) (r : ℕ × ℕ) → last_end end (xs ++ r ∷ []) ≡ r.1
last_end_added end [] r = refl
last_end_added end (x ∷ xs) r = last_end_added x.1 xs r

all_added : (P : ℕ × ℕ → Type 0) (xs : List (ℕ × ℕ)) (r : ℕ × ℕ) → AllByRecursion P xs → P r →
    AllByRecursion P (xs ++ r ∷ [])
all_added P [] r all is = (is, tt)
all_added P (x ∷ xs) r all is = (all.0, all_added P xs r all.1 is)

-- with more than 32 to ask for
pub asks_first : (all : List (ℕ × ℕ)) (a : Asked) (r : ℕ × ℕ) (rest : List (ℕ × ℕ)) →
    all ≡ pairs_of a ++ r ∷ rest → length (pairs_of a) ≡ 32 → a.end ≡ last_end 0 (pairs_of a) →
    a.more ≡ true → AsksFor all a
asks_first all a r rest is len end more =
    let first : asked all ≡ pairs_of a =
    ap (λ (l : List (ℕ × ℕ)). take 32 l) is ∙ ap (λ n. take n (pairs_of a ++ r ∷ rest)) (sym len)
    ∙ take-append_seam (pairs_of a) (r ∷ rest) in
    let long : length all ≡ length (pairs_of a) + suc (length rest) = ap length is
    ∙ length-append (pairs_of a) (r ∷ rest) in
    record {
      pairs = sym first;
      end = end ∙ ap (λ (l : List (ℕ × ℕ)). last_end 0 l) (sym first);
      more = more ∙ sym (lt-ltb 32 (length all) (omega arith));
    }

not_more : (n : ℕ) → n ≤ 32 → nat_lt 32 n ≡ false
not_more n low = grind (arith, nat_tests)

-- with no more
pub asks_all : (all : List (ℕ × ℕ)) (a : Asked) →
    all ≡ pairs_of a ++ [] → length (pairs_of a) ≤ 32 → a.end ≡ last_end 0 (pairs_of a) →
    a.more ≡ false → AsksFor all a
asks_all all a is len end more =
    let whole : all ≡ pairs_of a = is ∙ append-nil (pairs_of a) in
    let first : asked all ≡ pairs_of a =
    ap (λ (l : List (ℕ × ℕ)). take 32 l) whole ∙ take_all 32 (pairs_of a) len in
    record {
      pairs = sym first;
      end = end ∙ ap (λ (l : List (ℕ × ℕ)). last_end 0 l) (sym first);
      more = more ∙ sym (ap (λ (l : List (ℕ × ℕ)). has_more l) whole ∙ not_more
          (length (pairs_of a)) len);
    }

-- with one more pair
pub one_more_pair : (a : Asked) (r : ℕ × ℕ) → a.count < length a.pairs →
    take (a.count + 1) (slice_set a.pairs a.count r) ≡ pairs_of a ++ r ∷ []
one_more_pair a r low = take_more_set a.pairs a.count r low

pub all_with_one : (all : List (ℕ × ℕ)) (a : Asked) (r : ℕ × ℕ) (rest : List (ℕ × ℕ)) →
    a.count < length a.pairs →
    all ≡ pairs_of a ++ r ∷ rest → all ≡ take (a.count + 1) (slice_set a.pairs a.count r) ++ rest
all_with_one all a r rest low is =
    is ∙ sym (append_assoc (pairs_of a) (r ∷ []) rest)
    ∙ ap (λ (l : List (ℕ × ℕ)). l ++ rest) (sym (one_more_pair a r low))

pub end_with_one : (a : Asked) (r : ℕ × ℕ) → a.count < length a.pairs →
    r.1 ≡ last_end 0 (take (a.count + 1) (slice_set a.pairs a.count r))
end_with_one a r low =
    sym (ap (λ (l : List (ℕ × ℕ)). last_end 0 l) (one_more_pair a r low) ∙ last_end_added 0
    (pairs_of a) r)

pub filled_with_one : (a : Asked) (r : ℕ × ℕ) → a.count < length a.pairs → a.count < 32 → IsFilled a →
    IsFilled (record { pairs = slice_set a.pairs a.count r; count = a.count + 1; end = r.1; more = a.more })
filled_with_one a r low few w =
    let len : length (pairs_of a) ≡ a.count = w.len in
    record {
      few = omega arith;
      len = ap length (one_more_pair a r low) ∙ length-append (pairs_of a) (r ∷ [])
          ∙ ap (λ n. n + 1) len;
    }

pub writable_with_one : (large : Bool) (a : Asked) (r : ℕ × ℕ) (start limit : ℕ) → a.count < length a.pairs →
    IsWritable large a → LiesIn start limit r → limit ≤ size_limit large →
    IsWritable large (record { pairs = slice_set a.pairs a.count r; count = a.count + 1; end = r.1; more = a.more })
writable_with_one large a r start limit low w lies high =
    let some : r.0 < r.1 = lies.1 in
    let below : r.1 ≤ limit = lies.2 in
    let fits : size_limit large < 256 ^ file_size_octets large = limit_fits large in
    let is_pair : IsPair (file_size_octets large) r = (omega (arith, some, below, fits, high), omega (arith, below, fits, high)) in
    let P : List (ℕ × ℕ) → Type 0 = λ l. AllByRecursion (IsPair (file_size_octets large)) l in
    record {
      pairs = subst P (sym (one_more_pair a r low))
          (all_added (IsPair (file_size_octets large)) (pairs_of a) r w.pairs is_pair);
      end = omega (arith, below, high);
    }

pub all_parts : (P : ℕ × ℕ → Type 0) (x : ℕ × ℕ) (xs ys : List (ℕ × ℕ)) → ys ≡ x ∷ xs → All P ys → P x × All P xs
all_parts P x xs ys is all =
    let Q : List (ℕ × ℕ) → Type 0 = λ l. All P l in
    (subst Q is all 0 x (omega arith), λ k d low. (subst Q is all) (suc k) d (omega arith))

-- ---- how many pairs one NAK has
pub asked_full : (all : List (ℕ × ℕ)) (count left : ℕ) → count + left ≡ length all → count ≡ 32 → count ≡ length (asked all)
asked_full all count left is full =
    let len = length-take 32 all in
    omega (arith, is, full, len)

pub asked_whole : (all : List (ℕ × ℕ)) (count left : ℕ) → count + left ≡ length all → left ≡ 0 → count ≤ 32 → count ≡ length (asked all)
asked_whole all count left is none few =
    let len = length-take 32 all in
    omega (arith, is, none, few, len)

-- ---- a NAK can be written
pub nak_short : (large : Bool) (start end : ℕ) (pairs : List (ℕ × ℕ)) → length pairs ≤ 32 → content_len (file_size_octets large) (Nak start end pairs) ≤ 529
nak_short true start end pairs few = omega (arith, few)
nak_short false start end pairs few = omega (arith, few)

-- under a name of this crate, which a function's tactic can give
pub fits_field : (large : Bool) (n : ℕ) → n ≤ size_limit large → n < 256 ^ file_size_octets large
fits_field large n low = number_fits large n low

module _ (large : Bool) where
  abbrev Fits : ℕ → Type 0
  Fits n = n < 256 ^ file_size_octets large

  below_limit : (n limit : ℕ) → n ≤ limit → limit ≤ size_limit large → Fits n
  below_limit n limit low high = omega (arith, low, high, limit_fits large)

  first_fit : (n start limit : ℕ) (gaps : List (ℕ × ℕ)) → All (LiesIn start limit) gaps → limit ≤ size_limit large → AllByRecursion (IsPair (file_size_octets large)) (take n gaps)
  first_fit zero start limit gaps all high = tt
  first_fit (suc n) start limit [] all high = tt
  first_fit (suc n) start limit (g ∷ gs) all high =
      let parts = all_parts (LiesIn start limit) g gs (g ∷ gs) refl all in
      let some : g.0 < g.1 = parts.0.1 in
      let below : g.1 ≤ limit = parts.0.2 in
      ((below_limit g.0 limit (omega (arith, some, below)) high, below_limit g.1 limit below high), first_fit n start limit gs parts.1 high)

  none_fits : Fits 0
  none_fits = omega (arith, limit_fits large)

  asked_fit : (metadata : Bool) (start limit : ℕ) (gaps : List (ℕ × ℕ)) → All (LiesIn start limit) gaps → limit ≤ size_limit large →
      AllByRecursion (IsPair (file_size_octets large)) (asked (with_metadata metadata gaps))
  asked_fit true start limit gaps all high = ((none_fits, none_fits), first_fit 31 start limit gaps all high)
  asked_fit false start limit gaps all high = first_fit 32 start limit gaps all high

  last_fits : (end : ℕ) (pairs : List (ℕ × ℕ)) → Fits end → AllByRecursion (IsPair (file_size_octets large)) pairs → Fits (last_end end pairs)
  last_fits end [] low all = low
  last_fits end (p ∷ ps) low all = last_fits p.1 ps all.0.1 all.1

  scope_fits : (more : Bool) (end limit : ℕ) → Fits end → limit ≤ size_limit large → Fits (if more then end else limit)
  scope_fits true end limit low high = low
  scope_fits false end limit low high = below_limit limit limit (omega arith) high

its_nak_fits : (r : ReceiverState) (cursor : ℕ) → All (LiesIn cursor (scope_limit r)) (gaps_of r.held cursor (scope_limit r)) → cursor ≤ size_limit r.large → scope_limit r ≤ size_limit r.large →
    FitsContent (file_size_octets r.large) (receiver_says r (due_is.Nak cursor))
its_nak_fits r cursor all low high =
    let metadata : Bool = is_none r.metadata && (cursor == 0) in
    let pairs = asked_fit r.large metadata cursor (scope_limit r) (gaps_of r.held cursor (scope_limit r)) all high in (
      below_limit r.large cursor cursor (omega arith) low,
      scope_fits r.large (has_more (missing_pairs cursor r)) (last_end 0 (asked (missing_pairs cursor r))) (scope_limit r)
          (last_fits r.large 0 (asked (missing_pairs cursor r)) (none_fits r.large) pairs) high,
      pairs,
    )

module _ (r : ReceiverState) (cursor limit : ℕ) (gaps : List (ℕ × ℕ)) (up_to : limit ≡ scope_limit r) (are : gaps ≡ gaps_of r.held cursor limit) where
  are_gaps : gaps ≡ gaps_of r.held cursor (scope_limit r)
  are_gaps = are ∙ ap (λ n. gaps_of r.held cursor n) up_to

  pub nak_fits : All (LiesIn cursor limit) gaps → cursor ≤ size_limit r.large → limit ≤ size_limit r.large → FitsContent (file_size_octets r.large) (receiver_says r (due_is.Nak cursor))
  nak_fits all low high =
      its_nak_fits r cursor (subst (λ (l : List (ℕ × ℕ)). All (LiesIn cursor (scope_limit r)) l) are_gaps (subst (λ n. All (LiesIn cursor n) gaps) up_to all)) low
      (subst (λ n. n ≤ size_limit r.large) up_to high)

  pub pairs_counted : (metadata : Bool) (count : ℕ) → metadata ≡ (is_none r.metadata && (cursor == 0)) → count ≡ length (asked (with_metadata metadata gaps)) → length (asked (missing_pairs cursor r))
      ≡ count
  pairs_counted metadata count is counted =
      sym (counted ∙ ap (λ b. length (asked (with_metadata b gaps))) is ∙ ap (λ (l : List (ℕ × ℕ)). length (asked (with_metadata (is_none r.metadata && (cursor == 0)) l))) are_gaps)
