-- What is staged, and the offsets that are held.
use Rattle.std.proofs.Common.{add-zero, length-take, get_or-take, get_or-drop, min, if◌then◌else◌, ◌≡◌, ◌≢◌, ℕ, zero, suc, ◌+◌, ◌-◌, ◌<◌, ◌≤◌, Bool, true, false, cond, not, ◌&&◌, ◌||◌, List, [], ◌∷◌, length, take, drop, Option, Some, None, refl, sym, ap, subst, ◌∙◌, arith, ◌⊎◌, inl, inr, length-drop}
use Rattle.std.specs.declared.result.Result.TheVariants.{Ok, Err}
use Rattle.std.specs.Prelude.{Result, OnErr, unwrap_or, IsSome, slice_index_or as get_or}
use Rattle.std.specs.FinMap as map
use Rattle.std.specs.FinSet as set
use Rattle.std.specs.Cmp.{nat_cmp_total, unsigned_tied}
use Rattle.std.specs.List.{All}
use Rattle.std.proofs.lemmas.Bool.{cases_lt}
use Rattle.std.proofs.lemmas.Bool.Decides.{eqb_tells}
use Rattle.cfdp_header.specs.declared.value.TransactionId.{TransactionId}
use Rattle.std.specs.Ordering.{nat_cmp}
use Rattle.cfdp_extents.specs.Offsets.{Offsets, range, is_within, union_of, missing_from, LiesIn, AreRangesOf}
use Rattle.cfdp_header.specs.Files.{FileMap}
use Rattle.cfdp_store.specs.Staged.{OctetMap, Covers, written, staged_for}
use Rattle.cfdp_receiver.specs.declared.state.ReceiverPhase.TheVariants.{Receiving}
use Rattle.cfdp_receiver.specs.State.{ReceiverState, IsReady, opened_receiver}
use Rattle.cfdp_directives.specs.declared.pdu.addressing.Addressing.{Addressing}
use Rattle.cfdp_receiver.specs.Pieces.{piece_in, pieces_in, with_piece, staged_with}
use Rattle.cfdp_receiver.specs.Does.{Keeps, Scene}
use Rattle.cfdp_receiver.proofs.Held.{within, within_parts, covered, contains-more, contains-missing}

some_or : (o : Option OctetMap) → IsSome o → o ≡ Some (unwrap_or o map.empty)
some_or None h = cc
some_or (Some m) h = refl

pub staged_is : (staged : TransactionId → Option OctetMap) (id : TransactionId) →
    IsSome (staged id) →
    staged id ≡ Some (staged_for staged id)
staged_is staged id h = some_or (staged id) h

-- what is published is there
pub whole : (staged : TransactionId → Option OctetMap) (r : ReceiverState) (size : ℕ) →
    IsReady staged r →
    r.phase ≡ Receiving → set.is_subset (range 0 size) r.held ≡ true →
    Covers size (staged_for staged r.addressing.id)
whole staged r size ready receiving all =
    λ n low. ready.backed receiving n (covered r.held 0 size n all (omega arith) low)

-- ---- octets written
get-insert-other : (m : OctetMap) (at x n : ℕ) → n ≢ at →
    map.get (map.insert m at x) n ≡ map.get m n
get-insert-other m at x n ne = map.get-insert nat_cmp_total m at x n
    ∙ ap (λ b. cond b (Some x) (map.get m n)) (unsigned_tied n at) ∙ elim (eqb_tells n at) [
      | inl t ↦ absurd (ne t.1)
      | inr t ↦ ap (λ b. cond b (Some x) (map.get m n)) t.0
    ]

get-insert-same : (m : OctetMap) (at x : ℕ) → map.get (map.insert m at x) at ≡ Some x
get-insert-same m at x = map.get-insert nat_cmp_total m at x at
    ∙ ap (λ b. cond b (Some x) (map.get m at)) (unsigned_tied at at) ∙ elim (eqb_tells at at) [
      | inl t ↦ ap (λ b. cond b (Some x) (map.get m at)) t.0
      | inr t ↦ absurd (t.1 refl)
    ]

-- elsewhere nothing changes
get-written-apart : (m : OctetMap) (at : ℕ) (xs : List ℕ) (n : ℕ) →
    (n < at) ⊎ (at + length xs ≤ n) →
    map.get (written m at xs) n ≡ map.get m n
unfolding written
get-written-apart m at [] n h = refl
get-written-apart m at (x ∷ xs) n h =
    let ne : n ≢ at = elim h [ inl k ↦ omega arith | inr k ↦ omega arith ] in
    let rest : (n < at + 1) ⊎ (at + 1 + length xs ≤ n) =
    elim h [ inl k ↦ inl (omega arith) | inr k ↦ inr (omega arith) ] in
    get-insert-other (written m (at + 1) xs) at x n ne ∙ get-written-apart m (at + 1) xs n rest

get-written-within : (m : OctetMap) (at : ℕ) (xs : List ℕ) (n k : ℕ) → n ≡ at + k → k < length xs →
    map.get (written m at xs) n ≡ Some (get_or xs k 0)
unfolding written
get-written-within m at [] n k is low = absurd (omega arith)
get-written-within m at (x ∷ xs) n zero is low =
    ap (λ j. map.get (map.insert (written m (at + 1) xs) at x) j) is
    ∙ ap (λ j. map.get (map.insert (written m (at + 1) xs) at x) j) (add-zero at)
    ∙ get-insert-same (written m (at + 1) xs) at x
get-written-within m at (x ∷ xs) n (suc k) is low =
    let ne : n ≢ at = omega arith in
    get-insert-other (written m (at + 1) xs) at x n ne
    ∙ get-written-within m (at + 1) xs n k (omega arith) (omega arith)

-- ---- file data of which some octets are held
by_test : (b : Bool) (x y z : Option ℕ) → (b ≡ true → x ≡ y) → (b ≡ false → x ≡ z) →
    x ≡ (if b then y else z)
by_test true x y z t f = t refl
by_test false x y z t f = f refl

not_within : (s e n : ℕ) → is_within s e n ≡ false → (n < s) ⊎ (e ≤ n)
not_within s e n out = elim (cases_lt n s) [
  | inl low ↦ inl low
  | inr high ↦ elim (cases_lt n e) [
    | inl k ↦ let so : is_within s e n ≡ true = within s e n high k in
        absurd (let bad : true ≡ false = sym so ∙ out in cc)
    | inr k ↦ inr k
  ]
]

get-piece : (m : OctetMap) (offset : ℕ) (bytes : List ℕ) (r : ℕ × ℕ) (n : ℕ) →
    LiesIn offset (offset + length bytes) r →
    map.get (with_piece m (piece_in offset bytes r)) n
    ≡ (if is_within r.0 r.1 n then Some (get_or bytes (n - offset) 0) else map.get m n)
get-piece m offset bytes r n lies =
    let low : offset ≤ r.0 = lies.0 in
    let some : r.0 < r.1 = lies.1 in
    let high : r.1 ≤ offset + length bytes = lies.2 in
    let xs : List ℕ = take (r.1 - r.0) (drop (r.0 - offset) bytes) in
    let rest : length (drop (r.0 - offset) bytes) ≡ length bytes - (r.0 - offset) =
    length-drop (r.0 - offset) bytes in
    let cut : length xs ≡ min (r.1 - r.0) (length (drop (r.0 - offset) bytes)) =
    length-take (r.1 - r.0) (drop (r.0 - offset) bytes) in
    let len : length xs ≡ r.1 - r.0 = omega arith in
    by_test (is_within r.0 r.1 n) (map.get (written m r.0 xs) n)
    (Some (get_or bytes (n - offset) 0)) (map.get m n)
    (λ is. let w : (r.0 ≤ n) × (n < r.1) = within_parts r.0 r.1 n is in
    let from : r.0 ≤ n = w.0 in
    let before : n < r.1 = w.1 in
    let at : n ≡ r.0 + (n - r.0) = omega arith in
    let inside : n - r.0 < length xs = omega arith in
    let short : n - r.0 < r.1 - r.0 = omega arith in
    let place : r.0 - offset + (n - r.0) ≡ n - offset = omega arith in
    get-written-within m r.0 xs n (n - r.0) at inside
    ∙ ap Some (get_or-take (r.1 - r.0) (drop (r.0 - offset) bytes) (n - r.0) 0 short
    ∙ get_or-drop (r.0 - offset) bytes (n - r.0) 0 ∙ ap (λ k. get_or bytes k 0) place))
    (λ out. let apart : (n < r.0) ⊎ (r.0 + length xs ≤ n) =
    elim (not_within r.0 r.1 n out) [ inl k ↦ inl k | inr k ↦ inr (omega arith) ] in
    get-written-apart m r.0 xs n apart)

both_tests : (a b : Bool) (x y : Option ℕ) →
    (if b then x else (if a then x else y)) ≡ (if a || b then x else y)
both_tests true true x y = refl
both_tests true false x y = refl
both_tests false true x y = refl
both_tests false false x y = refl

all_rest : (P : ℕ × ℕ → Type 0) (x : ℕ × ℕ) (xs : List (ℕ × ℕ)) → All P (x ∷ xs) → All P xs
all_rest P x xs all = λ k d low. all (suc k) d (omega arith)

-- octets in these ranges are the file data's, and all others are as they were
pub get-staged : (gaps : List (ℕ × ℕ)) (m : OctetMap) (offset : ℕ) (bytes : List ℕ) (n : ℕ) →
    All (LiesIn offset (offset + length bytes)) gaps →
    map.get (staged_with m (pieces_in offset bytes gaps)) n
    ≡ (if set.contains (union_of gaps) n then Some (get_or bytes (n - offset) 0) else map.get m n)
unfolding union_of
get-staged [] m offset bytes n all =
    ap (λ b. if b then Some (get_or bytes (n - offset) 0) else map.get m n)
    (sym (set.contains-empty nat_cmp n))
get-staged (r ∷ rs) m offset bytes n all =
    let x : Option ℕ = Some (get_or bytes (n - offset) 0) in
    get-staged rs (with_piece m (piece_in offset bytes r)) offset bytes n
    (all_rest (LiesIn offset (offset + length bytes)) r rs all)
    ∙ ap (λ o. if set.contains (union_of rs) n then x else o)
    (get-piece m offset bytes r n (all 0 r (omega arith)))
    ∙ both_tests (is_within r.0 r.1 n) (set.contains (union_of rs) n) x (map.get m n)
    ∙ ap (λ b. if b then x else map.get m n) (sym (contains-more r rs n))

-- octets that are held keep their value, and the others are those of the file data
pub get-staged_new : (held : Offsets) (gaps : List (ℕ × ℕ)) (m : OctetMap) (offset : ℕ)
    (bytes : List ℕ) (n : ℕ) →
    union_of gaps ≡ missing_from held offset (offset + length bytes) →
    All (LiesIn offset (offset + length bytes)) gaps →
    map.get (staged_with m (pieces_in offset bytes gaps)) n
    ≡ (if is_within offset (offset + length bytes) n && not (set.contains held n) then Some
    (get_or bytes (n - offset) 0) else map.get m n)
get-staged_new held gaps m offset bytes n is all =
    get-staged gaps m offset bytes n all
    ∙ ap (λ b. if b then Some (get_or bytes (n - offset) 0) else map.get m n)
    (ap (λ (s : Offsets). set.contains s n) is ∙ contains-missing held offset
    (offset + length bytes) n)

and_not : (a b : Bool) → b ≡ true → (a && not b) ≡ false
and_not true true is = refl
and_not false true is = refl
and_not a false is = cc

pub kept_staged : (held : Offsets) (gaps : List (ℕ × ℕ)) (m : OctetMap) (offset : ℕ)
    (bytes : List ℕ) (n : ℕ) →
    union_of gaps ≡ missing_from held offset (offset + length bytes) →
    All (LiesIn offset (offset + length bytes)) gaps → set.contains held n ≡ true →
    map.get (staged_with m (pieces_in offset bytes gaps)) n ≡ map.get m n
kept_staged held gaps m offset bytes n is all h =
    get-staged_new held gaps m offset bytes n is all
    ∙ ap (λ b. if b then Some (get_or bytes (n - offset) 0) else map.get m n)
    (and_not (is_within offset (offset + length bytes) n) (set.contains held n) h)

some_by : (b : Bool) (x : ℕ) (o : Option ℕ) → (b ≡ false → IsSome o) →
    IsSome (if b then Some x else o)
some_by true x o h = refl
some_by false x o h = h refl

and_not_parts : (a b : Bool) → (a && not b) ≡ false → a ≡ true → b ≡ true
and_not_parts true true is h = refl
and_not_parts true false is h = cc
and_not_parts false b is h = cc

pub some_staged : (held : Offsets) (gaps : List (ℕ × ℕ)) (m : OctetMap) (offset : ℕ)
    (bytes : List ℕ) (n : ℕ) →
    union_of gaps ≡ missing_from held offset (offset + length bytes) →
    All (LiesIn offset (offset + length bytes)) gaps →
    (set.contains held n ≡ true → IsSome (map.get m n)) →
    (set.contains held n ≡ true) ⊎ ((offset ≤ n) × (n < offset + length bytes)) →
    IsSome (map.get (staged_with m (pieces_in offset bytes gaps)) n)
some_staged held gaps m offset bytes n is all old new =
    let P : Option ℕ → Type 0 = λ o. IsSome o in
    subst P (sym (get-staged_new held gaps m offset bytes n is all))
    (some_by (is_within offset (offset + length bytes) n && not (set.contains held n))
    (get_or bytes (n - offset) 0) (map.get m n)
    (λ out. elim new [
      | inl h ↦ old h
      | inr w ↦ old (and_not_parts (is_within offset (offset + length bytes) n)
          (set.contains held n) out (within offset (offset + length bytes) n w.0 w.1))
    ]))

-- ---- a receiver once octets were staged
-- it is ready, if no more is held than was, and the octets of the file data
pub ready_staged : (staged_old staged_new : TransactionId →
    Option OctetMap) (old r new : ReceiverState) (gaps : List (ℕ × ℕ)) (offset : ℕ)
    (bytes : List ℕ) →
    r ≡ old → IsReady staged_old old → old.phase ≡ Receiving → new.addressing.id ≡ r.addressing.id →
    staged_new r.addressing.id
    ≡ Some (staged_with (staged_for staged_old r.addressing.id) (pieces_in offset bytes gaps)) →
    AreRangesOf (missing_from r.held offset (offset + length bytes)) gaps →
    All (LiesIn offset (offset + length bytes)) gaps →
    ((n : ℕ) → set.contains new.held n ≡ true →
    (set.contains r.held n ≡ true) ⊎ ((offset ≤ n) × (n < offset + length bytes))) →
    IsReady staged_new new
ready_staged staged_old staged_new old r new gaps offset bytes is ready receiving same_id now
    ranges all held =
    let here : staged_new new.addressing.id
    ≡ Some (staged_with (staged_for staged_old r.addressing.id) (pieces_in offset bytes gaps)) =
    ap staged_new same_id ∙ now in
    let before : (n : ℕ) → set.contains r.held n ≡ true →
    IsSome (map.get (staged_for staged_old r.addressing.id) n) =
    let P : ReceiverState →
    Type 0 = λ s. (n : ℕ) → set.contains s.held n ≡ true → IsSome
    (map.get (staged_for staged_old s.addressing.id) n) in
    subst P (sym is) (ready.backed receiving) in
    record {
      begun = λ _. (let P : Option OctetMap → Type 0 = λ o. IsSome o in subst P (sym here) refl);
      backed = λ _ n h.
          let P : Option OctetMap → Type 0 = λ o. IsSome (map.get (unwrap_or o map.empty) n) in
          subst P (sym here) (some_staged r.held gaps (staged_for staged_old r.addressing.id)
          offset bytes n ranges.union all (before n) (held n h));
    }

-- octets that are held keep their value
pub held_octets_keep : (staged_old staged_new : TransactionId →
    Option OctetMap) (r : ReceiverState) (gaps : List (ℕ × ℕ)) (offset : ℕ) (bytes : List ℕ) →
    staged_new r.addressing.id
    ≡ Some (staged_with (staged_for staged_old r.addressing.id) (pieces_in offset bytes gaps)) →
    AreRangesOf (missing_from r.held offset (offset + length bytes)) gaps →
    All (LiesIn offset (offset + length bytes)) gaps →
    (n : ℕ) → set.contains r.held n ≡ true →
    map.get (staged_for staged_new r.addressing.id) n
    ≡ map.get (staged_for staged_old r.addressing.id) n
held_octets_keep staged_old staged_new r gaps offset bytes now ranges all n h =
    ap (λ (o : Option OctetMap). map.get (unwrap_or o map.empty) n) now
    ∙ kept_staged r.held gaps (staged_for staged_old r.addressing.id) offset bytes n ranges.union
    all h

pub keeps_staged : (old new : Scene) (r : ReceiverState) (gaps : List (ℕ × ℕ)) (offset : ℕ) (bytes : List ℕ) →
    r ≡ old.receiver → new.receiver ≡ r → new.told ≡ old.told → new.timers ≡ old.timers → new.files ≡ old.files → new.failures ≡ old.failures →
    new.staged r.addressing.id ≡ Some (staged_with (staged_for old.staged r.addressing.id) (pieces_in offset bytes gaps)) →
    AreRangesOf (missing_from r.held offset (offset + length bytes)) gaps → All (LiesIn offset (offset + length bytes)) gaps →
    Keeps old new
keeps_staged old new r gaps offset bytes is same told timers files failures now ranges all =
    let kept : (n : ℕ) → set.contains r.held n ≡ true → map.get (staged_for new.staged r.addressing.id) n ≡ map.get (staged_for old.staged r.addressing.id) n =
    held_octets_keep old.staged new.staged r gaps offset bytes now ranges all in
    record {
      receiver = same ∙ is;
      tells = told;
      timers = timers;
      files = files;
      octets = subst (λ (x : ReceiverState). (n : ℕ) → set.contains x.held n ≡ true → map.get (staged_for new.staged x.addressing.id) n ≡ map.get (staged_for old.staged x.addressing.id) n) is kept;
      failures = failures;
    }

on_err : {T E P : Type 0} (r : Result T E) → P → OnErr r P
on_err (Ok x) p = tt
on_err (Err e) p = p

-- if there was no room to hold them
pub keeps_unheld : {T E : Type 0} (result : Result T E) (old : Scene) (r : ReceiverState) (held : Offsets) (files : FileMap) (staged : TransactionId → Option OctetMap) (failures : ℕ)
    (gaps : List (ℕ × ℕ)) (offset : ℕ) (bytes : List ℕ) →
    r ≡ old.receiver → held ≡ r.held → files ≡ old.files → failures ≡ old.failures →
    staged r.addressing.id ≡ Some (staged_with (staged_for old.staged r.addressing.id) (pieces_in offset bytes gaps)) →
    AreRangesOf (missing_from r.held offset (offset + length bytes)) gaps → All (LiesIn offset (offset + length bytes)) gaps →
    OnErr result (Keeps old (record old { receiver = record r { held = held }; files = files; staged = staged; failures = failures }))
keeps_unheld result old r held files staged failures gaps offset bytes is same are level now ranges all =
    on_err result (keeps_staged old (record old { receiver = record r { held = held }; files = files; staged = staged; failures = failures }) r gaps offset bytes
    is (ap (λ (h : Offsets). record r { held = h }) same) refl refl are level now ranges all)

-- a receiver that has heard nothing yet is ready, once its transaction is begun
pub ready_opened : (staged : TransactionId →
    Option OctetMap) (r : ReceiverState) (addressing : Addressing) (m : OctetMap) →
    r ≡ opened_receiver addressing → staged addressing.id ≡ Some m → IsReady staged r
ready_opened staged r addressing m is begun =
    let P : ReceiverState → Type 0 = λ s. IsReady staged s in
    let Q : Option OctetMap → Type 0 = λ o. IsSome o in
    subst P (sym is) (record {
      begun = λ _. subst Q (sym begun) refl;
      backed = λ _ n h. (let not_so : false ≡ true = sym (set.contains-empty nat_cmp n) ∙ h in cc);
    })
