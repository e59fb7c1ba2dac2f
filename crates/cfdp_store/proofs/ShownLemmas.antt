-- What one more thing that the system showed changes of the files that were seen.
use Rattle.std.proofs.Common.{◌≡◌, ◌≢◌, ℕ, ◌+◌, ◌≤◌, Bool, true, false, cond, List, [], ◌∷◌, ◌++◌, length, get_or, take, drop, Option, Some, None, IsSome, is_some, unwrap_or, if◌then◌else◌, refl, sym, ap, subst, ◌∙◌, arith, length-append, length-drop}
use Rattle.std.proofs.Math.Seq.{take-append_seam, drop-append_seam}
use Rattle.std.proofs.lemmas.Bool.{and_parts, eqb-true, false≢true}
use Rattle.std.proofs.lemmas.List.{length-take-le, length-replicate}
use Rattle.std.proofs.lemmas.Slice.Eq.{bytes_eq-Decides}
use Rattle.std.specs.Cmp.{eq_by_cmp_equiv}
use Rattle.std.specs.Cmp.Lexicographic.{slice_cmp, nat_list_cmp_total}
use Rattle.std.specs.FinMap.{empty, get, insert, remove, get-insert, get-remove, get-empty}
use Rattle.std.specs.Option.{option_map}
use Rattle.std.specs.Ordering.{nat_cmp, eq_by_cmp}
use Rattle.std.specs.Prelude.{◌==◌, bytes_eq, replicate}
use Rattle.std.specs.declared.cmp.Ordering.{Ordering}
use Rattle.cfdp_header.specs.Files.{FileMap}
use Rattle.cfdp_store.proofs.FileLemmas.{same-items}
use Rattle.cfdp_store.specs.Files.{octets_in}
use Rattle.cfdp_store.specs.Rereading.{LooksFor, Rereads}
use Rattle.cfdp_store.specs.Shown.{IsExpected, AreExpected, fitted, there, put_over, Seen, nothing_seen, with_other, shown_after, seen_from, seen_by, LenMap, AreLens}
use Rattle.cfdp_store.specs.declared.sources.Shown.{Shown}
use Rattle.cfdp_store.specs.declared.sources.Shown.TheVariants.{Found, Missing, Read}

-- ---- names

abbrev R : List ℕ → List ℕ → Ordering
R = slice_cmp nat_cmp

itself : (name : List ℕ) → eq_by_cmp R name name ≡ true
itself name = (eq_by_cmp_equiv nat_list_cmp_total).refl name

not_true : (b : Bool) → (b ≡ true → ⊥) → b ≡ false
not_true true h = absurd (h refl)
not_true false h = refl

apart : (other name : List ℕ) → other ≢ name → eq_by_cmp R other name ≡ false
apart other name ne = not_true (eq_by_cmp R other name) (λ e. ne (same-items other name e))

get_same : (m : FileMap) (name octets : List ℕ) → get (insert m name octets) name ≡ Some octets
get_same m name octets = get-insert nat_list_cmp_total m name octets name ∙ ap (λ b. cond b (Some octets) (get m name)) (itself name)

get_other : (m : FileMap) (name octets other : List ℕ) → other ≢ name → get (insert m name octets) other ≡ get m other
get_other m name octets other ne = get-insert nat_list_cmp_total m name octets other ∙ ap (λ b. cond b (Some octets) (get m other)) (apart other name ne)

gone_same : (m : FileMap) (name : List ℕ) → get (remove m name) name ≡ None
gone_same m name = get-remove nat_list_cmp_total m name name ∙ ap (λ b. cond b None (get m name)) (itself name)

gone_other : (m : FileMap) (name other : List ℕ) → other ≢ name → get (remove m name) other ≡ get m other
gone_other m name other ne = get-remove nat_list_cmp_total m name other ∙ ap (λ b. cond b None (get m other)) (apart other name ne)

-- ---- lengths

length_if : (b : Bool) (p q : Option (List ℕ)) → option_map length (cond b p q) ≡ cond b (option_map length p) (option_map length q)
length_if true p q = refl
length_if false p q = refl

lens-inserted : (lens : LenMap) (files : FileMap) (name octets : List ℕ) (len : ℕ) → length octets ≡ len → AreLens lens files → AreLens (insert lens name len) (insert files name octets)
lens-inserted lens files name octets len long are q =
    get-insert nat_list_cmp_total lens name len q
    ∙ ap (λ n. cond (eq_by_cmp R q name) (Some n) (get lens q)) (sym long)
    ∙ ap (cond (eq_by_cmp R q name) (Some (length octets))) (are q)
    ∙ sym (length_if (eq_by_cmp R q name) (Some octets) (get files q))
    ∙ ap (option_map length) (sym (get-insert nat_list_cmp_total files name octets q))

lens-removed : (lens : LenMap) (files : FileMap) (name : List ℕ) → AreLens lens files → AreLens (remove lens name) (remove files name)
lens-removed lens files name are q =
    get-remove nat_list_cmp_total lens name q
    ∙ ap (cond (eq_by_cmp R q name) None) (are q)
    ∙ sym (length_if (eq_by_cmp R q name) None (get files q))
    ∙ ap (option_map length) (sym (get-remove nat_list_cmp_total files name q))

pub no-lens : AreLens empty nothing_seen.files
no-lens name = get-empty R name ∙ ap (option_map length) (sym (get-empty R name))

length-fitted : (len : ℕ) (octets : List ℕ) → length (fitted len octets) ≡ len
length-fitted len octets =
    length-take-le len (octets ++ replicate len 0) (omega (arith, length-append octets (replicate len 0), length-replicate {A = ℕ} len 0))

-- ---- one file

module _ (octets : List ℕ) (at : ℕ) (file : List ℕ) (within : at + length octets ≤ length file) where
  front_long : length (take at file) ≡ at
  front_long = length-take-le at file (omega arith)

  abbrev rest : List ℕ
  rest = drop (at + length octets) file

  there-put_over : there octets at (put_over octets at file) ≡ octets
  there-put_over =
      ap (λ n. take (length octets) (drop n (take at file ++ (octets ++ rest)))) (sym front_long)
      ∙ ap (take (length octets)) (drop-append_seam (take at file) (octets ++ rest))
      ∙ take-append_seam octets rest

  length-put_over : length (put_over octets at file) ≡ length file
  length-put_over =
      omega (arith, front_long, length-append (take at file) (octets ++ rest), length-append octets rest, length-drop (at + length octets) file)

-- ---- one more thing was shown

seen_from-append : (expected : List (List ℕ)) (s : Seen) (es : List Shown) (e : Shown) → seen_from expected s (es ++ e ∷ []) ≡ shown_after expected (seen_from expected s es) e
unfolding seen_from
seen_from-append expected s [] e = refl
seen_from-append expected s (x ∷ es) e = seen_from-append expected (shown_after expected s x) es e

pub nothing-yet : (expected : List (List ℕ)) → seen_by expected [] ≡ nothing_seen
unfolding seen_from
nothing-yet expected = refl

-- one list has one thing more than another
pub record Adds (old : List Shown) (e : Shown) (new : List Shown) : Type 0 where
  pub is : new ≡ old ++ e ∷ []

-- what was noted is the same thing in the caller's words
pub noted : {old new : List Shown} {told e : Shown} → new ≡ old ++ told ∷ [] → told ≡ e → Adds old e new
noted {old = old} is same = record { is = is ∙ ap (λ t. old ++ t ∷ []) same }

pub same-read : {name written octets copied : List ℕ} (at : ℕ) → written ≡ name → copied ≡ octets → Read written at copied ≡ Read name at octets
same-read at n o = λ i. Read (n i) at (o i)

module _ (expected : List (List ℕ)) {old new : List Shown} {e : Shown} (next : Adds old e new) where
  now : seen_by expected new ≡ shown_after expected (seen_by expected old) e
  now = ap (seen_from expected nothing_seen) next.is ∙ seen_from-append expected nothing_seen old e

-- a look found a file
module _ (expected : List (List ℕ)) {old new : List Shown} {name : List ℕ} {len : ℕ} (next : Adds old (Found name len) new) where
  abbrev s : Seen
  s = seen_by expected old

  abbrev content : List ℕ
  content = get_or expected s.looks []

  pub has-found : IsSome (get (seen_by expected new).files name)
  has-found = ap (λ t. is_some (get t.files name)) (now expected next) ∙ ap is_some (get_same s.files name (fitted len content))

  pub looks-found : LooksFor name s.stands (seen_by expected new).stands s.files (seen_by expected new).files
  looks-found = subst (λ t. LooksFor name s.stands t.stands s.files t.files) (sym (now expected next)) (record {
    others = λ other ne. get_other s.files name (fitted len content) other ne;
    stood = λ h. (and_parts s.stands (length content == len) h).0;
  })

  pub lens-found : (lens lens_now : LenMap) → lens_now ≡ insert lens name len → AreLens lens s.files → AreLens lens_now (seen_by expected new).files
  lens-found lens lens_now same are =
      subst (λ m. AreLens m (seen_by expected new).files) (sym same)
      (subst (λ t. AreLens (insert lens name len) t.files) (sym (now expected next))
      (lens-inserted lens s.files name (fitted len content) len (length-fitted len content) are))

-- a look found none
module _ (expected : List (List ℕ)) {old new : List Shown} {name : List ℕ} (next : Adds old (Missing name) new) where
  abbrev before : Seen
  before = seen_by expected old

  pub none-missing : get (seen_by expected new).files name ≡ None
  none-missing = ap (λ t. get t.files name) (now expected next) ∙ gone_same before.files name

  pub looks-missing : LooksFor name before.stands (seen_by expected new).stands before.files (seen_by expected new).files
  looks-missing = subst (λ t. LooksFor name before.stands t.stands before.files t.files) (sym (now expected next)) (record {
    others = λ other ne. gone_other before.files name other ne;
    stood = λ h. h;
  })

  pub lens-missing : (lens lens_now : LenMap) → lens_now ≡ remove lens name → AreLens lens before.files → AreLens lens_now (seen_by expected new).files
  lens-missing lens lens_now same are =
      subst (λ m. AreLens m (seen_by expected new).files) (sym same)
      (subst (λ t. AreLens (remove lens name) t.files) (sym (now expected next)) (lens-removed lens before.files name are))

-- a read gave these octets of a file
pub record Gives (name : List ℕ) (at : ℕ) (octets : List ℕ) (before after : Seen) : Type 0 where
  pub gives : octets ≡ there octets at (octets_in after.files name)
  pub rereads : Rereads before.stands after.stands before.files after.files

whole : (o : Option (List ℕ)) → IsSome o → o ≡ Some (unwrap_or o [])
whole None h = absurd (cc)
whole (Some x) h = refl

module _ (name : List ℕ) (at : ℕ) (octets : List ℕ) (s : Seen) (is_there : IsSome (get s.files name)) (within : at + length octets ≤ length (octets_in s.files name)) where
  abbrev file : List ℕ
  file = octets_in s.files name

  abbrev other_file : List ℕ
  other_file = put_over octets at file

  lens-other : (q : List ℕ) → option_map length (get (insert s.files name other_file) q) ≡ option_map length (get s.files q)
  lens-other q =
      ap (option_map length) (get-insert nat_list_cmp_total s.files name other_file q)
      ∙ elim (eq_by_cmp R q name) as (λ b. eq_by_cmp R q name ≡ b → option_map length (cond b (Some other_file) (get s.files q)) ≡ option_map length (get s.files q)) [
        | true ↦ λ e. ap Some (length-put_over octets at file within)
            ∙ sym (ap (option_map length) (ap (get s.files) (same-items q name e) ∙ whole (get s.files name) is_there))
        | false ↦ λ e. refl
      ] refl

  by_test : (b : Bool) → bytes_eq octets (there octets at file) ≡ b → Gives name at octets s (if b then s else with_other name at octets s)
  by_test true e = record {
    gives = (bytes_eq-Decides octets (there octets at file)).0 e;
    rereads = record { lens = λ q. refl; stood = λ h. (h, refl) };
  }
  by_test false e = record {
    gives = sym (ap (λ o. there octets at (unwrap_or o [])) (get_same s.files name other_file) ∙ there-put_over octets at file within);
    rereads = record { lens = lens-other; stood = λ h. absurd (false≢true h) };
  }

module _ (expected : List (List ℕ)) {old new : List Shown} {name : List ℕ} {at : ℕ} {octets : List ℕ} (next : Adds old (Read name at octets) new) where
  pub gives-read : IsSome (get (seen_by expected old).files name) → at + length octets ≤ length (octets_in (seen_by expected old).files name) → Gives name at octets (seen_by expected old) (seen_by expected new)
  gives-read is_there within =
      subst (Gives name at octets (seen_by expected old)) (sym (now expected next)) (by_test name at octets (seen_by expected old) is_there within _ refl)

-- a read leaves lengths as they are
pub lens-read : {name : List ℕ} {at : ℕ} {octets : List ℕ} {before after : Seen} (lens : LenMap) → Gives name at octets before after → AreLens lens before.files → AreLens lens after.files
lens-read lens read are q = are q ∙ sym (read.rereads.lens q)

-- ---- if all that was seen is as expected, each file is one that is expected
fitted-whole : (len : ℕ) (octets : List ℕ) → length octets ≡ len → fitted len octets ≡ octets
fitted-whole len octets long = ap (λ n. take n (octets ++ replicate len 0)) (sym long) ∙ take-append_seam octets (replicate len 0)

some_is : (x y : List ℕ) → Some x ≡ Some y → x ≡ y
some_is x y e = ap (λ o. unwrap_or o []) e

expected-after : (expected : List (List ℕ)) (s : Seen) (e : Shown) → AreExpected expected s → AreExpected expected (shown_after expected s e)
expected-after expected s (Found name len) are = λ stand q x is.
    let content : List ℕ = get_or expected s.looks [] in
    let both = and_parts s.stands (length content == len) stand in
    let whole_file : fitted len content ≡ content = fitted-whole len content (eqb-true (length content) len both.1) in
    elim (eq_by_cmp R q name) as (λ b. cond b (Some (fitted len content)) (get s.files q) ≡ Some x → IsExpected expected x) [
      | true ↦ λ h. (s.looks, sym (some_is _ _ h) ∙ whole_file)
      | false ↦ λ h. are both.0 q x h
    ] (sym (get-insert nat_list_cmp_total s.files name (fitted len content) q) ∙ is)
expected-after expected s (Missing name) are = λ stand q x is.
    elim (eq_by_cmp R q name) as (λ b. cond b None (get s.files q) ≡ Some x → IsExpected expected x) [
      | true ↦ λ h. absurd (cc)
      | false ↦ λ h. are stand q x h
    ] (sym (get-remove nat_list_cmp_total s.files name q) ∙ is)
expected-after expected s (Read name at octets) are =
    elim (bytes_eq octets (there octets at (octets_in s.files name))) as (λ b. AreExpected expected (if b then s else with_other name at octets s)) [
      | true ↦ are
      | false ↦ λ stand. absurd (false≢true stand)
    ]

expected-from : (expected : List (List ℕ)) (s : Seen) (es : List Shown) → AreExpected expected s → AreExpected expected (seen_from expected s es)
unfolding seen_from
expected-from expected s [] are = are
expected-from expected s (e ∷ es) are = expected-from expected (shown_after expected s e) es (expected-after expected s e are)

pub expected-all : (expected : List (List ℕ)) (es : List Shown) → AreExpected expected (seen_by expected es)
expected-all expected es = expected-from expected nothing_seen es (λ stand q x is. let none : None ≡ Some x = sym (get-empty R q) ∙ is in absurd (cc))
