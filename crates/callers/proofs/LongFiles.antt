-- The one file of a `LongFile`: its name is `a.txt`, and all its octets are equal.
use Rattle.std.proofs.Common.{◌≡◌, ℕ, ◌+◌, ◌-◌, ◌≤◌, Bool, cond, List, [], ◌∷◌, Option, Some, None, IsSome, take, drop, unwrap_or, refl, sym, ap, subst, ◌∙◌, true, false, arith}
use Rattle.std.specs.Prelude.{length, replicate}
use Rattle.std.specs.Option.{option_map}
use Rattle.std.specs.Ordering.{nat_cmp, is_eq}
use Rattle.std.specs.Cmp.Lexicographic.{slice_cmp, nat_list_cmp_total}
use Rattle.std.specs.FinMap.{FinMap, get, insert, empty, get-insert, get-empty}
use Rattle.std.proofs.lemmas.List.{length-replicate, take-replicate, drop-replicate}
use Rattle.cfdp_store.specs.Files.{octets_in}

abbrev none : FinMap (slice_cmp nat_cmp) (List ℕ)
none = empty {K = List ℕ} {X = List ℕ} {R = slice_cmp nat_cmp}

abbrev own : List ℕ
own = 97 ∷ 46 ∷ 116 ∷ 120 ∷ 116 ∷ []

abbrev files : ℕ → ℕ → FinMap (slice_cmp nat_cmp) (List ℕ)
files n x = insert none own (replicate {A = ℕ} n x)

abbrev is_name : List ℕ → Bool
is_name name = is_eq (slice_cmp nat_cmp name own)

found : (name : List ℕ) (n x : ℕ) → get (files n x) name ≡ cond (is_name name) (Some (replicate n x)) None
found name n x = get-insert nat_list_cmp_total none own _ name ∙ ap (λ o. cond (is_name name) (Some (replicate n x)) o) (get-empty (slice_cmp nat_cmp) name)

by_test : (b : Bool) (n x : ℕ) → option_map length (cond b (Some (replicate {A = ℕ} n x)) None) ≡ cond b (Some n) None
by_test Bool.true n x = ap (λ m. Some m) (length-replicate n x)
by_test Bool.false n x = refl

is_len : (name : List ℕ) (n x : ℕ) → option_map length (get (files n x) name) ≡ cond (is_name name) (Some n) None
is_len name n x = ap (λ o. option_map length o) (found name n x) ∙ by_test (is_name name) n x

pub is_there : (name : List ℕ) (n x : ℕ) → is_name name ≡ true → Some n ≡ option_map length (get (files n x) name)
is_there name n x e = sym (is_len name n x ∙ ap (λ b. cond b (Some n) None) e)

pub is_absent : (name : List ℕ) (n x : ℕ) → is_name name ≡ false → None ≡ option_map length (get (files n x) name)
is_absent name n x e = sym (is_len name n x ∙ ap (λ b. cond b (Some n) None) e)

-- what is read of it
alike : (n x offset len : ℕ) → offset + len ≤ n → take len (drop offset (replicate n x)) ≡ replicate {A = ℕ} len x
alike n x offset len within = ap (take len) (drop-replicate offset n x) ∙ take-replicate len (n - offset) x (omega (arith, within))

read_of : (b : Bool) (n x offset len : ℕ) → IsSome (cond b (Some (replicate n x)) None) → offset + len ≤ length (unwrap_or (cond b (Some (replicate n x)) None) []) →
    replicate {A = ℕ} len x ≡ take len (drop offset (unwrap_or (cond b (Some (replicate n x)) None) []))
read_of Bool.true n x offset len there within = sym (alike n x offset len (omega (arith, within, length-replicate n x)))
read_of Bool.false n x offset len there within = absurd cc

pub are_read : (name : List ℕ) (n x offset len : ℕ) → IsSome (get (files n x) name) → offset + len ≤ length (octets_in (files n x) name) →
    replicate {A = ℕ} len x ≡ take len (drop offset (octets_in (files n x) name))
are_read name n x offset len there within =
    let P : Option (List ℕ) → Type 0 = λ o. IsSome o → offset + len ≤ length (unwrap_or o []) → replicate {A = ℕ} len x ≡ take len (drop offset (unwrap_or o [])) in
    subst P (sym (found name n x)) (read_of (is_name name) n x offset len) there within
