-- Exported: the zones that a packet meets.
use Rattle.std.proofs.Common.{◌≡◌, ℕ, ◌+◌, ◌*◌, ◌<◌, ◌≤◌, Bool, true, false, ◌&&◌, cond, nat_lt, List, [], ◌∷◌, ◌++◌, length, refl, sym, ap, ◌∙◌, arith}
use Rattle.std.proofs.lemmas.Bool.{lt-ltb, le-ltb, le-leb, lt-leb}
use Rattle.mpdu.specs.Stream.{arrived, meets}

cond_same : {X : Type 0} (t : Bool) (x : X) → cond t x x ≡ x
cond_same true x = refl
cond_same false x = refl

and_false : (k : Bool) → (k && false) ≡ false
and_false true = refl
and_false false = refl

pub meets_yes : (s e a b : ℕ) → a < e → s < b → meets s e a b ≡ true
meets_yes s e a b h k = rw (lt-ltb a e h, lt-ltb s b k) refl

pub meets_no_behind : (s e a b : ℕ) → b ≤ s → meets s e a b ≡ false
meets_no_behind s e a b h = rw (le-ltb s b h) (and_false (nat_lt a e))

pub meets_no_before : (s e a b : ℕ) → e ≤ a → meets s e a b ≡ false
meets_no_before s e a b h = rw (le-ltb a e h) refl

-- a range that ends before a zone doesn't ask for it
pub arrived-before : (z s : ℕ) (marks : List Bool) (k : Bool) (a b : ℕ) → b ≤ s + length marks * z → arrived z s (marks ++ k ∷ []) a b ≡ arrived z s marks a b
arrived-before z s [] k a b h =
    let le : b ≤ s = omega arith in
    let le2 : b ≤ s + z = omega arith in
    rw (meets_no_behind s (s + z) a b le, le-leb b s le, le-leb b (s + z) le2) refl
arrived-before z s (m ∷ marks) k a b h =
    rw (arrived-before z (s + z) marks k a b (omega arith)) refl

-- a range that goes past the marks did not arrive
pub arrived-past : (z s : ℕ) (marks : List Bool) (a b : ℕ) → s + length marks * z < b → arrived z s marks a b ≡ false
arrived-past z s [] a b h = let lt : s < b = omega arith in lt-leb b s lt
arrived-past z s (m ∷ marks) a b h =
    rw (arrived-past z (s + z) marks a b (omega arith)) (ap (λ t. cond (meets s (s + z) a b) t false) (and_false m) ∙ cond_same (meets s (s + z) a b) false)

-- a range that starts after the marks' end asks for none of them
pub arrived-behind : (z s : ℕ) (marks : List Bool) (a e : ℕ) → e ≡ s + length marks * z → e ≤ a → arrived z s marks a e ≡ true
arrived-behind z s [] a e is h = let le : e ≤ s = omega arith in le-leb e s le
arrived-behind z s (m ∷ marks) a e is h =
    let le : s + z ≤ a = omega arith in
    rw (meets_no_before s (s + z) a e le) (arrived-behind z (s + z) marks a e (omega arith) h)

step_bools : (t m k x : Bool) → cond t (m && (k && x)) (k && x) ≡ (k && cond t (m && x) x)
step_bools true true k x = refl
step_bools true false k x = sym (and_false k)
step_bools false m k x = refl

-- a range that ends in the next zone asks for that one, and for the zones before
pub arrived-into : (z s : ℕ) (marks : List Bool) (k : Bool) (a b e : ℕ) → 0 < z → e ≡ s + length marks * z → e < b → b ≤ e + z → a < e + z →
    arrived z s (marks ++ k ∷ []) a b ≡ (k && arrived z s marks a e)
arrived-into z s [] k a b e pos is h1 h2 h3 =
    let lt1 : a < s + z = omega arith in
    let lt2 : s < b = omega arith in
    let le : b ≤ s + z = omega arith in
    let le2 : e ≤ s = omega arith in
    rw (meets_yes s (s + z) a b lt1 lt2, le-leb b (s + z) le, le-leb e s le2) refl
arrived-into z s (m ∷ marks) k a b e pos is h1 h2 h3 =
    let lt2 : s < b = omega arith in
    let lt3 : s < e = omega arith in
    rw (arrived-into z (s + z) marks k a b e pos (omega arith) h1 h2 h3, lt-ltb s b lt2, lt-ltb s e lt3)
    (step_bools (nat_lt a (s + z) && true) m k (arrived z (s + z) marks a e))
