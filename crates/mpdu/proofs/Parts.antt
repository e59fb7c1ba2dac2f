-- Exported: parts of lists, and marks among others.
use Rattle.std.proofs.Common.{◌≡◌, ℕ, zero, suc, Bool, true, List, [], ◌∷◌, ◌++◌, length, take, map, refl, sym, ap, subst, ◌∙◌, inl, inr, arith}
use Rattle.std.specs.List.{Contains}
use Rattle.mpdu.specs.Parts.{IsPartOf, AreAmong}

pub part-none : {A : Type 0} (ys : List A) → IsPartOf [] ys
part-none [] = refl
part-none (y ∷ ys) = tt

pub part-all : {A : Type 0} (xs : List A) → IsPartOf xs xs
part-all [] = refl
part-all (x ∷ xs) = inl (refl, part-all xs)

pub part-behind : {A : Type 0} (xs : List A) (y : A) (ys : List A) → IsPartOf xs ys → IsPartOf xs (y ∷ ys)
part-behind [] y ys h = tt
part-behind (x ∷ xs) y ys h = inr h

pub part-append : {A : Type 0} (us vs ws xs : List A) → IsPartOf us vs → IsPartOf ws xs → IsPartOf (us ++ ws) (vs ++ xs)
part-append us [] ws xs h k = subst (λ l. IsPartOf (l ++ ws) xs) (sym h) k
part-append [] (b ∷ vs) ws xs h k = part-behind ws b (vs ++ xs) (part-append [] vs ws xs (part-none vs) k)
part-append (a ∷ us) (b ∷ vs) ws xs (inl h) k = inl (h.0, part-append us vs ws xs h.1 k)
part-append (a ∷ us) (b ∷ vs) ws xs (inr h) k = inr (part-append (a ∷ us) vs ws xs h k)

pub part-take : {A : Type 0} (n : ℕ) (xs : List A) → IsPartOf (take n xs) xs
part-take zero xs = part-none xs
part-take (suc n) [] = refl
part-take (suc n) (x ∷ xs) = inl (refl, part-take n xs)

pub part-part : {A : Type 0} (us vs ws : List A) → IsPartOf us vs → IsPartOf vs ws → IsPartOf us ws
part-part [] vs ws h k = part-none ws
part-part (a ∷ us) vs [] h k = subst (λ l. IsPartOf (a ∷ us) l) k h
part-part (a ∷ us) [] (c ∷ ws) h k = absurd cc
part-part (a ∷ us) (b ∷ vs) (c ∷ ws) (inl h) (inl k) = inl (h.0 ∙ k.0, part-part us vs ws h.1 k.1)
part-part (a ∷ us) (b ∷ vs) (c ∷ ws) (inr h) (inl k) = inr (part-part (a ∷ us) vs ws h k.1)
part-part (a ∷ us) (b ∷ vs) (c ∷ ws) h (inr k) = inr (part-part (a ∷ us) (b ∷ vs) ws h k)

pub part-map : {A B : Type 0} (f : A → B) (xs ys : List A) → IsPartOf xs ys → IsPartOf (map f xs) (map f ys)
part-map f xs [] h = ap (map f) h
part-map f [] (y ∷ ys) h = tt
part-map f (x ∷ xs) (y ∷ ys) (inl h) = inl (ap f h.0, part-map f xs ys h.1)
part-map f (x ∷ xs) (y ∷ ys) (inr h) = inr (part-map f (x ∷ xs) ys h)

pub among-all : (marks : List Bool) → AreAmong marks marks
among-all [] = tt
among-all (m ∷ marks) = (λ e. e, among-all marks)

pub among-length : (few marks : List Bool) → AreAmong few marks → length few ≡ length marks
among-length [] [] h = refl
among-length [] (m ∷ marks) h = absurd h
among-length (b ∷ few) [] h = absurd h
among-length (b ∷ few) (m ∷ marks) h = ap (λ n. suc n) (among-length few marks h.1)

pub among-push : (few marks : List Bool) (b m : Bool) → AreAmong few marks → (b ≡ true → m ≡ true) → AreAmong (few ++ b ∷ []) (marks ++ m ∷ [])
among-push [] [] b m h k = (k, tt)
among-push [] (n ∷ marks) b m h k = absurd h
among-push (c ∷ few) [] b m h k = absurd h
among-push (c ∷ few) (n ∷ marks) b m h k = (h.0, among-push few marks b m h.1 k)

pub part-contains : {A : Type 0} (xs ys : List A) (a : A) → IsPartOf xs ys → Contains xs a → Contains ys a
part-contains xs [] a h (k, lt, e) = absurd (let none : length xs ≡ 0 = ap (λ l. length l) h in omega arith)
part-contains [] (y ∷ ys) a h (k, lt, e) = absurd (omega arith)
part-contains (x ∷ xs) (y ∷ ys) a (inl h) (zero, lt, e) = (0, omega arith, sym h.0 ∙ e)
part-contains (x ∷ xs) (y ∷ ys) a (inl h) (suc k, lt, e) =
    let r : Contains ys a = part-contains xs ys a h.1 (k, omega arith, e) in (suc r.0, omega (arith, r.1), r.2)
part-contains (x ∷ xs) (y ∷ ys) a (inr h) c =
    let r : Contains ys a = part-contains (x ∷ xs) ys a h c in (suc r.0, omega (arith, r.1), r.2)
