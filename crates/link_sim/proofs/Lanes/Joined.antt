-- Lists over two lanes, one after the other: what is put at the end of a lane, and what is taken
-- from its front.
use Rattle.std.proofs.Common.{◌≡◌, ◌⊎◌, ℕ, ◌+◌, ◌≤◌, List, [], ◌++◌, append-nil, inl, inr, refl, sym, ap, subst, ◌∙◌, arith}
use Rattle.std.specs.Prelude.{Contains}
use Rattle.std.proofs.lemmas.List.{append_assoc}
use Rattle.std.proofs.lemmas.List.Elements.{Contains-append_cases, Contains-append_left, Contains-append_right}
use Rattle.aos_frame.specs.Frame.{other_lane}
use Rattle.aos_frame.specs.declared.config.Lane.{Lane}
use Rattle.aos_frame.specs.declared.config.Lane.TheVariants.{Directives, Data}
use Rattle.link_sim.specs.Runs.{IsSwapped}

-- ---- lists parts of which changed places
pub swapped-none : {X : Type 0} (xs : List X) → IsSwapped xs xs
swapped-none xs = record { before = xs; first = []; second = []; behind = []; was = sym (append-nil xs); is = sym (append-nil xs) }

-- if nothing moved
pub swapped-same : {X : Type 0} (xs ys : List X) → ys ≡ xs → IsSwapped xs ys
swapped-same xs ys e = subst (λ l. IsSwapped xs l) (sym e) (swapped-none xs)

pub swapped-back : {X : Type 0} (xs ys : List X) → IsSwapped xs ys → IsSwapped ys xs
swapped-back xs ys s = record { before = s.before; first = s.second; second = s.first; behind = s.behind; was = s.is; is = s.was }

-- the oldest of the second lane come to the front of both
pub swapped-front : {X : Type 0} (lane ps rest : List X) → IsSwapped (lane ++ (ps ++ rest)) (ps ++ (lane ++ rest))
swapped-front lane ps rest = record { before = []; first = lane; second = ps; behind = rest; was = refl; is = refl }

-- those that were put after both lanes go after the first
pub swapped-put : {X : Type 0} (one two ps : List X) → IsSwapped ((one ++ two) ++ ps) ((one ++ ps) ++ two)
swapped-put one two ps = record {
  before = one;
  first = two;
  second = ps;
  behind = [];
  was = append_assoc one two ps ∙ ap (λ l. one ++ (two ++ l)) (sym (append-nil ps));
  is = append_assoc one ps two ∙ ap (λ l. one ++ (ps ++ l)) (sym (append-nil two));
}

-- the members are the same
pub swapped-among : {X : Type 0} (xs ys : List X) → IsSwapped xs ys → (x : X) → Contains xs x → Contains ys x
swapped-among xs ys s x c =
    subst (λ l. Contains l x) (sym s.is) (whole (Contains-append_cases s.before (s.first ++ (s.second ++ s.behind)) x (subst (λ l. Contains l x) s.was c)))
  where
    last : Contains s.second x ⊎ Contains s.behind x → Contains (s.second ++ (s.first ++ s.behind)) x
    last (inl c) = Contains-append_left s.second (s.first ++ s.behind) x c
    last (inr c) = Contains-append_right s.second (s.first ++ s.behind) x (Contains-append_right s.first s.behind x c)

    rest : Contains s.first x ⊎ Contains (s.second ++ s.behind) x → Contains (s.second ++ (s.first ++ s.behind)) x
    rest (inl c) = Contains-append_right s.second (s.first ++ s.behind) x (Contains-append_left s.first s.behind x c)
    rest (inr c) = last (Contains-append_cases s.second s.behind x c)

    whole : Contains s.before x ⊎ Contains (s.first ++ (s.second ++ s.behind)) x → Contains (s.before ++ (s.second ++ (s.first ++ s.behind))) x
    whole (inl c) = Contains-append_left s.before (s.second ++ (s.first ++ s.behind)) x c
    whole (inr c) = Contains-append_right s.before (s.second ++ (s.first ++ s.behind)) x (rest (Contains-append_cases s.first (s.second ++ s.behind) x c))

-- a member of a lane is one of both
pub among-both : {X : Type 0} (l : Lane) (lanes : Lane → List X) (x : X) → Contains (lanes l) x → Contains (lanes Directives ++ lanes Data) x
among-both Directives lanes x c = Contains-append_left (lanes Directives) (lanes Data) x c
among-both Data lanes x c = Contains-append_right (lanes Directives) (lanes Data) x c

-- and one of both is one of a lane
pub among-one : {X : Type 0} (lanes : Lane → List X) (x : X) → Contains (lanes Directives ++ lanes Data) x → (l : Lane) × Contains (lanes l) x
among-one lanes x c = elim (Contains-append_cases (lanes Directives) (lanes Data) x c) [ inl d ↦ (Directives, d) | inr d ↦ (Data, d) ]

-- ---- a lane, and the other one as it was
-- what is put at the end of a lane
pub put-in-lane : {X : Type 0} (l : Lane) (old new : Lane → List X) (ps : List X) → new l ≡ old l ++ ps → new (other_lane l) ≡ old (other_lane l) →
    IsSwapped ((old Directives ++ old Data) ++ ps) (new Directives ++ new Data)
put-in-lane Directives old new ps this that =
    subst (λ l. IsSwapped ((old Directives ++ old Data) ++ ps) (l ++ new Data)) (sym this)
    (subst (λ l. IsSwapped ((old Directives ++ old Data) ++ ps) ((old Directives ++ ps) ++ l)) (sym that) (swapped-put (old Directives) (old Data) ps))
put-in-lane Data old new ps this that =
    swapped-same ((old Directives ++ old Data) ++ ps) (new Directives ++ new Data)
    (ap (λ l. new Directives ++ l) this ∙ ap (λ l. l ++ (old Data ++ ps)) that ∙ sym (append_assoc (old Directives) (old Data) ps))

-- what is taken from the front of a lane
pub take-from-lane : {X : Type 0} (l : Lane) (old new : Lane → List X) (ps : List X) → old l ≡ ps ++ new l → new (other_lane l) ≡ old (other_lane l) →
    IsSwapped (old Directives ++ old Data) (ps ++ (new Directives ++ new Data))
take-from-lane Directives old new ps this that =
    swapped-same (old Directives ++ old Data) (ps ++ (new Directives ++ new Data))
    (sym (append_assoc ps (new Directives) (new Data)) ∙ ap (λ l. l ++ new Data) (sym this) ∙ ap (λ l. old Directives ++ l) that)
take-from-lane Data old new ps this that =
    subst (λ l. IsSwapped (old Directives ++ l) (ps ++ (new Directives ++ new Data))) (sym this)
    (subst (λ l. IsSwapped (l ++ (ps ++ new Data)) (ps ++ (new Directives ++ new Data))) that (swapped-front (new Directives) ps (new Data)))

-- both lanes are as they were
pub lanes-same : {X : Type 0} (old new : Lane → List X) → ((l : Lane) → new l ≡ old l) → new Directives ++ new Data ≡ old Directives ++ old Data
lanes-same old new same = ap (λ l. l ++ new Data) (same Directives) ∙ ap (λ l. old Directives ++ l) (same Data)

-- ---- sums over both
pub more-in-lane : (l : Lane) (old new : Lane → ℕ) (n : ℕ) → new l ≤ old l + n → new (other_lane l) ≡ old (other_lane l) → new Directives + new Data ≤ old Directives + old Data + n
more-in-lane Directives old new n this that = omega (arith, this, that)
more-in-lane Data old new n this that = omega (arith, this, that)

pub one-fewer-in-lane : (l : Lane) (old new : Lane → ℕ) → new l + 1 ≡ old l → new (other_lane l) ≡ old (other_lane l) → new Directives + new Data + 1 ≡ old Directives + old Data
one-fewer-in-lane Directives old new this that = omega (arith, this, that)
one-fewer-in-lane Data old new this that = omega (arith, this, that)
