-- If as many frames come in order as left, all of them came.
use Rattle.std.proofs.Common.{◌≡◌, ℕ, ◌+◌, ◌<◌, ◌≤◌, List, [], ◌∷◌, ◌++◌, length, ap, arith, length-append}
use Rattle.aos_frame.specs.declared.config.Lane.{Lane}
use Rattle.aos_frame.specs.declared.config.Lane.TheVariants.{Directives, Data}
use Rattle.ports_in_order.specs.InOrder.{ComeInOrder, taken_to}
use Rattle.outages_by_turns.specs.Whole.{AllCome}

abbrev sum : (Lane → ℕ) → ℕ
sum n = n Directives + n Data

one-up : (lane : Lane) (taken : Lane → ℕ) → sum (taken_to lane (taken lane + 1) taken) ≡ sum taken + 1
one-up Directives taken = omega arith
one-up Data taken = omega arith

goes-up : (lane : Lane) (count : ℕ) (taken : Lane → ℕ) → taken lane < count → sum taken + 1 ≤ sum (taken_to lane count taken)
goes-up Directives count taken up = omega (arith, up)
goes-up Data count taken up = omega (arith, up)

within-on : (its : Lane) (count : ℕ) (taken most : Lane → ℕ) → count ≤ most its → ((x : Lane) → taken x ≤ most x) → (x : Lane) → taken_to its count taken x ≤ most x
within-on Directives count taken most up within Directives = up
within-on Directives count taken most up within Data = within Data
within-on Data count taken most up within Directives = within Directives
within-on Data count taken most up within Data = up

-- as many as left
all-come : (left : Lane → List (List ℕ)) (taken : Lane → ℕ) (came : List (List ℕ)) → AllCome left taken came → sum (λ x. length (left x)) ≡ sum taken + length came
all-come left taken [] all =
    let a : taken Directives ≡ length (left Directives) = all Directives in
    let b : taken Data ≡ length (left Data) = all Data in
    omega (arith, a, b)
all-come left taken (frame ∷ came) (lane, inside, is, more) =
    let r : sum (λ x. length (left x)) ≡ sum (taken_to lane (taken lane + 1) taken) + length came = all-come left (taken_to lane (taken lane + 1) taken) came more in
    let u : sum (taken_to lane (taken lane + 1) taken) ≡ sum taken + 1 = one-up lane taken in
    omega (arith, r, u)

-- at least as many are taken as came, and no more than left
record Within (left : Lane → List (List ℕ)) (taken now : Lane → ℕ) (came : List (List ℕ)) : Type 0 where
  least : sum taken + length came ≤ sum now
  most : (x : Lane) → now x ≤ length (left x)

within : (left : Lane → List (List ℕ)) (taken : Lane → ℕ) (came : List (List ℕ)) (now : Lane → ℕ) → ComeInOrder left taken came now → ((x : Lane) → taken x ≤ length (left x)) → Within left taken now came
within left taken [] now same most =
    let a : now Directives ≡ taken Directives = ap (λ (n : Lane → ℕ). n Directives) same in
    let b : now Data ≡ taken Data = ap (λ (n : Lane → ℕ). n Data) same in
    record {
      least = omega (arith, a, b);
      most = λ x. (let c : now x ≡ taken x = ap (λ (n : Lane → ℕ). n x) same in let d : taken x ≤ length (left x) = most x in omega (arith, c, d));
    }
within left taken (frame ∷ came) now (lane, lost, few, inside, is, more) most =
    let count : ℕ = taken lane + lost + 1 in
    let at : count ≤ length (left lane) = omega (arith, inside) in
    let up : taken lane < count = omega arith in
    let r = within left (taken_to lane count taken) came now more (within-on lane count taken (λ x. length (left x)) at most) in
    let least : sum (taken_to lane count taken) + length came ≤ sum now = r.least in
    let u : sum taken + 1 ≤ sum (taken_to lane count taken) = goes-up lane count taken up in
    record { least = omega (arith, least, u); most = r.most }

-- What had left was lost or came, and as many frames came now as left now: all of these are taken.
pub all-taken : (from gone : Lane → List (List ℕ)) (came : List (List ℕ)) (now : Lane → ℕ) → ComeInOrder (λ x. from x ++ gone x) (λ x. length (from x)) came now → AllCome gone (λ x. 0) came → (x : Lane) →
    now x ≡ length (from x ++ gone x)
all-taken from gone came now order all =
    let grown : (x : Lane) → length (from x ++ gone x) ≡ length (from x) + length (gone x) = λ x. length-append (from x) (gone x) in
    let w = within (λ x. from x ++ gone x) (λ x. length (from x)) came now order (λ x. (let g : length (from x ++ gone x) ≡ length (from x) + length (gone x) = grown x in omega (arith, g))) in
    let a : length (gone Directives) + length (gone Data) ≡ 0 + 0 + length came = all-come gone (λ x. 0) came all in
    let l : length (from Directives) + length (from Data) + length came ≤ now Directives + now Data = w.least in
    let p : now Directives ≤ length (from Directives ++ gone Directives) = w.most Directives in
    let q : now Data ≤ length (from Data ++ gone Data) = w.most Data in
    let g : length (from Directives ++ gone Directives) ≡ length (from Directives) + length (gone Directives) = grown Directives in
    let h : length (from Data ++ gone Data) ≡ length (from Data) + length (gone Data) = grown Data in
    by (omega (arith, a, l, p, q, g, h)) (omega (arith, a, l, p, q, g, h)) where
      by : now Directives ≡ length (from Directives ++ gone Directives) → now Data ≡ length (from Data ++ gone Data) → (x : Lane) → now x ≡ length (from x ++ gone x)
      by one two Directives = one
      by one two Data = two
