-- A frame that is late is refused.
use Rattle.std.proofs.Common.{◌≡◌, ◌⊎◌, inl, inr, ℕ, ◌+◌, ◌<◌, ◌≤◌, ◌^◌, Option, Some, None, List, [], ◌∷◌, ◌++◌, length, map, refl, ap, subst, ◌∙◌, arith}
use Rattle.std.specs.List.{Contains}
use Rattle.std.proofs.lemmas.List.Elements.{Contains-append_cases, Contains-append_right}
use Rattle.aos_frame.specs.LinkFields.{bare_in}
use Rattle.frame_security.specs.declared.opening.FrameRefusal.{FrameRefusal}
use Rattle.frame_security.specs.Frames.{number_in, secured}
use Rattle.frame_security.specs.Opening.{OpenerState, after, after_by, refusal}
use Rattle.frame_security.proofs.RoundTrip.{number_of_secured}
use Rattle.frame_security.proofs.Taken.{accepted, contains_cases}
use Rattle.secured_wire.specs.Direction.{Arrival, SealedIn}
use Rattle.secured_link.specs.Lives.{NumbersRise}
use Rattle.secured_link.specs.Turns.{WereSealed}

-- ---- numbers that rise
abbrev pub Rising : ℕ → List SealedIn → Type 0
Rising from xs = NumbersRise from (map (λ (x : SealedIn). x.frame) xs)

no_less : (from : ℕ) (xs : List SealedIn) (y : SealedIn) → Rising from xs → Contains xs y → from ≤ y.frame.number
no_less from [] y h (k, lt, is) = absurd (omega (arith, lt))
no_less from (x ∷ xs) y (up, small, six, h) at = by (no_less (x.frame.number + 1) xs y h) (contains_cases x xs y at) where
  by : (Contains xs y → x.frame.number + 1 ≤ y.frame.number) → (x ≡ y) ⊎ Contains xs y → from ≤ y.frame.number
  by more (inl same) = subst (λ (z : SealedIn). from ≤ z.frame.number) same up
  by more (inr later) = (let m : x.frame.number + 1 ≤ y.frame.number = more later in omega (arith, m, up))

-- a frame that can be sealed, with a lesser number than another one
record IsEarlier (x y : SealedIn) : Type 0 where
  less : x.frame.number < y.frame.number
  small : x.frame.number < 2 ^ 64
  six : 6 ≤ length x.frame.bare

earlier : (from : ℕ) (xs ys : List SealedIn) (x y : SealedIn) → Rising from (xs ++ ys) → Contains xs x → Contains ys y → IsEarlier x y
earlier from [] ys x y h (k, lt, is) at = absurd (omega (arith, lt))
earlier from (z ∷ xs) ys x y (up, small, six, h) in_xs in_ys = by (earlier (z.frame.number + 1) xs ys x y h) (contains_cases z xs x in_xs) where
  by : (Contains xs x → Contains ys y → IsEarlier x y) → (z ≡ x) ⊎ Contains xs x → IsEarlier x y
  by more (inl same) = subst (λ (w : SealedIn). IsEarlier w y) same (record {
    less = (let m : z.frame.number + 1 ≤ y.frame.number = no_less (z.frame.number + 1) (xs ++ ys) y h (Contains-append_right xs ys y in_ys) in omega (arith, m));
    small = small;
    six = six;
  })
  by more (inr later) = more later in_ys

-- ---- what is accepted
module _ (first : ℕ) (before since : List SealedIn) (x : SealedIn) (rises : Rising first (before ++ since)) (at : Contains since x) where
  abbrev WasOf : List SealedIn → OpenerState → List ℕ → Type 0
  WasOf all o octets = (y : SealedIn) × Contains all y × (bare_in o.security.fields octets ≡ secured o.security y.frame.key y.frame.spi y.frame.number y.frame.bare)

  one : (o : OpenerState) (octets : List ℕ) → x.frame.number ≤ o.last → refusal o octets ≡ None → WasOf (before ++ since) o octets → WasOf since o octets
  one o octets low e (y, among, is) = by (Contains-append_cases before since y among) where
    by : Contains before y ⊎ Contains since y → WasOf since o octets
    by (inl old) =
        let l = earlier first before since y x rises old at in
        let less : y.frame.number < x.frame.number = l.less in
        let number : number_in (bare_in o.security.fields octets) ≡ y.frame.number = ap number_in is ∙ number_of_secured o.security y.frame.key y.frame.spi y.frame.number y.frame.bare l.six l.small in
        let fresh : o.last < number_in (bare_in o.security.fields octets) = (accepted o octets e).1 in
        absurd (omega (arith, less, number, fresh, low))
    by (inr new) = (y, new, is)

  goes-up : (o : OpenerState) (octets : List ℕ) (r : Option FrameRefusal) → refusal o octets ≡ r → o.last ≤ (after_by r (number_in (bare_in o.security.fields octets)) o).last
  goes-up o octets None e = (let fresh : o.last < number_in (bare_in o.security.fields octets) = (accepted o octets e).1 in omega (arith, fresh))
  goes-up o octets (Some cause) e = omega arith

  pub late : (o : OpenerState) (came : List Arrival) → x.frame.number ≤ o.last → WereSealed o (before ++ since) came → WereSealed o since came
  late o [] low h = tt
  late o (a ∷ came) low (own, rest) =
      let up : o.last ≤ (after o a.octets).last = goes-up o a.octets (refusal o a.octets) refl in
      (λ e. one o a.octets low e (own e), late (after o a.octets) came (omega (arith, low, up)) rest)
