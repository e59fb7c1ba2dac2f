-- Exported: only what was sealed is taken, in its order, and none twice; `find` and `accepted` for
-- callers.
use Rattle.std.proofs.Common.{◌≡◌, ◌⊎◌, inl, inr, ℕ, zero, suc, ◌+◌, ◌^◌, ◌<◌, ◌≤◌, nat_le, Bool, true, false, not, if◌then◌else◌, Option, Some, None, List, [], ◌∷◌, ◌++◌, length, map, refl, sym, ap, subst, ◌∙◌, arith, append_assoc}
use Rattle.std.specs.Bool.{⊤}
use Rattle.std.specs.List.{Contains, AllByRecursion}
use Rattle.std.proofs.lemmas.Bool.{leb-false}
use Rattle.std.proofs.lemmas.List.{map-append}
use Rattle.aos_frame.specs.LinkFields.{bare_in, fields_fault}
use Rattle.aos_frame.specs.declared.opening.FieldsFault.{FieldsFault}
use Rattle.frame_security.specs.declared.config.Security.{Security}
use Rattle.frame_security.specs.declared.opening.FrameRefusal.{FrameRefusal}
use Rattle.frame_security.specs.declared.opening.FrameRefusal.TheVariants.{Short, NotAuthentic, Replayed}
use Rattle.frame_security.specs.Frames.{frame_in, number_in, spi_in}
use Rattle.frame_security.specs.Sealing.{SealerState}
use Rattle.frame_security.specs.Opening.{OpenerState, after, after_by, bare_fault, is_authentic, key_fault, key_of, refusal, refusal_by}
use Rattle.frame_security.specs.Lives.{AreSomeOf, IsAuthenticAt, NoneForged, Opening, OpenersGoOn, Sealed, Sealing, SealersGoOn, WasSealed, after_all, all_frames, all_given, all_sealed, given, given_by, sealed_by}
use Rattle.frame_security.proofs.RoundTrip.{frame_of_secured, number_of_secured}

-- ---- an element of a list
pub contains_cases : {A : Type 0} (x : A) (xs : List A) (y : A) → Contains (x ∷ xs) y → (x ≡ y) ⊎ Contains xs y
contains_cases x xs y (zero, lt, is) = inl is
contains_cases x xs y (suc k, lt, is) = inr (k, omega (arith, lt), is)

pub contains_more : {A : Type 0} (x : A) (xs : List A) (y : A) → Contains xs y → Contains (x ∷ xs) y
contains_more x xs y (k, lt, is) = (suc k, omega (arith, lt), is)

-- ---- what was sealed has rising numbers
-- a frame that can be sealed
abbrev pub CanBe : Sealed → Type 0
CanBe x = (x.number < 2 ^ 64) × (6 ≤ length x.bare)

-- frames that were sealed, each with what else is known of it
module _ {A : Type 0} (of : A → Sealed) where
  -- the numbers rise from this one on
  abbrev pub Rise : ℕ → List A → Type 0
  Rise from [] = ⊤
  Rise from (x ∷ more) = (from ≤ (of x).number) × CanBe (of x) × Rise ((of x).number + 1) more

  pub rise_from : (low high : ℕ) (xs : List A) → low ≤ high → Rise high xs → Rise low xs
  rise_from low high [] le h = tt
  rise_from low high (x ∷ more) le (up, can, h) = (omega (arith, le, up), can, h)

  -- the frames after one of them
  pub rise_behind : (from : ℕ) (lost : List A) (y : A) (rest : List A) → Rise from (lost ++ y ∷ rest) → Rise ((of y).number + 1) rest
  rise_behind from [] y rest (up, can, h) = h
  rise_behind from (x ∷ lost) y rest (up, can, h) = rise_behind ((of x).number + 1) lost y rest h

  -- One of them: the frames before it, and the frames after it, among which are all of greater
  -- numbers.
  pub record Found (xs : List A) (y : A) : Type 0 where
    pub can : CanBe (of y)
    pub lost : List A
    pub rest : List A
    pub is : xs ≡ lost ++ y ∷ rest
    pub rises : Rise ((of y).number + 1) rest
    pub behind : (z : A) → Contains xs z → (of y).number < (of z).number → Contains rest z

  no_less : (from : ℕ) (xs : List A) (y : A) → Rise from xs → Contains xs y → from ≤ (of y).number
  no_less from [] y h (k, lt, is) = absurd (omega (arith, lt))
  no_less from (x ∷ xs) y (up, can, h) at = by (no_less ((of x).number + 1) xs y h) (contains_cases x xs y at) where
    by : (Contains xs y → (of x).number + 1 ≤ (of y).number) → (x ≡ y) ⊎ Contains xs y → from ≤ (of y).number
    by more (inl same) = subst (λ (z : A). from ≤ (of z).number) same up
    by more (inr later) = let m = more later in omega (arith, m, up)

  pub find : (from : ℕ) (xs : List A) (y : A) → Rise from xs → Contains xs y → Found xs y
  find from [] y h (k, lt, is) = absurd (omega (arith, lt))
  find from (x ∷ xs) y (up, can, h) at = by (find ((of x).number + 1) xs y h) (contains_cases x xs y at) where
    here : (z : A) → (of x).number < (of z).number → (x ≡ z) ⊎ Contains xs z → Contains xs z
    here z greater (inl e) = absurd (let n = ap (λ (w : A). (of w).number) e in omega (arith, greater, n))
    here z greater (inr later) = later

    among : (f : Found xs y) → (of x).number + 1 ≤ (of y).number → (z : A) → (of y).number < (of z).number → (x ≡ z) ⊎ Contains xs z → Contains f.rest z
    among f low z greater (inl e) = absurd (let n = ap (λ (w : A). (of w).number) e in omega (arith, low, greater, n))
    among f low z greater (inr in_xs) = f.behind z in_xs greater

    by : (Contains xs y → Found xs y) → (x ≡ y) ⊎ Contains xs y → Found (x ∷ xs) y
    by more (inl same) = subst (λ (w : A). Found (x ∷ xs) w) same (record {
      can = can;
      lost = [];
      rest = xs;
      is = refl;
      rises = h;
      behind = λ z in_all greater. here z greater (contains_cases x xs z in_all);
    })
    by more (inr later) =
        let f = more later in
        let low = no_less ((of x).number + 1) xs y h later in
        record {
          can = f.can;
          lost = x ∷ f.lost;
          rest = f.rest;
          is = ap (λ l. x ∷ l) f.is;
          rises = f.rises;
          behind = λ z in_all greater. among f low z greater (contains_cases x xs z in_all);
        }

abbrev itself : Sealed → Sealed
itself x = x

rise_then : (s : SealerState) (frames : List (List ℕ)) (more : List Sealed) → s.next + length frames < 2 ^ 64 → AllByRecursion (λ bare. 6 ≤ length bare) frames →
    Rise itself (s.next + length frames) more → Rise itself s.next (sealed_by s frames ++ more)
rise_then s [] more few long h = let none : s.next + 0 ≡ s.next = omega arith in subst (λ n. Rise itself n more) none h
rise_then s (bare ∷ frames) more few (six, long) h =
    let one : s.next + suc (length frames) ≡ s.next + 1 + length frames = omega arith in
    (omega arith, (omega (arith, few), six), rise_then (record s { next = s.next + 1 }) frames more (omega (arith, few)) long (subst (λ n. Rise itself n more) one h))

rising : (from : ℕ) (lives : List Sealing) → SealersGoOn from lives → Rise itself from (all_sealed lives)
rising from [] h = tt
rising from (life ∷ lives) (up, few, long, h) =
    rise_from itself from life.sealer.next (all_sealed (life ∷ lives)) up
    (rise_then life.sealer life.frames (all_sealed lives) few long (rising (life.sealer.next + length life.frames) lives h))

abbrev bares : List Sealed → List (List ℕ)
bares xs = map (λ x. x.bare) xs

bares_of : (s : SealerState) (frames : List (List ℕ)) (more : List Sealed) → bares (sealed_by s frames ++ more) ≡ frames ++ bares more
bares_of s [] more = refl
bares_of s (bare ∷ frames) more = ap (λ l. bare ∷ l) (bares_of (record s { next = s.next + 1 }) frames more)

all_bares : (lives : List Sealing) → bares (all_sealed lives) ≡ all_frames lives
all_bares [] = refl
all_bares (life ∷ lives) = bares_of life.sealer life.frames (all_sealed lives) ∙ ap (λ l. life.frames ++ l) (all_bares lives)

-- ---- octets that are taken
-- by the tests, none of which found a fault
right_by : (right used : Bool) → (if not right then Some NotAuthentic else if used then Some Replayed else None) ≡ None → (right ≡ true) × (used ≡ false)
right_by true false e = (refl, refl)
right_by true true e = absurd cc
right_by false used e = absurd cc

known_by : (s : Security) (found : Option (List ℕ)) (last : ℕ) (octets : List ℕ) → key_fault s found last octets ≡ None →
    (key : List ℕ) × (found ≡ Some key) × (is_authentic s key octets ≡ true) × (last < number_in octets)
known_by s None last octets e = absurd cc
known_by s (Some key) last octets e =
    let h = right_by (is_authentic s key octets) (nat_le (number_in octets) last) e in
    (key, refl, h.0, leb-false (number_in octets) last h.1)

whole_by : (long : Bool) (behind : Option FrameRefusal) → (if not long then Some Short else behind) ≡ None → behind ≡ None
whole_by true behind e = e
whole_by false behind e = absurd cc

fields_by : (fault : Option FieldsFault) (behind : Option FrameRefusal) → refusal_by fault behind ≡ None → behind ≡ None
fields_by None behind e = e
fields_by (Some f) behind e = absurd cc

-- a frame that isn't refused is authentic, and its number is fresh
pub accepted : (o : OpenerState) (frame : List ℕ) → refusal o frame ≡ None → IsAuthenticAt o frame × (o.last < number_in (bare_in o.security.fields frame))
accepted o frame e =
    let octets : List ℕ = bare_in o.security.fields frame in
    let inner : bare_fault o octets ≡ None = fields_by (fields_fault o.security.fields frame) (bare_fault o octets) e in
    let by_key : key_fault o.security (key_of o (spi_in octets)) o.last octets ≡ None =
    whole_by (nat_le (16 + o.security.mac_len) (length octets)) (key_fault o.security (key_of o (spi_in octets)) o.last octets) inner in
    let h = known_by o.security (key_of o (spi_in octets)) o.last octets by_key in
    ((h.0, h.1, h.2), h.3)

-- ---- the lives of an opener
module _ (all : List Sealed) (first : ℕ) (rising_all : Rise itself first all) where
  -- After the frame of this number the rest is left: all frames that have a greater one.
  record Left (last : ℕ) (rest : List Sealed) : Type 0 where
    from : ℕ
    rises : Rise itself from rest
    has : (z : Sealed) → Contains all z → last < z.number → Contains rest z

  -- These frames are some of the rest, and what is after the last of them is left.
  abbrev Takes : (rest : List Sealed) → (taken : List (List ℕ)) → (behind : List Sealed) → Type 0
  Takes rest taken behind = (tail : List (List ℕ)) → AreSomeOf (bares behind) tail → AreSomeOf (bares rest) (taken ++ tail)

  abbrev NoneForgedFor : OpenerState → List (List ℕ) → Type 0
  NoneForgedFor o came = (frame : List ℕ) → Contains came frame → IsAuthenticAt o frame → WasSealed o.security all frame

  -- ---- one that came
  step : (o : OpenerState) (frame : List ℕ) (rest : List Sealed) → o.security.mac_len ≤ 32 → Left o.last rest → (IsAuthenticAt o frame → WasSealed o.security all frame) →
      (r : Option FrameRefusal) → refusal o frame ≡ r →
      (behind : List Sealed) × Left (after_by r (number_in (bare_in o.security.fields frame)) o).last behind
      × Takes rest (given_by r (frame_in o.security (bare_in o.security.fields frame))) behind
  step o frame rest most left none (Some cause) e = (rest, left, λ tail h. h)
  step o frame rest most left none None e =
      let s : Security = o.security in
      let octets : List ℕ = bare_in s.fields frame in
      let is_taken = accepted o frame e in
      let was = none is_taken.0 in
      let y : Sealed = was.0 in
      let can = (find itself first all y rising_all was.1).can in
      let number : number_in octets ≡ y.number = ap number_in was.2 ∙ number_of_secured s y.key y.spi y.number y.bare can.1 can.0 in
      let bare : frame_in s octets ≡ y.bare = ap (frame_in s) was.2 ∙ frame_of_secured s y.key y.spi y.number y.bare can.1 most in
      let fresh : o.last < y.number = omega (arith, number, is_taken.1) in
      let f = find itself left.from rest y left.rises (left.has y was.1 fresh) in
      let cut : bares rest ≡ bares f.lost ++ frame_in s octets ∷ bares f.rest =
      ap bares f.is ∙ map-append (λ (x : Sealed). x.bare) f.lost (y ∷ f.rest) ∙ ap (λ b. bares f.lost ++ b ∷ bares f.rest) (sym bare) in (
        f.rest,
        record {
          from = y.number + 1;
          rises = f.rises;
          has = λ z at greater. f.behind z (left.has z at (omega (arith, number, greater, is_taken.1))) (omega (arith, number, greater));
        },
        λ tail h. (bares f.lost, bares f.rest, cut, h),
      )

  -- ---- a life, and all lives
  keeps : (r : Option FrameRefusal) (n : ℕ) (o : OpenerState) (frame : List ℕ) (came : List (List ℕ)) → NoneForgedFor o (frame ∷ came) → NoneForgedFor (after_by r n o) came
  keeps None n o frame came none = λ f at. none f (contains_more frame came f at)
  keeps (Some cause) n o frame came none = λ f at. none f (contains_more frame came f at)

  keeps_size : (r : Option FrameRefusal) (n : ℕ) (o : OpenerState) → o.security.mac_len ≤ 32 → (after_by r n o).security.mac_len ≤ 32
  keeps_size None n o most = most
  keeps_size (Some cause) n o most = most

  one_life : (o : OpenerState) (came : List (List ℕ)) (rest : List Sealed) → o.security.mac_len ≤ 32 → Left o.last rest → NoneForgedFor o came →
      (behind : List Sealed) × Left (after_all o came).last behind × Takes rest (given o came) behind
  one_life o [] rest most left none = (rest, left, λ tail h. h)
  one_life o (frame ∷ came) rest most left none =
      let number : ℕ = number_in (bare_in o.security.fields frame) in
      let bare : List ℕ = frame_in o.security (bare_in o.security.fields frame) in
      let one = step o frame rest most left (none frame (0, omega arith, refl)) (refusal o frame) refl in
      let later = one_life (after o frame) came one.0 (keeps_size (refusal o frame) number o most) one.1 (keeps (refusal o frame) number o frame came none) in (
        later.0,
        later.1,
        λ tail h. subst (AreSomeOf (bares rest)) (sym (append_assoc (given_by (refusal o frame) bare) (given (after o frame) came) tail))
            (one.2 (given (after o frame) came ++ tail) (later.2 tail h)),
      )

  weaker : (low high : ℕ) (rest : List Sealed) → low ≤ high → Left low rest → Left high rest
  weaker low high rest le left = record { from = left.from; rises = left.rises; has = λ z at greater. left.has z at (omega (arith, le, greater)) }

  lives : (last : ℕ) (openers : List Opening) (rest : List Sealed) → Left last rest → OpenersGoOn last openers → NoneForged all openers → AreSomeOf (bares rest) (all_given openers)
  lives last [] rest left on none = tt
  lives last (life ∷ openers) rest left (le, valid, on) (none, later) =
      let one = one_life life.opener life.came rest valid.most (weaker last life.opener.last rest le left) none in
      one.2 (all_given openers) (lives (after_all life.opener life.came).last openers one.0 one.1 on later)

pub only_sealed : (sealers : List Sealing) (openers : List Opening) → SealersGoOn 1 sealers → OpenersGoOn 0 openers → NoneForged (all_sealed sealers) openers → AreSomeOf (all_frames sealers) (all_given openers)
only_sealed sealers openers sealing opening none =
    let all : List Sealed = all_sealed sealers in
    let rises : Rise itself 1 all = rising 1 sealers sealing in
    subst (λ l. AreSomeOf l (all_given openers)) (all_bares sealers)
    (lives all 1 rises 0 openers all (record { from = 1; rises = rises; has = λ z at greater. at }) opening none)
