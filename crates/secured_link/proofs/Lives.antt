-- Only what was sealed is handed on, in its order and none twice, if what was noted outlasts.
use Rattle.std.proofs.Common.{◌≡◌, ℕ, ◌+◌, ◌<◌, ◌≤◌, Bool, true, false, Option, Some, None, List, [], ◌∷◌, ◌++◌, map, refl, sym, ap, subst, ◌∙◌, arith, append_assoc}
use Rattle.std.specs.List.{Contains}
use Rattle.std.proofs.lemmas.List.{map-append}
use Rattle.aos_frame.specs.LinkFields.{bare_in}
use Rattle.frame_security.specs.declared.opening.FrameRefusal.{FrameRefusal}
use Rattle.frame_security.specs.Frames.{frame_in, number_in}
use Rattle.frame_security.specs.Lives.{AreSomeOf, IsAuthenticAt, Sealed, WasSealed}
use Rattle.frame_security.specs.Opening.{OpenerState, after, after_by, refusal}
use Rattle.frame_security.proofs.RoundTrip.{frame_of_secured, number_of_secured}
use Rattle.frame_security.proofs.Taken.{Rise, accepted, contains_more, find}
use Rattle.secured_link.specs.Lives.{NoneForgedOver, NotesOutlast, NumbersRise, Receiving, all_handed_on, last_noted, noted_by}
use Rattle.secured_link.proofs.Copies.{keeps_size}
use Rattle.secured_wire.specs.Direction.{Arrival, frames_by, frames_of_all}

abbrev itself : Sealed → Sealed
itself x = x

abbrev bares : List Sealed → List (List ℕ)
bares xs = map (λ (x : Sealed). x.bare) xs

rises_by : (from : ℕ) (xs : List Sealed) → NumbersRise from xs → Rise itself from xs
rises_by from [] h = tt
rises_by from (x ∷ xs) (up, small, six, h) = (up, (small, six), rises_by (x.number + 1) xs h)

module _ (all : List Sealed) (first : ℕ) (rising_all : Rise itself first all) where
  -- After the frame that was handed on last, with this number, all that have a greater one are
  -- left.
  record Left (noted : ℕ) (rest : List Sealed) : Type 0 where
    from : ℕ
    rises : Rise itself from rest
    has : (z : Sealed) → Contains all z → noted < z.number → Contains rest z

  -- What one arrival leaves.
  record Leaves (o : OpenerState) (octets : List ℕ) (r : Option FrameRefusal) (handed_on : Bool) (before : ℕ) (rest : List Sealed) : Type 0 where
    behind : List Sealed
    left : Left (noted_by handed_on r (number_in (bare_in o.security.fields octets)) before) behind
    low : noted_by handed_on r (number_in (bare_in o.security.fields octets)) before ≤ (after_by r (number_in (bare_in o.security.fields octets)) o).last
    takes : (tail : List (List ℕ)) → AreSomeOf (bares behind) tail → AreSomeOf (bares rest) (frames_by handed_on r (frame_in o.security (bare_in o.security.fields octets)) ++ tail)

  step : (o : OpenerState) (octets : List ℕ) (before : ℕ) (rest : List Sealed) → o.security.mac_len ≤ 32 → before ≤ o.last → Left before rest → (IsAuthenticAt o octets → WasSealed o.security all octets) →
      (r : Option FrameRefusal) (handed_on : Bool) → refusal o octets ≡ r → Leaves o octets r handed_on before rest
  step o octets before rest most low left none (Some cause) true e = record { behind = rest; left = left; low = low; takes = λ tail h. h }
  step o octets before rest most low left none (Some cause) false e = record { behind = rest; left = left; low = low; takes = λ tail h. h }
  step o octets before rest most low left none None false e =
      let up = (accepted o octets e).1 in
      record { behind = rest; left = left; low = omega (arith, low, up); takes = λ tail h. h }
  step o octets before rest most low left none None true e =
      let inner : List ℕ = bare_in o.security.fields octets in
      let is_taken = accepted o octets e in
      let was = none is_taken.0 in
      let y : Sealed = was.0 in
      let can = (find itself first all y rising_all was.1).can in
      let number : number_in inner ≡ y.number = ap number_in was.2 ∙ number_of_secured o.security y.key y.spi y.number y.bare can.1 can.0 in
      let bare : frame_in o.security inner ≡ y.bare = ap (frame_in o.security) was.2 ∙ frame_of_secured o.security y.key y.spi y.number y.bare can.1 most in
      let fresh : before < y.number = omega (arith, number, low, is_taken.1) in
      let f = find itself left.from rest y left.rises (left.has y was.1 fresh) in
      let cut : bares rest ≡ bares f.lost ++ frame_in o.security inner ∷ bares f.rest =
      ap bares f.is ∙ map-append (λ (x : Sealed). x.bare) f.lost (y ∷ f.rest) ∙ ap (λ b. bares f.lost ++ b ∷ bares f.rest) (sym bare) in
      record {
        behind = f.rest;
        left = record {
          from = y.number + 1;
          rises = f.rises;
          has = λ z at greater. f.behind z (left.has z at (omega (arith, number, greater, fresh))) (omega (arith, number, greater));
        };
        low = omega arith;
        takes = λ tail h. (bares f.lost, bares f.rest, cut, h);
      }

  abbrev NoneForgedFor : OpenerState → List Arrival → Type 0
  NoneForgedFor o came = (a : Arrival) → Contains came a → IsAuthenticAt o a.octets → WasSealed o.security all a.octets

  keeps : (r : Option FrameRefusal) (n : ℕ) (o : OpenerState) (a : Arrival) (came : List Arrival) → NoneForgedFor o (a ∷ came) → NoneForgedFor (after_by r n o) came
  keeps None n o a came none = λ b at. none b (contains_more a came b at)
  keeps (Some cause) n o a came none = λ b at. none b (contains_more a came b at)

  one_life : (o : OpenerState) (came : List Arrival) (before : ℕ) (rest : List Sealed) → o.security.mac_len ≤ 32 → before ≤ o.last → Left before rest → NoneForgedFor o came →
      (behind : List Sealed) × Left (last_noted before o came) behind × ((tail : List (List ℕ)) → AreSomeOf (bares behind) tail → AreSomeOf (bares rest) (frames_of_all o came ++ tail))
  one_life o [] before rest most low left none = (rest, left, λ tail h. h)
  one_life o (a ∷ came) before rest most low left none =
      let number : ℕ = number_in (bare_in o.security.fields a.octets) in
      let bare : List ℕ = frame_in o.security (bare_in o.security.fields a.octets) in
      let one = step o a.octets before rest most low left (none a (0, omega arith, refl)) (refusal o a.octets) a.handed_on refl in
      let later = one_life (after o a.octets) came (noted_by a.handed_on (refusal o a.octets) number before) one.behind (keeps_size (refusal o a.octets) number o most) one.low one.left
      (keeps (refusal o a.octets) number o a came none) in (
        later.0,
        later.1,
        λ tail h. subst (AreSomeOf (bares rest)) (sym (append_assoc (frames_by a.handed_on (refusal o a.octets) bare) (frames_of_all (after o a.octets) came) tail))
            (one.takes (frames_of_all (after o a.octets) came ++ tail) (later.2 tail h)),
      )

  lives : (before : ℕ) (receivers : List Receiving) (rest : List Sealed) → Left before rest → NotesOutlast before receivers → NoneForgedOver all receivers → AreSomeOf (bares rest) (all_handed_on receivers)
  lives before [] rest left on none = tt
  lives before (life ∷ receivers) rest left (le, most, on) (none, later) =
      let one = one_life life.opener life.came before rest most le left none in
      one.2 (all_handed_on receivers) (lives (last_noted before life.opener life.came) receivers one.0 one.1 on later)

pub only_handed_on : (all : List Sealed) (receivers : List Receiving) → NumbersRise 1 all → NotesOutlast 0 receivers → NoneForgedOver all receivers → AreSomeOf (map (λ (x : Sealed). x.bare) all) (all_handed_on receivers)
only_handed_on all receivers rising on none =
    let rises : Rise itself 1 all = rises_by 1 all rising in
    lives all 1 rises 0 receivers all (record { from = 1; rises = rises; has = λ z at greater. at }) on none
