-- Exported: what comes over a secured wire comes in the order of each lane.
use Rattle.std.proofs.Common.{◌≡◌, ◌⊎◌, inl, inr, ℕ, suc, ◌+◌, ◌-◌, ◌<◌, ◌≤◌, Bool, true, false, Option, Some, None, List, [], ◌∷◌, ◌++◌, length, drop, get_or, refl, sym, ap, subst, ◌∙◌, arith, append_assoc, append-nil, length-append, length-drop}
use Rattle.std.specs.List.{Contains}
use Rattle.std.proofs.lemmas.List.{drop-drop, drop_at, get_or-drop, get_or_at, drop-append-le}
use Rattle.std.proofs.lemmas.List.Elements.{Contains-append_cases, Contains-append_left, Contains-append_right}
use Rattle.aos_frame.specs.Counts.{frame_counts}
use Rattle.aos_frame.specs.declared.config.Lane.{Lane}
use Rattle.aos_frame.specs.declared.config.Lane.TheVariants.{Directives, Data}
use Rattle.aos_frame.specs.LinkFields.{bare_in}
use Rattle.frame_security.specs.declared.opening.FrameRefusal.{FrameRefusal}
use Rattle.frame_security.specs.Frames.{frame_in, number_in, secured}
use Rattle.frame_security.specs.Lives.{AreSomeOf, Sealed}
use Rattle.frame_security.specs.Opening.{OpenerState, after, after_by, refusal}
use Rattle.frame_security.proofs.RoundTrip.{frame_of_secured, number_of_secured}
use Rattle.frame_security.proofs.Taken.{Rise, accepted, contains_more, find, rise_behind}
use Rattle.cfdp_port.specs.Passing.{in_lane}
use Rattle.ports_in_order.specs.InOrder.{ComeInOrder, taken_to}
use Rattle.secured_wire.specs.Direction.{Arrival, NoneForgedOf, SealedIn, bares_in, frames_of_all, frames_by, opener_then}
use Rattle.secured_link.specs.Turns.{WereSealed}

-- ---- some of a list
-- what is after one element
behind_one : {A : Type 0} (all lost : List A) (x : A) (rest : List A) → all ≡ lost ++ x ∷ rest → drop (length lost + 1) all ≡ rest
behind_one all lost x rest is =
    ap (drop (length lost + 1)) (is ∙ sym (append_assoc lost (x ∷ []) rest)) ∙ drop_at (lost ++ x ∷ []) rest (length lost + 1) (length-append lost (x ∷ []))

-- some, with the first ones left out
skip : {A : Type 0} (all xs ys : List A) → AreSomeOf all (xs ++ ys) → (n : ℕ) × (n ≤ length all) × AreSomeOf (drop n all) ys
skip all [] ys h = (0, omega arith, h)
skip all (x ∷ xs) ys (lost, rest, is, h) =
    let m = skip rest xs ys h in
    let len : length all ≡ length lost + suc (length rest) = ap length is ∙ length-append lost (x ∷ rest) in
    let cut : drop m.0 rest ≡ drop (length lost + 1 + m.0) all = ap (drop m.0) (sym (behind_one all lost x rest is)) ∙ drop-drop m.0 (length lost + 1) all in
    (length lost + 1 + m.0, omega (arith, len, m.1), subst (λ l. AreSomeOf l ys) cut m.2)

-- the next one of them, at its place
next_at : {A : Type 0} (d : A) (all : List A) (y : A) (ys : List A) → AreSomeOf all (y ∷ ys) → (n : ℕ) × (n < length all) × (y ≡ get_or all n d) × AreSomeOf (drop (n + 1) all) ys
next_at d all y ys (lost, rest, is, h) =
    let len : length all ≡ length lost + suc (length rest) = ap length is ∙ length-append lost (y ∷ rest) in (
      length lost,
      omega (arith, len),
      sym (ap (λ l. get_or l (length lost) d) is ∙ get_or_at lost y rest d (length lost) refl),
      subst (λ l. AreSomeOf l ys) (sym (behind_one all lost y rest is)) h,
    )

-- some of what is after other elements
further : {A : Type 0} (all more others : List A) → AreSomeOf more others → AreSomeOf (all ++ more) others
further all more [] h = tt
further all more (x ∷ others) (lost, rest, is, h) = (all ++ lost, rest, ap (λ l. all ++ l) is ∙ sym (append_assoc all lost (x ∷ rest)), h)

-- some of one list, and some of another one after it
pub some_and_some : {A : Type 0} (all some more others : List A) → AreSomeOf all some → AreSomeOf more others → AreSomeOf (all ++ more) (some ++ others)
some_and_some all [] more others h k = further all more others k
some_and_some all (x ∷ some) more others (lost, rest, is, h) k =
    (lost, rest ++ more, ap (λ l. l ++ more) is ∙ append_assoc lost (x ∷ rest) more, some_and_some rest some more others h k)

-- ---- one lane
-- Of the frames that left so many were lost or came, and of those after them these may still come.
pub record InLane (from : List (List ℕ)) (taken : ℕ) (some : List (List ℕ)) : Type 0 where
  pub past : ℕ
  pub at : taken ≤ past
  pub within : past ≤ length from
  pub left : AreSomeOf (drop past from) some

lane_skips : (from : List (List ℕ)) (taken : ℕ) (xs ys : List (List ℕ)) → InLane from taken (xs ++ ys) → InLane from taken ys
lane_skips from taken xs ys l =
    let m = skip (drop l.past from) xs ys l.left in
    record {
      past = l.past + m.0;
      at = omega (arith, l.at);
      within = omega (arith, l.within, m.1, length-drop l.past from);
      left = subst (λ r. AreSomeOf r ys) (drop-drop m.0 l.past from) m.2;
    }

-- the next frame comes
record TakesNext (from : List (List ℕ)) (taken : ℕ) (frame : List ℕ) (some : List (List ℕ)) : Type 0 where
  lost : ℕ
  few : lost < frame_counts
  inside : taken + lost < length from
  is : frame ≡ get_or from (taken + lost) []
  next : InLane from (taken + lost + 1) some

lane_takes : (from : List (List ℕ)) (taken : ℕ) (xs : List (List ℕ)) (y : List ℕ) (ys : List (List ℕ)) → length from ≤ taken + frame_counts → InLane from taken (xs ++ y ∷ ys) → TakesNext from taken y ys
lane_takes from taken xs y ys short l =
    let l = lane_skips from taken xs (y ∷ ys) l in
    let n = next_at [] (drop l.past from) y ys l.left in
    let lost : ℕ = l.past + n.0 - taken in
    let place : taken + lost ≡ l.past + n.0 = omega (arith, l.at) in
    let inside : l.past + n.0 < length from = omega (arith, n.1, length-drop l.past from) in
    record {
      lost = lost;
      few = omega (arith, inside, short, place);
      inside = omega (arith, inside, place);
      is = n.2 ∙ get_or-drop l.past from n.0 [] ∙ ap (λ k. get_or from k []) (sym place);
      next = record {
        past = l.past + (n.0 + 1);
        at = omega (arith, place);
        within = omega (arith, inside);
        left = subst (λ r. AreSomeOf r ys) (drop-drop (n.0 + 1) l.past from) n.3;
      };
    }

lane_grows : (from gone : List (List ℕ)) (taken : ℕ) (some others : List (List ℕ)) → InLane from taken some → AreSomeOf gone others → InLane (from ++ gone) taken (some ++ others)
lane_grows from gone taken some others l more = record {
  past = l.past;
  at = l.at;
  within = omega (arith, l.within, length-append from gone);
  left = subst (λ r. AreSomeOf r (some ++ others)) (sym (drop-append-le l.past from gone l.within)) (some_and_some (drop l.past from) some gone others l.left more);
}

-- ---- the frames of a lane among those that were sealed
pub bares-append : (lane : Lane) (xs ys : List SealedIn) → bares_in lane (xs ++ ys) ≡ bares_in lane xs ++ bares_in lane ys
bares-append lane [] ys = refl
bares-append lane (x ∷ xs) ys =
    ap (λ l. in_lane lane x.lane x.frame.bare ++ l) (bares-append lane xs ys) ∙ sym (append_assoc (in_lane lane x.lane x.frame.bare) (bares_in lane xs) (bares_in lane ys))

own_lane : (lane : Lane) (frame : List ℕ) → in_lane lane lane frame ≡ frame ∷ []
own_lane Directives frame = refl
own_lane Data frame = refl

abbrev pub of : SealedIn → Sealed
of x = x.frame

-- ---- both lanes
-- Of all that was sealed, after the frame of this number the rest may still come, in each lane in
-- order; `next` is the number of the next one that is sealed.
pub record Stands (all : List SealedIn) (next last : ℕ) (from : Lane → List (List ℕ)) (taken : Lane → ℕ) : Type 0 where
  pub first : ℕ
  pub rises_all : (more : List SealedIn) → Rise of next more → Rise of first (all ++ more)
  pub rest : List SealedIn
  pub low : ℕ
  pub rises : (more : List SealedIn) → Rise of next more → Rise of low (rest ++ more)
  pub has : (z : SealedIn) → Contains all z → last < z.frame.number → Contains rest z
  pub lanes : (lane : Lane) → InLane (from lane) (taken lane) (bares_in lane rest)

-- ---- what is accepted
keeps : (all : List SealedIn) (r : Option FrameRefusal) (n : ℕ) (o : OpenerState) (a : Arrival) (came : List Arrival) → NoneForgedOf o all (a ∷ came) → NoneForgedOf (after_by r n o) all came
keeps all None n o a came none = λ b at. none b (contains_more a came b at)
keeps all (Some cause) n o a came none = λ b at. none b (contains_more a came b at)

-- If none was forged, all that is accepted was sealed.
pub were_sealed : (all : List SealedIn) (o : OpenerState) (came : List Arrival) → NoneForgedOf o all came → WereSealed o all came
were_sealed all o [] none = tt
were_sealed all o (a ∷ came) none =
    let number : ℕ = number_in (bare_in o.security.fields a.octets) in
    (λ e. none a (0, omega arith, refl) (accepted o a.octets e).0, were_sealed all (after o a.octets) came (keeps all (refusal o a.octets) number o a came none))

-- ---- both lanes, one frame after another
module _ (all : List SealedIn) (next : ℕ) (from : Lane → List (List ℕ)) where
  -- a number is used up
  later : (taken : Lane → ℕ) (last number : ℕ) → last ≤ number → Stands all next last from taken → Stands all next number from taken
  later taken last number le s = record {
    first = s.first;
    rises_all = s.rises_all;
    rest = s.rest;
    low = s.low;
    rises = s.rises;
    has = λ z at greater. s.has z at (omega (arith, le, greater));
    lanes = s.lanes;
  }

  -- the lanes, if a frame of one of them came
  lanes_by : (its : Lane) (count : ℕ) (frame : List ℕ) (taken : Lane → ℕ) (lost rest : List SealedIn) → InLane (from its) count (bares_in its rest) →
      ((lane : Lane) → InLane (from lane) (taken lane) (bares_in lane lost ++ (in_lane lane its frame ++ bares_in lane rest))) →
      (lane : Lane) → InLane (from lane) (taken_to its count taken lane) (bares_in lane rest)
  lanes_by Directives count frame taken lost rest own each Directives = own
  lanes_by Directives count frame taken lost rest own each Data = lane_skips (from Data) (taken Data) (bares_in Data lost) (bares_in Data rest) (each Data)
  lanes_by Data count frame taken lost rest own each Directives = lane_skips (from Directives) (taken Directives) (bares_in Directives lost) (bares_in Directives rest) (each Directives)
  lanes_by Data count frame taken lost rest own each Data = own

  -- What comes with the next frame of a lane.
  record Comes (taken : Lane → ℕ) (y : SealedIn) : Type 0 where
    lost : ℕ
    few : lost < frame_counts
    inside : taken y.lane + lost < length (from y.lane)
    is : y.frame.bare ≡ get_or (from y.lane) (taken y.lane + lost) []
    stands : Stands all next y.frame.number from (taken_to y.lane (taken y.lane + lost + 1) taken)

  -- Of each lane at most as many frames left since the last one came as there are frame counts.
  abbrev pub AreNear : (taken : Lane → ℕ) → Type 0
  AreNear taken = (lane : Lane) → length (from lane) ≤ taken lane + frame_counts

  near_on : (its : Lane) (count : ℕ) (taken : Lane → ℕ) → taken its ≤ count → AreNear taken → (lane : Lane) → length (from lane) ≤ taken_to its count taken lane + frame_counts
  near_on Directives count taken up near Directives = let m = near Directives in omega (arith, m, up)
  near_on Directives count taken up near Data = near Data
  near_on Data count taken up near Directives = near Directives
  near_on Data count taken up near Data = let m = near Data in omega (arith, m, up)

  comes : (taken : Lane → ℕ) (last : ℕ) (y : SealedIn) → AreNear taken → Stands all next last from taken → Contains all y → last < y.frame.number → Comes taken y
  comes taken last y short s at fresh =
      let f = find of s.low s.rest y (subst (Rise of s.low) (append-nil s.rest) (s.rises [] tt)) (s.has y at fresh) in
      let b : List ℕ = y.frame.bare in
      let cut : (lane : Lane) → bares_in lane s.rest ≡ bares_in lane f.lost ++ (in_lane lane y.lane b ++ bares_in lane f.rest) =
      λ lane. ap (bares_in lane) f.is ∙ bares-append lane f.lost (y ∷ f.rest) in
      let each : (lane : Lane) → InLane (from lane) (taken lane) (bares_in lane f.lost ++ (in_lane lane y.lane b ++ bares_in lane f.rest)) =
      λ lane. subst (InLane (from lane) (taken lane)) (cut lane) (s.lanes lane) in
      let own : InLane (from y.lane) (taken y.lane) (bares_in y.lane f.lost ++ b ∷ bares_in y.lane f.rest) =
      subst (λ l. InLane (from y.lane) (taken y.lane) (bares_in y.lane f.lost ++ (l ++ bares_in y.lane f.rest))) (own_lane y.lane b) (each y.lane) in
      let t = lane_takes (from y.lane) (taken y.lane) (bares_in y.lane f.lost) b (bares_in y.lane f.rest) (short y.lane) own in
      record {
        lost = t.lost;
        few = t.few;
        inside = t.inside;
        is = t.is;
        stands = record {
          first = s.first;
          rises_all = s.rises_all;
          rest = f.rest;
          low = y.frame.number + 1;
          rises = λ more h. rise_behind of s.low f.lost y (f.rest ++ more)
              (subst (Rise of s.low) (ap (λ l. l ++ more) f.is ∙ append_assoc f.lost (y ∷ f.rest) more) (s.rises more h));
          has = λ z in_all greater. f.behind z (s.has z in_all (omega (arith, fresh, greater))) greater;
          lanes = lanes_by y.lane (taken y.lane + t.lost + 1) b taken f.lost f.rest t.next each;
        };
      }

  -- ---- octets that come
  -- what comes of one arrival, whatever comes after it
  record ComesOf (taken : Lane → ℕ) (frames : List (List ℕ)) (last : ℕ) : Type 0 where
    now : Lane → ℕ
    in_order : (more : List (List ℕ)) (end : Lane → ℕ) → ComeInOrder from now more end → ComeInOrder from taken (frames ++ more) end
    stands : Stands all next last from now
    near : AreNear now

  step : (o : OpenerState) (a : Arrival) (taken : Lane → ℕ) → AreNear taken → o.security.mac_len ≤ 32 → Stands all next o.last from taken →
      (refusal o a.octets ≡ None → (x : SealedIn) × Contains all x
      × (bare_in o.security.fields a.octets ≡ secured o.security x.frame.key x.frame.spi x.frame.number x.frame.bare)) →
      (r : Option FrameRefusal) (room : Bool) → refusal o a.octets ≡ r →
      ComesOf taken (frames_by room r (frame_in o.security (bare_in o.security.fields a.octets))) (after_by r (number_in (bare_in o.security.fields a.octets)) o).last
  step o a taken short most s none (Some cause) true e = record { now = taken; in_order = λ more end h. h; stands = s; near = short }
  step o a taken short most s none (Some cause) false e = record { now = taken; in_order = λ more end h. h; stands = s; near = short }
  step o a taken short most s none None room e =
      let octets : List ℕ = bare_in o.security.fields a.octets in
      let is_taken = accepted o a.octets e in
      let was = none e in
      let y : SealedIn = was.0 in
      let can = (find of s.first all y (subst (Rise of s.first) (append-nil all) (s.rises_all [] tt)) was.1).can in
      let number : number_in octets ≡ y.frame.number = ap number_in was.2 ∙ number_of_secured o.security y.frame.key y.frame.spi y.frame.number y.frame.bare can.1 can.0 in
      let bare : frame_in o.security octets ≡ y.frame.bare = ap (frame_in o.security) was.2 ∙ frame_of_secured o.security y.frame.key y.frame.spi y.frame.number y.frame.bare can.1 most in
      let fresh : o.last < y.frame.number = omega (arith, number, is_taken.1) in
      at_room room (frame_in o.security octets) (number_in octets) y bare number (comes taken o.last y short s was.1 fresh) (later taken o.last (number_in octets) (omega (arith, is_taken.1)) s) where
        at_room : (room : Bool) (frame : List ℕ) (n : ℕ) (y : SealedIn) → frame ≡ y.frame.bare → n ≡ y.frame.number → Comes taken y → Stands all next n from taken →
            ComesOf taken (frames_by room None frame) n
        at_room false frame n y bare number c s' = record { now = taken; in_order = λ more end h. h; stands = s'; near = short }
        at_room true frame n y bare number c s' = record {
          now = taken_to y.lane (taken y.lane + c.lost + 1) taken;
          in_order = λ more end h. (y.lane, c.lost, c.few, c.inside, bare ∙ c.is, h);
          stands = subst (λ k. Stands all next k from (taken_to y.lane (taken y.lane + c.lost + 1) taken)) (sym number) c.stands;
          near = near_on y.lane (taken y.lane + c.lost + 1) taken (omega arith) short;
        }

  keeps_size : (r : Option FrameRefusal) (n : ℕ) (o : OpenerState) → o.security.mac_len ≤ 32 → (after_by r n o).security.mac_len ≤ 32
  keeps_size None n o most = most
  keeps_size (Some cause) n o most = most

  -- What comes of all that comes, comes in the order of each lane.
  pub hears : (o : OpenerState) (came : List Arrival) (taken : Lane → ℕ) → AreNear taken → o.security.mac_len ≤ 32 → Stands all next o.last from taken → WereSealed o all came →
      (end : Lane → ℕ) × ComeInOrder from taken (frames_of_all o came) end × Stands all next (opener_then o came).last from end
  hears o [] taken short most s none = (taken, refl, s)
  hears o (a ∷ came) taken short most s (none, others) =
      let number : ℕ = number_in (bare_in o.security.fields a.octets) in
      let one = step o a taken short most s none (refusal o a.octets) a.handed_on refl in
      let more = hears (after o a.octets) came one.now one.near (keeps_size (refusal o a.octets) number o most) one.stands others in
      (more.0, one.in_order (frames_of_all (after o a.octets) came) more.0 more.1, more.2)

-- More was sealed, and left in each lane.
pub sends : (all more : List SealedIn) (next behind last : ℕ) (from gone then_from : Lane → List (List ℕ)) (taken : Lane → ℕ) → Stands all next last from taken →
    ((others : List SealedIn) → Rise of behind others → Rise of next (more ++ others)) → ((lane : Lane) → AreSomeOf (gone lane) (bares_in lane more)) →
    ((lane : Lane) → then_from lane ≡ from lane ++ gone lane) → Stands (all ++ more) behind last then_from taken
sends all more next behind last from gone then_from taken s rises some is = record {
  first = s.first;
  rises_all = λ others h. subst (Rise of s.first) (sym (append_assoc all more others)) (s.rises_all (more ++ others) (rises others h));
  rest = s.rest ++ more;
  low = s.low;
  rises = λ others h. subst (Rise of s.low) (sym (append_assoc s.rest more others)) (s.rises (more ++ others) (rises others h));
  has = λ z at above. by z above (Contains-append_cases all more z at);
  lanes = λ lane. subst (λ l. InLane l (taken lane) (bares_in lane (s.rest ++ more))) (sym (is lane))
      (subst (InLane (from lane ++ gone lane) (taken lane)) (sym (bares-append lane s.rest more)) (lane_grows (from lane) (gone lane) (taken lane) (bares_in lane s.rest) (bares_in lane more) (s.lanes lane) (some lane)));
} where
  by : (z : SealedIn) → last < z.frame.number → Contains all z ⊎ Contains more z → Contains (s.rest ++ more) z
  by z above (inl at) = Contains-append_left s.rest more z (s.has z at above)
  by z above (inr at) = Contains-append_right s.rest more z at

-- Nothing was sealed yet, by a sealer with this number, and nothing left.
pub begins : (next last : ℕ) → Stands [] next last (λ lane. []) (λ lane. 0)
begins next last = record {
  first = next;
  rises_all = λ more h. h;
  rest = [];
  low = next;
  rises = λ more h. h;
  has = λ z at above. at;
  lanes = λ lane. record { past = 0; at = omega arith; within = omega arith; left = tt };
}
