-- Octets that come to a station, and a new station that is made.
use Rattle.std.proofs.Common.{◌≡◌, ℕ, zero, suc, ◌+◌, ◌<◌, ◌≤◌, true, Option, Some, None, IfSome, List, [], ◌∷◌, ◌++◌, length, map, slice_index_or, refl, sym, ap, ap₂, subst, ◌∙◌, arith, append-nil}
use Rattle.std.specs.Prelude.{slice_get, unwrap_or}
use Rattle.std.proofs.lemmas.List.{map-append}
use Rattle.aos_frame.specs.Frame.{lane_channel}
use Rattle.aos_frame.specs.declared.config.Lane.{Lane}
use Rattle.aos_frame.specs.declared.config.Lane.TheVariants.{Directives, Data}
use Rattle.aos_frame.specs.declared.config.LinkConfig.{LinkConfig}
use Rattle.link_stack.specs.AnyOrder.{IsStray, IsWithinCounts}
use Rattle.link_stack.specs.EndToEnd.{AreNear, keep_place, made_of}
use Rattle.link_stack.specs.Lives.{AreComingOf, ComingOf, CopyOf, NoiseOf, Life, life_at, made_in, numbers_of, octets_coming}
use Rattle.link_stack.specs.Downward.{both_counted_from, first_down}
use Rattle.link_stack.specs.Upward.{first_up}
use Rattle.cfdp_directives.specs.declared.user.indication.Indication.{Indication}
use Rattle.cfdp_directives.specs.User.Put as user
use Rattle.cfdp_entity.specs.Config.{IsConfig}
use Rattle.cfdp_entity.specs.Entity.{first_entity}
use Rattle.cfdp_station.specs.declared.config.StationConfig.{StationConfig}
use Rattle.cfdp_station.specs.Station.{StationState}
use Rattle.cfdp_station.specs.Taking.{TakesFrame}
use Rattle.any_order.specs.Calls.{Receives, Restarts, End, entity_of, lives, numbered_from}
use Rattle.any_order.specs.Kept.{DoesCalls, EndKept, HasTaken, IsOf, LifeKept, Makes, all_kept, frames_in, kept_of, last_at, last_of, present, with_last}
use Rattle.any_order.proofs.Lives.{coming_both}

-- ---- numbers
keep_more : (lane its : Lane) (n : ℕ) (a b c : List ℕ) → c ≡ a ++ b → keep_place lane its n c ≡ keep_place lane its n a ++ b
keep_more Directives Directives n a b c same = ap (λ l. n ∷ l) same
keep_more Directives Data n a b c same = same
keep_more Data Directives n a b c same = same
keep_more Data Data n a b c same = ap (λ l. n ∷ l) same

numbers_append : (lane : Lane) (ls : List Life) (a b : List ComingOf) → numbers_of lane ls (a ++ b) ≡ numbers_of lane ls a ++ numbers_of lane ls b
numbers_append lane ls [] b = refl
numbers_append lane ls (CopyOf life its place ∷ a) b =
    keep_more lane its ((life_at ls life).first + place) (numbers_of lane ls a) (numbers_of lane ls b) (numbers_of lane ls (a ++ b)) (numbers_append lane ls a b)
numbers_append lane ls (NoiseOf octets ∷ a) b = numbers_append lane ls a b

-- one number more, which is near the last one
near_more : (before : Option ℕ) (ns : List ℕ) (n : ℕ) → AreNear before ns → IfSome (last_of before ns) (λ last. IsWithinCounts true last n) → AreNear before (ns ++ n ∷ [])
near_more None [] n near one = tt
near_more (Some before) [] n near one = (one, tt)
near_more None (m ∷ ns) n near one = near_more (Some m) ns n near one
near_more (Some before) (m ∷ ns) n near one = (near.0, near_more (Some m) ns n near.1 one)

last_more : (before : Option ℕ) (ns : List ℕ) (n : ℕ) → last_of before (ns ++ n ∷ []) ≡ Some n
last_more before [] n = refl
last_more before (m ∷ ns) n = last_more (Some m) ns n

-- what a copy adds to the numbers of a lane
copy_near : (lane its : Lane) (numbers : Lane → List ℕ) (n : ℕ) → AreNear None (numbers lane) → IfSome (last_of None (numbers its)) (λ last. IsWithinCounts true last n) →
    AreNear None (numbers lane ++ keep_place lane its n [])
copy_near Directives Directives numbers n near one = near_more None (numbers Directives) n near one
copy_near Data Data numbers n near one = near_more None (numbers Data) n near one
copy_near Directives Data numbers n near one = subst (λ (l : List ℕ). AreNear None l) (sym (append-nil (numbers Directives))) near
copy_near Data Directives numbers n near one = subst (λ (l : List ℕ). AreNear None l) (sym (append-nil (numbers Data))) near

copy_last : (lane its : Lane) (numbers : List ℕ) (n : ℕ) (k : EndKept) → last_of None numbers ≡ last_at lane k → last_of None (numbers ++ keep_place lane its n []) ≡ last_at lane (with_last its n k)
copy_last Directives Directives numbers n k is = last_more None numbers n
copy_last Data Data numbers n k is = last_more None numbers n
copy_last Directives Data numbers n k is = ap (last_of None) (append-nil numbers) ∙ is
copy_last Data Directives numbers n k is = ap (last_of None) (append-nil numbers) ∙ is

-- ---- the lives that are kept
pub kept_lives : (k : EndKept) (e : End) → IsOf k e → map kept_of (lives e) ≡ all_kept k
kept_lives k e is = map-append kept_of e.lives_before (present e ∷ []) ∙ ap₂ (λ (a : List LifeKept) (b : LifeKept). a ++ b ∷ []) is.before is.latest

life_kept : (ls : List Life) (i : ℕ) (l : LifeKept) → slice_get (map kept_of ls) i ≡ Some l → (i < length ls) × (kept_of (life_at ls i) ≡ l)
life_kept [] i l is = absurd cc
life_kept (x ∷ ls) zero l is = (omega arith, some_is (kept_of x) l is)
  where
    some_is : (a b : LifeKept) → Some a ≡ Some b → a ≡ b
    some_is a b e = ap (λ o. unwrap_or o a) e
life_kept (x ∷ ls) (suc i) l is = let rest = life_kept ls i l is in let low : i < length ls = rest.0 in (omega (arith, low), rest.1)

frames_kept : (lane : Lane) (life : Life) → frames_in lane (kept_of life) ≡ made_in lane life
frames_kept Directives life = refl
frames_kept Data life = refl

-- ---- what came
-- What comes are these octets, and it is near.
pub record Comes (link : LinkConfig) (coming : ComingOf) (octets : List ℕ) (new : EndKept) (mine other : End) : Type 0 where
  pub are : AreComingOf link (lives other) (coming ∷ [])
  pub is : octets_coming (lives other) coming ≡ octets
  pub near : (lane : Lane) → AreNear None (numbers_of lane (lives other) (mine.came ++ coming ∷ []))
  pub last : (lane : Lane) → last_of None (numbers_of lane (lives other) (mine.came ++ coming ∷ [])) ≡ last_at lane new

pub makes_takes : (c : StationConfig) (coming : ComingOf) (octets : List ℕ) (old theirs new : EndKept) (puts : List user.Put) →
    new ≡ record old { station = new.station; last_directives = new.last_directives; last_data = new.last_data } → TakesFrame octets old.station new.station →
    ((mine other : End) → IsOf theirs other → HasTaken c.receives old mine other → Comes c.receives coming octets new mine other) → Makes (Receives coming ∷ []) c old theirs new puts puts
makes_takes c coming octets old theirs new puts same takes comes = record { follow = follow }
  where
    follow : (mine other : End) → IsOf old mine → IsOf theirs other → HasTaken c.receives old mine other →
        (after : End) × DoesCalls (Receives coming ∷ []) c mine other after puts puts × IsOf new after × HasTaken c.receives new after other
    follow mine other is theirs_is taken =
        let come : Comes c.receives coming octets new mine other = comes mine other theirs_is taken in
        let one : TakesFrame octets mine.station new.station = subst (λ (s : StationState). TakesFrame octets s new.station) (sym is.station) takes in
        let took : TakesFrame (octets_coming (lives other) coming) mine.station new.station = subst (λ (l : List ℕ). TakesFrame l mine.station new.station) (sym come.is) one in
        let after : End = record mine { station = new.station; came = mine.came ++ coming ∷ []; heard = mine.heard ++ took.pdus } in (
          after,
          (after, puts, (come.are, come.near, (took, refl), refl, refl, record { first = refl; lives_before = refl; told_before = refl; heard_before = refl }, refl), (refl, refl)),
          record {
            station = refl;
            before = is.before ∙ ap (λ (k : EndKept). k.before) (sym same);
            latest = is.latest ∙ ap (λ (k : EndKept). k.latest) (sym same);
            told = is.told ∙ ap (λ (k : EndKept). k.told_before) (sym same);
          },
          record { coming = coming_both c.receives (lives other) mine.came (coming ∷ []) taken.coming come.are; near = come.near; last = come.last },
        )

-- a copy of a frame that is kept
pub makes_copy : (c : StationConfig) (life : ℕ) (lane : Lane) (place : ℕ) (l : LifeKept) (octets : List ℕ) (old theirs new : EndKept) (puts : List user.Put) →
    slice_get (all_kept theirs) life ≡ Some l → place < length (frames_in lane l) → octets ≡ slice_index_or (frames_in lane l) place [] →
    IfSome (last_at lane old) (λ last. IsWithinCounts true last (l.first + place)) → new ≡ with_last lane (l.first + place) (record old { station = new.station }) →
    TakesFrame octets old.station new.station → Makes (Receives (CopyOf life lane place) ∷ []) c old theirs new puts puts
makes_copy c life lane place l octets old theirs new puts there low is near same takes = makes_takes c (CopyOf life lane place) octets old theirs new puts (with_same lane same) takes comes
  where
    with_same : (its : Lane) → new ≡ with_last its (l.first + place) (record old { station = new.station }) →
        new ≡ record old { station = new.station; last_directives = new.last_directives; last_data = new.last_data }
    with_same Directives e = e ∙ ap₂ (λ (a b : Option ℕ). record old { station = new.station; last_directives = a; last_data = b }) (ap (λ (k : EndKept). k.last_directives) (sym e)) (ap (λ (k : EndKept). k.last_data) (sym e))
    with_same Data e = e ∙ ap₂ (λ (a b : Option ℕ). record old { station = new.station; last_directives = a; last_data = b }) (ap (λ (k : EndKept). k.last_directives) (sym e)) (ap (λ (k : EndKept). k.last_data) (sym e))

    comes : (mine other : End) → IsOf theirs other → HasTaken c.receives old mine other → Comes c.receives (CopyOf life lane place) octets new mine other
    comes mine other theirs_is taken =
        let at_life = life_kept (lives other) life l (ap (λ (ls : List LifeKept). slice_get ls life) (kept_lives theirs other theirs_is) ∙ there) in
        let frames : made_in lane (life_at (lives other) life) ≡ frames_in lane l = sym (frames_kept lane (life_at (lives other) life)) ∙ ap (frames_in lane) at_life.1 in
        let first : (life_at (lives other) life).first ≡ l.first = ap (λ (k : LifeKept). k.first) at_life.1 in
        let n : ℕ = (life_at (lives other) life).first + place in
        let number : n ≡ l.first + place = ap (λ i. i + place) first in
        let numbers : Lane → List ℕ = (λ (its : Lane). numbers_of its (lives other) mine.came) in
        let near_last : IfSome (last_of None (numbers lane)) (λ last. IsWithinCounts true last n) =
        subst (λ (i : ℕ). IfSome (last_of None (numbers lane)) (λ last. IsWithinCounts true last i)) (sym number)
        (subst (λ (o : Option ℕ). IfSome o (λ last. IsWithinCounts true last (l.first + place))) (sym (taken.last lane)) near) in
        record {
          are = (at_life.0, subst (λ (fs : List (List ℕ)). place < length fs) (sym frames) low, tt);
          is = ap (λ (fs : List (List ℕ)). slice_index_or fs place []) frames ∙ sym is;
          near = λ its. subst (λ (ns : List ℕ). AreNear None ns) (sym (numbers_append its (lives other) mine.came (CopyOf life lane place ∷ []))) (copy_near its lane numbers n (taken.near its) near_last);
          last = λ its.
              ap (last_of None) (numbers_append its (lives other) mine.came (CopyOf life lane place ∷ [])) ∙ copy_last its lane (numbers its) n (record old { station = new.station }) (taken.last its ∙ at_same its)
              ∙ ap (λ i. last_at its (with_last lane i (record old { station = new.station }))) number ∙ ap (last_at its) (sym same);
        }
      where
        at_same : (its : Lane) → last_at its old ≡ last_at its (record old { station = new.station })
        at_same Directives = refl
        at_same Data = refl

-- octets from which no packet can come
pub makes_noise : (c : StationConfig) (octets : List ℕ) (old theirs new : EndKept) (puts : List user.Put) → ((lane : Lane) → IsStray (lane_channel lane c.receives) octets) →
    new ≡ record old { station = new.station } → TakesFrame octets old.station new.station → Makes (Receives (NoiseOf octets) ∷ []) c old theirs new puts puts
makes_noise c octets old theirs new puts stray same takes = makes_takes c (NoiseOf octets) octets old theirs new puts
    (same ∙ ap₂ (λ (a b : Option ℕ). record old { station = new.station; last_directives = a; last_data = b }) (ap (λ (k : EndKept). k.last_directives) (sym same)) (ap (λ (k : EndKept). k.last_data) (sym same)))
    takes comes
  where
    at_same : (its : Lane) → last_at its old ≡ last_at its (record old { station = new.station })
    at_same Directives = refl
    at_same Data = refl

    comes : (mine other : End) → IsOf theirs other → HasTaken c.receives old mine other → Comes c.receives (NoiseOf octets) octets new mine other
    comes mine other theirs_is taken =
        let none : (lane : Lane) → numbers_of lane (lives other) (mine.came ++ NoiseOf octets ∷ []) ≡ numbers_of lane (lives other) mine.came =
        (λ (lane : Lane). numbers_append lane (lives other) mine.came (NoiseOf octets ∷ []) ∙ append-nil (numbers_of lane (lives other) mine.came)) in
        record {
          are = (stray, tt);
          is = refl;
          near = λ lane. subst (λ (ns : List ℕ). AreNear None ns) (sym (none lane)) (taken.near lane);
          last = λ lane. ap (last_of None) (none lane) ∙ taken.last lane ∙ at_same lane ∙ ap (last_at lane) (sym same);
        }

-- ---- a new station is made
pub makes_anew : (c : StationConfig) (first number : ℕ) (old theirs new : EndKept) (puts : List user.Put) → IsConfig (numbered_from number c.entity) →
    new.station.entity.state ≡ first_entity old.station.entity.state.table.sources old.station.entity.state.table.files (numbered_from number c.entity) →
    new.station.down ≡ both_counted_from first (first_down c.sends c.capacity) → new.station.up ≡ first_up c.receives →
    old.station.entity.state.next ≤ number → old.latest.first + length old.latest.directives < first → old.latest.first + length old.latest.file_data < first →
    new ≡ record {
      station = new.station;
      before = old.before ++ old.latest ∷ [];
      latest = record { first = first; directives = []; file_data = [] };
      told_before = old.told_before ++ old.station.entity.state.table.told;
      last_directives = None;
      last_data = None;
    } → Makes (Restarts first number ∷ []) c old theirs new puts puts
makes_anew c first number old theirs new puts valid entity down up unused one two same = record { follow = follow }
  where
    none : (lane : Lane) → None ≡ last_at lane new
    none Directives = ap (λ (k : EndKept). k.last_directives) (sym same)
    none Data = ap (λ (k : EndKept). k.last_data) (sym same)

    behind : (lane : Lane) (mine : End) → IsOf old mine → mine.first + length (made_of lane mine.sent) < first
    behind Directives mine is = subst (λ (k : LifeKept). k.first + length k.directives < first) (sym is.latest) one
    behind Data mine is = subst (λ (k : LifeKept). k.first + length k.file_data < first) (sym is.latest) two

    follow : (mine other : End) → IsOf old mine → IsOf theirs other → HasTaken c.receives old mine other →
        (after : End) × DoesCalls (Restarts first number ∷ []) c mine other after puts puts × IsOf new after × HasTaken c.receives new after other
    follow mine other is theirs_is taken =
        let after : End = record {
          station = new.station;
          first = first;
          sent = [];
          came = [];
          heard = [];
          lives_before = lives mine;
          told_before = mine.told_before ++ (entity_of mine).table.told;
          heard_before = mine.heard_before ++ mine.heard;
        } in (
          after,
          (
            after,
            puts,
            (
              record {
                valid = valid;
                entity = subst (λ (s : StationState). new.station.entity.state ≡ first_entity s.entity.state.table.sources s.entity.state.table.files (numbered_from number c.entity)) (sym is.station) entity;
                unused = subst (λ (s : StationState). s.entity.state.next ≤ number) (sym is.station) unused;
                down = down;
                up = up;
                counted = refl;
                apart = λ lane. behind lane mine is;
                sent = refl;
                came = refl;
                heard = refl;
                lives_before = refl;
                told_before = refl;
                heard_before = refl;
              },
              refl,
            ),
            (refl, refl),
          ),
          record {
            station = refl;
            before = kept_lives old mine is ∙ ap (λ (k : EndKept). k.before) (sym same);
            latest = ap (λ (k : EndKept). k.latest) (sym same);
            told = ap₂ (λ (a : List Indication) (s : StationState). a ++ s.entity.state.table.told) is.told is.station ∙ ap (λ (k : EndKept). k.told_before) (sym same);
          },
          record { coming = tt; near = λ lane. tt; last = none },
        )

-- what is stray in both lanes of a link
pub strays : (link other : LinkConfig) (octets : List ℕ) → IsStray (lane_channel Directives link) octets → IsStray (lane_channel Data link) octets → other ≡ link → (lane : Lane) →
    IsStray (lane_channel lane other) octets
strays link other octets one two same Directives = subst (λ (k : LinkConfig). IsStray (lane_channel Directives k) octets) (sym same) one
strays link other octets one two same Data = subst (λ (k : LinkConfig). IsStray (lane_channel Data k) octets) (sym same) two
