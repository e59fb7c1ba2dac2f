-- What is kept of two stations, as calls are made at one of them.
use Rattle.std.proofs.Common.{◌≡◌, ℕ, ◌≤◌, None, List, [], ◌∷◌, ◌++◌, length, refl, sym, ap, ap₂, subst, ◌∙◌, arith, append-nil, append_assoc}
use Rattle.aos_frame.specs.declared.config.Lane.{Lane}
use Rattle.aos_frame.specs.declared.config.Lane.TheVariants.{Directives, Data}
use Rattle.aos_frame.specs.declared.config.LinkConfig.{LinkConfig}
use Rattle.link_stack.specs.EndToEnd.{AreNear, DownCall, Fill, Make, made_of}
use Rattle.link_stack.specs.Lives.{Life, life_at, numbers_of}
use Rattle.cfdp_directives.specs.declared.user.indication.Indication.{Indication}
use Rattle.cfdp_directives.specs.User.Put as user
use Rattle.cfdp_station.specs.declared.config.StationConfig.{StationConfig}
use Rattle.cfdp_station.specs.Station.{StationState}
use Rattle.any_order.specs.Calls.{Call, Puts, Asks, Tells, Polls, Fills, Gives, Receives, Refuses, Restarts, Does, DoesCall, End, IsOneLife, lives, sent_by, entity_of}
use Rattle.cfdp_station.specs.Transmitting.{GivesFrame}
use Rattle.any_order.specs.Kept.{DoesCalls, EndKept, GivesAll, HasTaken, IsOf, LifeKept, MadeFrame, Makes, gives, kept_of, last_at, last_of, present, with_frame}
use Rattle.any_order.proofs.Lists.{made_append}
use Rattle.any_order.proofs.Lives.{Grow, coming_grown, grow_last, grow_more, grow_none, numbers_grown}

-- ---- what is made
abbrev pub more_kept : List DownCall → LifeKept → LifeKept
more_kept calls k = record { first = k.first; directives = k.directives ++ made_of Directives calls; file_data = k.file_data ++ made_of Data calls }

pub kept_more : (e : End) (calls : List DownCall) → kept_of (record { first = e.first; calls = e.sent ++ calls }) ≡ more_kept calls (kept_of (present e))
kept_more e calls = ap₂ (λ (a b : List (List ℕ)). record { first = e.first; directives = a; file_data = b }) (made_append Directives e.sent calls) (made_append Data e.sent calls)

-- nothing is made of these calls
abbrev pub MakesNone : List DownCall → Type 0
MakesNone calls = (made_of Directives calls ≡ []) × (made_of Data calls ≡ [])

pub none_kept : (calls : List DownCall) (k : LifeKept) → MakesNone calls → more_kept calls k ≡ k
none_kept calls k (one, two) = ap₂ (λ (a b : List (List ℕ)). record { first = k.first; directives = a; file_data = b })
    (ap (λ l. k.directives ++ l) one ∙ append-nil k.directives) (ap (λ l. k.file_data ++ l) two ∙ append-nil k.file_data)

-- ---- a station that goes on, with other calls after
abbrev pub on : StationState → List DownCall → End → End
on st calls e = record e { station = st; sent = e.sent ++ calls }

pub on_does : (st : StationState) (calls : List DownCall) (added : List user.Put) (e : End) (puts : List user.Put) → Does calls added e (on st calls e) puts (puts ++ added)
on_does st calls added e puts = record {
  goes_on = record { first = refl; lives_before = refl; told_before = refl; heard_before = refl };
  sent = refl;
  came = refl;
  heard = refl;
  accepted = refl;
}

-- the last numbers are the same
last_same : (lane : Lane) (old new : EndKept) → new.last_directives ≡ old.last_directives → new.last_data ≡ old.last_data → last_at lane old ≡ last_at lane new
last_same Directives old new one two = sym one
last_same Data old new one two = sym two

-- One call was made at a station that goes on, to which nothing came.
pub makes_one : (call : Call) (c : StationConfig) (old theirs new : EndKept) (puts added : List user.Put) (calls : List DownCall) →
    new ≡ record old { station = new.station; latest = more_kept calls old.latest } →
    ((mine other : End) → mine.station ≡ old.station → DoesCall call c mine other (on new.station calls mine) puts (puts ++ added)) →
    Makes (call ∷ []) c old theirs new puts (puts ++ added)
makes_one call c old theirs new puts added calls same does = record { follow = follow }
  where
    follow : (mine other : End) → IsOf old mine → IsOf theirs other → HasTaken c.receives old mine other →
        (after : End) × DoesCalls (call ∷ []) c mine other after puts (puts ++ added) × IsOf new after × HasTaken c.receives new after other
    follow mine other is theirs_is taken = (
      on new.station calls mine,
      (on new.station calls mine, puts ++ added, does mine other is.station, (refl, refl)),
      record {
        station = refl;
        before = is.before ∙ ap (λ (k : EndKept). k.before) (sym same);
        latest = kept_more mine calls ∙ ap (more_kept calls) is.latest ∙ ap (λ (k : EndKept). k.latest) (sym same);
        told = is.told ∙ ap (λ (k : EndKept). k.told_before) (sym same);
      },
      record {
        coming = taken.coming;
        near = taken.near;
        last = λ lane. taken.last lane ∙ last_same lane old new (ap (λ (k : EndKept). k.last_directives) same) (ap (λ (k : EndKept). k.last_data) same);
      },
    )

-- ---- calls one after another
does_both : (a b : List Call) (c : StationConfig) (x theirs y z : End) (p q r : List user.Put) → DoesCalls a c x theirs y p q → DoesCalls b c y theirs z q r → DoesCalls (a ++ b) c x theirs z p r
does_both [] b c x theirs y z p q r (same, none) rest = subst (λ (l : List user.Put). DoesCalls b c x theirs z l r) none (subst (λ (e : End). DoesCalls b c e theirs z q r) same rest)
does_both (call ∷ a) b c x theirs y z p q r (mid, puts, one, more) rest = (mid, puts, one, does_both a b c mid theirs y z puts q r more rest)

pub makes_both : (a b : List Call) (c : StationConfig) (old theirs mid new : EndKept) (p q r : List user.Put) → Makes a c old theirs mid p q → Makes b c mid theirs new q r → Makes (a ++ b) c old theirs new p r
makes_both a b c old theirs mid new p q r first second = record {
  follow = λ mine other is theirs_is taken.
      let one = first.follow mine other is theirs_is taken in
      let two = second.follow one.0 other one.2 theirs_is one.3 in
      (two.0, does_both a b c mine other one.0 two.0 p q r one.1 two.1, two.2, two.3);
}

pub makes_none : (c : StationConfig) (old theirs new : EndKept) (puts : List user.Put) → new ≡ old → Makes [] c old theirs new puts puts
makes_none c old theirs new puts same = record {
  follow = λ mine other is theirs_is taken.
      (mine, (refl, refl), subst (λ (k : EndKept). IsOf k mine) (sym same) is, subst (λ (k : EndKept). HasTaken c.receives k mine other) (sym same) taken);
}

-- ---- frames that are given
frame_kept : (lane : Lane) (frame : List ℕ) (k : LifeKept) → more_kept (Make lane frame ∷ []) k ≡ with_frame lane frame k
frame_kept Directives frame k = ap (λ l. record { first = k.first; directives = k.directives ++ frame ∷ []; file_data = l }) (append-nil k.file_data)
frame_kept Data frame k = ap (λ l. record { first = k.first; directives = l; file_data = k.file_data ++ frame ∷ [] }) (append-nil k.directives)

pub makes_gives : (made : List MadeFrame) (c : StationConfig) (old theirs new : EndKept) (puts : List user.Put) → new ≡ record old { station = new.station; latest = new.latest } →
    GivesAll made old.station new.station old.latest new.latest → Makes (gives made) c old theirs new puts puts
makes_gives [] c old theirs new puts same (station, latest) =
    makes_none c old theirs new puts (same ∙ ap₂ (λ (s : StationState) (k : LifeKept). record old { station = s; latest = k }) station latest)
makes_gives (m ∷ made) c old theirs new puts same (mid, one, rest) =
    let between : EndKept = record old { station = mid; latest = with_frame m.lane m.octets old.latest } in
    makes_both (Gives m.lane m.octets ∷ []) (gives made) c old theirs between new puts puts puts
    (subst (λ (l : List user.Put). Makes (Gives m.lane m.octets ∷ []) c old theirs between puts l) (append-nil puts)
    (makes_one (Gives m.lane m.octets) c old theirs between puts [] (Make m.lane m.octets ∷ [])
    (ap (λ (k : LifeKept). record old { station = mid; latest = k }) (sym (frame_kept m.lane m.octets old.latest)))
    (λ mine other station. (subst (λ (s : StationState). GivesFrame m.lane m.octets s mid) (sym station) one, on_does mid (Make m.lane m.octets ∷ []) [] mine puts))))
    (makes_gives made c between theirs new puts same rest)

-- ---- more lives
grows_on : (old new : End) (calls : List DownCall) → IsOneLife old new → new.sent ≡ old.sent ++ calls → Grow (lives old) (lives new)
grows_on old new calls one sent =
    subst (λ (l : List Life). Grow (lives old) (l ++ present new ∷ [])) (sym one.lives_before)
    (grow_last old.lives_before (present old) (present new) (record { first = one.first; more = calls; calls = sent }))

call_grows : (call : Call) (c : StationConfig) (old theirs new : End) (puts puts_then : List user.Put) → DoesCall call c old theirs new puts puts_then → Grow (lives old) (lives new)
call_grows (Puts source destination id) c old theirs new puts puts_then d = grows_on old new [] d.2.goes_on d.2.sent
call_grows (Asks request id) c old theirs new puts puts_then d = grows_on old new [] d.2.goes_on d.2.sent
call_grows (Tells now) c old theirs new puts puts_then d = grows_on old new [] d.3.goes_on d.3.sent
call_grows (Polls answer) c old theirs new puts puts_then d = grows_on old new (sent_by answer (entity_of old)) d.2.goes_on d.2.sent
call_grows (Fills lane) c old theirs new puts puts_then d = grows_on old new (Fill lane ∷ []) d.3.goes_on d.3.sent
call_grows (Gives lane frame) c old theirs new puts puts_then d = grows_on old new (Make lane frame ∷ []) d.1.goes_on d.1.sent
call_grows (Receives coming) c old theirs new puts puts_then d = grows_on old new [] d.5 (d.3 ∙ sym (append-nil old.sent))
call_grows Refuses c old theirs new puts puts_then d = grows_on old new [] d.2.goes_on d.2.sent
call_grows (Restarts first number) c old theirs new puts puts_then d =
    subst (λ (l : List Life). Grow (lives old) (l ++ present new ∷ [])) (sym d.0.lives_before) (grow_more (lives old) (present new))

grow_both : (a b c : List Life) → Grow a b → Grow b c → Grow a c
grow_both a b c g h = record {
  many = (let one : length a ≤ length b = g.many in let two : length b ≤ length c = h.many in omega (arith, one, two));
  each = λ k low.
      let one = g.each k low in
      let many : length a ≤ length b = g.many in
      let two = h.each k (omega (arith, low, many)) in
      record {
        first = two.first ∙ one.first;
        more = one.more ++ two.more;
        calls = two.calls ∙ ap (λ l. l ++ two.more) one.calls ∙ append_assoc (life_at a k).calls one.more two.more;
      };
}

pub calls_grow : (calls : List Call) (c : StationConfig) (old theirs new : End) (puts puts_then : List user.Put) → DoesCalls calls c old theirs new puts puts_then → Grow (lives old) (lives new)
calls_grow [] c old theirs new puts puts_then (same, none) = subst (λ (e : End). Grow (lives old) (lives e)) (sym same) (grow_none (lives old))
calls_grow (call ∷ calls) c old theirs new puts puts_then (mid, between, one, rest) =
    grow_both (lives old) (lives mid) (lives new) (call_grows call c old theirs mid puts between one) (calls_grow calls c mid theirs new between puts_then rest)

-- what came to the other station stays so
pub taken_grown : (link : LinkConfig) (k : EndKept) (theirs old new : End) → Grow (lives old) (lives new) → HasTaken link k theirs old → HasTaken link k theirs new
taken_grown link k theirs old new grow taken =
    let same : (lane : Lane) → numbers_of lane (lives new) theirs.came ≡ numbers_of lane (lives old) theirs.came =
    (λ (lane : Lane). numbers_grown lane link (lives old) (lives new) theirs.came grow taken.coming) in
    record {
      coming = coming_grown link (lives old) (lives new) theirs.came grow taken.coming;
      near = λ lane. subst (λ (l : List ℕ). AreNear None l) (sym (same lane)) (taken.near lane);
      last = λ lane. ap (last_of None) (same lane) ∙ taken.last lane;
    }

-- what is kept of a new station that was made, part by part
pub anew_same : (s t : StationState) (a b : List LifeKept) (l m : LifeKept) (o p : List Indication) → s ≡ t → a ≡ b → l ≡ m → o ≡ p → ◌≡◌ {A = EndKept}
    (record { station = s; before = a; latest = l; told_before = o; last_directives = None; last_data = None })
    (record { station = t; before = b; latest = m; told_before = p; last_directives = None; last_data = None })
anew_same s t a b l m o p e f g h =
    ap₂ (λ (x : StationState) (y : List LifeKept). record { station = x; before = y; latest = l; told_before = o; last_directives = None; last_data = None }) e f
    ∙ ap₂ (λ (x : LifeKept) (y : List Indication). record { station = t; before = b; latest = x; told_before = y; last_directives = None; last_data = None }) g h
