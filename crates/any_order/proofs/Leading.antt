-- What each method of a station's end does, as the calls that were made.
use Rattle.std.proofs.Common.{◌≡◌, ℕ, List, [], ◌∷◌, ◌++◌, Result, Ok, Err, OnOk, OnErr, map, refl, sym, ap, ap₂, subst, ◌∙◌, append-nil}
use Rattle.std.proofs.lemmas.List.{map-append}
use Rattle.std.specs.declared.alloc.AllocError.{AllocError}
use Rattle.aos_frame.specs.Frame.{other_lane}
use Rattle.aos_frame.specs.declared.config.Lane.{Lane}
use Rattle.aos_frame.specs.declared.config.Lane.TheVariants.{Directives, Data}
use Rattle.link_stack.specs.Downward.{Flushes, lane_down}
use Rattle.link_stack.specs.EndToEnd.{DownCall, Fill}
use Rattle.cfdp_header.specs.declared.value.TransactionId.{TransactionId}
use Rattle.cfdp_directives.specs.User.Put as user
use Rattle.cfdp_entity.specs.declared.error.RequestError.{RequestError}
use Rattle.cfdp_entity.specs.declared.request.Request.{Request}
use Rattle.cfdp_header.specs.Files.{FileMap}
use Rattle.cfdp_entity.specs.Entity.{EntityState, first_entity, with_table}
use Rattle.cfdp_entity.specs.Polling.{turn}
use Rattle.cfdp_entity.specs.Putting.{Accepts}
use Rattle.cfdp_entity.specs.Requests.{IsCalled}
use Rattle.cfdp_entity.specs.Sound.{SpellsTurn, next_put}
use Rattle.cfdp_entity.specs.Table.{Ticks}
use Rattle.cfdp_station.specs.declared.config.StationConfig.{StationConfig}
use Rattle.cfdp_station.specs.declared.polled.Polled.{Polled}
use Rattle.cfdp_station.specs.declared.polled.Polled.TheVariants.{Moved, Nothing, Full, SourceFailed}
use Rattle.cfdp_station.specs.Polling.{Polls as IsPolled}
use Rattle.cfdp_station.specs.Station.{KeepsLink, KeepsRest, StationState}
use Rattle.any_order.specs.Calls.{Call, Puts, Asks, Tells, Polls, Fills, Refuses, Does, DoesCall, End, numbered_from, sent_by}
use Rattle.any_order.specs.Kept.{EndKept, GivesAll, LifeKept, MadeFrame, Makes, gives}
use Rattle.any_order.specs.World.{request_calls, tick_calls}
use Rattle.any_order.proofs.Keeping.{MakesNone, makes_both, makes_gives, makes_one, none_kept, on, on_does}

-- One call, by which no frame is made.
makes_quiet : (call : Call) (c : StationConfig) (old theirs new : EndKept) (puts added : List user.Put) (calls : List DownCall) → MakesNone calls → new ≡ record old { station = new.station } →
    ((mine other : End) → mine.station ≡ old.station → DoesCall call c mine other (on new.station calls mine) puts (puts ++ added)) → Makes (call ∷ []) c old theirs new puts (puts ++ added)
makes_quiet call c old theirs new puts added calls none same does =
    makes_one call c old theirs new puts added calls (same ∙ ap (λ (k : LifeKept). record old { station = new.station; latest = k }) (sym (none_kept calls old.latest none))) does

-- The same if no put is accepted.
makes_still : (call : Call) (c : StationConfig) (old theirs new : EndKept) (puts : List user.Put) (calls : List DownCall) → MakesNone calls → new ≡ record old { station = new.station } →
    ((mine other : End) → mine.station ≡ old.station → DoesCall call c mine other (on new.station calls mine) puts (puts ++ [])) → Makes (call ∷ []) c old theirs new puts puts
makes_still call c old theirs new puts calls none same does =
    subst (λ (l : List user.Put). Makes (call ∷ []) c old theirs new puts l) (append-nil puts) (makes_quiet call c old theirs new puts [] calls none same does)

pub makes_refused : (c : StationConfig) (old theirs new : EndKept) (puts : List user.Put) → new.station.entity.state ≡ old.station.entity.state → KeepsLink old.station new.station →
    new ≡ record old { station = new.station } → Makes (Refuses ∷ []) c old theirs new puts puts
makes_refused c old theirs new puts entity link same = makes_still Refuses c old theirs new puts [] (refl, refl) same
    (λ mine other is.
    subst (λ (s : StationState). (new.station.entity.state ≡ s.entity.state) × KeepsLink s new.station × Does [] [] mine (on new.station [] mine) puts (puts ++ [])) (sym is)
    (entity, link, on_does new.station [] [] mine puts))

-- The same if the station is as it was.
pub makes_unchanged : (c : StationConfig) (old theirs new : EndKept) (puts : List user.Put) → new.station ≡ old.station → new ≡ record old { station = new.station } →
    Makes (Refuses ∷ []) c old theirs new puts puts
makes_unchanged c old theirs new puts station same =
    makes_refused c old theirs new puts (ap (λ (s : StationState). s.entity.state) station) (ap (λ (s : StationState). s.down) station, ap (λ (s : StationState). s.up) station) same

pub makes_put : (source destination : List ℕ) (id : TransactionId) (c : StationConfig) (old theirs new : EndKept) (puts : List user.Put) →
    Accepts source destination id old.station.entity.state new.station.entity.state → KeepsLink old.station new.station → new ≡ record old { station = new.station } →
    Makes (Puts source destination id ∷ []) c old theirs new puts (puts ++ next_put source destination old.station.entity.state ∷ [])
makes_put source destination id c old theirs new puts accepts link same =
    let its : user.Put = next_put source destination old.station.entity.state in
    makes_quiet (Puts source destination id) c old theirs new puts (its ∷ []) [] (refl, refl) same
    (λ mine other is.
    subst
    (λ (s : StationState). Accepts source destination id s.entity.state new.station.entity.state × KeepsLink s new.station
    × Does [] (next_put source destination s.entity.state ∷ []) mine (on new.station [] mine) puts (puts ++ its ∷ [])) (sym is)
    (accepts, link, on_does new.station [] (its ∷ []) mine puts))

pub makes_request : (id : TransactionId) (request : Request) (result : Result (Unit {0}) RequestError) (c : StationConfig) (old theirs new : EndKept) (puts : List user.Put) →
    OnOk result (IsCalled request id old.station.entity.state new.station.entity.state) → OnErr result (new.station ≡ old.station) → KeepsLink old.station new.station →
    new ≡ record old { station = new.station } → Makes (request_calls id request result) c old theirs new puts puts
makes_request id request (Ok done) c old theirs new puts called err link same = makes_still (Asks request id) c old theirs new puts [] (refl, refl) same
    (λ mine other is.
    subst (λ (s : StationState). IsCalled request id s.entity.state new.station.entity.state × KeepsLink s new.station × Does [] [] mine (on new.station [] mine) puts (puts ++ [])) (sym is)
    (called, link, on_does new.station [] [] mine puts))
makes_request id request (Err error) c old theirs new puts called err link same = makes_unchanged c old theirs new puts err same

pub makes_tick : (now : ℕ) (result : Result (Unit {0}) AllocError) (c : StationConfig) (old theirs new : EndKept) (puts : List user.Put) →
    OnOk result (Ticks now old.station.entity.state.table new.station.entity.state.table) → new.station.entity.state ≡ with_table old.station.entity.state new.station.entity.state.table →
    OnErr result (new.station ≡ old.station) → KeepsLink old.station new.station → new ≡ record old { station = new.station } → Makes (tick_calls now result) c old theirs new puts puts
makes_tick now (Ok done) c old theirs new puts ticks table err link same = makes_still (Tells now) c old theirs new puts [] (refl, refl) same
    (λ mine other is.
    subst
    (λ (s : StationState). Ticks now s.entity.state.table new.station.entity.state.table × (new.station.entity.state ≡ with_table s.entity.state new.station.entity.state.table) × KeepsLink s new.station
    × Does [] [] mine (on new.station [] mine) puts (puts ++ [])) (sym is) (ticks, table, link, on_does new.station [] [] mine puts))
makes_tick now (Err error) c old theirs new puts ticks table err link same = makes_unchanged c old theirs new puts err same

sent_none : (answer : Polled) (e : EntityState) → MakesNone (sent_by answer e)
sent_none Moved e = (refl, refl)
sent_none Nothing e = (refl, refl)
sent_none Full e = (refl, refl)
sent_none SourceFailed e = (refl, refl)

pub makes_poll : (answer : Polled) (c : StationConfig) (old theirs new : EndKept) (puts : List user.Put) → IsPolled answer old.station new.station →
    (answer ≡ Moved → SpellsTurn (turn old.station.entity.state) old.station.entity.state) → new ≡ record old { station = new.station } → Makes (Polls answer ∷ []) c old theirs new puts puts
makes_poll answer c old theirs new puts polls spells same =
    let calls : List DownCall = sent_by answer old.station.entity.state in
    makes_still (Polls answer) c old theirs new puts calls (sent_none answer old.station.entity.state) same
    (λ mine other is.
    subst
    (λ (s : StationState). IsPolled answer s new.station × (answer ≡ Moved → SpellsTurn (turn s.entity.state) s.entity.state)
    × Does (sent_by answer s.entity.state) [] mine (on new.station calls mine) puts (puts ++ [])) (sym is) (polls, spells, on_does new.station calls [] mine puts))

pub makes_fill : (lane : Lane) (c : StationConfig) (old theirs new : EndKept) (puts : List user.Put) → Flushes (lane_down lane old.station.down) (lane_down lane new.station.down) →
    lane_down (other_lane lane) new.station.down ≡ lane_down (other_lane lane) old.station.down → KeepsRest old.station new.station → new ≡ record old { station = new.station } →
    Makes (Fills lane ∷ []) c old theirs new puts puts
makes_fill lane c old theirs new puts flushes others rest same = makes_still (Fills lane) c old theirs new puts (Fill lane ∷ []) (refl, refl) same
    (λ mine other is.
    subst
    (λ (s : StationState). Flushes (lane_down lane s.down) (lane_down lane new.station.down) × (lane_down (other_lane lane) new.station.down ≡ lane_down (other_lane lane) s.down) × KeepsRest s new.station
    × Does (Fill lane ∷ []) [] mine (on new.station (Fill lane ∷ []) mine) puts (puts ++ [])) (sym is) (flushes, others, rest, on_does new.station (Fill lane ∷ []) [] mine puts))

-- a poll, and the frames that are given after it
pub makes_sends : (answer : Polled) (made : List MadeFrame) (c : StationConfig) (old theirs mid new : EndKept) (puts : List user.Put) → IsPolled answer old.station mid.station →
    (answer ≡ Moved → SpellsTurn (turn old.station.entity.state) old.station.entity.state) → mid ≡ record old { station = mid.station } →
    GivesAll made mid.station new.station mid.latest new.latest → new ≡ record mid { station = new.station; latest = new.latest } →
    Makes (Polls answer ∷ gives made) c old theirs new puts puts
makes_sends answer made c old theirs mid new puts polls spells same all then =
    makes_both (Polls answer ∷ []) (gives made) c old theirs mid new puts puts puts (makes_poll answer c old theirs mid puts polls spells same) (makes_gives made c mid theirs new puts then all)

-- the begun frame of each lane is filled, and frames are given after it
pub makes_fills : (made : List MadeFrame) (c : StationConfig) (old theirs one two new : EndKept) (puts : List user.Put) → Flushes (lane_down Directives old.station.down) (lane_down Directives one.station.down) →
    lane_down Data one.station.down ≡ lane_down Data old.station.down → KeepsRest old.station one.station → one ≡ record old { station = one.station } →
    Flushes (lane_down Data one.station.down) (lane_down Data two.station.down) → lane_down Directives two.station.down ≡ lane_down Directives one.station.down → KeepsRest one.station two.station →
    two ≡ record one { station = two.station } → GivesAll made two.station new.station two.latest new.latest → new ≡ record two { station = new.station; latest = new.latest } →
    Makes (Fills Directives ∷ Fills Data ∷ gives made) c old theirs new puts puts
makes_fills made c old theirs one two new puts f o r s f2 o2 r2 s2 all then =
    makes_both (Fills Directives ∷ []) (Fills Data ∷ gives made) c old theirs one new puts puts puts (makes_fill Directives c old theirs one puts f o r s)
    (makes_both (Fills Data ∷ []) (gives made) c one theirs two new puts puts puts (makes_fill Data c one theirs two puts f2 o2 r2 s2) (makes_gives made c two theirs new puts then all))

-- The end is as it was.
pub makes_same : (c : StationConfig) (old theirs new : EndKept) (puts : List user.Put) → new ≡ old → Makes (Refuses ∷ []) c old theirs new puts puts
makes_same c old theirs new puts same =
    makes_unchanged c old theirs new puts (ap (λ (k : EndKept). k.station) same) (same ∙ ap (λ (s : StationState). record old { station = s }) (ap (λ (k : EndKept). k.station) (sym same)))

-- The same put, by what the puts are then.
pub makes_put_then : (source destination : List ℕ) (id : TransactionId) (c : StationConfig) (old theirs new : EndKept) (puts puts_then : List user.Put) →
    puts_then ≡ puts ++ next_put source destination old.station.entity.state ∷ [] → Accepts source destination id old.station.entity.state new.station.entity.state →
    KeepsLink old.station new.station → new ≡ record old { station = new.station } → Makes (Puts source destination id ∷ []) c old theirs new puts puts_then
makes_put_then source destination id c old theirs new puts puts_then more accepted link same =
    subst (λ (l : List user.Put). Makes (Puts source destination id ∷ []) c old theirs new puts l) (sym more) (makes_put source destination id c old theirs new puts accepted link same)

pub puts_more : {T : Type 0} (f : T → user.Put) (xs ys : List T) (t : T) (p : user.Put) → ys ≡ xs ++ t ∷ [] → f t ≡ p → map f ys ≡ map f xs ++ p ∷ []
puts_more f xs ys t p is its = ap (map f) is ∙ map-append f xs (t ∷ []) ∙ ap (λ q. map f xs ++ q ∷ []) its

-- The same at a station that is set up in the same way.
pub makes_config : (calls : List Call) (a b : StationConfig) (old theirs new : EndKept) (puts puts_then : List user.Put) → a ≡ b → Makes calls a old theirs new puts puts_then →
    Makes calls b old theirs new puts puts_then
makes_config calls a b old theirs new puts puts_then same makes = subst (λ (k : StationConfig). Makes calls k old theirs new puts puts_then) same makes

-- the entity of a new station that was made
pub entity_anew : (s : EntityState) (a b f h : FileMap) (k c : StationConfig) (n : ℕ) → s ≡ first_entity a f k.entity → a ≡ b → f ≡ h → k ≡ record c { entity = numbered_from n c.entity } →
    s ≡ first_entity b h (numbered_from n c.entity)
entity_anew s a b f h k c n is one two same = is ∙ ap₂ (λ (x y : FileMap). first_entity x y k.entity) one two ∙ ap (λ (x : StationConfig). first_entity b h x.entity) same
