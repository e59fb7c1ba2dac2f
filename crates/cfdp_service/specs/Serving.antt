-- How a station serves its user over a wire.
use Rattle.std.specs.Prelude.{◌≡◌, ◌⊎◌, ◌<◌, ◌≤◌, ℕ, suc, ◌^◌, ◌==◌, nat_lt, Bool, true, false, not, ◌&&◌, ◌||◌, List, [], ◌∷◌, ◌++◌, drop, length, map, take, Some, None, Result, Err, if◌then◌else◌}
use Rattle.std.specs.List.{flat_map}
use Rattle.cfdp_header.specs.declared.value.TransactionId.{TransactionId}
use Rattle.cfdp_directives.specs.declared.user.indication.Indication.{Indication}
use Rattle.cfdp_entity.specs.Entity.{with_table}
use Rattle.cfdp_entity.specs.Table.{TableState}
use Rattle.cfdp_entity.specs.declared.error.PutError.{PutError}
use Rattle.cfdp_entity.specs.declared.error.PutError.TheVariants.{SourceFault}
use Rattle.cfdp_station.specs.declared.config.StationConfig.{StationConfig}
use Rattle.cfdp_header.specs.Files.{FileMap}
use Rattle.cfdp_station.specs.New.{IsNewAt}
use Rattle.cfdp_station.specs.Requests.{StationAnswers}
use Rattle.cfdp_station.specs.Station.{StationState}
use Rattle.cfdp_station.specs.Transmitting.{Times}
use Rattle.cfdp_port.specs.Asking.{CountsFrom, FailsToLook, LetsGo, LooksAt, Puts}
use Rattle.cfdp_port.specs.Calls.{WireCall, Rested}
use Rattle.cfdp_port.specs.PeerTurn.{TakesInPart, TakesOne}
use Rattle.cfdp_port.specs.Port.{PortState, all_closed, table_of}
use Rattle.cfdp_service.specs.Calls.{UserCall, Asks, Answered, Ends, Hears, Intends, heard_by}
use Rattle.cfdp_service.specs.declared.user.Intent.{Intent}
use Rattle.cfdp_service.specs.declared.user.Intent.TheVariants.{End, Halt}
use Rattle.cfdp_service.specs.declared.wish.Reply.{Reply}
use Rattle.cfdp_service.specs.declared.wish.Reply.TheVariants as replies
use Rattle.cfdp_service.specs.declared.wish.Wish.{Wish}
use Rattle.cfdp_service.specs.declared.wish.Wish.TheVariants as wishes

-- ---- what is wished
-- A put was made of a file that was looked for first, and was answered so; if the outbox failed
-- to look, it is refused for that.
abbrev pub PutsFile : (source destination : List ℕ) → Result TransactionId PutError
    → (old new : StationState) → Type 0
PutsFile source destination answer old new =
    ((looked : StationState) × LooksAt source old looked
    × Puts source destination answer looked new)
    ⊎ ((answer ≡ Err SourceFault) × FailsToLook old new)

-- The station did what its user wished, and answered so.
abbrev pub Does : Wish → Reply → (old new : StationState) → Type 0
Does (wishes.Put names) (replies.Put answer) old new =
    PutsFile names.source.items names.destination.items answer old new
Does (wishes.Change id request) (replies.Change answer) old new =
    StationAnswers request id answer old new
Does _ _ old new = ⊥

-- It did so for each of these wishes, in this order.
unfoldable pub DoesEach : List (Wish × Reply) → (old new : StationState) → Type 0
DoesEach [] old new = new ≡ old
DoesEach (one ∷ more) old new =
    (mid : StationState) × (Does one.0 one.1 old mid × DoesEach more mid new)

-- the most wishes between two turns
abbrev pub most_wishes : ℕ
most_wishes = 4096

-- the calls by which a user had a wish, and heard how it was answered
abbrev pub wish_calls : Wish × Reply → List UserCall
wish_calls one = Asks (Some one.0) ∷ Answered one.1 ∷ []

-- The station did what its user wished, until it wished nothing more or that was enough; these are
-- the calls of the user.
pub record Obeys (calls : List UserCall) (old new : StationState) : Type 0 where
  pub done : List (Wish × Reply)
  pub rests : List UserCall
  pub does : DoesEach done old new
  pub is : calls ≡ flat_map wish_calls done ++ rests
  pub ends : (rests ≡ Asks None ∷ []) ⊎ ((rests ≡ []) × (length done ≡ most_wishes))

-- ---- what the user hears
-- what is left of what a station indicated; nothing if 64 bits don't count it any more
abbrev pub said_by : TableState → List Indication
said_by t = if nat_lt (length t.told) (2 ^ 64) then drop t.gone t.told else []

-- the same table after that is discarded
abbrev pub once_said : TableState → TableState
once_said t = record t { gone = if nat_lt (length t.told) (2 ^ 64) then length t.told else t.gone }

abbrev pub once_told : StationState → StationState
once_told s = record s {
  entity = record s.entity { state = with_table s.entity.state (once_said (table_of s)) };
}

-- By these calls the user heard each indication that was discarded, in order, and no other.
pub record HearsGone (calls : List UserCall) (table : TableState) : Type 0 where
  pub few : table.gone ≤ length table.told
  pub heard : heard_by calls ≡ take table.gone table.told

-- Between two turns the station does what its user wishes; the user hears what it indicated, and
-- that is discarded, and so are transactions that are over.
pub record Prepares (calls : List UserCall) (old new : StationState) : Type 0 where
  pub wished : List UserCall
  pub done : StationState
  pub obeys : Obeys wished old done
  pub lets_go : LetsGo (once_told done) new
  pub is : calls ≡ wished ++ map Hears (said_by (table_of done))

-- ---- the turns
-- the most turns: those of more than 300 years, if one takes ten microseconds
abbrev pub most_turns : ℕ
most_turns = 1000000000000000

-- how many turns in a row lack memory as it gives up
abbrev pub most_lacking : ℕ
most_lacking = 100

-- how many turns in a row lacked memory, once one more was taken
abbrev pub lacking_after : (short : Bool) → ℕ → ℕ
lacking_after short lacking = if short then suc lacking else 0

-- `true` if the user has all that it wished for, and all transactions are closed
abbrev pub is_done : Intent → StationState → Bool
is_done End s = all_closed s
is_done _ s = false

-- `true` if the outbox or the inbox of a station has failed since
abbrev pub has_failed : (first last : StationState) → Bool
has_failed first last =
    not (last.entity.outbox_failures == first.entity.outbox_failures)
    || not (last.entity.inbox_failures == first.entity.inbox_failures)

module _ {W : Type 0} (Steps : W → WireCall → W → Type 0) where
  -- `true` if it is over: at once if the user intends that; otherwise if all is done, and the wire,
  -- which must know if it is, has been silent for long enough.
  abbrev pub AsksToEnd : Intent → (over : Bool) → StationState → (old new : W) → Type 0
  AsksToEnd Halt over s old new = (over ≡ true) × (new ≡ old)
  AsksToEnd intent over s old new = (answer : Bool)
      × Steps old (Rested (not (is_done intent s)) answer) new
      × (over ≡ (answer && is_done intent s))

  -- a run: its station and wire, the calls of its user so far, and how many turns in a row lacked
  -- memory
  pub record Run : Type 0 where
    pub port : PortState W
    pub calls : List UserCall
    pub lacking : ℕ

  -- Between two turns all was done that must be done then, and the user said what it intends.
  pub record GetsReady (over : Bool) (old new : Run) : Type 0 where
    pub calls : List UserCall
    pub intent : Intent
    pub prepares : Prepares calls old.port.station new.port.station
    pub asks : AsksToEnd intent over new.port.station old.port.wire new.port.wire
    pub is : new.calls ≡ old.calls ++ calls ++ (Intends intent ∷ [])
    pub lacking : new.lacking ≡ old.lacking

  -- A turn was taken: whole, or in part if there was no memory for all of it.
  abbrev pub TakesSome : (short : Bool) → (old new : PortState W) → Type 0
  TakesSome false old new = TakesOne Steps old new
  TakesSome true old new = TakesInPart Steps old new

  -- It wasn't over, and one turn more was taken.
  pub record GoesOnce (old new : Run) : Type 0 where
    pub ready : Run
    pub gets : GetsReady false old ready
    pub short : Bool
    pub turn : TakesSome short ready.port new.port
    pub calls : new.calls ≡ ready.calls
    pub lacking : new.lacking ≡ lacking_after short old.lacking

  -- The same, and not so many turns in a row lacked memory that it gives up.
  pub record GoesOn (old new : Run) : Type 0 where
    pub once : GoesOnce old new
    pub few : new.lacking < most_lacking

  -- how turns end, and `true` if that was since there was no memory
  abbrev pub EndsTurns : Bool → ℕ → (last new : Run) → Type 0
  EndsTurns false count last new = GetsReady true last new
      ⊎ ((count ≡ most_turns) × (new ≡ last))
  EndsTurns true count last new = GoesOnce last new × (new.lacking ≡ most_lacking)

  -- Turns were taken until it was over, or 100 of them in a row lacked memory.
  pub record TakesTurns (short : Bool) (old new : Run) : Type 0 where
    pub count : ℕ
    pub last : Run
    pub turns : Times GoesOn count old last
    pub ends : EndsTurns short count last new

  -- ---- the whole
  -- Turns were taken, and the user heard what was left to hear. So it heard each indication that
  -- the station discarded, in order, between the answers of its wishes.
  pub record Serves (short : Bool) (calls : List UserCall) (first last : PortState W) : Type 0 where
    pub run : Run
    pub turns : TakesTurns short (record { port = first; calls = []; lacking = 0 }) run
    pub station : last.station ≡ once_told run.port.station
    pub wire : last.wire ≡ run.port.wire
    pub is : calls ≡ run.calls ++ map Hears (said_by (table_of run.port.station)) ++ (Ends ∷ [])
    pub all : HearsGone calls (table_of last.station)

  -- It happened so from a new station, which has these files to send, which stand or don't, and
  -- published those before, and whose frames are counted from this number on. The result says if
  -- one of its stores failed.
  pub record Ran (short failed : Bool) (calls : List UserCall) (count : ℕ)
      (config : StationConfig) (stands : Bool) (sources files : FileMap) (wire : W) : Type 0 where
    pub new : StationState
    pub first : PortState W
    pub last : PortState W
    pub is_new : IsNewAt config stands sources files new
    pub counts : CountsFrom count new first.station
    pub over : first.wire ≡ wire
    pub serves : Serves short calls first last
    pub stores : failed ≡ has_failed first.station last.station
