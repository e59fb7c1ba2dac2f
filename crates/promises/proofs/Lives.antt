-- What is known of a life of a station, as something is done at it: of the calls of its user, of what came back as the life
-- began, and of what its user heard again.
use Rattle.std.proofs.Common.{◌≡◌, ℕ, ◌<◌, ◌≤◌, List, [], ◌∷◌, ◌++◌, map, slice_get, take, drop, Some, sym, ap, subst, ◌∙◌, arith, append-nil, append_assoc}
use Rattle.std.specs.Prelude.{Contains, count_by}
use Rattle.std.proofs.lemmas.List.{take-append-drop}
use Rattle.std.proofs.lemmas.List.Elements.{Contains-append_left, Contains-append_right}
use Rattle.cfdp_header.specs.declared.value.TransactionId.{TransactionId}
use Rattle.cfdp_header.specs.Files.{FileMap}
use Rattle.cfdp_directives.specs.declared.user.indication.Indication.{Indication}
use Rattle.cfdp_directives.specs.User.Completions.{FinishedOnce, is_finished}
use Rattle.cfdp_directives.specs.User.Put.{Put}
use Rattle.cfdp_sender.specs.State.{SenderState}
use Rattle.cfdp_entity.specs.Seen.{Sends}
use Rattle.cfdp_entity.specs.Sound.{IsSound}
use Rattle.cfdp_entity.specs.Table.{Entry, TableState}
use Rattle.cfdp_station.specs.declared.config.StationConfig.{StationConfig}
use Rattle.cfdp_station.specs.Station.{StationState}
use Rattle.any_order.specs.Kept.{EndKept}
use Rattle.any_order.specs.Promise.{found}
use Rattle.any_order.proofs.Kept.{IsJoinedTo}
use Rattle.any_order.proofs.Puts.{finds_more}
use Rattle.cfdp_port.specs.Calls.{WireCall}
use Rattle.cfdp_port.specs.Port.{table_of}
use Rattle.cfdp_service.specs.Calls.{UserCall, Hears, heard_by}
use Rattle.cfdp_service.specs.Serving.{HearsGone, once_told, said_by, wish_calls}
use Rattle.promises.specs.Serving.{Deed, LetsGo, Says, Served, Starts, Stops, Tells, Turns, Wishes, kept_sending, served_on}
use Rattle.promises.proofs.Calling.{ArePut, all_more, hears_all, hears_known, none_known}
use Rattle.promises.proofs.Doing.{AllLaws, deed_hears, deed_told}
use Rattle.promises.proofs.Holding.{Held}
use Rattle.promises.proofs.Knowing.{Known, deed_known}
use Rattle.promises.proofs.Promising.{deed_added}
use Rattle.promises.proofs.Reaching.{shade}
use Rattle.promises.proofs.Standing.{DoesDeed}
use Rattle.promises.proofs.Telling.{TellsMore, told_of}
use Rattle.promises.specs.Resuming.{BeganAs, ResumesFrom, ServiceLife, entity_in}

-- ---- a user that heard more
-- the station, if its user heard this before all its calls
abbrev pub heard_first : List Indication → Served → Served
heard_first earlier s = record s { calls = map Hears earlier ++ s.calls }

-- what that is, once something was done: nothing after a start
abbrev pub earlier_then : Deed → List Indication → List Indication
earlier_then (Starts first number) earlier = []
earlier_then _ earlier = earlier

module _ (earlier : List Indication) (old : Served) where
  on_heard : (station : StationState) (calls : List UserCall) → heard_first earlier (served_on station calls old) ≡ served_on station calls (heard_first earlier old)
  on_heard station calls = ap (λ (l : List UserCall). record (served_on station [] old) { calls = l }) (sym (append_assoc (map Hears earlier) old.calls calls))

  went_on : (new : Served) (station : StationState) (calls : List UserCall) → new ≡ served_on station calls old → heard_first earlier new ≡ served_on station calls (heard_first earlier old)
  went_on new station calls same = ap (heard_first earlier) same ∙ on_heard station calls

-- It does the same, whatever its user heard before.
pub deed_heard : {W : Type 0} (Steps : W → WireCall → W → Type 0) (deed : Deed) (c : StationConfig) (theirs : EndKept) (earlier : List Indication) (old new : Served) (puts puts_then : List Put) →
    DoesDeed Steps deed c theirs old new puts puts_then → DoesDeed Steps deed c theirs (heard_first earlier old) (heard_first (earlier_then deed earlier) new) puts puts_then
deed_heard Steps (Wishes wish reply) c theirs earlier old new puts puts_then (station, added, does, same, more) =
    (station, added, does, went_on earlier old new station (wish_calls (wish, reply)) same, more)
deed_heard Steps (Says call) c theirs earlier old new puts puts_then (is, same, more) = (is, went_on earlier old new old.kept.station (call ∷ []) same, more)
deed_heard Steps Tells c theirs earlier old new puts puts_then (same, more) =
    (went_on earlier old new (once_told old.kept.station) (map Hears (said_by (table_of old.kept.station))) same, more)
deed_heard Steps LetsGo c theirs earlier old new puts puts_then (station, go, same, more) = (station, go, went_on earlier old new station [] same, more)
deed_heard Steps Turns c theirs earlier old new puts puts_then (turn, same, more) = (turn, ap (heard_first earlier) same, more)
deed_heard Steps Stops c theirs earlier old new puts puts_then (turn, same, more) = (turn, ap (heard_first earlier) same, more)
deed_heard Steps (Starts first number) c theirs earlier old new puts puts_then (a, more) = (
  record {
    valid = a.valid;
    sources = a.sources;
    begun = a.begun;
    unused = a.unused;
    apart = a.apart;
    kept = a.kept;
    calls = a.calls;
    inboxes_before = a.inboxes_before;
  },
  more,
)

-- ---- what came back
-- The put of a sender that came back, of the entity `own`.
pub record IsBackPut (own : ℕ) (puts : List Put) (id : TransactionId) (x : SenderState) : Type 0 where
  pub put : Put
  pub is_put : found puts id ≡ Some put
  pub its_id : put.id ≡ id
  pub source : put.source ≡ x.source
  pub destination : put.destination ≡ x.destination
  pub of_own : id.source ≡ own

abbrev pub AreBack : ℕ → List Put → List Entry → Type 0
AreBack own puts back = (place : ℕ) (id : TransactionId) (x : SenderState) → slice_get back place ≡ Some (id, Sends x) → IsBackPut own puts id x

none_at : {X : Type 0} (place : ℕ) (x : X) → slice_get {X = X} [] place ≡ Some x → ⊥
none_at place x at = cc

back_more : (own : ℕ) (puts added : List Put) (id : TransactionId) (x : SenderState) → IsBackPut own puts id x → IsBackPut own (puts ++ added) id x
back_more own puts added id x b = record {
  put = b.put;
  is_put = finds_more puts added id b.put b.is_put;
  its_id = b.its_id;
  source = b.source;
  destination = b.destination;
  of_own = b.of_own;
}

-- ---- what is known of a life
-- How it began: its user heard nothing again but some of this, and no end twice; and of each sender that came back the put is found.
pub record HasBegun (own : ℕ) (puts : List Put) (earlier : List Indication) (l : ServiceLife) : Type 0 where
  pub again : (i : Indication) → Contains l.again i → Contains earlier i
  pub once : FinishedOnce l.again
  pub back : AreBack own puts l.back

-- What had been discarded before it began; what is known of its user's calls, if its user had heard that first; and how it began.
pub record KnownLife (own : ℕ) (puts : List Put) (l : ServiceLife) : Type 0 where
  pub earlier : List Indication
  pub known : Known own puts (heard_first earlier (shade l.served))
  pub begun : HasBegun own puts earlier l

begun_none : (own : ℕ) (puts : List Put) (earlier : List Indication) (l : ServiceLife) → (l.back ≡ []) × (l.again ≡ []) → HasBegun own puts earlier l
begun_none own puts earlier l (none_back, none_again) = record {
  again = λ i has. absurd (none_in i (subst (λ (is : List Indication). Contains is i) none_again has));
  once = λ id. subst (λ (is : List Indication). count_by (is_finished id) is ≤ 1) (sym none_again) (omega arith);
  back = λ place id x at. absurd (none_at place (id, Sends x) (subst (λ (es : List Entry). slice_get es place ≡ Some (id, Sends x)) none_back at));
}
  where
    none_in : (i : Indication) → Contains [] i → ⊥
    none_in i has = let k = has.0 in let low : k < 0 = has.1 in omega arith

begun_same : (own : ℕ) (puts : List Put) (earlier : List Indication) (old new : ServiceLife) → (new.back ≡ old.back) × (new.again ≡ old.again) → HasBegun own puts earlier old → HasBegun own puts earlier new
begun_same own puts earlier old new (back, again) b = record {
  again = subst (λ (is : List Indication). (i : Indication) → Contains is i → Contains earlier i) (sym again) b.again;
  once = subst FinishedOnce (sym again) b.once;
  back = subst (AreBack own puts) (sym back) b.back;
}

begun_as : (own : ℕ) (puts : List Put) (deed : Deed) (earlier : List Indication) (old new : ServiceLife) → BeganAs deed old new → HasBegun own puts earlier old → HasBegun own puts (earlier_then deed earlier) new
begun_as own puts (Wishes wish reply) earlier old new as_was b = begun_same own puts earlier old new as_was b
begun_as own puts (Says call) earlier old new as_was b = begun_same own puts earlier old new as_was b
begun_as own puts Tells earlier old new as_was b = begun_same own puts earlier old new as_was b
begun_as own puts LetsGo earlier old new as_was b = begun_same own puts earlier old new as_was b
begun_as own puts Turns earlier old new as_was b = begun_same own puts earlier old new as_was b
begun_as own puts Stops earlier old new as_was b = begun_same own puts earlier old new as_was b
begun_as own puts (Starts first number) earlier old new none b = begun_none own puts [] new none

begun_more : (own : ℕ) (puts added puts_then : List Put) (earlier : List Indication) (l : ServiceLife) → puts_then ≡ puts ++ added → HasBegun own puts earlier l → HasBegun own puts_then earlier l
begun_more own puts added puts_then earlier l more b = record {
  again = b.again;
  once = b.once;
  back = subst (λ (ps : List Put). AreBack own ps l.back) (sym more) (λ place id x at. back_more own puts added id x (b.back place id x at));
}

-- ---- at the other side something was done
pub others_known : (own : ℕ) (puts puts_then added : List Put) (old new : ServiceLife) → new ≡ old → puts_then ≡ puts ++ added → KnownLife own puts old → KnownLife own puts_then new
others_known own puts puts_then added old new same more k = subst (λ (l : ServiceLife). KnownLife own puts_then l) (sym same) (record {
  earlier = k.earlier;
  known = subst (λ (ps : List Put). Known own ps (heard_first k.earlier (shade old.served))) (sym more)
      (record { are = all_more own puts added (map Hears k.earlier ++ old.served.calls) k.known.are; told = k.known.told; gone = k.known.gone });
  begun = begun_more own puts added puts_then k.earlier old more k.begun;
})

-- ---- here something was done, as `Serving` has it
module _ (all : AllLaws) (c t : StationConfig) (there : FileMap) (joined : IsJoinedTo c t) (link : c.receives ≡ t.sends) (theirs : EndKept) {W : Type 0} (Steps : W → WireCall → W → Type 0) (deed : Deed)
    (old new : ServiceLife) (puts puts_then : List Put) (does : DoesDeed Steps deed c theirs (shade old.served) (shade new.served) puts puts_then)
    (h : Held c t old.served.begun there puts (shade old.served).kept theirs) where
  pub does_tells : TellsMore (told_of (shade old.served).kept) (told_of (shade new.served).kept)
  does_tells = deed_told all c t old.served.begun there joined link theirs Steps deed (shade old.served) (shade new.served) puts puts_then does h

  pub does_known : BeganAs deed old new → KnownLife c.entity.entity puts old → KnownLife c.entity.entity puts_then new
  does_known began k =
      let was : Served = heard_first k.earlier (shade old.served) in
      let is : Served = heard_first (earlier_then deed k.earlier) (shade new.served) in
      let d : DoesDeed Steps deed c theirs was is puts puts_then = deed_heard Steps deed c theirs k.earlier (shade old.served) (shade new.served) puts puts_then does in
      let added = deed_added Steps deed c theirs was is puts puts_then d in
      let gone : HearsGone is.calls (table_of is.kept.station) = deed_hears all c t old.served.begun there joined link theirs Steps deed was is puts puts_then d h k.known.gone in
      record {
        earlier = earlier_then deed k.earlier;
        known = deed_known c t old.served.begun there theirs Steps was is puts puts_then h does_tells gone k.known deed d;
        begun = begun_more c.entity.entity puts added.0 puts_then (earlier_then deed k.earlier) new added.1 (begun_as c.entity.entity puts deed k.earlier old new began k.begun);
      }

-- ---- here the station resumed
module _ (c t : StationConfig) (there : FileMap) (puts : List Put) (theirs : EndKept) (counted : ℕ) (old new : ServiceLife) (r : ResumesFrom counted c old new)
    (h : Held c t new.served.begun there puts (kept_sending new.served.has new.served.kept) theirs) where
  abbrev own : ℕ
  own = c.entity.entity

  abbrev table : TableState
  table = (entity_in new).table

  -- what was discarded before
  abbrev discarded : List Indication
  discarded = take table.gone table.told

  its_calls : map Hears discarded ++ new.served.calls ≡ map Hears discarded
  its_calls = ap (λ (l : List UserCall). map Hears discarded ++ l) r.calls ∙ append-nil (map Hears discarded)

  its_heard : heard_by (map Hears discarded ++ new.served.calls) ≡ discarded
  its_heard = ap heard_by its_calls ∙ hears_all discarded

  all_discarded : (i : Indication) → Contains discarded i → Contains table.told i
  all_discarded i has = subst (λ (l : List Indication). Contains l i) (take-append-drop table.gone table.told) (Contains-append_left discarded (drop table.gone table.told) i has)

  sound : IsSound (found puts) (h.m.heard_before ++ h.m.heard) new.served.begun (kept_sending new.served.has new.served.kept).station.entity.state
  sound = subst (λ (s : StationState). IsSound (found puts) (h.m.heard_before ++ h.m.heard) new.served.begun s.entity.state) h.of_mine.station h.kept_mine.entity

  own_here : (entity_in new).config.entity ≡ own
  own_here = ap (λ (s : StationState). s.entity.state.config.entity) (sym h.of_mine.station) ∙ h.kept_mine.own

  came_back : (place : ℕ) (id : TransactionId) (x : SenderState) → slice_get table.records place ≡ Some (id, Sends x) → IsBackPut own puts id x
  came_back place id x at =
      let sends = sound.sends.sends place (id, Sends x) at in
      let knows = sound.knows.knows place (id, Sends x) at in
      record {
        put = sends.put;
        is_put = sends.is_put;
        its_id = sym sends.sender.id ∙ knows.0;
        source = sym sends.sender.source;
        destination = sym sends.sender.destination;
        of_own = knows.1 ∙ own_here;
      }

  pub resumed_known : KnownLife own puts new
  resumed_known = record {
    earlier = discarded;
    known = record {
      are = subst (ArePut own puts) (sym its_calls) (hears_known own puts [] discarded (none_known own puts));
      told = λ i has. Contains-append_right new.served.kept.told_before table.told i (all_discarded i (subst (λ (l : List Indication). Contains l i) its_heard has));
      gone = record { few = r.few; heard = its_heard };
    };
    begun = record { again = r.again; once = r.once; back = subst (AreBack own puts) (sym r.back) came_back };
  }

-- ---- a life that a start began
pub first_life : (own : ℕ) (puts : List Put) (l : ServiceLife) → Known own puts (shade l.served) → l.back ≡ [] → l.again ≡ [] → KnownLife own puts l
first_life own puts l k back again = record { earlier = []; known = k; begun = begun_none own puts [] l (back, again) }
