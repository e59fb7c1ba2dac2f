-- What is done at two stations, with what their files to send have in the place of what their outboxes have: the same, and
-- the files stand.
use Rattle.std.proofs.Common.{◌≡◌, ℕ, zero, suc, Option, Result, Ok, Err, List, refl, sym, ap, subst, ◌∙◌, inl, inr}
use Rattle.std.specs.FinMap.{empty}
use Rattle.std.specs.Prelude.{Contains}
use Rattle.cfdp_header.specs.declared.value.TransactionId.{TransactionId}
use Rattle.cfdp_header.specs.Files.{FileMap}
use Rattle.cfdp_directives.specs.User.Put.{Put, inbox_after}
use Rattle.cfdp_entity.specs.declared.error.PutError.{PutError}
use Rattle.cfdp_entity.specs.Entity.{Counted, EntityState}
use Rattle.cfdp_entity.specs.Looking.{Looks}
use Rattle.cfdp_entity.specs.Putting.{IsPutRefusal, stored_by_error}
use Rattle.cfdp_station.specs.declared.config.StationConfig.{StationConfig}
use Rattle.cfdp_station.specs.Requests.{StationAnswers}
use Rattle.cfdp_station.specs.Station.{StationState}
use Rattle.cfdp_station.specs.Transmitting.{Times}
use Rattle.any_order.specs.Calls.{One, Two, Setup, Side, at, numbered_from, other, setup_of}
use Rattle.any_order.specs.Kept.{EndKept, IsOf}
use Rattle.any_order.specs.Promise.{found}
use Rattle.cfdp_port.specs.Asking as asking
use Rattle.cfdp_port.specs.Asking.{CountsFrom, FailsToLook, LooksAt}
use Rattle.cfdp_port.specs.Calls.{WireCall}
use Rattle.cfdp_port.specs.Port.{table_of}
use Rattle.cfdp_service.specs.Calls.{UserCall}
use Rattle.cfdp_service.specs.Clerk.{IsAccepted}
use Rattle.cfdp_service.specs.declared.wish.Reply.{Reply}
use Rattle.cfdp_service.specs.declared.wish.Reply.TheVariants as replies
use Rattle.cfdp_service.specs.declared.wish.Wish.{Wish}
use Rattle.cfdp_service.specs.declared.wish.Wish.TheVariants as wishes
use Rattle.shown_sources.specs.Shown.{AreAsLong, counted_sending, entity_sending, station_sending, table_sending}
use Rattle.shown_sources.proofs.Tables.{accepts_keeps, accepts_sending, put_refused_same, some_keeps, some_sending, station_answers, station_keeps}
use Rattle.promises.specs.Promise as promise
use Rattle.promises.specs.Serving.{Deed, Finds, InboxLife, IsBegun, Says, Served, Starts, Stations, Stops, Tells, Turns, Wishes, inboxes, kept_sending, served_at}
use Rattle.promises.specs.Serving as serving
use Rattle.promises.proofs.Lively.{Holds}
use Rattle.promises.proofs.Lasting.{AllHold, EndLaws, alike_holds}
use Rattle.promises.proofs.Shading.{Long, early_so, turn_so}
use Rattle.promises.proofs.Standing as standing

-- ---- wishes
module _ (source : List ℕ) (has now : FileMap) (old looked : StationState) (finds : Finds source has now (table_of old) (table_of looked)) where
  looks_so : Looks source (table_of old) (table_of looked) → Looks source (table_sending has (table_of old)) (table_sending now (table_of looked))
  looks_so (inl (sent, same)) = inl (
    sent,
    ap (λ (f : FileMap). table_sending f (table_of looked)) (finds.sent sent) ∙ ap (table_sending has) same,
  )
  looks_so (inr anew) = inr (record {
    unsent = anew.unsent;
    looks = record { others = finds.others; stood = λ stand. stand };
    table = ap (table_sending now) anew.table;
  })

  look_so : LooksAt source old looked → LooksAt source (station_sending has old) (station_sending now looked)
  look_so l = record {
    looks = record { looks = looks_so l.looks.looks; entity = ap (entity_sending now) l.looks.entity };
    failures = l.failures;
    link = l.link;
  }

put_so : (source destination : List ℕ) (answer : Result TransactionId PutError) (now : FileMap) (a b : StationState) → asking.Puts source destination answer a b → Long now a →
    asking.Puts source destination answer (station_sending now a) (station_sending now b)
put_so source destination (Ok id) now a b (accepts, failures, link) long = (accepts_sending now source destination id a.entity.state b.entity.state long accepts, failures, link)
put_so source destination (Err by) now a b (refused, same, counts, link) long = (
  subst (λ (o : Option PutError). IsPutRefusal o by) (sym (put_refused_same now (stored_by_error by) source destination a.entity.state long)) refused,
  ap (entity_sending now) same,
  counts,
  link,
)

put_long : (source destination : List ℕ) (answer : Result TransactionId PutError) (now : FileMap) (a b : StationState) → asking.Puts source destination answer a b → Long now a → Long now b
put_long source destination (Ok id) now a b p long = subst (λ (f : FileMap). AreAsLong f now) (sym (accepts_keeps source destination id a.entity.state b.entity.state p.0)) long
put_long source destination (Err by) now a b p long = subst (λ (e : EntityState). AreAsLong e.table.sources now) (sym p.1) long

file_so : (source destination : List ℕ) (answer : Result TransactionId PutError) (has now : FileMap) (a b : StationState) (added : List Put) → serving.PutsFile source destination answer has now a b added →
    standing.PutsFile source destination answer (station_sending has a) (station_sending now b) added × Long now b
file_so source destination answer has now a b added f = (
  record {
    looked = station_sending now f.looked;
    looks = look_so source has now a f.looked f.finds f.looks;
    keeps = f.finds.keeps;
    puts = put_so source destination answer now f.looked b f.puts f.finds.long;
    added = f.added;
  },
  put_long source destination answer now f.looked b f.puts f.finds.long,
)

same_long : (has now : FileMap) (a b : StationState) → now ≡ has → (table_of b).sources ≡ (table_of a).sources → Long has a → Long now b
same_long has now a b is same long = subst (λ (f : FileMap). Long f b) (sym is) (subst (λ (f : FileMap). AreAsLong f has) (sym same) long)

wish_so : (wish : Wish) (reply : Reply) (has now : FileMap) (a b : StationState) (added : List Put) → serving.Fulfils wish reply has now a b added → Long has a →
    standing.Fulfils wish reply (station_sending has a) (station_sending now b) added × Long now b
wish_so (wishes.Put names) (replies.Put answer) has now a b added (inl f) long =
    let r = file_so names.source.items names.destination.items answer has now a b added f in
    (inl r.0, r.1)
wish_so (wishes.Put names) (replies.Put answer) has now a b added (inr (is, fails, kept, none)) long =
    let failed : FailsToLook (station_sending has a) (station_sending now b) = record {
      same = ap (λ (f : FileMap). entity_sending f b.entity.state) kept ∙ ap (entity_sending has) fails.same;
      outbox = fails.outbox;
      inbox = fails.inbox;
      link = fails.link;
    } in
    (inr (is, failed, none), same_long has now a b kept (ap (λ (e : EntityState). e.table.sources) fails.same) long)
wish_so (wishes.Put names) (replies.Change answer) has now a b added f long = absurd f
wish_so (wishes.Change id request) (replies.Change answer) has now a b added (answers, kept, none) long = (
  (
    subst (λ (f : FileMap). StationAnswers request id answer (station_sending has a) (station_sending f b)) (sym kept) (station_answers has request id answer a b answers),
    none,
  ),
  same_long has now a b kept (station_keeps request id answer a b answers) long,
)
wish_so (wishes.Change id request) (replies.Put answer) has now a b added f long = absurd f

-- ---- what is done
-- a station, with what its files to send have
abbrev pub shade : Served → Served
shade s = record { kept = kept_sending s.has s.kept; calls = s.calls; has = empty; begun = s.begun; inboxes_before = s.inboxes_before }

abbrev pub LongOf : Served → Type 0
LongOf s = Long s.has s.kept.station

begun_so : (c : StationConfig) (first : ℕ) (sources files has : FileMap) (s : StationState) → IsBegun c first sources files s → IsBegun c first has files (station_sending has s)
begun_so c first sources files has s b = record {
  fresh = station_sending has b.fresh;
  is_new = record { entity = ap (entity_sending has) b.is_new.entity; down = b.is_new.down; up = b.is_new.up };
  count = b.count;
  counts = record { down = b.counts.down; rest = (ap (counted_sending has) b.counts.rest.0, b.counts.rest.1) };
  counted = b.counted;
}

begun_long : (c : StationConfig) (first : ℕ) (sources files has : FileMap) (s : StationState) → IsBegun c first sources files s → AreAsLong sources has → Long has s
begun_long c first sources files has s b long =
    let is : (table_of s).sources ≡ sources = ap (λ (e : Counted). e.state.table.sources) b.counts.rest.0 ∙ ap (λ (e : EntityState). e.table.sources) b.is_new.entity in
    subst (λ (f : FileMap). AreAsLong f has) (sym is) long

-- a station that went on, so seen
shade_same : (old new : Served) → new ≡ record old { kept = new.kept } → new.has ≡ old.has → shade new ≡ record (shade old) { kept = (shade new).kept }
shade_same old new same has = ap shade same ∙ ap (λ (f : FileMap). record (shade old) { kept = kept_sending f new.kept }) (sym has)

module _ {W : Type 0} (Steps : W → WireCall → W → Type 0) where
  pub deed_so : (deed : Deed) (c : StationConfig) (theirs : EndKept) (others : FileMap) (old new : Served) (puts puts_then : List Put) → serving.DoesDeed Steps deed c theirs old new puts puts_then → LongOf old →
      standing.DoesDeed Steps deed c (kept_sending others theirs) (shade old) (shade new) puts puts_then × LongOf new
  deed_so (Wishes wish reply) c theirs others old new puts puts_then (station, now, added, does, same, more) long =
      let r = wish_so wish reply old.has now old.kept.station station added does long in
      ((station_sending now station, added, r.0, ap shade same, more), subst (λ (s : Served). LongOf s) (sym same) r.1)
  deed_so (Says call) c theirs others old new puts puts_then (is, same, more) long = ((is, ap shade same, more), subst (λ (s : Served). LongOf s) (sym same) long)
  deed_so Tells c theirs others old new puts puts_then (same, more) long = ((ap shade same, more), subst (λ (s : Served). LongOf s) (sym same) long)
  deed_so serving.LetsGo c theirs others old new puts puts_then (station, go, same, more) long =
      let gone : asking.LetsGo (station_sending old.has old.kept.station) (station_sending old.has station) = record {
        forgets = some_sending old.has old.kept.station.entity.state station.entity.state go.forgets;
        inbox = go.inbox;
        outbox = go.outbox;
        link = go.link;
      } in
      let still : Long old.has station =
      subst (λ (f : FileMap). AreAsLong f old.has) (sym (some_keeps old.kept.station.entity.state station.entity.state go.forgets)) long in
      ((station_sending old.has station, gone, ap shade same, more), subst (λ (s : Served). LongOf s) (sym same) still)
  deed_so Turns c theirs others old new puts puts_then (turn, same, more) long =
      let has : new.has ≡ old.has = ap (λ (s : Served). s.has) same in
      let r = turn_so old.has Steps c.receives theirs (kept_sending others theirs) refl old.kept new.kept turn long in (
        (
          subst (λ (f : FileMap). standing.TakesTurn Steps c.receives (kept_sending others theirs) (kept_sending old.has old.kept) (kept_sending f new.kept)) (sym has) r.0,
          shade_same old new same has,
          more,
        ),
        subst (λ (f : FileMap). Long f new.kept.station) (sym has) r.1,
      )
  deed_so Stops c theirs others old new puts puts_then (turn, same, more) long =
      let has : new.has ≡ old.has = ap (λ (s : Served). s.has) same in
      let r = early_so old.has Steps c.receives theirs (kept_sending others theirs) refl old.kept new.kept turn long in (
        (
          subst (λ (f : FileMap). standing.EndsEarly Steps c.receives (kept_sending others theirs) (kept_sending old.has old.kept) (kept_sending f new.kept)) (sym has) r.0,
          shade_same old new same has,
          more,
        ),
        subst (λ (f : FileMap). Long f new.kept.station) (sym has) r.1,
      )
  deed_so (Starts first number) c theirs others old new puts puts_then (a, more) long =
      let config : StationConfig = record c { entity = numbered_from number c.entity } in
      let starts : standing.StartsAnew first number c (shade old) (shade new) = record {
        valid = a.valid;
        sources = new.has;
        begun = begun_so config first a.sources new.begun new.has new.kept.station a.begun;
        unused = a.unused;
        apart = a.apart;
        kept = ap (kept_sending new.has) a.kept;
        calls = a.calls;
        inboxes_before = a.inboxes_before;
      } in
      ((starts, more), begun_long config first a.sources new.begun new.has new.kept.station a.begun a.long)

  -- ---- at both
  module _ (c : Setup) where
    pub shade_all : Stations → Stations
    shade_all w = record { one = shade w.one; two = shade w.two; puts = w.puts }

    pub shaded_is : (w : Stations) → shade_all w ≡ record { one = shade w.one; two = shade w.two; puts = w.puts }
    unfolding shade_all
    shaded_is w = refl

    pub record AreLong (w : Stations) : Type 0 where
      pub one : LongOf w.one
      pub two : LongOf w.two

    goes_at : (s : Side) (deed : Deed) (old new : Stations) → serving.DoesDeed Steps deed (setup_of s c) (served_at (other s) old).kept (served_at s old) (served_at s new) old.puts new.puts →
        served_at (other s) new ≡ served_at (other s) old → AreLong old → standing.Goes Steps c (shade_all old) (shade_all new) × AreLong new
    unfolding shade_all
    goes_at One deed old new does others long =
        let r = deed_so deed c.one old.two.kept old.two.has old.one new.one old.puts new.puts does long.one in
        (record { side = One; deed = deed; does = r.0; others = ap shade others }, record { one = r.1; two = subst (λ (s : Served). LongOf s) (sym others) long.two })
    goes_at Two deed old new does others long =
        let r = deed_so deed c.two old.one.kept old.one.has old.two new.two old.puts new.puts does long.two in
        (record { side = Two; deed = deed; does = r.0; others = ap shade others }, record { one = subst (λ (s : Served). LongOf s) (sym others) long.one; two = r.1 })

    pub went_so : (count : ℕ) (old new : Stations) → Times (serving.Goes Steps c) count old new → AreLong old → Times (standing.Goes Steps c) count (shade_all old) (shade_all new) × AreLong new
    went_so zero old new same long = (ap shade_all same, subst AreLong (sym same) long)
    went_so (suc count) old new (mid, before, goes) long =
        let first = went_so count old mid before long in
        let one = goes_at goes.side goes.deed mid new goes.does goes.others first.1 in
        ((shade_all mid, first.0, one.0), one.1)

    first_at : (s : Side) (counts : Side → ℕ) (sources files : Side → FileMap) (w : Stations) → serving.IsFirst (setup_of s c) (counts s) (sources s) (files s) (served_at s w) →
        standing.IsFirst (setup_of s c) (counts s) (served_at s w).has (files s) (shade (served_at s w))
    first_at s counts sources files w f = record {
      begun = begun_so (setup_of s c) (counts s) (sources s) (files s) (served_at s w).has (served_at s w).kept.station f.begun;
      kept = ap (kept_sending (served_at s w).has) f.kept;
      calls = f.calls;
      is_begun = f.is_begun;
      inboxes_before = f.inboxes_before;
    }

    each_first : (counts : Side → ℕ) (sources files : Side → FileMap) (w : Stations) → ((s : Side) → serving.IsFirst (setup_of s c) (counts s) (sources s) (files s) (served_at s w)) → (s : Side) →
        standing.IsFirst (setup_of s c) (counts s) (served_at s w).has (files s) (served_at s (shade_all w))
    unfolding shade_all
    each_first counts sources files w each One = first_at One counts sources files w (each One)
    each_first counts sources files w each Two = first_at Two counts sources files w (each Two)

    first_long : (counts : Side → ℕ) (sources files : Side → FileMap) (w : Stations) → serving.AreFirst c counts sources files w → AreLong w
    first_long counts sources files w f =
        let one = f.each One in
        let two = f.each Two in
        record {
          one = begun_long c.one (counts One) (sources One) (files One) w.one.has w.one.kept.station one.begun one.long;
          two = begun_long c.two (counts Two) (sources Two) (files Two) w.two.has w.two.kept.station two.begun two.long;
        }

    pub served_so : (files : Side → FileMap) (now : Stations) → serving.HaveServed Steps c files now → standing.HaveServed Steps c files (shade_all now) × AreLong now
    unfolding shade_all
    served_so files now s =
        let went = went_so s.count s.first now s.went (first_long s.counts s.sources files s.first s.begins) in (
          record {
            counts = s.counts;
            sources = λ side. (served_at side s.first).has;
            first = shade_all s.first;
            begins = record { each = each_first s.counts s.sources files s.first s.begins.each; puts = s.begins.puts };
            count = s.count;
            went = went.0;
          },
          went.1,
        )

    -- ---- what holds
    pub keeps_so : (files : Side → FileMap) (w : Stations) → standing.KeepPromise c files (shade_all w) → promise.KeepPromise c files w
    unfolding shade_all
    keeps_so files w k = record {
      now = k.now;
      is = is;
      puts = k.puts;
      can_be = k.can_be;
      once = k.once;
      caused = k.caused;
      told = k.told;
      truth = k.truth;
      folded = folded;
      inbox = inbox;
    }
      where
        is : (s : Side) → IsOf (kept_sending (served_at s w).has (served_at s w).kept) (at s k.now)
        is One = k.is One
        is Two = k.is Two

        folded : (s : Side) (l : InboxLife) → Contains (inboxes (served_at s w)) l → promise.IsFolded (promise.own_of (served_at s w)) w.puts l
        folded One l among = k.folded One l among
        folded Two l among = k.folded Two l among

        inbox : (s : Side) → promise.FollowEachOther (files s) (inboxes (served_at s w)) → promise.inbox_of (served_at s w) ≡ inbox_after (found w.puts) (files s) (promise.completed_by (served_at s w))
        inbox One follow = k.inbox One follow
        inbox Two follow = k.inbox Two follow

    -- with what its outbox has, a station has as much to do
    pub holds_so : (laws : EndLaws) (w : Stations) → AllHold c (shade_all w) → (s : Side) → Holds (setup_of s c).entity.policy (served_at s w).kept.station.entity.state
    unfolding shade_all
    holds_so laws w k One = alike_holds laws c.one.entity.policy _ w.one.kept.station.entity.state refl refl refl refl (k One)
    holds_so laws w k Two = alike_holds laws c.two.entity.policy _ w.two.kept.station.entity.state refl refl refl refl (k Two)

    pub sent_so : (s : Side) (name : List ℕ) (put : Put) (w : Stations) → promise.IsSent s name put (shade_all w) → promise.IsSent s name put w
    unfolding shade_all
    sent_so One name put w i = record { is_put = i.is_put; source = i.source; destination = i.destination; told = i.told }
    sent_so Two name put w i = record { is_put = i.is_put; source = i.source; destination = i.destination; told = i.told }

    pub lies_so : (s : Side) (put : Put) (w : Stations) → promise.Lies s put (shade_all w) → promise.Lies s put w
    unfolding shade_all
    lies_so One put w l = record { life = l.life; one_of = l.one_of; before = l.before; behind = l.behind; is = l.is; last = l.last; among = l.among; is_put = l.is_put; name = l.name; file = l.file }
    lies_so Two put w l = record { life = l.life; one_of = l.one_of; before = l.before; behind = l.behind; is = l.is; last = l.last; among = l.among; is_put = l.is_put; name = l.name; file = l.file }

    pub delivered_so : (s : Side) (calls asked : List UserCall) (names : List (List ℕ)) (w : Stations) → asked ≡ calls → promise.AreDelivered s asked names (shade_all w) → promise.AreDelivered s calls names w
    delivered_so s calls asked names w same d = record {
      puts = d.puts;
      named = d.named;
      apart = d.apart;
      accepted = λ put has. subst (λ (l : List UserCall). IsAccepted l put.source put.id) same (d.accepted put has);
      sent = λ put has. sent_so s put.source put w (d.sent put has);
      lie = λ put has. lies_so (other s) put w (d.lie put has);
    }

    pub calls_so : (s : Side) (w : Stations) → (served_at s (shade_all w)).calls ≡ (served_at s w).calls
    unfolding shade_all
    calls_so One w = refl
    calls_so Two w = refl
