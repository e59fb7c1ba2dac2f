-- From two stations at which nothing was done to what holds of both after anything was done.
use Rattle.std.proofs.Common.{◌≡◌, ℕ, zero, suc, None, Some, List, [], ◌++◌, refl, sym, ap, subst, ◌∙◌, arith, append-nil}
use Rattle.std.specs.Prelude.{Contains}
use Rattle.aos_frame.specs.declared.config.Lane.{Lane}
use Rattle.aos_frame.specs.declared.config.Lane.TheVariants.{Directives, Data}
use Rattle.cfdp_header.specs.Files.{FileMap}
use Rattle.cfdp_header.specs.declared.value.Header.{Header}
use Rattle.cfdp_header.specs.declared.value.TransactionId.{TransactionId}
use Rattle.cfdp_directives.specs.Pdu.Content.{Content}
use Rattle.cfdp_directives.specs.Pdu.Grammar.{SpellsPdu}
use Rattle.cfdp_directives.specs.User.Put.{HeardInFull, Put, SaysTruth}
use Rattle.link_stack.specs.Downward.{both_counted_from, first_down}
use Rattle.cfdp_entity.specs.Entity.{Counted}
use Rattle.cfdp_station.specs.declared.config.StationConfig.{StationConfig}
use Rattle.cfdp_station.specs.Station.{StationState}
use Rattle.cfdp_station.specs.Transmitting.{Times}
use Rattle.any_order.specs.Calls.{AreJoined, End, IsNew, One, Two, Pair, Setup, Side, at, other, setup_of}
use Rattle.any_order.specs.Kept.{EndKept, HasTaken, IsOf, last_at}
use Rattle.any_order.specs.Promise.{HasSent, completed, found, heard_ever, own}
use Rattle.any_order.proofs.Kept.{KeepsLife}
use Rattle.any_order.proofs.Promise.{caused_at, is_told, joined_to, new_life, says_truth}
use Rattle.cfdp_port.specs.Calls.{WireCall}
use Rattle.promises.specs.Promise.{CanBe, IsFolded, own_of}
use Rattle.promises.specs.Serving.{Deed, InboxLife, LetsGo, Says, Served, Starts, Stations, Stops, Tells, Turns, Wishes, inboxes, served_at}
use Rattle.promises.proofs.Standing.{AreFirst, DoesDeed, Goes, HaveServed, IsFirst, KeepPromise}
use Rattle.promises.proofs.Doing.{AllLaws, deed_held}
use Rattle.promises.proofs.Holding.{Held, at_count, held_other}
use Rattle.promises.proofs.Inboxing.{Inboxed, all_folded, deed_inboxed, inbox_followed, inboxed_on, now_folded, told_in}

-- what holds at one side and at the other
pub each : (P : Side → Type 0) (s : Side) → P s → P (other s) → (r : Side) → P r
each P One here there One = here
each P One here there Two = there
each P Two here there One = there
each P Two here there Two = here

-- What is held of both, and known of the lives of their inboxes.
pub record AreHeld (c : Setup) (w : Stations) : Type 0 where
  pub both : Held c.one c.two w.one.begun w.two.begun w.puts w.one.kept w.two.kept
  pub inboxed : (s : Side) → Inboxed (setup_of s c).entity.entity w.puts (served_at s w)

-- the same, seen from either side
abbrev HeldFrom : Setup → Stations → Side → Type 0
HeldFrom c w s = Held (setup_of s c) (setup_of (other s) c) (served_at s w).begun (served_at (other s) w).begun w.puts (served_at s w).kept (served_at (other s) w).kept

pub held_at : (c : Setup) (w : Stations) (s : Side) → AreHeld c w → HeldFrom c w s
held_at c w One h = h.both
held_at c w Two h = held_other c.one c.two w.one.begun w.two.begun w.puts w.one.kept w.two.kept h.both

from_side : (c : Setup) (w : Stations) (s : Side) → HeldFrom c w s → Held c.one c.two w.one.begun w.two.begun w.puts w.one.kept w.two.kept
from_side c w One h = h
from_side c w Two h = held_other c.two c.one w.two.begun w.one.begun w.puts w.two.kept w.one.kept h

-- ---- nothing was done
first_end : EndKept → End
first_end k = record { station = k.station; first = k.latest.first; sent = []; came = []; heard = []; lives_before = []; told_before = []; heard_before = [] }

module _ (c : StationConfig) (count : ℕ) (sources files : FileMap) (s : Served) (f : IsFirst c count sources files s) where
  begun_new : IsNew c count sources files (first_end s.kept)
  unfolding first_end
  begun_new =
      let b = f.begun in
      record {
        entity = ap (λ (x : Counted). x.state) b.counts.rest.0 ∙ b.is_new.entity;
        down = b.counts.down ∙ ap (both_counted_from b.count) b.is_new.down ∙ ap (λ (n : ℕ). at_count n (first_down c.sends c.capacity)) b.counted;
        up = b.counts.rest.1 ∙ b.is_new.up;
        first = ap (λ (k : EndKept). k.latest.first) f.kept;
        sent = refl;
        came = refl;
        heard = refl;
        lives_before = refl;
        told_before = refl;
        heard_before = refl;
      }

  begun_of : IsOf s.kept (first_end s.kept)
  unfolding first_end
  begun_of = record {
    station = refl;
    before = ap (λ (k : EndKept). k.before) (sym f.kept);
    latest = ap (λ (k : EndKept). record { first = s.kept.latest.first; directives = k.latest.directives; file_data = k.latest.file_data }) (sym f.kept);
    told = ap (λ (k : EndKept). k.told_before) (sym f.kept);
  }

  begun_last : (lane : Lane) → None ≡ last_at lane s.kept
  begun_last Directives = ap (λ (k : EndKept). k.last_directives) (sym f.kept)
  begun_last Data = ap (λ (k : EndKept). k.last_data) (sym f.kept)

  begun_taken : (t : StationConfig) (theirs : End) → HasTaken t.receives s.kept (first_end s.kept) theirs
  unfolding first_end
  begun_taken t theirs = record { coming = tt; near = λ lane. tt; last = begun_last }

none_before : (own : ℕ) (puts : List Put) (s : Served) → s.inboxes_before ≡ [] → s.kept.told_before ≡ [] → Inboxed own puts s
none_before own puts s none told = record {
  folded = λ l among. absurd (no_life l (subst (λ (ls : List InboxLife). Contains ls l) none among));
  told = ap told_in none ∙ sym told;
}
  where
    no_life : (l : InboxLife) → Contains [] l → ⊥
    no_life l (k, low, e) = omega (arith, low)

pub first_held : AllLaws → (c : Setup) (counts : Side → ℕ) (sources files : Side → FileMap) (w : Stations) → AreJoined c → AreFirst c counts sources files w → AreHeld c w
first_held all c counts sources files w joined f =
    let one = f.each One in
    let two = f.each Two in
    let m : End = first_end w.one.kept in
    let o : End = first_end w.two.kept in
    record {
      both = record {
        m = m;
        o = o;
        of_mine = begun_of c.one (counts One) (sources One) (files One) w.one one;
        of_theirs = begun_of c.two (counts Two) (sources Two) (files Two) w.two two;
        taken_mine = begun_taken c.one (counts One) (sources One) (files One) w.one one c.one o;
        taken_theirs = begun_taken c.two (counts Two) (sources Two) (files Two) w.two two c.two m;
        kept_mine = subst (λ (b : FileMap). KeepsLife c.one c.two b w.puts m o) (sym one.is_begun)
            (new_life all.laws c.one c.two (counts One) (sources One) (files One) w.puts m o (joined.valid One).entity (joined.link One)
            (begun_new c.one (counts One) (sources One) (files One) w.one one) f.puts);
        kept_theirs = subst (λ (b : FileMap). KeepsLife c.two c.one b w.puts o m) (sym two.is_begun)
            (new_life all.laws c.two c.one (counts Two) (sources Two) (files Two) w.puts o m (joined.valid Two).entity (joined.link Two)
            (begun_new c.two (counts Two) (sources Two) (files Two) w.two two) f.puts);
      };
      inboxed = λ s.
          none_before (setup_of s c).entity.entity w.puts (served_at s w) (f.each s).inboxes_before (ap (λ (k : EndKept). k.told_before) (f.each s).kept);
    }

-- what was put stays, and more was
pub deed_added : {W : Type 0} (Steps : W → WireCall → W → Type 0) (deed : Deed) (c : StationConfig) (theirs : EndKept) (old new : Served) (puts puts_then : List Put) →
    DoesDeed Steps deed c theirs old new puts puts_then → (added : List Put) × (puts_then ≡ puts ++ added)
deed_added Steps (Wishes wish reply) c theirs old new puts puts_then d = (d.1, d.4)
deed_added Steps (Says call) c theirs old new puts puts_then d = ([], d.2 ∙ sym (append-nil puts))
deed_added Steps Tells c theirs old new puts puts_then d = ([], d.1 ∙ sym (append-nil puts))
deed_added Steps LetsGo c theirs old new puts puts_then d = ([], d.3 ∙ sym (append-nil puts))
deed_added Steps Turns c theirs old new puts puts_then d = ([], d.2 ∙ sym (append-nil puts))
deed_added Steps Stops c theirs old new puts puts_then d = ([], d.2 ∙ sym (append-nil puts))
deed_added Steps (Starts counted number) c theirs old new puts puts_then d = ([], d.1 ∙ sym (append-nil puts))

-- ---- anything was done
module _ {W : Type 0} (Steps : W → WireCall → W → Type 0) (all : AllLaws) (c : Setup) (joined : AreJoined c) where
  does_held : (s : Side) (deed : Deed) (old new : Stations) → DoesDeed Steps deed (setup_of s c) (served_at (other s) old).kept (served_at s old) (served_at s new) old.puts new.puts →
      served_at (other s) new ≡ served_at (other s) old → AreHeld c old → AreHeld c new
  does_held s deed old new does others h =
      let d : StationConfig = setup_of s c in
      let t : StationConfig = setup_of (other s) c in
      let mine : Served = served_at s old in
      let theirs : Served = served_at (other s) old in
      let from : HeldFrom c old s = held_at c old s h in
      let added = deed_added Steps deed d theirs.kept mine (served_at s new) old.puts new.puts does in
      let here : Inboxed d.entity.entity new.puts (served_at s new) = deed_inboxed Steps deed d t theirs.begun theirs.kept mine (served_at s new) old.puts new.puts does from (h.inboxed s) in
      let there : Inboxed t.entity.entity new.puts (served_at (other s) new) =
      inboxed_on t d theirs.begun mine.begun mine.kept theirs (served_at (other s) new) old.puts new.puts added.0 added.1 (ap (λ (x : Served). x.inboxes_before) others)
      (ap (λ (x : Served). x.kept.told_before) others) (held_other d t mine.begun theirs.begun old.puts mine.kept theirs.kept from) (h.inboxed (other s)) in
      record {
        both = from_side c new s
            (subst (λ (x : Served). Held d t (served_at s new).begun x.begun new.puts (served_at s new).kept x.kept) (sym others)
            (deed_held all d t theirs.begun (joined_to c s joined) (joined.link s) theirs.kept Steps deed mine (served_at s new) old.puts new.puts does from));
        inboxed = each (λ r. Inboxed (setup_of r c).entity.entity new.puts (served_at r new)) s here there;
      }

  pub goes_held : (old new : Stations) → Goes Steps c old new → AreHeld c old → AreHeld c new
  goes_held old new g h = does_held g.side g.deed old new g.does g.others h

  pub went_held : (count : ℕ) (old new : Stations) → Times (Goes Steps c) count old new → AreHeld c old → AreHeld c new
  went_held zero old new same h = subst (λ (w : Stations). AreHeld c w) (sym same) h
  went_held (suc count) old new (mid, before, goes) h = goes_held mid new goes (went_held count old mid before h)

  pub served_held : (files : Side → FileMap) (now : Stations) → HaveServed Steps c files now → AreHeld c now
  served_held files now s = went_held s.count s.first now s.went (first_held all c s.counts s.sources files s.first joined s.begins)

-- ---- what holds
-- a history that is kept so can be
can_be : (c t : StationConfig) (begun : FileMap) (puts : List Put) (m o : End) → KeepsLife c t begun puts m o → CanBe c t m o
can_be c t begun puts m o k = record {
  each = k.each;
  sends = k.sending;
  coming = k.coming;
  heard = k.received;
  heard_before = λ pdu among. let was = k.sent_before pdu among in (was.life, (was.one, (was.lane, was.among)));
}

-- what its entity is
pub own_so : (c : Setup) (s : Side) (w : Stations) → AreHeld c w → own_of (served_at s w) ≡ (setup_of s c).entity.entity
own_so c s w h =
    let from : HeldFrom c w s = held_at c w s h in
    ap (λ (x : StationState). x.entity.state.config.entity) (sym from.of_mine.station) ∙ from.kept_mine.own

module _ (all : AllLaws) (c : Setup) (joined : AreJoined c) (w : Stations) (h : AreHeld c w) where
  now : Pair
  now = record { one = h.both.m; two = h.both.o; puts = w.puts }

  are_kept : (s : Side) → KeepsLife (setup_of s c) (setup_of (other s) c) (served_at s w).begun w.puts (at s now) (at (other s) now)
  unfolding now
  are_kept One = h.both.kept_mine
  are_kept Two = h.both.kept_theirs

  beside : (s : Side) → KeepsLife (setup_of (other s) c) (setup_of s c) (served_at (other s) w).begun w.puts (at (other s) now) (at s now)
  unfolding now
  beside One = h.both.kept_theirs
  beside Two = h.both.kept_mine

  are_of : (s : Side) → IsOf (served_at s w).kept (at s now)
  unfolding now
  are_of One = h.both.of_mine
  are_of Two = h.both.of_theirs

  puts_so : now.puts ≡ w.puts
  unfolding now
  puts_so = refl

  -- by this entity's number
  pub folded_so : (s : Side) (l : InboxLife) → Contains (inboxes (served_at s w)) l → IsFolded (own_of (served_at s w)) w.puts l
  folded_so s l among =
      let from : HeldFrom c w s = held_at c w s h in
      subst (λ (n : ℕ). IsFolded n w.puts l) (sym (own_so c s w h))
      (all_folded (setup_of s c).entity.entity w.puts (served_at s w) (h.inboxed s)
      (now_folded (setup_of s c) (setup_of (other s) c) (served_at s w).begun (served_at (other s) w).begun w.puts (served_at s w).kept (served_at (other s) w).kept from) l among)

  pub inboxed_so : (s : Side) → Inboxed (own_of (served_at s w)) w.puts (served_at s w)
  inboxed_so s = subst (λ (n : ℕ). Inboxed n w.puts (served_at s w)) (sym (own_so c s w h)) (h.inboxed s)

  pub held_keeps : (files : Side → FileMap) → KeepPromise c files w
  held_keeps files = record {
    now = now;
    is = are_of;
    puts = puts_so;
    can_be = λ s. can_be (setup_of s c) (setup_of (other s) c) (served_at s w).begun w.puts (at s now) (at (other s) now) (are_kept s);
    once = λ s id. (let o = (are_kept s).entity.once.once id in omega (arith, o));
    caused = λ s.
        subst (λ (ps : List Put). (id : TransactionId) → Contains (completed (at s now)) id → (put : Put) × ((found ps id ≡ Some put) × HeardInFull put (heard_ever (at s now)))) (sym puts_so)
        (caused_at (setup_of s c) (setup_of (other s) c) (served_at s w).begun w.puts (at s now) (at (other s) now) (are_kept s));
    told = λ s.
        is_told all.laws (setup_of s c) (setup_of (other s) c) (served_at s w).begun (served_at (other s) w).begun w.puts (at s now) (at (other s) now) (joined_to c s joined) (are_kept s) (beside s);
    truth = λ s.
        subst (λ (ps : List Put). (text : List ℕ) → HasSent (at s now) text → (i : Header) (v : Content) → SpellsPdu i v text → SaysTruth (own (at s now)) (found ps) i.id v) (sym puts_so)
        (says_truth all.laws (setup_of s c) (setup_of (other s) c) (served_at s w).begun (served_at (other s) w).begun w.puts (at s now) (at (other s) now) (joined_to c s joined) (are_kept s) (beside s));
    folded = folded_so;
    inbox = λ s follow. inbox_followed (own_of (served_at s w)) w.puts (files s) (served_at s w) (inboxed_so s) (folded_so s) follow;
  }

pub promise : {W : Type 0} (Steps : W → WireCall → W → Type 0) (all : AllLaws) (c : Setup) (files : Side → FileMap) (now : Stations) → AreJoined c → HaveServed Steps c files now → KeepPromise c files now
promise Steps all c files now joined served = held_keeps all c joined now (served_held Steps all c joined files now served) files
