-- A poll with other files to send, of which it reads the same octets: it does the same.
use Rattle.std.proofs.Common.{◌≡◌, ◌<◌, ◌≤◌, ℕ, Bool, true, false, List, Option, Some, None, length, slice_get, refl, sym, ap, subst, ◌∙◌}
use Rattle.cfdp_header.specs.Files.{FileMap}
use Rattle.cfdp_directives.specs.Pdu.Content.{Content}
use Rattle.cfdp_store.specs.Rereading.{RereadsIf}
use Rattle.cfdp_store.specs.declared.stored.Stored.{Stored}
use Rattle.cfdp_store.specs.declared.stored.Stored.TheVariants.{Done, Refused}
use Rattle.aos_frame.specs.Frame.{other_lane}
use Rattle.aos_frame.specs.declared.config.Lane.{Lane}
use Rattle.link_stack.specs.Downward.{SendsPdu, lane_down, room}
use Rattle.cfdp_entity.specs.Entity.{Counted, EntityState, entity_lent}
use Rattle.cfdp_entity.specs.Polling.{LosesPdu, Place, Rests, Stray, Turn, served, turn, turn_data, turn_len, turn_octets}
use Rattle.cfdp_entity.specs.Seen.{addressing_of, large_of, octets_of}
use Rattle.cfdp_entity.specs.Sound.{SpellsDue, SpellsEntry, SpellsTurn}
use Rattle.cfdp_entity.specs.Steps.{After, takes}
use Rattle.cfdp_entity.specs.Table.{Entry, TableState, len_due, octets_due, step_of, stepped}
use Rattle.cfdp_station.specs.Link.{lane_for, next_lane}
use Rattle.cfdp_station.specs.Polling.{Moves, MovesPdu, Shows, next_len, next_pdu, next_room}
use Rattle.cfdp_station.specs.Station.{StationState, station_lent}
use Rattle.cfdp_station.specs.Transmitting.{PollsOnce}
use Rattle.cfdp_station.specs.declared.polled.Polled.{Polled}
use Rattle.cfdp_station.specs.declared.polled.Polled.TheVariants.{Moved, Nothing, Full, SourceFailed}
use Rattle.shown_sources.specs.Shown.{AreAsLong, ReadsAs, counted_sending, entity_sending, read_by, read_in, read_of, station_sending, table_sending}
use Rattle.shown_sources.proofs.Reading.{fails_same, len_same, says_same, takes_same}

-- a table and an entity with these files to send, which stand or don't
abbrev table_as : FileMap → Bool → TableState → TableState
table_as sources stands st = record st { sources = sources; stands = stands }

abbrev entity_as : FileMap → Bool → EntityState → EntityState
entity_as sources stands e = record e { table = table_as sources stands e.table }

module _ (sources : FileMap) (stands : Bool) (files : FileMap) where
  -- ---- the PDU that is due
  entry_octets : (o : Option Entry) → read_in sources o ≡ read_in files o → octets_due files o ≡ octets_due sources o
  entry_octets (Some e) same = ap (λ (v : Option Content). octets_of (large_of e.1) (addressing_of e.1) v) (sym (says_same sources files e.1 same))
  entry_octets None same = refl

  octets_same : (t : Turn) (e : EntityState) → read_by sources t e ≡ read_by files t e → turn_octets t (entity_sending files e) ≡ turn_octets t (entity_as sources stands e)
  octets_same (Stray s strays) e same = refl
  octets_same (Place place) e same = entry_octets (slice_get e.table.records place) same
  octets_same Rests e same = refl

  entry_len : (o : Option Entry) → AreAsLong sources files → len_due files o ≡ len_due sources o
  entry_len (Some e) long = len_same sources files e.1 long
  entry_len None long = refl

  len_is : (t : Turn) (e : EntityState) → AreAsLong sources files → turn_len t (entity_sending files e) ≡ turn_len t (entity_as sources stands e)
  len_is (Stray s strays) e long = refl
  len_is (Place place) e long = entry_len (slice_get e.table.records place) long
  len_is Rests e long = refl

  data_is : (t : Turn) (e : EntityState) → turn_data t (entity_sending files e) ≡ turn_data t (entity_as sources stands e)
  data_is (Stray s strays) e = refl
  data_is (Place place) e = refl
  data_is Rests e = refl

  -- ---- the entity that was served
  entry_taken : (stored : Stored) (place : ℕ) (o : Option Entry) (st : TableState) →
      ((e : Entry) → o ≡ Some e → takes stored st.policy.times sources st.files e.1 ≡ takes stored st.policy.times files st.files e.1) →
      step_of (λ (e : Entry). takes stored st.policy.times files st.files e.1) place o (table_sending files st)
      ≡ table_sending files (step_of (λ (e : Entry). takes stored st.policy.times sources st.files e.1) place o (table_as sources stands st))
  entry_taken stored place (Some e) st same = ap (λ (a : After). stepped place e.0 a (table_sending files st)) (sym (same e refl))
  entry_taken stored place None st same = refl

  served_by : (stored : Stored) (t : Turn) (e : EntityState) →
      ((place : ℕ) → t ≡ Place place → (x : Entry) → slice_get e.table.records place ≡ Some x →
      takes stored e.table.policy.times sources e.table.files x.1 ≡ takes stored e.table.policy.times files e.table.files x.1) →
      served stored t (entity_sending files e) ≡ entity_sending files (served stored t (entity_as sources stands e))
  served_by stored (Stray s strays) e same = refl
  served_by stored (Place place) e same =
      ap (λ (t : TableState). record (served stored (Place place) (entity_sending files e)) { table = t }) (entry_taken stored place (slice_get e.table.records place) e.table (same place refl))
  served_by stored Rests e same = refl

  read_here : (t : Turn) (e : EntityState) (place : ℕ) (x : Entry) → t ≡ Place place → slice_get e.table.records place ≡ Some x → read_by sources t e ≡ read_by files t e → read_of sources x.1 ≡ read_of files x.1
  read_here t e place x is at same =
      let there : read_in sources (slice_get e.table.records place) ≡ read_in files (slice_get e.table.records place) =
      subst (λ (u : Turn). read_by sources u e ≡ read_by files u e) is same in
      subst (λ (o : Option Entry). read_in sources o ≡ read_in files o) at there

  served_done : (t : Turn) (e : EntityState) → read_by sources t e ≡ read_by files t e → served Done t (entity_sending files e) ≡ entity_sending files (served Done t (entity_as sources stands e))
  served_done t e same = served_by Done t e (λ place is x at. takes_same e.table.policy.times e.table.files sources files x.1 (read_here t e place x is at same))

  served_failed : (t : Turn) (e : EntityState) → served Refused t (entity_sending files e) ≡ entity_sending files (served Refused t (entity_as sources stands e))
  served_failed t e = served_by Refused t e (λ place is x at. fails_same e.table.policy.times e.table.files sources files x.1)

  -- ---- its octets are those of what it says
  entry_spells : (o : Option Entry) → read_in sources o ≡ read_in files o → SpellsEntry sources o → SpellsEntry files o
  entry_spells (Some e) same s =
      subst (λ (v : Option Content). SpellsDue (large_of e.1) v (addressing_of e.1) (octets_of (large_of e.1) (addressing_of e.1) v)) (says_same sources files e.1 same) s
  entry_spells None same s = s

  spells_same : (t : Turn) (e : EntityState) → read_by sources t e ≡ read_by files t e → SpellsTurn t (entity_as sources stands e) → SpellsTurn t (entity_sending files e)
  spells_same (Stray s strays) e same h = h
  spells_same (Place place) e same h = entry_spells (slice_get e.table.records place) same h
  spells_same Rests e same h = h

-- ---- what was shown
still_long : (reads : Bool) (stand stand_now : Bool) (old new files : FileMap) → RereadsIf reads stand stand_now old new → AreAsLong old files → AreAsLong new files
still_long true stand stand_now old new files r long = λ name. long name ∙ sym (r.lens name)
still_long false stand stand_now old new files r long = subst (λ (x : FileMap). AreAsLong x files) (sym r.1) long

shows_none : (reads : Bool) (files : FileMap) → RereadsIf reads true true files files
shows_none true files = record { lens = λ name. refl; stood = λ stand. (stand, refl) }
shows_none false files = (refl, refl)

-- ---- polls
module _ (files : FileMap) (old new : StationState) where
  abbrev e : EntityState
  e = old.entity.state

  abbrev n : EntityState
  n = new.entity.state

  pub poll_long : (answer : Polled) → PollsOnce answer old new → AreAsLong e.table.sources files → AreAsLong n.table.sources files
  poll_long Moved p long = still_long (turn_data (turn e) e) e.table.stands n.table.stands e.table.sources n.table.sources files p.shows long
  poll_long Nothing p long = still_long false e.table.stands n.table.stands e.table.sources n.table.sources files p.shows long
  poll_long Full p long = still_long false e.table.stands n.table.stands e.table.sources n.table.sources files p.shows long
  poll_long SourceFailed p long = still_long true e.table.stands n.table.stands e.table.sources n.table.sources files p.shows long

  abbrev lent : EntityState
  lent = entity_lent n e

  abbrev now : EntityState
  now = entity_sending files e

  module _ (long : AreAsLong n.table.sources files) where
    same_len : turn_len (turn e) now ≡ turn_len (turn e) lent
    same_len = len_is n.table.sources n.table.stands files (turn e) e long

    same_lane : next_lane now ≡ next_lane lent
    same_lane = ap lane_for (data_is n.table.sources n.table.stands files (turn e) e)

    fits_so : next_len lent ≤ next_room lent old.down → next_len now ≤ next_room now old.down
    fits_so fits =
        subst (λ (k : ℕ). k ≤ next_room now old.down) (sym same_len) (subst (λ (l : Lane). next_len lent ≤ room (lane_down l old.down)) (sym same_lane) fits)

    moves_so : read_by n.table.sources (turn e) e ≡ read_by files (turn e) e → MovesPdu lent n old.down new.down → MovesPdu now (entity_sending files n) old.down new.down
    moves_so same m =
        let pdu : next_pdu now ≡ next_pdu lent = octets_same n.table.sources n.table.stands files (turn e) e same in
        record {
          some = subst (λ (k : ℕ). 1 ≤ k) (sym same_len) m.some;
          fits = fits_so m.fits;
          len = ap length pdu ∙ m.len ∙ sym same_len;
          served = ap (λ (x : EntityState). entity_sending files x) m.served ∙ sym (served_done n.table.sources n.table.stands files (turn e) e same);
          sent =
              subst (λ (o : List ℕ). SendsPdu o old.down.packet_count (lane_down (next_lane now) old.down) (lane_down (next_lane now) new.down)) (sym pdu)
              (subst (λ (l : Lane). SendsPdu (next_pdu lent) old.down.packet_count (lane_down l old.down) (lane_down l new.down)) (sym same_lane) m.sent);
          other = subst (λ (l : Lane). lane_down (other_lane l) new.down ≡ lane_down (other_lane l) old.down) (sym same_lane) m.other;
          packet_count = m.packet_count;
        }

    loses_so : LosesPdu (next_room lent old.down) lent n → LosesPdu (next_room now old.down) now (entity_sending files n)
    loses_so l = record {
      place = l.place;
      is_next = l.is_next;
      carries = l.carries;
      fits = fits_so l.fits;
      served = ap (λ (x : EntityState). entity_sending files x) l.served ∙ sym (served_failed n.table.sources n.table.stands files (turn e) e);
    }

    full_so : next_room lent old.down < next_len lent → next_room now old.down < next_len now
    full_so full =
        subst (λ (k : ℕ). next_room now old.down < k) (sym same_len) (subst (λ (l : Lane). room (lane_down l old.down) < next_len lent) (sym same_lane) full)

    polls_so : (answer : Polled) → ReadsAs answer files e n → Moves answer (station_lent new old).entity new.entity old.down new.down →
        Moves answer (counted_sending files old.entity) (counted_sending files new.entity) old.down new.down
    polls_so Moved reads m = moves_so reads m
    polls_so Nothing reads (rests, same, down) = (rests, ap (λ (x : Counted). counted_sending files x) same, down)
    polls_so Full reads (full, same, down) = (full_so full, ap (λ (x : Counted). counted_sending files x) same, down)
    polls_so SourceFailed reads (loses, down) = (loses_so loses, down)

  shows_so : (answer : Polled) → Shows answer now (entity_sending files n)
  shows_so Moved = shows_none (turn_data (turn now) now) files
  shows_so Nothing = shows_none false files
  shows_so Full = shows_none false files
  shows_so SourceFailed = shows_none true files

  spells_so : (answer : Polled) → ReadsAs answer files e n → PollsOnce answer old new → answer ≡ Moved → SpellsTurn (turn now) now
  spells_so Moved reads p is = spells_same n.table.sources n.table.stands files (turn e) e reads (p.spells is)
  spells_so Nothing reads p is = absurd cc
  spells_so Full reads p is = absurd cc
  spells_so SourceFailed reads p is = absurd cc

  pub poll_sending : (answer : Polled) → PollsOnce answer old new → AreAsLong e.table.sources files → ReadsAs answer files e n →
      PollsOnce answer (station_sending files old) (station_sending files new)
  poll_sending answer p long reads = record {
    polls = (polls_so (poll_long answer p long) answer reads p.polls.0, p.polls.1);
    shows = shows_so answer;
    spells = spells_so answer reads p;
    outbox = p.outbox;
    inbox = p.inbox;
  }
