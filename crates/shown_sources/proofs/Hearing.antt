-- What is heard with other files to send: it does the same, but that the station has these files.
use Rattle.std.proofs.Common.{◌≡◌, ℕ, Bool, true, false, not, List, [], ◌∷◌, Option, Some, None, length, slice_get, nat_lt, if◌then◌else◌, refl, sym, ap, subst, ◌∙◌, inl, inr}
use Rattle.cfdp_header.specs.Files.{FileMap}
use Rattle.cfdp_header.specs.declared.value.Header.{Header}
use Rattle.cfdp_directives.specs.declared.pdu.addressing.Addressing.{Addressing}
use Rattle.cfdp_directives.specs.declared.pdu.error.PduError.{PduError}
use Rattle.cfdp_directives.specs.Pdu.Addressing.{addressing_of}
use Rattle.cfdp_directives.specs.Pdu.Content.{Content, FileData, Metadata, Eof, Finished, Ack, Nak, Prompt, KeepAlive}
use Rattle.cfdp_directives.specs.Pdu.Direction.{direction_fits, is_for}
use Rattle.cfdp_directives.specs.Pdu.Faults.{pdu_fault}
use Rattle.cfdp_entity.specs.declared.error.EntityDrop.{EntityDrop}
use Rattle.cfdp_entity.specs.declared.error.EntityDrop.TheVariants as drops
use Rattle.cfdp_entity.specs.Entity.{Counted, EntityState, dropped, is_forgotten, with_table}
use Rattle.cfdp_entity.specs.Hearing.{DropsBy, DropsOctets, FindsNoMemory, HearsOctets, OpensOne, StepsAt, Takes, names_no_file, opens_record, queued, queues, route, route_by, route_new, route_over, route_unplaced}
use Rattle.cfdp_entity.specs.Steps.{hears}
use Rattle.cfdp_entity.specs.Strays.{StrayAck, most_strays}
use Rattle.cfdp_entity.specs.Table.{Entry, SpoiledAt, TableState, most_records, place_of}
use Rattle.cfdp_station.specs.Station.{StationState}
use Rattle.cfdp_station.specs.Taking.{HearsAll, HearsPdu, TakesFrame}
use Rattle.shown_sources.specs.Shown.{counted_sending, entity_sending, station_sending, table_sending}
use Rattle.shown_sources.proofs.Tables.{step_keeps, step_sending}

-- ---- where a PDU goes
new_sending : (files : FileMap) (h : Header) (v : Content) (e : EntityState) → route_new h v (entity_sending files e) ≡ route_new h v e
new_sending files h (FileData offset bytes) e = refl
new_sending files h (Metadata kind size source destination options) e = refl
new_sending files h (Eof condition checksum size tlvs) e = refl
new_sending files h (Finished condition delivery status tlvs) e = refl
new_sending files h (Ack of condition status) e = refl
new_sending files h (Nak start end pairs) e = refl
new_sending files h (Prompt keep_alive) e = refl
new_sending files h (KeepAlive progress) e = refl

over_sending : (files : FileMap) (h : Header) (v : Content) (e : EntityState) → route_over h v (entity_sending files e) ≡ route_over h v e
over_sending files h (FileData offset bytes) e = refl
over_sending files h (Metadata kind size source destination options) e = refl
over_sending files h (Eof condition checksum size tlvs) e = refl
over_sending files h (Finished condition delivery status tlvs) e = refl
over_sending files h (Ack of condition status) e = refl
over_sending files h (Nak start end pairs) e = refl
over_sending files h (Prompt keep_alive) e = refl
over_sending files h (KeepAlive progress) e = refl

unplaced_sending : (files : FileMap) (over : Bool) (h : Header) (v : Content) (e : EntityState) → route_unplaced over h v (entity_sending files e) ≡ route_unplaced over h v e
unplaced_sending files true h v e = over_sending files h v e
unplaced_sending files false h v e = new_sending files h v e

by_sending : (files : FileMap) (place : Option ℕ) (h : Header) (v : Content) (e : EntityState) → route_by place h v (entity_sending files e) ≡ route_by place h v e
by_sending files (Some place) h v e = refl
by_sending files None h v e = unplaced_sending files (is_forgotten e h.id) h v e

by_if : {R : Type 0} (b : Bool) (x y z : R) → y ≡ z → (if b then x else y) ≡ (if b then x else z)
by_if true x y z same = refl
by_if false x y z same = same

route_sending : (files : FileMap) (h : Header) (v : Content) (e : EntityState) → route h v (entity_sending files e) ≡ route h v e
route_sending files h v e =
    by_if (not (direction_fits h v)) _ _ _ (by_if (not (is_for e.config.entity e.config.peer h)) _ _ _ (by_if (names_no_file v) _ _ _ (by_sending files (place_of h.id e.table.records) h v e)))

-- the type of a route, which has no name here
abbrev TypeOf : {R : Type 0} → R → Type 0
TypeOf {R} r = R

by_cases : {R : Type 0} (P : R → Type 0) (b : Bool) (x y : R) → P x → P y → P (if b then x else y)
by_cases P true x y p q = p
by_cases P false x y p q = q

-- ---- a PDU that is taken
module _ (files : FileMap) (h : Header) (v : Content) (old new : Counted) where
  steps_sending : (place : ℕ) → StepsAt place h.large v old new → StepsAt place h.large v (counted_sending files old) (counted_sending files new)
  steps_sending place s = record {
    stored = s.stored;
    steps =
        ap (λ (x : EntityState). entity_sending files x) s.steps
        ∙ ap (λ (t : TableState). with_table (entity_sending files old.state) t)
        (sym (step_sending files (λ (e : Entry). hears s.stored old.state.table.policy.times old.state.table.files h.large v e.1) place (slice_get old.state.table.records place) old.state.table));
    counts = s.counts;
    raises = s.raises;
    outbox = s.outbox;
  }

  steps_keep : (place : ℕ) → StepsAt place h.large v old new → new.state.table.sources ≡ old.state.table.sources
  steps_keep place s =
      ap (λ (x : EntityState). x.table.sources) s.steps
      ∙ step_keeps (λ (e : Entry). hears s.stored old.state.table.policy.times old.state.table.files h.large v e.1) place (slice_get old.state.table.records place) old.state.table

  opens_sending : (a : Addressing) → OpensOne a h.large v old new → OpensOne a h.large v (counted_sending files old) (counted_sending files new)
  opens_sending a o = record {
    begun = o.begun;
    stored = o.stored;
    opens = ap (λ (x : EntityState). entity_sending files x) o.opens;
    counts = o.counts;
    raises = o.raises;
    outbox = o.outbox;
  }

  -- ---- a PDU that is dropped
  spoiled_sending : (place : ℕ) → SpoiledAt place v old.state.table new.state.table → SpoiledAt place v (table_sending files old.state.table) (table_sending files new.state.table)
  spoiled_sending place s = record { seen = s.seen; spoils = s.spoils; table = ap (λ (x : TableState). table_sending files x) s.table }

  lacks_sending : (place : ℕ) → FindsNoMemory place v old new → FindsNoMemory place v (counted_sending files old) (counted_sending files new)
  lacks_sending place l = record {
    spoiled = spoiled_sending place l.spoiled;
    counted = ap (λ (x : EntityState). entity_sending files x) l.counted;
    inbox = l.inbox;
    outbox = l.outbox;
  }

  -- ---- whatever its route
  abbrev Kept : Type 0
  Kept = new.state.table.sources ≡ old.state.table.sources

  abbrev was : Counted
  was = counted_sending files old

  abbrev is_now : Counted
  is_now = counted_sending files new

  drop_so : (d : EntityDrop) → (⊥ → ⊥ × Kept) × ((by : EntityDrop) → (by ≡ d) × (new ≡ record old { state = dropped d old.state }) → ((by ≡ d) × (is_now ≡ record was { state = dropped d was.state })) × Kept)
  drop_so d = (
    λ t. absurd t,
    λ by t. ((t.0, ap (λ (x : Counted). counted_sending files x) t.1), ap (λ (x : Counted). x.state.table.sources) t.1),
  )

  queue_so : (s : StrayAck) → ((new ≡ record old { state = queued s old.state }) → (is_now ≡ record was { state = queued s was.state }) × Kept) × ((by : EntityDrop) → ⊥ → ⊥ × Kept)
  queue_so s = (λ t. (ap (λ (x : Counted). counted_sending files x) t, ap (λ (x : Counted). x.state.table.sources) t), λ by t. absurd t)

  pass_so : ((new ≡ old) → (is_now ≡ was) × Kept) × ((by : EntityDrop) → ⊥ → ⊥ × Kept)
  pass_so = (λ t. (ap (λ (x : Counted). counted_sending files x) t, ap (λ (x : Counted). x.state.table.sources) t), λ by t. absurd t)

  step_so : (place : ℕ) → (StepsAt place h.large v old new → StepsAt place h.large v was is_now × Kept)
      × ((by : EntityDrop) → (by ≡ drops.NoMemory) × FindsNoMemory place v old new → ((by ≡ drops.NoMemory) × FindsNoMemory place v was is_now) × Kept)
  step_so place = (
    λ t. (steps_sending place t, steps_keep place t),
    λ by t. ((t.0, lacks_sending place t.1), ap (λ (x : TableState). x.sources) t.1.spoiled.table),
  )

  open_so : (OpensOne (addressing_of h) h.large v old new → OpensOne (addressing_of h) h.large v was is_now × Kept)
      × ((by : EntityDrop) → (by ≡ drops.NoMemory) × (new ≡ record old { state = dropped drops.NoMemory old.state }) →
      ((by ≡ drops.NoMemory) × (is_now ≡ record was { state = dropped drops.NoMemory was.state })) × Kept)
  open_so = (
    λ t. (opens_sending (addressing_of h) t, ap (λ (x : EntityState). x.table.sources) t.opens),
    λ by t. ((t.0, ap (λ (x : Counted). counted_sending files x) t.1), ap (λ (x : Counted). x.state.table.sources) t.1),
  )

  -- it is heard, or dropped, in the same way
  abbrev So : TypeOf (route h v old.state) → Type 0
  So r = (Takes r h v old new → Takes r h v was is_now × Kept) × ((by : EntityDrop) → DropsBy r by v old new → DropsBy r by v was is_now × Kept)

  queues_so : (s : StrayAck) → So (queues s old.state)
  queues_so s = by_cases So (nat_lt (length old.state.strays) most_strays) _ _ (queue_so s) (drop_so drops.TableFull)

  over_so : (w : Content) → So (route_over h w old.state)
  over_so (Eof condition checksum size tlvs) = queues_so _
  over_so (Finished condition delivery status tlvs) = queues_so _
  over_so (FileData offset bytes) = pass_so
  over_so (Metadata kind size source destination options) = pass_so
  over_so (Ack of condition status) = pass_so
  over_so (Nak start end pairs) = pass_so
  over_so (Prompt keep_alive) = pass_so
  over_so (KeepAlive progress) = pass_so

  opens_so : So (opens_record old.state)
  opens_so = by_cases So (nat_lt (length old.state.table.records) most_records) _ _ open_so (drop_so drops.TableFull)

  new_so : (w : Content) → So (route_new h w old.state)
  new_so (Metadata kind size source destination options) = opens_so
  new_so (FileData offset bytes) = opens_so
  new_so (Eof condition checksum size tlvs) = opens_so
  new_so (Finished condition delivery status tlvs) = queues_so _
  new_so (Ack of condition status) = drop_so drops.Unknown
  new_so (Nak start end pairs) = drop_so drops.Unknown
  new_so (Prompt keep_alive) = drop_so drops.Unknown
  new_so (KeepAlive progress) = drop_so drops.Unknown

  unplaced_so : (over : Bool) → So (route_unplaced over h v old.state)
  unplaced_so true = over_so v
  unplaced_so false = new_so v

  placed_so : (place : Option ℕ) → So (route_by place h v old.state)
  placed_so (Some place) = step_so place
  placed_so None = unplaced_so (is_forgotten old.state h.id)

  route_so : So (route h v old.state)
  route_so =
      by_cases So (not (direction_fits h v)) _ _ (drop_so drops.WrongDirection)
      (by_cases So (not (is_for old.state.config.entity old.state.config.peer h)) _ _ (drop_so drops.NotForUs)
      (by_cases So (names_no_file v) _ _ (drop_so drops.NoFile) (placed_so (place_of h.id old.state.table.records))))

-- ---- octets
module _ (files : FileMap) (octets : List ℕ) (old new : Counted) where
  hears_sending : HearsOctets octets old new → HearsOctets octets (counted_sending files old) (counted_sending files new)
  hears_sending o = record {
    header = o.header;
    content = o.content;
    spells = o.spells;
    takes =
        subst (λ r. Takes r o.header o.content (counted_sending files old) (counted_sending files new)) (sym (route_sending files o.header o.content old.state))
        ((route_so files o.header o.content old new).0 o.takes).0;
  }

  hears_keep : HearsOctets octets old new → new.state.table.sources ≡ old.state.table.sources
  hears_keep o = ((route_so files o.header o.content old new).0 o.takes).1

  dropped_sending : (by : EntityDrop) (fault : Option PduError) → DropsOctets fault octets by old new → DropsOctets fault octets by (counted_sending files old) (counted_sending files new)
  dropped_sending by (Some e) (is, same) = (is, ap (λ (x : Counted). counted_sending files x) same)
  dropped_sending by None d = record {
    header = d.header;
    content = d.content;
    spells = d.spells;
    drops =
        subst (λ r. DropsBy r by d.content (counted_sending files old) (counted_sending files new)) (sym (route_sending files d.header d.content old.state))
        ((route_so files d.header d.content old new).1 by d.drops).0;
  }

  dropped_keep : (by : EntityDrop) (fault : Option PduError) → DropsOctets fault octets by old new → new.state.table.sources ≡ old.state.table.sources
  dropped_keep by (Some e) (is, same) = ap (λ (x : Counted). x.state.table.sources) same
  dropped_keep by None d = ((route_so files d.header d.content old new).1 by d.drops).1

  pdu_sending : HearsPdu octets old new → HearsPdu octets (counted_sending files old) (counted_sending files new)
  pdu_sending (inl heard) = inl (hears_sending heard)
  pdu_sending (inr (by, dropped)) = inr (by, dropped_sending by (pdu_fault octets) dropped)

  pdu_keeps : HearsPdu octets old new → new.state.table.sources ≡ old.state.table.sources
  pdu_keeps (inl heard) = hears_keep heard
  pdu_keeps (inr (by, dropped)) = dropped_keep by (pdu_fault octets) dropped

all_sending : (files : FileMap) (pdus : List (List ℕ)) (old new : Counted) → HearsAll pdus old new → HearsAll pdus (counted_sending files old) (counted_sending files new)
all_sending files [] old new same = ap (λ (x : Counted). counted_sending files x) same
all_sending files (pdu ∷ pdus) old new (mid, one, rest) = (counted_sending files mid, pdu_sending files pdu old mid one, all_sending files pdus mid new rest)

all_keep : (files : FileMap) (pdus : List (List ℕ)) (old new : Counted) → HearsAll pdus old new → new.state.table.sources ≡ old.state.table.sources
all_keep files [] old new same = ap (λ (x : Counted). x.state.table.sources) same
all_keep files (pdu ∷ pdus) old new (mid, one, rest) = all_keep files pdus mid new rest ∙ pdu_keeps files pdu old mid one

-- ---- frames
pub frame_sending : (files : FileMap) (frame : List ℕ) (old new : StationState) → TakesFrame frame old new → TakesFrame frame (station_sending files old) (station_sending files new)
frame_sending files frame old new t = record {
  pdus = t.pdus;
  given = t.given;
  heard = all_sending files t.pdus old.entity new.entity t.heard;
  down = t.down;
  other = t.other;
  lane = t.lane;
}

pub frame_keeps : (frame : List ℕ) (old new : StationState) → TakesFrame frame old new → new.entity.state.table.sources ≡ old.entity.state.table.sources
frame_keeps frame old new t = all_keep old.entity.state.table.sources t.pdus old.entity new.entity t.heard
