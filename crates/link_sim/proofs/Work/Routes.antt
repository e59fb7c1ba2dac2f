-- What an entity does with a PDU, by cases: its record makes its step, one is opened, an
-- acknowledgement is queued, it is passed over, or it is dropped.
use Rattle.std.proofs.Common.{◌≡◌, ℕ, Bool, true, false, length, Option, Some, None, refl, ap}
use Rattle.std.specs.Prelude.{nat_lt}
use Rattle.cfdp_header.specs.declared.value.Header.{Header}
use Rattle.cfdp_directives.specs.declared.pdu.addressing.Addressing.{Addressing}
use Rattle.cfdp_directives.specs.declared.pdu.codes.Acknowledged.TheVariants as acknowledged
use Rattle.cfdp_directives.specs.Pdu.Addressing.{addressing_of}
use Rattle.cfdp_directives.specs.Pdu.Content.{Content, FileData, Metadata, Eof, Finished, Ack, Nak, Prompt, KeepAlive}
use Rattle.cfdp_directives.specs.Pdu.Direction.{direction_fits, is_for}
use Rattle.cfdp_entity.specs.declared.error.EntityDrop.{EntityDrop}
use Rattle.cfdp_entity.specs.declared.error.EntityDrop.TheVariants as drops
use Rattle.cfdp_entity.specs.Entity.{Counted, dropped, is_forgotten}
use Rattle.cfdp_entity.specs.Hearing.{names_no_file, opens_record, queues, queued, route, route_by, route_new, route_unplaced, Takes, DropsBy, StepsAt, OpensOne, FindsNoMemory}
use Rattle.cfdp_entity.specs.Strays.{StrayAck, most_strays, over_ack, unknown_ack}
use Rattle.cfdp_entity.specs.Table.{place_of, most_records}
use Rattle.link_sim.specs.Work.{opening_work}

-- It ends a transaction: it is a Finished or an EOF.
abbrev pub EndsOne : Content → Type 0
EndsOne (Finished condition delivery status tlvs) = Unit {0}
EndsOne (Eof condition checksum size tlvs) = Unit {0}
EndsOne _ = ⊥

-- A PDU that was taken.
pub data Taken (h : Header) (v : Content) (old new : Counted) : Type 0 where
  Steps : (place : ℕ) (steps : StepsAt place h.large v old new) → Taken h v old new
  Opens : (a : Addressing) (may : opening_work v ≡ 5) (opens : OpensOne a h.large v old new) → Taken h v old new
  Queues : (s : StrayAck) (of_end : EndsOne v) (is : new.state ≡ queued s old.state) → Taken h v old new
  Passes : (is : new ≡ old) → Taken h v old new

-- A PDU that was dropped.
pub data Dropped (v : Content) (old new : Counted) : Type 0 where
  Counts : (d : EntityDrop) (is : new.state ≡ dropped d old.state) → Dropped v old new
  Spoils : (place : ℕ) (finds : FindsNoMemory place v old new) → Dropped v old new

module _ (h : Header) (old new : Counted) where
  module _ (v : Content) where
    opens-taken : (b : Bool) → opening_work v ≡ 5 → nat_lt (length old.state.table.records) most_records ≡ b → Takes (opens_record old.state) h v old new → Taken h v old new
    opens-taken true may is t =
        let f : Takes (opens_record old.state) h v old new → OpensOne (addressing_of h) h.large v old new = rw is (λ o. o) in
        Opens (addressing_of h) may (f t)
    opens-taken false may is t =
        let f : Takes (opens_record old.state) h v old new → ⊥ = rw is (λ o. o) in
        absurd (f t)

    opens-dropped : (b : Bool) (by : EntityDrop) → nat_lt (length old.state.table.records) most_records ≡ b → DropsBy (opens_record old.state) by v old new → Dropped v old new
    opens-dropped true by is t =
        let f : DropsBy (opens_record old.state) by v old new → (new.state ≡ dropped drops.NoMemory old.state) = rw is (λ o. ap (λ (c : Counted). c.state) o.1) in
        Counts drops.NoMemory (f t)
    opens-dropped false by is t =
        let f : DropsBy (opens_record old.state) by v old new → (new.state ≡ dropped drops.TableFull old.state) = rw is (λ o. ap (λ (c : Counted). c.state) o.1) in
        Counts drops.TableFull (f t)

    queues-taken : (b : Bool) (s : StrayAck) → EndsOne v → nat_lt (length old.state.strays) most_strays ≡ b → Takes (queues s old.state) h v old new → Taken h v old new
    queues-taken true s of_end is t =
        let f : Takes (queues s old.state) h v old new → (new.state ≡ queued s old.state) = rw is (λ o. ap (λ (c : Counted). c.state) o) in
        Queues s of_end (f t)
    queues-taken false s of_end is t =
        let f : Takes (queues s old.state) h v old new → ⊥ = rw is (λ o. o) in
        absurd (f t)

    queues-dropped : (b : Bool) (by : EntityDrop) (s : StrayAck) → nat_lt (length old.state.strays) most_strays ≡ b → DropsBy (queues s old.state) by v old new → Dropped v old new
    queues-dropped true by s is t =
        let f : DropsBy (queues s old.state) by v old new → ⊥ = rw is (λ o. o) in
        absurd (f t)
    queues-dropped false by s is t =
        let f : DropsBy (queues s old.state) by v old new → (new.state ≡ dropped drops.TableFull old.state) = rw is (λ o. ap (λ (c : Counted). c.state) o.1) in
        Counts drops.TableFull (f t)

    unknown : (by : EntityDrop) → (by ≡ drops.Unknown) × (new ≡ record old { state = dropped drops.Unknown old.state }) → Dropped v old new
    unknown by t = Counts drops.Unknown (ap (λ (c : Counted). c.state) t.1)

  new-taken : (v : Content) → Takes (route_new h v old.state) h v old new → Taken h v old new
  new-taken (FileData offset bytes) t = opens-taken (FileData offset bytes) (nat_lt (length old.state.table.records) most_records) refl refl t
  new-taken (Metadata kind size source destination options) t = opens-taken (Metadata kind size source destination options) (nat_lt (length old.state.table.records) most_records) refl refl t
  new-taken (Eof condition checksum size tlvs) t = opens-taken (Eof condition checksum size tlvs) (nat_lt (length old.state.table.records) most_records) refl refl t
  new-taken (Finished condition delivery status tlvs) t =
      queues-taken (Finished condition delivery status tlvs) (nat_lt (length old.state.strays) most_strays) (unknown_ack h condition) tt refl t
  new-taken (Ack acknowledged.Eof condition status) t = absurd t
  new-taken (Ack acknowledged.Finished condition status) t = absurd t
  new-taken (Nak start end pairs) t = absurd t
  new-taken (Prompt keep_alive) t = absurd t
  new-taken (KeepAlive progress) t = absurd t

  new-dropped : (v : Content) (by : EntityDrop) → DropsBy (route_new h v old.state) by v old new → Dropped v old new
  new-dropped (FileData offset bytes) by t = opens-dropped (FileData offset bytes) (nat_lt (length old.state.table.records) most_records) by refl t
  new-dropped (Metadata kind size source destination options) by t = opens-dropped (Metadata kind size source destination options) (nat_lt (length old.state.table.records) most_records) by refl t
  new-dropped (Eof condition checksum size tlvs) by t = opens-dropped (Eof condition checksum size tlvs) (nat_lt (length old.state.table.records) most_records) by refl t
  new-dropped (Finished condition delivery status tlvs) by t =
      queues-dropped (Finished condition delivery status tlvs) (nat_lt (length old.state.strays) most_strays) by (unknown_ack h condition) refl t
  new-dropped (Ack acknowledged.Eof condition status) by t = unknown (Ack acknowledged.Eof condition status) by t
  new-dropped (Ack acknowledged.Finished condition status) by t = unknown (Ack acknowledged.Finished condition status) by t
  new-dropped (Nak start end pairs) by t = unknown (Nak start end pairs) by t
  new-dropped (Prompt keep_alive) by t = unknown (Prompt keep_alive) by t
  new-dropped (KeepAlive progress) by t = unknown (KeepAlive progress) by t

  -- of a transaction that was released, or that is new here
  unplaced-taken : (v : Content) (b : Bool) → Takes (route_unplaced b h v old.state) h v old new → Taken h v old new
  unplaced-taken v false t = new-taken v t
  unplaced-taken (Eof condition checksum size tlvs) true t =
      queues-taken (Eof condition checksum size tlvs) (nat_lt (length old.state.strays) most_strays) (over_ack h acknowledged.Eof condition) tt refl t
  unplaced-taken (Finished condition delivery status tlvs) true t =
      queues-taken (Finished condition delivery status tlvs) (nat_lt (length old.state.strays) most_strays) (over_ack h acknowledged.Finished condition) tt refl t
  unplaced-taken (FileData offset bytes) true t = Passes t
  unplaced-taken (Metadata kind size source destination options) true t = Passes t
  unplaced-taken (Ack of condition status) true t = Passes t
  unplaced-taken (Nak start end pairs) true t = Passes t
  unplaced-taken (Prompt keep_alive) true t = Passes t
  unplaced-taken (KeepAlive progress) true t = Passes t

  unplaced-dropped : (v : Content) (b : Bool) (by : EntityDrop) → DropsBy (route_unplaced b h v old.state) by v old new → Dropped v old new
  unplaced-dropped v false by t = new-dropped v by t
  unplaced-dropped (Eof condition checksum size tlvs) true by t =
      queues-dropped (Eof condition checksum size tlvs) (nat_lt (length old.state.strays) most_strays) by (over_ack h acknowledged.Eof condition) refl t
  unplaced-dropped (Finished condition delivery status tlvs) true by t =
      queues-dropped (Finished condition delivery status tlvs) (nat_lt (length old.state.strays) most_strays) by (over_ack h acknowledged.Finished condition) refl t
  unplaced-dropped (FileData offset bytes) true by t = absurd t
  unplaced-dropped (Metadata kind size source destination options) true by t = absurd t
  unplaced-dropped (Ack of condition status) true by t = absurd t
  unplaced-dropped (Nak start end pairs) true by t = absurd t
  unplaced-dropped (Prompt keep_alive) true by t = absurd t
  unplaced-dropped (KeepAlive progress) true by t = absurd t

  module _ (v : Content) where
    place-taken : (o : Option ℕ) → Takes (route_by o h v old.state) h v old new → Taken h v old new
    place-taken (Some place) t = Steps place t
    place-taken None t = unplaced-taken v (is_forgotten old.state h.id) t

    named-taken : (b : Bool) → direction_fits h v ≡ true → is_for old.state.config.entity old.state.config.peer h ≡ true → names_no_file v ≡ b → Takes (route h v old.state) h v old new →
        Taken h v old new
    named-taken true fits for_us is t =
        let f : Takes (route h v old.state) h v old new → ⊥ = rw (fits, for_us, is) (λ o. o) in
        absurd (f t)
    named-taken false fits for_us is t =
        let f : Takes (route h v old.state) h v old new → Takes (route_by (place_of h.id old.state.table.records) h v old.state) h v old new = rw (fits, for_us, is) (λ o. o) in
        place-taken (place_of h.id old.state.table.records) (f t)

    for-taken : (b : Bool) → direction_fits h v ≡ true → is_for old.state.config.entity old.state.config.peer h ≡ b → Takes (route h v old.state) h v old new → Taken h v old new
    for-taken true fits is t = named-taken (names_no_file v) fits is refl t
    for-taken false fits is t =
        let f : Takes (route h v old.state) h v old new → ⊥ = rw (fits, is) (λ o. o) in
        absurd (f t)

    fits-taken : (b : Bool) → direction_fits h v ≡ b → Takes (route h v old.state) h v old new → Taken h v old new
    fits-taken true is t = for-taken (is_for old.state.config.entity old.state.config.peer h) is refl t
    fits-taken false is t =
        let f : Takes (route h v old.state) h v old new → ⊥ = rw is (λ o. o) in
        absurd (f t)

    pub is-taken : Takes (route h v old.state) h v old new → Taken h v old new
    is-taken t = fits-taken (direction_fits h v) refl t

    module _ (by : EntityDrop) where
      place-dropped : (o : Option ℕ) → DropsBy (route_by o h v old.state) by v old new → Dropped v old new
      place-dropped (Some place) t = Spoils place t.1
      place-dropped None t = unplaced-dropped v (is_forgotten old.state h.id) by t

      named-dropped : (b : Bool) → direction_fits h v ≡ true → is_for old.state.config.entity old.state.config.peer h ≡ true → names_no_file v ≡ b → DropsBy (route h v old.state) by v old new →
          Dropped v old new
      named-dropped true fits for_us is t =
          let f : DropsBy (route h v old.state) by v old new → (new.state ≡ dropped drops.NoFile old.state) = rw (fits, for_us, is) (λ o. ap (λ (c : Counted). c.state) o.1) in
          Counts drops.NoFile (f t)
      named-dropped false fits for_us is t =
          let f : DropsBy (route h v old.state) by v old new → DropsBy (route_by (place_of h.id old.state.table.records) h v old.state) by v old new = rw (fits, for_us, is) (λ o. o) in
          place-dropped (place_of h.id old.state.table.records) (f t)

      for-dropped : (b : Bool) → direction_fits h v ≡ true → is_for old.state.config.entity old.state.config.peer h ≡ b → DropsBy (route h v old.state) by v old new → Dropped v old new
      for-dropped true fits is t = named-dropped (names_no_file v) fits is refl t
      for-dropped false fits is t =
          let f : DropsBy (route h v old.state) by v old new → (new.state ≡ dropped drops.NotForUs old.state) = rw (fits, is) (λ o. ap (λ (c : Counted). c.state) o.1) in
          Counts drops.NotForUs (f t)

      fits-dropped : (b : Bool) → direction_fits h v ≡ b → DropsBy (route h v old.state) by v old new → Dropped v old new
      fits-dropped true is t = for-dropped (is_for old.state.config.entity old.state.config.peer h) is refl t
      fits-dropped false is t =
          let f : DropsBy (route h v old.state) by v old new → (new.state ≡ dropped drops.WrongDirection old.state) = rw is (λ o. ap (λ (c : Counted). c.state) o.1) in
          Counts drops.WrongDirection (f t)

      pub is-dropped : DropsBy (route h v old.state) by v old new → Dropped v old new
      is-dropped t = fits-dropped (direction_fits h v) refl t
