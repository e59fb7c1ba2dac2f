-- What every call of an entity keeps: each record of its table has something to do.
use Rattle.std.proofs.Common.{◌≡◌, ℕ, nat_lt, Bool, true, false, List, [], ◌∷◌, length, Option, Some, None, refl, sym, ap, subst, ◌∙◌}
use Rattle.cfdp_header.specs.declared.value.Header.{Header}
use Rattle.cfdp_header.specs.declared.value.TransactionId.{TransactionId}
use Rattle.cfdp_directives.specs.declared.pdu.error.PduError.{PduError}
use Rattle.cfdp_directives.specs.declared.pdu.codes.Acknowledged.TheVariants as acknowledged
use Rattle.cfdp_directives.specs.Pdu.Addressing.{addressing_of}
use Rattle.cfdp_directives.specs.Pdu.Content.{Content, FileData, Metadata, Eof, Finished, Ack, Nak, Prompt, KeepAlive}
use Rattle.cfdp_directives.specs.Pdu.Direction.{direction_fits, is_for}
use Rattle.cfdp_store.specs.declared.stored.Stored.{Stored}
use Rattle.cfdp_header.specs.Files.{FileMap}
use Rattle.cfdp_store.specs.Files.{octets_in}
use Rattle.cfdp_sender.specs.declared.transfer.Transfer.{Transfer}
use Rattle.cfdp_entity.specs.declared.config.EntityConfig.{EntityConfig}
use Rattle.cfdp_entity.specs.declared.request.Request.{Request}
use Rattle.cfdp_entity.specs.declared.error.EntityDrop.{EntityDrop}
use Rattle.cfdp_entity.specs.declared.error.EntityDrop.TheVariants as drops
use Rattle.cfdp_entity.specs.Refusing.{called_in}
use Rattle.cfdp_entity.specs.Config.{IsConfig}
use Rattle.cfdp_entity.specs.Requests.{IsCalled, after_request}
use Rattle.cfdp_entity.specs.Entity.{EntityState, Counted, dropped, first_entity, is_forgotten, with_table}
use Rattle.cfdp_entity.specs.Forgetting.{Forgets, ForgetsEach, without_record}
use Rattle.cfdp_entity.specs.Strays.{StrayAck, most_strays, over_ack, unknown_ack}
use Rattle.cfdp_entity.specs.Hearing.{opens_record, queues, Takes as TakesPdu, DropsBy, HearsOctets, DropsOctets, StepsAt, OpensOne, FindsNoMemory, names_no_file, route, route_by, route_unplaced}
use Rattle.cfdp_entity.specs.History.{Spoils, Hears, Calls, Takes, Fires, table_step}
use Rattle.cfdp_entity.specs.Polling.{Turn, Stray, Place, Rests, served}
use Rattle.cfdp_entity.specs.Putting.{Accepts, next_id, next_transfer}
use Rattle.cfdp_entity.specs.Table.{TableState, Ticks, place_of, heard_at, opened_by, put_in, at_time, most_records}
use Rattle.cfdp_entity.proofs.Timing.{policy-step, IsForReceiver, hears-set, calls-set, takes-set, puts-set, opens-set}
use Rattle.cfdp_endings.specs.Entity.{IsTimely, IsLively}
use Rattle.cfdp_endings.proofs.Tables.{MachineLaws, hears-owes, calls-owes, takes-owes, opens-owes, alike-timely, first-timely, step-timely, push-timely, spoiled-timely, left-timely, ticked-timely}

-- only the configuration and the table matter
lively : (old new : EntityState) (st : TableState) → new.config ≡ old.config → new.table ≡ st → st.policy ≡ old.table.policy → IsTimely st → IsLively old → IsLively new
lively old new st config table policy t k = record {
  config = subst IsConfig (sym config) k.config;
  policy = ap (λ (x : TableState). x.policy) table ∙ policy ∙ k.policy ∙ ap (λ (x : EntityConfig). x.policy) (sym config);
  table = subst IsTimely (sym table) t;
}

-- one that is as it was
pub lively-same : (old new : EntityState) → new.config ≡ old.config → new.table ≡ old.table → IsLively old → IsLively new
lively-same old new config table k = lively old new old.table config table refl k.table k

pub first-lively : (sources files : FileMap) (config : EntityConfig) → IsConfig config → IsLively (first_entity sources files config)
first-lively sources files config valid = record { config = valid; policy = refl; table = first-timely sources files config.policy }

pub put-lively : MachineLaws → (source destination : List ℕ) (id : TransactionId) (old new : EntityState) → Accepts source destination id old new → IsLively old → IsLively new
put-lively laws source destination id old new a k =
    let sent : Transfer = next_transfer source destination (length (octets_in old.table.sources source)) old in
    let fresh : place_of (next_id old) old.table.records ≡ None = subst (λ i. place_of i old.table.records ≡ None) a.is_next a.fresh in
    lively old new (put_in sent old.table) (ap (λ (e : EntityState). e.config) a.opened) (ap (λ (e : EntityState). e.table) a.opened) refl
    (push-timely sent.addressing.id _ old.table fresh (puts-set old.table.files sent) (refl, laws.put sent k.config.sending.some) k.table) k

pub served-timely : MachineLaws → (stored : Stored) (t : Turn) (e : EntityState) → IsTimely e.table → IsTimely (served stored t e).table
served-timely laws stored (Stray s strays) e k = k
served-timely laws stored (Place place) e k = step-timely _ place e.table (λ d at. takes-set stored e.table.policy.times e.table.sources e.table.files d.1)
    (λ d h. takes-owes laws stored e.table.policy.times e.table.sources e.table.files d.1 h) k
served-timely laws stored Rests e k = k

served-policy : (stored : Stored) (t : Turn) (e : EntityState) → (served stored t e).table.policy ≡ e.table.policy
served-policy stored (Stray s strays) e = refl
served-policy stored (Place place) e = policy-step (Takes stored place) e.table
served-policy stored Rests e = refl

served-config : (stored : Stored) (t : Turn) (e : EntityState) → (served stored t e).config ≡ e.config
served-config stored (Stray s strays) e = refl
served-config stored (Place place) e = refl
served-config stored Rests e = refl

pub served-lively : MachineLaws → (stored : Stored) (t : Turn) (e : EntityState) → IsLively e → IsLively (served stored t e)
served-lively laws stored t e k = lively e (served stored t e) (served stored t e).table (served-config stored t e) refl (served-policy stored t e) (served-timely laws stored t e k.table) k

module _ (laws : MachineLaws) where
  pub called-lively : (c : Request) (id : TransactionId) (old new : EntityState) → IsCalled c id old new → IsLively old → IsLively new
  called-lively c id old new h k =
      lively old new (after_request c id old.table) (ap (λ (e : EntityState). e.config) h.called) (ap (λ (e : EntityState). e.table) h.called)
      (policy-by (place_of id old.table.records)) (by (place_of id old.table.records)) k
    where
      by : (o : Option ℕ) → IsTimely (called_in c o old.table)
      by None = k.table
      by (Some place) = step-timely _ place old.table (λ e at. calls-set old.table.policy.times old.table.files c e.1)
          (λ e owing. calls-owes laws old.table.policy.times old.table.files c e.1 owing) k.table

      policy-by : (o : Option ℕ) → (called_in c o old.table).policy ≡ old.table.policy
      policy-by None = refl
      policy-by (Some place) = policy-step (Calls place c) old.table

  pub ticked-lively : (now : ℕ) (old new : EntityState) → Ticks now old.table new.table → new ≡ with_table old new.table → IsLively old → IsLively new
  ticked-lively now old new tick same k = lively old new new.table (ap (λ (e : EntityState). e.config) same) refl
      (ap (λ (st : TableState). st.policy) tick.ticked ∙ policy-step (Fires tick.fired) (at_time now old.table)) (ticked-timely laws now old.table new.table tick k.table) k

  -- ---- a PDU that is taken
  module _ (old new : Counted) (h : Header) (t : IsLively old.state) where
    kept : new.state.config ≡ old.state.config → new.state.table ≡ old.state.table → IsLively new.state
    kept config is = lively-same old.state new.state config is t

    stepped : (place : ℕ) (v : Content) → StepsAt place h.large v old new → IsLively new.state
    stepped place v s = lively old.state new.state (heard_at s.stored place h.large v old.state.table) (ap (λ (e : EntityState). e.config) s.steps) (ap (λ (e : EntityState). e.table) s.steps)
        (policy-step (Hears s.stored place h.large v) old.state.table)
        (step-timely _ place old.state.table (λ e at. hears-set s.stored old.state.table.policy.times old.state.table.files h.large v e.1)
        (λ e owing. hears-owes laws s.stored old.state.table.policy.times old.state.table.files h.large v e.1 owing) t.table) t

    opened : (v : Content) → IsForReceiver v → place_of h.id old.state.table.records ≡ None → (b : Bool) → nat_lt (length old.state.table.records) most_records ≡ b →
        TakesPdu (opens_record old.state) h v old new → IsLively new.state
    opened v for_it none true is s =
        let f : TakesPdu (opens_record old.state) h v old new → OpensOne (addressing_of h) h.large v old new = rw is (λ o. o) in
        let o = f s in
        lively old.state new.state (opened_by o.begun o.stored (addressing_of h) h.large v old.state.table) (ap (λ (e : EntityState). e.config) o.opens) (ap (λ (e : EntityState). e.table) o.opens) refl
        (push-timely h.id _ old.state.table none (opens-set o.begun o.stored old.state.table.policy.times old.state.table.files h.large v (addressing_of h) for_it)
        (opens-owes laws o.begun o.stored old.state.table.policy.times old.state.table.files h.large v (addressing_of h)) t.table) t
    opened v for_it none false is s =
        let f : TakesPdu (opens_record old.state) h v old new → ⊥ = rw is (λ o. o) in
        absurd (f s)

    answered : (a : StrayAck) (v : Content) (b : Bool) → nat_lt (length old.state.strays) most_strays ≡ b → TakesPdu (queues a old.state) h v old new → IsLively new.state
    answered a v true is s =
        let f : TakesPdu (queues a old.state) h v old new → (new.state.config ≡ old.state.config) × (new.state.table ≡ old.state.table) =
        rw is (λ o. (ap (λ (c : Counted). c.state.config) o, ap (λ (c : Counted). c.state.table) o)) in
        kept (f s).0 (f s).1
    answered a v false is s =
        let f : TakesPdu (queues a old.state) h v old new → ⊥ = rw is (λ o. o) in
        absurd (f s)

    abbrev full : Bool
    full = nat_lt (length old.state.table.records) most_records

    abbrev many : Bool
    many = nat_lt (length old.state.strays) most_strays

    passed : new ≡ old → IsLively new.state
    passed is = kept (ap (λ (c : Counted). c.state.config) is) (ap (λ (c : Counted). c.state.table) is)

    unplaced : (b : Bool) (v : Content) → place_of h.id old.state.table.records ≡ None → TakesPdu (route_unplaced b h v old.state) h v old new → IsLively new.state
    unplaced true (FileData offset bytes) is s = passed s
    unplaced true (Metadata kind size source destination options) is s = passed s
    unplaced true (Eof condition checksum size tlvs) is s = answered (over_ack h acknowledged.Eof condition) (Eof condition checksum size tlvs) many refl s
    unplaced true (Finished condition delivery status tlvs) is s = answered (over_ack h acknowledged.Finished condition) (Finished condition delivery status tlvs) many refl s
    unplaced true (Ack of condition status) is s = passed s
    unplaced true (Nak start end pairs) is s = passed s
    unplaced true (Prompt keep_alive) is s = passed s
    unplaced true (KeepAlive progress) is s = passed s
    unplaced false (FileData offset bytes) is s = opened (FileData offset bytes) tt is full refl s
    unplaced false (Metadata kind size source destination options) is s = opened (Metadata kind size source destination options) tt is full refl s
    unplaced false (Eof condition checksum size tlvs) is s = opened (Eof condition checksum size tlvs) tt is full refl s
    unplaced false (Finished condition delivery status tlvs) is s = answered (unknown_ack h condition) (Finished condition delivery status tlvs) many refl s
    unplaced false (Ack acknowledged.Eof condition status) is s = absurd s
    unplaced false (Ack acknowledged.Finished condition status) is s = absurd s
    unplaced false (Nak start end pairs) is s = absurd s
    unplaced false (Prompt keep_alive) is s = absurd s
    unplaced false (KeepAlive progress) is s = absurd s

    placed : (o : Option ℕ) (v : Content) → place_of h.id old.state.table.records ≡ o → TakesPdu (route_by o h v old.state) h v old new → IsLively new.state
    placed (Some place) v is s = stepped place v s
    placed None v is s = unplaced (is_forgotten old.state h.id) v is s

    named : (b : Bool) (v : Content) → direction_fits h v ≡ true → is_for old.state.config.entity old.state.config.peer h ≡ true → names_no_file v ≡ b → TakesPdu (route h v old.state) h v old new → IsLively new.state
    named true v fits for_us is s =
        let f : TakesPdu (route h v old.state) h v old new → ⊥ = rw (fits, for_us, is) (λ o. o) in
        absurd (f s)
    named false v fits for_us is s =
        let f : TakesPdu (route h v old.state) h v old new → TakesPdu (route_by (place_of h.id old.state.table.records) h v old.state) h v old new = rw (fits, for_us, is) (λ o. o) in
        placed (place_of h.id old.state.table.records) v refl (f s)

    meant : (b : Bool) (v : Content) → direction_fits h v ≡ true → is_for old.state.config.entity old.state.config.peer h ≡ b → TakesPdu (route h v old.state) h v old new → IsLively new.state
    meant true v fits is s = named (names_no_file v) v fits is refl s
    meant false v fits is s =
        let f : TakesPdu (route h v old.state) h v old new → ⊥ = rw (fits, is) (λ o. o) in
        absurd (f s)

    fitting : (b : Bool) (v : Content) → direction_fits h v ≡ b → TakesPdu (route h v old.state) h v old new → IsLively new.state
    fitting true v is s = meant (is_for old.state.config.entity old.state.config.peer h) v is refl s
    fitting false v is s =
        let f : TakesPdu (route h v old.state) h v old new → ⊥ = rw is (λ o. o) in
        absurd (f s)

  pub heard-lively : (pdu : List ℕ) (old new : Counted) → HearsOctets pdu old new → IsLively old.state → IsLively new.state
  heard-lively pdu old new x t = fitting old new x.header t (direction_fits x.header x.content) x.content refl x.takes

  -- ---- a PDU that is dropped
  module _ (old new : Counted) (h : Header) (by : EntityDrop) (t : IsLively old.state) where
    counted : (d : EntityDrop) → new ≡ record old { state = dropped d old.state } → IsLively new.state
    counted d is = lively-same old.state new.state (ap (λ (c : Counted). c.state.config) is) (ap (λ (c : Counted). c.state.table) is) t

    spoiled : (place : ℕ) (v : Content) → FindsNoMemory place v old new → IsLively new.state
    spoiled place v f = lively old.state new.state (table_step (Spoils place v f.spoiled.seen) old.state.table) (ap (λ (e : EntityState). e.config) f.counted) f.spoiled.table refl
        (spoiled-timely laws place v f.spoiled.seen old.state.table f.spoiled.spoils t.table) t

    unopened : (v : Content) (b : Bool) → nat_lt (length old.state.table.records) most_records ≡ b → DropsBy (opens_record old.state) by v old new → IsLively new.state
    unopened v true is s =
        let f : DropsBy (opens_record old.state) by v old new → (new ≡ record old { state = dropped drops.NoMemory old.state }) = rw is (λ o. o.1) in
        counted drops.NoMemory (f s)
    unopened v false is s =
        let f : DropsBy (opens_record old.state) by v old new → (new ≡ record old { state = dropped drops.TableFull old.state }) = rw is (λ o. o.1) in
        counted drops.TableFull (f s)

    unqueued : (a : StrayAck) (v : Content) (b : Bool) → nat_lt (length old.state.strays) most_strays ≡ b → DropsBy (queues a old.state) by v old new → IsLively new.state
    unqueued a v true is s =
        let f : DropsBy (queues a old.state) by v old new → ⊥ = rw is (λ o. o) in
        absurd (f s)
    unqueued a v false is s =
        let f : DropsBy (queues a old.state) by v old new → (new ≡ record old { state = dropped drops.TableFull old.state }) = rw is (λ o. o.1) in
        counted drops.TableFull (f s)

    abbrev some_room : Bool
    some_room = nat_lt (length old.state.table.records) most_records

    abbrev few_strays : Bool
    few_strays = nat_lt (length old.state.strays) most_strays

    lost : (b : Bool) (v : Content) → DropsBy (route_unplaced b h v old.state) by v old new → IsLively new.state
    lost true (FileData offset bytes) s = absurd s
    lost true (Metadata kind size source destination options) s = absurd s
    lost true (Eof condition checksum size tlvs) s = unqueued (over_ack h acknowledged.Eof condition) (Eof condition checksum size tlvs) few_strays refl s
    lost true (Finished condition delivery status tlvs) s = unqueued (over_ack h acknowledged.Finished condition) (Finished condition delivery status tlvs) few_strays refl s
    lost true (Ack of condition status) s = absurd s
    lost true (Nak start end pairs) s = absurd s
    lost true (Prompt keep_alive) s = absurd s
    lost true (KeepAlive progress) s = absurd s
    lost false (FileData offset bytes) s = unopened (FileData offset bytes) some_room refl s
    lost false (Metadata kind size source destination options) s = unopened (Metadata kind size source destination options) some_room refl s
    lost false (Eof condition checksum size tlvs) s = unopened (Eof condition checksum size tlvs) some_room refl s
    lost false (Finished condition delivery status tlvs) s = unqueued (unknown_ack h condition) (Finished condition delivery status tlvs) few_strays refl s
    lost false (Ack acknowledged.Eof condition status) s = counted drops.Unknown s.1
    lost false (Ack acknowledged.Finished condition status) s = counted drops.Unknown s.1
    lost false (Nak start end pairs) s = counted drops.Unknown s.1
    lost false (Prompt keep_alive) s = counted drops.Unknown s.1
    lost false (KeepAlive progress) s = counted drops.Unknown s.1

    placed-lost : (o : Option ℕ) (v : Content) → DropsBy (route_by o h v old.state) by v old new → IsLively new.state
    placed-lost (Some place) v s = spoiled place v s.1
    placed-lost None v s = lost (is_forgotten old.state h.id) v s

    named-lost : (b : Bool) (v : Content) → direction_fits h v ≡ true → is_for old.state.config.entity old.state.config.peer h ≡ true → names_no_file v ≡ b → DropsBy (route h v old.state) by v old new → IsLively new.state
    named-lost true v fits for_us is s =
        let f : DropsBy (route h v old.state) by v old new → (new ≡ record old { state = dropped drops.NoFile old.state }) = rw (fits, for_us, is) (λ o. o.1) in
        counted drops.NoFile (f s)
    named-lost false v fits for_us is s =
        let f : DropsBy (route h v old.state) by v old new → DropsBy (route_by (place_of h.id old.state.table.records) h v old.state) by v old new = rw (fits, for_us, is) (λ o. o) in
        placed-lost (place_of h.id old.state.table.records) v (f s)

    meant-lost : (b : Bool) (v : Content) → direction_fits h v ≡ true → is_for old.state.config.entity old.state.config.peer h ≡ b → DropsBy (route h v old.state) by v old new → IsLively new.state
    meant-lost true v fits is s = named-lost (names_no_file v) v fits is refl s
    meant-lost false v fits is s =
        let f : DropsBy (route h v old.state) by v old new → (new ≡ record old { state = dropped drops.NotForUs old.state }) = rw (fits, is) (λ o. o.1) in
        counted drops.NotForUs (f s)

    fitting-lost : (b : Bool) (v : Content) → direction_fits h v ≡ b → DropsBy (route h v old.state) by v old new → IsLively new.state
    fitting-lost true v is s = meant-lost (is_for old.state.config.entity old.state.config.peer h) v is refl s
    fitting-lost false v is s =
        let f : DropsBy (route h v old.state) by v old new → (new ≡ record old { state = dropped drops.WrongDirection old.state }) = rw is (λ o. o.1) in
        counted drops.WrongDirection (f s)

  pub dropped-lively : (o : Option PduError) (pdu : List ℕ) (by : EntityDrop) (old new : Counted) → DropsOctets o pdu by old new → IsLively old.state → IsLively new.state
  dropped-lively (Some e) pdu by old new d k = lively-same old.state new.state (ap (λ (c : Counted). c.state.config) d.1) (ap (λ (c : Counted). c.state.table) d.1) k
  dropped-lively None pdu by old new d k = fitting-lost old new d.header by k (direction_fits d.header d.content) d.content refl d.drops

-- ---- a record that goes
pub forgot-lively : (id : TransactionId) (old new : EntityState) → Forgets id old new → IsLively old → IsLively new
forgot-lively id old new f k = lively old new (without_record f.place id old).table (ap (λ (e : EntityState). e.config) f.forgot) (ap (λ (e : EntityState). e.table) f.forgot) refl
    (left-timely old.table f.place (id, f.seen) f.at k.table) k

pub each-lively : (ids : List TransactionId) (old new : EntityState) → ForgetsEach ids old new → IsLively old → IsLively new
unfolding ForgetsEach
each-lively [] old new is k = lively-same old new (ap (λ (e : EntityState). e.config) is) (ap (λ (e : EntityState). e.table) is) k
each-lively (id ∷ ids) old new f k = each-lively ids f.0 new f.1.1 (forgot-lively id old f.0 f.1.0 k)

-- ---- files and indications are nothing to it
pub alike-lively : (old new : EntityState) → new.config ≡ old.config → new.table.records ≡ old.table.records → new.table.armed ≡ old.table.armed → new.table.policy ≡ old.table.policy → IsLively old → IsLively new
alike-lively old new config records armed policy k = lively old new new.table config refl policy (alike-timely old.table new.table records armed k.table) k
