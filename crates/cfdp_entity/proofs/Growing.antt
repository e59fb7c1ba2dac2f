-- What was indicated stays, whatever happens to a table or an entity.
use Rattle.std.proofs.Common.{◌≡◌, ℕ, ◌+◌, ◌≤◌, true, List, [], ◌∷◌, ◌++◌, append_assoc, append-nil, length, slice_get, Option, Some, None, refl, sym, ap, ◌∙◌, arith}
use Rattle.cfdp_header.specs.declared.value.Header.{Header}
use Rattle.cfdp_header.specs.declared.value.TransactionId.{TransactionId}
use Rattle.cfdp_directives.specs.declared.pdu.error.PduError.{PduError}
use Rattle.cfdp_directives.specs.declared.user.indication.Indication.{Indication}
use Rattle.cfdp_directives.specs.Pdu.Addressing.{addressing_of}
use Rattle.cfdp_directives.specs.Pdu.Content.{Content, Prompt}
use Rattle.cfdp_store.specs.declared.stored.Stored.{Stored}
use Rattle.cfdp_store.specs.Files.{octets_in}
use Rattle.cfdp_timers.specs.Order.{Timer}
use Rattle.cfdp_entity.specs.declared.request.Request.{Request}
use Rattle.cfdp_entity.specs.declared.error.EntityDrop.{EntityDrop}
use Rattle.cfdp_entity.specs.declared.error.EntityDrop.TheVariants as drops
use Rattle.cfdp_entity.specs.declared.route.Route.{Route}
use Rattle.cfdp_entity.specs.declared.route.Route.TheVariants as routes
use Rattle.cfdp_entity.specs.Refusing.{called_in}
use Rattle.cfdp_entity.specs.Requests.{IsCalled}
use Rattle.cfdp_entity.specs.Entity.{EntityState, Counted, with_table}
use Rattle.cfdp_entity.specs.Forgetting.{Forgets, left_at}
use Rattle.cfdp_entity.specs.Hearing.{Takes as TakesPdu, DropsBy, HearsOctets, DropsOctets, route}
use Rattle.cfdp_entity.specs.History.{TableStep, Hears, Spoils, Expires, Calls, Takes, Puts, Opens, Tells, Fires, table_step}
use Rattle.cfdp_entity.specs.Polling.{Turn, Stray, Place, Rests, served}
use Rattle.cfdp_entity.specs.Putting.{Accepts, next_transfer}
use Rattle.cfdp_entity.specs.Sound.{GoesOn}
use Rattle.cfdp_entity.specs.Steps.{After, hears, expires, calls, takes}
use Rattle.cfdp_entity.specs.Table.{Entry, TableState, Ticks, place_of, step_of, expired_in, expired, all_expired, at_time}

pub record Grows (old new : TableState) : Type 0 where
  pub gained : List Indication
  pub told : new.told ≡ old.told ++ gained
  pub gone : new.gone ≡ old.gone
  pub sources : new.sources ≡ old.sources
  pub stands : new.stands ≡ old.stands

grows-none : (old new : TableState) → new.told ≡ old.told → new.gone ≡ old.gone → new.sources ≡ old.sources → new.stands ≡ old.stands → Grows old new
grows-none old new told gone sources stands = record { gained = []; told = told ∙ sym (append-nil old.told); gone = gone; sources = sources; stands = stands }

grows-then : (first second third : TableState) → Grows first second → Grows second third → Grows first third
grows-then first second third a b = record {
  gained = a.gained ++ b.gained;
  told = b.told ∙ ap (λ l. l ++ b.gained) a.told ∙ append_assoc first.told a.gained b.gained;
  gone = b.gone ∙ a.gone;
  sources = b.sources ∙ a.sources;
  stands = b.stands ∙ a.stands;
}

grows-of : (f : Entry → After) (place : ℕ) (o : Option Entry) (st : TableState) → Grows st (step_of f place o st)
grows-of f place None st = grows-none st st refl refl refl refl
grows-of f place (Some e) st = record { gained = (f e).told; told = refl; gone = refl; sources = refl; stands = refl }

grows-fired : (timers : List Timer) (st : TableState) → Grows st (all_expired timers st)
unfolding all_expired
grows-fired [] st = grows-none st st refl refl refl refl
grows-fired (timer ∷ timers) st = grows-then st (expired timer st) (all_expired timers (expired timer st)) (by (place_of timer.0 st.records)) (grows-fired timers (expired timer st))
  where
    by : (o : Option ℕ) → Grows st (expired_in o timer.1 st)
    by None = grows-none st st refl refl refl refl
    by (Some place) = grows-of (λ e. expires st.policy st.files timer.1 e.1) place (slice_get st.records place) st

grows-step : (s : TableStep) (st : TableState) → Grows st (table_step s st)
grows-step (Hears stored place large v) st = grows-of (λ e. hears stored st.policy.times st.files large v e.1) place (slice_get st.records place) st
grows-step (Spoils place v noted) st = grows-none st _ refl refl refl refl
grows-step (Expires place kind) st = grows-of (λ e. expires st.policy st.files kind e.1) place (slice_get st.records place) st
grows-step (Calls place c) st = grows-of (λ e. calls st.policy.times st.files c e.1) place (slice_get st.records place) st
grows-step (Takes stored place) st = grows-of (λ e. takes stored st.policy.times st.sources st.files e.1) place (slice_get st.records place) st
grows-step (Puts t) st = record { gained = _; told = refl; gone = refl; sources = refl; stands = refl }
grows-step (Opens begun stored a large v) st = record { gained = _; told = refl; gone = refl; sources = refl; stands = refl }
grows-step (Tells now) st = grows-none st _ refl refl refl refl
grows-step (Fires timers) st = grows-fired timers st

-- ---- the entity
goes : (old new : EntityState) (t : TableState) → Grows old.table t → new.table ≡ t → new.config ≡ old.config → old.next ≤ new.next → GoesOn old new
goes old new t g table config next = record {
  gained = g.gained;
  told = ap (λ (st : TableState). st.told) table ∙ g.told;
  gone = ap (λ (st : TableState). st.gone) table ∙ g.gone;
  sources = ap (λ (st : TableState). st.sources) table ∙ g.sources;
  stands = ap (λ (st : TableState). st.stands) table ∙ g.stands;
  config = config;
  next = next;
}

-- one step of its table
by-step : (s : TableStep) (old new : EntityState) → new ≡ with_table old (table_step s old.table) → GoesOn old new
by-step s old new is =
    let next : new.next ≡ old.next = ap (λ (e : EntityState). e.next) is in
    goes old new (table_step s old.table) (grows-step s old.table) (ap (λ (e : EntityState). e.table) is) (ap (λ (e : EntityState). e.config) is) (omega (arith, next))

-- nothing of it changes
stays : (old new : EntityState) → new.table ≡ old.table → new.config ≡ old.config → new.next ≡ old.next → GoesOn old new
stays old new table config next = goes old new old.table (grows-none old.table old.table refl refl refl refl) table config (omega (arith, next))

pub put-goes : (source destination : List ℕ) (id : TransactionId) (old new : EntityState) → Accepts source destination id old new → GoesOn old new
put-goes source destination id old new a =
    let next : new.next ≡ old.next + 1 = ap (λ (e : EntityState). e.next) a.opened in
    let s : TableStep = Puts (next_transfer source destination (length (octets_in old.table.sources source)) old) in
    goes old new (table_step s old.table) (grows-step s old.table) (ap (λ (e : EntityState). e.table) a.opened) (ap (λ (e : EntityState). e.config) a.opened) (omega (arith, next))

pub called-goes : (c : Request) (id : TransactionId) (old new : EntityState) → IsCalled c id old new → GoesOn old new
called-goes c id old new h = by (place_of id old.table.records) h.called
  where
    by : (o : Option ℕ) → new ≡ with_table old (called_in c o old.table) → GoesOn old new
    by None is = stays old new (ap (λ (e : EntityState). e.table) is) (ap (λ (e : EntityState). e.config) is) (ap (λ (e : EntityState). e.next) is)
    by (Some place) is = by-step (Calls place c) old new is

pub ticked-goes : (now : ℕ) (old new : EntityState) → Ticks now old.table new.table → new ≡ with_table old new.table → GoesOn old new
ticked-goes now old new t is =
    let told : TableState = at_time now old.table in
    let next : new.next ≡ old.next = ap (λ (e : EntityState). e.next) is in
    goes old new (all_expired t.fired told) (grows-then old.table told (all_expired t.fired told) (grows-none old.table told refl refl refl refl) (grows-fired t.fired told)) t.ticked
    (ap (λ (e : EntityState). e.config) is) (omega (arith, next))

taken-goes : (r : Route) (h : Header) (v : Content) (old new : Counted) → TakesPdu r h v old new → GoesOn old.state new.state
taken-goes (routes.Drops d) h v old new t = absurd t
taken-goes (routes.Steps place) h v old new t = by-step (Hears t.stored place h.large v) old.state new.state t.steps
taken-goes routes.Opens h v old new t = by-step (Opens t.begun t.stored (addressing_of h) h.large v) old.state new.state t.opens
taken-goes (routes.Queues s) h v old new t =
    stays old.state new.state (ap (λ (c : Counted). c.state.table) t) (ap (λ (c : Counted). c.state.config) t) (ap (λ (c : Counted). c.state.next) t)
taken-goes routes.Passes h v old new t =
    stays old.state new.state (ap (λ (c : Counted). c.state.table) t) (ap (λ (c : Counted). c.state.config) t) (ap (λ (c : Counted). c.state.next) t)

pub heard-goes : (pdu : List ℕ) (old new : Counted) → HearsOctets pdu old new → GoesOn old.state new.state
heard-goes pdu old new h = taken-goes (route h.header h.content old.state) h.header h.content old new h.takes

dropped-by : (r : Route) (by : EntityDrop) (v : Content) (old new : Counted) → DropsBy r by v old new → GoesOn old.state new.state
dropped-by (routes.Drops d) by v old new t =
    stays old.state new.state (ap (λ (c : Counted). c.state.table) t.1) (ap (λ (c : Counted). c.state.config) t.1) (ap (λ (c : Counted). c.state.next) t.1)
dropped-by (routes.Steps place) by v old new t =
    let f = t.1 in
    let next : new.state.next ≡ old.state.next = ap (λ (e : EntityState). e.next) f.counted in
    goes old.state new.state (table_step (Spoils place v f.spoiled.seen) old.state.table) (grows-step (Spoils place v f.spoiled.seen) old.state.table) f.spoiled.table
    (ap (λ (e : EntityState). e.config) f.counted) (omega (arith, next))
dropped-by routes.Opens by v old new t =
    stays old.state new.state (ap (λ (c : Counted). c.state.table) t.1) (ap (λ (c : Counted). c.state.config) t.1) (ap (λ (c : Counted). c.state.next) t.1)
dropped-by (routes.Queues s) by v old new t = absurd t
dropped-by routes.Passes by v old new t = absurd t

pub dropped-goes : (o : Option PduError) (pdu : List ℕ) (by : EntityDrop) (old new : Counted) → DropsOctets o pdu by old new → GoesOn old.state new.state
dropped-goes (Some e) pdu by old new d = dropped-by (routes.Drops (drops.Pdu e)) by (Prompt true) old new d
dropped-goes None pdu by old new d = dropped-by (route d.header d.content old.state) by d.content old new d.drops

pub served-goes : (stored : Stored) (t : Turn) (e : EntityState) → GoesOn e (served stored t e)
served-goes stored (Stray s strays) e = stays e (served stored (Stray s strays) e) refl refl refl
served-goes stored (Place place) e = goes e (served stored (Place place) e) (table_step (Takes stored place) e.table) (grows-step (Takes stored place) e.table) refl refl (omega arith)
served-goes stored Rests e = stays e e refl refl refl

pub forgets-goes : (id : TransactionId) (old new : EntityState) → Forgets id old new → GoesOn old new
forgets-goes id old new f =
    let next : new.next ≡ old.next = ap (λ (e : EntityState). e.next) f.forgot in
    goes old new (left_at f.place id old.table) (grows-none old.table (left_at f.place id old.table) refl refl refl refl) (ap (λ (e : EntityState). e.table) f.forgot) (ap (λ (e : EntityState). e.config) f.forgot)
    (omega (arith, next))
