-- An entity from whose inbox files were removed: whatever happens to it would happen with them too.
use Rattle.std.proofs.Common.{◌≡◌, ◌∙◌, ℕ, ◌||◌, Bool, true, false, not, List, [], ◌∷◌, Option, Some, None, refl, sym, ap, slice_get, subst, cond, nat_cmp, if◌then◌else◌}
use Rattle.std.specs.FinMap as map
use Rattle.std.specs.FinMap.{get-insert, get-remove}
use Rattle.std.specs.Ordering.{eq_by_cmp}
use Rattle.std.specs.Cmp.Lexicographic.{slice_cmp, nat_list_cmp_total}
use Rattle.cfdp_header.specs.declared.value.Header.{Header}
use Rattle.cfdp_header.specs.declared.value.TransactionId.{TransactionId}
use Rattle.cfdp_header.specs.Files.{FileMap}
use Rattle.cfdp_directives.specs.declared.pdu.addressing.Addressing.{Addressing}
use Rattle.cfdp_directives.specs.declared.pdu.error.PduError.{PduError}
use Rattle.cfdp_directives.specs.Pdu.Addressing.{addressing_of}
use Rattle.cfdp_directives.specs.Pdu.Content.{Content, Eof}
use Rattle.cfdp_directives.specs.Pdu.Direction.{direction_fits, is_for}
use Rattle.cfdp_directives.specs.User.Put.{Put}
use Rattle.cfdp_store.specs.declared.stored.Stored.{Stored}
use Rattle.cfdp_store.specs.Chains.{Raises}
use Rattle.cfdp_receiver.specs.State.{ReceiverState}
use Rattle.cfdp_receiver.specs.Alike.{with_documents}
use Rattle.cfdp_entity.specs.declared.request.Request.{Request}
use Rattle.cfdp_entity.specs.declared.error.EntityDrop.{EntityDrop}
use Rattle.cfdp_entity.specs.declared.error.EntityDrop.TheVariants as drops
use Rattle.cfdp_entity.specs.declared.route.Route.{Route}
use Rattle.cfdp_entity.specs.declared.route.Route.TheVariants as routes
use Rattle.cfdp_entity.specs.Steps.{After, hears}
use Rattle.cfdp_entity.specs.Opening.{closing}
use Rattle.cfdp_entity.specs.Refusing.{called_in, refusal_in}
use Rattle.cfdp_entity.specs.Requests.{IsCalled, after_request}
use Rattle.cfdp_entity.specs.Storing.{AsksHeard, AsksAs, AsksOf, AsksFirst}
use Rattle.cfdp_entity.specs.Table.{Entry, TableState, Ticks, place_of, heard_at, taken_at, opened_by, at_time, all_expired}
use Rattle.cfdp_entity.specs.Entity.{EntityState, Counted, is_forgotten, with_table}
use Rattle.cfdp_entity.specs.Hearing.{Takes as TakesPdu, HearsOctets, DropsBy, DropsOctets, names_no_file, route, route_by, route_over, route_new, route_unplaced}
use Rattle.cfdp_entity.specs.Forgetting.{Forgets, ForgetsEach, ForgetsSome, with_files, without_file}
use Rattle.cfdp_entity.specs.History.{Hears, Calls, Takes, Opens}
use Rattle.cfdp_entity.specs.Polling.{Turn, Stray, Place, Rests, served, turn, turn_octets}
use Rattle.cfdp_entity.specs.Putting.{Accepts}
use Rattle.cfdp_entity.specs.Sound.{IsSound, SpellsTurn}
use Rattle.cfdp_entity.specs.Removing.{GoesAlike, IsSoundBut, also_removed, none_removed}
use Rattle.cfdp_entity.proofs.Removing.{ReceivesAlike, StepsAlike, hears-alike, opens-alike, step-alike, fired-alike}

-- the entity with these files in its inbox
abbrev pub with_inbox : FileMap → EntityState → EntityState
with_inbox files e = with_table e (with_files files e.table)

-- What became of the entity with these files in its inbox: the same, and it happened so.
pub record Happens (files : FileMap) (Happened : EntityState → Type 0) (old new : EntityState) : Type 0 where
  pub other : TableState
  pub goes : GoesAlike files old.table new.table other
  pub so : Happened (with_table new other)

-- ---- which files are left
found-inserted : (test : Bool) (some all : Option (List ℕ)) (put found : List ℕ) → (some ≡ Some found → all ≡ Some found) → cond test (Some put) some ≡ Some found → cond test (Some put) all ≡ Some found
found-inserted true some all put found h is = is
found-inserted false some all put found h is = h is

among-documents : (documents : List (List ℕ × List ℕ)) (some all : FileMap) → ((name octets : List ℕ) → map.get some name ≡ Some octets → map.get all name ≡ Some octets) →
    (name octets : List ℕ) → map.get (with_documents documents some) name ≡ Some octets → map.get (with_documents documents all) name ≡ Some octets
among-documents [] some all among = among
among-documents (d ∷ rest) some all among = among-documents rest (map.insert some d.0 d.1) (map.insert all d.0 d.1) (λ name octets is.
    get-insert nat_list_cmp_total all d.0 d.1 name
    ∙ found-inserted (eq_by_cmp (slice_cmp nat_cmp) name d.0) (map.get some name) (map.get all name) d.1 octets (among name octets)
    (sym (get-insert nat_list_cmp_total some d.0 d.1 name) ∙ is))

found-left : (test : Bool) (some all : Option (List ℕ)) (found : List ℕ) → (some ≡ Some found → all ≡ Some found) → cond test None some ≡ Some found → all ≡ Some found
found-left true some all found h is = absurd cc
found-left false some all found h is = h is

left-documents : (documents : List (List ℕ × List ℕ)) (some all : FileMap) (name : List ℕ) → map.get some name ≡ map.get all name →
    map.get (with_documents documents some) name ≡ map.get (with_documents documents all) name
left-documents [] some all name same = same
left-documents (d ∷ rest) some all name same = left-documents rest (map.insert some d.0 d.1) (map.insert all d.0 d.1) name
    (get-insert nat_list_cmp_total some d.0 d.1 name ∙ ap (cond (eq_by_cmp (slice_cmp nat_cmp) name d.0) (Some d.1)) same ∙ sym (get-insert nat_list_cmp_total all d.0 d.1 name))

-- a name that wasn't removed, and isn't the one that is
not-either : (a b : Bool) (some : Option (List ℕ)) (all : Option (List ℕ)) → (b ≡ false → some ≡ all) → (a || b) ≡ false → cond a None some ≡ all
not-either true b some all left is = absurd cc
not-either false b some all left is = left is

-- whose turn it is, and what it sends, with these files
turn-spells : (files : FileMap) (t : Turn) (e : EntityState) → SpellsTurn t e → SpellsTurn t (with_inbox files e)
turn-spells files (Stray s strays) e h = h
turn-spells files (Place place) e h = h
turn-spells files Rests e h = h

pub turn-octets : (files : FileMap) (t : Turn) (e : EntityState) → turn_octets t e ≡ turn_octets t (with_inbox files e)
turn-octets files (Stray s strays) e = refl
turn-octets files (Place place) e = refl
turn-octets files Rests e = refl

pub spells-with : (files : FileMap) (e : EntityState) → SpellsTurn (turn e) e → SpellsTurn (turn (with_inbox files e)) (with_inbox files e)
spells-with files e h = turn-spells files (turn e) e h

module _ (put_of : TransactionId → Option Put) (heard : List (List ℕ)) (first : FileMap) where
  pub sound-still : (e : EntityState) → IsSound put_of heard first e → IsSoundBut put_of heard first none_removed e
  sound-still e k = record { all = e.table.files; sound = k; left = λ name h. refl; among = λ name octets h. h }

  pub sound-without : (removed : List ℕ → Bool) (name : List ℕ) (e : EntityState) → IsSoundBut put_of heard first removed e →
      IsSoundBut put_of heard first (also_removed name removed) (with_table e (without_file name e.table))
  sound-without removed name e k = record {
    all = k.all;
    sound = k.sound;
    left = λ q is.
        get-remove nat_list_cmp_total e.table.files name q
        ∙ not-either (eq_by_cmp (slice_cmp nat_cmp) q name) (removed q) (map.get e.table.files q) (map.get k.all q) (k.left q) is;
    among = λ q octets is.
        found-left (eq_by_cmp (slice_cmp nat_cmp) q name) (map.get e.table.files q) (map.get k.all q) octets (k.among q octets)
        (sym (get-remove nat_list_cmp_total e.table.files name q) ∙ is);
  }

  -- what happened keeps an entity sound that has all files, so it keeps this one sound except for
  -- those
  pub conclude : (removed : List ℕ → Bool) (Happened : EntityState → Type 0) (old new : EntityState) (k : IsSoundBut put_of heard first removed old) (h : Happens k.all Happened old new) →
      IsSound put_of heard first (with_table new h.other) → IsSoundBut put_of heard first removed new
  conclude removed Happened old new k h sound = record {
    all = with_documents h.goes.documents k.all;
    sound = subst (λ t. IsSound put_of heard first (with_table new t)) h.goes.alike sound;
    left = λ name is. ap (λ f. map.get f name) h.goes.publishes ∙ left-documents h.goes.documents old.table.files k.all name (k.left name is);
    among = λ name octets is.
        among-documents h.goes.documents old.table.files k.all k.among name octets (sym (ap (λ f. map.get f name) h.goes.publishes) ∙ is);
  }

-- ---- what publishes nothing
module _ (files : FileMap) (old new : EntityState) where
  quiet : new.table.files ≡ old.table.files → GoesAlike files old.table new.table (with_files files new.table)
  quiet same = record { documents = []; publishes = same; alike = refl }

  pub put-alike : (source destination : List ℕ) (id : TransactionId) → Accepts source destination id old new → Happens files (Accepts source destination id (with_inbox files old)) old new
  put-alike source destination id a = record {
    other = with_files files new.table;
    goes = quiet (ap (λ (e : EntityState). e.table.files) a.opened);
    so = record { fresh = a.fresh; unforgotten = a.unforgotten; is_next = a.is_next; allowed = a.allowed; opened = ap (with_inbox files) a.opened };
  }

  forgets-inbox : (id : TransactionId) → Forgets id old new → Forgets id (with_inbox files old) (with_inbox files new)
  forgets-inbox id f = record { place = f.place; seen = f.seen; at = f.at; allowed = f.allowed; forgot = ap (with_inbox files) f.forgot }

  pub forgets-alike : (id : TransactionId) → Forgets id old new → Happens files (Forgets id (with_inbox files old)) old new
  forgets-alike id f = record { other = with_files files new.table; goes = quiet (ap (λ (e : EntityState). e.table.files) f.forgot); so = forgets-inbox id f }

each-inbox : (files : FileMap) (ids : List TransactionId) (old new : EntityState) → ForgetsEach ids old new →
    (new.table.files ≡ old.table.files) × ForgetsEach ids (with_inbox files old) (with_inbox files new)
unfolding ForgetsEach
each-inbox files [] old new is = (ap (λ (e : EntityState). e.table.files) is, ap (with_inbox files) is)
each-inbox files (id ∷ ids) old new f =
    let rest = each-inbox files ids f.0 new f.1.1 in
    (rest.0 ∙ ap (λ (e : EntityState). e.table.files) f.1.0.forgot, (with_inbox files f.0, (forgets-inbox files old f.0 id f.1.0, rest.1)))

pub some-alike : (files : FileMap) (old new : EntityState) → ForgetsSome old new → Happens files (ForgetsSome (with_inbox files old)) old new
some-alike files old new f =
    let each = each-inbox files f.ids old new f.forgets in
    record { other = with_files files new.table; goes = quiet files old new each.0; so = record { ids = f.ids; forgets = each.1 } }

-- ---- what makes steps
module _ (laws : ReceivesAlike) (files : FileMap) where
  refusal-same : (c : Request) (place : Option ℕ) (st : TableState) → refusal_in c place (with_files files st) ≡ refusal_in c place st
  refusal-same c (Some place) st = refl
  refusal-same c None st = refl

  called-alike-in : (c : Request) (place : Option ℕ) (st : TableState) → GoesAlike files st (called_in c place st) (called_in c place (with_files files st))
  called-alike-in c (Some place) st = step-alike laws files (Calls place c) st
  called-alike-in c None st = record { documents = []; publishes = refl; alike = refl }

  module _ (old new : EntityState) where
    goes-to : (t other : TableState) → new.table ≡ t → GoesAlike files old.table t other → GoesAlike files old.table new.table other
    goes-to t other is g = subst (λ x. GoesAlike files old.table x other) (sym is) g

    pub called-alike : (c : Request) (id : TransactionId) → IsCalled c id old new → Happens files (IsCalled c id (with_inbox files old)) old new
    called-alike c id h =
        let there : TableState = after_request c id (with_files files old.table) in
        record {
          other = there;
          goes = goes-to (after_request c id old.table) there (ap (λ (e : EntityState). e.table) h.called) (called-alike-in c (place_of id old.table.records) old.table);
          so = record { allowed = refusal-same c (place_of id old.table.records) old.table ∙ h.allowed; called = ap (λ e. with_table e there) h.called };
        }

    pub ticked-alike : (now : ℕ) → Ticks now old.table new.table → new ≡ with_table old new.table →
        Happens files (λ e. Ticks now (with_files files old.table) e.table × (e ≡ with_table (with_inbox files old) e.table)) old new
    ticked-alike now t same =
        let told : TableState = at_time now old.table in
        let there : TableState = all_expired t.fired (with_files files told) in
        let g : GoesAlike files told (all_expired t.fired told) there = fired-alike laws t.fired files told in
        record {
          other = there;
          goes = goes-to (all_expired t.fired told) there t.ticked (record { documents = g.documents; publishes = g.publishes; alike = g.alike });
          so = (record { fired = t.fired; are = t.are; ticked = refl }, ap (λ e. with_table e there) same);
        }

  pub served-alike : (stored : Stored) (t : Turn) (e : EntityState) → Happens files (λ x. served stored t (with_inbox files e) ≡ x) e (served stored t e)
  served-alike stored (Stray s strays) e = record { other = with_files files e.table; goes = quiet files e (served stored (Stray s strays) e) refl; so = refl }
  served-alike stored (Place place) e = record { other = taken_at stored place (with_files files e.table); goes = step-alike laws files (Takes stored place) e.table; so = refl }
  served-alike stored Rests e = record { other = with_files files e.table; goes = quiet files e e refl; so = refl }

  -- ---- PDUs
  -- the route is the same
  route_over-same : (h : Header) (v : Content) (e : EntityState) → route_over h v (with_inbox files e) ≡ route_over h v e
  route_over-same h (Eof condition checksum size tlvs) e = refl
  route_over-same h v e = refl

  route_new-same : (h : Header) (v : Content) (e : EntityState) → route_new h v (with_inbox files e) ≡ route_new h v e
  route_new-same h (Eof condition checksum size tlvs) e = refl
  route_new-same h v e = refl

  unplaced-same : (gone : Bool) (h : Header) (v : Content) (e : EntityState) → route_unplaced gone h v (with_inbox files e) ≡ route_unplaced gone h v e
  unplaced-same true h v e = route_over-same h v e
  unplaced-same false h v e = route_new-same h v e

  route_by-same : (place : Option ℕ) (h : Header) (v : Content) (e : EntityState) → route_by place h v (with_inbox files e) ≡ route_by place h v e
  route_by-same (Some place) h v e = refl
  route_by-same None h v e = unplaced-same (is_forgotten e h.id) h v e

  route-same : (h : Header) (v : Content) (e : EntityState) → route h v (with_inbox files e) ≡ route h v e
  route-same h v e =
      ap (λ (r : Route). if not (direction_fits h v) then routes.Drops drops.WrongDirection else if not (is_for e.config.entity e.config.peer h) then routes.Drops drops.NotForUs
      else if names_no_file v then routes.Drops drops.NoFile else r) (route_by-same (place_of h.id e.table.records) h v e)

  -- the calls of the inbox are the same
  asks-alike : (Asks : (r s : ReceiverState) → (failed now : ℕ) → Type 0) (f g : Entry → After) (published : FileMap) (o : Option Entry) (failed now : ℕ) →
      ((e : Entry) → StepsAlike published files (f e) (g e)) → AsksOf Raises Asks f o failed now → AsksOf Raises Asks g o failed now
  asks-alike Asks f g published (Some e) failed now goes h = subst (λ (x : After). AsksAs Raises Asks e.1 x.seen failed now) (sym (goes e).alike) h
  asks-alike Asks f g published None failed now goes h = h

  module _ (old new : Counted) where
    abbrev was : Counted
    was = record old { state = with_inbox files old.state }

    -- what has this state, and the failures that there are
    abbrev becomes : EntityState → Counted
    becomes e = record new { state = e }

    -- all is as it was, except for what isn't the table
    rests : (Happened : (old new : Counted) → Type 0) → new.state.table.files ≡ old.state.table.files → Happened was (becomes (with_inbox files new.state)) →
        Happens files (λ e. Happened was (becomes e)) old.state new.state
    rests Happened same so = record { other = with_files files new.state.table; goes = quiet files old.state new.state same; so = so }

    takes-alike : (r : Route) (h : Header) (v : Content) → TakesPdu r h v old new → Happens files (λ e. TakesPdu r h v was (becomes e)) old.state new.state
    takes-alike (routes.Steps place) h v t =
        let st : TableState = old.state.table in
        let there : TableState = heard_at t.stored place h.large v (with_files files st) in
        record {
          other = there;
          goes = goes-to old.state new.state (heard_at t.stored place h.large v st) there (ap (λ (e : EntityState). e.table) t.steps) (step-alike laws files (Hears t.stored place h.large v) st);
          so = record {
            stored = t.stored;
            steps = ap (λ e. with_table e there) t.steps;
            counts = t.counts;
            raises = asks-alike (AsksHeard Raises h.large v t.stored) (λ e. hears t.stored st.policy.times st.files h.large v e.1) (λ e. hears t.stored st.policy.times files h.large v e.1) st.files
                (slice_get st.records place) old.inbox_failures new.inbox_failures (λ e. hears-alike laws st.files files st.policy.times t.stored h.large v e.1) t.raises;
            outbox = t.outbox;
          };
        }
    takes-alike routes.Opens h v t =
        let st : TableState = old.state.table in
        let a : Addressing = addressing_of h in
        let there : TableState = opened_by t.begun t.stored a h.large v (with_files files st) in
        record {
          other = there;
          goes = goes-to old.state new.state (opened_by t.begun t.stored a h.large v st) there (ap (λ (e : EntityState). e.table) t.opens) (step-alike laws files (Opens t.begun t.stored a h.large v) st);
          so = record {
            begun = t.begun;
            stored = t.stored;
            opens = ap (λ e. with_table e there) t.opens;
            counts = t.counts;
            raises = subst (λ (x : After). AsksFirst Raises (closing v) t.begun t.stored h.large v a x.seen old.inbox_failures new.inbox_failures)
                (sym (opens-alike laws st.files files st.policy.times (closing v) t.begun t.stored h.large v a).alike) t.raises;
            outbox = t.outbox;
          };
        }
    takes-alike (routes.Queues s) h v t =
        rests (TakesPdu (routes.Queues s) h v) (ap (λ (c : Counted). c.state.table.files) t) (ap (λ (c : Counted). record c { state = with_inbox files c.state }) t)
    takes-alike routes.Passes h v t = rests (TakesPdu routes.Passes h v) (ap (λ (c : Counted). c.state.table.files) t) (ap (λ (c : Counted). record c { state = with_inbox files c.state }) t)
    takes-alike (routes.Drops d) h v t = absurd t

    pub heard-alike : (pdu : List ℕ) → HearsOctets pdu old new → Happens files (λ e. HearsOctets pdu was (becomes e)) old.state new.state
    heard-alike pdu x =
        let k : Happens files (λ e. TakesPdu (route x.header x.content old.state) x.header x.content was (becomes e)) old.state new.state =
        takes-alike (route x.header x.content old.state) x.header x.content x.takes in
        record { other = k.other; goes = k.goes; so = record { header = x.header; content = x.content; spells = x.spells; takes = subst (λ r. TakesPdu r x.header x.content was (becomes (with_table new.state k.other))) (sym (route-same x.header x.content old.state)) k.so } }

    drops-alike : (r : Route) (by : EntityDrop) (v : Content) → DropsBy r by v old new → Happens files (λ e. DropsBy r by v was (becomes e)) old.state new.state
    drops-alike (routes.Drops d) by v t =
        rests (DropsBy (routes.Drops d) by v) (ap (λ (c : Counted). c.state.table.files) t.1) (t.0, ap (λ (c : Counted). record c { state = with_inbox files c.state }) t.1)
    drops-alike (routes.Steps place) by v t =
        let f = t.1 in
        rests (DropsBy (routes.Steps place) by v) (ap (λ (st : TableState). st.files) f.spoiled.table) (
          t.0,
          record {
            spoiled = record { seen = f.spoiled.seen; spoils = f.spoiled.spoils; table = ap (with_files files) f.spoiled.table };
            counted = ap (with_inbox files) f.counted;
            inbox = f.inbox;
            outbox = f.outbox;
          },
        )
    drops-alike routes.Opens by v t = rests (DropsBy routes.Opens by v) (ap (λ (c : Counted). c.state.table.files) t.1) (t.0, ap (λ (c : Counted). record c { state = with_inbox files c.state }) t.1)
    drops-alike (routes.Queues s) by v t = absurd t
    drops-alike routes.Passes by v t = absurd t

    pub dropped-alike : (o : Option PduError) (pdu : List ℕ) (by : EntityDrop) → DropsOctets o pdu by old new → Happens files (λ e. DropsOctets o pdu by was (becomes e)) old.state new.state
    dropped-alike (Some error) pdu by d =
        rests (DropsOctets (Some error) pdu by) (ap (λ (c : Counted). c.state.table.files) d.1) (d.0, ap (λ (c : Counted). record c { state = with_inbox files c.state }) d.1)
    dropped-alike None pdu by d =
        let k : Happens files (λ e. DropsBy (route d.header d.content old.state) by d.content was (becomes e)) old.state new.state =
        drops-alike (route d.header d.content old.state) by d.content d.drops in
        record { other = k.other; goes = k.goes; so = record { header = d.header; content = d.content; spells = d.spells; drops = subst (λ r. DropsBy r by d.content was (becomes (with_table new.state k.other))) (sym (route-same d.header d.content old.state)) k.so } }
