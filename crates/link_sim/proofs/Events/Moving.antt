-- What each event does to both sides, by the laws of an entity.
use Rattle.std.proofs.Common.{◌≡◌, ℕ, zero, suc, ◌+◌, ◌<◌, ◌≤◌, true, false, List, [], ◌∷◌, ◌++◌, length, Option, Some, None, refl, sym, ap, subst, ◌∙◌, inl, inr, arith}
use Rattle.std.proofs.lemmas.List.{append-nil, append_assoc}
use Rattle.std.proofs.lemmas.Bool.{eqb-true, eq-eqb}
use Rattle.std.specs.Prelude.{Contains, unwrap_or, ◌==◌, if◌then◌else◌}
use Rattle.std.specs.FinMap.{get}
use Rattle.aos_frame.specs.Frame.{other_lane}
use Rattle.aos_frame.specs.declared.config.Lane.{Lane}
use Rattle.std.specs.Option.{option_or}
use Rattle.cfdp_header.specs.declared.value.Header.{Header}
use Rattle.cfdp_header.specs.declared.value.TransactionId.{TransactionId}
use Rattle.cfdp_header.specs.Files.{FileMap}
use Rattle.cfdp_directives.specs.Pdu.Content.{Content}
use Rattle.cfdp_directives.specs.Pdu.Faults.{pdu_fault}
use Rattle.cfdp_directives.specs.Pdu.Grammar.{SpellsPdu}
use Rattle.cfdp_directives.specs.User.Put.{Put, SaysTruth}
use Rattle.cfdp_store.specs.declared.stored.Stored.{Stored}
use Rattle.cfdp_store.specs.declared.stored.Stored.TheVariants.{Done, Refused}
use Rattle.cfdp_store.specs.Files.{octets_in}
use Rattle.cfdp_entity.specs.declared.request.Request.{Request}
use Rattle.cfdp_entity.specs.declared.error.EntityDrop.{EntityDrop}
use Rattle.cfdp_entity.specs.Requests.{IsCalled}
use Rattle.cfdp_entity.specs.Entity.{EntityState, Counted, with_table}
use Rattle.cfdp_entity.specs.Hearing.{HearsOctets, DropsOctets}
use Rattle.cfdp_entity.specs.Polling.{turn, turn_octets, served}
use Rattle.cfdp_entity.specs.Putting.{Accepts, asked, early_refusal}
use Rattle.cfdp_entity.specs.Sound.{IsSound as IsSoundEntity, FindsById, ComesTrue, SaysDelivered, SpellsTurn, GoesOn, next_put}
use Rattle.cfdp_entity.specs.Table.{Ticks}
use Rattle.cfdp_station.specs.Link.{next_lane}
use Rattle.cfdp_station.specs.Taking.{HearsPdu, HearsAll}
use Rattle.mpdu.specs.Parts.{IsPartOf}
use Rattle.station_pair.specs.declared.side.Side.{Side}
use Rattle.station_pair.specs.declared.side.Side.TheVariants.{One, Two}
use Rattle.link_sim.specs.declared.event.AcceptedPut.{AcceptedPut}
use Rattle.station_pair.specs.Stations.{other}
use Rattle.link_sim.specs.OneWay.{IsOneWay, pdus_sent, pdus_delivered}
use Rattle.link_sim.specs.Runs.{IsSwapped}
use Rattle.link_sim.specs.World.State.{WorldState, AreWays, delivered_from, entity_at, sent_from, station_at, way_from}
use Rattle.link_sim.specs.World.Steps.{KeepsLinks, KeepsOther, Stays, TakesPut, StepsAt, TellsTime, KeepsMarks, SendsOne, FailsSource, Fills, DeliversFrame, LosesFrame}
use Rattle.link_sim.specs.Theorem.{at, side_of, put_of, put_at, with_octets}
use Rattle.link_sim.specs.Observed.{seen}
use Rattle.link_sim.specs.Sound.{IsSound}
use Rattle.link_sim.proofs.Found.Puts.{SendsSame, puts-by-id, puts-more, put-last}
use Rattle.link_sim.proofs.Events.Keeping.{both, other-other, in-either, SideMoves, PutsMove}
use Rattle.link_sim.proofs.Lanes.Heard.{delivered-more, delivers-sent, loses-delivered, loses-sent}
use Rattle.link_sim.proofs.Lanes.Each.{either-lane}
use Rattle.link_sim.proofs.Lanes.Joined.{lanes-same, put-in-lane, swapped-same}
use Rattle.link_sim.proofs.Lanes.Ways.{back-delivers, back-kept, back-loses, back-marks, delivered-kept, forth-kept, other-delivers, sent-kept}

-- The laws of an entity, and that of parts of lists.
pub record EntityLaws : Type 0 where
  pub in_whole : (whole part : List (List ℕ)) (x : List ℕ) → IsPartOf part whole → Contains part x → Contains whole x
  pub put : (p : TransactionId → Option Put) (heard : List (List ℕ)) (first : FileMap) (source destination : List ℕ) (id : TransactionId) (old new : EntityState) →
      Accepts source destination id old new →
      p id ≡ Some (next_put source destination old) → IsSoundEntity p heard first old → IsSoundEntity p heard first new
  pub called : (p : TransactionId → Option Put) (heard : List (List ℕ)) (first : FileMap) (c : Request) (id : TransactionId) (old new : EntityState) → IsCalled c id old new →
      IsSoundEntity p heard first old → IsSoundEntity p heard first new
  pub ticked : (p : TransactionId → Option Put) (heard : List (List ℕ)) (first : FileMap) (now : ℕ) (old new : EntityState) → Ticks now old.table new.table → new ≡ with_table old new.table →
      IsSoundEntity p heard first old → IsSoundEntity p heard first new
  pub heard : (p : TransactionId → Option Put) (heard : List (List ℕ)) (first : FileMap) (pdu : List ℕ) (old new : Counted) → FindsById p → ComesTrue old.state.config.peer p heard pdu →
      HearsOctets pdu old new →
      IsSoundEntity p heard first old.state → IsSoundEntity p heard first new.state
  pub dropped : (p : TransactionId → Option Put) (heard : List (List ℕ)) (first : FileMap) (pdu : List ℕ) (by : EntityDrop) (old new : Counted) → DropsOctets (pdu_fault pdu) pdu by old new →
      IsSoundEntity p heard first old.state → IsSoundEntity p heard first new.state
  pub served_by : (p : TransactionId → Option Put) (heard : List (List ℕ)) (first : FileMap) (stored : Stored) (e : EntityState) → IsSoundEntity p heard first e →
      IsSoundEntity p heard first (served stored (turn e) e)
  pub put_on : (source destination : List ℕ) (id : TransactionId) (old new : EntityState) → Accepts source destination id old new → GoesOn old new
  pub called_on : (c : Request) (id : TransactionId) (old new : EntityState) → IsCalled c id old new → GoesOn old new
  pub ticked_on : (now : ℕ) (old new : EntityState) → Ticks now old.table new.table → new ≡ with_table old new.table → GoesOn old new
  pub heard_on : (pdu : List ℕ) (old new : Counted) → HearsOctets pdu old new → GoesOn old.state new.state
  pub dropped_on : (pdu : List ℕ) (by : EntityDrop) (old new : Counted) → DropsOctets (pdu_fault pdu) pdu by old new → GoesOn old.state new.state
  pub served_on : (stored : Stored) (e : EntityState) → GoesOn e (served stored (turn e) e)
  pub sends : (p : TransactionId → Option Put) (heard : List (List ℕ)) (first : FileMap) (e : EntityState) (h : Header) (v : Content) → IsSoundEntity p heard first e → SpellsTurn (turn e) e →
      SpellsPdu h v (turn_octets (turn e) e) →
      SaysTruth e.config.entity p h.id v × SaysDelivered e.config.entity e.table.told h.id v

-- ---- going on
goes-none : (e : EntityState) → GoesOn e e
goes-none e = record { gained = []; told = sym (append-nil e.table.told); gone = refl; sources = refl; stands = refl; config = refl; next = omega arith }

goes-same : (old new : EntityState) → new ≡ old → GoesOn old new
goes-same old new e = subst (λ (x : EntityState). GoesOn old x) (sym e) (goes-none old)

goes-both : (first second third : EntityState) → GoesOn first second → GoesOn second third → GoesOn first third
goes-both first second third g h = record {
  gained = g.gained ++ h.gained;
  told = h.told ∙ ap (λ l. l ++ h.gained) g.told ∙ append_assoc first.table.told g.gained h.gained;
  gone = h.gone ∙ g.gone;
  sources = h.sources ∙ g.sources;
  stands = h.stands ∙ g.stands;
  config = h.config ∙ g.config;
  next = omega (arith, g.next, h.next);
}

-- ---- sides
pub none-in : {X : Type 0} (x : X) → Contains [] x → ⊥
none-in x c = let k = c.0 in let low : k < 0 = c.1 in omega arith

-- nothing came after it
none-behind : (xs ys : List (List ℕ)) → ys ≡ xs → IsSwapped (xs ++ []) ys
none-behind xs ys e = swapped-same (xs ++ []) ys (e ∙ sym (append-nil xs))

ways-kept : (t : Side) (old new : WorldState) → AreWays t old → ((l : Lane) → way_from t l new ≡ way_from t l old) → AreWays t new
ways-kept t old new is same l = subst IsOneWay (sym (same l)) (is l)

-- a side whose entity alone moved
quiet : (t u : Side) (old new : WorldState) → AreWays t old → ((l : Lane) → way_from t l new ≡ way_from t l old) → ((l : Lane) → way_from u l new ≡ way_from u l old) →
    GoesOn (entity_at t old) (entity_at t new) →
    ((heard : List (List ℕ)) (first : FileMap) → IsSoundEntity (put_of (seen new)) heard first (entity_at t old) → IsSoundEntity (put_of (seen new)) heard first (entity_at t new)) →
    SideMoves t u old new
quiet t u old new is front back goes kept = record {
  goes = goes;
  ways = ways-kept t old new is front;
  texts = [];
  sent = none-behind (sent_from t old) (sent_from t new) (sent-kept t old new front);
  says = λ p heard first e x c. absurd (none-in x c);
  more = [];
  delivered = none-behind (delivered_from u old) (delivered_from u new) (delivered-kept u old new back);
  kept = λ heard first true_. kept heard first;
}

-- a side whose entity is as it was, and that sent and heard nothing more
resting : (t u : Side) (old new : WorldState) → AreWays t new → sent_from t new ≡ sent_from t old → delivered_from u new ≡ delivered_from u old → entity_at t new ≡ entity_at t old → SideMoves t u old new
resting t u old new is sent delivered e = record {
  goes = goes-same (entity_at t old) (entity_at t new) e;
  ways = is;
  texts = [];
  sent = none-behind (sent_from t old) (sent_from t new) sent;
  says = λ p heard first is x c. absurd (none-in x c);
  more = [];
  delivered = none-behind (delivered_from u old) (delivered_from u new) delivered;
  kept = λ heard first true_ k. subst (λ (x : EntityState). IsSoundEntity (put_of (seen new)) heard first x) (sym e) k;
}

-- a side at which nothing moved
still : (t u : Side) (old new : WorldState) → AreWays t old → ((l : Lane) → way_from t l new ≡ way_from t l old) → ((l : Lane) → way_from u l new ≡ way_from u l old) → entity_at t new ≡ entity_at t old →
    SideMoves t u old new
still t u old new is front back e = resting t u old new (ways-kept t old new is front) (sent-kept t old new front) (delivered-kept u old new back) e

each-side : (s : Side) (old new : WorldState) → SideMoves s (other s) old new → SideMoves (other s) s old new → (t : Side) → SideMoves t (other t) old new
each-side s old new this that =
    both (λ t. SideMoves t (other t) old new) s this (subst (λ (u : Side). SideMoves (other s) u old new) (sym (other-other s)) that)

-- ---- puts that stay
module _ (old new : WorldState) (sound : IsSound old) (goes : (t : Side) → GoesOn (entity_at t old) (entity_at t new)) where
  pub sends-one : SendsSame (seen old).one (seen new).one
  sends-one = let g = goes One in record { entity = ap (λ c. c.entity) g.config; kind = ap (λ c. c.checksum_kind) g.config; sources = g.sources }

  pub sends-two : SendsSame (seen old).two (seen new).two
  sends-two = let g = goes Two in record { entity = ap (λ c. c.entity) g.config; kind = ap (λ c. c.checksum_kind) g.config; sources = g.sources }

  number-kept : (t : Side) (p : AcceptedPut) → Contains old.puts p → p.id.source ≡ (entity_at t new).config.entity → p.id.number < (entity_at t new).next
  number-kept t p c is =
      let below : p.id.number < (entity_at t old).next = (sound t).numbers p c (is ∙ ap (λ x. x.entity) (goes t).config) in
      let up : (entity_at t old).next ≤ (entity_at t new).next = (goes t).next in
      omega arith

  puts-kept : new.puts ≡ old.puts → PutsMove old new
  puts-kept e = record {
    finds = puts-more (seen old) (seen new) [] sends-one sends-two (e ∙ sym (append-nil old.puts));
    numbers = λ t p c is. number-kept t p (subst (λ (l : List AcceptedPut). Contains l p) e c) is;
  }

-- What an event comes to.
pub record Moves (old new : WorldState) : Type 0 where
  pub sides : (t : Side) → SideMoves t (other t) old new
  pub puts : PutsMove old new

moves-kept : (old new : WorldState) → IsSound old → ((t : Side) → SideMoves t (other t) old new) → new.puts ≡ old.puts → Moves old new
moves-kept old new sound sides e = record { sides = sides; puts = puts-kept old new sound (λ t. (sides t).goes) e }

-- only the entity of one station moved
only-entity : (s : Side) (old new : WorldState) → IsSound old → KeepsLinks s old new → GoesOn (entity_at s old) (entity_at s new) →
    ((heard : List (List ℕ)) (first : FileMap) → IsSoundEntity (put_of (seen new)) heard first (entity_at s old) → IsSoundEntity (put_of (seen new)) heard first (entity_at s new)) → (t : Side) →
    SideMoves t (other t) old new
only-entity s old new sound k goes kept =
    each-side s old new
    (quiet s (other s) old new (sound s).ways (forth-kept s old new k) (back-kept s old new k) goes kept)
    (still (other s) s old new (sound (other s)).ways (back-kept s old new k) (forth-kept s old new k) (ap (λ x. x.entity.state) k.spares.station))

pub stays-moves : (s : Side) (old new : WorldState) → IsSound old → Stays s old new → Moves old new
stays-moves s old new sound h =
    moves-kept old new sound
    (only-entity s old new sound h.links (goes-same (entity_at s old) (entity_at s new) h.entity)
    (λ heard first k. subst (λ (x : EntityState). IsSoundEntity (put_of (seen new)) heard first x) (sym h.entity) k))
    h.counts.puts

pub same-moves : (old new : WorldState) → IsSound old → new ≡ old → Moves old new
same-moves old new sound e =
    subst (λ (w : WorldState). Moves old w) (sym e) (moves-kept old old sound (λ t. still t (other t) old old (sound t).ways (λ l. refl) (λ l. refl) refl) refl)

-- ---- the two entities
pub apart : (old : WorldState) → IsSound old → (s : Side) → (entity_at s old).config.entity ≡ (entity_at (other s) old).config.entity → ⊥
apart old sound s e = (sound s).entity.config.ids.apart (e ∙ sym (sound s).peer)

side-own : (old : WorldState) → IsSound old → (s : Side) → side_of (entity_at s old).config.entity (seen old) ≡ s
side-own old sound One = ap (λ b. if b then One else Two) (eq-eqb old.one.entity.state.config.entity old.one.entity.state.config.entity refl)
side-own old sound Two = elim (old.two.entity.state.config.entity == old.one.entity.state.config.entity) as
    (λ b. (old.two.entity.state.config.entity == old.one.entity.state.config.entity) ≡ b → (if b then One else Two) ≡ Two) [
      | true ↦ λ e. absurd (apart old sound Two (eqb-true old.two.entity.state.config.entity old.one.entity.state.config.entity e))
      | false ↦ λ e. refl
    ] refl

module _ (laws : EntityLaws) (old new : WorldState) (sound : IsSound old) where
  -- ---- calls
  pub called-moves : (s : Side) (c : Request) (id : TransactionId) → StepsAt s c id old new → Moves old new
  called-moves s c id h =
      moves-kept old new sound
      (only-entity s old new sound h.links (laws.called_on c id (entity_at s old) (entity_at s new) h.called)
      (λ heard first k. laws.called (put_of (seen new)) heard first c id (entity_at s old) (entity_at s new) h.called k))
      h.counts.puts

  pub told-moves : (s : Side) (now : ℕ) → TellsTime s now old new → Moves old new
  told-moves s now h =
      moves-kept old new sound
      (only-entity s old new sound h.links (laws.ticked_on now (entity_at s old) (entity_at s new) h.ticked h.table)
      (λ heard first k. laws.ticked (put_of (seen new)) heard first now (entity_at s old) (entity_at s new) h.ticked h.table k))
      h.puts

  -- ---- a put
  module _ (s : Side) (source destination : List ℕ) (h : TakesPut s source destination old new) where
    abbrev p : AcceptedPut
    p = record { id = h.id; source = source; destination = destination }

    pub goes-at : (t : Side) → GoesOn (entity_at t old) (entity_at t new)
    goes-at = both (λ t. GoesOn (entity_at t old) (entity_at t new)) s
        (laws.put_on source destination h.id (entity_at s old) (entity_at s new) h.accepts)
        (goes-same (entity_at (other s) old) (entity_at (other s) new) (ap (λ x. x.entity.state) h.links.spares.station))

    own : h.id.source ≡ (entity_at s old).config.entity
    own = ap (λ (x : TransactionId). x.source) h.accepts.is_next

    number : h.id.number ≡ (entity_at s old).next
    number = ap (λ (x : TransactionId). x.number) h.accepts.is_next

    pub fresh : (q : AcceptedPut) → Contains old.puts q → q.id ≡ h.id → ⊥
    fresh q c e =
        let below : q.id.number < (entity_at s old).next = (sound s).numbers q c (ap (λ (x : TransactionId). x.source) e ∙ own) in
        let same : q.id.number ≡ (entity_at s old).next = ap (λ (x : TransactionId). x.number) e ∙ number in
        omega arith

    -- the source is in the outbox
    there : (file : Option (List ℕ)) → asked Done file ≡ None → (octets : List ℕ) × (file ≡ Some octets)
    there None e = absurd cc
    there (Some octets) e = (octets, refl)

    second-none : {X : Type 0} (a b : Option X) → option_or a b ≡ None → b ≡ None
    second-none None b e = e
    second-none (Some x) b e = absurd cc

    in-outbox : (octets : List ℕ) × (get (entity_at s old).table.sources source ≡ Some octets)
    in-outbox = there (get (entity_at s old).table.sources source) (second-none (early_refusal source destination (entity_at s old))
        (asked Done (get (entity_at s old).table.sources source)) h.accepts.allowed)

    seen-here : (t : Side) → put_at (at t (seen old)) p ≡ with_octets (entity_at t old).config.checksum_kind p (get (entity_at t old).table.sources source)
    seen-here One = refl
    seen-here Two = refl

    pub found-now : put_of (seen new) h.id ≡ Some (next_put source destination (entity_at s old))
    found-now =
        let e = entity_at s old in
        let o : List ℕ = in-outbox.0 in
        let file : get e.table.sources source ≡ Some o = in-outbox.1 in
        let side : side_of h.id.source (seen old) ≡ s = ap (λ (n : ℕ). side_of n (seen old)) own ∙ side-own old sound s in
        let with : with_octets e.config.checksum_kind p (get e.table.sources source)
        ≡ Some (record { id = h.id; source = source; destination = destination; octets = o; checksum_kind = e.config.checksum_kind }) =
        ap (with_octets e.config.checksum_kind p) file in
        let octets : octets_in e.table.sources source ≡ o = ap (λ (f : Option (List ℕ)). unwrap_or f []) file in
        put-last (seen old) (seen new) p (sends-one old new sound goes-at) (sends-two old new sound goes-at) h.puts fresh
        ∙ ap (λ t. put_at (at t (seen old)) p) side ∙ seen-here s ∙ with
        ∙ ap (λ (l : List ℕ). Some (record { id = h.id; source = source; destination = destination; octets = l; checksum_kind = e.config.checksum_kind })) (sym octets)
        ∙ ap (λ (i : TransactionId). Some (record { id = i; source = source; destination = destination; octets = octets_in e.table.sources source; checksum_kind = e.config.checksum_kind }))
        h.accepts.is_next

    numbers-now : (t : Side) (q : AcceptedPut) → Contains new.puts q → q.id.source ≡ (entity_at t new).config.entity → q.id.number < (entity_at t new).next
    numbers-now t q c is =
        elim (in-either old.puts (p ∷ []) q (subst (λ (l : List AcceptedPut). Contains l q) h.puts c)) [
          | inl before ↦ number-kept old new sound goes-at t q before is
          | inr last ↦ (let e : q ≡ p = is-one last in below-next t q e is)
        ]
      where
        is-one : Contains (p ∷ []) q → q ≡ p
        is-one (zero, low, e) = sym e
        is-one (suc k, low, e) = absurd (omega (arith, low))

        below-next : (t : Side) (q : AcceptedPut) → q ≡ p → q.id.source ≡ (entity_at t new).config.entity → q.id.number < (entity_at t new).next
        below-next t q e is = both (λ t. q.id.source ≡ (entity_at t new).config.entity → q.id.number < (entity_at t new).next) s
            (λ _. (let n : q.id.number ≡ (entity_at s old).next = ap (λ (x : AcceptedPut). x.id.number) e ∙ number in
            let up : (entity_at s new).next ≡ (entity_at s old).next + 1 = ap (λ (x : EntityState). x.next) h.accepts.opened in omega arith))
            (λ theirs. absurd (apart old sound s (sym own ∙ sym (ap (λ (x : AcceptedPut). x.id.source) e) ∙ theirs ∙ ap (λ x. x.entity) (goes-at (other s)).config)))
            t is

    pub put-moves : Moves old new
    put-moves = record {
      sides = only-entity s old new sound h.links (goes-at s) (λ heard first k. laws.put (put_of (seen new)) heard first source destination h.id (entity_at s old)
          (entity_at s new) h.accepts found-now k);
      puts = record {
        finds = puts-more (seen old) (seen new) (p ∷ []) (sends-one old new sound goes-at) (sends-two old new sound goes-at) h.puts;
        numbers = numbers-now;
      };
    }

  -- ---- what is sent
  -- the entity of a station was served
  served-goes : (s : Side) (stored : Stored) → entity_at s new ≡ served stored (turn (entity_at s old)) (entity_at s old) → GoesOn (entity_at s old) (entity_at s new)
  served-goes s stored e = subst (λ (x : EntityState). GoesOn (entity_at s old) x) (sym e) (laws.served_on stored (entity_at s old))

  served-kept : (s : Side) (stored : Stored) → entity_at s new ≡ served stored (turn (entity_at s old)) (entity_at s old) → (heard : List (List ℕ)) (first : FileMap) →
      IsSoundEntity (put_of (seen new)) heard first (entity_at s old) → IsSoundEntity (put_of (seen new)) heard first (entity_at s new)
  served-kept s stored e heard first k =
      subst (λ (x : EntityState). IsSoundEntity (put_of (seen new)) heard first x) (sym e) (laws.served_by (put_of (seen new)) heard first stored (entity_at s old) k)

  pub failed-moves : (s : Side) → FailsSource s old new → Moves old new
  failed-moves s h = moves-kept old new sound (only-entity s old new sound h.links (served-goes s Refused h.served) (served-kept s Refused h.served)) h.counts.puts

  -- the other side, if only what one side sent grew
  unheard : (s : Side) → KeepsMarks s old new → delivered_from s new ≡ delivered_from s old → SideMoves (other s) s old new
  unheard s k same =
      let back : (l : Lane) → way_from (other s) l new ≡ way_from (other s) l old = back-marks s old new k in
      resting (other s) s old new (ways-kept (other s) old new (sound (other s)).ways back) (sent-kept (other s) old new back) same (ap (λ x. x.entity.state) k.spares.station)

  -- a lane on which something happened, and the other one, which is as it was
  ways-now : (s : Side) (l : Lane) → IsOneWay (way_from s l new) → KeepsOther s l old new → AreWays s new
  ways-now s l way same = either-lane (λ m. IsOneWay (way_from s m new)) l way (subst IsOneWay (sym same) ((sound s).ways (other_lane l)))

  pub sent-moves : (s : Side) → SendsOne s old new → Moves old new
  sent-moves s h =
      let e = entity_at s old in
      let l : Lane = next_lane e in
      let this : SideMoves s (other s) old new = record {
        goes = served-goes s Done h.served;
        ways = ways-now s l h.sends.way h.other;
        texts = turn_octets (turn e) e ∷ [];
        sent = put-in-lane l (λ m. pdus_sent (way_from s m old)) (λ m. pdus_sent (way_from s m new)) (turn_octets (turn e) e ∷ []) h.sends.pdus (ap pdus_sent h.other);
        says = λ p heard first is x c h2 v spelled. laws.sends p heard first e h2 v is h.spells (subst (λ (l : List ℕ). SpellsPdu h2 v l) (is-it x (turn_octets (turn e) e) c) spelled);
        more = [];
        delivered = none-behind (delivered_from (other s) old) (delivered_from (other s) new) (delivered-kept (other s) old new (back-marks s old new h.marks));
        kept = λ heard first true_ k. served-kept s Done h.served heard first k;
      } in
      let same : delivered_from s new ≡ delivered_from s old =
      lanes-same (λ m. pdus_delivered (way_from s m old)) (λ m. pdus_delivered (way_from s m new))
      (either-lane (λ m. pdus_delivered (way_from s m new) ≡ pdus_delivered (way_from s m old)) l h.sends.delivered (ap pdus_delivered h.other)) in
      moves-kept old new sound (each-side s old new this (unheard s h.marks same)) h.marks.counts.puts
    where
      is-it : (x y : List ℕ) → Contains (y ∷ []) x → x ≡ y
      is-it x y (zero, low, e) = sym e
      is-it x y (suc k, low, e) = absurd (omega (arith, low))

  pub filled-moves : (s : Side) → Fills s old new → Moves old new
  filled-moves s h =
      let sent : sent_from s new ≡ sent_from s old =
      lanes-same (λ m. pdus_sent (way_from s m old)) (λ m. pdus_sent (way_from s m new)) (λ m. (h.sends m).pdus ∙ append-nil (pdus_sent (way_from s m old))) in
      let same : delivered_from s new ≡ delivered_from s old =
      lanes-same (λ m. pdus_delivered (way_from s m old)) (λ m. pdus_delivered (way_from s m new)) (λ m. (h.sends m).delivered) in
      let this : SideMoves s (other s) old new =
      resting s (other s) old new (λ m. (h.sends m).way) sent (delivered-kept (other s) old new (back-marks s old new h.marks)) (ap (λ x. x.state) h.entity) in
      moves-kept old new sound (each-side s old new this (unheard s h.marks same)) h.marks.counts.puts

  -- ---- frames
  -- one that is lost, struck or damaged
  pub lost-moves : (s : Side) (l : Lane) → LosesFrame s l old new → Moves old new
  lost-moves s l h =
      let back : (m : Lane) → way_from (other s) m new ≡ way_from (other s) m old = back-loses s l old new h in
      let this : SideMoves s (other s) old new =
      resting s (other s) old new (λ m. (h.sends m).way) (loses-sent s l old new h) (delivered-kept (other s) old new back) (ap (λ x. x.entity.state) h.station) in
      let that : SideMoves (other s) s old new =
      resting (other s) s old new (ways-kept (other s) old new (sound (other s)).ways back) (sent-kept (other s) old new back) (loses-delivered s l old new h) (ap (λ (c : Counted). c.state) h.entity) in
      moves-kept old new sound (each-side s old new this that) h.counts.puts

  -- these PDUs were heard, in turn
  one-heard : (p : TransactionId → Option Put) (heard : List (List ℕ)) (first : FileMap) → FindsById p → (pdu : List ℕ) (a b : Counted) → HearsPdu pdu a b → ComesTrue a.state.config.peer p heard pdu →
      IsSoundEntity p heard first a.state → IsSoundEntity p heard first b.state
  one-heard p heard first ids pdu a b (inl h) t k = laws.heard p heard first pdu a b ids t h k
  one-heard p heard first ids pdu a b (inr d) t k = laws.dropped p heard first pdu d.0 a b d.1 k

  one-goes : (pdu : List ℕ) (a b : Counted) → HearsPdu pdu a b → GoesOn a.state b.state
  one-goes pdu a b (inl h) = laws.heard_on pdu a b h
  one-goes pdu a b (inr d) = laws.dropped_on pdu d.0 a b d.1

  all-goes : (pdus : List (List ℕ)) (a b : Counted) → HearsAll pdus a b → GoesOn a.state b.state
  all-goes [] a b e = goes-same a.state b.state (ap (λ (x : Counted). x.state) e)
  all-goes (pdu ∷ pdus) a b (mid, here, rest) = goes-both a.state mid.state b.state (one-goes pdu a mid here) (all-goes pdus mid b rest)

  all-heard : (p : TransactionId → Option Put) (heard : List (List ℕ)) (first : FileMap) → FindsById p → (pdus : List (List ℕ)) (a b : Counted) → HearsAll pdus a b →
      ((x : List ℕ) → Contains pdus x → ComesTrue a.state.config.peer p heard x) →
      IsSoundEntity p heard first a.state → IsSoundEntity p heard first b.state
  all-heard p heard first ids [] a b e t k = subst (λ (x : Counted). IsSoundEntity p heard first x.state) (sym e) k
  all-heard p heard first ids (pdu ∷ pdus) a b (mid, here, rest) t k =
      let g = one-goes pdu a mid here in
      let peer : mid.state.config.peer ≡ a.state.config.peer = ap (λ c. c.peer) g.config in
      all-heard p heard first ids pdus mid b rest
      (λ x c. subst (λ (n : ℕ). ComesTrue n p heard x) (sym peer) (t x (suc c.0, (let n = c.0 in let low : n < length pdus = c.1 in omega arith), c.2)))
      (one-heard p heard first ids pdu a mid here (t pdu (0, omega arith, refl)) k)

  pub delivered-moves : (s : Side) (l : Lane) → DeliversFrame s l old new → Moves old new
  delivered-moves s l h =
      let back : (m : Lane) → way_from (other s) m new ≡ way_from (other s) m old = back-delivers s l old new h in
      let this : SideMoves s (other s) old new =
      resting s (other s) old new (ways-now s l h.hears.way (other-delivers s l old new h)) (delivers-sent s l old new h) (delivered-kept (other s) old new back) (ap (λ x. x.entity.state) h.station) in
      let that : SideMoves (other s) s old new = record {
        goes = all-goes h.given (station_at (other s) old).entity (station_at (other s) new).entity h.heard;
        ways = ways-kept (other s) old new (sound (other s)).ways back;
        texts = [];
        sent = none-behind (sent_from (other s) old) (sent_from (other s) new) (sent-kept (other s) old new back);
        says = λ p heard first is x c. absurd (none-in x c);
        more = h.hears.more;
        delivered = delivered-more s l old new h;
        kept = λ heard first true_ k. all-heard (put_of (seen new)) heard first (puts-by-id (seen new)) h.given (station_at (other s) old).entity (station_at (other s) new).entity h.heard
            (λ x c. true_ x (laws.in_whole h.hears.more h.given x h.hears.part c)) k;
      } in
      moves-kept old new sound (each-side s old new this that) h.counts.puts
