-- What a clean world says of its puts: each stays on the course of a link without losses, so each PDU on its
-- way says the truth of one.
use Rattle.std.proofs.Common.{◌≡◌, ℕ, zero, suc, ◌<◌, ◌≤◌, cond, true, false, List, [], ◌∷◌, ◌++◌, length, slice_get, Option, Some, None, ◌⊎◌, inl, inr, refl, sym, ap, subst, ◌∙◌, if◌then◌else◌, arith}
use Rattle.std.specs.Prelude.{Contains, IsSome}
use Rattle.std.specs.FinMap.{get}
use Rattle.std.specs.List.{list_any}
use Rattle.std.proofs.lemmas.Bool.{or_parts}
use Rattle.cfdp_header.specs.declared.value.Header.{Header}
use Rattle.cfdp_header.specs.declared.value.TransactionId.{TransactionId}
use Rattle.cfdp_header.specs.Ids.{same_id}
use Rattle.cfdp_header.proofs.Ids.{same_id-itself}
use Rattle.cfdp_directives.specs.Pdu.Content.{Content, FileData, Metadata, Eof, Finished, Ack, Nak, Prompt, KeepAlive}
use Rattle.cfdp_directives.specs.Pdu.Direction.{direction_of}
use Rattle.cfdp_directives.specs.Pdu.Grammar.{SpellsPdu}
use Rattle.cfdp_directives.specs.User.Put.{Put, IsTruthful, IsOfPut, SaysTruth, SomePdu, IsMetadataOf, IsEofOf, Brings}
use Rattle.cfdp_receiver.specs.Sound.{IsReceivable}
use Rattle.cfdp_receiver.specs.Steps.{is_supported}
use Rattle.cfdp_entity.specs.Entity.{EntityState}
use Rattle.cfdp_entity.specs.Seen.{Seen, Sends, Receives}
use Rattle.cfdp_entity.specs.Sending.{SendsPut, SendsItsPut}
use Rattle.cfdp_entity.specs.Sound.{ComesTrue}
use Rattle.cfdp_entity.specs.Table.{Entry, record_of}
use Rattle.cfdp_entity.specs.Truth.{IsTrueOf}
use Rattle.cfdp_entity.proofs.CallerLemmas.{same_id-true}
use Rattle.link_sim.specs.declared.event.AcceptedPut.{AcceptedPut}
use Rattle.station_pair.specs.declared.side.Side.{Side}
use Rattle.station_pair.specs.declared.side.Side.TheVariants.{One, Two}
use Rattle.link_sim.specs.Between.{Pdu, of_id, IsUnspoiled, IsOnCourse, AreSpelled}
use Rattle.link_sim.specs.Clean.{IsClean, IsCleanEntity, is_cancelling, is_bad}
use Rattle.link_sim.specs.EveryPut.{LosesNone, KeepCourse, StayOnCourse}
use Rattle.link_sim.specs.Exchange.{AllTrue, IsTrueForth, IsTrueBack, pauses}
use Rattle.link_sim.specs.Known.{IsDirected, IsSending, AreKnown}
use Rattle.link_sim.specs.Observed.{seen}
use Rattle.station_pair.specs.Stations.{other}
use Rattle.link_sim.specs.Sound.{IsSound}
use Rattle.link_sim.specs.Theorem.{WorldSeen, at, side_of, accepted_as, with_octets, put_by, put_of}
use Rattle.link_sim.specs.Waiting.{IsUncancelled, spoils}
use Rattle.link_sim.specs.Work.{AreWithin, IsSeenWithin, most_offset}
use Rattle.link_sim.specs.World.State.{WorldState, entity_at, on_way_from}
use Rattle.link_sim.proofs.Clean.Hears.{IsFine, IsFineForth, flag-allows, not-cancelling}
use Rattle.link_sim.proofs.Events.Keeping.{other-other}
use Rattle.link_sim.proofs.EveryPut.Routes.{either-way, directed-own, directed-peer}
use Rattle.link_sim.proofs.Clean.NotBad.{none-weaker, spoils-bad, pauses-bad}
use Rattle.link_sim.proofs.Found.Puts.{puts-by-id}
use Rattle.link_sim.proofs.Work.Within.{within-at}

-- ---- lists
pub all-from : {X : Type 0} (Is : X → Type 0) (xs : List X) → ((n : ℕ) (x : X) → slice_get xs n ≡ Some x → Is x) → AllTrue Is xs
all-from Is [] each = tt
all-from Is (x ∷ xs) each = (each 0 x refl, all-from Is xs (λ n y at. each (suc n) y at))

pub all-at : {X : Type 0} (Is : X → Type 0) (xs : List X) (n : ℕ) (x : X) → AllTrue Is xs → slice_get xs n ≡ Some x → Is x
all-at Is [] n x all at = absurd cc
all-at Is (y ∷ ys) zero x all at = let is : y ≡ x = cc in subst Is is all.0
all-at Is (y ∷ ys) (suc n) x all at = all-at Is ys n x all.1 at

pub in-front : {X : Type 0} (xs ys : List X) (n : ℕ) (x : X) → slice_get xs n ≡ Some x → slice_get (xs ++ ys) n ≡ Some x
in-front [] ys n x at = absurd cc
in-front (z ∷ xs) ys zero x at = at
in-front (z ∷ xs) ys (suc n) x at = in-front xs ys n x at

of-id-at : (Is : Content → Type 0) (id : TransactionId) (pdus : List Pdu) (n : ℕ) (p : Pdu) → AllTrue Is (of_id id pdus) → slice_get pdus n ≡ Some p → same_id id p.0.id ≡ true → Is p.1
of-id-at Is id [] n p all at same = absurd cc
of-id-at Is id (q ∷ pdus) zero p all at same =
    let is : q ≡ p = cc in
    let own : same_id id q.0.id ≡ true = ap (λ (x : Pdu). same_id id x.0.id) is ∙ same in
    let there : AllTrue Is (q.1 ∷ of_id id pdus) = subst (λ b. AllTrue Is (if b then q.1 ∷ of_id id pdus else of_id id pdus)) own all in
    subst (λ (x : Pdu). Is x.1) is there.0
of-id-at Is id (q ∷ pdus) (suc n) p all at same =
    let rest : AllTrue Is (of_id id pdus) = elim (same_id id q.0.id) as (λ b. AllTrue Is (if b then q.1 ∷ of_id id pdus else of_id id pdus) → AllTrue Is (of_id id pdus)) [
      | true ↦ λ a. a.1
      | false ↦ λ a. a
    ] all in
    of-id-at Is id pdus n p rest at same

-- the text of a PDU among texts
pub record IsText (texts : List (List ℕ)) (p : Pdu) : Type 0 where
  pub text : List ℕ
  pub among : Contains texts text
  pub spells : SpellsPdu p.0 p.1 text

pub text-at : (texts : List (List ℕ)) (pdus : List Pdu) (n : ℕ) (p : Pdu) → AreSpelled texts pdus → slice_get pdus n ≡ Some p → IsText texts p
text-at [] [] n p s at = absurd cc
text-at [] (q ∷ pdus) n p s at = absurd s
text-at (t ∷ texts) [] n p s at = absurd s
text-at (t ∷ texts) (q ∷ pdus) zero p s at =
    let is : q ≡ p = cc in
    record { text = t; among = (0, omega arith, refl); spells = subst (λ (x : Pdu). SpellsPdu x.0 x.1 t) is s.0 }
text-at (t ∷ texts) (q ∷ pdus) (suc n) p s at =
    let i : IsText texts p = text-at texts pdus n p s.1 at in
    let k : ℕ = i.among.0 in
    let low : k < length texts = i.among.1 in
    record { text = i.text; among = (suc k, omega (arith, low), i.among.2); spells = i.spells }

-- the place of a record
pub record StandsAt (id : TransactionId) (records : List Entry) (s : Seen) : Type 0 where
  pub place : ℕ
  pub entry : Entry
  pub at : slice_get records place ≡ Some entry
  pub own : same_id id entry.0 ≡ true
  pub is : entry.1 ≡ s

pub stands-at : (id : TransactionId) (records : List Entry) (s : Seen) → record_of id records ≡ Some s → StandsAt id records s
stands-at id [] s found = absurd cc
stands-at id (e ∷ es) s found =
    elim (same_id id e.0) as (λ b. same_id id e.0 ≡ b → cond b (Some e.1) (record_of id es) ≡ Some s → StandsAt id (e ∷ es) s) [
      | true ↦ λ own h. record { place = 0; entry = e; at = refl; own = own; is = cc }
      | false ↦ λ own h. (let r : StandsAt id es s = stands-at id es s h in record { place = suc r.place; entry = r.entry; at = r.at; own = r.own; is = r.is })
    ] refl found

-- ---- an entity that is clean is unspoiled
uncancelled-seen : (id : TransactionId) (s : Seen) → is_cancelling (id, s) ≡ false → IsUncancelled (Some s)
uncancelled-seen id (Sends x) none = not-cancelling x.phase none
uncancelled-seen id (Receives r m) none = tt

uncancelled-of : (id : TransactionId) (records : List Entry) → list_any is_cancelling records ≡ false → IsUncancelled (record_of id records)
uncancelled-of id [] none = tt
uncancelled-of id (e ∷ es) none =
    let parts = or_parts (is_cancelling e) (list_any is_cancelling es) none in
    elim (same_id id e.0) as (λ b. IsUncancelled (cond b (Some e.1) (record_of id es))) [
      | true ↦ uncancelled-seen e.0 e.1 parts.0
      | false ↦ uncancelled-of id es parts.1
    ]

pub unspoiled : (id : TransactionId) (mine theirs : EntityState) → IsCleanEntity mine → IsCleanEntity theirs → IsUnspoiled true id mine theirs
unspoiled id mine theirs a b = record {
  told = none-weaker is_bad (spoils id) (spoils-bad id) mine.table.told a.told;
  told_there = none-weaker is_bad (spoils id) (spoils-bad id) theirs.table.told b.told;
  uncancelled = uncancelled-of id mine.table.records a.uncancelled;
  heard = λ t. a.heard;
  heard_there = λ t. b.heard;
  awake = λ t. none-weaker is_bad (pauses id) (pauses-bad id) mine.table.told a.told;
  awake_there = λ t. none-weaker is_bad (pauses id) (pauses-bad id) theirs.table.told b.told;
}

pub loses-none : (w : WorldState) → IsClean w → LosesNone w
loses-none w clean s = record { none_lost = (clean s).none_lost; memory = (clean s).read 11 }

-- ---- the PDUs on their way
-- Those of a station and those to it, in its words.
pub record IsCourseFrom (s : Side) (w : WorldState) : Type 0 where
  pub forth : List Pdu
  pub back : List Pdu
  pub spelled : AreSpelled (on_way_from s w) forth
  pub spelled_back : AreSpelled (on_way_from (other s) w) back
  pub known : AreKnown (put_of (seen w)) (entity_at s w) (entity_at (other s) w) forth back
  pub puts : StayOnCourse s w forth back
  pub puts_back : StayOnCourse (other s) w back forth

pub course-from : (s : Side) (w : WorldState) → KeepCourse w → IsCourseFrom s w
course-from One w k = record { forth = k.from_one; back = k.from_two; spelled = k.spelled_one; spelled_back = k.spelled_two; known = k.known; puts = k.puts_of_one; puts_back = k.puts_of_two }
course-from Two w k = record {
  forth = k.from_two;
  back = k.from_one;
  spelled = k.spelled_two;
  spelled_back = k.spelled_one;
  known = (k.known.1, k.known.0);
  puts = k.puts_of_two;
  puts_back =
      k.puts_of_one;
}

-- a put and the PDUs of its station, if its world is clean
pub on-course : (s : Side) (w : WorldState) (forth back : List Pdu) → IsClean w → StayOnCourse s w forth back → (put : Put) → put_of (seen w) put.id ≡ Some put → put.id.source
    ≡ (entity_at s w).config.entity →
    IsOnCourse true put (entity_at s w) (entity_at (other s) w) forth back
on-course s w forth back clean stay put found own =
    stay put found own true (λ t. loses-none w clean) (unspoiled put.id (entity_at s w) (entity_at (other s) w) (clean s).entity (clean (other s)).entity)

-- ---- a put can be received
kind-there : (s : Side) (w : WorldState) → (at s (seen w)).checksum_kind ≡ (entity_at s w).config.checksum_kind
kind-there One w = refl
kind-there Two w = refl

kind-octets : (kind : ℕ) (q : AcceptedPut) (o : Option (List ℕ)) (put : Put) → with_octets kind q o ≡ Some put → put.checksum_kind ≡ kind
kind-octets kind q None put e = absurd cc
kind-octets kind q (Some octets) put e =
    let is : record { id = q.id; source = q.source; destination = q.destination; octets = octets; checksum_kind = kind } ≡ put = cc in
    sym (ap (λ (x : Put). x.checksum_kind) is)

kind-by : (w : WorldSeen) (o : Option AcceptedPut) (put : Put) → put_by w o ≡ Some put → (s : Side) × (put.checksum_kind ≡ (at s w).checksum_kind)
kind-by w None put e = absurd cc
kind-by w (Some q) put e =
    let s : Side = side_of q.id.source w in
    (s, kind-octets (at s w).checksum_kind q (get (at s w).sources q.source) put e)

same-put : (p q : Put) → Some p ≡ Some q → p ≡ q
same-put p q is = cc

module _ (w : WorldState) (sound : IsSound w) (sizes : (s : Side) → AreWithin most_offset (entity_at s w).table.records) where
  sender-size : (s : Side) (put : Put) → put_of (seen w) put.id ≡ Some put → (o : Option Seen) → record_of put.id (entity_at s w).table.records ≡ o → IsSending o → length put.octets ≤ most_offset
  sender-size s put found None is sends = absurd sends
  sender-size s put found (Some (Receives r m)) is sends = absurd sends
  sender-size s put found (Some (Sends x)) is sends =
      let e : EntityState = entity_at s w in
      let there : StandsAt put.id e.table.records (Sends x) = stands-at put.id e.table.records (Sends x) is in
      let within = within-at most_offset e.table.records there.place there.entry (sizes s) there.at in
      let small : x.size ≤ most_offset = (subst (IsSeenWithin most_offset) there.is within).size in
      let its = (sound s).entity.sends.sends there.place there.entry there.at in
      let own : SendsPut (put_of (seen w)) e.table.sources there.entry.0 x = subst (SendsItsPut (put_of (seen w)) e.table.sources there.entry.0) there.is its in
      let id : put.id ≡ there.entry.0 = same_id-true put.id there.entry.0 there.own in
      let same : own.put ≡ put = same-put own.put put (sym own.is_put ∙ ap (put_of (seen w)) (sym id) ∙ found) in
      subst (λ n. n ≤ most_offset) (own.sender.size ∙ ap (λ (p : Put). length p.octets) same) small

  pub receivable : (s : Side) (forth back : List Pdu) → AreKnown (put_of (seen w)) (entity_at s w) (entity_at (other s) w) forth back → (put : Put) → put_of (seen w) put.id ≡ Some put → put.id.source
      ≡ (entity_at s w).config.entity → IsReceivable put
  receivable s forth back known put found own =
      let k = kind-by (seen w) (accepted_as (seen w).puts put.id) put found in
      let kind : put.checksum_kind ≡ (entity_at k.0 w).config.checksum_kind = k.1 ∙ kind-there k.0 w in
      let some : IsSome (put_of (seen w) put.id) = subst IsSome (sym found) refl in
      record {
        supported = ap is_supported kind ∙ (sound k.0).entity.config.sending.checksum_kind;
        size = sender-size s put found (record_of put.id (entity_at s w).table.records) refl (known.0.sends put.id some own);
      }

-- ---- what comes is true of its put
module _ (put_of : TransactionId → Option Put) (heard : List (List ℕ)) (by_id : (id : TransactionId) (put : Put) → put_of id ≡ Some put → put.id ≡ id) (peer : ℕ) (pdu : List ℕ)
    (among : Contains heard pdu) (h : Header) where
  some-pdu : (P : Header → Content → Type 0) (v : Content) → SpellsPdu h v pdu → P h v → SomePdu P heard
  some-pdu P v s p = (among.0, pdu, among.1, among.2, (h, (v, (s, p))))

  true-as : (v : Content) (put : Put) → IsOfPut peer put_of h.id v → put_of h.id ≡ Some put → (h.id ≡ put.id) × IsTruthful put v
  true-as v put t is = (sym (by_id h.id put is), subst (λ p. IsTruthful p v) (same-put t.0 put (sym t.1.1 ∙ is)) t.1.2)

  pub true-of : (v : Content) → SpellsPdu h v pdu → SaysTruth peer put_of h.id v → IsTrueOf put_of heard h.id v
  true-of (FileData offset bytes) s t = λ put is. (let a = true-as (FileData offset bytes) put t is in (a.1, λ n low high. some-pdu (Brings put n) (FileData offset bytes) s (a.0, low, high, a.1)))
  true-of (Metadata kind size source destination options) s t = λ put is.
      (let a = true-as (Metadata kind size source destination options) put t is in (a.1, some-pdu (IsMetadataOf put) (Metadata kind size source destination options) s a))
  true-of (Eof condition checksum size tlvs) s t = λ put is. (let a = true-as (Eof condition checksum size tlvs) put t is in
      (a.1, λ fine. some-pdu (IsEofOf put) (Eof condition checksum size tlvs) s (a.0, fine, a.1)))
  true-of (Finished condition delivery status tlvs) s t = λ put is. (tt, tt)
  true-of (Ack of condition status) s t = λ put is. (tt, tt)
  true-of (Nak start end pairs) s t = λ put is. (tt, tt)
  true-of (Prompt keep_alive) s t = λ put is. (tt, tt)
  true-of (KeepAlive progress) s t = λ put is. (tt, tt)

some-put : (o : Option Put) → IsSome o → (put : Put) × (o ≡ Some put)
some-put (Some put) h = (put, refl)
some-put None h = absurd cc

-- ---- a PDU on its way says the truth of its put, and that put can be received
module _ (s : Side) (w : WorldState) (sound : IsSound w) (clean : IsClean w) (sizes : (t : Side) → AreWithin most_offset (entity_at t w).table.records) (c : IsCourseFrom s w)
    (heard : List (List ℕ)) where
  pub fine-at : (n : ℕ) (p : Pdu) → slice_get c.forth n ≡ Some p → (text : List ℕ) → SpellsPdu p.0 p.1 text → ComesTrue (entity_at (other s) w).config.peer (put_of (seen w)) heard text →
      IsFine (put_of (seen w)) heard p
  fine-at n p at text spells comes =
      let there : EntityState = entity_at (other s) w in
      let d : IsDirected (put_of (seen w)) there p = all-at (IsDirected (put_of (seen w)) there) c.forth n p c.known.0.directed at in
      let found = some-put (put_of (seen w) p.0.id) d.of_put in
      let put : Put = found.0 in
      let id : put.id ≡ p.0.id = puts-by-id (seen w) p.0.id put found.1 in
      let named : put_of (seen w) put.id ≡ Some put = ap (put_of (seen w)) id ∙ found.1 in
      let own : same_id put.id p.0.id ≡ true = ap (λ i. same_id i p.0.id) id ∙ same_id-itself p.0.id in
      let says : IsFineForth put p ⊎ IsTrueBack p.1 = elim (either-way (direction_of p.1)) [
        | inl toward ↦ (let mine : put.id.source ≡ there.config.entity = ap (λ (i : TransactionId). i.source) id ∙ directed-own (put_of (seen w)) there p.0 p.1 d toward in
            let o = on-course (other s) w c.back c.forth clean c.puts_back put named mine in
            inr (of-id-at IsTrueBack put.id c.forth n p o.course.truth.true_back at own))
        | inr away ↦ (let from_peer : p.0.id.source ≡ there.config.peer = (directed-peer (put_of (seen w)) there p.0 p.1 d away).0 in
            let peer : there.config.peer ≡ (entity_at s w).config.entity = (sound (other s)).peer ∙ ap (λ t. (entity_at t w).config.entity) (other-other s) in
            let mine : put.id.source ≡ (entity_at s w).config.entity = ap (λ (i : TransactionId). i.source) id ∙ from_peer ∙ peer in
            let o = on-course s w c.forth c.back clean c.puts put named mine in
            let can : IsReceivable put = receivable w sound sizes s c.forth c.back c.known put named mine in
            inl (of-id-at (IsTrueForth put) put.id c.forth n p o.course.truth.true_forth at own, can, flag-allows p.0.large (length put.octets) (d.flag away put found.1) can.size))
      ] in
      record {
        put = put;
        is_put = found.1;
        says = says;
        truth = true-of (put_of (seen w)) heard (puts-by-id (seen w)) there.config.peer text comes.among p.0 p.1 spells (comes.says p.0 p.1 spells) put found.1;
      }
