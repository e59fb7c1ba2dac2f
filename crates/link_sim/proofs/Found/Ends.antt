-- A put's transaction rests if the world is settled, and what will arrive is on its way.
use Rattle.std.proofs.Common.{◌≡◌, ℕ, suc, ◌<◌, arith, length, List, [], ◌∷◌, ◌++◌, Option, Some, None, inl, inr, refl, sym, ap, subst, ◌∙◌}
use Rattle.std.specs.Prelude.{Contains}
use Rattle.std.proofs.lemmas.List.Elements.{Contains-append_cases}
use Rattle.aos_frame.specs.declared.config.Lane.TheVariants.{Directives, Data}
use Rattle.cfdp_directives.proofs.Puts.{Contains-append_left, Contains-append_right}
use Rattle.cfdp_directives.specs.User.Put.{Put}
use Rattle.cfdp_sender.specs.Due.{sender_due}
use Rattle.cfdp_receiver.specs.Due.{receiver_due}
use Rattle.cfdp_receiver.specs.State.{ReceiverState}
use Rattle.cfdp_entity.specs.Entity.{EntityState}
use Rattle.cfdp_entity.specs.Seen.{Seen, Sends, Receives}
use Rattle.cfdp_entity.specs.Table.{record_of}
use Rattle.station_pair.specs.declared.side.Side.{Side}
use Rattle.link_sim.specs.Between.{of_id, IsReceiverIn, AreSpelled}
use Rattle.link_sim.specs.Found.{HasExchange}
use Rattle.link_sim.specs.OneWay.{OneWayState, on_way, arriving, IsOneWay}
use Rattle.link_sim.specs.Runs.{Exchange}
use Rattle.link_sim.specs.Settling.{IsSettled}
use Rattle.station_pair.specs.Stations.{other}
use Rattle.link_sim.specs.Sound.{IsSound}
use Rattle.link_sim.specs.Stages.{IsAtRest, NothingDue}
use Rattle.link_sim.specs.World.State.{AreRested, AreWays, WorldState, arriving_from, entity_at, on_way_from, way_from}
use Rattle.link_sim.proofs.OnWay.ArrivingWorld.{arriving-or}
use Rattle.link_sim.proofs.Clean.Ends.{none-of, rests-of, no-pdus}
use Rattle.link_sim.proofs.Clean.Puts.{stands-at}
use Rattle.link_sim.proofs.OnWay.World.{settled-on-way}

-- if nothing is on its way, nothing will arrive
none-arrives : (w : OneWayState) → IsOneWay w → on_way w ≡ [] → arriving w ≡ []
none-arrives w is none = elim (arriving-or w is) [
  | inl e ↦ sym e ∙ none
  | inr o ↦ (let bad : [] ≡ o.first ∷ arriving w = sym none ∙ o.is in absurd cc)
]

pub none-arrive : (s : Side) (w : WorldState) → AreWays s w → on_way_from s w ≡ [] → arriving_from s w ≡ []
none-arrive s w are none =
    let parts = both-empty (on_way (way_from s Directives w)) (on_way (way_from s Data w)) none in
    ap (λ l. l ++ arriving (way_from s Data w)) (none-arrives (way_from s Directives w) (are Directives) parts.0) ∙ none-arrives (way_from s Data w) (are Data) parts.1
  where
    both-empty : (xs ys : List (List ℕ)) → xs ++ ys ≡ [] → (xs ≡ []) × (ys ≡ [])
    both-empty [] ys e = (refl, e)
    both-empty (x ∷ xs) ys e = absurd cc

module _ (s : Side) (put : Put) (w : WorldState) (sound : IsSound w) (e : Exchange) (h : HasExchange s put w e) where
  abbrev mine : EntityState
  mine = entity_at s w

  abbrev theirs : EntityState
  theirs = entity_at (other s) w

  -- ---- a settled world
  rests-by : (o : Option ReceiverState) (q : Option Seen) → IsSettled w → record_of put.id theirs.table.records ≡ q → IsReceiverIn q o → NothingDue o
  rests-by None q settled at is = tt
  rests-by (Some r) None settled at is = absurd is
  rests-by (Some r) (Some (Sends y)) settled at is = absurd is
  rests-by (Some r) (Some (Receives t m)) settled at is =
      let quiet : receiver_due t ≡ None = none-of (receiver_due t) (rests-of theirs (settled (other s)).rests put.id (Receives t m) (stands-at put.id theirs.table.records (Receives t m) at)) in
      ap receiver_due is ∙ quiet

  pub settled-rests : IsSettled w → ((t : Side) → AreRested t w) → IsAtRest e
  settled-rests settled rested =
      let none : (t : Side) → arriving_from t w ≡ [] = λ t. none-arrive t w (sound t).ways (settled-on-way t w (sound t).ways (rested t) (settled t)) in
      let forth : h.forth ≡ [] = no-pdus h.forth (subst (λ (l : List (List ℕ)). AreSpelled l h.forth) (none s) h.spelled) in
      let back : h.back ≡ [] = no-pdus h.back (subst (λ (l : List (List ℕ)). AreSpelled l h.back) (none (other s)) h.spelled_back) in
      record {
        sender = none-of (sender_due e.sender) (rests-of mine (settled s).rests put.id (Sends e.sender) (stands-at put.id mine.table.records (Sends e.sender) h.is.is_sender));
        receiver = rests-by e.receiver (record_of put.id theirs.table.records) settled refl h.is.is_receiver;
        forth = sym h.is.is_forth ∙ ap (of_id put.id) forth;
        back = sym h.is.is_back ∙ ap (of_id put.id) back;
      }

-- what will arrive is on its way
among-lane : (w : OneWayState) → IsOneWay w → (text : List ℕ) → Contains (arriving w) text → Contains (on_way w) text
among-lane w is text c = elim (arriving-or w is) [
  | inl e ↦ subst (λ l. Contains l text) (sym e) c
  | inr o ↦ subst (λ l. Contains l text) (sym o.is) (suc c.0, (let n = c.0 in let low : n < length (arriving w) = c.1 in omega (arith, low)), c.2)
]

pub arriving-among : (s : Side) (w : WorldState) → IsSound w → (text : List ℕ) → Contains (arriving_from s w) text → Contains (on_way_from s w) text
arriving-among s w sound text c =
    let dirs : OneWayState = way_from s Directives w in
    let file_data : OneWayState = way_from s Data w in
    elim (Contains-append_cases (arriving dirs) (arriving file_data) text c) [
      | inl a ↦ Contains-append_left (on_way dirs) (on_way file_data) text (among-lane dirs ((sound s).ways Directives) text a)
      | inr b ↦ Contains-append_right (on_way dirs) (on_way file_data) text (among-lane file_data ((sound s).ways Data) text b)
    ]
