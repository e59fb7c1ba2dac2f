-- Exported: a transaction of which nothing is due, and nothing on its way, is at rest; and if it is at
-- rest, nothing is.
use Rattle.std.proofs.Common.{◌≡◌, ℕ, List, [], Option, Some, None, refl, sym, ap, subst, ◌∙◌}
use Rattle.cfdp_directives.specs.User.Put.{Put}
use Rattle.cfdp_receiver.specs.Due.{receiver_due}
use Rattle.cfdp_receiver.specs.State.{ReceiverState}
use Rattle.cfdp_entity.specs.Entity.{EntityState}
use Rattle.cfdp_entity.specs.Seen.{Seen, Sends, Receives}
use Rattle.cfdp_entity.specs.Table.{record_of}
use Rattle.station_pair.specs.declared.side.Side.{Side}
use Rattle.station_pair.specs.Stations.{other}
use Rattle.link_sim.specs.Between.{AreSpelled, IsReceiverIn, Pdu, of_id}
use Rattle.link_sim.specs.Found.{HasExchange}
use Rattle.link_sim.specs.Runs.{Exchange}
use Rattle.link_sim.specs.Stages.{IsAtRest, NothingDue}
use Rattle.link_sim.specs.World.State.{WorldState, arriving_from, entity_at}
use Rattle.link_sim.proofs.Events.Keeping.{both}
use Rattle.link_sim.proofs.Found.Exchanges.{spelled-same}
use Rattle.outages.specs.Spared.{IsQuiet, NothingDueIn}

module _ (s : Side) (put : Put) (w : WorldState) (e : Exchange) (has : HasExchange s put w e) where
  -- of its receiver
  receiver-quiet : (o : Option ReceiverState) (q : Option Seen) → IsReceiverIn q o → NothingDueIn q → NothingDue o
  receiver-quiet None q is none = tt
  receiver-quiet (Some r) None is none = absurd is
  receiver-quiet (Some r) (Some (Sends x)) is none = absurd is
  receiver-quiet (Some r) (Some (Receives t m)) is none = ap (λ (u : ReceiverState). receiver_due u) is ∙ none

  receiver-rests : (o : Option ReceiverState) (q : Option Seen) → IsReceiverIn q o → NothingDue o → NothingDueIn q
  receiver-rests o None is none = tt
  receiver-rests None (Some (Sends x)) is none = absurd is
  receiver-rests None (Some (Receives t m)) is none = absurd is
  receiver-rests (Some r) (Some (Sends x)) is none = absurd is
  receiver-rests (Some r) (Some (Receives t m)) is none = ap (λ (u : ReceiverState). receiver_due u) (sym is) ∙ none

  pub quiet-rests : IsQuiet put.id w → IsAtRest e
  quiet-rests q = record {
    sender = subst NothingDueIn has.is.is_sender (q.due s);
    receiver = receiver-quiet e.receiver (record_of put.id (entity_at (other s) w).table.records) has.is.is_receiver (q.due (other s));
    forth = sym has.is.is_forth ∙ q.on_way s has.forth has.spelled;
    back = sym has.is.is_back ∙ q.on_way (other s) has.back has.spelled_back;
  }

  pub rests-quiet : IsAtRest e → IsQuiet put.id w
  rests-quiet rests = record {
    due = both (λ t. NothingDueIn (record_of put.id (entity_at t w).table.records)) s (subst NothingDueIn (sym has.is.is_sender) rests.sender)
        (receiver-rests e.receiver (record_of put.id (entity_at (other s) w).table.records) has.is.is_receiver rests.receiver);
    on_way = both (λ t. (pdus : List Pdu) → AreSpelled (arriving_from t w) pdus → of_id put.id pdus ≡ []) s
        (λ pdus spelled. ap (of_id put.id) (spelled-same (arriving_from s w) pdus has.forth spelled has.spelled) ∙ has.is.is_forth ∙ rests.forth)
        (λ pdus spelled. ap (of_id put.id) (spelled-same (arriving_from (other s) w) pdus has.back spelled has.spelled_back) ∙ has.is.is_back ∙ rests.back);
  }
