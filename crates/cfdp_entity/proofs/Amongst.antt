-- What a table and an entity keep stays if the PDUs heard are among others, in whatever order.
use Rattle.std.proofs.Common.{ℕ, List, Option}
use Rattle.std.specs.Prelude.{Contains}
use Rattle.cfdp_header.specs.declared.value.TransactionId.{TransactionId}
use Rattle.cfdp_header.specs.Files.{FileMap}
use Rattle.cfdp_directives.specs.User.Put.{Put, SaysComplete}
use Rattle.cfdp_store.specs.Staged.{OctetMap}
use Rattle.cfdp_receiver.specs.State.{ReceiverState}
use Rattle.cfdp_receiver.specs.Sound.{Sound}
use Rattle.cfdp_receiver.proofs.Among.{some-among, full-among}
use Rattle.cfdp_entity.specs.Seen.{Seen, Sends, Receives}
use Rattle.cfdp_entity.specs.Table.{TableState}
use Rattle.cfdp_entity.specs.Telling.{TellsNoMore}
use Rattle.cfdp_entity.specs.Truth.{KnowsTruth, IsTrueTable}

module _ (own : ℕ) (p : TransactionId → Option Put) (heard others : List (List ℕ)) (among : (text : List ℕ) → Contains heard text → Contains others text)
    (still : (put : Put) (r : ReceiverState) (m : OctetMap) → Sound put heard r m → Sound put others r m) where
  knows-among : (id : TransactionId) (s : Seen) → KnowsTruth own p heard id s → KnowsTruth own p others id s
  knows-among id (Sends x) k = k
  knows-among id (Receives r m) k = record { put = k.put; is_put = k.is_put; same_id = k.same_id; not_own = k.not_own; sound = still k.put r m k.sound }

  pub true-among : (first : FileMap) (st : TableState) → IsTrueTable own p heard first st → IsTrueTable own p others first st
  true-among first st t = record {
    knows = λ place e at. knows-among e.0 e.1 (t.knows place e at);
    inbox = t.inbox;
    caused = λ id c. (let w = t.caused id c in (w.0, (w.1.0, full-among heard others among w.0 w.1.1)));
  }

pub tells-among : (own : ℕ) (heard others : List (List ℕ)) (st : TableState) → ((text : List ℕ) → Contains heard text → Contains others text) → TellsNoMore own heard st → TellsNoMore own others st
tells-among own heard others st among t = record {
  indicated = t.indicated;
  told = λ q h. some-among heard others among (SaysComplete q) (t.told q h);
}
