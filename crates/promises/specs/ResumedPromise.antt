-- What holds of a file that left its spool as sent, where stations resume.
use Rattle.std.specs.Prelude.{◌≡◌, ◌⊎◌, ◌≤◌, ℕ, List, map, count_by, slice_get, Some, Contains}
use Rattle.cfdp_header.specs.declared.value.TransactionId.{TransactionId}
use Rattle.cfdp_header.specs.Ids.{same_id}
use Rattle.cfdp_directives.specs.User.Put.{Put}
use Rattle.cfdp_sender.specs.State.{SenderState}
use Rattle.cfdp_entity.specs.Seen.{Sends}
use Rattle.cfdp_entity.specs.Table.{Entry}
use Rattle.any_order.specs.Calls.{Side, other}
use Rattle.cfdp_service.specs.Clerk.{IsAccepted}
use Rattle.promises.specs.Promise.{IsSent, Lies}
use Rattle.promises.specs.Resuming.{BothLives, calls_in, life_of, stations_of}

-- Among the records that came back is one of this transaction, which sends the file of this name
-- under its own name.
pub record CameBack (back : List Entry) (name : List ℕ) (id : TransactionId) : Type 0 where
  pub place : ℕ
  pub x : SenderState
  pub is : slice_get back place ≡ Some (id, Sends x)
  pub source : x.source ≡ name
  pub destination : x.destination ≡ name

-- Files of these names were sent from this side in the life that was its present one then, and lie
-- at the other side now. There is a put of each, in this order, and no two of these puts are of one
-- transaction. Each was wished and accepted by the calls of that life, or came back as that life
-- began. By then the station had indicated it complete.
pub record AreDelivered (s : Side) (names : List (List ℕ)) (then now : BothLives) : Type 0 where
  pub puts : List Put
  pub named : map (λ put. put.source) puts ≡ names
  pub apart : (id : TransactionId) → count_by (λ put. same_id put.id id) puts ≤ 1
  pub opened : (put : Put) → Contains puts put
      → IsAccepted (calls_in (life_of s then)) put.source put.id
      ⊎ CameBack (life_of s then).back put.source put.id
  pub sent : (put : Put) → Contains puts put → IsSent s put.source put (stations_of then)
  pub lie : (put : Put) → Contains puts put → Lies (other s) put (stations_of now)
