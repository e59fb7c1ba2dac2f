-- What a station hears of frames that come in any order, and any number of times.
use Rattle.std.specs.Prelude.{◌≡◌, ◌⊎◌, ℕ, List, Option, None}
use Rattle.aos_frame.specs.declared.config.Lane.{Lane}
use Rattle.aos_frame.specs.declared.config.LinkConfig.{LinkConfig}
use Rattle.mpdu.specs.Packets.{busy}
use Rattle.mpdu.specs.Parts.{IsPartOf}
use Rattle.link_stack.specs.AnyOrder.{AreLeft, Delivery, now_last}
use Rattle.link_stack.specs.Frames.{pdus_in}
use Rattle.cfdp_header.specs.declared.value.Header.{Header}
use Rattle.cfdp_header.specs.declared.value.TransactionId.{TransactionId}
use Rattle.cfdp_directives.specs.Pdu.Content.{Content}
use Rattle.cfdp_directives.specs.Pdu.Grammar.{SpellsPdu}
use Rattle.cfdp_directives.specs.User.Put.{Put, SaysTruth}
use Rattle.cfdp_station.specs.Station.{StationState}
use Rattle.cfdp_station.specs.Taking.{HearsAll}

-- A frame of a stream was taken: its PDUs are some, in order, of those that were put into the
-- stream, and the entity heard these and no others.
pub record HearsSent (link : LinkConfig) (old new : StationState) (last : Lane → Option Delivery)
    (d : Delivery) : Type 0 where
  pub left : AreLeft link new.up (now_last d last)
  pub pdus : List (List ℕ)
  pub sent : IsPartOf pdus (pdus_in (busy d.packets))
  pub heard : HearsAll pdus old.entity new.entity
  pub down : new.down ≡ old.down

-- Octets were taken from which no packet can come: nothing was heard.
pub record HearsNone (link : LinkConfig) (old new : StationState)
    (last : Lane → Option Delivery) : Type 0 where
  pub now : Lane → Option Delivery
  pub fewer : (lane : Lane) → (now lane ≡ last lane) ⊎ (now lane ≡ None)
  pub left : AreLeft link new.up now
  pub entity : new.entity ≡ old.entity
  pub down : new.down ≡ old.down

-- Whatever the PDU says must be true of a put of the entity `peer`.
abbrev pub IsTruthOf : (peer : ℕ) → (TransactionId → Option Put) → List ℕ → Type 0
IsTruthOf peer put_of pdu =
    (h : Header) (v : Content) → SpellsPdu h v pdu → SaysTruth peer put_of h.id v
