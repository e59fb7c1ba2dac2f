-- What a record has become since it was committed.
use Rattle.std.specs.Prelude.{◌≡◌, ℕ, true, List, Some, slice_get}
use Rattle.std.specs.FinMap as map
use Rattle.std.specs.FinSet as set
use Rattle.cfdp_store.specs.Staged.{OctetMap}
use Rattle.cfdp_receiver.specs.declared.state.ReceiverPhase.TheVariants.{Receiving}
use Rattle.cfdp_receiver.specs.State.{ReceiverState}
use Rattle.cfdp_sender.specs.State.{transfer_of}
use Rattle.cfdp_entity.specs.Seen.{Seen, Sends, Receives}
use Rattle.cfdp_entity.specs.Table.{Entry}
use Rattle.cfdp_resuming.specs.Receiver.{IsKeptOf}

-- A receiver r, with the octets of m staged, has become s, with those of n. It knows the Metadata
-- and the EOF that r knew. While s receives, r received too, and s holds all that r held, with the
-- same octets.
pub record IsLater (r : ReceiverState) (m : OctetMap) (s : ReceiverState) (n : OctetMap)
    : Type 0 where
  pub addressing : s.addressing ≡ r.addressing
  pub metadata : IsKeptOf s.metadata r.metadata
  pub ending : IsKeptOf s.ending r.ending
  pub receives : s.phase ≡ Receiving → r.phase ≡ Receiving
  pub held : s.phase ≡ Receiving → (k : ℕ) → set.contains r.held k ≡ true
      → (set.contains s.held k ≡ true) × (map.get n k ≡ map.get m k)

-- A record has become another one. A sender sends the same file in the same way.
abbrev pub IsLaterSeen : (old new : Seen) → Type 0
IsLaterSeen (Sends x) (Sends y) = transfer_of y ≡ transfer_of x
IsLaterSeen (Receives r m) (Receives s n) = IsLater r m s n
IsLaterSeen _ _ = ⊥

-- Each record is still at its index, under its transaction, and has become another one.
abbrev pub AreLater : (old new : List Entry) → Type 0
AreLater old new = (place : ℕ) (e : Entry) → slice_get old place ≡ Some e →
    (s : Seen) × ((slice_get new place ≡ Some (e.0, s)) × IsLaterSeen e.1 s)
