-- Two ports that are joined by their wires, in turns.
use Rattle.std.specs.Prelude.{◌≡◌, ◌⊎◌, ◌<◌, ◌≤◌, ℕ, zero, suc, ◌+◌, Some, None}
use Rattle.cfdp_header.specs.declared.value.TransactionId.{TransactionId}
use Rattle.cfdp_directives.specs.declared.user.phase.Phase.TheVariants.{Closed}
use Rattle.cfdp_entity.specs.Entity.{phase_told}
use Rattle.cfdp_station.specs.Station.{StationState}
use Rattle.cfdp_port.specs.Calls.{WireCall}
use Rattle.cfdp_port.specs.Port.{PortState}
use Rattle.cfdp_port.specs.Turn.{HearsAll, Sends, SendsInPart}

pub record PairState (W : Type 0) : Type 0 where
  pub one : PortState W
  pub two : PortState W

abbrev pub pair : {W : Type 0} → (one two : PortState W) → PairState W
pair one two = record { one = one; two = two }

-- The transaction is closed at the first station; if the second heard of it, it has it closed.
abbrev pub IsClosed : TransactionId → (one two : StationState) → Type 0
IsClosed id one two = (phase_told id one.entity.state.table ≡ Some Closed)
    × ((phase_told id two.entity.state.table ≡ None)
    ⊎ (phase_told id two.entity.state.table ≡ Some Closed))

module _ {W : Type 0} (Steps : W → WireCall → W → Type 0) where
  -- The first port sent, then the second one, and then each took what came.
  pub record TakesTurn (now : ℕ) (old new : PairState W) : Type 0 where
    pub one : PortState W
    pub two : PortState W
    pub one_sends : Sends Steps now old.one one
    pub two_sends : Sends Steps now old.two two
    pub one_hears : HearsAll Steps one new.one
    pub two_hears : HearsAll Steps two new.two

  -- A port that must send found no memory, and there the turn ended.
  abbrev pub TurnsInPart : (now : ℕ) → (old new : PairState W) → Type 0
  TurnsInPart now old new =
      (SendsInPart now old.one new.one × (new.two ≡ old.two))
      ⊎ (Sends Steps now old.one new.one × SendsInPart now old.two new.two)

  module _ (id : TransactionId) where
    -- So many turns, numbered from 1 on; before each the transaction must have been open.
    abbrev pub Turns : ℕ → (old new : PairState W) → Type 0
    Turns zero old new = new ≡ old
    Turns (suc count) old new = (mid : PairState W) × Turns count old mid
        × (IsClosed id mid.one.station mid.two.station → ⊥) × TakesTurn (count + 1) mid new

    -- Turns, until the transaction was closed so, and at most so many.
    pub record RunsTurns (most : ℕ) (old new : PairState W) : Type 0 where
      pub count : ℕ
      pub turns : Turns count old new
      pub ends : (IsClosed id new.one.station new.two.station × (count ≤ most)) ⊎ (count ≡ most)

    -- The next of these turns ended, since there was no memory.
    pub record RunsInPart (most : ℕ) (old new : PairState W) : Type 0 where
      pub count : ℕ
      pub few : count < most
      pub last : PairState W
      pub turns : Turns count old last
      pub unclosed : IsClosed id last.one.station last.two.station → ⊥
      pub ends : TurnsInPart (count + 1) last new
