-- Two ports that take turns over secured wires, at any times and whatever the network does: which
-- turns, and what is asked of what is accepted in them.
use Rattle.std.specs.Prelude.{◌≡◌, ◌+◌, ◌≤◌, ℕ, ⊤, List, [], ◌∷◌, ◌++◌, Ok, length}
use Rattle.aos_frame.specs.Counts.{frame_counts}
use Rattle.aos_frame.specs.declared.config.Lane.{Lane}
use Rattle.cfdp_header.specs.Files.{FileMap}
use Rattle.cfdp_station.specs.New.{IsFirstAt}
use Rattle.station_pair.specs.declared.world_config.WorldConfig.{WorldConfig}
use Rattle.station_pair.specs.Stations.{IsWorldConfig}
use Rattle.link_sim.specs.declared.event.AcceptedPut.{AcceptedPut}
use Rattle.cfdp_port.specs.Asking.{Puts}
use Rattle.cfdp_port.specs.Calls.{WireCall}
use Rattle.cfdp_port.specs.Pair.{PairState, TakesTurn}
use Rattle.cfdp_port.specs.Passing.{frames_left}
use Rattle.cfdp_port.specs.Port.{AtStation, PortState}
use Rattle.ports_in_order.specs.InOrder.{Passage, PassesInOrder}
use Rattle.outages_by_turns.specs.Turns.{Turn}
use Rattle.secured_wire.specs.Direction.{SealedIn}
use Rattle.secured_wire.specs.Keeping.{KeeperCall}
use Rattle.secured_wire.specs.Passing.{arrivals, sealed_in}
use Rattle.secured_wire.specs.Secured.{Secures, SecuredState}
use Rattle.secured_link.specs.Turns.{BothBegin, WereSealed}

-- Two new stations of this configuration, of which the first accepted this put alone, and now the
-- ports are these. The stations began with these files to send, and these published.
pub record HaveBegun {W : Type 0} (c : WorldConfig) (outboxes inboxes : FileMap × FileMap)
    (put : AcceptedPut) (now : PairState (SecuredState W)) : Type 0 where
  pub valid : IsWorldConfig c
  pub first : PairState (SecuredState W)
  pub first_one : IsFirstAt c.one outboxes.0 inboxes.0 first.one.station
  pub first_two : IsFirstAt c.two outboxes.1 inboxes.1 first.two.station
  pub one : PortState (SecuredState W)
  pub puts : AtStation (Puts put.source put.destination (Ok put.id)) first.one one
  pub is : now ≡ record first { one = one }
  pub openers : BothBegin now

-- ---- what left
-- All frames that left each station in each lane, in order; and what each sealed, in order, of what
-- may still be accepted.
pub record Gone : Type 0 where
  pub left_one : Lane → List (List ℕ)
  pub left_two : Lane → List (List ℕ)
  pub sealed_one : List SealedIn
  pub sealed_two : List SealedIn

abbrev pub nothing_gone : Gone
nothing_gone = record {
  left_one = λ lane. [];
  left_two = λ lane. [];
  sealed_one = [];
  sealed_two = [];
}

module _ {W : Type 0} (Steps : W → WireCall → W → Type 0) (Calls : KeeperCall → Type 0) where
  -- and after both stations sent in a turn
  abbrev pub gone_then : (now : ℕ) → (old new : PairState (SecuredState W))
      → TakesTurn (Secures Steps Calls) now old new → Gone → Gone
  gone_then now old new turn gone = let one = turn.one_sends.sends in
      let two = turn.two_sends.sends in record {
        left_one = λ lane. gone.left_one lane
            ++ frames_left (Secures Steps Calls) lane one.count _ _ one.sent;
        left_two = λ lane. gone.left_two lane
            ++ frames_left (Secures Steps Calls) lane two.count _ _ two.sent;
        sealed_one = gone.sealed_one ++ sealed_in Steps Calls one.count _ _ one.sent;
        sealed_two = gone.sealed_two ++ sealed_in Steps Calls two.count _ _ two.sent;
      }

  -- **All that is accepted was sealed**: in this turn each station accepted nothing except what the
  -- other one had sealed by then. What it refused may be anything.
  abbrev pub AcceptsSealed : (now : ℕ) → (old new : PairState (SecuredState W))
      → TakesTurn (Secures Steps Calls) now old new → Gone → Type 0
  AcceptsSealed now old new turn gone =
      WereSealed turn.two.wire.opener gone.sealed_one
      (arrivals Steps Calls turn.two_hears.count _ _ turn.two_hears.heard)
      × WereSealed turn.one.wire.opener gone.sealed_two
      (arrivals Steps Calls turn.one_hears.count _ _ turn.one_hears.heard)

  -- ---- turns
  -- These turns were taken, one after another, at any times, and all that was accepted in them had
  -- been sealed. This had left before, and this in all. Nothing else is asked of the network.
  abbrev pub AreSecured : List (Turn (SecuredState W)) → (old : PairState (SecuredState W))
      → (before after : Gone) → Type 0
  AreSecured [] old before after = after ≡ before
  AreSecured (t ∷ turns) old before after =
      (turn : TakesTurn (Secures Steps Calls) t.now old t.after)
      × AcceptsSealed t.now old t.after turn (gone_then t.now old t.after turn before)
      × AreSecured turns t.after (gone_then t.now old t.after turn before) after

  -- **Few were lost in a row**: in whichever way what came in the turns before was in order, at
  -- most as many frames of a lane have left, by the end of a turn's sending, after the last one
  -- that was lost or came, as there are frame counts.
  abbrev pub FewLostIn : (turns : List (Turn (SecuredState W)))
      → (old : PairState (SecuredState W)) → (before after : Gone)
      → AreSecured turns old before after → (passed : Passage) → Type 0
  FewLostIn [] old before after same passed = ⊤
  FewLostIn (t ∷ turns) old before after (turn, sealed, more) passed =
      let gone = gone_then t.now old t.after turn before in
      ((lane : Lane) → (length (gone.left_one lane) ≤ passed.taken_one lane + frame_counts)
      × (length (gone.left_two lane) ≤ passed.taken_two lane + frame_counts))
      × ((later : Passage)
      → PassesInOrder (Secures Steps Calls) t.now old t.after turn passed later
      → FewLostIn turns t.after gone after more later)
