-- Two ports with secured wires, in turns: what each sealed, and what is asked of the network.
use Rattle.std.specs.Prelude.{◌≡◌, ℕ, zero, suc, ◌+◌, ◌≤◌, ⊤, None, List, [], ◌∷◌, ◌++◌, Contains, length}
use Rattle.aos_frame.specs.Counts.{frame_counts}
use Rattle.aos_frame.specs.declared.config.Lane.{Lane}
use Rattle.cfdp_header.specs.declared.value.TransactionId.{TransactionId}
use Rattle.cfdp_port.specs.Calls.{WireCall}
use Rattle.cfdp_port.specs.Pair.{PairState, Turns}
use Rattle.cfdp_port.specs.Passing.{frames_left}
use Rattle.ports_in_order.specs.InOrder.{PassInOrder, Passage}
use Rattle.aos_frame.specs.LinkFields.{bare_in}
use Rattle.frame_security.specs.Frames.{secured}
use Rattle.frame_security.specs.Opening.{OpenerState, after, refusal}
use Rattle.secured_wire.specs.Direction.{Arrival, NoneForgedOf, SealedIn}
use Rattle.secured_wire.specs.Keeping.{KeeperCall}
use Rattle.secured_wire.specs.Passing.{arrivals, sealed_in}
use Rattle.secured_wire.specs.Secured.{Secures, SecuredState}

-- Both openers have a configuration in which at most 32 octets of a MAC are sent.
abbrev pub BothBegin : {W : Type 0} → PairState (SecuredState W) → Type 0
BothBegin first = (first.one.wire.opener.security.mac_len ≤ 32)
    × (first.two.wire.opener.security.mac_len ≤ 32)

-- **All that is accepted was sealed**: this opener accepts none of these arrivals, one after
-- another, except those that were sealed so. Nothing is asked of what it refuses, such as what
-- comes twice.
abbrev pub WereSealed : OpenerState → (all : List SealedIn) → List Arrival → Type 0
WereSealed o all [] = ⊤
WereSealed o all (a ∷ came) = (refusal o a.octets ≡ None → (x : SealedIn) × Contains all x
    × (bare_in o.security.fields a.octets
    ≡ secured o.security x.frame.key x.frame.spi x.frame.number x.frame.bare))
    × WereSealed (after o a.octets) all came

module _ {W : Type 0} (Steps : W → WireCall → W → Type 0) (Calls : KeeperCall → Type 0)
    (id : TransactionId) where
  -- all that the first station sealed in these turns, and the second one
  abbrev pub sealed_one : (count : ℕ) → (old new : PairState (SecuredState W))
      → Turns (Secures Steps Calls) id count old new → List SealedIn
  sealed_one zero old new same = []
  sealed_one (suc count) old new (mid, before, unclosed, turn) =
      let sends = turn.one_sends.sends in
      sealed_one count old mid before ++ sealed_in Steps Calls sends.count _ _ sends.sent

  abbrev pub sealed_two : (count : ℕ) → (old new : PairState (SecuredState W))
      → Turns (Secures Steps Calls) id count old new → List SealedIn
  sealed_two zero old new same = []
  sealed_two (suc count) old new (mid, before, unclosed, turn) =
      let sends = turn.two_sends.sends in
      sealed_two count old mid before ++ sealed_in Steps Calls sends.count _ _ sends.sent

  -- all frames that left the first station in a lane, and the second one
  abbrev pub left_one : (count : ℕ) → (old new : PairState (SecuredState W))
      → Turns (Secures Steps Calls) id count old new → Lane → List (List ℕ)
  left_one zero old new same lane = []
  left_one (suc count) old new (mid, before, unclosed, turn) lane =
      let sends = turn.one_sends.sends in
      left_one count old mid before lane
      ++ frames_left (Secures Steps Calls) lane sends.count _ _ sends.sent

  abbrev pub left_two : (count : ℕ) → (old new : PairState (SecuredState W))
      → Turns (Secures Steps Calls) id count old new → Lane → List (List ℕ)
  left_two zero old new same lane = []
  left_two (suc count) old new (mid, before, unclosed, turn) lane =
      let sends = turn.two_sends.sends in
      left_two count old mid before lane
      ++ frames_left (Secures Steps Calls) lane sends.count _ _ sends.sent

  -- **None was forged**: all octets that arrived in these turns with a right MAC had been sealed by
  -- the other station.
  abbrev pub NoneForgedIn : (count : ℕ) → (old new : PairState (SecuredState W))
      → Turns (Secures Steps Calls) id count old new → Type 0
  NoneForgedIn zero old new same = ⊤
  NoneForgedIn (suc count) old new (mid, before, unclosed, turn) =
      let one_sends = turn.one_sends.sends in
      let two_sends = turn.two_sends.sends in
      NoneForgedIn count old mid before
      × NoneForgedOf turn.two.wire.opener
      (sealed_one count old mid before ++ sealed_in Steps Calls one_sends.count _ _ one_sends.sent)
      (arrivals Steps Calls turn.two_hears.count _ _ turn.two_hears.heard)
      × NoneForgedOf turn.one.wire.opener
      (sealed_two count old mid before ++ sealed_in Steps Calls two_sends.count _ _ two_sends.sent)
      (arrivals Steps Calls turn.one_hears.count _ _ turn.one_hears.heard)

  -- **Few were lost in a row**: in whichever way the turns before were in order, at most as many
  -- frames of a lane have left, by the end of a turn's sending, after the last one that was lost or
  -- arrived, as there are frame counts.
  abbrev pub FewLost : (count : ℕ) → (old new : PairState (SecuredState W))
      → Turns (Secures Steps Calls) id count old new → Type 0
  FewLost zero old new same = ⊤
  FewLost (suc count) old new (mid, before, unclosed, turn) =
      FewLost count old mid before
      × ((earlier : Passage) → PassInOrder (Secures Steps Calls) id count old mid before earlier
      → (lane : Lane)
      → (length (left_one (suc count) old new (mid, before, unclosed, turn) lane)
      ≤ earlier.taken_one lane + frame_counts)
      × (length (left_two (suc count) old new (mid, before, unclosed, turn) lane)
      ≤ earlier.taken_two lane + frame_counts))
