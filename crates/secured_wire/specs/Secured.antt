-- A wire that secures what is sent over the wire below it, and verifies what arrives there. Its
-- keeper notes the numbers of accepted frames, and brings keys.
use Rattle.std.specs.Prelude.{◌≡◌, ◌⊎◌, ◌+◌, ◌-◌, ◌^◌, ◌<◌, ◌≤◌, ℕ, true, false, List, length, Option, Some, None, Result, Ok, Err}
use Rattle.aos_frame.specs.LinkFields.{bare_in}
use Rattle.frame_security.specs.declared.opening.FrameRefusal.{FrameRefusal}
use Rattle.frame_security.specs.declared.keys.LinkKeys.{LinkKeys}
use Rattle.frame_security.specs.Frames.{frame_in, number_in}
use Rattle.frame_security.specs.Keys.{opener_with, sealer_with}
use Rattle.frame_security.specs.Sealing.{SealerState, secured_frame}
use Rattle.frame_security.specs.Opening.{OpenerState, after, refusal}
use Rattle.cfdp_port.specs.Calls.{WireCall, Sent, Asked, Readied, Timed, Rested}
use Rattle.cfdp_port.specs.declared.wire.WireFault.{WireFault}
use Rattle.secured_wire.specs.Keeping.{Brings, Keeps, KeeperCall, Refuses}

-- the wire below it, both ends, and the octets of the longest bare frame that can be sent
pub record SecuredState (W : Type 0) : Type 0 where
  pub wire : W
  pub sealer : SealerState
  pub opener : OpenerState
  pub most : ℕ

-- ---- what arrives
abbrev pub Came : Type 0
Came = Result (Option (List ℕ)) WireFault

-- the bare frame, if the octets aren't refused; refused octets are lost
abbrev pub opened_by : Option FrameRefusal → (bare : List ℕ) → Came
opened_by None bare = Ok (Some bare)
opened_by (Some cause) bare = Err (record {})

abbrev pub opened : OpenerState → (frame : List ℕ) → Came
opened o frame = opened_by (refusal o frame) (frame_in o.security (bare_in o.security.fields frame))

module _ (Calls : KeeperCall → Type 0) where
  -- Octets that arrived were verified. If they are refused, the cause was reported to the keeper.
  -- If they aren't, the keeper noted their number, and the caller's buffer has room for the frame.
  abbrev pub IsHandedOn : (room : ℕ) → Option FrameRefusal → (number : ℕ) → (bare : List ℕ) → Type 0
  IsHandedOn room None number bare = Calls (Keeps number true) × (length bare ≤ room)
  IsHandedOn room (Some cause) number bare = Calls (Refuses cause)

  -- An accepted frame is lost only if the keeper can't note its number, or if the buffer has no
  -- room for it.
  abbrev pub IsNotHandedOn : (room : ℕ) → Option FrameRefusal → (number : ℕ) → (bare : List ℕ) → Type 0
  IsNotHandedOn room None number bare =
      Calls (Keeps number false) ⊎ (Calls (Keeps number true) × (room < length bare))
  IsNotHandedOn room (Some cause) number bare = ⊥

  -- What arrived over the wire below was verified, and that is the answer to a caller whose buffer
  -- has room for so many octets; or an accepted frame is lost.
  abbrev pub Opens : (room : ℕ) → (behind came : Came) → (old new : OpenerState) → Type 0
  Opens room (Ok (Some frame)) came old new =
      let octets = bare_in old.security.fields frame in
      (new ≡ after old frame)
      × (((came ≡ opened old frame)
      × IsHandedOn room (refusal old frame) (number_in octets) (frame_in old.security octets))
      ⊎ ((came ≡ Err (record {}))
      × IsNotHandedOn room (refusal old frame) (number_in octets) (frame_in old.security octets)))
  Opens room (Ok None) came old new = (came ≡ Ok None) × (new ≡ old)
  Opens room (Err fault) came old new = (came ≡ Err fault) × (new ≡ old)

-- ---- keys
-- an end after the keeper brought these keys, or none
abbrev pub sealer_after : Option LinkKeys → SealerState → SealerState
sealer_after None s = s
sealer_after (Some keys) s = sealer_with keys s

abbrev pub opener_after : Option LinkKeys → OpenerState → OpenerState
opener_after None o = o
opener_after (Some keys) o = opener_with keys o

module _ {W : Type 0} (Steps : W → WireCall → W → Type 0) (Calls : KeeperCall → Type 0) where
  -- ---- what is sent
  -- A frame was sealed under the next sequence number, and the wire below sent it with this answer.
  -- The frame has a header, and the number was not the last one.
  pub record SendsSecured (frame : List ℕ) (answer : Result (Unit {0}) WireFault)
      (old new : SecuredState W) : Type 0 where
    pub header : 6 ≤ length frame
    pub number : old.sealer.next < 2 ^ 64 - 1
    pub sent : Steps old.wire (Sent (secured_frame old.sealer frame 0) answer) new.wire
    pub sealer : new.sealer ≡ record old.sealer { next = old.sealer.next + 1 }
    pub opener : new.opener ≡ old.opener
    pub most : new.most ≡ old.most

  -- A frame is lost if it has no header, if it is too long, or if no number is left.
  pub record IsLost (frame : List ℕ) (answer : Result (Unit {0}) WireFault)
      (old new : SecuredState W) : Type 0 where
    pub cause : (length frame < 6) ⊎ (old.most < length frame)
        ⊎ (old.sealer.next ≡ 2 ^ 64 - 1)
    pub answer_is : answer ≡ Err (record {})
    pub same : new ≡ old

  -- ---- the calls
  -- The wire below was asked what arrived, and that was verified, for a caller whose buffer has
  -- room for so many octets.
  pub record AsksBehind (room : ℕ) (came : Came) (old new : SecuredState W) : Type 0 where
    pub behind : Came
    pub asked : Steps old.wire (Asked behind) new.wire
    pub opens : Opens Calls room behind came old.opener new.opener
    pub sealer : new.sealer ≡ old.sealer
    pub most : new.most ≡ old.most

  -- Another call is a call of the wire below.
  pub record CallsBehind (call : WireCall) (old new : SecuredState W) : Type 0 where
    pub called : Steps old.wire call new.wire
    pub sealer : new.sealer ≡ old.sealer
    pub opener : new.opener ≡ old.opener
    pub most : new.most ≡ old.most

  -- The wire below was asked what time it is. Before that, the keeper brought new keys, or none:
  -- both ends have these from now on. Their sequence numbers and counts stay.
  pub record ChangesKeys (call : WireCall) (old new : SecuredState W) : Type 0 where
    pub keys : Option LinkKeys
    pub brought : Calls (Brings keys)
    pub called : Steps old.wire call new.wire
    pub sealer : new.sealer ≡ sealer_after keys old.sealer
    pub opener : new.opener ≡ opener_after keys old.opener
    pub most : new.most ≡ old.most

  -- A call doesn't say how long the caller's buffer is.
  abbrev pub Secures : (old : SecuredState W) → WireCall → (new : SecuredState W) → Type 0
  Secures old (Sent frame answer) new =
      SendsSecured frame answer old new ⊎ IsLost frame answer old new
  Secures old (Asked came) new = (room : ℕ) × AsksBehind room came old new
  Secures old (Readied answer) new = CallsBehind (Readied answer) old new
  Secures old (Timed now) new = ChangesKeys (Timed now) old new
  Secures old (Rested is_open answer) new = CallsBehind (Rested is_open answer) old new
