-- What a dump shows of one unit, a PDU or a frame, by the frames before it; and of many, in order.
use Rattle.std.specs.Prelude.{◌≡◌, ◌⊎◌, ℕ, ◌-◌, Bool, true, false, List, [], ◌∷◌, ◌++◌, Option, Some, None, MatchOption}
use Rattle.aos_frame.specs.Frame.{SpellsFrame, frame_fault}
use Rattle.aos_frame.specs.declared.error.FrameError.{FrameError}
use Rattle.aos_frame.specs.declared.header.FrameHeader.{FrameHeader}
use Rattle.captures.specs.Packets.{Captured, Faulty, ItemText, PassedOver}
use Rattle.captures.specs.Units.{unit_fault, unit_in}
use Rattle.aos_frame.specs.LinkFields.{mpdu_in}
use Rattle.cfdp_dump.specs.Carrying.{CarriedText, FrameCarries, IsUnfollowed}
use Rattle.cfdp_dump.specs.declared.channel.Channel.{Channel}
use Rattle.cfdp_dump.specs.Spelled.Lines.{WritesLines}
use Rattle.cfdp_dump.specs.Spelled.Shape.{channel_in}
use Rattle.cfdp_dump.specs.Dump.Told.{AsFrame, AsPdu, Says, TellsTold, Told, carried_told}
use Rattle.cfdp_dump.specs.declared.dump.DumpKind.{DumpKind}
use Rattle.cfdp_dump.specs.declared.dump.DumpKind.TheVariants.{Pdus, Frames}
use Rattle.cfdp_dump.specs.declared.dump.DumpRequest.{DumpRequest}
use Rattle.cfdp_dump.specs.declared.dump.remark.Remark.TheVariants.{BadCapture, PassedBy, Unfollowed}

-- One thing is shown, which changes nothing.
abbrev pub TellsOne : (one : Told) → List Channel → List Told → List Channel → Type 0
TellsOne one channels tolds after = (tolds ≡ one ∷ []) × (after ≡ channels)

-- ---- a frame, and what it carries
-- It carries this, by the frames before it.
pub record TellsCarried (request : DumpRequest) (channels : List Channel) (octets : List ℕ)
    (tolds : List Told) (after : List Channel) : Type 0 where
  pub header : FrameHeader
  pub spelled : SpellsFrame (channel_in octets request.shape) header octets
  pub carried : CarriedText
  pub carries : FrameCarries channels header (mpdu_in request.shape.fields octets) carried after
  pub words : tolds ≡ AsFrame octets ∷ carried_told carried

-- Its channel isn't followed.
pub record TellsUnfollowed (request : DumpRequest) (channels : List Channel) (octets : List ℕ)
    (tolds : List Told) (after : List Channel) : Type 0 where
  pub header : FrameHeader
  pub spelled : SpellsFrame (channel_in octets request.shape) header octets
  pub unfollowed : IsUnfollowed channels header after
  pub words : tolds ≡ AsFrame octets ∷ Says Unfollowed ∷ []

-- The octets are no frame, which changes nothing.
pub record TellsNoFrame (request : DumpRequest) (channels : List Channel) (octets : List ℕ)
    (tolds : List Told) (after : List Channel) : Type 0 where
  pub error : FrameError
  pub fault : frame_fault octets (channel_in octets request.shape) ≡ Some error
  pub words : TellsOne (AsFrame octets) channels tolds after

abbrev pub TellsDeep : DumpRequest → List Channel → (octets : List ℕ) → List Told → List Channel →
    Type 0
TellsDeep request channels octets tolds after =
    TellsCarried request channels octets tolds after
    ⊎ TellsUnfollowed request channels octets tolds after
    ⊎ TellsNoFrame request channels octets tolds after

-- ---- a unit
abbrev pub TellsAs : DumpKind → (deep : Bool) → DumpRequest → List Channel → (octets : List ℕ) →
    List Told → List Channel → Type 0
TellsAs Pdus deep request channels octets tolds after =
    TellsOne (AsPdu octets) channels tolds after
TellsAs Frames false request channels octets tolds after =
    TellsOne (AsFrame octets) channels tolds after
TellsAs Frames true request channels octets tolds after =
    TellsDeep request channels octets tolds after

abbrev pub TellsUnit : DumpRequest → List Channel → (octets : List ℕ) → List Told → List Channel →
    Type 0
TellsUnit request channels octets tolds after =
    TellsAs request.kind request.deep request channels octets tolds after

-- ---- what stands in a capture of so many octets: the unit of a packet, or why it has none
abbrev pub TellsItem : (whole : ℕ) → DumpRequest → List Channel → ItemText → List Told →
    List Channel → Type 0
TellsItem whole request channels (Captured packet) tolds after =
    MatchOption (unit_fault packet)
    (TellsUnit request channels (unit_in packet) tolds after)
    (λ passed. TellsOne (Says (PassedBy passed)) channels tolds after)
TellsItem whole request channels PassedOver tolds after = (tolds ≡ []) × (after ≡ channels)
TellsItem whole request channels (Faulty fault) tolds after =
    TellsOne (Says (BadCapture fault.cause (whole - fault.left))) channels tolds after

-- ---- many, one after the other
abbrev pub TellsRun : {A : Type 0} → (List Channel → A → List Told → List Channel → Type 0) →
    (before : List Channel) → (units : List A) → List Told → (after : List Channel) → Type 0
TellsRun P before [] tolds after = (tolds ≡ []) × (after ≡ before)
TellsRun P before (unit ∷ units) tolds after =
    (first : List Told) × (mid : List Channel) × (rest : List Told) × P before unit first mid
    × TellsRun P mid units rest after × (tolds ≡ first ++ rest)

-- Of these units all was written, from the first frame on.
pub record WritesRun {A : Type 0} (P : List Channel → A → List Told → List Channel → Type 0)
    (request : DumpRequest) (units : List A) (after : List Channel) (old new : Option (List ℕ))
    : Type 0 where
  pub tolds : List Told
  pub told : TellsRun P [] units tolds after
  pub written : WritesLines (TellsTold request) tolds old new

-- Of these units all was written, after frames of these channels.
pub record WritesMore {A : Type 0} (P : List Channel → A → List Told → List Channel → Type 0)
    (request : DumpRequest) (before : List Channel) (units : List A) (after : List Channel)
    (old new : Option (List ℕ)) : Type 0 where
  pub tolds : List Told
  pub told : TellsRun P before units tolds after
  pub written : WritesLines (TellsTold request) tolds old new

-- Of one all was written.
pub record WritesUnit (P : List Told → List Channel → Type 0) (request : DumpRequest)
    (after : List Channel) (old new : Option (List ℕ)) : Type 0 where
  pub tolds : List Told
  pub told : P tolds after
  pub written : WritesLines (TellsTold request) tolds old new
