-- One direction between two stations with secured wires: what was sealed in each lane, and which
-- frames are accepted of the octets that arrived.
use Rattle.std.specs.Prelude.{◌≡◌, ℕ, Bool, true, false, Option, List, [], ◌∷◌, ◌++◌, Contains}
use Rattle.aos_frame.specs.declared.config.Lane.{Lane}
use Rattle.aos_frame.specs.LinkFields.{bare_in}
use Rattle.frame_security.specs.declared.opening.FrameRefusal.{FrameRefusal}
use Rattle.frame_security.specs.Frames.{frame_in, secured}
use Rattle.frame_security.specs.Lives.{IsAuthenticAt, Sealed, given_by}
use Rattle.frame_security.specs.Opening.{OpenerState, after, refusal}
use Rattle.cfdp_port.specs.Passing.{in_lane}

-- a frame that was sealed, and its lane
pub record SealedIn : Type 0 where
  pub lane : Lane
  pub frame : Sealed

-- the bare frames of a lane
abbrev pub bares_in : Lane → List SealedIn → List (List ℕ)
bares_in lane [] = []
bares_in lane (x ∷ more) = in_lane lane x.lane x.frame.bare ++ bares_in lane more

-- Octets that arrived over the wire below, and whether an accepted frame in them is handed on: the
-- keeper noted its number, and the caller had room for it.
pub record Arrival : Type 0 where
  pub octets : List ℕ
  pub handed_on : Bool

-- the bare frame, if the octets aren't refused and it is handed on
abbrev pub frames_by : (handed_on : Bool) → Option FrameRefusal → (bare : List ℕ) → List (List ℕ)
frames_by true fault bare = given_by fault bare
frames_by false fault bare = []

abbrev pub frames_of : Arrival → OpenerState → List (List ℕ)
frames_of a o = frames_by a.handed_on (refusal o a.octets)
    (frame_in o.security (bare_in o.security.fields a.octets))

-- the frames of all arrivals, one after another, and the opener after them
abbrev pub frames_of_all : OpenerState → List Arrival → List (List ℕ)
frames_of_all o [] = []
frames_of_all o (a ∷ more) = frames_of a o ++ frames_of_all (after o a.octets) more

abbrev pub opener_then : OpenerState → List Arrival → OpenerState
opener_then o [] = o
opener_then o (a ∷ more) = opener_then (after o a.octets) more

-- **None was forged**: all octets that arrived with a right MAC were sealed.
abbrev pub NoneForgedOf : OpenerState → (all : List SealedIn) → List Arrival → Type 0
NoneForgedOf o all came = (a : Arrival) → Contains came a → IsAuthenticAt o a.octets
    → (x : SealedIn) × Contains all x × (bare_in o.security.fields a.octets
    ≡ secured o.security x.frame.key x.frame.spi x.frame.number x.frame.bare)
