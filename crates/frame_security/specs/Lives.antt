-- What sealers seal and what openers accept, over all lives of both. A life begins when a sealer or
-- an opener is made, and when its keys change.
use Rattle.std.specs.Prelude.{◌≡◌, ℕ, ◌+◌, ◌<◌, ◌≤◌, ◌^◌, ⊤, Option, Some, None, List, [], ◌∷◌, ◌++◌, length, Contains, IsTrue}
use Rattle.std.specs.List.{AllByRecursion}
use Rattle.aos_frame.specs.LinkFields.{bare_in}
use Rattle.frame_security.specs.declared.config.Security.{Security}
use Rattle.frame_security.specs.declared.opening.FrameRefusal.{FrameRefusal}
use Rattle.frame_security.specs.Frames.{IsSecurity, frame_in, secured, spi_in}
use Rattle.frame_security.specs.Sealing.{SealerState}
use Rattle.frame_security.specs.Opening.{OpenerState, after, is_authentic, key_of, refusal}

-- ---- what is sealed
-- a bare frame that was sealed, with its SPI, key and sequence number
pub record Sealed : Type 0 where
  pub spi : ℕ
  pub key : List ℕ
  pub number : ℕ
  pub bare : List ℕ

-- what a sealer seals, if it is given these bare frames one after another
abbrev pub sealed_by : SealerState → List (List ℕ) → List Sealed
sealed_by s [] = []
sealed_by s (bare ∷ more) =
    record { spi = s.spi; key = s.key; number = s.next; bare = bare }
    ∷ sealed_by (record s { next = s.next + 1 }) more

-- a life of a sealer, and the bare frames that it seals in it
pub record Sealing : Type 0 where
  pub sealer : SealerState
  pub frames : List (List ℕ)

abbrev pub all_sealed : List Sealing → List Sealed
all_sealed [] = []
all_sealed (life ∷ lives) = sealed_by life.sealer life.frames ++ all_sealed lives

abbrev pub all_frames : List Sealing → List (List ℕ)
all_frames [] = []
all_frames (life ∷ lives) = life.frames ++ all_frames lives

-- **Sequence numbers go on**: each life begins with a number greater than all numbers before it,
-- the first life with this number or a greater one. No life uses the numbers up. Each frame has a
-- header.
abbrev pub SealersGoOn : (from : ℕ) → List Sealing → Type 0
SealersGoOn from [] = ⊤
SealersGoOn from (life ∷ lives) =
    let next = life.sealer.next + length life.frames in
    (from ≤ life.sealer.next) × (next < 2 ^ 64)
    × AllByRecursion (λ bare. 6 ≤ length bare) life.frames × SealersGoOn next lives

-- ---- what is accepted
-- the bare frame, if the octets aren't refused
abbrev pub given_by : Option FrameRefusal → (bare : List ℕ) → List (List ℕ)
given_by None bare = bare ∷ []
given_by (Some cause) bare = []

-- the bare frames that an opener accepts of octets that arrive, one frame after another
abbrev pub given : OpenerState → (came : List (List ℕ)) → List (List ℕ)
given o [] = []
given o (frame ∷ came) =
    given_by (refusal o frame) (frame_in o.security (bare_in o.security.fields frame))
    ++ given (after o frame) came

-- and its state after them
abbrev pub after_all : OpenerState → (came : List (List ℕ)) → OpenerState
after_all o [] = o
after_all o (frame ∷ came) = after_all (after o frame) came

-- a life of an opener, and the octets that arrive in it
pub record Opening : Type 0 where
  pub opener : OpenerState
  pub came : List (List ℕ)

abbrev pub all_given : List Opening → List (List ℕ)
all_given [] = []
all_given (life ∷ lives) = given life.opener life.came ++ all_given lives

-- **No number is accepted twice**: each life begins with a last number that is at least the number
-- of the frame that was accepted last, the first life with at least this one. Each has a valid
-- configuration.
abbrev pub OpenersGoOn : (last : ℕ) → List Opening → Type 0
OpenersGoOn last [] = ⊤
OpenersGoOn last (life ∷ lives) =
    (last ≤ life.opener.last) × IsSecurity life.opener.security
    × OpenersGoOn (after_all life.opener life.came).last lives

-- ---- the premise
-- The MAC of octets is right under the key that the opener has for their SPI.
abbrev pub IsAuthenticAt : OpenerState → (frame : List ℕ) → Type 0
IsAuthenticAt o frame = let octets = bare_in o.security.fields frame in
    (key : List ℕ) × (key_of o (spi_in octets) ≡ Some key)
    × IsTrue (is_authentic o.security key octets)

-- The authenticated octets and the MAC are the same in a frame that was sealed. The insert zone,
-- the operational control field and the error control field may differ.
abbrev pub WasSealed : Security → List Sealed → (frame : List ℕ) → Type 0
WasSealed s sealed frame = (x : Sealed) × Contains sealed x
    × (bare_in s.fields frame ≡ secured s x.key x.spi x.number x.bare)

-- **None was forged**: all octets that arrived with a right MAC were sealed.
abbrev pub NoneForged : List Sealed → List Opening → Type 0
NoneForged sealed [] = ⊤
NoneForged sealed (life ∷ lives) =
    ((frame : List ℕ) → Contains life.came frame → IsAuthenticAt life.opener frame
    → WasSealed life.opener.security sealed frame)
    × NoneForged sealed lives

-- ---- the promise
-- These are some of all, in the same order, each at most once: some of all are lost, then the first
-- of these follows, and so on with the rest.
abbrev pub AreSomeOf : {A : Type 0} → (all some : List A) → Type 0
AreSomeOf {A} all [] = ⊤
AreSomeOf {A} all (x ∷ some) =
    (lost rest : List A) × (all ≡ lost ++ x ∷ rest) × AreSomeOf rest some
