-- What comes of a datagram that is sent, and of a look for one.
use Rattle.std.proofs.Common.{◌≡◌, ℕ, List, Result, Ok, Err, inl, inr}
use Rattle.std.specs.declared.io.ErrorKind.{ErrorKind}
use Rattle.cfdp_datagrams.specs.declared.came.Came.{Came}
use Rattle.cfdp_datagrams.specs.declared.came.Came.TheVariants.{AskAgain, Beacon, Datagram, Discarded, Nothing}
use Rattle.cfdp_datagrams.specs.declared.fate.Fate.TheVariants.{MustWait}
use Rattle.cfdp_datagrams.specs.DatagramWire.{FindsNone, Looks, ReceivesNone}
use Rattle.cfdp_datagrams.specs.Paced.{EndsKept, IsFate, KeptState, PacedState}
use Rattle.cfdp_datagrams.specs.Transport.{TransportCall}

-- what must wait waits on
pub waits_on : (tried : Result (Unit {0}) ErrorKind) (old new : KeptState) → IsFate tried MustWait → new ≡ old → EndsKept tried old new
waits_on (Ok done) old new fate same = absurd fate
waits_on (Err why) old new fate same = inl same

module _ {T : Type 0} (Steps : T → TransportCall → T → Type 0) where
  -- a look for a datagram, if the transport has none
  pub looked : (came : Came) (buffer : List ℕ) (old mid new : PacedState T) → ReceivesNone Steps old mid → FindsNone Steps came mid new → Looks Steps came buffer old new
  looked (Datagram len) buffer old mid new none finds = absurd finds
  looked Nothing buffer old mid new none finds = record { asked = mid; asks = inr none; beacon = finds }
  looked AskAgain buffer old mid new none finds = record { asked = mid; asks = inr none; waits = finds }
  looked Beacon buffer old mid new none finds = absurd finds
  looked Discarded buffer old mid new none finds = absurd finds
