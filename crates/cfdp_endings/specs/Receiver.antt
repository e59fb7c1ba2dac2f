-- A receiver that hears nothing of its transaction: what may happen to it, and how long.
use Rattle.std.specs.Prelude.{◌≡◌, ◌⊎◌, ℕ, ◌+◌, ◌&&◌, not, Bool, true, false, List, [], ◌∷◌, is_some, Some, if◌then◌else◌}
use Rattle.cfdp_header.specs.Files.{FileMap}
use Rattle.cfdp_timers.specs.declared.kind.Kind.{Kind}
use Rattle.cfdp_directives.specs.declared.user.limits.Limits.{Limits}
use Rattle.cfdp_directives.specs.declared.user.policy.Policy.{Policy}
use Rattle.cfdp_store.specs.declared.stored.Stored.TheVariants.{Done}
use Rattle.cfdp_store.specs.Staged.{OctetMap}
use Rattle.cfdp_receiver.specs.declared.state.ReceiverPhase.{ReceiverPhase}
use Rattle.cfdp_receiver.specs.declared.state.ReceiverPhase.TheVariants.{Receiving, Finishing, Closed}
use Rattle.cfdp_receiver.specs.State.{ReceiverState}
use Rattle.cfdp_receiver.specs.Due.{receiver_due}
use Rattle.cfdp_receiver.specs.Steps.{waits}
use Rattle.cfdp_receiver.specs.Sound.{ReceiverInput, Takes, Expires, receiver_step}
use Rattle.cfdp_endings.specs.Limits.{tries_left, is_ignored, ends_it}

-- ---- never in silence
abbrev pub is_unclosed : ReceiverPhase → Bool
is_unclosed Receiving = true
is_unclosed Finishing = true
is_unclosed Closed = false

-- `true` if it is open: neither closed nor suspended
abbrev pub receiver_open : ReceiverState → Bool
receiver_open r = not r.suspended && is_unclosed r.phase

-- A PDU is due, or a timer is waited for.
abbrev pub ReceiverGoesOn : ReceiverState → Type 0
ReceiverGoesOn r = (is_some (receiver_due r) ≡ true) ⊎ ((k : Kind) × (waits k r ≡ true))

-- ---- alone
-- All that happens to a receiver if it hears nothing and its user asks nothing of it: the PDU
-- that is due is sent, and a timer that it waits for expires.
abbrev pub ReceiverAlone : Policy → ReceiverInput → ReceiverState → Type 0
ReceiverAlone policy (Takes d) r = receiver_due r ≡ Some d
ReceiverAlone policy (Expires k by) r = (waits k r ≡ true) × (by ≡ policy)
ReceiverAlone policy _ r = ⊥

abbrev pub expiry : ReceiverInput → ℕ
expiry (Expires k by) = 1
expiry _ = 0

-- how many timers expire in a run
abbrev pub expiries : List ReceiverInput → ℕ
expiries [] = 0
expiries (i ∷ is) = expiry i + expiries is

-- These happened to it, one after another, while it was alone. How the inbox answers changes none
-- of them.
abbrev pub ReceiverRuns : Policy → List ReceiverInput → OctetMap → FileMap →
    (old new : ReceiverState) → Type 0
ReceiverRuns policy [] m files old new = new ≡ old
ReceiverRuns policy (i ∷ is) m files old new = ReceiverAlone policy i old
    × ReceiverRuns policy is (receiver_step Done i m files old).octets
    (receiver_step Done i m files old).files (receiver_step Done i m files old).receiver new

-- No fault for which a receiver has a handler may be ignored.
pub record ReceiverGivesUp (policy : Policy) : Type 0 where
  pub nak : is_ignored policy.handlers.nak ≡ false
  pub inactivity : is_ignored policy.handlers.inactivity ≡ false

-- Each of these faults must end the transaction.
pub record ReceiverEnds (policy : Policy) : Type 0 where
  pub nak : ends_it policy.handlers.nak ≡ true
  pub inactivity : ends_it policy.handlers.inactivity ≡ true

-- ---- how long
-- While it receives: the tries of its NAK if an EOF was heard, and before that one expiry of
-- Inactivity. If that cancels, the tries of its Finished come on top.
abbrev pub left_in : ReceiverPhase → (ended : Bool) → (naks finished : ℕ) → Limits → ℕ
left_in Receiving ended naks finished limits =
    (if ended then tries_left naks limits.nak else 1) + tries_left 0 limits.finished
left_in Finishing ended naks finished limits = tries_left finished limits.finished
left_in Closed ended naks finished limits = 0

-- how many timers may still expire until it is closed or suspended
abbrev pub receiver_left : Limits → ReceiverState → ℕ
receiver_left limits r = if r.suspended then 0
    else left_in r.phase (is_some r.ending) r.nak_count r.finished_count limits
