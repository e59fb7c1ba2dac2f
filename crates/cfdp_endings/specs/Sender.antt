-- A sender that hears nothing of its transaction: what may happen to it, and how long.
use Rattle.std.specs.Prelude.{◌≡◌, ◌⊎◌, ℕ, ◌+◌, ◌&&◌, ◌||◌, not, Bool, true, false, List, [], ◌∷◌, is_some, Some, if◌then◌else◌}
use Rattle.cfdp_timers.specs.declared.kind.Kind.{Kind}
use Rattle.cfdp_directives.specs.declared.user.limits.Limits.{Limits}
use Rattle.cfdp_directives.specs.declared.user.policy.Policy.{Policy}
use Rattle.cfdp_sender.specs.declared.phase.SenderPhase.{SenderPhase}
use Rattle.cfdp_sender.specs.declared.phase.SenderPhase.TheVariants.{Sending, Cancelling, Closed}
use Rattle.cfdp_sender.specs.State.{SenderState}
use Rattle.cfdp_sender.specs.Due.{sender_due}
use Rattle.cfdp_sender.specs.Steps.{sender_waits}
use Rattle.cfdp_sender.specs.Inputs.{SenderInput, Sends, Expires, sender_step}
use Rattle.cfdp_endings.specs.Limits.{tries_left, is_ignored, ends_it}

-- ---- never in silence
abbrev pub is_unclosed : SenderPhase → Bool
is_unclosed Sending = true
is_unclosed Cancelling = true
is_unclosed Closed = false

-- `true` if it is open: neither closed nor suspended
abbrev pub sender_open : SenderState → Bool
sender_open x = not x.suspended && is_unclosed x.phase

-- `true` if an EOF is due or was sent, or if the transaction wasn't cancelled
abbrev pub owes_eof_in : SenderPhase → (due taken : Bool) → Bool
owes_eof_in Cancelling due taken = due || taken
owes_eof_in _ due taken = true

abbrev pub owes_eof : SenderState → Bool
owes_eof x = owes_eof_in x.phase x.eof_due x.eof_taken

-- A PDU is due, or a timer is waited for.
abbrev pub SenderGoesOn : SenderState → Type 0
SenderGoesOn x = (is_some (sender_due x) ≡ true) ⊎ ((k : Kind) × (sender_waits k x ≡ true))

-- ---- alone
-- All that happens to a sender if it hears nothing and its user asks nothing of it: the PDU that
-- is due is sent, even if the outbox fails to give its octets, and a timer that it waits for
-- expires.
abbrev pub SenderAlone : SenderInput → SenderState → Type 0
SenderAlone (Sends stored d) x = sender_due x ≡ Some d
SenderAlone (Expires k) x = sender_waits k x ≡ true
SenderAlone _ x = ⊥

abbrev pub expiry : SenderInput → ℕ
expiry (Expires k) = 1
expiry _ = 0

-- how many timers expire in a run
abbrev pub expiries : List SenderInput → ℕ
expiries [] = 0
expiries (i ∷ is) = expiry i + expiries is

-- These happened to it, one after another, while it was alone.
abbrev pub SenderRuns : Policy → (file : List ℕ) → List SenderInput → (old new : SenderState)
    → Type 0
SenderRuns policy file [] old new = new ≡ old
SenderRuns policy file (i ∷ is) old new =
    SenderAlone i old × SenderRuns policy file is (sender_step policy file i old).sender new

-- No fault for which a sender has a handler may be ignored.
pub record SenderGivesUp (policy : Policy) : Type 0 where
  pub ack : is_ignored policy.handlers.ack ≡ false
  pub inactivity : is_ignored policy.handlers.inactivity ≡ false

-- Each of these faults must end the transaction.
pub record SenderEnds (policy : Policy) : Type 0 where
  pub ack : ends_it policy.handlers.ack ≡ true
  pub inactivity : ends_it policy.handlers.inactivity ≡ true

-- ---- how long
-- While it sends: the tries of its EOF, or one expiry of Inactivity if that was acknowledged.
-- If that cancels, the tries of the EOF that says so come on top.
abbrev pub left_in : SenderPhase → (acknowledged : Bool) → (count limit : ℕ) → ℕ
left_in Sending acknowledged count limit =
    (if acknowledged then 1 else tries_left count limit) + tries_left 0 limit
left_in Cancelling acknowledged count limit = tries_left count limit
left_in Closed acknowledged count limit = 0

-- how many timers may still expire until it is closed or suspended
abbrev pub sender_left : Limits → SenderState → ℕ
sender_left limits x =
    if x.suspended then 0 else left_in x.phase x.acknowledged x.count limits.eof
