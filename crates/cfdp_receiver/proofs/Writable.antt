-- What is due can be written, since a NAK is due only while it receives.
use Rattle.std.proofs.Common.{◌≡◌, ℕ, ◌≤◌, Bool, true, false, List, [], ◌∷◌, Option, Some, None, IfSome, subst, refl, if◌then◌else◌}
use Rattle.cfdp_directives.specs.declared.user.telling.Outcome.{Outcome}
use Rattle.cfdp_directives.specs.Pdu.Codes.{size_limit}
use Rattle.cfdp_receiver.specs.declared.due.Due.{Due}
use Rattle.cfdp_receiver.specs.declared.due.Due.TheVariants as due
use Rattle.cfdp_receiver.specs.declared.state.ReceiverPhase.{ReceiverPhase}
use Rattle.cfdp_receiver.specs.declared.state.ReceiverPhase.TheVariants.{Receiving, Finishing, Closed}
use Rattle.cfdp_receiver.specs.Due.{IsWritableIn, receiver_due, ack_first, phase_due, nak_first, pairs_first, keep_alive_first, finished_by}
use Rattle.cfdp_receiver.specs.Missing.{missing_pairs}
use Rattle.cfdp_receiver.specs.State.{ReceiverState}

-- the offset of a NAK is one that can be written
abbrev pub IsLow : ReceiverState → Option ℕ → Type 0
IsLow r o = IfSome o (λ cursor. cursor ≤ size_limit r.large)

keep-alive-writable : (r : ReceiverState) (d : Due) (is_due : Bool) → keep_alive_first is_due ≡ Some d → IsWritableIn r d
keep-alive-writable r d true is = let same : due.KeepAlive ≡ d = cc in subst (IsWritableIn r) same tt
keep-alive-writable r d false is = absurd (cc)

pairs-writable : (r : ReceiverState) (d : Due) (cursor : ℕ) → cursor ≤ size_limit r.large → r.phase ≡ Receiving → (pairs : List (ℕ × ℕ)) → pairs_first cursor pairs r ≡ Some d → IsWritableIn r d
pairs-writable r d cursor low receiving [] is = keep-alive-writable r d r.keep_alive_due is
pairs-writable r d cursor low receiving (p ∷ ps) is = let same : due.Nak cursor ≡ d = cc in subst (IsWritableIn r) same (receiving, low)

nak-writable : (r : ReceiverState) (d : Due) → r.phase ≡ Receiving → (o : Option ℕ) → IsLow r o → nak_first o r ≡ Some d → IsWritableIn r d
nak-writable r d receiving (Some cursor) low is = pairs-writable r d cursor low receiving (missing_pairs cursor r) is
nak-writable r d receiving None low is = keep-alive-writable r d r.keep_alive_due is

finished-writable : (r : ReceiverState) (d : Due) (is_due : Bool) (o : Option Outcome) → finished_by is_due o ≡ Some d → IsWritableIn r d
finished-writable r d true (Some outcome) is = let same : due.Finished outcome ≡ d = cc in subst (IsWritableIn r) same tt
finished-writable r d true None is = absurd (cc)
finished-writable r d false o is = absurd (cc)

phase-writable : (r : ReceiverState) (d : Due) → IsLow r r.nak_cursor → (p : ReceiverPhase) → r.phase ≡ p → phase_due p r ≡ Some d → IsWritableIn r d
phase-writable r d low Receiving in_phase is = nak-writable r d in_phase r.nak_cursor low is
phase-writable r d low Finishing in_phase is = finished-writable r d r.finished_due r.outcome is
phase-writable r d low Closed in_phase is = absurd (cc)

ack-writable : (r : ReceiverState) (d : Due) → IsLow r r.nak_cursor → (o : Option ℕ) → ack_first o r ≡ Some d → IsWritableIn r d
ack-writable r d low (Some condition) is = let same : due.AckOfEof condition ≡ d = cc in subst (IsWritableIn r) same tt
ack-writable r d low None is = phase-writable r d low r.phase refl is

pub due-writable : (r : ReceiverState) (d : Due) → IsLow r r.nak_cursor → receiver_due r ≡ Some d → IsWritableIn r d
due-writable r d low is = elim r.suspended as (λ b. (if b then None else ack_first r.ack_due r) ≡ Some d → IsWritableIn r d) [
  | true ↦ λ h. absurd (cc)
  | false ↦ λ h. ack-writable r d low r.ack_due h
] is
