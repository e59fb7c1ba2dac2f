-- A timer is armed if it is waited for.
use Rattle.std.proofs.Common.{◌≡◌, ℕ, true, false, Bool, Option, Some, None, is_some, if◌then◌else◌, refl, ap, ◌∙◌}
use Rattle.std.specs.FinMap as map
use Rattle.cfdp_header.specs.declared.value.TransactionId.{TransactionId}
use Rattle.cfdp_header.specs.Ids.{same_id}
use Rattle.cfdp_header.proofs.Ids.{same_id-itself}
use Rattle.cfdp_directives.specs.declared.user.limits.Times.{Times}
use Rattle.cfdp_timers.specs.declared.kind.Kind.{Kind}
use Rattle.cfdp_timers.specs.declared.kind.Kind.TheVariants.{EofAck, Nak, FinishedAck, Inactivity}
use Rattle.cfdp_timers.specs.declared.wait.Waits.{Waits}
use Rattle.cfdp_timers.specs.Order.{Timer}
use Rattle.cfdp_timers.specs.Armed.{Armed, TimersState, deadline_of}
use Rattle.cfdp_timers.specs.Waits.{deadline_by, wait_by, wait_for, waited}
use Rattle.cfdp_sender.specs.State.{SenderState}
use Rattle.cfdp_sender.specs.Steps.{sender_waits}
use Rattle.cfdp_sender.specs.Does.{waits_of, timers_set}
use Rattle.cfdp_timers.specs.Waits.{is_anew}

-- what `what_is_waited_for_is_armed` says
abbrev pub ArmsWaited : Type 0
ArmsWaited = (now : ℕ) (id : TransactionId) (waits : Waits) (armed : Armed) (t : Timer)
    → map.get (waited now id waits armed) t
    ≡ (if same_id id t.0 then deadline_by now (wait_for waits t.1) (map.get armed t) else map.get armed t)

-- a wait arms a timer, if there is one
wait-arms : (now duration : ℕ) (waits anew : Bool) (old : Option ℕ) → is_some (deadline_by now (wait_by waits anew duration) old) ≡ waits
wait-arms now duration false anew old = refl
wait-arms now duration true true old = refl
wait-arms now duration true false None = refl
wait-arms now duration true false (Some at) = refl

waits-arm : (times : Times) (anew : Option Kind) (x : SenderState) (now : ℕ) (kind : Kind) (old : Option ℕ)
    → is_some (deadline_by now (wait_for (waits_of times anew x) kind) old) ≡ sender_waits kind x
waits-arm times anew x now EofAck old = wait-arms now times.eof (sender_waits EofAck x) (is_anew anew EofAck) old
waits-arm times anew x now Nak old = wait-arms now times.nak (sender_waits Nak x) (is_anew anew Nak) old
waits-arm times anew x now FinishedAck old = wait-arms now times.finished (sender_waits FinishedAck x) (is_anew anew FinishedAck) old
waits-arm times anew x now Inactivity old = wait-arms now times.inactivity (sender_waits Inactivity x) (is_anew anew Inactivity) old

pub armed-waits : ArmsWaited → (times : Times) (anew : Option Kind) (x : SenderState) (timers : TimersState) (kind : Kind)
    → is_some (deadline_of (timers_set times anew x timers) x.addressing.id kind) ≡ sender_waits kind x
armed-waits arms times anew x timers kind =
    let id = x.addressing.id in
    let new : Option ℕ = deadline_by timers.time (wait_for (waits_of times anew x) kind) (map.get timers.armed (id, kind)) in
    ap is_some (arms timers.time id (waits_of times anew x) timers.armed (id, kind) ∙ ap (λ (b : Bool). if b then new else map.get timers.armed (id, kind)) (same_id-itself id))
    ∙ waits-arm times anew x timers.time kind (map.get timers.armed (id, kind))

pub others-keep : ArmsWaited → (times : Times) (anew : Option Kind) (x : SenderState) (timers : TimersState) (other : TransactionId) (kind : Kind)
    → same_id x.addressing.id other ≡ false → deadline_of (timers_set times anew x timers) other kind ≡ deadline_of timers other kind
others-keep arms times anew x timers other kind differs =
    let new : Option ℕ = deadline_by timers.time (wait_for (waits_of times anew x) kind) (map.get timers.armed (other, kind)) in
    arms timers.time x.addressing.id (waits_of times anew x) timers.armed (other, kind)
    ∙ ap (λ (b : Bool). if b then new else map.get timers.armed (other, kind)) differs
