-- The deadlines that were read stand for the timers that are set later.
use Rattle.std.proofs.Common.{◌≡◌, ◌≢◌, ℕ, Option, sym, ap, ◌∙◌}
use Rattle.cfdp_header.specs.declared.value.TransactionId.{TransactionId}
use Rattle.cfdp_timers.specs.declared.kind.Kind.{Kind}
use Rattle.cfdp_timers.specs.declared.kind.Kind.TheVariants.{EofAck, Nak, FinishedAck, Inactivity}
use Rattle.cfdp_timers.specs.declared.wait.Wait.{Wait}
use Rattle.cfdp_timers.specs.Order.{kind_place}
use Rattle.cfdp_timers.specs.Armed.{TimersState, deadline_of}
use Rattle.cfdp_timers.specs.Waits.{with_wait}
use Rattle.cfdp_timers.proofs.Waited.{of_kind}
use Rattle.cfdp_timers.proofs.timers.Timers.set.Goals as goal

stands : (s t : TimersState) (id : TransactionId) (wait : Wait) (kind k : Kind) (at : Option ℕ) → kind_place k ≢ kind_place kind
    → at ≡ deadline_of s id k → t ≡ record s { armed = with_wait s.time id kind wait s.armed } → at ≡ deadline_of t id k
stands s t id wait kind k at apart is e =
    is ∙ sym (of_kind s.time id wait s.armed kind k apart) ∙ ap (λ (u : TimersState). deadline_of u id k) (sym e)

pub set_one-requires-2-clause-old : goal.set_one-requires-2-clause-old
set_one-requires-2-clause-old c =
    stands c.args.self.now c.set_one.new.self c.args.id c.args.waits.now.eof_ack EofAck Nak c.deadlines-old.result.nak (λ e. absurd (cc)) (c.deadlines-old.ensures Nak) c.set_one.ensures

pub set_one-requires-3-clause-old : goal.set_one-requires-3-clause-old
set_one-requires-3-clause-old c =
    let at = c.deadlines-old.result.finished_ack in
    let one = stands c.args.self.now c.set_one.new.self c.args.id c.args.waits.now.eof_ack EofAck FinishedAck at (λ e. absurd (cc)) (c.deadlines-old.ensures FinishedAck) c.set_one.ensures in
    stands c.set_one.new.self c.set_one-2.new.self c.args.id c.args.waits.now.nak Nak FinishedAck at (λ e. absurd (cc)) one c.set_one-2.ensures

pub set_one-requires-4-clause-old : goal.set_one-requires-4-clause-old
set_one-requires-4-clause-old c =
    let at = c.deadlines-old.result.inactivity in
    let one = stands c.args.self.now c.set_one.new.self c.args.id c.args.waits.now.eof_ack EofAck Inactivity at (λ e. absurd (cc)) (c.deadlines-old.ensures Inactivity) c.set_one.ensures in
    let two = stands c.set_one.new.self c.set_one-2.new.self c.args.id c.args.waits.now.nak Nak Inactivity at (λ e. absurd (cc)) one c.set_one-2.ensures in
    stands c.set_one-2.new.self c.set_one-3.new.self c.args.id c.args.waits.now.finished_ack FinishedAck Inactivity at (λ e. absurd (cc)) two c.set_one-3.ensures
