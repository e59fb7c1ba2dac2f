use Rattle.std.proofs.Common.{◌||◌, Ok, rules, arith}
use Rattle.std.proofs.lemmas.Grind.{common_steps}
use Rattle.std.proofs.lemmas.Result.{err_from_is_err_and}
use Rattle.aos_frame.specs.declared.config.Lane.TheVariants.{Directives}
use Rattle.link_sim.specs.Parts.{SettlesPart}
use Rattle.link_sim.specs.Settling.{first_event}
use Rattle.link_sim.specs.declared.event.Event.TheVariants as event
use Rattle.station_pair.specs.declared.side.Side.TheVariants.{One, Two}
use Rattle.station_pair.specs.declared.settle_error.SettleError.{SettleError}
use Rattle.link_sim.proofs.Clean.Causes.{any-true, round-settled}
use Rattle.link_sim.proofs.Clean.Parts.{err-as, first-fails, none-true, part-both, part-else, part-then, part-three, then-fails}
use Rattle.link_sim.proofs.world.World.settle_round.Goals as goal

pub returns-in_err-one-clause-part : goal.returns-in_err-one-clause-part
returns-in_err-one-clause-part g c =
    let p = err_from_is_err_and c.from_residual.result c.from_residual.ensures.1 in
    let e : SettleError = c.in_err-one.field-0.0 in
    err-as c.from_residual.result (λ r. SettlesPart first_event first_event r c.args.self.now c.send_all.new.self) p.0 e p.1 p.2
    (first-fails first_event (event.Poll Two) first_event e c.args.self.now c.send_all.new.self c.in_err-one.ensures.part)

pub returns-in_err-two-clause-part : goal.returns-in_err-two-clause-part
returns-in_err-two-clause-part g c =
    let p = err_from_is_err_and c.from_residual-in_err-two.result c.from_residual-in_err-two.ensures.1 in
    let e : SettleError = c.in_err-two.field-0.0 in
    err-as c.from_residual-in_err-two.result (λ r. SettlesPart first_event first_event r c.args.self.now c.send_all-2.new.self) p.0 e p.1 p.2
    (then-fails first_event (event.Poll Two) (event.Deliver One Directives) first_event c.in_ok-one.one e c.args.self.now c.send_all.new.self c.send_all-2.new.self
    c.in_ok-one.ensures.part c.in_err-two.ensures.part)

pub returns-in_err-from_one-clause-part : goal.returns-in_err-from_one-clause-part
returns-in_err-from_one-clause-part g c =
    let p = err_from_is_err_and c.from_residual-in_err-from_one.result c.from_residual-in_err-from_one.ensures.1 in
    let e : SettleError = c.in_err-from_one.field-0.0 in
    let two : SettlesPart first_event (event.Deliver One Directives) (Ok (c.in_ok-one.one || c.in_ok-two.two)) c.args.self.now c.send_all-2.new.self =
    part-both first_event (event.Poll Two) (event.Deliver One Directives) c.in_ok-one.one c.in_ok-two.two c.args.self.now c.send_all.new.self c.send_all-2.new.self
    c.in_ok-one.ensures.part c.in_ok-two.ensures.part in
    err-as c.from_residual-in_err-from_one.result (λ r. SettlesPart first_event first_event r c.args.self.now c.deliver_all.new.self) p.0 e p.1 p.2
    (then-fails first_event (event.Deliver One Directives) (event.Deliver Two Directives) first_event (c.in_ok-one.one || c.in_ok-two.two) e
    c.args.self.now c.send_all-2.new.self c.deliver_all.new.self two c.in_err-from_one.ensures.part)

pub returns-in_err-from_two-clause-part : goal.returns-in_err-from_two-clause-part
returns-in_err-from_two-clause-part g c =
    let p = err_from_is_err_and c.from_residual-in_err-from_two.result c.from_residual-in_err-from_two.ensures.1 in
    let e : SettleError = c.in_err-from_two.field-0.0 in
    let three : SettlesPart first_event (event.Deliver Two Directives) (Ok ((c.in_ok-one.one || c.in_ok-two.two) || c.in_ok-from_one.from_one)) c.args.self.now c.deliver_all.new.self =
    part-three first_event (event.Poll Two) (event.Deliver One Directives) (event.Deliver Two Directives) c.in_ok-one.one c.in_ok-two.two c.in_ok-from_one.from_one
    c.args.self.now c.send_all.new.self c.send_all-2.new.self c.deliver_all.new.self c.in_ok-one.ensures.part c.in_ok-two.ensures.part c.in_ok-from_one.ensures.part in
    err-as c.from_residual-in_err-from_two.result (λ r. SettlesPart first_event first_event r c.args.self.now c.deliver_all-2.new.self) p.0 e p.1 p.2
    (then-fails first_event (event.Deliver Two Directives) first_event first_event ((c.in_ok-one.one || c.in_ok-two.two) || c.in_ok-from_one.from_one) e
    c.args.self.now c.deliver_all.new.self c.deliver_all-2.new.self three c.in_err-from_two.ensures.part)

pub returns-then-from_one-clause-part : goal.returns-then-from_one-clause-part
returns-then-from_one-clause-part g c =
    let any = any-true c.in_ok-one.one c.in_ok-two.two c.in_ok-from_one.from_one c.if-from_one.either in
    let three : SettlesPart first_event (event.Deliver Two Directives) (Ok ((c.in_ok-one.one || c.in_ok-two.two) || c.in_ok-from_one.from_one)) c.args.self.now c.deliver_all.new.self =
    part-three first_event (event.Poll Two) (event.Deliver One Directives) (event.Deliver Two Directives) c.in_ok-one.one c.in_ok-two.two c.in_ok-from_one.from_one
    c.args.self.now c.send_all.new.self c.send_all-2.new.self c.deliver_all.new.self c.in_ok-one.ensures.part c.in_ok-two.ensures.part c.in_ok-from_one.ensures.part in
    part-then first_event (event.Deliver Two Directives) first_event _ ((c.in_ok-one.one || c.in_ok-two.two) || c.in_ok-from_one.from_one) c.in_ok-from_two.from_two
    c.args.self.now c.deliver_all.new.self c.deliver_all-2.new.self (first_of (search rules, grind (arith, common_steps))) any three c.in_ok-from_two.ensures.part

pub returns-else-from_one-clause-part : goal.returns-else-from_one-clause-part
returns-else-from_one-clause-part g c =
    let n = c.if-from_one.false in
    let three : SettlesPart first_event (event.Deliver Two Directives) (Ok ((c.in_ok-one.one || c.in_ok-two.two) || c.in_ok-from_one.from_one)) c.args.self.now c.deliver_all.new.self =
    part-three first_event (event.Poll Two) (event.Deliver One Directives) (event.Deliver Two Directives) c.in_ok-one.one c.in_ok-two.two c.in_ok-from_one.from_one
    c.args.self.now c.send_all.new.self c.send_all-2.new.self c.deliver_all.new.self c.in_ok-one.ensures.part c.in_ok-two.ensures.part c.in_ok-from_one.ensures.part in
    part-else first_event (event.Deliver Two Directives) first_event ((c.in_ok-one.one || c.in_ok-two.two) || c.in_ok-from_one.from_one) c.in_ok-from_two.from_two
    c.args.self.now c.deliver_all.new.self c.deliver_all-2.new.self (none-true c.in_ok-one.one c.in_ok-two.two c.in_ok-from_one.from_one n.0 n.1 n.2) three c.in_ok-from_two.ensures.part

pub returns-else-from_one-clause-settled : goal.returns-else-from_one-clause-settled
returns-else-from_one-clause-settled g c none =
    let n = c.if-from_one.false in
    round-settled c.args.self.now c.send_all.new.self c.send_all-2.new.self c.deliver_all.new.self c.deliver_all-2.new.self
    (c.in_ok-one.ensures.part.same n.0) (c.in_ok-two.ensures.part.same n.1) (c.in_ok-from_one.ensures.part.same n.2) (c.in_ok-from_two.ensures.part.same none)
    (c.in_ok-one.ensures.sent n.0) (c.in_ok-two.ensures.sent n.1) (c.in_ok-from_one.ensures.none_waits n.2) (c.in_ok-from_two.ensures.none_waits none) c.show_none_whole.ensures
