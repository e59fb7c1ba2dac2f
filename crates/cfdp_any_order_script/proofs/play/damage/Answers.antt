use Rattle.std.proofs.Common.{◌≡◌, ◌∙◌, List, ℕ, Bool, true, false, refl, ap, subst}
use Rattle.any_order.specs.declared.answers.SentFrame.{SentFrame}
use Rattle.any_order.specs.World.{Happened, octets_calls, side_of}
use Rattle.any_order.specs.Calls.{other}
use Rattle.cfdp_any_order_script.proofs.Playing.{comes_damaged, frames, removed}
use Rattle.cfdp_any_order_script.specs.Performing.{made_by}
use Rattle.cfdp_any_order_script.proofs.play.damage.Goals as goal

pub returns-then-not-deliver_octets : goal.returns-then-not-deliver_octets
returns-then-not-deliver_octets c =
    let same : c.as_slice.result.now ≡ made_by c.args.instead c.in-Some-frame.octets.now = c.as_slice.ensures ∙ c.in-Ok.ensures in
    let calls = subst (λ (o : List ℕ). Happened (other (side_of c.args.from)) (octets_calls o c.deliver_octets.result) c.args.world.now c.deliver_octets.new.self) same c.deliver_octets.ensures.happened in
    let done = subst (λ (b : Bool). Happened (other (side_of c.args.from)) (octets_calls (made_by c.args.instead c.in-Some-frame.octets.now) b) c.args.world.now c.deliver_octets.new.self) c.if-not-deliver_octets.true calls in
    comes_damaged (made_by c.args.instead) c.args.from c.args.lane c.in-Some.place c.in-Some.frame c.in-Some-frame.octets.now false _ _ _ _ _ c.in-Some.ensures c.in-Some-frame.ensures refl done refl

pub returns : goal.returns
returns c =
    let same : c.as_slice.result.now ≡ made_by c.args.instead c.in-Some-frame.octets.now = c.as_slice.ensures ∙ c.in-Ok.ensures in
    let calls = subst (λ (o : List ℕ). Happened (other (side_of c.args.from)) (octets_calls o c.deliver_octets.result) c.args.world.now c.deliver_octets.new.self) same c.deliver_octets.ensures.happened in
    let done = subst (λ (b : Bool). Happened (other (side_of c.args.from)) (octets_calls (made_by c.args.instead c.in-Some-frame.octets.now) b) c.args.world.now c.deliver_octets.new.self) c.if-not-deliver_octets.false calls in
    let waits = removed c.args.frames.now.waiting.items c.remove.new.self.items c.in-Some.place _ c.in-Some.frame c.remove.result c.in-Some.ensures.there c.args.frames.now.waiting.ok.0 c.remove.ensures.variant c.remove.ensures.items in
    comes_damaged (made_by c.args.instead) c.args.from c.args.lane c.in-Some.place c.in-Some.frame c.in-Some-frame.octets.now true _ _ _ _ _ c.in-Some.ensures c.in-Some-frame.ensures refl done (ap (λ (w : List SentFrame). frames w c.args.frames.now.arrived.items) waits)
