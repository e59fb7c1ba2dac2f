use Rattle.std.proofs.Common.{◌≡◌, ap, sym, subst, ◌∙◌, arith}
use Rattle.link_stack.specs.Downward.{LinkSenderState, IsDown, counted_from, idle_zones}
use Rattle.link_stack.proofs.Sent.{descent}
use Rattle.link_stack.proofs.Counted.{counted_is}
use Rattle.link_stack.proofs.down_lane.DownLane.count_from.Goals as goal

pub returns-clause-stream : goal.returns-clause-stream
returns-clause-stream c is =
    let d = c.args.self.now in
    let link = c.self.inside.link in
    let p = c.self.inside.packer in
    let zone : d.link.zone ≡ link.zone = ap (λ (x : LinkSenderState). x.link.zone) (sym c.self.view_is) in
    let same : counted_from c.args.count d ≡ descent link p c.from_count-self-inside.result c.self.inside.control =
    ap (λ (x : LinkSenderState). counted_from c.args.count x) (sym c.self.view_is) ∙ ap (λ n. descent link p n c.self.inside.control) (sym c.from_count-self-inside.ensures) in
    subst (λ (x : LinkSenderState). IsDown x (idle_zones d.link.zone c.args.count) c.args.count) same
    (counted_is d c.args.count (omega (arith, zone, c.self.invariant.0.least_zone)) (omega (arith, zone, c.self.invariant.0.most_zone)) is)
