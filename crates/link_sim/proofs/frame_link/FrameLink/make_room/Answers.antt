use Rattle.std.proofs.Common.{ap, ◌∙◌}
use Rattle.link_sim.proofs.Ways.Placing.{pieces_grown}
use Rattle.link_sim.proofs.frame_link.FrameLink.make_room.Goals as goal

pub returns-clause-kept : goal.returns-clause-kept
returns-clause-kept c =
    let i = c.self.inside in (
      pieces_grown i.len i.count i.blanks c.args.count c.in-Some.octets i.octets.items c.resize.new.self.items _ c.self.invariant.0 c.in-Some.ensures c.in_ok-resize.ensures.items
          ∙ ap (λ x. x.frames) c.self.view_is,
      c.reserve.ensures.items ∙ ap (λ x. x.marks) c.self.view_is,
      ap (λ x. x.run) c.self.view_is,
      ap (λ x. x.len) c.self.view_is,
    )
