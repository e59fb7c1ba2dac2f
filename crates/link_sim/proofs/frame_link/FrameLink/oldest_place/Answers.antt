use Rattle.std.proofs.Common.{◌≡◌, ◌<◌, ◌≤◌, MatchOption, length, sym, ap, subst, ◌∙◌, arith, ℕ}
use Rattle.std.specs.List.{slice_get}
use Rattle.link_sim.specs.FrameLink.{FrameLinkState}
use Rattle.link_sim.proofs.Ways.Placing.{pieces_len, place_waits}
use Rattle.link_sim.proofs.frame_link.FrameLink.oldest_place.Goals as goal

pub returns-clause-waits : goal.returns-clause-waits
returns-clause-waits c =
    let i = c.self.inside in
    let now : FrameLinkState = c.args.self.now in
    let at : c.len.result ≡ length now.marks = omega (arith, c.len.ensures, ap (λ (k : FrameLinkState). length k.marks) c.self.view_is) in
    let read : c.place.result ≡ slice_get now.places (length now.marks) = c.place.ensures ∙ ap (λ (n : ℕ). slice_get now.places n) at in
    let long : length now.places ≡ length now.frames =
    ap (λ (k : FrameLinkState). length k.places) (sym c.self.view_is) ∙ c.self.invariant.2 ∙ sym (pieces_len i.len i.count i.octets.items) ∙ ap (λ (k : FrameLinkState). length k.frames) c.self.view_is in
    subst (λ r. MatchOption r (length now.frames ≤ length now.marks) (λ x. length now.marks < length now.frames)) (sym read) (place_waits now.places (length now.marks) (length now.frames) long)
