use Rattle.std.proofs.Common.{◌≡◌, ◌≤◌, [], length, ◌++◌, sym, subst, ◌∙◌}
use Rattle.mpdu.specs.Packets.{busy}
use Rattle.mpdu.specs.Packing.{PackerState, IsAt, flush_of}
use Rattle.link_stack.specs.Downward.{packing}
use Rattle.link_stack.proofs.Sent.{idle_of_link, same_packing, at_of, down_is}
use Rattle.link_stack.proofs.down_lane.DownLane.flush.Goals as goal

pub returns-clause-idle : goal.returns-clause-idle
returns-clause-idle c =
    subst (λ (x : PackerState). (length (flush_of x) ≤ 1) × (busy (flush_of x) ≡ []))
    (same_packing c.args.self.now c.self.inside.link c.self.inside.packer c.self.inside.frames (sym c.self.view_is) c.self.invariant.1)
    c.flush.ensures.idle

pub returns-clause-stream : goal.returns-clause-stream
returns-clause-stream c ps made is =
    let d = c.args.self.now in
    let link = c.self.inside.link in
    let p = c.self.inside.packer in
    let size = c.self.invariant.1 in
    let same : p ≡ packing d = same_packing d link p c.self.inside.frames (sym c.self.view_is) size in
    let at : IsAt p ps made = at_of d link p c.self.inside.frames ps made (sym c.self.view_is) size is in
    let none : busy (flush_of (packing d)) ≡ [] = subst (λ (x : PackerState). busy (flush_of x) ≡ []) same (c.flush.ensures.idle.1) in
    down_is d link p c.flush.new.self c.self.inside.frames c.self.inside.frames ps (ps ++ flush_of (packing d)) made made (sym c.self.view_is)
    (c.flush.ensures.fixed.0 ∙ size)
    (λ all. idle_of_link link ps (flush_of (packing d)) none all) (λ e. e) is
    (subst (λ (x : PackerState). IsAt c.flush.new.self (ps ++ flush_of x) made) same (c.flush.ensures.stream ps made at))
