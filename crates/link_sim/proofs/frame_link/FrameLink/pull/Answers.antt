use Rattle.std.proofs.Common.{◌≡◌, ℕ, ◌+◌, ◌-◌, ◌*◌, List, [], ◌∷◌, ◌++◌, length, take, drop, sym, ap, subst, ◌∙◌, arith}
use Rattle.aos_frame.specs.Frame.{frame_len}
use Rattle.link_stack.specs.Downward.{LinkSenderState, MakesFrame, lane_down}
use Rattle.link_stack.specs.Upward.{LinkReceiverState}
use Rattle.link_sim.specs.FrameLink.{FrameLinkState, pieces}
use Rattle.link_sim.specs.OneWay.{OneWayState, IsOneWay, SendsNone, one_way, packets_sent}
use Rattle.link_sim.proofs.Ways.Placing.{pieces_len, pieces_pulled}
use Rattle.link_sim.proofs.Ways.Pulling.{pulls}
use Rattle.link_sim.proofs.frame_link.FrameLink.pull.Goals as goal

pub returns-clause-way : goal.returns-clause-way
returns-clause-way g c =
    let i = c.self.inside in
    let d : LinkSenderState = lane_down c.args.lane c.args.station.now.down in
    let e : LinkSenderState = lane_down c.args.lane c.write_frame.new.station.down in
    let w : List ℕ = c.write_frame.new.octets in
    let written : List ℕ = take i.octets.len (w ++ drop (length w) i.octets.items) in
    let frame : List ℕ = take i.len (drop (i.count * i.len) w) in
    let k : FrameLinkState =
    record { frames = pieces i.len i.count i.octets.items; places = i.places.items; marks = i.marks.items; run = i.run; blanks = i.blanks; len = i.len } in
    let m : FrameLinkState = record { frames = pieces i.len (i.count + 1) written; places = i.places.items; marks = i.marks.items; run = i.run; blanks = i.blanks - 1; len = i.len } in
    let whole : length w ≡ i.octets.len = omega (arith, c.write_frame.ensures.whole, c.deref_mut.ensures.len) in
    let grown : pieces i.len (i.count + 1) written ≡ pieces i.len i.count i.octets.items ++ frame ∷ [] =
    pieces_pulled i.len i.count i.octets.len w i.octets.items c.deref_mut.result.now whole c.deref_mut.ensures.value c.write_frame.ensures.front in
    let size : frame_len d.link ≡ i.len = sym (ap (λ x. x.len) c.self.view_is ∙ c.requires.len) in
    let made : MakesFrame frame d e = subst (λ (n : ℕ). MakesFrame (take n (drop (i.count * i.len) w)) d e) size c.write_frame.ensures.made in
    let one : (up : LinkReceiverState) → IsOneWay (one_way d k up) → SendsNone (one_way d k up) (one_way e m up) = λ (up : LinkReceiverState) (is : IsOneWay (one_way d k up)).
    let l : OneWayState = one_way d k up in
    subst (λ (x : List (List ℕ)). SendsNone l (record l { down = e; frames = x })) (sym grown)
    (pulls l e frame is (
      made.is_next (packets_sent l) (length l.frames) is.sent.made,
      made.inside (packets_sent l) (length l.frames) is.sent.made,
      made.after (packets_sent l) (length l.frames) is.sent.made,
    ) made.zone made.waiting (made.link, made.control)) in
    subst (λ (x : FrameLinkState). (up : LinkReceiverState) → IsOneWay (one_way d x up) → SendsNone (one_way d x up) (one_way e m up)) c.self.view_is one

pub returns-clause-grown : goal.returns-clause-grown
returns-clause-grown g c done =
    let i = c.self.inside in
    let before : length c.args.self.now.frames ≡ i.count = ap (λ x. length x.frames) (sym c.self.view_is) ∙ pieces_len i.len i.count i.octets.items in
    pieces_len i.len (i.count + 1) _ ∙ ap (λ n. n + 1) (sym before)
