use Rattle.std.proofs.Common.{◌≡◌, ℕ, ◌++◌, List, [], ◌∷◌, length, refl, sym, ap, subst, ◌∙◌, arith, inr, None, OnOk, IsErr}
use Rattle.mpdu.specs.Packing.{IsAt}
use Rattle.mpdu.specs.Packets.{busy}
use Rattle.link_stack.specs.Frames.{packet_of, packet_drop, pdus_in}
use Rattle.link_stack.specs.Downward.{LinkSenderState}
use Rattle.link_stack.proofs.Sent.{ours, of_link-push, at_of, down_is, was_put}
use Rattle.link_stack.proofs.Grown.{its_pdu}
use Rattle.link_stack.proofs.down_lane.DownLane.send.Goals as goal

pub returns-clause-stream : goal.returns-clause-stream
returns-clause-stream c ps made is =
    let d = c.args.self.now in
    let link = c.self.inside.link in
    let p = c.self.inside.packer in
    let text : List ℕ = packet_of d.link c.args.count c.args.pdu.now in
    let same : (c.header_of-header.result ++ c.args.pdu.now) ≡ text =
    c.header_of-header.ensures.written ∙ ap (λ (x : LinkSenderState). packet_of x.link c.args.count c.args.pdu.now) c.self.view_is in
    let carries : packet_drop link ((c.header_of-header.result ++ c.args.pdu.now)) ≡ None = ours link _ _ c.header_of-header.ensures.spelled refl refl refl in
    let at : IsAt p ps made = at_of d link p c.self.inside.frames ps made (sym c.self.view_is) c.self.invariant.1 is in
    let room : IsErr c.push_pieces.result → ⊥ = λ (e : IsErr c.push_pieces.result).
    omega (
      arith,
      c.push_pieces.ensures.full.0 e,
      c.header_of-header.ensures.len,
      c.requires.room,
      c.requires.some,
      ap (λ (x : LinkSenderState). x.capacity) c.self.view_is,
      ap (λ (x : LinkSenderState). length x.waiting) c.self.view_is,
    ) in
    let P : Type 0 = IsAt c.push_pieces.new.self (ps ++ (c.header_of-header.result ++ c.args.pdu.now) ∷ []) made in
    let pushed : OnOk c.push_pieces.result P = c.push_pieces.ensures.stream ps made at in
    down_is d link p c.push_pieces.new.self c.self.inside.frames c.self.inside.frames ps (ps ++ text ∷ []) made made (sym c.self.view_is)
    (c.push_pieces.ensures.fixed.0 ∙ c.self.invariant.1)
    (λ all. of_link-push link ps text all (inr (subst (λ (t : List ℕ). packet_drop link t ≡ None) same carries))) (λ e. e) is
    (subst (λ (t : List ℕ). IsAt c.push_pieces.new.self (ps ++ t ∷ []) made) same (was_put c.push_pieces.result room pushed))

pub returns-clause-pdu : goal.returns-clause-pdu
returns-clause-pdu c =
    let link = c.self.inside.link in
    let made : pdus_in (busy (packet_of link c.args.count c.args.pdu.now ∷ [])) ≡ c.args.pdu.now ∷ [] =
    its_pdu link c.args.count c.args.pdu.now c.self.invariant.0 c.requires.count c.requires.some
    (omega (arith, c.self.invariant.2, c.requires.room, ap (λ (x : LinkSenderState). x.capacity) c.self.view_is)) in
    subst (λ (x : LinkSenderState). pdus_in (busy (packet_of x.link c.args.count c.args.pdu.now ∷ [])) ≡ c.args.pdu.now ∷ []) c.self.view_is made
