use Rattle.std.proofs.Common.{◌≡◌, ℕ, ◌+◌, ◌++◌, List, length, sym, ap, subst, arith, length-append}
use Rattle.aos_frame.specs.declared.fields.FrameFields.{FrameFields}
use Rattle.aos_frame.specs.LinkFields.{extra}
use Rattle.link_stack.specs.Downward.{LinkSenderState, MakesBare}
use Rattle.link_stack.proofs.Sent.{bare_at}
use Rattle.link_stack.proofs.down_lane.DownLane.put_bare.Goals as goal

pub returns-clause-made : goal.returns-clause-made
returns-clause-made c done =
    let d : LinkSenderState = c.args.self.now in
    let fields : FrameFields = d.link.fields in
    let h : List ℕ = c.next_bare.new.header in
    let a : List ℕ = c.split_at_mut-insert.result.0.now in
    let m : List ℕ = c.next_bare.new.mpdu in
    let b : List ℕ = c.split_at_mut-mpdu.result.1.now in
    let insert : c.self.inside.link.fields.insert_zone ≡ fields.insert_zone = ap (λ (x : LinkSenderState). x.link.fields.insert_zone) c.self.view_is in
    let zone : c.self.inside.link.zone ≡ d.link.zone = ap (λ (x : LinkSenderState). x.link.zone) c.self.view_is in
    let lh : length h ≡ 6 = omega (arith, c.next_bare.auto.header, c.split_at_mut-header.ensures.front_len) in
    let la : length a ≡ fields.insert_zone = omega (arith, c.split_at_mut-insert.ensures.front_len, c.from.ensures, insert) in
    let two : length m ≡ 2 + d.link.zone = omega (arith, c.next_bare.auto.mpdu, c.split_at_mut-mpdu.ensures.front_len, c.from-2.ensures, zone) in
    let lm : length m + 6 + extra fields ≡ length (h ++ (a ++ (m ++ b))) =
    omega (
      arith,
      length-append h (a ++ (m ++ b)),
      length-append a (m ++ b),
      length-append m b,
      lh,
      la,
      two,
      c.split_at_mut-header.ensures.back_len,
      c.split_at_mut-insert.ensures.back_len,
      c.split_at_mut-mpdu.ensures.back_len,
      c.split_at_mut-mpdu.ensures.front_len,
      c.from-2.ensures,
      zone,
      c.requires,
    ) in
    subst (λ (l : List ℕ). MakesBare l d c.next_bare.new.self) (sym (bare_at fields h a m b lh la lm)) (c.next_bare.ensures.made done)
