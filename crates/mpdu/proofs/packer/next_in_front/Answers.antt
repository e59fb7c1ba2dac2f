use Rattle.std.proofs.Common.{◌≡◌, ◌+◌, ◌≤◌, ◌++◌, ℕ, List, length, take, drop, sym, ap, ◌∙◌, arith, length-append, length-drop}
use Rattle.std.proofs.lemmas.List.{take_rest, drop-append-le, take-append-le}
use Rattle.mpdu.specs.Stream.{header_len}
use Rattle.mpdu.specs.Packing.{skip}
use Rattle.mpdu.proofs.Packed.{skip_more}
use Rattle.mpdu.proofs.Scan.{header_len-same}
use Rattle.mpdu.proofs.packer.next_in_front.Goals as goal

-- what stands after a header says nothing in it
header_len-front : (front behind : List ℕ) (at : ℕ) → at + 6 ≤ length front → header_len (drop at front) ≡ header_len (drop at (front ++ behind))
header_len-front front behind at inside =
    let six : take 6 (drop at front ++ behind) ≡ take 6 (drop at front) = take-append-le 6 (drop at front) behind (omega (arith, length-drop at front)) in
    sym (ap header_len (drop-append-le at front behind (omega arith)) ∙ header_len-same (drop at front ++ behind) (drop at front) six)

pub loop-at-preserved : goal.loop-at-preserved
loop-at-preserved c behind =
    let front : List ℕ = c.args.front.now in
    let at : ℕ = c.loop-at.at in
    let told : c.packet_len-at.result ≡ header_len (drop at (front ++ behind)) =
    c.packet_len-at.ensures.told ∙ ap header_len (take_rest front at) ∙ header_len-front front behind at c.if-at-front.true in
    c.loop-at.invariant behind ∙ skip_more c.args.size at (front ++ behind) c.loop-at-test.true (omega (arith, length-append front behind))
    ∙ ap (λ n. skip c.args.size c.args.size (at + n) (front ++ behind)) (sym told)
