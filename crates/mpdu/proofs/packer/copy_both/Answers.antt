use Rattle.std.proofs.Common.{◌≡◌, ℕ, ◌+◌, ◌++◌, List, length, take, sym, ap, ◌∙◌, arith}
use Rattle.std.proofs.Math.Seq.{take-append-add}
use Rattle.mpdu.proofs.packer.copy_both.Goals as goal

pub returns : goal.returns
returns c =
    let front : List ℕ = c.args.front.now in
    let behind : List ℕ = c.args.behind.now in
    let n : ℕ = length c.split_at_mut-left.result.1.now in
    let len : length c.args.out.now ≡ length front + n = omega (arith, c.split_at_mut-left.ensures.front_len, c.split_at_mut-left.ensures.back_len) in
    ap (λ l. l ++ c.copy_from_slice-2.new.self) c.copy_from_slice.ensures.after ∙ ap (λ l. front ++ l) c.copy_from_slice-2.ensures.after
    ∙ sym (ap (λ m. take m (front ++ behind)) len ∙ take-append-add front behind n)
