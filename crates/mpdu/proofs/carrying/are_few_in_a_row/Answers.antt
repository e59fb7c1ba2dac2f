use Rattle.std.proofs.Common.{◌≡◌, ℕ, ◌+◌, true, false, IsTrue, length, get_or, refl, subst, ◌∙◌, arith}
use Rattle.aos_frame.specs.Counts.{frame_counts}
use Rattle.mpdu.specs.Carrying.{AreFewInARow}
use Rattle.mpdu.proofs.Counted.{AreFewBelow, mark-inside, few_came, few_all, many_lost}
use Rattle.mpdu.proofs.carrying.are_few_in_a_row.Goals as goal

pub loop-lost-preserved-then-not-lost : goal.loop-lost-preserved-then-not-lost
loop-lost-preserved-then-not-lost c =
    few_came c.args.struck.now c.loop-lost.lost-index c.loop-lost.run c.loop-lost.invariant (mark-inside c.args.struck.now c.loop-lost.lost-index false _ (omega arith) ∙ c.if-not-lost.true)

pub returns-then-run : goal.returns-then-run
returns-then-run c =
    let full : c.loop-lost.run + 1 ≡ frame_counts = omega arith in
    let lost : get_or c.args.struck.now c.loop-lost.lost-index false ≡ true = mark-inside c.args.struck.now c.loop-lost.lost-index false _ (omega arith) ∙ c.if-not-lost.false in (
      (λ (bad : IsTrue false). absurd (cc)),
      (λ (few : AreFewInARow c.args.struck.now). absurd (many_lost c.args.struck.now c.loop-lost.lost-index c.loop-lost.run c.loop-lost.invariant lost full few)),
    )

pub returns : goal.returns
returns c =
    let end : c.loop-lost.lost-index ≡ length c.args.struck.now = omega arith in (
      (λ (ok : IsTrue true). few_all c.args.struck.now c.loop-lost.run (subst (λ (n : ℕ). AreFewBelow c.args.struck.now n c.loop-lost.run) end c.loop-lost.invariant)),
      (λ (few : AreFewInARow c.args.struck.now). refl),
    )
