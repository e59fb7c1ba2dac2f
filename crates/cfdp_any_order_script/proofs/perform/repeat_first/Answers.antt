use Rattle.std.proofs.Common.{ℕ, None, sym, subst, add-one}
use Rattle.cfdp_any_order_script.specs.Performing.{BefallsFirst, Times}
use Rattle.cfdp_any_order_script.proofs.perform.repeat_first.Goals as goal

pub returns-in-Some : goal.returns-in-Some
returns-in-Some c =
    (c.loop-done.done, c.loop-done-test.true, c.loop-done.play, c.loop-done.invariant, c.in-Some.answer, c.told_after.ensures, c.in-Some.ensures)

pub loop-done-preserved : goal.loop-done-preserved
loop-done-preserved c =
    let Often : ℕ → Type 0 = λ n. Times (BefallsFirst c.args.fate c.args.from None) n c.args.play.now c.once_first.new.play in
    subst Often (sym (add-one c.loop-done.done)) (c.loop-done.play, c.loop-done.invariant, c.in_default.ensures)
