use Rattle.std.proofs.Common.{◌≡◌, ◌++◌, [], not, ap, ◌∙◌, List, ℕ}
use Rattle.mpdu.specs.Stream.{keep, is_idle}
use Rattle.mpdu.proofs.Joining.{finished, kept}
use Rattle.mpdu.proofs.reassembler.finish.Goals as goal

pub returns-in_ok-emit-clause-ok : goal.returns-in_ok-emit-clause-ok
returns-in_ok-emit-clause-ok c rest heads =
    let xs : List ℕ = c.args.held.now.items in
    let before : List (List ℕ) = c.args.out.now in
    let is : c.deref.result.now ≡ xs = c.deref.ensures.value in
    let more : c.emit.new.out ≡ before ++ keep (not (is_idle xs)) xs [] =
    c.in_ok-emit.ensures.ok ∙ ap (λ l. before ++ keep (not (is_idle l)) l []) is in
    let whole = c.requires.whole c.if-whole.true in
    rw c.clear.ensures.items (finished xs rest before c.emit.new.out whole.0 whole.1 heads more)

pub returns-else-whole-clause-ok : goal.returns-else-whole-clause-ok
returns-else-whole-clause-ok c rest heads =
    kept c.args.held.now.items rest c.args.out.now (c.requires.other c.if-whole.false) heads
