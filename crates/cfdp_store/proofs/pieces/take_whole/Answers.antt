use Rattle.std.proofs.Common.{◌≡◌, length, arith}
use Rattle.cfdp_store.proofs.PieceLemmas.{only_is_front}
use Rattle.cfdp_store.proofs.pieces.take_whole.Goals as goal

pub returns-then-len-size-clause-whole : goal.returns-then-len-size-clause-whole
returns-then-len-size-clause-whole c =
    let none : length c.pop.new.self.items ≡ 0 = grind (arith, c.if-is_empty.true, c.is_empty.ensures, c.pop.new.self.ok.0) in
    let len : length c.in_ok-last.last.octets.items ≡ c.args.size = grind (arith, c.if-len-size.true, c.len.ensures, c.in_ok-last.last.octets.ok.0) in
    only_is_front _ _ _ c.args.size c.in_ok-last.ensures.items none c.if-last-eq0.true len
