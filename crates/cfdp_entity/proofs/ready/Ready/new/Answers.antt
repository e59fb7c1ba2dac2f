use Rattle.cfdp_entity.proofs.Flags.{first-indexed, no-flags}
use Rattle.cfdp_entity.proofs.ready.Ready.new.Goals as goal

pub invariant_of-result : goal.invariant_of-result
invariant_of-result c = first-indexed c.in_ok-words.words.items c.in_ok-words.ensures.items

pub returns : goal.returns
returns c = no-flags c.in_ok-words.words.items
