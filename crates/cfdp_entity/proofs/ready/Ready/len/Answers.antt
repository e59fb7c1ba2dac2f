use Rattle.std.proofs.Common.{length, sym, ap, ◌∙◌}
use Rattle.cfdp_entity.proofs.Flags.{length-flags}
use Rattle.cfdp_entity.proofs.ready.Ready.len.Goals as goal

pub returns-clause-len : goal.returns-clause-len
returns-clause-len c = sym (length-flags c.self.inside.len c.self.inside.words.items) ∙ ap length c.self.view_is
