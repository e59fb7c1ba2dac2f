use Rattle.std.proofs.Common.{◌+◌, ◌<◌, ◌++◌, ◌∷◌, [], length, ap, subst, sym, ◌∙◌, arith}
use Rattle.cfdp_entity.specs.Ready.{flags_in}
use Rattle.cfdp_entity.proofs.Flags.{length-flags, more-indexed, pushed}
use Rattle.cfdp_entity.proofs.ready.Ready.push.Goals as goal

pub invariant_of-self : goal.invariant_of-self
invariant_of-self c =
    let room : length (flags_in c.self.inside.len c.self.inside.words.items) < 4096 = subst (λ flags. length flags < 4096) (sym c.self.view_is) c.requires.room in
    more-indexed c.self.inside.len c.self.inside.words.items c.self.inside.some c.self.invariant (let len = length-flags c.self.inside.len c.self.inside.words.items in omega arith)

pub set-requires : goal.set-requires
set-requires c = record { within = let len = length-flags (c.self.inside.len + 1) c.self.inside.words.items in omega arith }

pub returns : goal.returns
returns c =
    c.set.ensures ∙ pushed c.self.inside.len c.self.inside.words.items c.self.inside.some c.self.invariant c.args.due
    ∙ ap (λ flags. flags ++ c.args.due ∷ []) c.self.view_is
