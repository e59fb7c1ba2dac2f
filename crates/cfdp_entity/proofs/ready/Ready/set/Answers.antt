use Rattle.std.proofs.Common.{◌/◌, ap, ◌∙◌, arith}
use Rattle.std.specs.Prelude.{slice_set}
use Rattle.std.specs.Int.{bit_at}
use Rattle.std.proofs.lemmas.List.{get_or_read}
use Rattle.cfdp_entity.proofs.Flags.{low-place, set-indexed, set-flags}
use Rattle.cfdp_entity.proofs.ready.Ready.set.Goals as goal

pub index-requires : goal.index-requires
index-requires c =
    let low = low-place c.self.inside.len c.self.inside.words.items c.args.self.now c.args.place c.self.view_is c.requires.within in
    let few = c.self.invariant.few in
    let whole = c.self.invariant.whole in
    let is = c.self.inside.words.ok.0 in
    omega arith

pub index_mut-requires : goal.index_mut-requires
index_mut-requires c =
    let low = low-place c.self.inside.len c.self.inside.words.items c.args.self.now c.args.place c.self.view_is c.requires.within in
    let few = c.self.invariant.few in
    let whole = c.self.invariant.whole in
    let is = c.self.inside.words.ok.0 in
    omega arith

pub with_bit-self-inside-requires : goal.with_bit-self-inside-requires
with_bit-self-inside-requires c =
    let low = low-place c.self.inside.len c.self.inside.words.items c.args.self.now c.args.place c.self.view_is c.requires.within in
    let few = c.self.invariant.few in
    omega arith

pub invariant_of-self : goal.invariant_of-self
invariant_of-self c =
    let low = low-place c.self.inside.len c.self.inside.words.items c.args.self.now c.args.place c.self.view_is c.requires.within in
    let few = c.self.invariant.few in
    let whole = c.self.invariant.whole in
    let word = get_or_read c.self.inside.words.items (c.args.place / 64) c.index.result.now (omega arith) c.index.ensures 0 in
    set-indexed c.self.inside.len c.self.inside.words.items c.self.inside.some c.self.invariant c.args.place c.args.due c.with_bit-flags.result (omega arith)
    c.with_bit-flags.ensures.here (λ i l apart. c.with_bit-flags.ensures.others i l apart ∙ ap (λ y. bit_at y i) word)
    c.with_bit-self-inside.result c.with_bit-self-inside.ensures.here c.with_bit-self-inside.ensures.others

pub returns : goal.returns
returns c =
    let low = low-place c.self.inside.len c.self.inside.words.items c.args.self.now c.args.place c.self.view_is c.requires.within in
    let few = c.self.invariant.few in
    let whole = c.self.invariant.whole in
    let word = get_or_read c.self.inside.words.items (c.args.place / 64) c.index.result.now (omega arith) c.index.ensures 0 in
    set-flags c.self.inside.len c.self.inside.words.items c.self.inside.some c.self.invariant c.args.place c.args.due c.with_bit-flags.result (omega arith)
    c.with_bit-flags.ensures.here (λ i l apart. c.with_bit-flags.ensures.others i l apart ∙ ap (λ y. bit_at y i) word)
    c.with_bit-self-inside.result c.with_bit-self-inside.ensures.here c.with_bit-self-inside.ensures.others
    ∙ ap (λ flags. slice_set flags c.args.place c.args.due) c.self.view_is
