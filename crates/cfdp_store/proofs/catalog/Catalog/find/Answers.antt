use Rattle.std.proofs.Common.{ap, ◌∙◌}
use Rattle.std.specs.FinMap.{insert}
use Rattle.cfdp_store.specs.declared.sources.Shown.TheVariants.{Found}
use Rattle.cfdp_store.proofs.ShownLemmas.{noted, has-found, looks-found, lens-found}
use Rattle.cfdp_store.proofs.catalog.Catalog.find.Goals as goal

pub invariant_of-self-2 : goal.invariant_of-self-2
invariant_of-self-2 c =
    let old = c.args.self.now in
    let next = noted c.put.ensures (ap (λ name. Found name c.args.stamp.len) c.of.ensures) in
    let kept = c.in_ok-insert.ensures.ok ∙ ap (λ name. insert old.stamps name c.args.stamp.len) c.in_ok-from_slice.ensures.items in
    record { lens = lens-found old.expected.value next old.stamps c.insert.new.self kept old.lens }

pub returns-clause-has : goal.returns-clause-has
returns-clause-has c =
    has-found c.args.self.now.expected.value (noted c.put.ensures (ap (λ name. Found name c.args.stamp.len) c.of.ensures))

pub returns-clause-looks : goal.returns-clause-looks
returns-clause-looks c =
    looks-found c.args.self.now.expected.value (noted c.put.ensures (ap (λ name. Found name c.args.stamp.len) c.of.ensures))
