use Rattle.std.proofs.Common.{ap}
use Rattle.cfdp_store.specs.declared.sources.Shown.TheVariants.{Missing}
use Rattle.cfdp_store.proofs.ShownLemmas.{noted, none-missing, looks-missing, lens-missing}
use Rattle.cfdp_store.proofs.catalog.Catalog.forget.Goals as goal

pub invariant_of-self : goal.invariant_of-self
invariant_of-self c =
    let old = c.args.self.now in
    let next = noted c.put.ensures (ap Missing c.of.ensures) in
    record { lens = lens-missing old.expected.value next old.stamps c.remove.new.self c.remove.ensures old.lens }

pub returns-clause-none : goal.returns-clause-none
returns-clause-none c = none-missing c.args.self.now.expected.value (noted c.put.ensures (ap Missing c.of.ensures))

pub returns-clause-looks : goal.returns-clause-looks
returns-clause-looks c = looks-missing c.args.self.now.expected.value (noted c.put.ensures (ap Missing c.of.ensures))
