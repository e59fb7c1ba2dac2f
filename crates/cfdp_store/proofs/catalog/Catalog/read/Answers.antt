use Rattle.cfdp_store.proofs.ShownLemmas.{noted, same-read, gives-read, lens-read}
use Rattle.cfdp_store.proofs.catalog.Catalog.read.Goals as goal

pub invariant_of-self : goal.invariant_of-self
invariant_of-self c =
    let old = c.args.self.now in
    let next = noted c.put.ensures (same-read c.args.offset c.of.ensures c.of-2.ensures) in
    record { lens = lens-read old.stamps (gives-read old.expected.value next c.requires.is_there c.requires.within) old.lens }

pub returns-clause-gives : goal.returns-clause-gives
returns-clause-gives c =
    let next = noted c.put.ensures (same-read c.args.offset c.of.ensures c.of-2.ensures) in
    (gives-read c.args.self.now.expected.value next c.requires.is_there c.requires.within).gives

pub returns-clause-rereads : goal.returns-clause-rereads
returns-clause-rereads c =
    let next = noted c.put.ensures (same-read c.args.offset c.of.ensures c.of-2.ensures) in
    (gives-read c.args.self.now.expected.value next c.requires.is_there c.requires.within).rereads
