use Rattle.std.proofs.Common.{arith, sym, take_all}
use Rattle.std.proofs.lemmas.List.{length-take-le}
use Rattle.cfdp_watch.proofs.chart.first_of.Goals as goal

pub slice_bounds-result-end : goal.slice_bounds-result-end
slice_bounds-result-end c = sym (length-take-le c.args.most c.args.sightings.now (omega (arith, c.if-sightings-most.true)))

pub returns-else-sightings-most : goal.returns-else-sightings-most
returns-else-sightings-most c = sym (take_all c.args.most c.args.sightings.now (omega (arith, c.if-sightings-most.false)))
