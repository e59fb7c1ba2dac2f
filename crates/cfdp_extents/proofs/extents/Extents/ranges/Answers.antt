use Rattle.std.proofs.Common.{◌∙◌, ap, sym, subst}
use Rattle.cfdp_extents.specs.Offsets.{union_of, AreApart}
use Rattle.cfdp_extents.proofs.CallerLemmas.{ranges-only}
use Rattle.cfdp_extents.proofs.extents.Extents.ranges.Goals as goal

pub returns-clause-ranges : goal.returns-clause-ranges
returns-clause-ranges c = record {
  apart = subst AreApart (sym c.new.ensures) c.self.invariant.0;
  union = ap union_of c.new.ensures ∙ c.self.view_is;
}

pub returns-clause-is : goal.returns-clause-is
returns-clause-is c = ranges-only _ _ (returns-clause-ranges c)
