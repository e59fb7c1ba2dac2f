use Rattle.std.proofs.Common.{◌≡◌, ap, ◌∙◌, subst}
use Rattle.cfdp_extents.specs.Offsets.{AreRangesOf}
use Rattle.cfdp_extents.specs.Forgotten.{NumberSet, below_greatest}
use Rattle.cfdp_extents.proofs.JoinedNumbers.{without-greatest}
use Rattle.cfdp_extents.proofs.numbers.Numbers.ranges.Goals as goal

pub returns : goal.returns
returns c =
    let same : c.self.inside.ranges ≡ below_greatest c.args.self.now
    = without-greatest c.self.inside.greatest c.self.inside.ranges c.self.invariant ∙ ap below_greatest c.self.view_is in
    subst (λ (s : NumberSet). AreRangesOf s c.ranges-2.result) same c.ranges-2.ensures.ranges
