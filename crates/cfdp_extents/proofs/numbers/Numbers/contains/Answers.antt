use Rattle.std.proofs.Common.{◌≡◌, sym, ap, ◌∙◌, arith}
use Rattle.std.specs.FinSet as set
use Rattle.cfdp_extents.specs.Forgotten.{NumberSet, greatest_number}
use Rattle.cfdp_extents.proofs.Greatest.{subset-one, other-number, own-number}
use Rattle.cfdp_extents.proofs.numbers.Numbers.contains.Goals as goal

pub returns-in-Some : goal.returns-in-Some
returns-in-Some c =
    let fits = c.in-Some.ensures.0 in
    c.covers.ensures ∙ subset-one c.self.inside.ranges c.args.number c.in-Some.behind c.in-Some.ensures.1
    ∙ sym (other-number c.self.inside.greatest c.self.inside.ranges c.args.number (omega (arith, fits)))
    ∙ ap (λ (s : NumberSet). set.contains s c.args.number) c.self.view_is

pub returns-in-None : goal.returns-in-None
returns-in-None c =
    let past = c.in-None.ensures in
    let fits = c.ranges.number.fits in
    let is : c.args.number ≡ greatest_number = omega (arith, past, fits) in
    sym (own-number c.self.inside.greatest c.self.inside.ranges c.args.number is c.self.invariant) ∙ ap (λ (s : NumberSet). set.contains s c.args.number) c.self.view_is
