use Rattle.std.proofs.Common.{◌≡◌, ◌≢◌, ◌+◌, ◌-◌, ◌∷◌, ◌++◌, length, take, drop, rules, arith, refl, Some, None}
use Rattle.std.specs.List.{All}
use Rattle.std.proofs.lemmas.Grind.{common_steps}
use Rattle.cfdp_report.proofs.Parts.{parts-are}
use Rattle.cfdp_report.proofs.words.cut_at_first.Goals as goal

pub returns-in-Some-clause-split : goal.returns-in-Some-clause-split
returns-in-Some-clause-split c =
    let text = c.args.text.now in
    let front = take c.in-Some.at text in
    let behind = take (length text - (c.in-Some.at + 1)) (drop (c.in-Some.at + 1) text) in
    let none : All (λ octet. octet ≢ c.args.separator) front = first_of (search rules, grind (arith, common_steps)) in
    let cut : text ≡ front ++ c.args.separator ∷ behind = first_of (search rules, grind (arith, common_steps)) in
    parts-are c.args.separator text front (Some behind) none cut

pub returns-in-None-clause-split : goal.returns-in-None-clause-split
returns-in-None-clause-split c =
    let text = c.args.text.now in
    let none : All (λ octet. octet ≢ c.args.separator) text = first_of (search rules, grind (arith, common_steps)) in
    parts-are c.args.separator text text None none refl
