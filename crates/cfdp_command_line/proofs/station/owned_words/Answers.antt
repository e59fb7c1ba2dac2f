use Rattle.std.proofs.Common.{◌∙◌, [], ℕ, List, Option, ap, unwrap_or}
use Rattle.std.proofs.lemmas.Result.{IfOk-weaker}
use Rattle.clap.specs.Matches.{found_of}
use Rattle.clap.proofs.WalkLemmas.{raw_values-rows}
use Rattle.cfdp_command_line.proofs.station.owned_words.Goals as goal

pub returns-in-Some : goal.returns-in-Some
returns-in-Some c =
    let found = c.in-Some.ensures ∙ raw_values-rows (found_of c.args.arguments.now) c.args.name.now in
    IfOk-weaker c.copied.result _ _
    (λ copies same. same ∙ ap (λ (o : Option (List (List ℕ))). unwrap_or o []) found)
    c.copied.ensures

pub returns-in-None : goal.returns-in-None
returns-in-None c =
    let found = c.in-None.ensures ∙ raw_values-rows (found_of c.args.arguments.now) c.args.name.now in
    rw c.new.ensures.items (ap (λ (o : Option (List (List ℕ))). unwrap_or o []) found)
