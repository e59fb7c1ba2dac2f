use Rattle.std.proofs.Common.{◌≡◌, [], ap, map, List, ℕ, String, Global, ◌∙◌}
use Rattle.std.proofs.lemmas.Result.{err_from_is_err_and}
use Rattle.clap.specs.Faults.{fault_of}
use Rattle.clap.specs.Kinds.{HasKind}
use Rattle.clap.specs.Simple.{App, app_of, matches_of, subcommand_of, subcommand_rows_of}
use Rattle.clap.specs.Matches.{found_of}
use Rattle.clap.specs.Walk.{rows_of}
use Rattle.cfdp_command_line.specs.Request.{asked_by}
use Rattle.cfdp_command_line.proofs.CommandWords.{free_of, simple_of}
use Rattle.cfdp_command_line.proofs.arguments.matched.Goals as goal

pub returns-in_err-matches-clause-refused : goal.returns-in_err-matches-clause-refused
returns-in_err-matches-clause-refused c =
    let words = map {A = String Global} {B = List ℕ} (λ word. word.bytes.items) c.args.words.now in
    let p = err_from_is_err_and c.from_residual.result c.from_residual.ensures.1 in
    rw (p.1, p.2) (free_of (app_of c.args.command.now) (λ (a : App). HasKind (fault_of a words) c.in_err-matches.field-0.0) c.requires.0 c.in_err-matches.ensures.kinds)

pub returns-clause-refused : goal.returns-clause-refused
returns-clause-refused c =
    let words = map {A = String Global} {B = List ℕ} (λ word. word.bytes.items) c.args.words.now in
    free_of (app_of c.args.command.now) (λ (a : App). fault_of a words ≡ []) c.requires.0 c.in_ok-matches.ensures.kinds

pub returns-clause-asked : goal.returns-clause-asked
returns-clause-asked c =
    let words = map {A = String Global} {B = List ℕ} (λ word. word.bytes.items) c.args.words.now in
    let m = c.in_ok-matches.matches in
    let found = simple_of (app_of c.args.command.now)
    (λ (a : App). (rows_of (found_of m) ≡ matches_of a words) × (subcommand_rows_of m ≡ subcommand_of a words)) c.requires.0 c.in_ok-matches.ensures.ok.2 in
    c.in_ok-requested.ensures.asked ∙ ap asked_by found.1
