use Rattle.std.proofs.Common.{◌≡◌, ◌++◌, ◌∷◌, ◌∙◌, ℕ, Option, Some, None, arith, ap, decimal}
use Rattle.std.proofs.lemmas.Str.Pattern.{split_after}
use Rattle.cfdp_report.specs.Numbers.{number_of}
use Rattle.cfdp_files.proofs.Decimals.{number-decimal, no_line_feed, behind_front}
use Rattle.cfdp_files.proofs.state_text.number_behind.Goals as goal

pub returns-in_err-word : goal.returns-in_err-word
returns-in_err-word c = λ n rest less whole.
    let cut = c.in_ok-strip_prefix.ensures.cases in
    let behind = behind_front c.args.front.now c.args.text.now (decimal n ++ (10 ∷ rest)) c.in_ok-strip_prefix.field-0.now cut.0 cut.1.0 cut.2 whole in
    absurd (split_after 10 c.in_ok-strip_prefix.field-0.now (decimal n) rest None c.in_err-word.ensures.cases (omega arith) behind (no_line_feed n less))

pub returns-in_err-parse_number : goal.returns-in_err-parse_number
returns-in_err-parse_number c = λ n rest less whole.
    let cut = c.in_ok-strip_prefix.ensures.cases in
    let behind = behind_front c.args.front.now c.args.text.now (decimal n ++ (10 ∷ rest)) c.in_ok-strip_prefix.field-0.now cut.0 cut.1.0 cut.2 whole in
    let parts = split_after 10 c.in_ok-strip_prefix.field-0.now (decimal n) rest (Some (c.in_ok-word.word, c.in_ok-word.rest)) c.in_ok-word.ensures.cases (omega arith) behind (no_line_feed n less) in
    let none : Option ℕ = None in
    let read : none ≡ Some n = c.in_err-parse_number.ensures ∙ ap number_of (c.as_bytes.ensures.value ∙ parts.0) ∙ number-decimal n less in
    absurd cc

pub returns : goal.returns
returns c = λ n rest less whole.
    let cut = c.in_ok-strip_prefix.ensures.cases in
    let behind = behind_front c.args.front.now c.args.text.now (decimal n ++ (10 ∷ rest)) c.in_ok-strip_prefix.field-0.now cut.0 cut.1.0 cut.2 whole in
    let parts = split_after 10 c.in_ok-strip_prefix.field-0.now (decimal n) rest (Some (c.in_ok-word.word, c.in_ok-word.rest)) c.in_ok-word.ensures.cases (omega arith) behind (no_line_feed n less) in
    let read : Some c.in_ok-parse_number.field-0 ≡ Some n = c.in_ok-parse_number.ensures ∙ ap number_of (c.as_bytes.ensures.value ∙ parts.0) ∙ number-decimal n less in
    (grind arith, parts.1)
