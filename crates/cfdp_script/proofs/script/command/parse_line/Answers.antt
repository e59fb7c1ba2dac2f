use Rattle.std.proofs.Common.{◌≡◌, ◌≤◌, List, ℕ, length, le-leb, subst, refl, arith}
use Rattle.cfdp_report.specs.Words.{words_of}
use Rattle.cfdp_script.specs.Script.Lines.{Reads, line_of, meaning}
use Rattle.cfdp_report.proofs.Numerals.{ascii-pass}
use Rattle.cfdp_script.proofs.script.command.parse_line.Goals as goal

pub returns : goal.returns
returns c =
    let text = c.args.line.now in
    let short : length text ≤ 4096 = omega arith in
    let ascii = ascii-pass text c.if-not-is_ascii.ensures.cases in
    let means : line_of text ≡ meaning (words_of text) = rw (le-leb (length text) 4096 short, ascii) refl in
    let P : List (List ℕ) → Type 0 = λ words. Reads c.parse_words.result (meaning words) in
    rw means (subst P c.of.ensures c.parse_words.ensures)
