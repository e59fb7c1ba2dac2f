use Rattle.std.proofs.Common.{◌≡◌, ◌<◌, length, sym, rules, arith}
use Rattle.cfdp_report.proofs.Parts.{text-none, text-some}
use Rattle.cfdp_report.proofs.words.Words.into_text.Goals as goal

pub returns-then-is_empty : goal.returns-then-is_empty
returns-then-is_empty c =
    let none : length c.in-Some.text.now ≡ 0 = search (rules, arith) in
    rw c.in-Some.is (sym (text-none c.in-Some.text.now none))

pub returns : goal.returns
returns c =
    let some : 0 < length c.in-Some.text.now = search (rules, arith) in
    rw c.in-Some.is (sym (text-some c.in-Some.text.now some))
