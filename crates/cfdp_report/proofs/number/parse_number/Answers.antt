use Rattle.std.proofs.Common.{◌≡◌, ◌<◌, take, arith, rules, sym, take_all, length}
use Rattle.cfdp_report.proofs.Numbers.{one_more, front_is_less, not_a_digit}
use Rattle.cfdp_report.proofs.Numerals.{number-some, number-none}
use Rattle.cfdp_report.proofs.number.parse_number.Goals as goal

pub returns-then-not-is_ascii_digit : goal.returns-then-not-is_ascii_digit
returns-then-not-is_ascii_digit c =
    sym (number-none c.args.word.now (λ numeral. absurd (not_a_digit _ _ c.loop-digit-test.true c.if-not-is_ascii_digit.ensures.cases numeral.0.1)))

pub returns-in_err-tens : goal.returns-in_err-tens
returns-in_err-tens c =
    let high = front_is_less _ _ _ c.loop-digit-test.true c.if-not-is_ascii_digit.ensures.cases c.loop-digit.invariant.1 in
    rw c.from_residual.ensures (sym (number-none c.args.word.now (λ numeral. absurd (c.in_err-tens.ensures (omega (arith, high, numeral.1))))))

pub returns-in_err-number : goal.returns-in_err-number
returns-in_err-number c =
    let high = front_is_less _ _ _ c.loop-digit-test.true c.if-not-is_ascii_digit.ensures.cases c.loop-digit.invariant.1 in
    rw c.from_residual-in_err-number.ensures
    (sym (number-none c.args.word.now (λ numeral. absurd (c.in_err-number.ensures (omega (arith, high, numeral.1, c.in_ok-tens.ensures, c.from.ensures))))))

pub loop-digit-preserved : goal.loop-digit-preserved
loop-digit-preserved c =
    let more = one_more _ _ _ c.loop-digit-test.true c.if-not-is_ascii_digit.ensures.cases c.loop-digit.invariant.0 c.loop-digit.invariant.1 in
    (more.0, omega (arith, more.1, c.in_ok-tens.ensures, c.in_ok-number.ensures, c.from.ensures), omega (arith, c.in_ok-number.ensures))

pub returns : goal.returns
returns c =
    let all : take c.loop-digit.digit-index c.args.word.now ≡ c.args.word.now = take_all _ _ c.loop-digit-test.false in
    let digits = rw all at c.loop-digit.invariant.0 in
    let value = rw all at c.loop-digit.invariant.1 in
    let some : 0 < length c.args.word.now = search (rules, arith) in
    rw value (sym (number-some c.args.word.now (some, digits) (omega (arith, value, c.loop-digit.invariant.2))))
