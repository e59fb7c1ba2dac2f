use Rattle.std.proofs.Common.{◌+◌, ◌-◌, sym, ap, ◌∙◌, arith, ⊎_elim}
use Rattle.std.specs.Int.{bit_at}
use Rattle.std.proofs.lemmas.Bool.{cases_lt}
use Rattle.std.proofs.lemmas.Nat.Bits.{bit_at-zero, bit_at_above}
use Rattle.cfdp_entity.proofs.Bits.{shifted, shifted-back}
use Rattle.cfdp_entity.proofs.ready.first_bit.Goals as goal

pub returns-then-rest-eq0-clause-none : goal.returns-then-rest-eq0-clause-none
returns-then-rest-eq0-clause-none c = λ _ i on l. sym (shifted-back c.args.word c.args.from i on) ∙ ap (λ x. bit_at x (i - c.args.from)) c.if-rest-eq0.true ∙ bit_at-zero (i - c.args.from)

pub returns-else-rest-eq0-clause-within : goal.returns-else-rest-eq0-clause-within
returns-else-rest-eq0-clause-within c =
    let here = sym (shifted c.args.word c.args.from c.lowest_bit.result) ∙ c.lowest_bit.ensures.here in (
      omega arith,
      ⊎_elim (λ l. l) (λ l. absurd (let none = bit_at_above c.args.word 64 (c.args.from + c.lowest_bit.result) c.ranges.word.fits l in cc))
          (cases_lt (c.args.from + c.lowest_bit.result) 64),
    )

pub returns-else-rest-eq0-clause-here : goal.returns-else-rest-eq0-clause-here
returns-else-rest-eq0-clause-here c = sym (shifted c.args.word c.args.from c.lowest_bit.result) ∙ c.lowest_bit.ensures.here

pub returns-else-rest-eq0-clause-before : goal.returns-else-rest-eq0-clause-before
returns-else-rest-eq0-clause-before c = λ i on l. sym (shifted-back c.args.word c.args.from i on) ∙ c.lowest_bit.ensures.before (i - c.args.from) (omega arith)
