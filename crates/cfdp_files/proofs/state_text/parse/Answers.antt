use Rattle.std.specs.Option.{is_some}
use mathlib.Core.Bool.{not}
use Rattle.std.proofs.lemmas.Bool.{true≢false}
use Rattle.std.proofs.Common.{◌≡◌, ◌∙◌, ℕ, Bool, Option, Some, None, sym, ap, inl, inr}
use Rattle.cfdp_files.specs.declared.reserving.Reserved.{Reserved}
use Rattle.cfdp_files.specs.StateText.{lines_text, state_text}
use Rattle.cfdp_files.proofs.Lines.{front_is, some_same, unequal}
use Rattle.cfdp_files.proofs.state_text.parse.Goals as goal
use Rattle.cfdp_files.proofs.state_text.parse.Goals.{else-is_none-via-then-is_none+else-eq-2, else-is_none-via-else-is_none}

pub returns-in_default-clause-each : goal.returns-in_default-clause-each
returns-in_default-clause-each c = λ r fits says.
    let front = front_is c.args.text.now r says in
    c.in_default.ensures r front.0 fits front.1

pub returns-then-eq-clause-each : goal.returns-then-eq-clause-each
returns-then-eq-clause-each c = λ r fits says.
    let front = front_is c.args.text.now r says in
    c.in-Some.ensures r front.0 fits front.1

pub returns-clause-each : goal.returns-clause-each
returns-clause-each c = λ r fits says.
    let front = front_is c.args.text.now r says in
    let same = some_same c.in-Some.reserved r (c.in-Some.ensures r front.0 fits front.1) in
    let whole : c.as_str.result.now ≡ state_text r = c.as_str.ensures.value ∙ c.in_ok-whole.ensures ∙ ap state_text same in
    let none : Option Reserved = None in
    elim says as (λ _. none ≡ Some r) [
      | inl it ↦ absurd (unequal c.args.text.now c.as_str.result.now c.eq.result c.eq.ensures c.if-eq.false (it ∙ sym whole))
      | inr it ↦ elim c.else-is_none.branch as (λ _. none ≡ Some r) [
        | else-is_none-via-then-is_none+else-eq-2 w ↦
            let lines : w.as_str-then-is_none.result.now ≡ lines_text r = w.as_str-then-is_none.ensures.value ∙ c.in_ok-lines.ensures ∙ ap lines_text same in
            absurd (unequal c.args.text.now w.as_str-then-is_none.result.now w.eq-then-is_none.result w.eq-then-is_none.ensures w.if-eq-2.false (it.0 ∙ sym lines))
        | else-is_none-via-else-is_none w ↦
            let never = ap (λ (q : Reserved). is_some q.accepted) same ∙ ap (λ (o : Option ℕ). is_some o) it.1 in
            absurd (true≢false (sym (ap (λ (b : Bool). not b) w.if-is_none.false) ∙ sym c.is_none.ensures ∙ never))
      ]
    ]
