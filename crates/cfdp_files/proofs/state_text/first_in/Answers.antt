use Rattle.std.proofs.Common.{◌≡◌, ℕ, ◌++◌, ◌∙◌, ◌^◌, ◌<◌, Some, None, IfSome, ap}
use Rattle.cfdp_files.specs.StateText.{first_text}
use Rattle.cfdp_files.proofs.Lines.{secured_first}
use Rattle.cfdp_files.proofs.state_text.first_in.Goals as goal

pub returns-in_err-number : goal.returns-in_err-number
returns-in_err-number c = λ accepted rest fits whole. absurd (elim accepted as (λ a. IfSome a (λ number. number < 2 ^ 64) → c.args.text.now ≡ first_text a ++ rest → ⊥) [
  | None ↦ λ fits whole. c.in_default.ensures.cases rest whole
  | Some n ↦ λ fits whole. c.in_err-number.ensures n rest fits (whole ∙ secured_first n rest)
] fits whole)

pub returns : goal.returns
returns c = λ accepted rest fits whole. elim accepted as (λ a. IfSome a (λ number. number < 2 ^ 64) → c.args.text.now ≡ first_text a ++ rest → (Some c.in_ok-number.number ≡ a) × (c.in_ok-number.rest.now ≡ rest)) [
  | None ↦ λ fits whole. absurd (c.in_default.ensures.cases rest whole)
  | Some n ↦ λ fits whole.
      let found = c.in_ok-number.ensures n rest fits (whole ∙ secured_first n rest) in
      (ap (λ (m : ℕ). Some m) found.0, found.1)
] fits whole
