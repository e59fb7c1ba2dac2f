use Rattle.std.proofs.Common.{◌≡◌, ℕ, List, None, Some, subst, sym, ◌∙◌}
use Rattle.std.proofs.KnownBytes.{Keeps-refl}
use Rattle.cfdp_report.specs.declared.exit.Exit.TheVariants.{Device}
use Rattle.cfdp_report.specs.declared.exit.Fault.TheVariants.{NoMemoryAtStart}
use Rattle.cfdp_script.specs.Script.Simulated.{EndsText}
use Rattle.cfdp_script.proofs.Endings.{any_text, known_text}
use Rattle.cfdp_any_order_script.specs.Simulated.{Ends, first_disorder}
use Rattle.cfdp_any_order_script.proofs.Simulating.{disorder_ends, read_from, reading_fails, usual_ends}
use Rattle.cfdp_any_order_script.proofs.sim.run_any.Goals as goal

pub returns-in-Some : goal.returns-in-Some
returns-in-Some g c =
    let old = g.W.Write.contents c.args.out.now in
    let new = g.W.Write.contents c.run_disorder.new.out in
    let line = c.in-Some.first.0 in
    let is = c.in-Ok-parse.ensures in
    let read = read_from c.as_slice.result.now c.in-Ok-parse.script is.files is.steps is.settings is.last is.misread in
    let first : first_disorder c.in-Ok-parse.script.steps.items ≡ Some line = subst (λ s. first_disorder s ≡ Some line) c.as_slice-2.ensures.value (sym c.in-Some.ensures) in
    let ends : Ends c.run_disorder.result c.in-Ok.text.items old new = subst (λ t. Ends c.run_disorder.result t old new) c.as_slice.ensures.value
    (disorder_ends line c.run_disorder.result c.as_slice.result.now c.in-Ok-parse.script old new read first c.run_disorder.ensures) in
    let All : List ℕ → Type 0 = λ text. Ends c.unseen-in-Some.result.exit text old new in
    known_text (g.R.Read.remaining c.args.reader) c.in-Ok.text.items All c.in-Ok.ensures.whole (rw c.unseen-in-Some.ensures ends)

pub returns : goal.returns
returns g c =
    let old = g.W.Write.contents c.args.out.now in
    let new = g.W.Write.contents c.run_text.new.out in
    let is = c.in-Ok-parse.ensures in
    let read = read_from c.as_slice.result.now c.in-Ok-parse.script is.files is.steps is.settings is.last is.misread in
    let none : first_disorder c.in-Ok-parse.script.steps.items ≡ None = subst (λ s. first_disorder s ≡ None) c.as_slice-2.ensures.value (sym c.in-None.ensures) in
    let usual : EndsText c.run_text.result.exit c.as_slice.result.now old new = subst (λ t. EndsText c.run_text.result.exit t old new) (c.as_slice-in-None.ensures.value ∙ sym c.as_slice.ensures.value) c.run_text.ensures.script in
    let All : List ℕ → Type 0 = λ text. Ends c.run_text.result.exit text old new in
    known_text (g.R.Read.remaining c.args.reader) c.in-Ok.text.items All c.in-Ok.ensures.whole
    (subst All c.as_slice.ensures.value (usual_ends c.run_text.result.exit c.as_slice.result.now c.in-Ok-parse.script old new read none usual c.run_text.ensures.silent))

pub returns-in-Err : goal.returns-in-Err
returns-in-Err g c =
    let out = g.W.Write.contents c.args.out.now in
    rw c.unseen.ensures (reading_fails c.in-Err.fault (g.R.Read.remaining c.args.reader) out c.in-Err.ensures.fault)

pub returns-in_default : goal.returns-in_default
returns-in_default g c =
    let out = g.W.Write.contents c.args.out.now in
    rw c.unseen-in_default.ensures (any_text (g.R.Read.remaining c.args.reader) (λ text. Ends (Device NoMemoryAtStart) text out out) (λ text. Keeps-refl out))
