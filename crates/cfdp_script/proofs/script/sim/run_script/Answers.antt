use Rattle.std.proofs.Common.{List, ℕ}
use Rattle.cfdp_script.specs.Script.Simulated.{EndsScript}
use Rattle.cfdp_script.proofs.Endings.{known_text, reading_ends, reading_silent, text_ends}
use Rattle.cfdp_script.proofs.script.sim.run_script.Goals as goal

pub returns-in-Ok-clause-script : goal.returns-in-Ok-clause-script
returns-in-Ok-clause-script g c =
    let old = g.W.Write.contents c.args.out.now in
    let new = g.W.Write.contents c.run_text.new.out in
    let Ends : List ℕ → Type 0 = λ text. EndsScript c.run_text.result.exit text old new in
    known_text (g.R.Read.remaining c.args.reader) c.in-Ok.text.items Ends c.in-Ok.ensures.whole
    (text_ends c.run_text.result.exit c.in-Ok.text.items old new (rw c.as_slice.ensures.value at c.run_text.ensures.script))

pub returns-in-Err-clause-script : goal.returns-in-Err-clause-script
returns-in-Err-clause-script g c =
    let out = g.W.Write.contents c.args.out.now in
    rw c.unseen.ensures (reading_ends c.in-Err.fault (g.R.Read.remaining c.args.reader) out out c.in-Err.ensures.fault)

pub returns-in-Err-clause-silent : goal.returns-in-Err-clause-silent
returns-in-Err-clause-silent g c =
    rw c.unseen.ensures (reading_silent c.in-Err.fault (g.R.Read.remaining c.args.reader) (g.W.Write.contents c.args.out.now) c.in-Err.ensures.fault)
