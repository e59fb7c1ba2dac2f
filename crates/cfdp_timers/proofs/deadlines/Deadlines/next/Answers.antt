use Rattle.std.proofs.Common.{sym, ap, ◌∙◌}
use Rattle.cfdp_timers.specs.Entries.{earlier}
use Rattle.cfdp_timers.proofs.Alarms.{earliest-of}
use Rattle.cfdp_timers.proofs.deadlines.Deadlines.next.Goals as goal

pub returns : goal.returns
returns c = λ id.
    c.earlier-2.ensures ∙ ap (earlier c.args.self.now.eof_ack) (c.earlier-others.ensures ∙ ap (earlier c.args.self.now.nak) c.earlier.ensures) ∙ sym (earliest-of id c.args.self.now)
