use Rattle.std.proofs.Common.{ap, sym, subst, ◌∙◌, ◌≤◌, length}
use Rattle.cfdp_entity.specs.Roomy.{Roomy}
use Rattle.cfdp_entity.specs.Table.{next_due}
use Rattle.cfdp_entity.specs.Whole.{entries_seen}
use Rattle.cfdp_entity.proofs.Entries.{length_flags}
use Rattle.cfdp_entity.proofs.Places.{next-seen, few-next}
use Rattle.cfdp_entity.proofs.table.Table.next_due.Goals as goal

pub returns-clause-next : goal.returns-clause-next
returns-clause-next g c = c.next.ensures.next ∙ next-seen (entries_seen (g.I.Inbox.staged c.self.inside.desk.inbox) c.self.inside.records.entries) c.self.inside.ready c.args.from
    c.self.invariant.flagged
    ∙ ap (next_due c.args.from) (ap (λ (v : Roomy). v.state.records) c.self.view_is)

pub returns-clause-within : goal.returns-clause-within
returns-clause-within g c =
    few-next (length c.self.inside.ready) c.next.result (subst (λ n. n ≤ 4096) (sym (length_flags _ _ _ c.self.invariant)) c.self.invariant.few) c.next.ensures.within
