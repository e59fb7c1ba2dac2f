use Rattle.std.proofs.Common.{ap, ◌∙◌}
use Rattle.cfdp_directives.specs.Pdu.Content.{view}
use Rattle.cfdp_entity.specs.Entity.{Counted, next_of, with_table}
use Rattle.cfdp_entity.proofs.PutNumbers.{free-heard, free-spoiled}
use Rattle.cfdp_entity.proofs.Sparing.{on_err, spoiled-so}
use Rattle.cfdp_entity.proofs.entity.Entity.step_at.Goals as goal

pub returns-in_err-reserve-clause-lacks : goal.returns-in_err-reserve-clause-lacks
returns-in_err-reserve-clause-lacks g c =
    on_err c.from_residual.result (record {
      spoiled = spoiled-so c.args.place (view c.args.pdu.now) c.args.self.now.state.table c.reserve.new.self.state
          (c.reserve.ensures.stays.state ∙ ap (λ (v : Counted). v.state.table) c.self.view_is);
      table = ap (λ (v : Counted). with_table v.state c.reserve.new.self.state) c.self.view_is;
      inbox = c.reserve.ensures.stays.inbox ∙ ap (λ (v : Counted). v.inbox_failures) c.self.view_is;
      outbox = c.reserve.ensures.stays.outbox ∙ ap (λ (v : Counted). v.outbox_failures) c.self.view_is;
    })

pub invariant_of-self-in_err-hear : goal.invariant_of-self-in_err-hear
invariant_of-self-in_err-hear g c = (
  c.self.invariant.0,
  c.self.invariant.1,
  free-spoiled c.self.inside.config.entity (next_of c.self.inside.next) c.self.inside.table.state c.reserve.new.self.state c.hear.new.self.state c.reserve.ensures.stays.state c.self.invariant.2
      c.args.place (view c.args.pdu.now) c.in_err-hear.ensures.err.spoiled,
  c.self.invariant.3,
)

pub invariant_of-self-2 : goal.invariant_of-self-2
invariant_of-self-2 g c = (
  c.self.invariant.0,
  c.self.invariant.1,
  free-heard c.self.inside.config.entity (next_of c.self.inside.next) c.self.inside.table.state c.reserve.new.self.state c.hear.new.self.state c.reserve.ensures.stays.state c.self.invariant.2
      c.in_ok-hear.field-0 c.args.place c.args.large (view c.args.pdu.now) c.in_ok-hear.ensures.heard.state,
  c.self.invariant.3,
)
