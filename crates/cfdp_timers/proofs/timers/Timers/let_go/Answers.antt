-- Each of its four timers was cleared.
use Rattle.std.proofs.Common.{ap, ◌∙◌}
use Rattle.std.specs.FinMap as map
use Rattle.cfdp_timers.specs.declared.kind.Kind.TheVariants.{Nak, FinishedAck, Inactivity}
use Rattle.cfdp_timers.specs.Armed.{TimersState}
use Rattle.cfdp_timers.proofs.LetGo.{cleared-none}
use Rattle.cfdp_timers.proofs.timers.Timers.let_go.Goals as goal

pub take_out-requires : goal.take_out-requires
take_out-requires c =
    let e1 = ap (λ (s : TimersState). s.armed) c.clear.ensures.cleared in
    let e2 = ap (λ (s : TimersState). s.armed) c.clear-2.ensures.cleared in
    let e3 = ap (λ (s : TimersState). s.armed) c.clear-3.ensures.cleared in
    let e4 = ap (λ (s : TimersState). s.armed) c.clear-4.ensures.cleared in
    record {
      none = λ kind. ap (λ m. map.get m (c.args.id, kind))
          (e4 ∙ ap (λ m. map.remove m (c.args.id, Inactivity)) (e3 ∙ ap (λ m. map.remove m (c.args.id, FinishedAck)) (e2 ∙ ap (λ m. map.remove m (c.args.id, Nak)) e1)))
          ∙ cleared-none c.args.self.now.armed c.args.id kind;
    }
