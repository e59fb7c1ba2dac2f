use Rattle.std.proofs.Common.{refl, subst, arith}
use Rattle.std.proofs.lemmas.List.{length-map}
use Rattle.std.proofs.lemmas.Option.{slice_get_within}
use Rattle.std.specs.Map.{keys_of}
use Rattle.cfdp_header.specs.declared.value.TransactionId.{TransactionId}
use Rattle.cfdp_entity.specs.declared.record.Record.{Record}
use Rattle.cfdp_entity.specs.Desk.{DeskState, on_desk}
use Rattle.cfdp_entity.specs.Forgetting.{left_at}
use Rattle.cfdp_entity.specs.Roomy.{Roomy, Becomes}
use Rattle.cfdp_entity.specs.Whole.{roomy_of}
use Rattle.cfdp_entity.proofs.Entries.{length_flags}
use Rattle.cfdp_entity.proofs.Left.{at-view, whole-left, becomes-left}
use Rattle.cfdp_entity.proofs.table.Table.forget.Goals as goal

pub remove-requires : goal.remove-requires
remove-requires g c =
    let desk = on_desk g.O.Outbox g.I.Inbox c.self.inside.desk in
    let es = c.self.inside.records.entries in
    let at = at-view c.self.inside.gone desk es c.args.place c.args.id _ c.self.view_is c.requires.at in
    record { within = omega (arith, slice_get_within (keys_of es) c.args.place c.args.id at, length-map es (λ (e : TransactionId × Record). e.0), length_flags desk es c.self.inside.ready c.self.invariant) }

pub invariant_of-self : goal.invariant_of-self
invariant_of-self g c =
    let desk = on_desk g.O.Outbox g.I.Inbox c.self.inside.desk in
    let es = c.self.inside.records.entries in
    let at = at-view c.self.inside.gone desk es c.args.place c.args.id _ c.self.view_is c.requires.at in
    whole-left c.self.inside.gone desk _ es c.shift_remove_index.new.self.entries c.self.inside.ready c.remove.new.self c.args.place c.args.id c.self.invariant at c.shift_remove_index.ensures.entries c.remove.ensures
    c.let_go.new.self refl c.let_go.ensures.time c.let_go.ensures.roomy c.let_go.ensures.armed

pub returns : goal.returns
returns g c =
    let desk = on_desk g.O.Outbox g.I.Inbox c.self.inside.desk in
    let es = c.self.inside.records.entries in
    let at = at-view c.self.inside.gone desk es c.args.place c.args.id _ c.self.view_is c.requires.at in
    let then : DeskState = record desk { effects = record desk.effects { timers = c.let_go.new.self } } in
    let now : Roomy = roomy_of c.self.inside.gone then c.shift_remove_index.new.self.entries in
    subst (λ (v : Roomy). Becomes (left_at c.args.place c.args.id v.state) v now) c.self.view_is
    (becomes-left c.self.inside.gone desk then es c.shift_remove_index.new.self.entries c.self.inside.ready c.remove.new.self c.args.place c.args.id c.self.invariant at c.shift_remove_index.ensures.entries c.remove.ensures
    c.let_go.new.self refl c.let_go.ensures.time c.let_go.ensures.roomy c.let_go.ensures.armed)
