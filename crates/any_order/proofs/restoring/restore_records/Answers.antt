use Rattle.std.proofs.Common.{List, map, refl, sym, ap, subst, ◌∙◌}
use Rattle.cfdp_header.specs.declared.value.TransactionId.{TransactionId}
use Rattle.cfdp_entity.specs.declared.record.Record.{Record}
use Rattle.cfdp_entity.specs.Restoring.{Kept, all_kept, record_kept}
use Rattle.any_order.specs.Restoring.{RestoresAll}
use Rattle.any_order.proofs.ComingBack.{restores-more}
use Rattle.any_order.proofs.restoring.restore_records.Goals as goal

pub loop-id-init : goal.loop-id-init
loop-id-init g c = record {
  leads = λ final all.
      subst (λ (ks : List (TransactionId × Kept)). RestoresAll ks c.args.station.now.entity.state final)
      (ap (λ (l : List (TransactionId × Record)). map record_kept l) c.into_iter-id-iterator.ensures.into_iter_gives ∙ c.records-id-items.ensures) all;
  link = (refl, refl);
}

pub loop-id-preserved : goal.loop-id-preserved
loop-id-preserved g c =
    let inv = c.loop-id.invariant in
    let one = c.in_ok-restore_record.ensures in
    record {
      leads = restores-more c.in-Some.id.now c.in-Some.record.now c.next.new.self (all_kept c.args.killed.now.entity.state.table) c.args.station.now.entity.state c.loop-id.station.entity.state c.restore_record.new.station.entity.state
          (λ final more. inv.leads final
          (subst (λ (l : List (TransactionId × Record)). RestoresAll (map record_kept l) c.loop-id.station.entity.state final) (sym c.in-Some.ensures.steps) more)) one.restored;
      link = (one.link.0 ∙ inv.link.0, one.link.1 ∙ inv.link.1);
    }

pub returns-clause-restored : goal.returns-clause-restored
returns-clause-restored g c =
    c.loop-id.invariant.leads c.loop-id.station.entity.state
    (subst (λ (l : List (TransactionId × Record)). RestoresAll (map record_kept l) c.loop-id.station.entity.state c.loop-id.station.entity.state) (sym c.in-None.ensures.steps.0) refl)
