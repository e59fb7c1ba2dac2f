use Rattle.std.proofs.Common.{refl, sym, ap, subst, length, ◌<◌, ◌∙◌, ◌≡◌, ◌+◌}
use Rattle.cfdp_header.specs.declared.value.TransactionId.{TransactionId}
use Rattle.cfdp_sender.specs.declared.transfer.Transfer.{Transfer}
use Rattle.cfdp_entity.specs.Entity.{Counted, is_forgotten, own_id, next_of}
use Rattle.cfdp_entity.specs.Putting.{next_id}
use Rattle.cfdp_entity.specs.Table.{place_of}
use Rattle.cfdp_entity.proofs.PutNumbers.{free-at, free-put, risen, unforgotten-at, unforgotten-behind}
use Rattle.cfdp_entity.proofs.entity.Entity.open_put.Goals as goal

pub put-requires-clause-may_add : goal.put-requires-clause-may_add
put-requires-clause-may_add g c =
    let own : c.in_ok-transfer.transfer.addressing.id ≡ own_id c.self.inside.config.entity (next_of c.self.inside.next) =
    ap (λ (t : Transfer). t.addressing.id) c.in_ok-transfer.ensures.transfer ∙ sym (ap (λ (v : Counted). next_id v.state) c.self.view_is) in
    record {
      absent = ap (λ (id : TransactionId). place_of id c.self.inside.table.state.records) own
          ∙ free-at c.self.inside.config.entity (next_of c.self.inside.next) c.self.inside.table.state.records c.self.invariant.2;
      not_full = subst (λ (v : Counted). length v.state.table.records < 4096) (sym c.self.view_is) c.requires.may.may.not_full;
    }

pub invariant_of-self-2 : goal.invariant_of-self-2
invariant_of-self-2 g c =
    let own : c.in_ok-transfer.transfer.addressing.id ≡ own_id c.self.inside.config.entity (next_of c.self.inside.next) =
    ap (λ (t : Transfer). t.addressing.id) c.in_ok-transfer.ensures.transfer ∙ sym (ap (λ (v : Counted). next_id v.state) c.self.view_is) in
    let number : c.args.number ≡ next_of c.self.inside.next = c.requires.may.is_next ∙ sym (ap (λ (v : Counted). v.state.next) c.self.view_is) in (
      c.self.invariant.0,
      c.self.invariant.1,
      free-put c.self.inside.config.entity (next_of c.self.inside.next) c.self.inside.table.state c.self.inside.table.state c.put.new.self.state refl c.self.invariant.2
          c.in_ok-transfer.transfer c.in_ok-put.ensures.put.state own c.checked_add-self-inside.result
          (risen c.checked_add-self-inside.result c.args.number c.ranges.number.fits c.checked_add-self-inside.ensures ∙ ap (λ n. n + 1) number),
      unforgotten-behind c.self.inside.config.entity (next_of c.self.inside.next) c.self.inside.forgotten c.checked_add-self-inside.result
          (risen c.checked_add-self-inside.result c.args.number c.ranges.number.fits c.checked_add-self-inside.ensures ∙ ap (λ n. n + 1) number) c.self.invariant.3,
    )

pub returns-clause-fresh : goal.returns-clause-fresh
returns-clause-fresh g c =
    sym (ap (λ (v : Counted). place_of (next_id v.state) v.state.table.records) c.self.view_is)
    ∙ free-at c.self.inside.config.entity (next_of c.self.inside.next) c.self.inside.table.state.records c.self.invariant.2

pub returns-clause-unforgotten : goal.returns-clause-unforgotten
returns-clause-unforgotten g c =
    sym (ap (λ (v : Counted). is_forgotten v.state (next_id v.state)) c.self.view_is)
    ∙ unforgotten-at c.self.inside.config.entity (next_of c.self.inside.next) c.self.inside.forgotten c.self.invariant.3
