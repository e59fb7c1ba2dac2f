use Rattle.cfdp_entity.specs.Polling.{turn}
use Rattle.cfdp_directives.specs.Pdu.Faults.{pdu_fault}
use Rattle.cfdp_endings.proofs.Tables.{MachineLaws}
use Rattle.cfdp_endings.proofs.Entities.{first-lively, put-lively, called-lively, ticked-lively, heard-lively, dropped-lively, served-lively, forgot-lively, each-lively, alike-lively}
use Rattle.cfdp_endings.proofs.Rounds.{entry-goes, resting-armed}
use Rattle.cfdp_endings.proofs.laws.an_entity_is_never_silent.Goals as goal

pub returns : goal.returns
returns c =
    let owes = c.a_receiver_is_never_silent.ensures in
    let file = c.what_is_due_is_in_the_file.ensures in
    let laws : MachineLaws = record { in_file = file.stays; put = file.opened; step = owes.stays; opened = owes.opened; closed = owes.closed } in
    record {
      goes_on = λ e place d k at is_open. entry-goes e.table place d k.table at is_open;
      rests = λ e place d k rests at is_open. resting-armed e place d k.table rests at is_open;
      first = first-lively;
      put = put-lively laws;
      called = called-lively laws;
      ticked = ticked-lively laws;
      heard = heard-lively laws;
      dropped = λ pdu by old new d k. dropped-lively laws (pdu_fault pdu) pdu by old new d k;
      served = λ stored e k. served-lively laws stored (turn e) e k;
      forgot = forgot-lively;
      some = λ old new f k. each-lively f.ids old new f.forgets k;
      alike = alike-lively;
    }
