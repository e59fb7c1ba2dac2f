use Rattle.cfdp_entity.proofs.Histories.{stepped-other, stepped-by_id, kept-behind}
use Rattle.cfdp_entity.proofs.CallerLemmas.{push-other}
use Rattle.cfdp_entity.proofs.laws.other_records_stay.Goals as goal

pub returns-clause-stepped : goal.returns-clause-stepped
returns-clause-stepped c = stepped-other

pub returns-clause-stepped_by_id : goal.returns-clause-stepped_by_id
returns-clause-stepped_by_id c = stepped-by_id

pub returns-clause-added : goal.returns-clause-added
returns-clause-added c after own st place e at = kept-behind st.records _ place e at

pub returns-clause-added_by_id : goal.returns-clause-added_by_id
returns-clause-added_by_id c after own st id other = push-other st.records own id after.seen other
