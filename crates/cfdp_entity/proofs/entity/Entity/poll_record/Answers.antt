use Rattle.std.proofs.Common.{arith, ◌≡◌, ◌≤◌, Some, slice_get, sym, ap, subst, ◌∙◌}
use Rattle.cfdp_entity.specs.Entity.{Counted, EntityState, entity_lent}
use Rattle.cfdp_entity.specs.declared.record.Gave.{Gave}
use Rattle.cfdp_entity.specs.Gives.{CountsOutbox, stored_by_gave}
use Rattle.cfdp_entity.specs.Polling.{room_in}
use Rattle.cfdp_entity.specs.Spelled.{EntryIsSpelled}
use Rattle.cfdp_entity.specs.Table.{next_due, data_at, len_at, ShowsIf}
use Rattle.cfdp_entity.proofs.Lent.{len-lent}
use Rattle.cfdp_entity.proofs.Turns.{moves-gave, loses-gave, place-spells}
use Rattle.cfdp_entity.proofs.entity.Entity.poll_record.Goals as goal

pub returns-in-Octets-clause-answers : goal.returns-in-Octets-clause-answers
returns-in-Octets-clause-answers g c =
    let len : c.due_at-found.result.len ≡ len_at c.in-Some.place c.args.self.now.state.table = c.due_at-found.ensures.len ∙ ap (λ (v : Counted). len_at c.in-Some.place v.state.table) c.self.view_is in
    let type : c.is_file_data-file_data.result ≡ data_at c.in-Some.place c.args.self.now.state.table =
    c.is_file_data-file_data.ensures ∙ c.due_at-found.ensures.data ∙ ap (λ (v : Counted). data_at c.in-Some.place v.state.table) c.self.view_is in
    let room : c.of.result ≡ room_in c.args.rooms (data_at c.in-Some.place c.args.self.now.state.table) = c.of.ensures ∙ ap (room_in c.args.rooms) type in
    let fits : len_at c.in-Some.place c.args.self.now.state.table ≤ room_in c.args.rooms (data_at c.in-Some.place c.args.self.now.state.table) =
    omega (arith, c.if-found-of.false, len, room) in
    let next : next_due c.args.self.now.state.cursor c.args.self.now.state.table.records ≡ Some c.in-Some.place =
    sym (c.in-Some.ensures.next ∙ ap (λ (v : Counted). next_due v.state.cursor v.state.table.records) c.self.view_is) in
    let lent : EntityState = entity_lent c.send_at.new.self.state c.args.self.now.state in
    let shows : ShowsIf (data_at c.in-Some.place c.args.self.now.state.table) c.args.self.now.state.table c.send_at.new.self.state.table = c.in_ok-len.ensures.shows in
    let long : len_at c.in-Some.place lent.table ≡ len_at c.in-Some.place c.args.self.now.state.table =
    len-lent (data_at c.in-Some.place c.args.self.now.state.table) c.in-Some.place c.args.self.now.state.table c.send_at.new.self.state.table shows in
    let is = subst (λ (v : Counted). EntryIsSpelled lent.table.sources (slice_get v.state.table.records c.in-Some.place)) c.self.view_is (c.due_at-found.ensures.spelled lent.table.sources) in
    record {
      polled = moves-gave c.args.rooms c.in-Some.place lent c.send_at.new.self.state c.requires.no_stray next
          c.in_ok-len.field-0 c.in-Octets.len c.is_file_data-file_data.result c.args.out.now c.send_at.new.out c.in-Octets.is type (omega (arith, fits, long)) c.in_ok-len.ensures.sends.taken
          c.in_ok-len.ensures.sends.gives;
      spells = place-spells c.args.rooms c.in-Some.place lent c.send_at.new.self.state c.requires.no_stray next is;
      roomy = λ full. absurd (cc);
      counts = subst (λ (gave : Gave). CountsOutbox (stored_by_gave gave) c.args.self.now.outbox_failures c.send_at.new.self.outbox_failures) c.in-Octets.is c.in_ok-len.ensures.sends.counts;
      inbox = c.in_ok-len.ensures.sends.inbox;
    }

pub returns-in-Failed-clause-answers : goal.returns-in-Failed-clause-answers
returns-in-Failed-clause-answers g c =
    let len : c.due_at-found.result.len ≡ len_at c.in-Some.place c.args.self.now.state.table = c.due_at-found.ensures.len ∙ ap (λ (v : Counted). len_at c.in-Some.place v.state.table) c.self.view_is in
    let type : c.is_file_data-file_data.result ≡ data_at c.in-Some.place c.args.self.now.state.table =
    c.is_file_data-file_data.ensures ∙ c.due_at-found.ensures.data ∙ ap (λ (v : Counted). data_at c.in-Some.place v.state.table) c.self.view_is in
    let room : c.of.result ≡ room_in c.args.rooms (data_at c.in-Some.place c.args.self.now.state.table) = c.of.ensures ∙ ap (room_in c.args.rooms) type in
    let fits : len_at c.in-Some.place c.args.self.now.state.table ≤ room_in c.args.rooms (data_at c.in-Some.place c.args.self.now.state.table) =
    omega (arith, c.if-found-of.false, len, room) in
    let next : next_due c.args.self.now.state.cursor c.args.self.now.state.table.records ≡ Some c.in-Some.place =
    sym (c.in-Some.ensures.next ∙ ap (λ (v : Counted). next_due v.state.cursor v.state.table.records) c.self.view_is) in
    let lent : EntityState = entity_lent c.send_at.new.self.state c.args.self.now.state in
    let shows : ShowsIf (data_at c.in-Some.place c.args.self.now.state.table) c.args.self.now.state.table c.send_at.new.self.state.table = c.in_ok-len.ensures.shows in
    let long : len_at c.in-Some.place lent.table ≡ len_at c.in-Some.place c.args.self.now.state.table =
    len-lent (data_at c.in-Some.place c.args.self.now.state.table) c.in-Some.place c.args.self.now.state.table c.send_at.new.self.state.table shows in
    record {
      polled = loses-gave c.args.rooms c.in-Some.place lent c.send_at.new.self.state c.requires.no_stray next c.in_ok-len.field-0 c.in-Failed.is (omega (arith, fits, long))
          c.in_ok-len.ensures.sends.taken c.in_ok-len.ensures.sends.carries;
      spells = tt;
      roomy = λ full. absurd (cc);
      counts = subst (λ (gave : Gave). CountsOutbox (stored_by_gave gave) c.args.self.now.outbox_failures c.send_at.new.self.outbox_failures) c.in-Failed.is c.in_ok-len.ensures.sends.counts;
      inbox = c.in_ok-len.ensures.sends.inbox;
    }
