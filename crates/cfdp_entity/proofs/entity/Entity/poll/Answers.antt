use Rattle.std.proofs.Common.{rules, ◌≤◌, ℕ, length, sym, subst}
use Rattle.cfdp_entity.specs.Entity.{Counted}
use Rattle.cfdp_entity.specs.Polling.{Polls, turn_room}
use Rattle.cfdp_entity.specs.Spelled.{SpellsMoved}
use Rattle.cfdp_entity.proofs.Lent.{same-lent}
use Rattle.cfdp_entity.proofs.Turns.{stray-room}
use Rattle.cfdp_entity.proofs.entity.Entity.poll.Goals as goal

pub returns-else-is_empty-clause-polled : goal.returns-else-is_empty-clause-polled
returns-else-is_empty-clause-polled g c =
    let some : 1 ≤ length c.args.self.now.state.strays = search rules in
    subst (λ (v : Counted). Polls (turn_room c.args.rooms v.state) c.poll_stray.result v c.poll_stray.new.self c.args.out.now c.poll_stray.new.out) (sym (same-lent c.args.self.now c.poll_stray.new.self c.poll_stray.ensures.table))
    (subst (λ (room : ℕ). Polls room c.poll_stray.result c.args.self.now c.poll_stray.new.self c.args.out.now c.poll_stray.new.out) (sym (stray-room c.args.rooms c.args.self.now.state some))
    c.poll_stray.ensures.answers.polled)

pub returns-else-is_empty-clause-spells : goal.returns-else-is_empty-clause-spells
returns-else-is_empty-clause-spells g c =
    subst (λ (v : Counted). SpellsMoved c.poll_stray.result v.state) (sym (same-lent c.args.self.now c.poll_stray.new.self c.poll_stray.ensures.table)) c.poll_stray.ensures.answers.spells
