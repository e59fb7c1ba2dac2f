-- How often the stores of two stations failed.
use Rattle.std.specs.Prelude.{◌≡◌, ℕ}
use Rattle.link_sim.specs.World.State.{WorldState}

-- So often have the outboxes and the inboxes of both stations failed, the first station's first.
pub record HaveFailed (outboxes inboxes : ℕ × ℕ) (w : WorldState) : Type 0 where
  pub outbox_one : w.one.entity.outbox_failures ≡ outboxes.0
  pub outbox_two : w.two.entity.outbox_failures ≡ outboxes.1
  pub inbox_one : w.one.entity.inbox_failures ≡ inboxes.0
  pub inbox_two : w.two.entity.inbox_failures ≡ inboxes.1
