-- Polls, one after another, until they stop or find no more.
use Rattle.std.proofs.Common.{◌≡◌, ◌↔◌, ◌∙◌, ℕ, ◌+◌, Bool, false, IsTrue, add-one, arith, inl, inr, refl}
use Rattle.link_stack.specs.Downward.{DownState, KeepsLanes}
use Rattle.cfdp_station.specs.Transmitting.{IsMore, MovesMore, Times}
use Rattle.cfdp_station.proofs.station.Station.poll_until.Goals as goal

once_more : {S : Type 0} (Step : S → S → Type 0) (count : ℕ) (old mid new : S) → Times Step count old mid → Step mid new → Times Step (count + 1) old new
once_more Step count old mid new before step = rw add-one (mid, before, step)

not_so : (b : Bool) (P : Type 0) → (IsTrue b ↔ P) → b ≡ false → P → ⊥
not_so b P same is holds = let so : IsTrue b = same.1 holds in cc

kept_on : (old mid new : DownState) → KeepsLanes old mid → KeepsLanes mid new → KeepsLanes old new
kept_on old mid new a b = (b.0 ∙ a.0, b.1 ∙ a.1, b.2 ∙ a.2, b.3 ∙ a.3)

pub returns-then-stops_at-clause-ok : goal.returns-then-stops_at-clause-ok
returns-then-stops_at-clause-ok g c = record {
  count = c.loop-poll._poll;
  last = c.loop-poll.self;
  moved = c.loop-poll.invariant.0;
  ends = (inl (c.loop-poll-test.true, c.if-stops_at.ensures.stop refl), refl);
}

pub returns-then-not-is_more-clause-ok : goal.returns-then-not-is_more-clause-ok
returns-then-not-is_more-clause-ok g c =
    let rests = not_so c.is_more.result (IsMore c.in_ok-answer.answer) c.is_more.ensures c.if-not-is_more.true in
    record {
      count = c.loop-poll._poll;
      last = c.loop-poll.self;
      moved = c.loop-poll.invariant.0;
      ends = (c.loop-poll-test.true, (c.if-stops_at.ensures.go refl, (c.in_ok-answer.answer, rests, c.in_ok-answer.ensures.once)));
    }

pub loop-poll-preserved : goal.loop-poll-preserved
loop-poll-preserved g c =
    let more : IsMore c.in_ok-answer.answer = c.is_more.ensures.0 c.if-not-is_more.false in (
      once_more (MovesMore c.args.until) c.loop-poll._poll c.args.self.now c.loop-poll.self c.poll_shown.new.station c.loop-poll.invariant.0 (c.if-stops_at.ensures.go refl, (c.in_ok-answer.answer, more, c.in_ok-answer.ensures.once)),
      kept_on c.args.self.now.down c.loop-poll.self.down c.poll_shown.new.station.down c.loop-poll.invariant.1 c.in_ok-answer.ensures.lanes,
    )

pub returns-clause-ok : goal.returns-clause-ok
returns-clause-ok g c = record {
  count = c.loop-poll._poll;
  last = c.loop-poll.self;
  moved = c.loop-poll.invariant.0;
  ends = (inr (omega arith), refl);
}
