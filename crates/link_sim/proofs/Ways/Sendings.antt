-- Polls and flushes of one station, one after another.
use Rattle.std.proofs.Common.{◌≡◌, ℕ, suc, Bool, true, false, inl, inr, refl, Result, Ok, Err}
use Rattle.std.specs.Prelude.{IsErrAnd}
use Rattle.std.specs.Result.{OnErr}
use Rattle.std.specs.declared.alloc.AllocError.{AllocError}
use Rattle.link_sim.specs.Calls.{TriesBurst, TriesSpread}
use Rattle.link_sim.specs.Spreading.{BurstFindsNoMemory, Bursts, FlushesOnce, PollFindsNoMemory, PollMoves, PollRests, PollsAll, SendsOut, SpreadFindsNoMemory, Spreads, Times}
use Rattle.link_sim.specs.World.State.{WorldState}
use Rattle.link_sim.specs.World.Steps.{FindsNoMemory, Steps}
use Rattle.link_sim.specs.declared.event.Applied.TheVariants as did
use Rattle.link_sim.specs.declared.event.Event.TheVariants as event
use Rattle.station_pair.specs.declared.side.Side.{Side}

-- what holds at an error holds of the answer
pub on_err : {A E : Type 0} (r : Result A E) (P : Type 0) → P → OnErr r P
on_err (Ok x) P p = tt
on_err (Err e) P p = p

-- a flush did something or nothing
flushes_once : (s : Side) (flushed : Bool) (old new : WorldState) → (flushed ≡ true → Steps (event.Flush s) did.Applied old new)
    → (flushed ≡ false → Steps (event.Flush s) did.Nothing old new) → FlushesOnce s old new
flushes_once s true old new applied idle = (did.Applied, applied refl)
flushes_once s false old new applied idle = (did.Nothing, idle refl)

-- ---- with a flush after each poll
pub record SentSoFar (s : Side) (old now : WorldState) : Type 0 where
  pub count : ℕ
  pub sent : Times (SendsOut s) count old now

pub sent_none : (s : Side) (w : WorldState) → SentSoFar s w w
sent_none s w = record { count = 0; sent = refl }

pub sent_more : (s : Side) (flushed : Bool) (old last mid new : WorldState) → SentSoFar s old last → PollMoves s last mid
    → (flushed ≡ true → Steps (event.Flush s) did.Applied mid new) → (flushed ≡ false → Steps (event.Flush s) did.Nothing mid new) → SentSoFar s old new
sent_more s flushed old last mid new so moves applied idle =
    record { count = suc so.count; sent = (last, so.sent, (mid, moves, flushes_once s flushed mid new applied idle)) }

pub spreads : (s : Side) (old last new : WorldState) → SentSoFar s old last → PollRests s last new → Spreads s old new
spreads s old last new so rests = record { count = so.count; last = last; sent = so.sent; rests = rests }

pub spread_lacks : (s : Side) (old last new : WorldState) → SentSoFar s old last → FindsNoMemory s last new → SpreadFindsNoMemory s old new
spread_lacks s old last new so lacks = record { count = so.count; last = last; sent = so.sent; ends = inl lacks }

pub flush_lacks : (s : Side) (old last mid new : WorldState) → SentSoFar s old last → PollMoves s last mid → FindsNoMemory s mid new → SpreadFindsNoMemory s old new
flush_lacks s old last mid new so moves lacks = record { count = so.count; last = last; sent = so.sent; ends = inr (mid, moves, lacks) }

pub spread_failed : (Q : AllocError → Type 0) (r : Result (Unit {0}) AllocError) (s : Side) (old new : WorldState) → IsErrAnd r Q → SpreadFindsNoMemory s old new → TriesSpread s r old new
spread_failed Q (Ok x) s old new h lacks = absurd h
spread_failed Q (Err e) s old new h lacks = record { rests = tt; spreads = tt; lacks = lacks }

-- ---- with one flush after all polls
pub record PolledSoFar (s : Side) (old now : WorldState) : Type 0 where
  pub count : ℕ
  pub polled : Times (PollMoves s) count old now

pub polled_none : (s : Side) (w : WorldState) → PolledSoFar s w w
polled_none s w = record { count = 0; polled = refl }

pub polled_more : (s : Side) (old last new : WorldState) → PolledSoFar s old last → PollMoves s last new → PolledSoFar s old new
polled_more s old last new so moves = record { count = suc so.count; polled = (last, so.polled, moves) }

pub polls_all : (s : Side) (old last new : WorldState) → PolledSoFar s old last → PollRests s last new → PollsAll s old new
polls_all s old last new so rests = record { count = so.count; last = last; polled = so.polled; rests = rests }

pub poll_lacks : (s : Side) (old last new : WorldState) → PolledSoFar s old last → FindsNoMemory s last new → PollFindsNoMemory s old new
poll_lacks s old last new so lacks = record { count = so.count; last = last; polled = so.polled; ends = lacks }

pub bursts : (s : Side) (flushed : Bool) (old rested new : WorldState) → PollsAll s old rested
    → (flushed ≡ true → Steps (event.Flush s) did.Applied rested new) → (flushed ≡ false → Steps (event.Flush s) did.Nothing rested new) → Bursts s old new
bursts s flushed old rested new polls applied idle = (rested, polls, flushes_once s flushed rested new applied idle)

pub burst_lacks_poll : (s : Side) (old new : WorldState) → PollFindsNoMemory s old new → BurstFindsNoMemory s old new
burst_lacks_poll s old new lacks = inl lacks

pub burst_lacks_flush : (s : Side) (old rested new : WorldState) → PollsAll s old rested → FindsNoMemory s rested new → BurstFindsNoMemory s old new
burst_lacks_flush s old rested new polls lacks = inr (rested, polls, lacks)

pub burst_failed : (Q : AllocError → Type 0) (r : Result (Unit {0}) AllocError) (s : Side) (old new : WorldState) → IsErrAnd r Q → BurstFindsNoMemory s old new → TriesBurst s r old new
burst_failed Q (Ok x) s old new h lacks = absurd h
burst_failed Q (Err e) s old new h lacks = record { rests = tt; bursts = tt; lacks = lacks }
