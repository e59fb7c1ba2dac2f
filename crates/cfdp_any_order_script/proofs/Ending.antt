-- How commands go on, and how they end.
use Rattle.std.proofs.Common.{◌≡◌, ◌≤◌, ◌<◌, ◌+◌, ℕ, zero, suc, Bool, true, false, Option, None, Some, Result, Ok, Err, refl, sym, subst, add-one, arith, inl, inr}
use Rattle.link_sim.specs.declared.event.Event.TheVariants as event
use Rattle.station_pair.specs.declared.side.Side.TheVariants.{Two}
use Rattle.aos_frame.specs.declared.config.Lane.TheVariants.{Data}
use Rattle.cfdp_any_order_script.specs.declared.answer.Answer.{Answer}
use Rattle.cfdp_script.specs.declared.script.command.Command.{Command}
use Rattle.std.specs.Result.{IfErr, result_err}
use Rattle.station_pair.specs.declared.side.Side.{Side}
use Rattle.cfdp_any_order_script.specs.Performing.{Bursts, Flushes, HappensOnce, IsNext, IsOther, IsRecovered, Performs, PlayState, PollsAll, PollsAndFlushes, PollsOn, Recovers, RecoversOnce, RoundEnds, SendingEnds, Settles, Spreads, Times, most_rounds, nothing, still_armed, turn_event}

-- once more
pub times_more : (Step : PlayState → PlayState → Type 0) (count : ℕ) (old mid new : PlayState) → Times Step count old mid → Step mid new → Times Step (count + 1) old new
times_more Step count old mid new all one = subst (λ n. Times Step n old new) (sym (add-one count)) (mid, all, one)

-- the event of each turn after the seventh
pub last_turn : (turn : ℕ) → 7 ≤ turn → turn_event turn ≡ event.Deliver Two Data
last_turn zero h = absurd (omega arith)
last_turn (suc zero) h = absurd (omega arith)
last_turn (suc (suc zero)) h = absurd (omega arith)
last_turn (suc (suc (suc zero))) h = absurd (omega arith)
last_turn (suc (suc (suc (suc zero)))) h = absurd (omega arith)
last_turn (suc (suc (suc (suc (suc zero))))) h = absurd (omega arith)
last_turn (suc (suc (suc (suc (suc (suc zero)))))) h = absurd (omega arith)
last_turn (suc (suc (suc (suc (suc (suc (suc turn))))))) h = refl

-- what the exit of a `?` returns
at_err : {X : Type 0} (P : Option Answer → Type 0) (r : Result X Answer) (y why : Answer) → r ≡ Err y → y ≡ why → P (Some why) → P (result_err r)
at_err {X = X} P r y why is same p = subst (λ (x : Result X Answer). P (result_err x)) (sym is) (subst (λ (x : Answer). P (Some x)) (sym same) p)

-- ---- polls and flushes
-- a flush that had something to do, or nothing
pub flushed : (s : Side) (any : Bool) (old new : PlayState) → (any ≡ true → HappensOnce (event.Flush s) None old new) → (any ≡ false → HappensOnce (event.Flush s) (Some nothing) old new) →
    Flushes s None old new
flushed s true old new done idle = inl (done refl)
flushed s false old new done idle = inr (idle refl)

-- a poll that had another answer
pub polling_ended : {X : Type 0} (s : Side) (r : Result X Answer) (y why : Answer) (count : ℕ) (old mid new : PlayState) → r ≡ Err y → y ≡ why → Times (PollsOn s) count old mid → IsOther why →
    HappensOnce (event.Poll s) (Some why) mid new → PollsAll s (result_err r) old new
polling_ended s r y why count old mid new is same all other one = at_err (λ a. PollsAll s a old new) r y why is same (count, mid, all, inr (other, one))

-- a poll or a flush that did
pub sending_ended : {X : Type 0} (s : Side) (r : Result X Answer) (y why : Answer) (old mid new : PlayState) → r ≡ Err y → y ≡ why → HappensOnce (event.Poll s) None old mid → IsOther why →
    HappensOnce (event.Flush s) (Some why) mid new → IfErr r (λ x. SendingEnds s x old new)
sending_ended {X = X} s r y why old mid new is same poll other one =
    let ends : SendingEnds s why old new = (other, inr (mid, poll, one)) in
    subst (λ (x : Result X Answer). IfErr x (λ e. SendingEnds s e old new)) (sym is) (subst (λ (x : Answer). SendingEnds s x old new) (sym same) ends)

pub spreading_ended : {X : Type 0} (s : Side) (r : Result X Answer) (y why : Answer) (count : ℕ) (old mid new : PlayState) → r ≡ Err y → y ≡ why → Times (PollsAndFlushes s) count old mid →
    SendingEnds s why mid new → Spreads s (result_err r) old new
spreading_ended s r y why count old mid new is same all ends = at_err (λ a. Spreads s a old new) r y why is same (count, mid, all, inr ends)

-- a flush after all polls that did
pub burst_ended : {X : Type 0} (s : Side) (r : Result X Answer) (y why : Answer) (old mid new : PlayState) → r ≡ Err y → y ≡ why → PollsAll s None old mid → IsOther why →
    HappensOnce (event.Flush s) (Some why) mid new → Bursts s (result_err r) old new
burst_ended s r y why old mid new is same all other one = at_err (λ a. Bursts s a old new) r y why is same (inr (mid, all, (other, one)))

-- ---- a command
pub performs_as : (c d : Command) (a b : Option Answer) (old new : PlayState) → c ≡ d → a ≡ b → Performs d b old new → Performs c a old new
performs_as c d a b old new is same done = subst (λ (x : Command). Performs x a old new) (sym is) (subst (λ (x : Option Answer). Performs d x old new) (sym same) done)

-- ---- rounds of a recovery, after the first settling
pub record HasRecovered (count : ℕ) (old new : PlayState) : Type 0 where
  pub first : PlayState
  pub settles : Settles None old first
  pub rounds : Times RecoversOnce count first new

pub recovered_none : (old new : PlayState) → Settles None old new → HasRecovered 0 old new
recovered_none old new settles = record { first = new; settles = settles; rounds = refl }

pub recovered_more : (count : ℕ) (old mid new : PlayState) → HasRecovered count old mid → RecoversOnce mid new → HasRecovered (count + 1) old new
recovered_more count old mid new h once = record { first = h.first; settles = h.settles; rounds = times_more RecoversOnce count h.first mid new h.rounds once }

-- no timer is left to fire
pub recovered_last : (count : ℕ) (old last new : PlayState) → HasRecovered count old last → IsRecovered last → new ≡ last → Recovers None old new
recovered_last count old last new h done same = inr (h.first, count, last, h.settles, h.rounds, (same, done))

-- or a round ends with another answer
pub recovered_ends : (why : Answer) (count : ℕ) (old last new : PlayState) → HasRecovered count old last → RoundEnds why last new → Recovers (Some why) old new
recovered_ends why count old last new h ends = inr (h.first, count, last, h.settles, h.rounds, inr ends)

-- or there were too many
pub recovered_still : (s : Side) (now count : ℕ) (old last : PlayState) → HasRecovered count old last → count ≡ most_rounds → IsNext s now last →
    Recovers (Some still_armed) old last
recovered_still s now count old last h all next = inr (h.first, count, last, h.settles, h.rounds, inl (refl, all, refl, s, now, next))
