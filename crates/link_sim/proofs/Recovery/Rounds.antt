-- Rounds of a recovery, one after the other, and how often the time was given in them.
use Rattle.std.proofs.Common.{◌≡◌, ℕ, suc, ◌+◌, ◌<◌, List, [], ◌∷◌, ◌++◌, length, Result, Err, refl, sym, ap, subst, ◌∙◌, inl, inr, arith, length-append}
use Rattle.cfd_bits.specs.Counting.{raised}
use Rattle.cfdp_timers.specs.ButInactivity.{IsLeastOther}
use Rattle.link_sim.specs.declared.event.Event.{Event}
use Rattle.link_sim.specs.declared.event.Event.TheVariants as event
use Rattle.link_sim.specs.declared.event.Applied.{Applied}
use Rattle.link_sim.specs.declared.event.Applied.TheVariants as did
use Rattle.station_pair.specs.declared.settle_error.SettleError.{SettleError}
use Rattle.station_pair.specs.declared.recover_error.RecoverError.{RecoverError}
use Rattle.station_pair.specs.declared.recover_error.RecoverError.TheVariants.{Settle}
use Rattle.station_pair.specs.declared.side.Side.{Side}
use Rattle.station_pair.specs.declared.side.Side.TheVariants.{One, Two}
use Rattle.link_sim.specs.Calls.{TriesRecovery}
use Rattle.link_sim.specs.Recovering.{AreRounds, EndsBy, HasEnded, IsNext, Recovers, Round, StaysArmed, armed_at, most_rounds, raised_by}
use Rattle.link_sim.specs.Settling.{IsOfSettling, AreOfSettling, GoesWell, IsSettled}
use Rattle.link_sim.specs.Onward.{AllAdvance, GoesOn, RecoversOn}
use Rattle.link_sim.specs.Tracks.{Advances, AllStand}
use Rattle.link_sim.specs.Waiting.{AllWait, IgnoreInactivity}
use Rattle.link_sim.specs.World.State.{WorldState}
use Rattle.link_sim.specs.World.Steps.{Steps}

-- ---- how often the time was given
-- no event of a settling gives it
event-ticks : (e : Event) (d : Applied) (old new : WorldState) → IsOfSettling e → Steps e d old new → new.ticks ≡ old.ticks
event-ticks (event.Poll s) did.Applied old new of_it (inl h) = h.marks.counts.ticks
event-ticks (event.Poll s) did.Applied old new of_it (inr h) = h.counts.ticks
event-ticks (event.Poll s) did.Nothing old new of_it h = ap (λ (w : WorldState). w.ticks) h.1
event-ticks (event.Poll s) (did.Refused by) old new of_it h = absurd h
event-ticks (event.Flush s) did.Applied old new of_it h = h.0.marks.counts.ticks
event-ticks (event.Flush s) did.Nothing old new of_it h = ap (λ (w : WorldState). w.ticks) h.1
event-ticks (event.Flush s) (did.Refused by) old new of_it h = absurd h
event-ticks (event.Deliver s l) did.Applied old new of_it h = h.counts.ticks
event-ticks (event.Deliver s l) did.Nothing old new of_it h = ap (λ (w : WorldState). w.ticks) h.1
event-ticks (event.Deliver s l) (did.Refused by) old new of_it h = absurd h
event-ticks (event.Put s source destination) d old new of_it h = absurd of_it
event-ticks (event.Cancel s id) d old new of_it h = absurd of_it
event-ticks (event.Suspend s id) d old new of_it h = absurd of_it
event-ticks (event.Resume s id) d old new of_it h = absurd of_it
event-ticks (event.Prompt s id keep_alive) d old new of_it h = absurd of_it
event-ticks (event.Tick s now) d old new of_it h = absurd of_it
event-ticks (event.Strike s l) d old new of_it h = absurd of_it
event-ticks (event.Damage s l octets) d old new of_it h = absurd of_it

events-ticks : (steps : List (Event × Applied)) (old new : WorldState) → AreOfSettling steps old new → new.ticks ≡ old.ticks
events-ticks [] old new is = ap (λ (w : WorldState). w.ticks) is
events-ticks (s ∷ steps) old new run = events-ticks steps run.0 new run.3 ∙ event-ticks s.0 s.1 old run.0 run.1 run.2

well-ticks : (old new : WorldState) → GoesWell old new → new.ticks ≡ old.ticks
well-ticks old new well = events-ticks well.only.steps old new well.only.are

raised-none : (count : ℕ) → raised_by 0 count ≡ count
raised-none count = omega arith

raised-once_more : (n count : ℕ) → raised_by n (raised count) ≡ raised_by (suc n) count
raised-once_more n count = omega arith

-- each round gives it once
rounds-ticks : (rounds : List Round) (old new : WorldState) → AreRounds rounds old new → new.ticks ≡ raised_by (length rounds) old.ticks
rounds-ticks [] old new is = ap (λ (w : WorldState). w.ticks) is ∙ sym (raised-none old.ticks)
rounds-ticks (r ∷ rounds) old new run =
    let told : r.settled.ticks ≡ raised old.ticks = well-ticks r.ticked r.settled run.0.settles ∙ run.0.tells.ticks.ticks in
    let rest : new.ticks ≡ raised_by (length rounds) r.settled.ticks = rounds-ticks rounds r.settled new run.1 in
    rest ∙ ap (raised_by (length rounds)) told ∙ raised-once_more (length rounds) old.ticks

-- ---- one round more
rounds-both : (first more : List Round) (a b c : WorldState) → AreRounds first a b → AreRounds more b c → AreRounds (first ++ more) a c
rounds-both [] more a b c is run = subst (λ (w : WorldState). AreRounds more w c) is run
rounds-both (r ∷ first) more a b c run rest = (run.0, rounds-both first more r.settled b c run.1 rest)

advance-both : (first : List Round) (r : Round) (a b : WorldState) → AreRounds first a b → AllAdvance first a → (IgnoreInactivity b → Advances b r.settled) → AllAdvance (first ++ r ∷ []) a
advance-both [] r a b is all more = (subst (λ (w : WorldState). IgnoreInactivity w → Advances w r.settled) is more, tt)
advance-both (x ∷ first) r a b run all more = (all.0, advance-both first r x.settled b run.1 all.1 more)

-- So many rounds went by, and all is settled.
pub record HasRun (n : ℕ) (old new : WorldState) : Type 0 where
  pub on : RecoversOn old new
  pub count : length on.run.rounds ≡ n
  pub rests : IsSettled new

pub run-none : (old new : WorldState) → GoesOn old new → IsSettled new → (AllWait old → AllStand old new) → HasRun 0 old new
run-none old new on settled stands = record {
  on = record {
    run = record { first = new; settles = on.well; settled = settled; rounds = []; are = refl; few = omega arith };
    keeps = on.runs.keeps;
    stands = stands;
    advance = tt;
  };
  count = refl;
  rests = settled;
}

pub run-more : (n : ℕ) (old mid new : WorldState) → n < most_rounds → HasRun n old mid → (r : Round) → AreRounds (r ∷ []) mid new → (IgnoreInactivity mid → Advances mid new) → HasRun (n + 1) old new
run-more n old mid new low h r round advances =
    let run : Recovers old mid = h.on.run in
    let more : length (run.rounds ++ r ∷ []) ≡ n + 1 = length-append run.rounds (r ∷ []) ∙ ap (λ (k : ℕ). k + 1) h.count in
    record {
      on = record {
        run = record {
          first = run.first;
          settles = run.settles;
          settled = run.settled;
          rounds = run.rounds ++ r ∷ [];
          are = rounds-both run.rounds (r ∷ []) run.first mid new run.are round;
          few = omega (arith, more, low);
        };
        keeps = h.on.keeps;
        stands = h.on.stands;
        advance = advance-both run.rounds r run.first mid run.are h.on.advance (λ ignore. subst (λ (w : WorldState). Advances mid w) round.1 (advances ignore));
      };
      count = more;
      rests = subst (λ (w : WorldState). IsSettled w) (sym round.1) round.0.settled;
    }

-- ---- how it ends
-- an error that is handed up
pub recovery-ended : (r : Result (Unit {0}) RecoverError) (y : RecoverError) (error : SettleError) (old new : WorldState) → r ≡ Err y → y ≡ Settle error → HasEnded error old new → TriesRecovery r old new
recovery-ended r y error old new is same h =
    subst (λ (x : Result (Unit {0}) RecoverError). TriesRecovery x old new) (sym is)
    (record { recovered = tt; well = tt; cause = subst (λ (e : RecoverError). EndsBy e old new) (sym same) h })

pub next-least : (s : Side) (now : ℕ) (w : WorldState) → IsNext s now w → IsLeastOther (armed_at s w) now
next-least One now w h = h
next-least Two now w h = h.1

next-armed : (s : Side) (now : ℕ) (w : WorldState) → IsNext s now w → (t : Side) × (deadline : ℕ) × IsLeastOther (armed_at t w) deadline
next-armed s now w h = (s, now, next-least s now w h)

pub stays-armed : (n : ℕ) (old new : WorldState) (s : Side) (now : ℕ) → n ≡ most_rounds → HasRun n old new → IsNext s now new → StaysArmed old new
stays-armed n old new s now most h next = record {
  run = h.on.run;
  all = h.count ∙ most;
  ticks = rounds-ticks h.on.run.rounds h.on.run.first new h.on.run.are
      ∙ ap (λ (k : ℕ). raised_by k h.on.run.first.ticks) (h.count ∙ most)
      ∙ ap (raised_by most_rounds) (well-ticks old h.on.run.first h.on.run.settles);
  settled = h.rests;
  armed = next-armed s now new next;
}

-- A tick is never refused, and never nothing.
pub tick-applied : (d : Applied) (s : Side) (now : ℕ) (old new : WorldState) → Steps (event.Tick s now) d old new → Steps (event.Tick s now) did.Applied old new
tick-applied did.Applied s now old new h = h
tick-applied did.Nothing s now old new h = absurd h
tick-applied (did.Refused by) s now old new h = absurd h
