-- Exported: what any calls of a world come to: one event after another.
use Rattle.std.proofs.Common.{◌≡◌, ◌⊎◌, ◌∙◌, ℕ, zero, suc, List, [], ◌∷◌, refl, sym, ap, subst, inl, inr}
use Rattle.link_sim.specs.declared.event.Event.{Event}
use Rattle.link_sim.specs.declared.event.Event.TheVariants as event
use Rattle.link_sim.specs.declared.event.Applied.{Applied}
use Rattle.link_sim.specs.declared.event.Applied.TheVariants as did
use Rattle.station_pair.specs.declared.recover_error.RecoverError.{RecoverError}
use Rattle.station_pair.specs.declared.recover_error.RecoverError.TheVariants.{Settle, StillArmed}
use Rattle.station_pair.specs.declared.settle_error.SettleError.{SettleError}
use Rattle.station_pair.specs.declared.side.Side.{Side}
use Rattle.link_sim.specs.Recovering.{AreRounds, EndsBy, Recovers, Round, RoundEnds, TickEnds}
use Rattle.link_sim.specs.Running.{Called, Goes, Led}
use Rattle.link_sim.specs.Settling.{AreOfSettling, GoesWellFrom, Ends, HasCauseFrom, IsOfSettling}
use Rattle.link_sim.specs.Spreading.{BurstFindsNoMemory, Bursts, FlushesOnce, PollMoves, Many, PollsAll, SendsOut, SpreadFindsNoMemory, Spreads, Times}
use Rattle.link_sim.specs.World.State.{WorldState}
use Rattle.link_sim.specs.World.Steps.{FindsNoMemory, Steps, side_in}
use Rattle.link_sim.proofs.Events.Resting.{puts-after}

-- ---- one after another
pub many-none : (Step : WorldState → WorldState → Type 0) (a b : WorldState) → b ≡ a → Many Step a b
many-none Step a b same = (0, same)

pub many-one : (Step : WorldState → WorldState → Type 0) (a b : WorldState) → Step a b → Many Step a b
many-one Step a b step = (1, (a, refl, step))

times-both : (Step : WorldState → WorldState → Type 0) (n count : ℕ) (a b c : WorldState) → Times Step n a b → Times Step count b c → Many Step a c
times-both Step n zero a b c one two = (n, subst (λ (w : WorldState). Times Step n a w) (sym two) one)
times-both Step n (suc count) a b c one two =
    let r : Many Step a two.0 = times-both Step n count a b two.0 one two.1 in
    (suc r.0, (two.0, r.1, two.2))

pub many-both : (Step : WorldState → WorldState → Type 0) (a b c : WorldState) → Many Step a b → Many Step b c → Many Step a c
many-both Step a b c one two = times-both Step one.0 two.0 a b c one.1 two.1

-- steps each of which is many of another kind
pub many-times : (Step Other : WorldState → WorldState → Type 0) → ((a b : WorldState) → Other a b → Many Step a b) → (n : ℕ) (a b : WorldState) → Times Other n a b → Many Step a b
many-times Step Other each zero a b same = many-none Step a b same
many-times Step Other each (suc n) a b t = many-both Step a t.0 b (many-times Step Other each n a t.0 t.1) (each t.0 b t.2)

-- what each step keeps, many keep
many-keeps : (Step : WorldState → WorldState → Type 0) (P : WorldState → Type 0) → ((a b : WorldState) → P a → Step a b → P b) → (n : ℕ) (a b : WorldState) → P a → Times Step n a b → P b
many-keeps Step P each zero a b p same = subst P (sym same) p
many-keeps Step P each (suc n) a b p t = each t.0 b (many-keeps Step P each n a t.0 p t.1) t.2

-- ---- a row of events
-- An event of this kind happened, or one found no memory.
abbrev pub GoesBy : (Event → Type 0) → (old new : WorldState) → Type 0
GoesBy Is old new = ((e : Event) × (d : Applied) × (Is e × Steps e d old new)) ⊎ ((s : Side) × FindsNoMemory s old new)

-- Of a kind that polls, flushes, deliveries and ticks belong to, each call except of an event is a
-- row.
module _ (Is : Event → Type 0) (settles : (e : Event) → IsOfSettling e → Is e) (ticks : (s : Side) (now : ℕ) → Is (event.Tick s now)) where
  abbrev Row : (old new : WorldState) → Type 0
  Row old new = Many (GoesBy Is) old new

  row-none : (a b : WorldState) → b ≡ a → Row a b
  row-none a b same = many-none (GoesBy Is) a b same

  row-both : (a b c : WorldState) → Row a b → Row b c → Row a c
  row-both a b c one two = many-both (GoesBy Is) a b c one two

  row-event : (e : Event) (d : Applied) (a b : WorldState) → Is e → Steps e d a b → Row a b
  row-event e d a b is step = many-one (GoesBy Is) a b (inl (e, d, (is, step)))

  row-lacks : (s : Side) (a b : WorldState) → FindsNoMemory s a b → Row a b
  row-lacks s a b lacks = many-one (GoesBy Is) a b (inr (s, lacks))

  -- ---- polls and flushes
  row-polls : (s : Side) (a b : WorldState) → PollMoves s a b → Row a b
  row-polls s a b h = row-event (event.Poll s) did.Applied a b (settles (event.Poll s) tt) h

  row-flushes : (s : Side) (a b : WorldState) → FlushesOnce s a b → Row a b
  row-flushes s a b h = row-event (event.Flush s) h.0 a b (settles (event.Flush s) tt) h.1

  row-sends : (s : Side) (a b : WorldState) → SendsOut s a b → Row a b
  row-sends s a b h = row-both a h.0 b (row-polls s a h.0 h.1) (row-flushes s h.0 b h.2)

  pub row-spreads : (s : Side) (a b : WorldState) → Spreads s a b → Row a b
  row-spreads s a b h = row-both a h.last b (many-times (GoesBy Is) (SendsOut s) (row-sends s) h.count a h.last h.sent)
      (row-event (event.Poll s) did.Nothing h.last b (settles (event.Poll s) tt) h.rests)

  row-spread-ends : (s : Side) (last b : WorldState) → FindsNoMemory s last b ⊎ ((mid : WorldState) × PollMoves s last mid × FindsNoMemory s mid b) → Row last b
  row-spread-ends s last b (inl lacks) = row-lacks s last b lacks
  row-spread-ends s last b (inr h) = row-both last h.0 b (row-polls s last h.0 h.1) (row-lacks s h.0 b h.2)

  pub row-spread-lacks : (s : Side) (a b : WorldState) → SpreadFindsNoMemory s a b → Row a b
  row-spread-lacks s a b h = row-both a h.last b (many-times (GoesBy Is) (SendsOut s) (row-sends s) h.count a h.last h.sent) (row-spread-ends s h.last b h.ends)

  row-all : (s : Side) (a b : WorldState) → PollsAll s a b → Row a b
  row-all s a b h = row-both a h.last b (many-times (GoesBy Is) (PollMoves s) (row-polls s) h.count a h.last h.polled)
      (row-event (event.Poll s) did.Nothing h.last b (settles (event.Poll s) tt) h.rests)

  pub row-bursts : (s : Side) (a b : WorldState) → Bursts s a b → Row a b
  row-bursts s a b h = row-both a h.0 b (row-all s a h.0 h.1) (row-flushes s h.0 b h.2)

  pub row-burst-lacks : (s : Side) (a b : WorldState) → BurstFindsNoMemory s a b → Row a b
  row-burst-lacks s a b (inl h) = row-both a h.last b (many-times (GoesBy Is) (PollMoves s) (row-polls s) h.count a h.last h.polled) (row-lacks s h.last b h.ends)
  row-burst-lacks s a b (inr h) = row-both a h.0 b (row-all s a h.0 h.1) (row-lacks s h.0 b h.2)

  -- ---- settlings
  row-settles : (steps : List (Event × Applied)) (a b : WorldState) → AreOfSettling steps a b → Row a b
  row-settles [] a b same = row-none a b same
  row-settles (s ∷ steps) a b h = row-both a h.0 b (row-event s.0 s.1 a h.0 (settles s.0 h.1) h.2) (row-settles steps h.0 b h.3)

  pub row-well : (from upto : Event) (a b : WorldState) → GoesWellFrom from upto a b → Row a b
  row-well from upto a b h = row-settles h.only.steps a b h.only.are

  row-ends : (error : SettleError) (e : Event) (a b : WorldState) → Ends error e a b → Row a b
  row-ends error e a b (of_it, inl h, full) = row-event e h.0 a b (settles e of_it) h.1
  row-ends error e a b (of_it, inr h, full) = row-lacks (side_in e) a b h.2

  row-far : (from upto : Event) (a b : WorldState) → ((b ≡ a) × (upto ≡ from)) ⊎ GoesWellFrom from upto a b → Row a b
  row-far from upto a b (inl h) = row-none a b h.0
  row-far from upto a b (inr h) = row-well from upto a b h

  pub row-cause : (error : SettleError) (from : Event) (a b : WorldState) → HasCauseFrom from error a b → Row a b
  row-cause error from a b h = row-both a h.last b (row-far from h.event a h.last h.well) (row-ends error h.event h.last b h.ends)

  -- ---- recoveries
  row-rounds : (rounds : List Round) (a b : WorldState) → AreRounds rounds a b → Row a b
  row-rounds [] a b same = row-none a b same
  row-rounds (r ∷ rounds) a b h =
      row-both a r.settled b
      (row-both a r.ticked r.settled (row-event (event.Tick r.side r.now) did.Applied a r.ticked (ticks r.side r.now) h.0.tells.ticks) (row-well _ _ r.ticked r.settled h.0.settles))
      (row-rounds rounds r.settled b h.1)

  pub row-recovers : (a b : WorldState) → Recovers a b → Row a b
  row-recovers a b h = row-both a h.first b (row-well _ _ a h.first h.settles) (row-rounds h.rounds h.first b h.are)

  row-tick-ends : (error : SettleError) (s : Side) (now : ℕ) (a b : WorldState) → TickEnds error s now a b → Row a b
  row-tick-ends error s now a b (inl h) = row-event (event.Tick s now) did.Applied a b (ticks s now) h.0
  row-tick-ends error s now a b (inr h) = row-lacks s a b h.1

  row-round-ends : (error : SettleError) (a b : WorldState) → RoundEnds error a b → Row a b
  row-round-ends error a b h = elim h.ends [
    | inl e ↦ row-tick-ends error h.side h.now a b e
    | inr e ↦ row-both a e.0 b (row-event (event.Tick h.side h.now) did.Applied a e.0 (ticks h.side h.now) e.1.ticks) (row-cause error _ e.0 b e.2)
  ]

  pub row-ended : (error : RecoverError) (a b : WorldState) → EndsBy error a b → Row a b
  row-ended (Settle error) a b (inl h) = row-cause error _ a b h
  row-ended (Settle error) a b (inr h) = row-both a h.0 b (row-recovers a h.0 h.1) (row-round-ends error h.0 b h.2)
  row-ended StillArmed a b h = row-recovers a b h.run

-- ---- calls
abbrev IsAny : Event → Type 0
IsAny e = Unit {0}

row-one : (a b : WorldState) → Goes a b → Many (GoesBy IsAny) a b
row-one a b (inl (e, d, step)) = many-one (GoesBy IsAny) a b (inl (e, d, (tt, step)))
row-one a b (inr lacks) = many-one (GoesBy IsAny) a b (inr lacks)

abbrev all-settle : (e : Event) → IsOfSettling e → IsAny e
all-settle e of_it = tt

abbrev all-tick : (s : Side) (now : ℕ) → IsAny (event.Tick s now)
all-tick s now = tt

row-called : (a b : WorldState) → Called a b → Many (GoesBy IsAny) a b
row-called a b (inl h) = row-one a b h
row-called a b (inr (inl (s, inl h))) = row-spreads IsAny all-settle all-tick s a b h
row-called a b (inr (inl (s, inr h))) = row-spread-lacks IsAny all-settle all-tick s a b h
row-called a b (inr (inr (inl (s, inl h)))) = row-bursts IsAny all-settle all-tick s a b h
row-called a b (inr (inr (inl (s, inr h)))) = row-burst-lacks IsAny all-settle all-tick s a b h
row-called a b (inr (inr (inr (inl (inl h))))) = row-well IsAny all-settle all-tick _ _ a b h
row-called a b (inr (inr (inr (inl (inr h))))) = row-cause IsAny all-settle all-tick h.0 _ a b h.1
row-called a b (inr (inr (inr (inr (inl h))))) = row-recovers IsAny all-settle all-tick a b h
row-called a b (inr (inr (inr (inr (inr h))))) = row-ended IsAny all-settle all-tick h.0 a b h.1

-- what each event keeps, all calls keep
pub led-keeps : (P : WorldState → Type 0) → ((a b : WorldState) → P a → Goes a b → P b) → (a b : WorldState) → P a → Led a b → P b
led-keeps P each a b p h = many-keeps Called P (λ x y q k. let r : Many (GoesBy IsAny) x y = row-called x y k in many-keeps (GoesBy IsAny) P by r.0 x y q r.1) h.0 a b p h.1
  where
    by : (x y : WorldState) → P x → GoesBy IsAny x y → P y
    by x y q (inl (e, d, k)) = each x y q (inl (e, d, k.1))
    by x y q (inr lacks) = each x y q (inr lacks)

-- ---- puts
-- an event that is no put
abbrev pub IsNoPut : Event → Type 0
IsNoPut (event.Put s source destination) = ⊥
IsNoPut _ = Unit {0}

pub no-put-settles : (e : Event) → IsOfSettling e → IsNoPut e
no-put-settles (event.Poll s) of_it = tt
no-put-settles (event.Flush s) of_it = tt
no-put-settles (event.Deliver s l) of_it = tt
no-put-settles (event.Put s source destination) of_it = of_it
no-put-settles (event.Cancel s id) of_it = tt
no-put-settles (event.Suspend s id) of_it = tt
no-put-settles (event.Resume s id) of_it = tt
no-put-settles (event.Prompt s id keep_alive) of_it = tt
no-put-settles (event.Tick s now) of_it = tt
no-put-settles (event.Strike s l) of_it = tt
no-put-settles (event.Damage s l octets) of_it = tt

pub no-put-same : (e : Event) (d : Applied) (old new : WorldState) → IsNoPut e → Steps e d old new → new.puts ≡ old.puts
no-put-same e d old new is h = elim (puts-after e d old new h) [
  | inl t ↦ absurd (subst IsNoPut t.4 is)
  | inr same ↦ same
]

-- a row of such events leaves the puts
pub row-puts : (a b : WorldState) → Many (GoesBy IsNoPut) a b → b.puts ≡ a.puts
row-puts a b row = many-keeps (GoesBy IsNoPut) (λ w. w.puts ≡ a.puts) by row.0 a b refl row.1
  where
    by : (x y : WorldState) → x.puts ≡ a.puts → GoesBy IsNoPut x y → y.puts ≡ a.puts
    by x y same (inl (e, d, k)) = no-put-same e d x y k.0 k.1 ∙ same
    by x y same (inr (s, k)) = ap (λ (w : WorldState). w.puts) k ∙ same
