-- Parts of a run of turns in a world: outages, and turns in which nothing of a transaction is lost.
use Rattle.std.proofs.Common.{◌≡◌, ◌⊎◌, ℕ, ◌+◌, ◌≤◌, ◌&&◌, true, false, List, [], ◌∷◌, ◌++◌, length, max, refl, sym, ap, subst, ◌∙◌, arith, length-append}
use Rattle.std.specs.List.{AllByRecursion}
use Rattle.aos_frame.specs.declared.config.Lane.{Lane}
use Rattle.cfdp_header.specs.declared.value.TransactionId.{TransactionId}
use Rattle.cfdp_timers.specs.declared.kind.Kind.{Kind}
use Rattle.cfdp_timers.specs.Due.{is_due}
use Rattle.station_pair.specs.declared.side.Side.{Side}
use Rattle.station_pair.specs.declared.side.Side.TheVariants.{One, Two}
use Rattle.link_sim.specs.declared.event.Applied.{Applied}
use Rattle.link_sim.specs.declared.event.Applied.TheVariants as did
use Rattle.link_sim.specs.declared.event.Event.{Event}
use Rattle.link_sim.specs.declared.event.Event.TheVariants as event
use Rattle.link_sim.specs.Recovering.{armed_at}
use Rattle.link_sim.specs.Running.{AreSteps}
use Rattle.link_sim.specs.Settling.{IsOfSettling, KeepsAll, all_shortages}
use Rattle.link_sim.specs.World.State.{WorldState}
use Rattle.link_sim.specs.World.Steps.{Steps}
use Rattle.ports_in_order.proofs.Aside.{Reaches}
use Rattle.outages.specs.Outage.{Happening}
use Rattle.outages.specs.Spared.{AreSparing, IsSparing, IsUndue}
use Rattle.outages.specs.Tries.{time_told}
use Rattle.outages.proofs.Rising.{IsOfTurn, RiseAll, first-keeps, rise-both, rise-same, step-rises, then-keeps, tick-rises}

-- ---- events that spare it
of-turn : (e : Event) → IsOfSettling e → IsOfTurn e
of-turn (event.Poll s) of = tt
of-turn (event.Flush s) of = tt
of-turn (event.Deliver s l) of = tt
of-turn (event.Strike s l) of = absurd of
of-turn (event.Tick s now) of = absurd of
of-turn (event.Damage s l octets) of = absurd of
of-turn (event.Put s source destination) of = absurd of
of-turn (event.Cancel s call) of = absurd of
of-turn (event.Suspend s call) of = absurd of
of-turn (event.Resume s call) of = absurd of
of-turn (event.Prompt s call keep_alive) of = absurd of

spares : (id : TransactionId) (e : Event) (old new : WorldState) → IsOfSettling e → IsSparing id e old new
spares id (event.Poll s) old new of = tt
spares id (event.Flush s) old new of = tt
spares id (event.Deliver s l) old new of = tt
spares id (event.Strike s l) old new of = absurd of
spares id (event.Tick s now) old new of = absurd of
spares id (event.Damage s l octets) old new of = absurd of
spares id (event.Put s source destination) old new of = absurd of
spares id (event.Cancel s call) old new of = absurd of
spares id (event.Suspend s call) old new of = absurd of
spares id (event.Resume s call) old new of = absurd of
spares id (event.Prompt s call keep_alive) old new of = absurd of

pub sparing-both : (id : TransactionId) (xs ys : List Happening) (a b c : WorldState) → AreSparing id xs a b → AreSparing id ys b c → AreSparing id (xs ++ ys) a c
sparing-both id [] ys a b c same rest = subst (λ (w : WorldState). AreSparing id ys w c) same rest
sparing-both id (x ∷ xs) ys a b c are rest = (are.0, are.1, are.2, sparing-both id xs ys x.after b c are.3 rest)

module _ (id : TransactionId) where
  -- Events led from one world to the other, which spare the transaction if nothing was short.
  pub record Spared (a b : WorldState) : Type 0 where
    pub rises : RiseAll a b
    pub happened : KeepsAll (all_shortages a) (all_shortages b) → (hs : List Happening) × AreSparing id hs a b

  pub spared-none : (w : WorldState) → Spared w w
  spared-none w = record { rises = rise-same w; happened = λ keeps. ([], refl) }

  pub spared-both : (a b c : WorldState) → Spared a b → Spared b c → Spared a c
  spared-both a b c one two = record {
    rises = rise-both a b c one.rises two.rises;
    happened = λ keeps. (
        let x = one.happened (first-keeps a b c one.rises two.rises keeps) in
        let y = two.happened (then-keeps a b c one.rises two.rises keeps) in
        (x.0 ++ y.0, sparing-both id x.0 y.0 a b c x.1 y.1));
  }

  spared-one : (e : Event) (d : Applied) (a b : WorldState) → IsSparing id e a b → Steps e d a b → RiseAll a b → Spared a b
  spared-one e d a b of step rise = record { rises = rise; happened = λ keeps. (record { event = e; did = d; after = b } ∷ [], (of, step, keeps, refl)) }

  pub spared-tick : (s : Side) (now : ℕ) (a b : WorldState) → Steps (event.Tick s now) did.Applied a b → IsUndue id s now a → Spared a b
  spared-tick s now a b step undue = spared-one (event.Tick s now) did.Applied a b undue step (tick-rises s a b now step)

  spared-steps : (events : List Event) (did : List Applied) (a b : WorldState) → AreSteps events did a b → AllByRecursion IsOfSettling events → Spared a b
  spared-steps [] [] a b same of = subst (λ (w : WorldState). Spared a w) (sym same) (spared-none a)
  spared-steps [] (d ∷ did) a b bad of = absurd bad
  spared-steps (e ∷ events) [] a b bad of = absurd bad
  spared-steps (e ∷ events) (d ∷ did) a b (mid, step, more) of =
      spared-both a mid b (spared-one e d a mid (spares id e a mid of.0) step (step-rises e d a mid (of-turn e of.0) step)) (spared-steps events did mid b more of.1)

  pub spared-reach : (a b : WorldState) → Reaches IsOfSettling a b → Spared a b
  spared-reach a b r = spared-steps r.0 r.1.0 a b r.1.1 r.2
