-- Events of turns that led from one world to another are an outage.
use Rattle.std.proofs.Common.{◌≡◌, ◌⊎◌, ℕ, ◌+◌, false, List, [], ◌∷◌, ◌++◌, refl, sym, ap, subst, ◌∙◌, arith}
use Rattle.std.specs.List.{AllByRecursion}
use Rattle.cfdp_header.specs.declared.value.TransactionId.{TransactionId}
use Rattle.cfdp_timers.specs.declared.kind.Kind.{Kind}
use Rattle.station_pair.specs.declared.side.Side.{Side}
use Rattle.link_sim.specs.declared.event.Applied.{Applied}
use Rattle.link_sim.specs.declared.event.Applied.TheVariants as did
use Rattle.link_sim.specs.declared.event.Event.{Event}
use Rattle.link_sim.specs.declared.event.Event.TheVariants as event
use Rattle.link_sim.specs.Running.{AreSteps}
use Rattle.link_sim.specs.Settling.{KeepsAll, all_shortages}
use Rattle.link_sim.specs.World.State.{WorldState}
use Rattle.link_sim.specs.World.Steps.{Steps}
use Rattle.ports_in_order.proofs.Aside.{Reaches}
use Rattle.outages.specs.Outage.{AreOfOutage, Happening, IsOfOutage}
use Rattle.outages.specs.Tries.{AreCalm, IsCalm, expires_at, expiries, one_if}
use Rattle.outages.proofs.Rising.{IsOfTurn, RiseAll, first-keeps, rise-both, rise-same, step-rises, then-keeps}

-- ---- one event of a turn
of-outage : (id : TransactionId) (e : Event) → IsOfTurn e → IsOfOutage id e
of-outage id (event.Poll s) of = tt
of-outage id (event.Flush s) of = tt
of-outage id (event.Deliver s l) of = tt
of-outage id (event.Strike s l) of = tt
of-outage id (event.Tick s now) of = absurd of
of-outage id (event.Damage s l octets) of = absurd of
of-outage id (event.Put s source destination) of = absurd of
of-outage id (event.Cancel s call) of = absurd of
of-outage id (event.Suspend s call) of = absurd of
of-outage id (event.Resume s call) of = absurd of
of-outage id (event.Prompt s call keep_alive) of = absurd of

none-expires : (id : TransactionId) (s : Side) (k : Kind) (w : WorldState) (e : Event) → IsOfTurn e → expires_at s id k w e ≡ false
none-expires id s k w (event.Poll t) of = refl
none-expires id s k w (event.Flush t) of = refl
none-expires id s k w (event.Deliver t l) of = refl
none-expires id s k w (event.Strike t l) of = refl
none-expires id s k w (event.Tick t now) of = absurd of
none-expires id s k w (event.Damage t l octets) of = absurd of
none-expires id s k w (event.Put t source destination) of = absurd of
none-expires id s k w (event.Cancel t call) of = absurd of
none-expires id s k w (event.Suspend t call) of = absurd of
none-expires id s k w (event.Resume t call) of = absurd of
none-expires id s k w (event.Prompt t call keep_alive) of = absurd of

is-calm : (id : TransactionId) (w : WorldState) (e : Event) → IsOfTurn e → IsCalm id w e
is-calm id w (event.Poll s) of = tt
is-calm id w (event.Flush s) of = tt
is-calm id w (event.Deliver s l) of = tt
is-calm id w (event.Strike s l) of = tt
is-calm id w (event.Tick s now) of = absurd of
is-calm id w (event.Damage s l octets) of = absurd of
is-calm id w (event.Put s source destination) of = absurd of
is-calm id w (event.Cancel s call) of = absurd of
is-calm id w (event.Suspend s call) of = absurd of
is-calm id w (event.Resume s call) of = absurd of
is-calm id w (event.Prompt s call keep_alive) of = absurd of

-- ---- lists of events
steps-rise : (events : List Event) (did : List Applied) (old new : WorldState) → AreSteps events did old new → AllByRecursion IsOfTurn events → RiseAll old new
steps-rise [] [] old new same of = subst (λ (w : WorldState). RiseAll old w) (sym same) (rise-same old)
steps-rise [] (d ∷ did) old new bad of = absurd bad
steps-rise (e ∷ events) [] old new bad of = absurd bad
steps-rise (e ∷ events) (d ∷ did) old new (mid, step, more) of = rise-both old mid new (step-rises e d old mid of.0 step) (steps-rise events did mid new more of.1)

pub reach-rises : (old new : WorldState) → Reaches IsOfTurn old new → RiseAll old new
reach-rises old new r = steps-rise r.0 r.1.0 old new r.1.1 r.2

outage-both : (id : TransactionId) (xs ys : List Happening) (a b c : WorldState) → AreOfOutage id xs a b → AreOfOutage id ys b c → AreOfOutage id (xs ++ ys) a c
outage-both id [] ys a b c same rest = subst (λ (w : WorldState). AreOfOutage id ys w c) same rest
outage-both id (x ∷ xs) ys a b c are rest = (are.0, are.1, are.2, outage-both id xs ys x.after b c are.3 rest)

expiries-both : (id : TransactionId) (xs ys : List Happening) (a b : WorldState) → AreOfOutage id xs a b → (s : Side) (k : Kind) → expiries id a (xs ++ ys) s k ≡ expiries id a xs s k + expiries id b ys s k
expiries-both id [] ys a b same s k = (let e : expiries id a ys s k ≡ expiries id b ys s k = ap (λ (w : WorldState). expiries id w ys s k) (sym same) in omega (arith, e))
expiries-both id (x ∷ xs) ys a b are s k = (
    let e : expiries id x.after (xs ++ ys) s k ≡ expiries id x.after xs s k + expiries id b ys s k = expiries-both id xs ys x.after b are.3 s k in
    omega (arith, e))

calm-both : (id : TransactionId) (xs ys : List Happening) (a b : WorldState) → AreOfOutage id xs a b → AreCalm id a xs → AreCalm id b ys → AreCalm id a (xs ++ ys)
calm-both id [] ys a b same calm rest = subst (λ (w : WorldState). AreCalm id w ys) same rest
calm-both id (x ∷ xs) ys a b are calm rest = (calm.0, calm-both id xs ys x.after b are.3 calm.1 rest)

module _ (id : TransactionId) where
  -- An outage led from the old world to the new one, in which timers of the transaction expired so
  -- often, and which is calm if this holds.
  pub record Listed (old new : WorldState) (counts : Side → Kind → ℕ) (Calm : Type 0) : Type 0 where
    pub happened : List Happening
    pub are : AreOfOutage id happened old new
    pub expire : (s : Side) (k : Kind) → expiries id old happened s k ≡ counts s k
    pub are_calm : Calm → AreCalm id old happened

  pub listed-none : (w : WorldState) → Listed w w (λ s k. 0) (Unit {0})
  listed-none w = record { happened = []; are = refl; expire = λ s k. refl; are_calm = λ c. tt }

  pub listed-both : (a b c : WorldState) (n m : Side → Kind → ℕ) (P Q : Type 0) → Listed a b n P → Listed b c m Q → Listed a c (λ s k. n s k + m s k) (P × Q)
  listed-both a b c n m P Q one two = record {
    happened = one.happened ++ two.happened;
    are = outage-both id one.happened two.happened a b c one.are two.are;
    expire = λ s k. (
        let all : expiries id a (one.happened ++ two.happened) s k ≡ expiries id a one.happened s k + expiries id b two.happened s k = expiries-both id one.happened two.happened a b one.are s k in
        let p : expiries id a one.happened s k ≡ n s k = one.expire s k in
        let q : expiries id b two.happened s k ≡ m s k = two.expire s k in
        omega (arith, all, p, q));
    are_calm = λ c. calm-both id one.happened two.happened a b one.are (one.are_calm c.0) (two.are_calm c.1);
  }

  pub listed-as : (a b : WorldState) (n m : Side → Kind → ℕ) (P Q : Type 0) → ((s : Side) (k : Kind) → n s k ≡ m s k) → (Q → P) → Listed a b n P → Listed a b m Q
  listed-as a b n m P Q same calm l = record { happened = l.happened; are = l.are; expire = λ s k. l.expire s k ∙ same s k; are_calm = λ c. l.are_calm (calm c) }

  listed-steps : (events : List Event) (did : List Applied) (old new : WorldState) → AreSteps events did old new → AllByRecursion IsOfTurn events → KeepsAll (all_shortages old) (all_shortages new) →
      Listed old new (λ s k. 0) (Unit {0})
  listed-steps [] [] old new same of keeps = subst (λ (w : WorldState). Listed old w (λ s k. 0) (Unit {0})) (sym same) (listed-none old)
  listed-steps [] (d ∷ did) old new bad of keeps = absurd bad
  listed-steps (e ∷ events) [] old new bad of keeps = absurd bad
  listed-steps (e ∷ events) (d ∷ did) old new (mid, step, more) of keeps =
      let one : RiseAll old mid = step-rises e d old mid of.0 step in
      let two : RiseAll mid new = steps-rise events did mid new more of.1 in
      let rest : Listed mid new (λ s k. 0) (Unit {0}) = listed-steps events did mid new more of.1 (then-keeps old mid new one two keeps) in
      record {
        happened = record { event = e; did = d; after = mid } ∷ rest.happened;
        are = (of-outage id e of.0, step, first-keeps old mid new one two keeps, rest.are);
        expire = λ s k. (
            let here : one_if (expires_at s id k old e) ≡ 0 = ap one_if (none-expires id s k old e of.0) in
            let then_none : expiries id mid rest.happened s k ≡ 0 = rest.expire s k in
            omega (arith, here, then_none));
        are_calm = λ c. (is-calm id old e of.0, rest.are_calm tt);
      }

  pub listed-reach : (old new : WorldState) → Reaches IsOfTurn old new → KeepsAll (all_shortages old) (all_shortages new) → Listed old new (λ s k. 0) (Unit {0})
  listed-reach old new r keeps = listed-steps r.0 r.1.0 old new r.1.1 r.2 keeps

  -- ---- the time
  pub listed-tick : (t : Side) (now : ℕ) (old new : WorldState) → Steps (event.Tick t now) did.Applied old new → KeepsAll (all_shortages old) (all_shortages new) →
      Listed old new (λ s k. one_if (expires_at s id k old (event.Tick t now))) (IsCalm id old (event.Tick t now))
  listed-tick t now old new step keeps = record {
    happened = record { event = event.Tick t now; did = did.Applied; after = new } ∷ [];
    are = (tt, step, keeps, refl);
    expire = λ s k. omega arith;
    are_calm = λ c. (c, tt);
  }
