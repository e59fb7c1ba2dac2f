-- That nothing was short, and what ended a settling, over several events.
use Rattle.std.proofs.Common.{◌≡◌, ◌⊎◌, ◌<◌, ◌≤◌, ◌||◌, ℕ, Bool, true, false, List, [], ◌∷◌, ◌++◌, Result, Err, refl, sym, ap, subst, ◌∙◌, inl, inr, arith}
use Rattle.std.specs.Prelude.{IfErr}
use Rattle.aos_frame.specs.declared.config.Lane.{Lane}
use Rattle.aos_frame.specs.declared.config.Lane.TheVariants.{Directives, Data}
use Rattle.cfdp_entity.specs.Entity.{EntityState}
use Rattle.cfdp_entity.specs.Polling.{Rests, turn}
use Rattle.link_sim.specs.declared.event.Event.{Event}
use Rattle.link_sim.specs.declared.event.Event.TheVariants as event
use Rattle.link_sim.specs.declared.event.Applied.{Applied}
use Rattle.link_sim.specs.declared.event.Applied.TheVariants as did
use Rattle.station_pair.specs.declared.refusal.Refusal.{Refusal}
use Rattle.station_pair.specs.declared.settle_error.SettleError.{SettleError}
use Rattle.station_pair.specs.declared.settle_error.SettleError.TheVariants.{NoMemory, StoreFailed, TableFull}
use Rattle.link_sim.specs.declared.shortages.Shortages.{Shortages}
use Rattle.link_sim.specs.Settling.{IsOfSettling, AreOfSettling, AreInOrder, SettlesFrom, behind, KeepsAll, IsSettled, IsSettledAt, HasSent, IsSpared, CountsStayAt, CountsStay, GoesWellFrom, Ends, HasCauseFrom, all_shortages}
use Rattle.link_sim.specs.Onward.{GoesOnFrom}
use Rattle.link_sim.specs.World.State.{WorldState, entity_at}
use Rattle.link_sim.specs.World.Steps.{NoneWaits, NoneWhole, Flushes, Steps}
use Rattle.link_sim.specs.Work.{world_work}
use Rattle.station_pair.specs.declared.side.Side.{Side}
use Rattle.station_pair.specs.declared.side.Side.TheVariants.{One, Two}
use Rattle.link_sim.proofs.Events.Keeping.{each}
use Rattle.link_sim.proofs.Recovery.Along.{along-both}

spared-both : (a b c : ℕ) → IsSpared a b → IsSpared b c → IsSpared a c
spared-both a b c one two = (two.0 ∙ one.0, two.1)

keeps-at-both : (e : SettleError) (a b c : Shortages) → CountsStayAt e a b → CountsStayAt e b c → CountsStayAt e a c
keeps-at-both NoMemory a b c one two = (spared-both a.link_memory b.link_memory c.link_memory one.0 two.0, spared-both a.memory b.memory c.memory one.1 two.1)
keeps-at-both StoreFailed a b c one two = (spared-both a.outbox b.outbox c.outbox one.0 two.0, spared-both a.inbox b.inbox c.inbox one.1 two.1)
keeps-at-both TableFull a b c one two = spared-both a.table b.table c.table one two

keeps-both : (e : SettleError) (a b c : Shortages × Shortages) → CountsStay e a b → CountsStay e b c → CountsStay e a c
keeps-both e a b c one two = (keeps-at-both e a.0 b.0 c.0 one.0 two.0, keeps-at-both e a.1 b.1 c.1 one.1 two.1)

spared-all : (x y z : Shortages × Shortages) → KeepsAll x y → KeepsAll y z → KeepsAll x z
spared-all x y z one two = record {
  memory = keeps-both NoMemory x y z one.memory two.memory;
  stores = keeps-both StoreFailed x y z one.stores two.stores;
  tables = keeps-both TableFull x y z one.tables two.tables;
}

-- ---- events of a settling, one after the other
pub only-one : (e : Event) (d : Applied) (old new : WorldState) → IsOfSettling e → Steps e d old new → SettlesFrom e (behind e d) old new
only-one e d old new of_it s = record { steps = (e, d) ∷ []; are = (new, of_it, s, refl); in_order = (refl, refl) }

steps-both : (first more : List (Event × Applied)) (a b c : WorldState) → AreOfSettling first a b → AreOfSettling more b c → AreOfSettling (first ++ more) a c
steps-both [] more a b c is run = subst (λ (w : WorldState). AreOfSettling more w c) is run
steps-both (s ∷ first) more a b c run rest = (run.0, run.1, run.2, steps-both first more run.0 b c run.3 rest)

order-both : (first more : List (Event × Applied)) (from mid upto : Event) → AreInOrder from mid first → AreInOrder mid upto more → AreInOrder from upto (first ++ more)
order-both [] more from mid upto is order = subst (λ (e : Event). AreInOrder e upto more) is order
order-both (s ∷ first) more from mid upto order rest = (order.0, order-both first more (behind s.0 s.1) mid upto order.1 rest)

only-both : (from mid upto : Event) (a b c : WorldState) → SettlesFrom from mid a b → SettlesFrom mid upto b c → SettlesFrom from upto a c
only-both from mid upto a b c r s = record {
  steps = r.steps ++ s.steps;
  are = steps-both r.steps s.steps a b c r.are s.are;
  in_order = order-both r.steps s.steps from mid upto r.in_order s.in_order;
}

well-both : (from mid upto : Event) (a b c : WorldState) → GoesWellFrom from mid a b → GoesWellFrom mid upto b c → GoesWellFrom from upto a c
well-both from mid upto a b c one two = record {
  only = only-both from mid upto a b c one.only two.only;
  spared = spared-all (all_shortages a) (all_shortages b) (all_shortages c) one.spared two.spared;
  clean = λ is. two.clean (one.clean is);
}

pub on-both : (from mid upto : Event) (a b c : WorldState) → GoesOnFrom from mid a b → GoesOnFrom mid upto b c → GoesOnFrom from upto a c
on-both from mid upto a b c one two = record {
  well = well-both from mid upto a b c one.well two.well;
  runs = along-both a b c one.runs two.runs;
}

-- Nothing was short up to now: nothing happened, or all went well.
abbrev pub OnSoFar : (from upto : Event) (old new : WorldState) → Type 0
OnSoFar from upto old new = ((new ≡ old) × (upto ≡ from)) ⊎ GoesOnFrom from upto old new

pub on-then : (from mid upto : Event) (a b c : WorldState) → OnSoFar from mid a b → GoesOnFrom mid upto b c → GoesOnFrom from upto a c
on-then from mid upto a b c (inl e) two = subst (λ (w : WorldState). GoesOnFrom from upto w c) e.0 (subst (λ (g : Event). GoesOnFrom g upto b c) e.1 two)
on-then from mid upto a b c (inr one) two = on-both from mid upto a b c one two

-- ---- what ended it
so-far : (from upto : Event) (old new : WorldState) → OnSoFar from upto old new → ((new ≡ old) × (upto ≡ from)) ⊎ GoesWellFrom from upto old new
so-far from upto old new (inl e) = inl e
so-far from upto old new (inr on) = inr on.well

far-then : (from mid upto : Event) (a b c : WorldState) → ((b ≡ a) × (mid ≡ from)) ⊎ GoesWellFrom from mid a b → ((c ≡ b) × (upto ≡ mid)) ⊎ GoesWellFrom mid upto b c → ((c ≡ a) × (upto ≡ from))
    ⊎ GoesWellFrom from upto a c
far-then from mid upto a b c (inl d) (inl e) = inl (e.0 ∙ d.0, e.1 ∙ d.1)
far-then from mid upto a b c (inr one) (inl e) = inr (subst (λ (w : WorldState). GoesWellFrom from upto a w) (sym e.0) (subst (λ (g : Event). GoesWellFrom from g a b) (sym e.1) one))
far-then from mid upto a b c (inl d) (inr two) = inr (subst (λ (w : WorldState). GoesWellFrom from upto w c) d.0 (subst (λ (g : Event). GoesWellFrom g upto b c) d.1 two))
far-then from mid upto a b c (inr one) (inr two) = inr (well-both from mid upto a b c one two)

-- the event that ends it
pub cause-here : (error : SettleError) (from e : Event) (a b c : WorldState) → OnSoFar from e a b → Ends error e b c → HasCauseFrom from error a c
cause-here error from e a b c well ends = record { last = b; event = e; well = so-far from e a b well; ends = ends }

pub cause-then : (error : SettleError) (from mid : Event) (a b c : WorldState) → OnSoFar from mid a b → HasCauseFrom mid error b c → HasCauseFrom from error a c
cause-then error from mid a b c well cause = record {
  last = cause.last;
  event = cause.event;
  well = far-then from mid cause.event a b cause.last (so-far from mid a b well) cause.well;
  ends =
      cause.ends;
}

-- Poll, flush and delivery are never refused.
pub not-refused : (e : Event) (by : Refusal) (old new : WorldState) → IsOfSettling e → Steps e (did.Refused by) old new → ⊥
not-refused (event.Poll s) by old new of_it h = h
not-refused (event.Flush s) by old new of_it h = h
not-refused (event.Deliver s l) by old new of_it h = h
not-refused (event.Put s source destination) by old new of_it h = of_it
not-refused (event.Cancel s id) by old new of_it h = of_it
not-refused (event.Suspend s id) by old new of_it h = of_it
not-refused (event.Resume s id) by old new of_it h = of_it
not-refused (event.Prompt s id keep_alive) by old new of_it h = of_it
not-refused (event.Tick s now) by old new of_it h = of_it
not-refused (event.Strike s l) by old new of_it h = of_it
not-refused (event.Damage s l octets) by old new of_it h = of_it

-- what did nothing leaves all as it was
pub nothing-same : (e : Event) (old new : WorldState) → IsOfSettling e → Steps e did.Nothing old new → new ≡ old
nothing-same (event.Poll s) old new of_it h = h.1
nothing-same (event.Flush s) old new of_it h = h.1
nothing-same (event.Deliver s l) old new of_it h = h.1
nothing-same (event.Put s source destination) old new of_it h = absurd of_it
nothing-same (event.Cancel s id) old new of_it h = absurd of_it
nothing-same (event.Suspend s id) old new of_it h = absurd of_it
nothing-same (event.Resume s id) old new of_it h = absurd of_it
nothing-same (event.Prompt s id keep_alive) old new of_it h = absurd of_it
nothing-same (event.Tick s now) old new of_it h = absurd of_it
nothing-same (event.Strike s l) old new of_it h = absurd of_it
nothing-same (event.Damage s l octets) old new of_it h = absurd of_it

-- an error that is handed up
pub err-then : {X : Type 0} (r : Result X SettleError) (P : SettleError → Type 0) (y e : SettleError) → r ≡ Err y → y ≡ e → P e → IfErr r P
err-then {X = X} r P y e is same h = subst (λ (x : Result X SettleError). IfErr x P) (sym is) (subst P (sym same) h)

-- ---- what is left
-- What happened lowered it, and otherwise nothing changed.
abbrev pub Lowers : Bool → (old new : WorldState) → Type 0
Lowers happened old new = (happened ≡ true → world_work new < world_work old) × (happened ≡ false → new ≡ old)

pub lowers-most : (b : Bool) (old new : WorldState) → Lowers b old new → world_work new ≤ world_work old
lowers-most true old new h = let l : world_work new < world_work old = h.0 refl in omega (arith, l)
lowers-most false old new h = let same : world_work new ≡ world_work old = ap world_work (h.1 refl) in omega (arith, same)

pub lowers-both : (a b : Bool) (x y z : WorldState) → Lowers a x y → Lowers b y z → Lowers (a || b) x z
lowers-both true b x y z one two =
    let l : world_work y < world_work x = one.0 refl in
    let m : world_work z ≤ world_work y = lowers-most b y z two in
    ((λ e. omega (arith, l, m)), (λ e. absurd cc))
lowers-both false b x y z one two = subst (λ (w : WorldState). Lowers b w z) (one.1 refl) two

pub any-true : (a b c : Bool) → (a ≡ true) ⊎ ((a ≡ false) × (b ≡ true)) ⊎ ((a ≡ false) × (b ≡ false) × (c ≡ true)) → ((a || b) || c) ≡ true
any-true true b c e = refl
any-true false true c e = refl
any-true false false true e = refl
any-true false false false (inl e) = absurd cc
any-true false false false (inr (inl e)) = absurd (let w : false ≡ true = e.1 in cc)
any-true false false false (inr (inr e)) = absurd (let w : false ≡ true = e.2 in cc)

-- a round in which nothing happened
pub round-settled : (a b c d e : WorldState) → b ≡ a → c ≡ b → d ≡ c → e ≡ d → HasSent One b → HasSent Two c → ((l : Lane) → NoneWaits One l d) → ((l : Lane) → NoneWaits Two l e) →
    ((s : Side) (l : Lane) → NoneWhole s l e) → IsSettled e
round-settled a b c d e ab bc cd de one two from_one from_two whole =
    let eb : e ≡ b = de ∙ cd ∙ bc in
    let ec : e ≡ c = de ∙ cd in
    let sent_one : HasSent One e = subst (λ (w : WorldState). HasSent One w) (sym eb) one in
    let sent_two : HasSent Two e = subst (λ (w : WorldState). HasSent Two w) (sym ec) two in
    let none_one : (l : Lane) → NoneWaits One l e = subst (λ (w : WorldState). (l : Lane) → NoneWaits One l w) (sym de) from_one in
    each (λ (s : Side). IsSettledAt s e)
    (record { rests = sent_one.0; none_whole = whole One; filled = sent_one.1; none_waits = none_one })
    (record { rests = sent_two.0; none_whole = whole Two; filled = sent_two.1; none_waits = from_two })

-- of a station, if nothing waited in either lane
pub none-waits : (s : Side) (mid new : WorldState) → new ≡ mid → Steps (event.Deliver s Directives) did.Nothing mid mid → Steps (event.Deliver s Data) did.Nothing new new → (l : Lane) →
    NoneWaits s l new
none-waits s mid new is directives file_data Directives = subst (λ (w : WorldState). NoneWaits s Directives w) (sym is) directives.0
none-waits s mid new is directives file_data Data = file_data.0

-- a flush leaves an entity as it was, also one at which nothing is due
pub flushed-rests : (moved : Bool) (s : Side) (old new : WorldState) → (moved ≡ true → Flushes did.Applied s old new) → (moved ≡ false → Flushes did.Nothing s old new) → turn (entity_at s old)
    ≡ Rests → turn (entity_at s new) ≡ Rests
flushed-rests true s old new applied idle h = subst (λ (e : EntityState). turn e ≡ Rests) (sym (ap (λ x. x.state) (applied refl).0.entity)) h
flushed-rests false s old new applied idle h = subst (λ (w : WorldState). turn (entity_at s w) ≡ Rests) (sym (idle refl).1) h
