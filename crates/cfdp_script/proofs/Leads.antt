-- The commands of a script as calls of a world, one after another.
use Rattle.std.proofs.Common.{ℕ, List, [], ◌∷◌, Option, None, Some, inl, inr}
use Rattle.link_sim.specs.Recovering.{IsRecovered, Recovers}
use Rattle.link_sim.specs.Running.{Called, Led}
use Rattle.link_sim.specs.Settling.{GoesWell, IsSettled}
use Rattle.link_sim.specs.Spreading.{Times}
use Rattle.link_sim.specs.World.State.{WorldState}
use Rattle.link_sim.specs.World.Steps.{FindsNoMemory, Steps, WantsMemory, side_in}
use Rattle.link_sim.specs.declared.event.Applied.{Applied}
use Rattle.link_sim.specs.declared.event.Applied.TheVariants as did
use Rattle.aos_frame.specs.declared.config.Lane.{Lane}
use Rattle.link_sim.specs.declared.event.Event.{Event}
use Rattle.link_sim.specs.declared.event.Event.TheVariants as event
use Rattle.station_pair.specs.declared.recover_error.RecoverError.{RecoverError}
use Rattle.station_pair.specs.declared.recover_error.RecoverError.TheVariants.{Settle, StillArmed}
use Rattle.station_pair.specs.declared.settle_error.SettleError.TheVariants.{NoMemory, StoreFailed, TableFull}
use Rattle.link_sim.proofs.Events.Leading.{many-both, many-none, many-one, many-times}
use Rattle.cfdp_script.specs.Script.Run.{ForMemory, HappensDamaged, HappensOften, HappensOnce, HappensToFirst, HappensToFirsts, IsDone, Performs, Runs, SettlingEnds}
use Rattle.cfdp_report.specs.declared.report.answer.Answer.{Answer}
use Rattle.cfdp_report.specs.declared.report.answer.Answer.TheVariants.{Nothing, Refused, Ended}
use Rattle.cfdp_report.specs.declared.report.answer.Answered.{Answered}
use Rattle.cfdp_script.specs.declared.script.command.Command.{Command}
use Rattle.cfdp_script.specs.declared.script.command.Command.TheVariants.{Once, Repeat, First, Damage as DamageOne, Spread, Burst, Settle as SettleAll, Recover, Disorder}
use Rattle.station_pair.specs.declared.side.Side.{Side}
use Rattle.cfdp_script.specs.Script.Lines.{befalls}
use Rattle.cfdp_script.specs.declared.script.command.Damage.{Damage}
use Rattle.cfdp_script.specs.declared.script.command.Fate.{Fate}
use Rattle.cfdp_script.specs.declared.script.Step.{Step}

one_call : (a b : WorldState) → Called a b → Led a b
one_call a b h = many-one Called a b h

one_event : (e : Event) (d : Applied) (a b : WorldState) → Steps e d a b → Led a b
one_event e d a b step = one_call a b (inl (inl (e, d, step)))

-- what came about when memory ran out came about
pub for_memory : (error : RecoverError) (P : Type 0) → ForMemory error P → P
for_memory (Settle NoMemory) P so = so
for_memory (Settle StoreFailed) P so = absurd so
for_memory (Settle TableFull) P so = absurd so
for_memory StillArmed P so = absurd so

once_leads : (e : Event) (answer : Option Answer) (a b : WorldState) → HappensOnce e answer a b → Led a b
once_leads e None a b step = one_event e did.Applied a b step
once_leads e (Some (Nothing after)) a b step = one_event e did.Nothing a b step.1
once_leads e (Some (Refused by)) a b step = one_event e (did.Refused by) a b step
once_leads e (Some (Ended error)) a b ends =
    let lacks = for_memory error (WantsMemory e × FindsNoMemory (side_in e) a b) ends in
    one_call a b (inl (inr (side_in e, lacks.1)))

so_often : (e : Event) (count : ℕ) (a b : WorldState) → Times (Steps e did.Applied) count a b → Led a b
so_often e count a b all = many-times Called (Steps e did.Applied) (λ x y step. one_event e did.Applied x y step) count a b all

often_leads : (e : Event) (count : ℕ) (answer : Option Answer) (a b : WorldState) → HappensOften e count answer a b → Led a b
often_leads e count None a b all = so_often e count a b all
often_leads e count (Some answer) a b h = many-both Called a h.2 b (so_often e h.0 a h.2 h.3) (once_leads e (Some h.4) h.2 b h.6)

-- what happens to the frame sent first
first_leads : (fate : Fate) (s : Side) (answer : Option Answer) (a b : WorldState) → HappensToFirst fate s answer a b → Led a b
first_leads fate s answer a b h = once_leads (befalls fate s h.0) answer a b h.2

firsts_lead : (fate : Fate) (s : Side) (count : ℕ) (a b : WorldState) → Times (HappensToFirst fate s None) count a b → Led a b
firsts_lead fate s count a b all = many-times Called (HappensToFirst fate s None) (λ x y step. first_leads fate s None x y step) count a b all

often_first : (fate : Fate) (s : Side) (count : ℕ) (answer : Option Answer) (a b : WorldState) → HappensToFirsts fate s count answer a b → Led a b
often_first fate s count None a b all = firsts_lead fate s count a b all
often_first fate s count (Some answer) a b h = many-both Called a h.2 b (firsts_lead fate s h.0 a h.2 h.3) (first_leads fate s (Some h.4) h.2 b h.6)

-- what comes damaged
damaged_leads : (s : Side) (said : Option Lane) (damage : Damage) (answer : Option Answer) (a b : WorldState) → HappensDamaged s said damage answer a b → Led a b
damaged_leads s said damage answer a b (inl h) = once_leads (event.Damage s h.0 h.1) answer a b h.4
damaged_leads s said damage answer a b (inr none) = many-none Called a b none.1

-- all was done, or an error ended it before
done_leads : (answer : Option Answer) (a b : WorldState) (Done : Type 0) (Ends : RecoverError → Type 0) → IsDone answer Done Ends → (Done → Called a b) →
    ((error : RecoverError) → Ends error → Called a b) → Led a b
done_leads None a b Done Ends h done ended = one_call a b (done h)
done_leads (Some (Nothing after)) a b Done Ends h done ended = absurd h
done_leads (Some (Refused by)) a b Done Ends h done ended = absurd h
done_leads (Some (Ended error)) a b Done Ends h done ended = one_call a b (ended error h)

settling_called : (a b : WorldState) (error : RecoverError) → SettlingEnds error a b → Called a b
settling_called a b (Settle error) h = inr (inr (inr (inl (inr (error, h)))))
settling_called a b StillArmed h = absurd h

performs_leads : (command : Command) (answer : Option Answer) (a b : WorldState) → Performs command answer a b → Led a b
performs_leads (Once e) answer a b h = once_leads e answer a b h
performs_leads (Repeat e count) answer a b h = often_leads e count answer a b h
performs_leads (First fate s count) answer a b h = often_first fate s count answer a b h
performs_leads (DamageOne s said damage) answer a b h = damaged_leads s said damage answer a b h
performs_leads (Spread s) answer a b h =
    done_leads answer a b _ _ h (λ all. inr (inl (s, inl all))) (λ error ends. inr (inl (s, inr (for_memory error _ ends))))
performs_leads (Burst s) answer a b h =
    done_leads answer a b _ _ h (λ all. inr (inr (inl (s, inl all)))) (λ error ends. inr (inr (inl (s, inr (for_memory error _ ends)))))
performs_leads SettleAll answer a b h =
    done_leads answer a b (GoesWell a b × IsSettled b) _ h (λ all. inr (inr (inr (inl (inl all.0))))) (λ error ends. settling_called a b error ends)
performs_leads Recover answer a b h =
    done_leads answer a b (Recovers a b × IsRecovered b) _ h (λ all. inr (inr (inr (inr (inl all.0))))) (λ error ends. inr (inr (inr (inr (inr (error, ends))))))
performs_leads (Disorder what) answer a b h = many-none Called a b h.1

pub runs_lead : (steps : List Step) (answered : List Answered) (a b : WorldState) → Runs steps answered a b → Led a b
runs_lead [] [] a b same = many-none Called a b same
runs_lead [] (done ∷ all) a b h = absurd h
runs_lead (step ∷ steps) [] a b h = absurd h
runs_lead (step ∷ steps) (done ∷ all) a b h = many-both Called a h.1 b (performs_leads step.command done.answer a h.1 h.2) (runs_lead steps all h.1 b h.3)
