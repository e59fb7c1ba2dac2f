-- Two worlds with the same puts, and the runs that transactions made between them.
use Rattle.std.proofs.Common.{◌≡◌, ℕ, inl, inr, refl, sym, ap, ◌∙◌}
use Rattle.cfdp_entity.specs.declared.config.EntityConfig.{EntityConfig}
use Rattle.cfdp_entity.specs.Sound.{FindsMore}
use Rattle.link_sim.specs.declared.event.Applied.{Applied}
use Rattle.link_sim.specs.declared.event.Applied.TheVariants as did
use Rattle.link_sim.specs.declared.event.Event.{Event}
use Rattle.link_sim.specs.declared.event.Event.TheVariants as event
use Rattle.link_sim.specs.Observed.{seen}
use Rattle.link_sim.specs.Settling.{IsOfSettling}
use Rattle.link_sim.specs.Sound.{IsSound}
use Rattle.link_sim.specs.Theorem.{put_of}
use Rattle.link_sim.specs.Tracks.{KeepsPutsOf, RunsAlong}
use Rattle.link_sim.specs.World.State.{WorldState}
use Rattle.link_sim.specs.World.Steps.{Steps, TellsTime}
use Rattle.station_pair.specs.declared.side.Side.{Side}
use Rattle.link_sim.proofs.EveryPut.Puts.{same-puts}
use Rattle.link_sim.proofs.Events.Moving.{EntityLaws, Moves, sends-one, sends-two}
use Rattle.link_sim.proofs.Runs.World.{runs-on-same, runs-on-trans}

pub keeps-same : (w : WorldState) → KeepsPutsOf w w
keeps-same w = record { puts = λ s put own. own; puts_before = λ s put own. own; policy = λ s. refl }

pub keeps-both : (a b c : WorldState) → KeepsPutsOf a b → KeepsPutsOf b c → KeepsPutsOf a c
keeps-both a b c one two = record {
  puts = λ s put own. two.puts s put (one.puts s put own);
  puts_before = λ s put own. one.puts_before s put (two.puts_before s put own);
  policy = λ s. two.policy s ∙ one.policy s;
}

pub along-same : (w : WorldState) → RunsAlong w w
along-same w = record { keeps = keeps-same w; runs = runs-on-same w }

pub along-both : (a b c : WorldState) → RunsAlong a b → RunsAlong b c → RunsAlong a c
along-both a b c one two = record { keeps = keeps-both a b c one.keeps two.keeps; runs = runs-on-trans a b c one.keeps.puts one.runs two.runs }

-- ---- events that accept no put
pub told-time : (s : Side) (now : ℕ) (d : Applied) (old new : WorldState) → Steps (event.Tick s now) d old new → TellsTime s now old new
told-time s now did.Applied old new h = h
told-time s now did.Nothing old new h = absurd h
told-time s now (did.Refused by) old new h = absurd h

pub settling-puts : (e : Event) (old new : WorldState) → IsOfSettling e → Steps e did.Applied old new → new.puts ≡ old.puts
settling-puts (event.Poll s) old new of_it (inl h) = h.marks.counts.puts
settling-puts (event.Poll s) old new of_it (inr h) = h.counts.puts
settling-puts (event.Flush s) old new of_it h = h.0.marks.counts.puts
settling-puts (event.Deliver s l) old new of_it h = h.counts.puts
settling-puts (event.Put s source destination) old new of_it h = absurd of_it
settling-puts (event.Cancel s id) old new of_it h = absurd of_it
settling-puts (event.Suspend s id) old new of_it h = absurd of_it
settling-puts (event.Resume s id) old new of_it h = absurd of_it
settling-puts (event.Prompt s id keep_alive) old new of_it h = absurd of_it
settling-puts (event.Tick s now) old new of_it h = absurd of_it
settling-puts (event.Strike s l) old new of_it h = absurd of_it
settling-puts (event.Damage s l octets) old new of_it h = absurd of_it

-- if no put was accepted
module _ (laws : EntityLaws) (old new : WorldState) (sound : IsSound old) (m : Moves old new) (puts : new.puts ≡ old.puts) where
  pub puts-same : FindsMore (put_of (seen old)) (put_of (seen new)) × FindsMore (put_of (seen new)) (put_of (seen old))
  puts-same = same-puts (seen old) (seen new) (sends-one old new sound (λ t. (m.sides t).goes)) (sends-two old new sound (λ t. (m.sides t).goes)) puts

  pub puts-kept-of : KeepsPutsOf old new
  puts-kept-of = record {
    puts = λ s put own. record { found = puts-same.0 put.id put own.found; own = own.own ∙ ap (λ (c : EntityConfig). c.entity) (sym (m.sides s).goes.config) };
    puts_before = λ s put own. record { found = puts-same.1 put.id put own.found; own = own.own ∙ ap (λ (c : EntityConfig). c.entity) (m.sides s).goes.config };
    policy = λ s. ap (λ (c : EntityConfig). c.policy) (m.sides s).goes.config;
  }
