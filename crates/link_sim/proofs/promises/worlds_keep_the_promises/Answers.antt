use Rattle.std.proofs.Common.{◌≡◌, ◌∙◌, refl, inl, inr, subst, sym}
use Rattle.link_sim.specs.EveryPut.{KeepsPuts}
use Rattle.link_sim.specs.Observed.{seen}
use Rattle.link_sim.specs.Running.{AreApart, Goes, KeepsPromises}
use Rattle.link_sim.specs.Sound.{IsSound}
use Rattle.link_sim.specs.Theorem.{Follows}
use Rattle.link_sim.specs.World.State.{WorldState, AreRested, entity_at, files_at}
use Rattle.station_pair.specs.declared.side.Side.{Side}
use Rattle.link_sim.proofs.Ways.First.{first-rests, first-ways}
use Rattle.link_sim.proofs.Events.Folding.{inbox-follows}
use Rattle.link_sim.proofs.Events.Leading.{led-keeps}
use Rattle.link_sim.proofs.Events.Resting.{apart-kept, rests-kept}
use Rattle.link_sim.proofs.promises.worlds_keep_the_promises.Goals as goal

pub returns-clause-keeps : goal.returns-clause-keeps
returns-clause-keeps c config outboxes inboxes first now valid is led =
    (led-keeps Kept kept-on first now (
      sound-first,
      record {
        inbox = λ s. c.events_keep_the_promises.ensures.inboxes config outboxes inboxes first s valid is;
        holds = λ s. c.events_keep_the_promises.ensures.holds first s sound-first;
        apart = subst AreApart (sym is.puts) tt;
      },
    ) led).1
  where
    Kept : WorldState → Type 0
    Kept w = IsSound w × KeepsPromises inboxes w

    sound-first : IsSound first
    sound-first = c.events_keep_the_promises.ensures.first config outboxes inboxes first valid is (first-ways config outboxes inboxes first valid is)

    follows-on : (a b : WorldState) → IsSound b → Follows (seen a) (seen b) → AreApart b.puts → KeepsPromises inboxes a → Kept b
    follows-on a b sound follows apart p = (
      sound,
      record {
        inbox = λ s. inbox-follows (files_at s inboxes) s (seen a) (seen b) (p.holds s) follows (p.inbox s);
        holds = λ s. c.events_keep_the_promises.ensures.holds b s sound;
        apart = apart;
      },
    )

    kept-on : (a b : WorldState) → Kept a → Goes a b → Kept b
    kept-on a b p (inl (e, d, step)) =
        follows-on a b (c.events_keep_the_promises.ensures.keeps e d a b p.0 step)
        (record { puts = c.events_keep_the_promises.ensures.puts e d a b p.0 step; folds = λ t. c.events_keep_the_promises.ensures.folds e d a b t p.0 step })
        (apart-kept e d a b p.0 step p.1.apart) p.1
    kept-on a b p (inr (s, k)) = subst Kept (sym k) p

pub returns-clause-completes : goal.returns-clause-completes
returns-clause-completes c config outboxes inboxes first now valid is led settled clean =
    let k = led-keeps Kept kept-on first now (sound-first, c.events_keep_the_promises.ensures.puts_first config outboxes inboxes first is, first-rests config outboxes inboxes first valid is) led in
    c.events_keep_the_promises.ensures.completes now k.0 k.1 k.2 settled clean
  where
    Kept : WorldState → Type 0
    Kept w = IsSound w × KeepsPuts w × ((s : Side) → AreRested s w)

    sound-first : IsSound first
    sound-first = c.events_keep_the_promises.ensures.first config outboxes inboxes first valid is (first-ways config outboxes inboxes first valid is)

    kept-on : (a b : WorldState) → Kept a → Goes a b → Kept b
    kept-on a b p (inl (e, d, step)) = (c.events_keep_the_promises.ensures.keeps e d a b p.0 step, c.events_keep_the_promises.ensures.puts_kept e d a b p.0 p.1 step, rests-kept a b p.0 p.2 e d step)
    kept-on a b p (inr (s, k)) = subst Kept (sym k) p

pub returns-clause-config : goal.returns-clause-config
returns-clause-config c config outboxes inboxes first now valid is led s =
    (led-keeps Kept kept-on first now (c.events_keep_the_promises.ensures.first config outboxes inboxes first valid is (first-ways config outboxes inboxes first valid is), refl) led).1
  where
    Kept : WorldState → Type 0
    Kept w = IsSound w × ((entity_at s w).config ≡ (entity_at s first).config)

    kept-on : (a b : WorldState) → Kept a → Goes a b → Kept b
    kept-on a b p (inl (e, d, step)) = (c.events_keep_the_promises.ensures.keeps e d a b p.0 step, c.events_keep_the_promises.ensures.config e d a b s p.0 step ∙ p.1)
    kept-on a b p (inr (t, k)) = subst Kept (sym k) p
