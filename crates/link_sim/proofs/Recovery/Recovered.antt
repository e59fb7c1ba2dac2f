-- What a recovery comes to, if all that was unfinished waited below its limits.
use Rattle.std.proofs.Common.{◌≡◌, ◌≢◌, ◌≤◌, arith, List, [], ◌∷◌, length, Result, Err, sym, ap, subst, ◌∙◌}
use Rattle.std.specs.Prelude.{IfErr}
use Rattle.cfdp_header.specs.declared.value.TransactionId.{TransactionId}
use Rattle.cfdp_directives.specs.declared.user.policy.Policy.{Policy}
use Rattle.link_sim.specs.EveryPut.{KeepsPuts}
use Rattle.link_sim.specs.Onward.{AllAdvance, RecoversOn}
use Rattle.link_sim.specs.Recovering.{AreRounds, IsRecovered, Round, most_rounds}
use Rattle.link_sim.specs.Sound.{IsSound}
use Rattle.link_sim.specs.Tracks.{AllStand, KeepsPutsOf, StandsOf}
use Rattle.link_sim.specs.Waiting.{AllWait, IgnoreInactivity, IsCompleted, IsUnfinished}
use Rattle.link_sim.specs.World.State.{WorldState, entity_at}
use Rattle.station_pair.specs.declared.recover_error.RecoverError.{RecoverError}
use Rattle.station_pair.specs.declared.recover_error.RecoverError.TheVariants.{Settle, StillArmed}
use Rattle.station_pair.specs.declared.settle_error.SettleError.{SettleError}
use Rattle.station_pair.specs.declared.side.Side.{Side}
use Rattle.station_pair.specs.declared.side.Side.TheVariants.{One, Two}
use Rattle.link_sim.proofs.Stages.Stand.{stands-complete}
use Rattle.link_sim.proofs.Recovery.Count.{AdvancesBy, AdvancesAll, all-advance, few-rounds}
use Rattle.link_sim.proofs.Recovery.End.{completed}

ignored-then : (old new : WorldState) → KeepsPutsOf old new → IgnoreInactivity old → IgnoreInactivity new
ignored-then old new k ignore s = ap (λ (p : Policy). p.handlers.inactivity) (k.policy s) ∙ ignore s

-- rounds, one after another
rounds-advance : (rounds : List Round) (old new : WorldState) → AreRounds rounds old new → AllAdvance rounds old → IgnoreInactivity old → AdvancesBy (length rounds) old new
unfolding AdvancesBy
rounds-advance [] old new is all ignore = is
rounds-advance (r ∷ rounds) old new run all ignore =
    let a = all.0 ignore in
    (r.settled, (a, rounds-advance rounds r.settled new run.1 all.1 (ignored-then old r.settled a.keeps ignore)))

module _ (old new : WorldState) (on : RecoversOn old new) (ignore : IgnoreInactivity old) (wait : AllWait old) where
  advances : AdvancesBy (length on.run.rounds) on.run.first new
  advances = rounds-advance on.run.rounds on.run.first new on.run.are on.advance (ignored-then old on.run.first on.keeps ignore)

  stand : AllStand old on.run.first
  stand = on.stands wait

  -- no more rounds than records
  pub few : KeepsPuts new → length on.run.rounds ≤ 8192
  few kept = few-rounds new (length on.run.rounds) 4096 on.run.first advances stand.tracked (few-at new kept)
    where
      few-at : (w : WorldState) → KeepsPuts w → (s : Side) → length (entity_at s w).table.records ≤ 4096
      few-at w k One = k.course.known.0.few
      few-at w k Two = k.course.known.1.few

  -- and in the end all is complete
  pub all-completed : IsSound new → IsRecovered new → (id : TransactionId) → IsUnfinished id old → IsCompleted id new
  all-completed sound recovered id unfinished =
      let t : StandsOf id on.run.first = stand.unfinished id unfinished in
      let a : AdvancesAll on.run.first new = all-advance (length on.run.rounds) on.run.first new advances stand.tracked in
      subst (λ i. IsCompleted i new) t.of (completed stands-complete new sound recovered.only_inactivity t.side t.put (a.keeps.puts t.side t.put t.own) (a.stands t.side t.put t.own t.stands))

-- So it doesn't go on for too long.
pub not-armed : (old new : WorldState) (on : RecoversOn old new) → length on.run.rounds ≡ most_rounds → KeepsPuts new → IgnoreInactivity old → AllWait old → ⊥
not-armed old new on all kept ignore wait = (let low = few old new on ignore wait kept in omega (arith, low, all))

-- another error is no such one
settled-by : (e : SettleError) → Settle e ≢ StillArmed
settled-by e is = cc

pub other-error : {X : Type 0} (r : Result X RecoverError) (y : RecoverError) (error : SettleError) (P : Type 0) → r ≡ Err y → y ≡ Settle error → IfErr r (λ (e : RecoverError). P → e ≢ StillArmed)
other-error {X = X} r y error P is same =
    subst (λ (x : Result X RecoverError). IfErr x (λ (e : RecoverError). P → e ≢ StillArmed)) (sym is) (λ _ e. settled-by error (sym same ∙ e))
