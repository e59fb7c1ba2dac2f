-- A world in which nothing happened is clean, and a put that is accepted leaves a clean one clean.
use Rattle.std.specs.Prelude.{min}
use Rattle.std.proofs.Common.{◌≡◌, ℕ, zero, suc, ◌+◌, ◌-◌, ◌^◌, ◌==◌, if◌then◌else◌, not, Bool, true, false, List, get_or, replicate, refl, sym, ap, subst, ◌∙◌}
use Rattle.std.specs.List.{list_any}
use Rattle.aos_frame.specs.declared.config.Lane.{Lane}
use Rattle.aos_frame.specs.declared.config.Lane.TheVariants.{Directives, Data}
use Rattle.cfdp_header.specs.Files.{FileMap}
use Rattle.cfdp_entity.specs.Entity.{EntityState, first_entity}
use Rattle.cfdp_entity.specs.Putting.{with_put}
use Rattle.cfdp_sender.specs.declared.transfer.Transfer.{Transfer}
use Rattle.cfdp_station.specs.declared.config.StationConfig.{StationConfig}
use Rattle.link_stack.specs.Drops.{count_of}
use Rattle.link_stack.specs.Upward.{UpState, drop_count}
use Rattle.station_pair.specs.declared.side.Side.{Side}
use Rattle.station_pair.specs.declared.side.Side.TheVariants.{One, Two}
use Rattle.station_pair.specs.declared.world_config.WorldConfig.{WorldConfig}
use Rattle.link_sim.specs.Clean.{IsClean, IsCleanAt, IsCleanEntity, is_cancelling, is_bad}
use Rattle.station_pair.specs.Stations.{other}
use Rattle.link_sim.specs.World.State.{WorldState, LanesState, IsFirst, entity_at, lane_from, link_from, no_lanes, on_lane, station_at}
use Rattle.cfdp_station.specs.New.{IsFirstAt}
use Rattle.link_sim.specs.World.Steps.{TakesPut}
use Rattle.link_sim.proofs.Clean.Hears.{any-append}
use Rattle.link_sim.proofs.Clean.Settles.{clean-same}
use Rattle.link_sim.proofs.Events.Keeping.{both, each}

-- ---- the first world
abbrev zeros : ℕ → List ℕ
zeros size = replicate size 0

no-count : (size n : ℕ) → get_or (zeros size) n 0 ≡ 0
no-count zero n = refl
no-count (suc size) zero = refl
no-count (suc size) (suc n) = no-count size n

if-zero : (b : Bool) (n : ℕ) → n ≡ 0 → (if b then 0 else n) ≡ 0
if-zero true n is = refl
if-zero false n is = is

none-counted : (n : ℕ) → count_of (zeros 12) n ≡ 0
none-counted n = if-zero (n == 0) (get_or (zeros 12) (n - 1) 0) (no-count 12 (n - 1))

clean-entity-first : (sources files : FileMap) (c : StationConfig) → IsCleanEntity (first_entity sources files c.entity)
clean-entity-first sources files c = record { told = refl; uncancelled = refl; heard = λ n ne. no-count 18 n }

clean-first-at : (c : StationConfig) (sources files : FileMap) (s : Side) (w : WorldState) → IsFirstAt c sources files (station_at s w) → link_from s w ≡ no_lanes → IsCleanAt s w
clean-first-at c sources files s w is link = record {
  entity = subst (λ (e : EntityState). IsCleanEntity e) (sym is.entity) (clean-entity-first sources files c);
  none_lost = lost-none;
  read = λ n. ap (λ (u : UpState). drop_count u n) is.up ∙ ap (λ k. min (k + k) (2 ^ 64 - 1)) (none-counted n);
}
  where
    lost-none : (l : Lane) → list_any not (lane_from s l w).marks ≡ false
    lost-none Directives = ap (λ (k : LanesState). list_any not k.directives.marks) link
    lost-none Data = ap (λ (k : LanesState). list_any not k.file_data.marks) link

pub first-clean : (c : WorldConfig) (outboxes inboxes : FileMap × FileMap) (w : WorldState) → IsFirst c outboxes inboxes w → IsClean w
first-clean c outboxes inboxes w is =
    each (λ s. IsCleanAt s w) (clean-first-at c.one outboxes.0 inboxes.0 One w is.one is.from_one) (clean-first-at c.two outboxes.1 inboxes.1 Two w is.two is.from_two)

-- ---- a put
clean-with-put : (t : Transfer) (e : EntityState) → IsCleanEntity e → IsCleanEntity (with_put t e)
clean-with-put t e c = record {
  told = any-append is_bad e.table.told _ c.told refl;
  uncancelled = any-append is_cancelling e.table.records _ c.uncancelled refl;
  heard = c.heard;
}

pub put-clean : (s : Side) (source destination : List ℕ) (old new : WorldState) → TakesPut s source destination old new → IsClean old → IsClean new
put-clean s source destination old new h clean =
    let c : IsCleanAt s old = clean s in
    let e : EntityState = entity_at s old in
    let this : IsCleanAt s new = record {
      entity = subst (λ (x : EntityState). IsCleanEntity x) (sym h.accepts.opened) (clean-with-put _ e c.entity);
      none_lost = λ l. ap (λ (k : LanesState). list_any not (on_lane l k).marks) h.links.link ∙ c.none_lost l;
      read = λ n. ap (λ (u : UpState). drop_count u n) h.links.ends.1 ∙ c.read n;
    } in
    both (λ t. IsCleanAt t new) s this (clean-same (other s) old new h.links.spares.station h.links.spares.link (clean (other s)))
