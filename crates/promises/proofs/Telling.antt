-- What a station indicated to its user stays, over all its lives, whatever is done.
use Rattle.std.proofs.Common.{◌≡◌, List, [], ◌∷◌, ◌++◌, sym, ap, ap₂, ◌∙◌, append-nil, append_assoc}
use Rattle.cfdp_header.specs.Files.{FileMap}
use Rattle.cfdp_directives.specs.declared.user.indication.Indication.{Indication}
use Rattle.cfdp_directives.specs.User.Put.{Put}
use Rattle.cfdp_store.specs.declared.stored.Stored.TheVariants.{Done, Refused}
use Rattle.cfdp_entity.specs.Entity.{Counted, EntityState}
use Rattle.cfdp_entity.specs.Sound.{GoesOn}
use Rattle.cfdp_station.specs.declared.config.StationConfig.{StationConfig}
use Rattle.cfdp_station.specs.declared.polled.Polled.TheVariants.{Moved, Nothing, Full, SourceFailed}
use Rattle.cfdp_station.specs.Station.{StationState}
use Rattle.any_order.specs.Calls.{Call, Puts, Asks, Tells, Polls, Fills, Gives, Receives, Refuses, Restarts, DoesCall, End, entity_of}
use Rattle.any_order.specs.Kept.{DoesCalls, EndKept, IsOf, Makes}
use Rattle.any_order.specs.Promise.{told_ever}
use Rattle.any_order.proofs.Calls.{all_goes, goes_same, served_goes}
use Rattle.any_order.proofs.Promise.{Laws}
use Rattle.promises.proofs.Holding.{Held}

-- More was indicated after what was.
pub record TellsMore (old new : List Indication) : Type 0 where
  pub gained : List Indication
  pub told : new ≡ old ++ gained

pub tells_same : (old new : List Indication) → new ≡ old → TellsMore old new
tells_same old new same = record { gained = []; told = same ∙ sym (append-nil old) }

pub tells_both : (a b c : List Indication) → TellsMore a b → TellsMore b c → TellsMore a c
tells_both a b c g h = record { gained = g.gained ++ h.gained; told = h.told ∙ ap (λ l. l ++ h.gained) g.told ∙ append_assoc a g.gained h.gained }

-- all that was indicated, by what is kept
abbrev pub told_of : EndKept → List Indication
told_of k = k.told_before ++ k.station.entity.state.table.told

on_told : (old new : End) → new.told_before ≡ old.told_before → GoesOn (entity_of old) (entity_of new) → TellsMore (told_ever old) (told_ever new)
on_told old new before g = record {
  gained = g.gained;
  told = ap₂ (λ (a b : List Indication). a ++ b) before g.told ∙ sym (append_assoc old.told_before (entity_of old).table.told g.gained);
}

module _ (laws : Laws) where
  call_told : (call : Call) (c : StationConfig) (old theirs new : End) (puts puts_then : List Put) → DoesCall call c old theirs new puts puts_then → TellsMore (told_ever old) (told_ever new)
  call_told (Puts source destination id) c old theirs new puts puts_then d = on_told old new d.2.goes_on.told_before (laws.entity.put_on source destination id (entity_of old) (entity_of new) d.0)
  call_told (Asks request id) c old theirs new puts puts_then d = on_told old new d.2.goes_on.told_before (laws.entity.called_on request id (entity_of old) (entity_of new) d.0)
  call_told (Tells now) c old theirs new puts puts_then d = on_told old new d.3.goes_on.told_before (laws.entity.ticked_on now (entity_of old) (entity_of new) d.0 d.1)
  call_told (Polls Moved) c old theirs new puts puts_then d = on_told old new d.2.goes_on.told_before (served_goes laws.entity Done (entity_of old) (entity_of new) d.0.0.served)
  call_told (Polls Nothing) c old theirs new puts puts_then d = on_told old new d.2.goes_on.told_before (goes_same (entity_of old) (entity_of new) (ap (λ (x : Counted). x.state) d.0.0.1))
  call_told (Polls Full) c old theirs new puts puts_then d = on_told old new d.2.goes_on.told_before (goes_same (entity_of old) (entity_of new) (ap (λ (x : Counted). x.state) d.0.0.1))
  call_told (Polls SourceFailed) c old theirs new puts puts_then d = on_told old new d.2.goes_on.told_before (served_goes laws.entity Refused (entity_of old) (entity_of new) d.0.0.0.served)
  call_told (Fills lane) c old theirs new puts puts_then d = on_told old new d.3.goes_on.told_before (goes_same (entity_of old) (entity_of new) (ap (λ (x : Counted). x.state) d.2.0))
  call_told (Gives lane frame) c old theirs new puts puts_then d = on_told old new d.1.goes_on.told_before (goes_same (entity_of old) (entity_of new) (ap (λ (x : Counted). x.state) d.0.rest.0))
  call_told (Receives coming) c old theirs new puts puts_then d = on_told old new d.5.told_before (all_goes laws.truth d.2.0.pdus old.station.entity new.station.entity d.2.0.heard)
  call_told Refuses c old theirs new puts puts_then d = on_told old new d.2.goes_on.told_before (goes_same (entity_of old) (entity_of new) d.0)
  call_told (Restarts first number) c old theirs new puts puts_then d =
      let none : (entity_of new).table.told ≡ [] = ap (λ (e : EntityState). e.table.told) d.0.entity in
      tells_same (told_ever old) (told_ever new) (ap₂ (λ (a b : List Indication). a ++ b) d.0.told_before none ∙ append-nil (told_ever old))

  calls_told : (calls : List Call) (c : StationConfig) (old theirs new : End) (puts puts_then : List Put) → DoesCalls calls c old theirs new puts puts_then → TellsMore (told_ever old) (told_ever new)
  calls_told [] c old theirs new puts puts_then (same, none) = tells_same (told_ever old) (told_ever new) (ap told_ever same)
  calls_told (call ∷ calls) c old theirs new puts puts_then (mid, between, one, rest) =
      tells_both (told_ever old) (told_ever mid) (told_ever new) (call_told call c old theirs mid puts between one) (calls_told calls c mid theirs new between puts_then rest)

  of_told : (k : EndKept) (e : End) → IsOf k e → told_ever e ≡ told_of k
  of_told k e is = ap₂ (λ (a : List Indication) (s : StationState). a ++ s.entity.state.table.told) is.told is.station

  pub makes_told : (c t : StationConfig) (first there : FileMap) (calls : List Call) (old theirs new : EndKept) (puts puts_then : List Put) → Makes calls c old theirs new puts puts_then →
      Held c t first there puts old theirs → TellsMore (told_of old) (told_of new)
  makes_told c t first there calls old theirs new puts puts_then makes h =
      let f = makes.follow h.m h.o h.of_mine h.of_theirs h.taken_mine in
      let more = calls_told calls c h.m h.o f.0 puts puts_then f.1 in
      record { gained = more.gained; told = sym (of_told new f.0 f.2) ∙ more.told ∙ ap (λ l. l ++ more.gained) (of_told old h.m h.of_mine) }
