use Rattle.std.proofs.Common.{◌++◌, ap, ◌∙◌}
use Rattle.std.specs.List.{flat_map}
use Rattle.cfdp_station.specs.Station.{StationState}
use Rattle.any_order.proofs.Numbers.{told_more}
use Rattle.any_order.proofs.end.note_end.Goals as goal

pub returns : goal.returns
returns g c =
    rw (c.put.ensures) (told_more (λ s. s.value.entity.state.table.told) c.args.ended.now c.of.result ∙ ap (λ (x : StationState). flat_map (λ s. s.value.entity.state.table.told) c.args.ended.now ++ x.entity.state.table.told) c.of.ensures)
