use Rattle.cfdp_log.proofs.LogLines.{line_dressed, ok-map}
use Rattle.cfdp_log.proofs.station_log.telling.make_indication.Goals as goal

pub returns : goal.returns
returns c = ok-map c.add_names.result _ _ (λ added. line_dressed _ _ _ _ added.0 c.in_ok-write_indication.ensures added.1) c.add_names.ensures
