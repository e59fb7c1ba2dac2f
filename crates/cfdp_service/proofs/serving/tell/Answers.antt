use Rattle.std.proofs.Common.{◌≡◌, ◌∙◌, ◌-◌, ap, arith, length, length-drop}
use Rattle.std.specs.Prelude.{◌^◌}
use Rattle.std.proofs.lemmas.Bool.{le-ltb}
use Rattle.cfdp_station.specs.Station.{StationState}
use Rattle.cfdp_port.specs.Port.{table_of}
use Rattle.cfdp_service.proofs.ChainLemmas.{chain-said_none}
use Rattle.cfdp_service.proofs.serving.tell.Goals as goal

pub returns-then-most-count-clause-heard : goal.returns-then-most-count-clause-heard
returns-then-most-count-clause-heard g c =
    let t = table_of c.args.port.now.station in
    let left : length c.indications-all.result.now ≡ length t.told - t.gone = ap length c.indications-all.ensures ∙ length-drop t.gone t.told in
    let few = c.if-most-count.true in
    let gone = c.indications_gone-most.ensures ∙ ap (λ (s : StationState). (table_of s).gone) c.station.ensures in
    chain-said_none g.U.User.steps t c.args.user.now (le-ltb (length t.told) (2 ^ 64) (omega (arith, few, gone, left)))
