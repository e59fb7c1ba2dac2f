use Rattle.std.proofs.Common.{◌++◌, ◌∷◌, [], map, refl}
use Rattle.cfdp_port.specs.Port.{table_of}
use Rattle.cfdp_service.specs.Calls.{Ends, Hears}
use Rattle.cfdp_service.specs.Serving.{said_by}
use Rattle.cfdp_service.proofs.ChainLemmas.{chain-one, chain-then}
use Rattle.cfdp_service.proofs.ServingLemmas.{hears-all}
use Rattle.cfdp_service.proofs.serving.serve.Goals as goal

pub tell-requires : goal.tell-requires
tell-requires g c = c.serve_turns-ended.ensures.4.few

pub returns : goal.returns
returns g c =
    let turns = c.serve_turns-ended.ensures in
    let before = c.serve_turns-ended.new.port.station in
    let steps = g.U.User.steps in
    let said = map Hears (said_by (table_of before)) in (
      turns.0 ++ said ++ Ends ∷ [],
      record {
        run = record { port = c.serve_turns-ended.new.port; calls = turns.0; lacking = turns.1 };
        turns = turns.2;
        station = c.tell.ensures.station;
        wire = c.tell.ensures.wire;
        is = refl;
        all = hears-all turns.0 before c.tell.new.port.station turns.4 c.tell.ensures.station;
      },
      chain-then steps (turns.0 ++ said) (Ends ∷ []) _ _ _ (chain-then steps turns.0 said _ _ _ turns.3 c.tell.ensures.heard) (chain-one steps Ends _ _ c.ends.ensures),
    )
