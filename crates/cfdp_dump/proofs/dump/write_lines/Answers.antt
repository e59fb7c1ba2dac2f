use Rattle.std.proofs.Common.{rules, arith}
use Rattle.std.specs.Option.{option_map}
use Rattle.cfdp_dump.specs.Dump.{TellsPiece}
use Rattle.cfdp_dump.specs.Dump.Stepping.{ended_pieces, piece_texts, step_text}
use Rattle.cfdp_dump.proofs.DumpedLines.{lines-empty}
use Rattle.cfdp_dump.proofs.Runs.{ended_told, lines-behind, lines-end, lines-front, more-joined}
use Rattle.cfdp_dump.proofs.dump.write_lines.Goals as goal

pub loop-rest-init : goal.loop-rest-init
loop-rest-init g c = rw c.new-channels.ensures (lines-front _ _ _)

pub loop-rest-preserved : goal.loop-rest-preserved
loop-rest-preserved g c =
    let r = c.args.request in
    lines-behind r c.args.text.now c.loop-rest.rest.now c.cut_line.result.0.now c.cut_line.result.1.now _ (step_text c.in_ok-step.step) _ _ _ _ _
    c.cut_line.ensures.lines c.in_ok-step.ensures c.loop-rest.invariant
    (more-joined (TellsPiece r) r _ (ended_pieces c.in_ok-step.step.ended) _ (piece_texts c.in_ok-step.step.piece) _ _ _ _ c.in_ok-write_ended.ensures c.in_ok-write_piece.ensures)

pub returns : goal.returns
returns g c =
    lines-end c.args.request c.args.text.now c.loop-rest.rest.now (option_map (λ octets. octets.items) c.loop-rest.begun) _ _ _ _ _ _
    (lines-empty _ (search (rules, arith))) c.loop-rest.invariant (ended_told c.args.request c.loop-rest.begun _ _ _ _ _ c.write_ended-2.ensures)
