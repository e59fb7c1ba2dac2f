use Rattle.std.proofs.Common.{◌++◌, ◌∷◌, [], inl, inr}
use Rattle.std.specs.Prelude.{codes, decimal}
use Rattle.cfdp_log.proofs.LogLines.{ok-map}
use Rattle.cfdp_log.proofs.Losing.{written_after, written_between}
use Rattle.cfdp_log.proofs.lossy_log.make_lost.Goals as goal

pub returns-in_ok-write-in-Json : goal.returns-in_ok-write-in-Json
returns-in_ok-write-in-Json c =
    let old = c.begin_object.new.out.items in
    let front = codes ",\"lines\":" in
    let behind = codes "}" ++ 10 ∷ [] in
    ok-map c.end_object.result _ _
    (λ ended. (old, inr (written_between old front (decimal c.args.lost) behind _ _ c.in_ok-write-in-Json.ensures.bytes ended)))
    c.end_object.ensures

pub returns-in_ok-add_time-in-Plain : goal.returns-in_ok-add_time-in-Plain
returns-in_ok-add_time-in-Plain c =
    let front = c.add_time.new.line.items in
    let behind = codes " lines of the log were lost" ++ 10 ∷ [] in
    ok-map c.writeln.result _ _ (λ written. (front, inl (written_after front (decimal c.args.lost) behind _ written))) c.writeln.ensures.bytes
