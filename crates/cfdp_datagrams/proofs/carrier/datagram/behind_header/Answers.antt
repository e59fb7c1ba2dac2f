use Rattle.std.proofs.Common.{◌++◌, ℕ, List, take, drop, arith, ap, sym, ◌∙◌}
use Rattle.std.proofs.Math.Seq.{take-length}
use Rattle.std.proofs.lemmas.List.{length-drop, length-take-le, take-append-drop}
use Rattle.cfdp_datagrams.proofs.carrier.datagram.behind_header.Goals as goal

pub returns-clause-found : goal.returns-clause-found
returns-clause-found c =
    let body = c.args.body.now in
    let start = c.from-start.result in
    let rest = ap (λ (n : ℕ). take n (drop start body)) (sym (length-drop start body)) ∙ take-length (drop start body) in (
      take start body,
      length-take-le start body (omega (arith, c.if-body-start.false)) ∙ c.from-start.ensures,
      sym (take-append-drop start body) ∙ ap (λ (l : List ℕ). take start body ++ l) (sym rest),
    )
