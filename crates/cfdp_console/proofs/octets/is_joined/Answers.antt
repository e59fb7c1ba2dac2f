use Rattle.std.proofs.Common.{◌≡◌, ◌++◌, ◌∙◌, ap, sym}
use Rattle.std.proofs.lemmas.Bool.Decides.{Decides-eqb}
use Rattle.std.proofs.lemmas.List.{append_cancel_left}
use Rattle.std.proofs.lemmas.Slice.Eq.{slice_eq-Decides}
use Rattle.cfdp_console.proofs.octets.is_joined.Goals as goal

pub returns-in-Some : goal.returns-in-Some
returns-in-Some c =
    let same = slice_eq-Decides Decides-eqb c.in-Some.rest.now c.args.end.now c.eq.result
    c.eq.ensures in (
      λ yes. c.in-Some.ensures ∙ ap (λ e. c.args.front.now ++ e) (same.0 yes),
      λ is. same.1 (append_cancel_left c.args.front.now c.in-Some.rest.now c.args.end.now
          (sym c.in-Some.ensures ∙ is)),
    )
