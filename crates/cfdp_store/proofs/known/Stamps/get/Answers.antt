use Rattle.std.proofs.Common.{sym, ap, ◌∙◌}
use Rattle.std.specs.Option.{option_map}
use Rattle.std.specs.FinMap.{get}
use Rattle.cfdp_store.specs.declared.known.Stamp.{Stamp}
use Rattle.cfdp_store.proofs.FileLemmas.{get-listed}
use Rattle.cfdp_store.proofs.known.Stamps.get.Goals as goal

pub returns-in_err-stamp : goal.returns-in_err-stamp
returns-in_err-stamp c =
    ap (option_map (λ (s : Stamp). s.len)) c.from_residual.ensures
    ∙ ap (option_map (λ (s : Stamp). s.len)) c.in_err-stamp.ensures.value
    ∙ sym (get-listed (λ (s : Stamp). s.len) c.self.inside.stamps.entries c.args.name.now)
    ∙ ap (λ files. get files c.args.name.now) c.self.view_is

pub returns : goal.returns
returns c =
    ap (option_map (λ (s : Stamp). s.len)) c.in_ok-stamp.ensures.value
    ∙ sym (get-listed (λ (s : Stamp). s.len) c.self.inside.stamps.entries c.args.name.now)
    ∙ ap (λ files. get files c.args.name.now) c.self.view_is
