use Rattle.std.proofs.Common.{Some, sym, ap, ◌∙◌}
use Rattle.std.specs.Option.{option_map}
use Rattle.std.specs.FinMap.{get}
use Rattle.cfdp_store.proofs.FileLemmas.{get-files_of, octets_at}
use Rattle.cfdp_store.proofs.files.Files.get.Goals as goal

pub returns-in_err-octets : goal.returns-in_err-octets
returns-in_err-octets c =
    ap (option_map (λ octets. octets.now)) c.from_residual.ensures
    ∙ ap octets_at c.in_err-octets.ensures.value
    ∙ sym (get-files_of c.self.inside.files.entries c.args.name.now)
    ∙ ap (λ files. get files c.args.name.now) c.self.view_is

pub returns : goal.returns
returns c =
    ap Some c.as_slice.ensures.value
    ∙ ap octets_at c.in_ok-octets.ensures.value
    ∙ sym (get-files_of c.self.inside.files.entries c.args.name.now)
    ∙ ap (λ files. get files c.args.name.now) c.self.view_is
