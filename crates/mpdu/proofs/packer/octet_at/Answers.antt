use Rattle.std.proofs.Common.{ap, ◌∙◌, unwrap_or}
use Rattle.std.proofs.lemmas.Option.{unwrap_or-slice_get}
use Rattle.mpdu.proofs.packer.octet_at.Goals as goal

pub returns : goal.returns
returns c =
    c.unwrap_or.ensures ∙ ap (λ o. unwrap_or o 0) (c.copied.ensures ∙ c.get.ensures)
    ∙ unwrap_or-slice_get c.args.octets.now.items c.args.place 0
