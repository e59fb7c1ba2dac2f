use Rattle.std.proofs.Common.{sym, ap, ◌∙◌}
use Rattle.std.specs.List.{remove}
use Rattle.octet_strings.specs.Strings.{strings_at}
use Rattle.octet_strings.proofs.Placed.{one_less}
use Rattle.octet_strings.proofs.OctetStrings.remove.Goals as goal

pub returns-else-is_empty : goal.returns-else-is_empty
returns-else-is_empty c =
    ap (λ l. strings_at c.self.inside.octets.items l) c.remove.ensures.items ∙ one_less c.self.inside.octets.items c.self.inside.places.items c.args.place
    ∙ ap (λ l. remove l c.args.place) c.self.view_is
