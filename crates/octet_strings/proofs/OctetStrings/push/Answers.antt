use Rattle.std.proofs.Common.{◌++◌, ◌∷◌, List, [], ℕ, refl, ap, ◌∙◌}
use Rattle.octet_strings.specs.Strings.{strings_at}
use Rattle.octet_strings.proofs.Placed.{one_more}
use Rattle.octet_strings.proofs.OctetStrings.push.Goals as goal

pub returns-clause-ok : goal.returns-clause-ok
returns-clause-ok c =
    let old : List ℕ = c.self.inside.octets.items in
    ap (λ l. strings_at l c.push.new.self.items) c.in_ok-extend_from_slice.ensures.items
    ∙ ap (λ l. strings_at (old ++ c.args.octets.now) l) c.in_default.ensures.items
    ∙ one_more old c.args.octets.now c.self.inside.places.items _ c.self.invariant.0 (c.len.ensures ∙ c.self.inside.octets.ok.0) refl
    ∙ ap (λ l. l ++ c.args.octets.now ∷ []) c.self.view_is
