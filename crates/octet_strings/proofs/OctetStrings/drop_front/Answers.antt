use Rattle.std.proofs.Common.{◌+◌, ◌-◌, [], List, ℕ, length, drop, slice_set, slice_index_or, sym, ap, ◌∙◌, arith}
use Rattle.std.proofs.lemmas.List.{length-map}
use Rattle.octet_strings.specs.Strings.{string_at, strings_at}
use Rattle.octet_strings.proofs.Placed.{one_shorter}
use Rattle.octet_strings.proofs.OctetStrings.drop_front.Goals as goal

pub returns : goal.returns
returns c =
    let octets : List ℕ = c.self.inside.octets.items in
    let places = c.self.inside.places.items in
    one_shorter octets places c.args.place c.args.count _ _ c.index_mut-it.result.now
    (omega (arith, c.requires, ap length c.self.view_is, length-map places (λ p. string_at octets p))) c.index_mut-it.ensures.value
    (ap (λ n. c.index_mut-it.result.now.from + n) c.min-count.ensures) (ap (λ n. c.index_mut-it.result.now.len - n) c.min-count.ensures)
    ∙ ap (λ l. slice_set l c.args.place (drop c.args.count (slice_index_or l c.args.place []))) c.self.view_is
