use Rattle.std.proofs.Common.{List, ℕ, inl, refl, subst, ◌∙◌}
use Rattle.cfdp_port.specs.Asking.{LooksAt}
use Rattle.cfdp_service.proofs.ServingLemmas.{puts_as}
use Rattle.cfdp_service.proofs.serving.put_file.Goals as goal

pub returns-in-Ok-clause-puts : goal.returns-in-Ok-clause-puts
returns-in-Ok-clause-puts g c =
    let names = c.args.names.now in
    let looked = subst (λ (name : List ℕ). LooksAt name c.args.port.now.station c.look_for.new.self.station) c.as_slice.ensures.value c.in-Ok.ensures.looks.happens in
    let put = puts_as names.source.items c.as_slice-in-Ok.result.now names.destination.items c.as_slice-in-Ok-2.result.now
    c.as_slice-in-Ok.ensures.value c.as_slice-in-Ok-2.ensures.value c.put.result c.put.result refl c.look_for.new.self c.put.new.self c.put.ensures.puts in
    record { happens = inl (c.look_for.new.self.station, looked, put.happens); wire = put.wire ∙ c.in-Ok.ensures.looks.wire }
