use Rattle.std.proofs.Common.{◌+◌, ◌<◌, List, ℕ, arith, length, length-append, take}
use Rattle.std.proofs.lemmas.Grind.{common_steps}
use Rattle.std.specs.Io.KnownBytes.{Consumes}
use Rattle.std.specs.Prelude.{IfSome, None, Option, Some}
use Rattle.cfdp_report.proofs.reading.read_up_to.Goals as goal

-- a reader gave so much, and then a part with which it is too long
too_much : (most : ℕ) (first mid last : Option (List ℕ)) (script part : List ℕ) → Consumes first mid script → Consumes mid last part → most < length script + length part → IfSome first (λ text. most < length text)
too_much most None mid last script part came more long = tt
too_much most (Some all) None last script part came more long = absurd came
too_much most (Some all) (Some behind) None script part came more long = absurd more
too_much most (Some all) (Some behind) (Some left) script part came more long = rw (came, more, length-append, length-append) (omega (arith, long))

pub returns-then-count-most-clause-fault : goal.returns-then-count-most-clause-fault
returns-then-count-most-clause-fault g c =
    let part = take c.in-Ok.count c.read.new.buf in
    let long : c.args.most < length c.loop.file.items + length part = grind (arith, common_steps, c.loop.file.ok.0, c.in-Ok.ensures.bound, c.len.ensures, c.if-count-most.true) in
    too_much c.args.most _ _ _ c.loop.file.items part c.loop.invariant.1 c.in-Ok.ensures.bytes.0 long
