use Rattle.std.proofs.Common.{◌++◌, refl}
use Rattle.std.proofs.Output.{has_written_append}
use Rattle.cfdp_directives.specs.Pdu.Tlv.{Tlv}
use Rattle.cfdp_dump.specs.Spelled.Fields.{option_field}
use Rattle.cfdp_dump.proofs.ToldOptions.{option-left, option-told}
use Rattle.cfdp_dump.proofs.spelled.fields.OptionFieldListDisplay.fmt.Goals as goal

pub loop-kind-preserved : goal.loop-kind-preserved
loop-kind-preserved g c =
    let before = c.loop-kind.invariant in
    let next : Tlv = record { kind = c.in-Some.kind; value = c.in-Some.value.now } in
    let left = option-left c.loop-kind.kind-iterator c.next.new.self c.next.result (c.in-Some.kind, c.in-Some.value) c.in-Some.is c.next.ensures.steps in (
      before.0 ++ option_field next,
      λ plain. has_written_append _ _ _ _ _ _ (before.1 plain) (c.in_ok-write.ensures.writes (before.1 plain).plain refl),
      option-told option_field c.args.self.now.0.now c.loop-kind.kind-iterator c.next.new.self before.0 next before.2 left,
    )
