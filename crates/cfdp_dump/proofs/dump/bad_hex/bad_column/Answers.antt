use Rattle.std.proofs.Common.{◌∙◌, sym}
use Rattle.cfdp_dump.specs.Dump.Told.{may_stand}
use Rattle.cfdp_dump.proofs.Runs.{places_more}
use Rattle.cfdp_dump.proofs.dump.bad_hex.bad_column.Goals as goal

pub loop-place-preserved : goal.loop-place-preserved
loop-place-preserved c =
    places_more (may_stand c.args.by_tools c.args.digits.now) c.loop-place.place c.loop-place.invariant (sym c.may_stand.ensures ∙ c.if-not-may_stand.false)
