use Rattle.std.proofs.Common.{◌∙◌}
use Rattle.cfdp_any_order_script.proofs.Noted.{noted_new, sources_new}
use Rattle.cfdp_any_order_script.proofs.told.ToldWorld.new.Goals as goal

pub invariant_of-result : goal.invariant_of-result
invariant_of-result c = (
  noted_new 1 _ _ _ _ _ _ _ c.in_ok-world.ensures.one c.none.ensures.lives c.none.ensures.told c.none.ensures.completed,
  noted_new 2 _ _ _ _ _ _ _ c.in_ok-world.ensures.two c.none-2.ensures.lives c.none-2.ensures.told c.none-2.ensures.completed,
  sources_new _ c.args.files.now _ _ _ _ c.in_ok-world.ensures (c.with_files.ensures ∙ c.in_ok-one.ensures.one) (c.with_files-2.ensures ∙ c.in_ok-one.ensures.two),
)
