use Rattle.std.proofs.Common.{◌++◌, ◌∷◌, [], refl, sym, ap, subst, ◌∙◌}
use Rattle.std.specs.Prelude.{None}
use Rattle.std.proofs.lemmas.Result.{err_from_is_err_and}
use Rattle.link_stack.specs.Downward.{both_counted_from, first_down}
use Rattle.link_stack.specs.Upward.{first_up}
use Rattle.cfdp_station.specs.declared.config.StationConfig.{StationConfig}
use Rattle.any_order.specs.Calls.{Restarts}
use Rattle.any_order.specs.Kept.{EndKept, Makes}
use Rattle.any_order.specs.World.{restart_calls}
use Rattle.any_order.proofs.Coming.{makes_anew}
use Rattle.any_order.proofs.Keeping.{makes_none}
use Rattle.any_order.proofs.Leading.{entity_anew}
use Rattle.any_order.proofs.world.restart_at.Goals as goal

pub returns-in_err-station-clause-makes : goal.returns-in_err-station-clause-makes
returns-in_err-station-clause-makes g c theirs puts =
    let p = err_from_is_err_and c.from_residual.result c.from_residual.ensures.1 in
    let old : EndKept = c.args.end.now in
    subst (λ r. Makes (restart_calls c.args.first c.args.number r) c.args.config old theirs old puts puts) (sym p.1) (makes_none c.args.config old theirs old puts refl)

pub returns-in_err-restart-clause-makes : goal.returns-in_err-restart-clause-makes
returns-in_err-restart-clause-makes g c theirs puts =
    let p = err_from_is_err_and c.from_residual-in_err-restart.result c.from_residual-in_err-restart.ensures.1 in
    let old : EndKept = c.args.end.now in
    subst (λ r. Makes (restart_calls c.args.first c.args.number r) c.args.config old theirs c.restart.new.self puts puts) (sym p.1)
    (makes_none c.args.config old theirs c.restart.new.self puts c.in_err-restart.ensures.err)

pub returns-clause-makes : goal.returns-clause-makes
returns-clause-makes g c theirs puts =
    let old : EndKept = c.args.end.now in
    let s = c.in_ok-station.station in
    let e = c.in_ok-station.ensures in
    let is = c.numbered_from.ensures.is in
    let anew : EndKept = record {
      station = s;
      before = old.before ++ old.latest ∷ [];
      latest = record { first = c.args.first; directives = []; file_data = [] };
      told_before = old.told_before ++ old.station.entity.state.table.told;
      last_directives = None;
      last_data = None;
    } in
    subst (λ (k : EndKept). Makes (Restarts c.args.first c.args.number ∷ []) c.args.config old theirs k puts puts) (sym c.in_ok-restart.ensures.ok)
    (makes_anew c.args.config c.args.first c.args.number old theirs anew puts c.numbered_from.ensures.valid
    (entity_anew s.entity.state _ _ _ _ c.numbered_from.result c.args.config c.args.number e.entity c.requires.sources c.requires.files is)
    (e.down ∙ ap (λ (k : StationConfig). both_counted_from c.args.first (first_down k.sends k.capacity)) is) (e.up ∙ ap (λ (k : StationConfig). first_up k.receives) is)
    (c.is_unused.ensures.0 c.if-not-is_unused.false) (c.ends_before.ensures.directives c.if-not-ends_before.false) (c.ends_before.ensures.file_data c.if-not-ends_before.false) refl)
