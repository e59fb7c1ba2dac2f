use Rattle.std.proofs.Common.{rules, arith, ap}
use Rattle.serde_json.specs.Data.{depth}
use Rattle.serde_json.proofs.Views.{view-Array}
use Rattle.cfdp_play.proofs.Depths.{items-shallow}
use Rattle.cfdp_play.proofs.values.Values.into_value.Goals as goal

pub returns : goal.returns
returns c =
    let few = items-shallow 1 c.args.self.all.items (search rules) in
    omega (arith, few, ap depth (view-Array c.args.self.all))
