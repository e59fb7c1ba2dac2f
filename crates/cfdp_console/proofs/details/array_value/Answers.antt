use Rattle.serde_json.proofs.Views.{view-Array}
use Rattle.cfdp_console.proofs.details.array_value.Goals as goal

pub returns : goal.returns
returns c = view-Array c.args.values
