use Rattle.cfdp_console.proofs.Denials.{of_none}
use Rattle.cfdp_console.proofs.deed.deed_of.Goals as goal

pub returns-in_default-id_in-5 : goal.returns-in_default-id_in-5
returns-in_default-id_in-5 c = of_none c.args.path.now c.in_default.ensures c.in_default-id_in.ensures
    c.in_default-id_in-2.ensures c.in_default-id_in-3.ensures c.in_default-id_in-4.ensures
    c.in_default-id_in-5.ensures
