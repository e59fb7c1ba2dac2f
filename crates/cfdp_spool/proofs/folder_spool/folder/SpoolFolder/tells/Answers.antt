use Rattle.std.proofs.Common.{List, string_bytes, subst, sym}
use Rattle.cfdp_spool.specs.Leaving.{IsRight, SpoolState}
use Rattle.cfdp_spool.specs.declared.folder_spool.notes.Told.{Told}
use Rattle.cfdp_spool.proofs.Leaves.{right-told}
use Rattle.cfdp_spool.proofs.folder_spool.folder.SpoolFolder.tells.Goals as goal

pub invariant_of-self : goal.invariant_of-self
invariant_of-self c =
    let f = c.self.inside in
    let s : SpoolState = record { path = string_bytes f.path; names = f.names; removes = f.removes_sent; told = f.told; done = f.done } in
    let t : Told = record { name = c.of-name.result; way = c.args.way; stamp = c.args.stamp } in (
      subst (λ (told : List Told). IsRight (record s { told = told })) (sym c.put.ensures) (right-told s t c.self.invariant.0),
      c.self.invariant.1,
    )
