use Rattle.std.proofs.Common.{List, string_bytes, subst, sym}
use Rattle.cfdp_spool.specs.Leaving.{IsRight, May, SpoolState}
use Rattle.cfdp_spool.specs.declared.folder_spool.notes.Done.{Done}
use Rattle.cfdp_spool.proofs.Leaves.{right-noted}
use Rattle.cfdp_spool.proofs.folder_spool.folder.SpoolFolder.notes.Goals as goal

pub invariant_of-self : goal.invariant_of-self
invariant_of-self c =
    let f = c.self.inside in
    let s : SpoolState = record { path = string_bytes f.path; names = f.names; removes = f.removes_sent; told = f.told; done = f.done } in
    let may : May s c.args.done = subst (λ (v : SpoolState). May v c.args.done) (sym c.self.view_is) c.requires in (
      subst (λ (d : List Done). IsRight (record s { done = d })) (sym c.put.ensures) (right-noted s c.args.done c.self.invariant.0 may),
      c.self.invariant.1,
    )
