use Rattle.std.proofs.Common.{List, [], ◌∷◌, ◌++◌, Option, Some, ap, subst, sym, ◌∙◌}
use Rattle.std.specs.Prelude.{Contains}
use Rattle.std.proofs.lemmas.List.Elements.{Contains-push}
use Rattle.cfdp_spool.specs.Leaving.{AreTold, SpoolState}
use Rattle.cfdp_spool.specs.declared.folder_spool.stamp.FileStamp.{FileStamp}
use Rattle.cfdp_spool.specs.declared.folder_spool.notes.Told.{Told}
use Rattle.cfdp_spool.proofs.Leaves.{are_told-more}
use Rattle.cfdp_spool.proofs.folder_spool.queue.Queue.leaves.Goals as goal

pub invariant_of-self : goal.invariant_of-self
invariant_of-self g c =
    let t : Told = record { name = c.args.name.now; way = c.args.way; stamp = c.copied-stamp.result } in
    let folder = c.self.inside.folder in
    let stay = c.self.inside.staying.items in
    subst (λ (told : List Told). AreTold told stay) (sym (ap (λ (s : SpoolState). s.told) c.tells.ensures)) (are_told-more folder.told t stay c.self.invariant)

pub invariant_of-self-2 : goal.invariant_of-self-2
invariant_of-self-2 g c =
    let t : Told = record { name = c.args.name.now; way = c.args.way; stamp = c.copied-stamp.result } in
    let folder = c.self.inside.folder in
    let stay = c.self.inside.staying.items in
    subst (λ (told : List Told). AreTold told stay) (sym (ap (λ (s : SpoolState). s.told) c.tells.ensures)) (are_told-more folder.told t stay c.self.invariant)

pub stays-requires : goal.stays-requires
stays-requires g c =
    let name = c.args.name.now in
    let way = c.args.way in
    let folder = c.self.inside.folder in
    let t : Told = record { name = name; way = way; stamp = Some c.in-Some.stamp } in
    let told = ap (λ (s : SpoolState). s.told) c.try_to_leave.ensures.only ∙ ap (λ (s : SpoolState). s.told) c.tells.ensures
    ∙ ap (λ (o : Option FileStamp). folder.told ++ (record { name = name; way = way; stamp = o }) ∷ []) c.in-Some.is in
    subst (λ (l : List Told). Contains l t) (sym told) (Contains-push folder.told t)
