use Rattle.std.proofs.Common.{List, [], ◌∷◌, ◌++◌, Option, Some, ap, refl, subst, sym, ◌∙◌}
use Rattle.std.specs.Prelude.{Contains}
use Rattle.cfdp_spool.specs.Leaving.{SpoolState}
use Rattle.cfdp_spool.specs.declared.folder_spool.place.Place.TheVariants.{Leaving}
use Rattle.cfdp_spool.specs.declared.folder_spool.stamp.FileStamp.{FileStamp}
use Rattle.cfdp_spool.specs.declared.folder_spool.notes.Told.{Told}
use Rattle.cfdp_spool.specs.declared.folder_spool.notes.Done.TheVariants.{Saw}
use Rattle.cfdp_spool.proofs.folder_spool.folder.SpoolFolder.try_to_leave.Goals as goal

pub finish-requires : goal.finish-requires
finish-requires c =
    let name = c.args.name.now in
    let seen = c.in_ok-found.ensures.ok in
    let told = ap (λ (s : SpoolState). s.told) seen ∙ ap (λ (s : SpoolState). s.told) c.take_out.ensures.only in
    let before = c.take_out.new.self.done in
    record {
      stamp = c.args.stamp;
      found = c.in-Some.found;
      told = subst (λ (t : List Told). Contains t (record { name = name; way = c.args.way; stamp = Some c.args.stamp })) (sym told) c.requires;
      same = c.is_moved_from.ensures.0 c.if-is_moved_from.true;
      last = (before, ap (λ (s : SpoolState). s.done) seen ∙ ap (λ (o : Option FileStamp). before ++ Saw name Leaving o ∷ []) c.in-Some.is);
    }

pub returns-in_default-clause-ends : goal.returns-in_default-clause-ends
returns-in_default-clause-ends c =
    let name = c.args.name.now in
    let seen = c.in_ok-found.ensures.ok in
    c.give_back.ensures.ends (Saw name Leaving c.in_ok-found.field-0, (c.take_out.new.self.done, ap (λ (s : SpoolState). s.done) seen), refl)
