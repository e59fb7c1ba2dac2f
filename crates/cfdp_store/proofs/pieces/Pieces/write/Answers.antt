use Rattle.std.proofs.Common.{◌≡◌, is_ok, if◌then◌else◌, ◌∙◌, ap, refl}
use Rattle.std.specs.Prelude.{OnOk, OnErr, Result, Ok, Err}
use Rattle.cfdp_store.specs.Staged.{OctetMap, written}
use Rattle.cfdp_store.specs.Pieces.{octets_of}
use Rattle.cfdp_store.proofs.PieceLemmas.{last_grows}
use Rattle.cfdp_store.proofs.pieces.Pieces.write.Goals as goal

-- what a call leaves, by its answer
by_answer : {T E : Type 0} (r : Result T E) (new good bad : OctetMap) → new ≡ (if is_ok r then good else bad) → OnOk r (new ≡ good) × OnErr r (new ≡ bad)
by_answer (Ok _) new good bad is = (is, tt)
by_answer (Err _) new good bad is = (tt, is)

both : (c : goal.After-put) → OnOk c.extend_from_slice-done.result (octets_of c.put.new.pieces.items ≡ written c.args.self.now c.args.offset c.args.octets.now)
    × OnErr c.extend_from_slice-done.result (octets_of c.put.new.pieces.items ≡ c.args.self.now)
both c = by_answer c.extend_from_slice-done.result _ _ _ (
    last_grows _ _ _ _ _ c.args.offset c.args.octets.now (is_ok c.extend_from_slice-done.result) c.in-Some.ensures.last c.put.ensures refl c.in-Some.ensures.ends c.extend_from_slice-done.ensures.items
    ∙ ap (λ m. if is_ok c.extend_from_slice-done.result then written m c.args.offset c.args.octets.now else m) c.self.view_is)

pub returns-clause-ok : goal.returns-clause-ok
returns-clause-ok c = (both c).0

pub returns-clause-err : goal.returns-clause-err
returns-clause-err c = (both c).1
