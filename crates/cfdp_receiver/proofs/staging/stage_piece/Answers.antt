use Rattle.std.proofs.Common.{rules, [], ◌∷◌, Err}
use Rattle.cfdp_store.specs.Calls.{Write}
use Rattle.cfdp_store.specs.Chains.{Makes}
use Rattle.cfdp_receiver.proofs.Chains.{stops-one}
use Rattle.cfdp_receiver.proofs.staging.stage_piece.Goals as goal

pub returns-in-Err : goal.returns-in-Err
returns-in-Err g c =
    let fails : Makes g.I.Inbox.steps g.I.Inbox.failures (Write c.args.id c.args.start c.args.piece.now (Err c.in-Err.field-0) ∷ []) c.args.inbox.now c.write.new.self = search rules in
    record {
      staged = search rules;
      writes = search rules;
      fails = λ is. stops-one g.I.Inbox.steps g.I.Inbox.failures c.args.id (record { offset = c.args.start; bytes = c.args.piece.now }) _ _ c.in-Err.field-0 fails;
      files = search rules;
      others = search rules;
      counts = search rules;
    }
