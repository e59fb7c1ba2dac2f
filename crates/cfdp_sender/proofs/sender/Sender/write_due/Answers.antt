use Rattle.std.proofs.Common.{◌≡◌, [], IfOk, sym, ap, subst, ◌∙◌, arith}
use Rattle.cfdp_directives.specs.Pdu.Codes.{is_large}
use Rattle.cfdp_directives.specs.Pdu.Content.{FileData}
use Rattle.cfdp_store.specs.Files.{octets_in}
use Rattle.cfdp_sender.specs.State.{SenderState, IsSender}
use Rattle.cfdp_sender.specs.Due.{carried, sender_says}
use Rattle.cfdp_sender.specs.Does.{Writes}
use Rattle.cfdp_sender.proofs.Dues.{carries-data, fits-short}
use Rattle.cfdp_sender.proofs.sender.Sender.write_due.Goals as goal

pub write_pdu-requires-clause-short : goal.write_pdu-requires-clause-short
write_pdu-requires-clause-short g c =
    let s : IsSender c.args.self.now = subst IsSender c.self.view_is c.self.invariant.sender in
    let own = ap (λ (x : SenderState). x.addressing) c.self.view_is in
    rw (c.says.ensures, c.is_large-large.ensures, own) (fits-short c.args.self.now c.args.due.now [] s c.requires.due (omega arith)).1

pub returns-in-AskedData-clause-written : goal.returns-in-AskedData-clause-written
returns-in-AskedData-clause-written g c =
    let file = octets_in (g.O.Outbox.files c.write_data.new.outbox) c.args.self.now.source in
    let says : sender_says file c.args.self.now c.args.due.now ≡ FileData c.extent-start.result.0 (carried file c.args.due.now) =
    c.extent-start.ensures.says (carried file c.args.due.now) (carries-data c.args.due.now c.in-AskedData.is) in
    let same = ap (FileData c.extent-start.result.0) (sym (c.extent-start.ensures.part file)) ∙ sym says in
    subst (λ v. IfOk c.write_data.result (λ len. Writes (is_large c.args.self.now.size) c.args.self.now.addressing v len c.args.out.now c.write_data.new.out)) same c.write_data.ensures.written

pub write_pdu-requires-clause-content : goal.write_pdu-requires-clause-content
write_pdu-requires-clause-content g c =
    let s : IsSender c.args.self.now = subst IsSender c.self.view_is c.self.invariant.sender in
    rw (c.says.ensures, c.is_large-large.ensures) (fits-short c.args.self.now c.args.due.now [] s c.requires.due (omega arith)).0
