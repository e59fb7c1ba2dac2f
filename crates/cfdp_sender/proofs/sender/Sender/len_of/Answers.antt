use Rattle.std.proofs.Common.{[], ap, subst, ◌∙◌, arith}
use Rattle.cfdp_directives.specs.Pdu.Content.{view}
use Rattle.cfdp_directives.specs.Pdu.Codes.{is_large, file_size_octets}
use Rattle.cfdp_directives.specs.Pdu.Written.{content_len}
use Rattle.cfdp_directives.specs.Pdu.Addressing.{written_len}
use Rattle.cfdp_directives.proofs.Addressed.{crc_short}
use Rattle.cfdp_sender.specs.State.{SenderState, IsSender}
use Rattle.cfdp_sender.proofs.Dues.{fits-short, content-short, due-can_write, len-of-due}
use Rattle.cfdp_sender.proofs.sender.Sender.len_of.Goals as goal

pub written_len-requires : goal.written_len-requires
written_len-requires c =
    let s : IsSender c.args.self.now = subst IsSender c.self.view_is c.self.invariant.sender in
    let own = ap (λ (x : SenderState). x.addressing) c.self.view_is in
    rw (c.says.ensures, c.is_large-large.ensures, own) (fits-short c.args.self.now c.args.due.now [] s c.requires (omega arith)).1

pub overflow_add-result : goal.overflow_add-result
overflow_add-result c =
    let s : IsSender c.args.self.now = subst IsSender c.self.view_is c.self.invariant.sender in
    let fits = (fits-short c.args.self.now c.args.due.now [] s c.requires (omega arith)).1 in
    let content = ap (λ b. content_len (file_size_octets b) (view c.says.result)) c.is_large-large.ensures ∙ ap (content_len (file_size_octets (is_large c.args.self.now.size))) c.says.ensures in
    let widths = c.self.invariant.sender.transfer.addressing.id in
    omega (arith, c.written_len.ensures, content, fits, widths.id_width.1, widths.number_width.1, crc_short c.self.inside.addressing.crc, c.extent-carried.ensures.short)

pub returns-clause-short : goal.returns-clause-short
returns-clause-short c =
    let s : IsSender c.args.self.now = subst IsSender c.self.view_is c.self.invariant.sender in
    let short = content-short c.args.self.now c.args.due.now _ s c.extent-carried.ensures.short c.extent-carried.ensures.some in
    let content = ap (λ b. content_len (file_size_octets b) (view c.says.result)) c.is_large-large.ensures ∙ ap (content_len (file_size_octets (is_large c.args.self.now.size))) c.says.ensures in
    let widths = c.self.invariant.sender.transfer.addressing.id in
    omega (arith, c.written_len.ensures, content, short, widths.id_width.1, widths.number_width.1, crc_short c.self.inside.addressing.crc)

pub returns-clause-can_write : goal.returns-clause-can_write
returns-clause-can_write c = λ file.
    let s : IsSender c.args.self.now = subst IsSender c.self.view_is c.self.invariant.sender in
    due-can_write c.args.self.now c.args.due.now file s c.requires

pub returns-clause-len : goal.returns-clause-len
returns-clause-len c = λ file whole.
    let written = c.written_len.ensures
    ∙ ap (λ b. written_len c.self.inside.addressing b (view c.says.result)) c.is_large-large.ensures
    ∙ ap (λ (x : SenderState). written_len x.addressing (is_large c.args.self.now.size) (view c.says.result)) c.self.view_is in
    len-of-due c.args.self.now c.args.due.now file _ _ _ (view c.says.result) c.says.ensures written (c.extent-carried.ensures.part file) whole c.extent-carried.ensures.within
