use Rattle.std.proofs.Common.{Some, ap, subst, ◌∙◌, IfSome}
use Rattle.std.specs.Option.{option_map}
use Rattle.cfdp_directives.specs.Pdu.Codes.{is_large}
use Rattle.cfdp_directives.specs.Pdu.Written.{CanWrite}
use Rattle.cfdp_directives.specs.Pdu.Addressing.{header_of, written_len}
use Rattle.cfdp_sender.specs.Due.{sender_says}
use Rattle.cfdp_sender.proofs.sender.Sender.due.Goals as goal

pub returns-clause-can_write : goal.returns-clause-can_write
returns-clause-can_write c = λ file.
    subst (λ o. IfSome o (λ d. CanWrite (header_of c.args.self.now.addressing (is_large c.args.self.now.size) (sender_says file c.args.self.now d)) (sender_says file c.args.self.now d)))
    c.in_ok-due.ensures (c.len_of.ensures.can_write file)

pub returns-clause-len : goal.returns-clause-len
returns-clause-len c = λ file whole. ap Some (c.len_of.ensures.len file whole)
    ∙ ap (option_map (λ d. written_len c.args.self.now.addressing (is_large c.args.self.now.size) (sender_says file c.args.self.now d))) c.in_ok-due.ensures
