use Rattle.std.proofs.Common.{true, arith}
use Rattle.cfdp_directives.proofs.FileSizes.{limit_low}
use Rattle.cfdp_sender.proofs.sender.Sender.next_of_file.Goals as goal

pub overflow_add-self-inside : goal.overflow_add-self-inside
overflow_add-self-inside c =
    omega (arith, c.self.invariant.sender.sent, c.self.invariant.sender.transfer.size, c.self.invariant.sender.transfer.most, c.from-then-self-2.ensures, limit_low true)
