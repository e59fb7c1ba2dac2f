use Rattle.std.proofs.Common.{IsSome, refl, sym, subst}
use Rattle.cfdp_directives.specs.declared.pdu.sums.Checksums.{Checksums}
use Rattle.cfdp_receiver.specs.Summed.{IsAdopted}
use Rattle.cfdp_receiver.proofs.ReadAnew.{none-held}
use Rattle.cfdp_receiver.proofs.adopting.adopt_held.Goals as goal

pub returns-then-is_empty-clause-adopted : goal.returns-then-is_empty-clause-adopted
returns-then-is_empty-clause-adopted g c =
    let staged = g.I.Inbox.staged c.begin.new.self c.args.id in
    let begun : IsSome staged = subst IsSome (sym c.in_ok-begin.ensures.staged) refl in
    subst (λ (s : Checksums). IsAdopted c.args.wanted.now c.args.held.now staged s) (sym c.new.ensures.is)
    (none-held c.cut_file_has_its_checksum.ensures.none begun (c.is_empty.ensures.0 c.if-is_empty.true))
