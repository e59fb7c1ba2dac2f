use Rattle.std.proofs.Common.{◌≡◌, ℕ, true, List, ◌+◌, ◌++◌, ap, ◌∙◌, take, drop, subst, arith}
use Rattle.cfdp_directives.specs.Pdu.Content.{FileData}
use Rattle.cfdp_store.specs.Files.{octets_in}
use Rattle.cfdp_sender.specs.State.{SenderState, IsSender}
use Rattle.cfdp_sender.specs.declared.phase.SenderPhase.TheVariants.{Sending}
use Rattle.cfdp_sender.specs.Inside.{KeepsNames}
use Rattle.cfdp_sender.specs.Does.{Writes}
use Rattle.cfdp_sender.proofs.Writing.{data-writes}
use Rattle.cfdp_sender.proofs.Dues.{below-fits}
use Rattle.cfdp_sender.proofs.OwnFile.{has-reread}
use Rattle.cfdp_sender.proofs.sender.Sender.write_data.Goals as goal

pub returns-clause-written : goal.returns-clause-written
returns-clause-written g c =
    let file = octets_in (g.O.Outbox.files c.read_to.new.outbox) c.args.self.now.source in
    let sending : c.self.inside.phase ≡ Sending = ap (λ (x : SenderState). x.phase) c.self.view_is ∙ c.requires.sending in
    let kept : c.self.inside.names.kept ≡ true = subst (λ p. KeepsNames p c.self.inside.names.kept) sending c.self.invariant.names in
    let name : c.source.result.now ≡ c.args.self.now.source = c.source.ensures kept ∙ ap (λ (x : SenderState). x.source) c.self.view_is in
    let put = subst (λ (n : List ℕ). take (c.write_data_front-at.result + c.args.count) c.read_to.new.out ≡ take c.write_data_front-at.result c.write_data_front-at.new.out
    ++ take c.args.count (drop c.args.start (octets_in (g.O.Outbox.files c.read_to.new.outbox) n))) name c.in_ok-read_to.ensures.front in
    let bytes = take c.args.count (drop c.args.start file) in
    let end = c.write_crc.result in
    let new = c.write_crc.new.out in
    subst (λ b. Writes b c.args.self.now.addressing (FileData c.args.start bytes) end c.args.out.now new) c.is_large-large.ensures
    (subst (λ (x : SenderState). Writes c.is_large-large.result x.addressing (FileData c.args.start bytes) end c.args.out.now new) c.self.view_is
    (data-writes c.is_large-large.result c.self.inside.addressing c.args.start c.args.count c.write_data_front-at.result end file c.args.out.now c.write_data_front-at.new.out c.read_to.new.out new
    (omega (arith, c.requires.within, (has-reread c.args.self.now.source c.args.self.now.size c.in_ok-read_to.ensures.rereads c.requires.file).whole)) c.write_data_front-at.ensures.end c.write_data_front-at.ensures.front c.write_data_front-at.ensures.behind put
    c.in_ok-read_to.ensures.behind c.write_crc.ensures.end c.write_crc.ensures.front c.write_crc.ensures.behind))

pub write_data_front-at-requires-clause-offset : goal.write_data_front-at-requires-clause-offset
write_data_front-at-requires-clause-offset g c =
    let s : IsSender c.args.self.now = subst IsSender c.self.view_is c.self.invariant.sender in
    rw c.is_large-large.ensures (below-fits c.args.self.now c.args.start s (omega (arith, c.requires.within)))
