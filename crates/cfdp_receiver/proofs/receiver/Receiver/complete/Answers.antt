use Rattle.std.proofs.Common.{◌∙◌, sym, ap, subst}
use Rattle.std.specs.FinSet.{is_subset}
use Rattle.cfdp_extents.specs.Offsets.{range}
use Rattle.cfdp_store.specs.Staged.{Covers, staged_for}
use Rattle.cfdp_receiver.specs.State.{ReceiverState}
use Rattle.cfdp_receiver.proofs.StagedLemmas.{whole}
use Rattle.cfdp_receiver.proofs.receiver.Receiver.complete.Goals as goal

pub publish-requires-clause-whole : goal.publish-requires-clause-whole
publish-requires-clause-whole g c =
    let size = c.in-Some-Some.ending.size in
    let staged = g.I.Inbox.staged c.args.inbox.now in
    let P : ReceiverState → Type 0 = λ r. Covers size (staged_for staged r.addressing.id) in
    let all = ap (λ (r : ReceiverState). is_subset (range 0 size) r.held) (sym c.self.view_is)
    ∙ sym c.covers.ensures ∙ c.if-not-covers.false in
    subst P (sym c.self.view_is)
    (whole staged c.args.self.now size c.requires.ready.ready c.requires.ready.receiving all)
