use Rattle.std.proofs.Common.{true, ◌≡◌, ◌≤◌, ◌+◌, ◌-◌, ℕ, take, drop, length, length-append, Some, sym, ap, ◌∙◌, arith}
use Rattle.std.proofs.lemmas.List.{length-take, length-drop}
use Rattle.cfdp_header.specs.Files.{FileMap}
use Rattle.cfdp_directives.specs.Pdu.Sums.{summed}
use Rattle.cfdp_store.specs.Files.{octets_in}
use Rattle.cfdp_sender.specs.Inputs.{front_sums}
use Rattle.cfdp_sender.proofs.OwnFile.{octets-reread}
use Rattle.cfdp_sender.proofs.Truth.{ChecksumsGoOn, front-more}
use Rattle.cfdp_sender.proofs.front.sums_of_front.Goals as goal

pub loop-at-preserved : goal.loop-at-preserved
loop-at-preserved g c =
    let law : ChecksumsGoOn = record { none = c.checksums_go_on.ensures.none; more = c.checksums_go_on.ensures.more; whole = c.checksums_go_on.ensures.whole } in
    let at = c.loop-at.at in
    let count = c.min-count.result in
    let name = c.args.name.now in
    let file = octets_in (g.O.Outbox.files c.loop-at.outbox) name in
    let len = length-take count c.loop-at.buffer in
    let less : length (take count c.loop-at.buffer) ≡ (at + count) - at = omega (arith, len, c.min-count.ensures, c.loop-at.invariant.room) in
    let whole = octets-reread true _ _ _ _ name c.loop-at.invariant.rereads in
    record {
      within = omega (arith, c.min-count.ensures, c.loop-at.invariant.within);
      sums = λ stands.
          (let stood = c.in_ok-add_piece.ensures.rereads.stood stands in
          c.in_ok-add_piece.ensures.sums
          ∙ ap (λ (f : FileMap). summed (Some c.args.kind) c.loop-at.sums (record { offset = at; bytes = take (length (take count c.loop-at.buffer)) (drop at (octets_in f name)) })) stood.1
          ∙ ap (λ (n : ℕ). summed (Some c.args.kind) c.loop-at.sums (record { offset = at; bytes = take n (drop at file) })) less
          ∙ front-more law c.args.kind file at (at + count) c.loop-at.sums (omega arith) (omega (arith, whole, c.loop-at.invariant.within, c.requires.within)) (c.loop-at.invariant.sums stood.0)
          ∙ ap (λ (f : FileMap). front_sums c.args.kind (take (at + count) (octets_in f name))) (sym stood.1));
      fits = c.in_ok-add_piece.ensures.fits;
      rereads = record {
        lens = λ other. c.in_ok-add_piece.ensures.rereads.lens other ∙ c.loop-at.invariant.rereads.lens other;
        stood = λ stands.
            (let later = c.in_ok-add_piece.ensures.rereads.stood stands in
            let before = c.loop-at.invariant.rereads.stood later.0 in
            (before.0, later.1 ∙ before.1));
      };
      failures = c.in_ok-add_piece.ensures.failures ∙ c.loop-at.invariant.failures;
      room = omega (arith, length-append c.add_piece.new.buffer (drop count c.loop-at.buffer), length-drop count c.loop-at.buffer, len, c.add_piece.auto.buffer, c.min-count.ensures, c.loop-at.invariant.room);
    }
