use Rattle.std.proofs.Common.{drop, IsSome, refl, ◌≡◌, ◌+◌, ℕ, length, Ok, Option, unwrap_or, length-append, sym, ap, subst, ◌∙◌, arith}
use Rattle.std.specs.FinMap.{empty}
use Rattle.std.proofs.lemmas.List.{length-take, length-drop}
use Rattle.cfdp_directives.specs.declared.pdu.sums.Checksums.{Checksums}
use Rattle.cfdp_directives.specs.Pdu.Sums.{summed}
use Rattle.cfdp_store.specs.Staged.{OctetMap, written, staged_for}
use Rattle.cfdp_receiver.specs.Summed.{SumsBelow}
use Rattle.cfdp_receiver.proofs.ReadAnew.{WrittenStands, read-more}
use Rattle.cfdp_receiver.proofs.adopting.add_range.Goals as goal

pub loop-at-preserved : goal.loop-at-preserved
loop-at-preserved g c =
    let stands : WrittenStands = record { here = c.written_octets_stand.ensures.written; below = c.written_octets_stand.ensures.below } in
    let at = c.loop-at.at in
    let count = c.min-count.result in
    let wanted = c.args.wanted.now in
    let xs = c.add_piece.new.buffer in
    let inv = c.loop-at.invariant in
    let taken = length-take count c.loop-at.buffer in
    let len : length xs ≡ count = omega (arith, taken, c.add_piece.auto.buffer, c.min-count.ensures, inv.room) in
    let is = ap Ok c.if-not-branch.false in
    let m : OctetMap = staged_for (g.I.Inbox.staged c.loop-at.inbox) c.args.id in
    let staged_is : staged_for (g.I.Inbox.staged c.add_piece.new.inbox) c.args.id ≡ written m at xs =
    ap (λ (o : Option OctetMap). unwrap_or o empty) (c.in_ok-add_piece.ensures.staged is) in
    let more : Checksums = summed wanted c.loop-at.sums (record { offset = at; bytes = xs }) in
    record {
      begun = subst IsSome (sym (c.in_ok-add_piece.ensures.staged is)) refl;
      from = omega (arith, inv.from);
      within = omega (arith, c.min-count.ensures, inv.within);
      room = omega (arith, length-append xs (drop count c.loop-at.buffer), length-drop count c.loop-at.buffer, len, c.min-count.ensures, inv.room);
      added = λ held was all.
          subst (λ (s : Checksums). SumsBelow wanted held (at + count) (staged_for (g.I.Inbox.staged c.add_piece.new.inbox) c.args.id) s) (sym (c.in_ok-add_piece.ensures.sums is))
          (subst (λ (o : OctetMap). SumsBelow wanted held (at + count) o more) (sym staged_is)
          (subst (λ (k : ℕ). SumsBelow wanted held (at + k) (written m at xs) more) len
          (read-more wanted held c.cut_file_has_its_checksum.ensures.more stands at xs (omega (arith, len, c.min-count.ensures, c.loop-at-test.true, inv.room, c.requires.room))
          (λ n low high. all n (omega (arith, low, inv.from)) (omega (arith, high, len, c.min-count.ensures, inv.within))) (inv.added held was all))));
      others = λ other ne. c.in_ok-add_piece.ensures.others other ne ∙ inv.others other ne;
      published = c.in_ok-add_piece.ensures.published ∙ inv.published;
      failures = c.in_ok-add_piece.ensures.failures ∙ inv.failures;
    }
