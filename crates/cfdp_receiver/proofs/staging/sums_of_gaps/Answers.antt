use Rattle.std.proofs.Common.{rules, ◌≡◌, ◌+◌, ◌∷◌, [], ◌∙◌, ℕ, sym, ap, subst, arith, List, length, suc}
use Rattle.std.specs.List.{All}
use Rattle.cfdp_directives.specs.declared.pdu.sums.Checksums.{Checksums}
use Rattle.cfdp_directives.specs.Pdu.Sums.{summed, all_summed}
use Rattle.cfdp_extents.specs.Offsets.{LiesIn}
use Rattle.cfdp_receiver.specs.Pieces.{piece_in, pieces_in}
use Rattle.cfdp_receiver.proofs.staging.sums_of_gaps.Goals as goal

all_tail : (P : ℕ × ℕ → Type 0) (x : ℕ × ℕ) (xs ys : List (ℕ × ℕ)) → ys ≡ x ∷ xs → All P ys →
    All P xs
all_tail P x xs ys is all = let Q : List (ℕ × ℕ) →
    Type 0 = λ l. All P l in λ k d low. (subst Q is all) (suc k) d (omega arith)

pub loop-start-preserved : goal.loop-start-preserved
loop-start-preserved c =
    let r : ℕ × ℕ = (c.in-Some.start, c.in-Some.end) in
    let rest : List (ℕ × ℕ) = c.next.new.self in
    let those : List (ℕ × ℕ) → Checksums = λ gaps. all_summed c.args.wanted.now c.loop-start.sums (pieces_in c.args.offset c.args.bytes.now gaps) in
    record {
      inside = all_tail (LiesIn c.args.offset (c.args.offset + length c.args.bytes.now)) r rest _
          c.in-Some.ensures.steps c.loop-start.invariant.inside;
      sums =
          ap (λ (s : Checksums). all_summed c.args.wanted.now s (pieces_in c.args.offset c.args.bytes.now rest))
          (c.add.ensures.is ∙ ap (λ (b : List ℕ). summed c.args.wanted.now c.loop-start.sums (record { offset = c.in-Some.start; bytes = b })) c.piece.ensures)
          ∙ ap those (sym c.in-Some.ensures.steps)
          ∙ c.loop-start.invariant.sums;
    }
