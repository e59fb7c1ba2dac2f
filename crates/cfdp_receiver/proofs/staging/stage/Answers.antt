use Rattle.std.proofs.Common.{rules, ◌≡◌, ◌+◌, ◌∷◌, [], Ok, ◌∙◌, ℕ, sym, ap, subst, refl, arith, List, length, suc}
use Rattle.std.specs.Prelude.{unwrap_or, Option, IsSome}
use Rattle.std.specs.FinMap.{empty}
use Rattle.std.specs.List.{All}
use Rattle.cfdp_directives.specs.Pdu.Checksum.{Piece}
use Rattle.cfdp_extents.specs.Offsets.{LiesIn}
use Rattle.cfdp_store.specs.Staged.{OctetMap, staged_for}
use Rattle.cfdp_receiver.specs.Pieces.{piece_in, pieces_in, with_piece, staged_with}
use Rattle.cfdp_store.specs.Calls.{Write}
use Rattle.cfdp_store.specs.Chains.{Makes}
use Rattle.cfdp_receiver.specs.Storing.{StopsAt}
use Rattle.cfdp_receiver.proofs.Chains.{wrote-none, wrote-more, wrote-stops, wrote-all}
use Rattle.cfdp_receiver.proofs.staging.stage.Goals as goal

all_tail : (P : ℕ × ℕ → Type 0) (x : ℕ × ℕ) (xs ys : List (ℕ × ℕ)) → ys ≡ x ∷ xs → All P ys →
    All P xs
all_tail P x xs ys is all = let Q : List (ℕ × ℕ) →
    Type 0 = λ l. All P l in λ k d low. (subst Q is all) (suc k) d (omega arith)

pub loop-start-preserved : goal.loop-start-preserved
loop-start-preserved g c =
    let staged = g.I.Inbox.staged in
    let r : ℕ × ℕ = (c.in-Some.start, c.in-Some.end) in
    let rest : List (ℕ × ℕ) = c.next.new.self in
    let is_piece : record { offset = c.in-Some.start; bytes = c.piece-piece.result.now }
    ≡ piece_in c.args.offset c.args.bytes.now r =
    ap (λ (b : List ℕ). record { offset = c.in-Some.start; bytes = b }) c.piece-piece.ensures in
    let wrote = c.stage_piece.ensures.staged c.in-Done.is in
    let P : Option OctetMap → Type 0 = λ o. IsSome o in
    let inv = c.loop-start.invariant in
    record {
      begun = subst P (sym wrote) refl;
      octets =
          ap (λ (o : Option OctetMap). staged_with (unwrap_or o empty)
          (pieces_in c.args.offset c.args.bytes.now rest)) wrote
          ∙ ap (λ (p : Piece). staged_with
          (with_piece (staged_for (staged c.loop-start.inbox) c.args.id) p)
          (pieces_in c.args.offset c.args.bytes.now rest)) is_piece
          ∙ ap (λ (gaps : List (ℕ × ℕ)). staged_with
          (staged_for (staged c.loop-start.inbox) c.args.id)
          (pieces_in c.args.offset c.args.bytes.now gaps)) (sym c.in-Some.ensures.steps)
          ∙ inv.octets;
      inside = all_tail (LiesIn c.args.offset (c.args.offset + length c.args.bytes.now)) r rest _
          c.in-Some.ensures.steps inv.inside;
      others = λ other ne. c.stage_piece.ensures.others other ne ∙ inv.others other ne;
      published = c.stage_piece.ensures.files ∙ inv.published;
      wrote = wrote-more g.I.Inbox.steps g.I.Inbox.failures c.args.id _ _
          (pieces_in c.args.offset c.args.bytes.now rest)
          (piece_in c.args.offset c.args.bytes.now r) _ _ _
          (ap (pieces_in c.args.offset c.args.bytes.now) c.in-Some.ensures.steps) inv.wrote
          (subst (λ (p : Piece). Makes g.I.Inbox.steps g.I.Inbox.failures
          (Write c.args.id p.offset p.bytes (Ok tt) ∷ []) c.loop-start.inbox
          c.stage_piece.new.inbox) is_piece (c.stage_piece.ensures.writes c.in-Done.is));
      counts = search rules;
    }

pub loop-start-init : goal.loop-start-init
loop-start-init g c = record {
  begun = c.requires.begun;
  octets = search rules;
  inside = search rules;
  others = λ other ne. refl;
  published = refl;
  wrote = search (rules, wrote-none);
  counts = search rules;
}

pub returns-in-Refused : goal.returns-in-Refused
returns-in-Refused g c =
    let r : ℕ × ℕ = (c.in-Some.start, c.in-Some.end) in
    let rest : List (ℕ × ℕ) = c.next.new.self in
    let is_piece : record { offset = c.in-Some.start; bytes = c.piece-piece.result.now }
    ≡ piece_in c.args.offset c.args.bytes.now r =
    ap (λ (b : List ℕ). record { offset = c.in-Some.start; bytes = b }) c.piece-piece.ensures in
    record {
      staged = search rules;
      writes = search rules;
      fails = λ is. wrote-stops g.I.Inbox.steps g.I.Inbox.failures c.args.id _ _
          (pieces_in c.args.offset c.args.bytes.now rest) (piece_in c.args.offset c.args.bytes.now r)
          _ _ _
          (ap (pieces_in c.args.offset c.args.bytes.now) c.in-Some.ensures.steps)
          c.loop-start.invariant.wrote
          (subst (λ (p : Piece). StopsAt (Makes g.I.Inbox.steps g.I.Inbox.failures) c.args.id (p ∷ []) [] c.loop-start.inbox
          c.stage_piece.new.inbox) is_piece (c.stage_piece.ensures.fails c.in-Refused.is));
      files = search rules;
      others = search rules;
      counts = search rules;
    }

pub returns : goal.returns
returns g c =
    let none : c.loop-start.start-iterator ≡ [] = search rules in
    record {
      staged = search rules;
      writes = λ is. wrote-all g.I.Inbox.steps g.I.Inbox.failures c.args.id _ _ _ _
          (ap (pieces_in c.args.offset c.args.bytes.now) none) c.loop-start.invariant.wrote;
      fails = search rules;
      files = search rules;
      others = search rules;
      counts = search rules;
    }
