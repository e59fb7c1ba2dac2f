use Rattle.std.proofs.Common.{◌≡◌, ◌∙◌, ap, sym, length, get_or, arith, ◌++◌, take, drop}
use Rattle.std.proofs.lemmas.List.{get_or-replicate, with_items_is, take_all}
use Rattle.cfdp_store.specs.Staged.{front}
use Rattle.cfdp_store.specs.Pieces.{octets_of}
use Rattle.cfdp_store.proofs.PieceLemmas.{places-none, places-next, places-front}
use Rattle.cfdp_store.proofs.pieces.Pieces.front.Goals as goal

pub loop-piece-init : goal.loop-piece-init
loop-piece-init c = record {
  len = c.in_ok-octets.ensures.len;
  places = λ k h. places-none _ k (rw (c.in_ok-octets.ensures.items_if_clones_equal (λ y e. e)) (get_or-replicate c.args.size k 0 0 h));
}

pub loop-piece-preserved : goal.loop-piece-preserved
loop-piece-preserved c =
    let old_is : c.deref_mut.result.now ≡ c.loop-piece.octets.items = c.deref_mut.ensures.value in
    let long : length c.deref_mut.result.now ≡ c.args.size = c.deref_mut.ensures.len ∙ c.loop-piece.invariant.len in
    let as_long : length c.copy_into.new.octets ≡ length c.deref_mut.result.now = c.copy_into.auto.octets in
    let new_is : take c.loop-piece.octets.len (c.copy_into.new.octets ++ drop (length c.copy_into.new.octets) c.loop-piece.octets.items) ≡ c.copy_into.new.octets =
    with_items_is c.loop-piece.octets c.copy_into.new.octets (as_long ∙ c.deref_mut.ensures.len) in
    record {
      len = c.loop-piece.invariant.len;
      places = λ k h. rw new_is (
          places-next _ _ _ _ _ _ c.loop-piece-test.true c.piece-item.is c.deref.ensures.value
          c.copy_into.ensures.below c.copy_into.ensures.within c.copy_into.ensures.behind k
          (omega (arith, h, long)) (ap (λ xs. get_or xs k 0) old_is ∙ c.loop-piece.invariant.places k h));
    }

pub returns : goal.returns
returns c =
    let long : length c.loop-piece.octets.items ≡ c.args.size = sym c.loop-piece.octets.ok.0 ∙ c.loop-piece.invariant.len in
    let whole : take c.loop-piece.piece-index c.deref-piece-items.result.now ≡ c.deref-piece-items.result.now = take_all _ _ c.loop-piece-test.false in
    places-front (octets_of (take c.loop-piece.piece-index c.deref-piece-items.result.now)) _ _ long c.loop-piece.invariant.places
    ∙ ap (λ m. front m c.args.size) (ap octets_of (whole ∙ c.deref-piece-items.ensures.value) ∙ c.self.view_is)
