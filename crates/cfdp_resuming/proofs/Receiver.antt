-- A receiver that is brought back knows the truth of its put.
use Rattle.std.proofs.Common.{◌≡◌, inl, inr, ℕ, zero, suc, ◌+◌, ◌-◌, ◌<◌, ◌≤◌, Bool, true, false, List, [], ◌∷◌, length, take, drop, Option, Some, None, IfSome, refl, sym, ap, subst, ◌∙◌, arith, if◌then◌else◌}
use Rattle.std.specs.Prelude.{count_by, slice_get}
use Rattle.std.specs.List.{AllByRecursion}
use Rattle.std.specs.FinSet as set
use Rattle.std.proofs.lemmas.Bool.{le-leb, lt-ltb, and_from}
use Rattle.std.proofs.lemmas.List.Sums.{sum_by-cons}
use Rattle.cfdp_directives.specs.declared.pdu.sums.Checksums.{Checksums}
use Rattle.cfdp_directives.specs.Pdu.Checksum.{Piece, IsOf, covers}
use Rattle.cfdp_directives.specs.User.Put.{Put}
use Rattle.cfdp_extents.specs.Offsets.{Offsets}
use Rattle.cfdp_store.specs.Staged.{OctetMap}
use Rattle.cfdp_receiver.specs.declared.state.ReceiverPhase.TheVariants.{Receiving}
use Rattle.cfdp_receiver.specs.State.{ReceiverState, kind_told}
use Rattle.cfdp_receiver.specs.Sound.{HoldsOctet, Sound, SumsHeld}
use Rattle.cfdp_resuming.specs.Receiver.{IsKeptOf, IsRestoredReceiver, IsStagedIn, SumsStaged}

abbrev mark : Bool → ℕ
mark b = if b then 1 else 0

count-cons : (n : ℕ) (p : Piece) (ps : List Piece) → count_by (covers n) (p ∷ ps) ≡ mark (covers n p) + count_by (covers n) ps
count-cons n p ps = sum_by-cons (λ (q : Piece). mark (covers n q)) p ps

-- an octet of a piece is covered by it
covers-own : (p : Piece) (k : ℕ) → k < length p.bytes → covers (p.offset + k) p ≡ true
covers-own p k low = and_from _ _ (le-leb p.offset (p.offset + k) (omega arith)) (lt-ltb (p.offset + k) (p.offset + length p.bytes) (omega arith))

held-if : (b : Bool) → 1 ≤ mark b → b ≡ true
held-if true h = refl
held-if false h = absurd (omega arith)

-- ---- a list that has the same octets as the front of another one is that front
front-same : (bytes rest : List ℕ) → ((k : ℕ) → k < length bytes → slice_get rest k ≡ slice_get bytes k) → bytes ≡ take (length bytes) rest
front-same [] rest h = refl
front-same (b ∷ bytes) [] h = absurd (none_is b (h 0 (omega arith)))
  where
    none_is : (b : ℕ) → None ≡ Some b → ⊥
    none_is b e = cc
front-same (b ∷ bytes) (r ∷ rest) h =
    let first : r ≡ b = some-is r b (h 0 (omega arith)) in
    let more : bytes ≡ take (length bytes) rest = front-same bytes rest (λ k low. h (suc k) (omega arith)) in
    ap (λ l. b ∷ l) more ∙ ap (λ x. x ∷ take (length bytes) rest) (sym first)
  where
    some-is : (x y : ℕ) → Some x ≡ Some y → x ≡ y
    some-is x y e = cc

dropped-is : (at : ℕ) (file : List ℕ) (k : ℕ) → slice_get (drop at file) k ≡ slice_get file (at + k)
dropped-is zero file k = let e : 0 + k ≡ k = omega arith in ap (slice_get file) (sym e)
dropped-is (suc at) [] k = refl
dropped-is (suc at) (y ∷ file) k = let e : suc at + k ≡ suc (at + k) = omega arith in dropped-is at file k ∙ ap (slice_get (y ∷ file)) (sym e)

-- ---- pieces
module _ (put : Put) (heard : List (List ℕ)) (m : OctetMap) where
  -- a piece of which each octet is held is one of the file
  piece-is : (p : Piece) → IsStagedIn m p → ((k : ℕ) → k < length p.bytes → HoldsOctet put heard m (p.offset + k)) → IsOf put.octets p
  piece-is p staged holds =
      let n : ℕ = length p.bytes in
      let some : 0 < n = staged.some in
      let last : p.offset + (n - 1) < length put.octets = (holds (n - 1) (omega arith)).within in
      record {
        within = omega (arith, some, last);
        same = front-same p.bytes (drop p.offset put.octets) (λ k low. dropped-is p.offset put.octets k ∙ sym (holds k low).same ∙ staged.same k low);
      }

  pieces-are : (held : Offsets) → ((n : ℕ) → set.contains held n ≡ true → HoldsOctet put heard m n) → (ps : List Piece) → AllByRecursion (IsStagedIn m) ps
      → ((n : ℕ) → 1 ≤ count_by (covers n) ps → set.contains held n ≡ true) → AllByRecursion (IsOf put.octets) ps
  pieces-are held holds [] all counted = tt
  pieces-are held holds (p ∷ ps) all counted = (
    piece-is p all.0 (λ k low.
        let one : mark (covers (p.offset + k) p) ≡ 1 = ap mark (covers-own p k low) in
        holds (p.offset + k) (counted (p.offset + k) (omega (arith, count-cons (p.offset + k) p ps, one)))),
    pieces-are held holds ps all.1 (λ n some. counted n (omega (arith, count-cons n p ps, some))),
  )

  sums-are : (wanted : Option ℕ) (held : Offsets) (sums : Checksums) → ((n : ℕ) → set.contains held n ≡ true → HoldsOctet put heard m n) → SumsStaged wanted held m sums → SumsHeld wanted held put.octets sums
  sums-are wanted held sums holds s = record {
    pieces = s.pieces;
    cut = record {
      parts = pieces-are held holds s.pieces s.cut.parts (λ n some. held-if (set.contains held n) (let e : count_by (covers n) s.pieces ≡ mark (set.contains held n) = s.cut.once n in omega (arith, e, some)));
      once = λ n low. s.cut.once n;
    };
    are = s.are;
  }

-- what is kept of something that holds
still : {A : Type 0} (P : A → Type 0) (old new : Option A) → IsKeptOf old new → IfSome old P → IfSome new P
still P old new (inl none) h = subst (λ o. IfSome o P) (sym none) tt
still P old new (inr same) h = subst (λ o. IfSome o P) (sym same) h

pub restored-sound : (put : Put) (heard : List (List ℕ)) (r s : ReceiverState) (m n : OctetMap) → IsRestoredReceiver r m s n → Sound put heard r m → Sound put heard s n
restored-sound put heard r s m n is k =
    let holds = λ (now : s.phase ≡ Receiving) (i : ℕ) (has : set.contains s.held i ≡ true).
    (let was = is.held now i has in
    let old : HoldsOctet put heard m i = k.octets was.0 i was.1 in
    let e : HoldsOctet put heard n i = record { within = old.within; same = was.2 ∙ old.same; was_heard = old.was_heard } in e) in
    record {
      name = still _ r.metadata s.metadata is.metadata k.name;
      end = still _ r.ending s.ending is.ending k.end;
      octets = holds;
      sum = λ now. sums-are put heard n (kind_told s.metadata) s.held s.sums (holds now) (is.sums now);
    }
