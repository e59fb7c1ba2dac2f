-- What is read in ranges, one after the other, is what is staged there, each octet once.
use Rattle.std.proofs.Common.{◌≡◌, ℕ, zero, suc, ◌+◌, ◌-◌, ◌<◌, ◌≤◌, Bool, true, false, ◌&&◌, ◌||◌, nat_le, nat_lt, List, [], ◌∷◌, ◌++◌, length, Option, Some, None, IsSome, refl, sym, ap, ap₂, subst, ◌∙◌, arith, if◌then◌else◌}
use Rattle.std.specs.Prelude.{count_by, slice_get, unwrap_or}
use Rattle.std.specs.List.{AllByRecursion}
use Rattle.std.specs.FinMap as map
use Rattle.std.specs.FinSet as set
use Rattle.std.specs.Ordering.{nat_cmp}
use Rattle.std.proofs.lemmas.Bool.{false≢true, le-leb, lt-ltb, and_from, and_parts, leb-true, ltb-true}
use Rattle.std.proofs.lemmas.List.Sums.{sum_by-cons}
use Rattle.cfdp_directives.specs.declared.pdu.sums.Checksums.{Checksums}
use Rattle.cfdp_directives.specs.Pdu.Checksum.{Piece, covers}
use Rattle.cfdp_directives.specs.Pdu.Sums.{AreSumsOf, all_summed, nothing_summed}
use Rattle.cfdp_extents.specs.Offsets.{Offsets, is_within, union_of}
use Rattle.cfdp_store.specs.Staged.{OctetMap, front_from}
use Rattle.cfdp_resuming.specs.Anew.{AreInOrder, AreReadOf, all_read, read_in}
use Rattle.cfdp_resuming.specs.Receiver.{IsStagedIn, SumsStaged}

abbrev mark : Bool → ℕ
mark b = if b then 1 else 0

count-cons : (n : ℕ) (p : Piece) (ps : List Piece) → count_by (covers n) (p ∷ ps) ≡ mark (covers n p) + count_by (covers n) ps
count-cons n p ps = sum_by-cons (λ (q : Piece). mark (covers n q)) p ps

-- ---- what is read
length-front : (m : OctetMap) (at n : ℕ) → length (front_from m at n) ≡ n
unfolding front_from
length-front m at zero = refl
length-front m at (suc n) = ap suc (length-front m (at + 1) n)

some-of : (o : Option ℕ) → IsSome o → (x : ℕ) × (o ≡ Some x)
some-of (Some x) h = (x, refl)
some-of None h = absurd (false≢true h)

front-get : (m : OctetMap) (at n k : ℕ) → k < n → IsSome (map.get m (at + k)) → map.get m (at + k) ≡ slice_get (front_from m at n) k
unfolding front_from
front-get m at zero k low h = absurd (omega (arith, low))
front-get m at (suc n) zero low h =
    let e : at + 0 ≡ at = omega arith in
    let x = some-of (map.get m (at + 0)) h in
    let here : map.get m at ≡ Some x.0 = ap (map.get m) (sym e) ∙ x.1 in
    x.1 ∙ ap (λ o. Some (unwrap_or o 0)) (sym here)
front-get m at (suc n) (suc k) low h =
    let e : at + suc k ≡ at + 1 + k = omega arith in
    ap (map.get m) e ∙ front-get m (at + 1) n k (omega (arith, low)) (subst (λ i. IsSome (map.get m i)) e h)

-- ---- where it lies
-- what a law of sets says
abbrev pub UnionsHold : Type 0
UnionsHold = (r : ℕ × ℕ) (rs : List (ℕ × ℕ)) (n : ℕ) → set.contains (union_of (r ∷ rs)) n ≡ (is_within r.0 r.1 n || set.contains (union_of rs) n)

both-false : (a b : Bool) → a ≡ false → b ≡ false → (a || b) ≡ false
both-false true b h k = h
both-false false b h k = k

not-within : (s e n : ℕ) → n < s → is_within s e n ≡ false
not-within s e n low = below (nat_le s n) (nat_lt n e) (λ is. (let h : s ≤ n = leb-true s n is in omega (arith, h, low)))
  where
    below : (a b : Bool) → (a ≡ true → ⊥) → (a && b) ≡ false
    below true b h = absurd (h refl)
    below false b h = refl

none-before : UnionsHold → (from n : ℕ) (rs : List (ℕ × ℕ)) → AreInOrder from rs → n < from → set.contains (union_of rs) n ≡ false
unfolding union_of
none-before unions from n [] order low = set.contains-empty nat_cmp n
none-before unions from n (r ∷ rs) order low =
    unions r rs n ∙ both-false (is_within r.0 r.1 n) (set.contains (union_of rs) n) (not-within r.0 r.1 n (omega (arith, order.0, low)))
    (none-before unions r.1 n rs order.2 (omega (arith, order.0, order.1, low)))

in-one : (a b : Bool) → (a ≡ true → b ≡ false) → mark a + mark b ≡ mark (a || b)
in-one true true h = absurd (false≢true (sym (h refl)))
in-one true false h = refl
in-one false true h = refl
in-one false false h = refl

module _ (m : OctetMap) where
  covered : (r : ℕ × ℕ) (n : ℕ) → r.0 < r.1 → covers n (read_in m r) ≡ is_within r.0 r.1 n
  covered r n some =
      let end : r.0 + length (front_from m r.0 (r.1 - r.0)) ≡ r.1 = omega (arith, length-front m r.0 (r.1 - r.0), some) in
      ap (λ k. nat_le r.0 n && nat_lt n k) end

  counted : UnionsHold → (from n : ℕ) (rs : List (ℕ × ℕ)) → AreInOrder from rs → count_by (covers n) (all_read m rs) ≡ mark (set.contains (union_of rs) n)
  unfolding union_of
  counted unions from n [] order = ap mark (sym (set.contains-empty nat_cmp n))
  counted unions from n (r ∷ rs) order =
      let here : mark (covers n (read_in m r)) ≡ mark (is_within r.0 r.1 n) = ap mark (covered r n order.1) in
      let rest : count_by (covers n) (all_read m rs) ≡ mark (set.contains (union_of rs) n) = counted unions r.1 n rs order.2 in
      let apart : is_within r.0 r.1 n ≡ true → set.contains (union_of rs) n ≡ false = λ is. none-before unions r.1 n rs order.2 (ltb-true n r.1 (and_parts _ _ is).1) in
      count-cons n (read_in m r) (all_read m rs) ∙ ap₂ (λ a b. a + b) here rest ∙ in-one (is_within r.0 r.1 n) (set.contains (union_of rs) n) apart ∙ ap mark (sym (unions r rs n))

  staged : UnionsHold → (from : ℕ) (rs : List (ℕ × ℕ)) → AreInOrder from rs → ((n : ℕ) → set.contains (union_of rs) n ≡ true → IsSome (map.get m n)) → AllByRecursion (IsStagedIn m) (all_read m rs)
  staged unions from [] order there = tt
  staged unions from (r ∷ rs) order there = (
    record {
      some = omega (arith, length-front m r.0 (r.1 - r.0), order.1);
      same = λ k low.
          (let inside : k < r.1 - r.0 = omega (arith, length-front m r.0 (r.1 - r.0), low) in
          let within : is_within r.0 r.1 (r.0 + k) ≡ true = and_from _ _ (le-leb r.0 (r.0 + k) (omega arith)) (lt-ltb (r.0 + k) r.1 (omega (arith, inside))) in
          front-get m r.0 (r.1 - r.0) k inside (there (r.0 + k) (unions r rs (r.0 + k) ∙ ap (λ b. b || set.contains (union_of rs) (r.0 + k)) within)));
    },
    staged unions r.1 rs order.2 (λ n is. there n (unions r rs n ∙ either (is_within r.0 r.1 n) (set.contains (union_of rs) n) is)),
  )
    where
      either : (a b : Bool) → b ≡ true → (a || b) ≡ true
      either true b h = refl
      either false b h = h

  pub read-staged : UnionsHold → ((wanted : Option ℕ) → AreSumsOf wanted [] nothing_summed) →
      ((wanted : Option ℕ) (front back : List Piece) (sums : Checksums) → AreSumsOf wanted front sums → AreSumsOf wanted (front ++ back) (all_summed wanted sums back)) → (wanted : Option ℕ) (held : Offsets)
      (ranges : List (ℕ × ℕ)) → AreReadOf held ranges → ((n : ℕ) → set.contains held n ≡ true → IsSome (map.get m n)) → SumsStaged wanted held m (all_summed wanted nothing_summed (all_read m ranges))
  read-staged unions none more wanted held ranges are there = record {
    pieces = all_read m ranges;
    cut = record {
      parts = staged unions 0 ranges are.in_order (λ n is. there n (sym (ap (λ s. set.contains s n) are.union) ∙ is));
      once = λ n. counted unions 0 n ranges are.in_order ∙ ap (λ s. mark (set.contains s n)) are.union;
    };
    are = more wanted [] (all_read m ranges) nothing_summed (none wanted);
  }
