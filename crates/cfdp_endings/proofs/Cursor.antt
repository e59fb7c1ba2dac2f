-- A NAK that has more to ask for than it names moves the cursor of its receiver on.
use Rattle.std.proofs.Common.{◌≡◌, ℕ, zero, suc, ◌+◌, ◌-◌, ◌<◌, ◌≤◌, ◌==◌, ◌&&◌, not, is_none, Bool, true, List, [], ◌∷◌, ◌++◌, length, take, arith}
use Rattle.std.specs.FinSet as set
use Rattle.std.proofs.lemmas.Bool.{cond_both, ltb-true}
use Rattle.cfdp_extents.specs.Terms.{gaps_of}
use Rattle.cfdp_extents.proofs.CallerLemmas.{AllRangesIn, ranges-in}
use Rattle.cfdp_receiver.specs.Missing.{scope_limit, missing_pairs, asked, has_more, last_end}
use Rattle.cfdp_receiver.specs.State.{ReceiverState}

-- the end of the last of the pairs of a NAK
ends-further : (passes : ℕ → Bool) (from limit end n : ℕ) (rs : List (ℕ × ℕ)) → (from < end) × (end ≤ limit) → AllRangesIn passes from limit rs → (from < last_end end (take n rs))
    × (last_end end (take n rs) ≤ limit)
ends-further passes from limit end zero rs b h = b
ends-further passes from limit end (suc n) [] b h = b
ends-further passes from limit end (suc n) (r ∷ rs) b h =
    let low : from ≤ r.0 = h.0.low in
    let some : r.0 < r.1 = h.0.some in
    let high : r.1 ≤ limit = h.0.high in
    ends-further passes from limit r.1 n rs (omega arith, high) h.1

ends-in : (passes : ℕ → Bool) (from limit end n : ℕ) (rs : List (ℕ × ℕ)) → 0 < n → 0 < length rs → AllRangesIn passes from limit rs → (from < last_end end (take n rs))
    × (last_end end (take n rs) ≤ limit)
ends-in passes from limit end zero rs some more h = absurd (omega arith)
ends-in passes from limit end (suc n) [] some more h = absurd (omega arith)
ends-in passes from limit end (suc n) (r ∷ rs) some more h =
    let low : from ≤ r.0 = h.0.low in
    let wide : r.0 < r.1 = h.0.some in
    let high : r.1 ≤ limit = h.0.high in
    ends-further passes from limit r.1 n rs (omega arith, high) h.1

module _ (r : ReceiverState) (from : ℕ) where
  abbrev pub Moves : List (ℕ × ℕ) → Type 0
  Moves pairs = has_more pairs ≡ true → (from < last_end 0 (asked pairs)) × (last_end 0 (asked pairs) ≤ scope_limit r)

  abbrev here : List (ℕ × ℕ)
  here = gaps_of r.held from (scope_limit r)

  in_here : AllRangesIn (λ n. not (set.contains r.held n)) from (from + (scope_limit r - from)) here
  unfolding gaps_of
  in_here = ranges-in (λ n. not (set.contains r.held n)) from (scope_limit r - from)

  -- a NAK that has more to ask for than it says moves the cursor on
  pub cursor-moves : Moves (missing_pairs from r)
  cursor-moves = cond_both (is_none r.metadata && (from == 0)) ((0, 0) ∷ []) [] (λ l. Moves (l ++ here))
      (λ _ more.
      let many : 32 < 1 + length here = (let m : 32 < suc (length here) = ltb-true 32 (suc (length here)) more in omega arith) in
      let b = ends-in (λ n. not (set.contains r.held n)) from (from + (scope_limit r - from)) 0 31 here (omega arith) (omega arith) in_here in
      let low : from < last_end 0 (take 31 here) = b.0 in
      let high : last_end 0 (take 31 here) ≤ from + (scope_limit r - from) = b.1 in
      (low, omega arith))
      (λ _ more.
      let many : 32 < length here = ltb-true 32 (length here) more in
      let b = ends-in (λ n. not (set.contains r.held n)) from (from + (scope_limit r - from)) 0 32 here (omega arith) (omega arith) in_here in
      let low : from < last_end 0 (take 32 here) = b.0 in
      let high : last_end 0 (take 32 here) ≤ from + (scope_limit r - from) = b.1 in
      (low, omega arith))
