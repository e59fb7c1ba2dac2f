-- Each index has the flag that it must have.
use Rattle.std.proofs.Common.{◌≡◌, ◌≢◌, ◌<◌, ◌≤◌, ◌+◌, ◌-◌, ℕ, Bool, List, false, length, get_or, take, remove, sym, ap, ◌∙◌, arith, inl, inr, length-take, length-set}
use Rattle.std.specs.Prelude.{slice_set}
use Rattle.std.proofs.lemmas.Bool.{cases_lt}
use Rattle.std.proofs.lemmas.List.{ext_get_or, get_or-take, get_or-set_other}
use Rattle.std.proofs.lemmas.List.Edits.{length-remove, get_or-remove_below, get_or-remove_above}
use Rattle.cfdp_entity.proofs.ready.Ready.remove.Goals as goal

-- flags that moved up from an index on, the last one cleared and cut off
moved-up : (old now : List Bool) (place last : ℕ) → place < length old → last ≡ length old - 1 → length now ≡ length old → ((k : ℕ) → k < place → get_or now k false ≡ get_or old k false)
    → ((k : ℕ) → place ≤ k → k < last → get_or now k false ≡ get_or old (k + 1) false) → take (length (slice_set now last false) - 1) (slice_set now last false) ≡ remove old place
moved-up old now place last within end size kept moved =
    let n = length (slice_set now last false) - 1 in
    let set = length-set now last false in
    let cut = length-take n (slice_set now last false) in
    let left = length-remove old place within in
    ext_get_or false (take n (slice_set now last false)) (remove old place) (omega (arith, set, cut, left, size, within)) (λ k l.
    get_or-take n (slice_set now last false) k false (omega (arith, l, cut))
    ∙ get_or-set_other now last k false false (apart k (omega (arith, l, cut, set, size, end)))
    ∙ at k (omega (arith, l, cut, set, size, end)))
  where
    apart : (k : ℕ) → k < last → k ≢ last
    apart k less = λ is. omega (arith, less, is)

    at : (k : ℕ) → k < last → get_or now k false ≡ get_or (remove old place) k false
    at k less = elim (cases_lt k place) [
      | inl low ↦ kept k low ∙ sym (get_or-remove_below old place false k low within)
      | inr high ↦ moved k high less ∙ sym (get_or-remove_above old place false k high within)
    ]

pub returns : goal.returns
returns c =
    let inv = c.loop-to.invariant in
    let last : ℕ = c.len-last.result - 1 in
    let is : last ≡ length c.args.self.now - 1 = ap (λ n. n - 1) c.len-last.ensures.len in
    let past = c.loop-to-test.false in
    c.shorten.ensures ∙ ap (λ (l : List Bool). take (length l - 1) l) c.set-2.ensures
    ∙ moved-up c.args.self.now c.loop-to.self c.args.place last c.requires.within is inv.size inv.kept (λ k on low. inv.moved k on (omega (arith, past, low)))
