use Rattle.std.proofs.Common.{◌≡◌, ◌<◌, ◌≤◌, true, refl, length-set, ◌++◌, ◌∙◌, ℕ, List, length, ap, arith}
use Rattle.cfdp_extents.specs.Offsets.{LiesIn}
use Rattle.cfdp_receiver.specs.declared.asked.Asked.{Asked}
use Rattle.cfdp_receiver.specs.Asked.{pairs_of}
use Rattle.cfdp_receiver.proofs.AskedLemmas.{all_parts, asks_first, asks_all, all_with_one, end_with_one, filled_with_one, writable_with_one}
use Rattle.cfdp_receiver.proofs.asked.Asked.of.Goals as goal

pub returns-then-asked-eq-MOST_PAIRS-clause-asks : goal.returns-then-asked-eq-MOST_PAIRS-clause-asks
returns-then-asked-eq-MOST_PAIRS-clause-asks c =
    let inv = c.loop-from.invariant in
    let a : Asked = record c.loop-from.asked { more = true } in
    asks_first _ a (c.in-Some.from, c.in-Some.to) c.next.new.self
    (inv.all ∙ ap (λ (l : List (ℕ × ℕ)). pairs_of c.loop-from.asked ++ l) c.in-Some.ensures.steps)
    (inv.filled.len ∙ c.if-asked-eq-MOST_PAIRS.true) inv.end refl

pub loop-from-preserved : goal.loop-from-preserved
loop-from-preserved c =
    let inv = c.loop-from.invariant in
    let a : Asked = c.loop-from.asked in
    let r : ℕ × ℕ = (c.in-Some.from, c.in-Some.to) in
    let at_most : a.count ≤ 32 = inv.filled.few in
    let other : a.count ≡ 32 → ⊥ = c.if-asked-eq-MOST_PAIRS.false in
    let few : a.count < 32 = omega arith in
    let size : length a.pairs ≡ 32 = inv.size in
    let low : a.count < length a.pairs = omega arith in
    let parts = all_parts (LiesIn c.args.start c.args.limit) r c.next.new.self _
    c.in-Some.ensures.steps inv.inside in
    record {
      all = all_with_one _ a r c.next.new.self low
          (inv.all ∙ ap (λ (l : List (ℕ × ℕ)). pairs_of c.loop-from.asked ++ l)
          c.in-Some.ensures.steps);
      end = end_with_one a r low;
      more = inv.more;
      filled = filled_with_one a r low few inv.filled;
      writable = λ large high. writable_with_one large a r c.args.start c.args.limit low (inv.writable large high) parts.0 high;
      size = length-set a.pairs a.count r ∙ inv.size;
      inside = parts.1;
    }

pub returns-clause-asks : goal.returns-clause-asks
returns-clause-asks c =
    let inv = c.loop-from.invariant in
    let at_most : c.loop-from.asked.count ≤ 32 = inv.filled.few in
    let len : length (pairs_of c.loop-from.asked) ≡ c.loop-from.asked.count = inv.filled.len in
    asks_all _ c.loop-from.asked
    (inv.all ∙ ap (λ (l : List (ℕ × ℕ)). pairs_of c.loop-from.asked ++ l) c.in-None.ensures.steps.0)
    (omega arith) inv.end inv.more
