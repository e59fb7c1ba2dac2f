use Rattle.std.proofs.Common.{◌≡◌, ℕ, List, [], ◌∷◌, length, vec_len, refl, sym, ◌∙◌, arith}
use Rattle.std.proofs.lemmas.Bool.{eqb-true}
use Rattle.transfer_journal.proofs.Noting.{held_on, held_still}
use Rattle.transfer_journal.proofs.facts.note_held.Goals as goal

none-left : (rs : List (ℕ × ℕ)) → length rs ≡ 0 → rs ≡ []
none-left [] h = refl
none-left (r ∷ rs) h = absurd (omega (arith, h))

pub returns-in_ok-push-in-Receives : goal.returns-in_ok-push-in-Receives
returns-in_ok-push-in-Receives c =
    let ranges = c.in_ok-ranges-in-Receives in
    held_on c.args.id c.args.receiver.now c.in-Receives.noted c.args.noted.now c.held.result.now ranges.ranges.items c.from_vec-ranges.result c.is_large-is_large.result c.new_ranges.new.noted c.args.out.now.items c.push.new.self.items (cc)
    c.held.ensures c.is_large-is_large.ensures c.in_ok-push-in-Receives.ensures.items c.from_vec-ranges.ensures ranges.ensures.ranges ranges.ensures.noted

pub returns-else-not-is_empty : goal.returns-else-not-is_empty
returns-else-not-is_empty c =
    let ranges = c.in_ok-ranges-in-Receives in
    let none : vec_len ranges.ranges ≡ 0 = eqb-true _ _ (sym c.is_empty.ensures ∙ c.if-not-is_empty.false) in
    held_still c.args.id c.args.receiver.now c.in-Receives.noted c.args.noted.now c.held.result.now ranges.ranges.items c.new_ranges.new.noted c.args.out.now.items (cc)
    c.held.ensures (none-left _ (omega (arith, ranges.ranges.ok.0))) ranges.ensures.ranges ranges.ensures.noted
