use Rattle.std.proofs.Common.{◌≡◌, ℕ, ◌-◌, ◌<◌, true, sym, ap, subst, ◌∙◌, arith, true≢false}
use Rattle.std.specs.FinSet as set
use Rattle.cfdp_extents.proofs.CallerLemmas.{end-only}
use Rattle.cfdp_extents.specs.Forgotten.{NumberSet, greatest_number, with_greatest}
use Rattle.cfdp_extents.proofs.Greatest.{range-one, subset-one, other-number, insert-other, insert-greatest, below-more}
use Rattle.cfdp_extents.proofs.numbers.Numbers.insert.Goals as goal

pub invariant_of-self : goal.invariant_of-self
invariant_of-self c =
    let fits = c.in-Some.ensures.0 in
    let is : c.insert.new.self ≡ set.insert c.self.inside.ranges c.args.number
    = c.in_ok-insert-in-Some.ensures.ok ∙ range-one c.self.inside.ranges c.args.number c.in-Some.behind c.in-Some.ensures.1 in
    subst (λ (s : NumberSet). (k : ℕ) → set.contains s k ≡ true → k < greatest_number) (sym is)
    (below-more c.self.inside.ranges c.args.number (omega (arith, fits)) c.self.invariant)

pub returns-in_err-insert-in-Some-clause-held : goal.returns-in_err-insert-in-Some-clause-held
returns-in_err-insert-in-Some-clause-held c = λ held.
    let fits = c.in-Some.ensures.0 in
    let there : set.contains c.self.inside.ranges c.args.number ≡ true
    = sym (other-number c.self.inside.greatest c.self.inside.ranges c.args.number (omega (arith, fits))) ∙ ap (λ (s : NumberSet). set.contains s c.args.number) c.self.view_is ∙ held in
    absurd (true≢false (sym (c.in_err-insert-in-Some.ensures.held (subset-one c.self.inside.ranges c.args.number c.in-Some.behind c.in-Some.ensures.1 ∙ there)).0))

pub returns-in_ok-insert-in-Some-clause-ok : goal.returns-in_ok-insert-in-Some-clause-ok
returns-in_ok-insert-in-Some-clause-ok c =
    ap (with_greatest c.self.inside.greatest) (c.in_ok-insert-in-Some.ensures.ok ∙ range-one c.self.inside.ranges c.args.number c.in-Some.behind c.in-Some.ensures.1)
    ∙ insert-other c.self.inside.greatest c.self.inside.ranges c.args.number
    ∙ ap (λ (s : NumberSet). set.insert s c.args.number) c.self.view_is

pub returns-in-None-clause-ok : goal.returns-in-None-clause-ok
returns-in-None-clause-ok c =
    let past = c.in-None.ensures in
    let fits = c.ranges.number.fits in
    let is : c.args.number ≡ greatest_number = omega (arith, past, fits) in
    insert-greatest c.self.inside.greatest c.self.inside.ranges c.args.number is ∙ ap (λ (s : NumberSet). set.insert s c.args.number) c.self.view_is

pub returns-in_err-insert-in-Some-clause-next : goal.returns-in_err-insert-in-Some-clause-next
returns-in_err-insert-in-Some-clause-next c = λ all last.
    let fits = c.in-Some.ensures.0 in
    let ranges = c.self.inside.ranges in
    let below : (k : ℕ) → set.contains ranges k ≡ true → k < c.args.number = λ k held.
    all k (ap (λ (s : NumberSet). set.contains s k) (sym c.self.view_is) ∙ other-number c.self.inside.greatest ranges k (c.self.invariant k held) ∙ held) in
    let before = all (c.args.number - 1) last in
    let there : set.contains ranges (c.args.number - 1) ≡ true =
    sym (other-number c.self.inside.greatest ranges (c.args.number - 1) (omega (arith, fits, before))) ∙ ap (λ (s : NumberSet). set.contains s (c.args.number - 1)) c.self.view_is ∙ last in
    absurd (true≢false (sym (c.in_err-insert-in-Some.ensures.next (omega (arith, before)) (end-only ranges c.args.number below (λ pos. there)))))
