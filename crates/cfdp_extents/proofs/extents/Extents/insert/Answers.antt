use Rattle.std.proofs.Common.{◌≡◌, ◌<◌, ◌-◌, ◌∙◌, ℕ, List, Option, None, Some, IsOk, refl, sym, ap, subst, arith}
use Rattle.std.specs.FinSet.{contains, union}
use Rattle.cfdp_extents.specs.Offsets.{AreApart, union_of, range}
use Rattle.cfdp_extents.specs.Ranges.{turned, with_last}
use Rattle.cfdp_extents.proofs.Joined.{union-nothing, union-held}
use Rattle.cfdp_extents.proofs.Inserted.{joined-apart, joined-union, touched_held}
use Rattle.cfdp_extents.specs.Terms.{end_of}
use Rattle.cfdp_extents.proofs.Taken.{none-held}
use Rattle.cfdp_extents.proofs.CallerLemmas.{end-only}
use Rattle.cfdp_extents.proofs.Last.{before-end, either_way, end-held, is_ok-and, last-some, no-last, on_ok, same_whole}
use Rattle.cfdp_extents.proofs.extents.Extents.insert.Goals as goal

pub returns-then-start-end-clause-ok : goal.returns-then-start-end-clause-ok
returns-then-start-end-clause-ok c = union-nothing c.args.self.now c.args.start c.args.end c.if-start-end.true

pub invariant_of-self : goal.invariant_of-self
invariant_of-self c =
    let some : c.args.start < c.args.end = grind (arith, c.requires, c.if-start-end.false) in
    let xs : List (ℕ × ℕ) = with_last (turned c.self.inside.ranges.entries) c.self.inside.last in
    let apart : AreApart (with_last (turned c.join.new.ranges.entries) c.join.new.last) =
    either_way c.join.result
    (λ is. subst AreApart (sym is) (joined-apart c.args.start c.args.end xs some c.self.invariant.0))
    (λ es l. subst AreApart (sym (same_whole c.join.new.ranges.entries c.self.inside.ranges.entries c.join.new.last c.self.inside.last es l)) c.self.invariant.0)
    c.join.ensures.ok c.join.ensures.err c.join.ensures.err_last in
    (apart, c.join.ensures.none)

pub returns-clause-ok : goal.returns-clause-ok
returns-clause-ok c =
    let some : c.args.start < c.args.end = grind (arith, c.requires, c.if-start-end.false) in
    let xs : List (ℕ × ℕ) = with_last (turned c.self.inside.ranges.entries) c.self.inside.last in
    on_ok c.join.result (λ is. ap union_of is ∙ joined-union c.args.start c.args.end xs some c.self.invariant.0
    ∙ ap (λ held. union held (range c.args.start c.args.end)) c.self.view_is) c.join.ensures.ok

pub returns-clause-held : goal.returns-clause-held
returns-clause-held c held =
    let some : c.args.start < c.args.end = grind (arith, c.requires, c.if-start-end.false) in
    let xs : List (ℕ × ℕ) = with_last (turned c.self.inside.ranges.entries) c.self.inside.last in
    let done = is_ok-and c.join.result (returns-clause-ok c) c.join.ensures.touched (λ u. touched_held c.args.start c.args.end xs c.args.self.now some c.self.invariant.0 c.self.view_is held u) in
    (done.0, done.1 ∙ union-held c.args.self.now c.args.start c.args.end held)

pub returns-clause-next : goal.returns-clause-next
returns-clause-next c = λ pos at. by pos at c.self.inside.last refl
  where
    xs : List (ℕ × ℕ)
    xs = turned c.self.inside.ranges.entries

    by : 0 < c.args.start → c.args.start ≡ end_of c.args.self.now → (o : Option (ℕ × ℕ)) → c.self.inside.last ≡ o → IsOk c.join.result
    by pos at None is =
        let none : 0 ≡ end_of c.args.self.now = end-only c.args.self.now 0
        (λ n held. absurd (none-held (with_last xs c.self.inside.last) (no-last c.self.inside.ranges.entries c.self.inside.last is c.self.invariant.1) n (ap (λ s. contains s n) c.self.view_is ∙ held)))
        (λ p. absurd (omega arith)) in
        absurd (omega (arith, pos, at, none))
    by pos at (Some r) is =
        let end : r.1 ≡ end_of c.args.self.now = end-only c.args.self.now r.1
        (λ n held. before-end xs c.self.inside.last r n c.self.invariant.0 is (ap (λ s. contains s n) c.self.view_is ∙ held))
        (λ p. ap (λ s. contains s (r.1 - 1)) (sym c.self.view_is) ∙ end-held xs c.self.inside.last r c.self.invariant.0 is) in
        let there : r.1 ≡ c.args.start = end ∙ sym at in
        let some : r.0 < r.1 = last-some xs r (subst (λ o. AreApart (with_last xs o)) is c.self.invariant.0) in
        c.join.ensures.next r.0 (is ∙ ap (λ e. Some (r.0, e)) there) (omega (arith, there, some))
