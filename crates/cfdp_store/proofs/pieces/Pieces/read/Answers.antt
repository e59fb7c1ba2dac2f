use Rattle.std.proofs.Common.{◌+◌, Some, IsSome, sym, subst, refl, ap, ◌∙◌, inl, inr, arith}
use Rattle.std.specs.Prelude.{get_or, set}
use Rattle.std.proofs.lemmas.Bool.Decides.{eqb_tells}
use Rattle.std.proofs.lemmas.List.{get_or-set_same, get_or-set_other}
use Rattle.std.specs.FinMap.{get}
use Rattle.cfdp_store.proofs.PieceLemmas.{written-same}
use Rattle.cfdp_store.proofs.pieces.Pieces.read.Goals as goal

pub loop-at-init : goal.loop-at-init
loop-at-init c = λ k h. absurd (omega arith)

pub loop-at-preserved : goal.loop-at-preserved
loop-at-preserved c = λ k h. elim (eqb_tells k c.loop-at.at) [
  | inl t ↦ ap (λ j. get c.args.self.now (c.args.offset + j)) t.1
      ∙ sym c.octet_at.ensures ∙ c.in-Some.is
      ∙ ap Some (sym (get_or-set_same c.loop-at.out c.loop-at.at c.in-Some.octet 0 (omega (arith, c.loop-at-test.true, c.loop-at.auto.out))))
      ∙ ap (λ j. Some (get_or (set c.loop-at.out c.loop-at.at c.in-Some.octet) j 0)) (sym t.1)
  | inr t ↦ c.loop-at.invariant k (omega (arith, h, t.1)) ∙ ap Some (sym (get_or-set_other c.loop-at.out c.loop-at.at k c.in-Some.octet 0 t.1))
]

pub returns-clause-whole : goal.returns-clause-whole
returns-clause-whole c = λ is. written-same c.args.self.now c.args.offset c.loop-at.out (λ k h. c.loop-at.invariant k (omega (arith, h, c.loop-at-test.false, c.loop-at.auto.out)))

pub returns-clause-staged : goal.returns-clause-staged
returns-clause-staged c = λ is k h. subst IsSome (sym (c.loop-at.invariant k (omega (arith, h, c.loop-at-test.false, c.loop-at.auto.out)))) refl
