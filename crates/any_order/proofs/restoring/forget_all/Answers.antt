use Rattle.std.proofs.Common.{◌≡◌, ℕ, true, List, ◌∷◌, refl, ap, subst, ◌∙◌}
use Rattle.cfdp_header.specs.declared.value.TransactionId.{TransactionId}
use Rattle.cfdp_extents.specs.Forgotten.{NumberSet, ids_of}
use Rattle.cfdp_entity.specs.Entity.{EntityState, is_forgotten}
use Rattle.any_order.proofs.Forgetting.{AreStill, IsNumber, WereForgotten, forgets-none, only-both, still-all, still-less, still-none, were-all, were-first, were-rest}
use Rattle.any_order.proofs.restoring.forget_all.Goals as goal

pub loop-source-init : goal.loop-source-init
loop-source-init g c =
    let killed : EntityState = c.args.killed.now.entity.state in
    let e : EntityState = c.args.station.now.entity.state in
    let is : ids_of c.into_iter-source-iterator.result ≡ killed.forgotten =
    ap ids_of c.into_iter-source-iterator.ensures.into_iter_gives ∙ c.forgotten-source-items.ensures in
    record {
      forgets = forgets-none (λ (id : TransactionId). is_forgotten killed id ≡ true) e e refl;
      still = still-all killed c.into_iter-source-iterator.result e is;
      were = were-all killed c.into_iter-source-iterator.result is;
      link = (refl, refl);
    }

pub loop-source-preserved : goal.loop-source-preserved
loop-source-preserved g c =
    let killed : EntityState = c.args.killed.now.entity.state in
    let source = c.in-Some.source.now in
    let numbers = c.in-Some.numbers.now in
    let rest : List (ℕ × NumberSet) = c.next.new.self in
    let inv = c.loop-source.invariant in
    let first : EntityState = c.args.station.now.entity.state in
    let mid : EntityState = c.loop-source.station.entity.state in
    let new : EntityState = c.forget_source.new.station.entity.state in
    let one = c.in_ok-forget_source.ensures in
    let still : AreStill killed ((source, numbers) ∷ rest) mid = subst (λ (l : List (ℕ × NumberSet)). AreStill killed l mid) c.in-Some.ensures.steps inv.still in
    let were : WereForgotten killed ((source, numbers) ∷ rest) = subst (λ (l : List (ℕ × NumberSet)). WereForgotten killed l) c.in-Some.ensures.steps inv.were in
    record {
      forgets = only-both (λ (id : TransactionId). is_forgotten killed id ≡ true) (IsNumber source numbers) (λ (id : TransactionId). is_forgotten killed id ≡ true) first mid new (λ id is. is)
          (were-first killed source numbers rest were) inv.forgets one.forgets;
      still = still-less killed source numbers rest mid new one.forgets.forgets one.all still;
      were = were-rest killed source numbers rest were;
      link = (one.link.0 ∙ inv.link.0, one.link.1 ∙ inv.link.1);
    }

pub returns-in_err-forget_source-clause-forgets : goal.returns-in_err-forget_source-clause-forgets
returns-in_err-forget_source-clause-forgets g c =
    let killed : EntityState = c.args.killed.now.entity.state in
    let source = c.in-Some.source.now in
    let numbers = c.in-Some.numbers.now in
    let rest : List (ℕ × NumberSet) = c.next.new.self in
    let inv = c.loop-source.invariant in
    let were : WereForgotten killed ((source, numbers) ∷ rest) = subst (λ (l : List (ℕ × NumberSet)). WereForgotten killed l) c.in-Some.ensures.steps inv.were in
    only-both (λ (id : TransactionId). is_forgotten killed id ≡ true) (IsNumber source numbers) (λ (id : TransactionId). is_forgotten killed id ≡ true) c.args.station.now.entity.state c.loop-source.station.entity.state
    c.forget_source.new.station.entity.state (λ id is. is) (were-first killed source numbers rest were) inv.forgets c.in_err-forget_source.ensures.forgets

pub returns-clause-all : goal.returns-clause-all
returns-clause-all g c =
    let killed : EntityState = c.args.killed.now.entity.state in
    let e : EntityState = c.loop-source.station.entity.state in
    still-none killed e (subst (λ (l : List (ℕ × NumberSet)). AreStill killed l e) c.in-None.ensures.steps.0 c.loop-source.invariant.still)
