use Rattle.std.proofs.Common.{ℕ, List, ◌∷◌, refl, sym, ap, subst, ◌∙◌}
use Rattle.cfdp_entity.specs.Entity.{Counted, EntityState}
use Rattle.any_order.proofs.Forgetting.{AreAmong, AreLeft, IsNumber, all-left, among-all, among-first, among-rest, forgets-none, left-less, left-none, only-both, range-forgets}
use Rattle.any_order.proofs.restoring.forget_source.Goals as goal

pub loop-start-init : goal.loop-start-init
loop-start-init g c =
    let source = c.args.source in
    let numbers = c.args.numbers.now in
    let e : EntityState = c.args.station.now.entity.state in
    let gives = c.into_iter-start-iterator.ensures.into_iter_gives in
    let are = c.ranges-start-items.ensures in
    record {
      forgets = forgets-none (IsNumber source numbers) e e refl;
      left = subst (λ (rs : List (ℕ × ℕ)). AreLeft source numbers rs e) (sym gives) (all-left source numbers c.ranges-start-items.result e (sym c.contains.ensures ∙ c.if-contains.false) are.union);
      among = subst (λ (rs : List (ℕ × ℕ)). AreAmong numbers rs) (sym gives) (among-all numbers c.ranges-start-items.result are.union);
      link = (refl, refl);
    }

pub loop-start-preserved : goal.loop-start-preserved
loop-start-preserved g c =
    let source = c.args.source in
    let numbers = c.args.numbers.now in
    let r : ℕ × ℕ = (c.in-Some.start, c.in-Some.end) in
    let rest : List (ℕ × ℕ) = c.next.new.self in
    let inv = c.loop-start.invariant in
    let first : EntityState = c.args.station.now.entity.state in
    let mid : EntityState = c.loop-start.station.entity.state in
    let new : EntityState = c.restore_forgotten.new.self.entity.state in
    let one = c.in_ok-restore_forgotten.ensures in
    let is = ap (λ (x : Counted). x.state) one.restored in
    let left : AreLeft source numbers (r ∷ rest) mid = subst (λ (rs : List (ℕ × ℕ)). AreLeft source numbers rs mid) c.in-Some.ensures.steps inv.left in
    let among : AreAmong numbers (r ∷ rest) = subst (λ (rs : List (ℕ × ℕ)). AreAmong numbers rs) c.in-Some.ensures.steps inv.among in
    record {
      forgets = only-both (IsNumber source numbers) (IsNumber source numbers) (IsNumber source numbers) first mid new (λ id is. is) (λ id is. is) inv.forgets
          (range-forgets source numbers r mid new is (among-first numbers r rest among));
      left = left-less source numbers r rest mid new is left;
      among = among-rest numbers r rest among;
      link = (one.link.0 ∙ inv.link.0, one.link.1 ∙ inv.link.1);
    }

pub returns-clause-all : goal.returns-clause-all
returns-clause-all g c =
    let e : EntityState = c.loop-start.station.entity.state in
    left-none c.args.source c.args.numbers.now e
    (subst (λ (rs : List (ℕ × ℕ)). AreLeft c.args.source c.args.numbers.now rs e) c.in-None.ensures.steps.0 c.loop-start.invariant.left)
