use Rattle.std.proofs.Common.{◌++◌, ◌∷◌, [], refl, ap, ◌∙◌}
use Rattle.any_order.proofs.Leading.{makes_put_then, makes_refused, makes_same, puts_more}
use Rattle.any_order.proofs.world.put_at.Goals as goal

pub returns-in_default-clause-makes : goal.returns-in_default-clause-makes
returns-in_default-clause-makes g c d theirs = makes_same d _ theirs _ _ refl

pub returns-then-is_err-clause-makes : goal.returns-then-is_err-clause-makes
returns-then-is_err-clause-makes g c d theirs = rw (c.reserve.ensures.items) (makes_same d _ theirs _ _ refl)

pub returns-in-Err-clause-makes : goal.returns-in-Err-clause-makes
returns-in-Err-clause-makes g c d theirs = rw (c.reserve.ensures.items) (makes_refused d _ theirs _ _ c.in-Err.ensures.err c.in-Err.ensures.link c.in-Err.ensures.only)

pub returns-in-Ok-put-clause-makes : goal.returns-in-Ok-put-clause-makes
returns-in-Ok-put-clause-makes g c d theirs =
    let e = c.in-Ok-put.ensures in
    makes_put_then c.args.source.now c.args.destination.now c.in-Ok-put.id d _ theirs _ _ _
    (puts_more _ _ _ _ _ (c.push_reserved.ensures.items ∙ ap (λ l. l ++ c.in-Ok.taken ∷ []) c.reserve.ensures.items) c.in-Ok.ensures) e.accepted e.link e.only
