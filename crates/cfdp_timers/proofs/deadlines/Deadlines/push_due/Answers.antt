-- The four timers are added one by one.
use Rattle.std.proofs.Common.{◌≡◌, ℕ, List, ◌++◌, ap, sym, ◌∙◌, append_assoc}
use Rattle.cfdp_timers.specs.Order.{Timer}
use Rattle.cfdp_timers.proofs.Alarms.{due-alarms_of}
use Rattle.cfdp_timers.proofs.deadlines.Deadlines.push_due.Goals as goal

four : (x0 x1 x2 x3 x4 d0 d1 d2 d3 all : List (Timer × ℕ)) → x1 ≡ x0 ++ d0 → x2 ≡ x1 ++ d1 → x3 ≡ x2 ++ d2 → x4 ≡ x3 ++ d3 → all ≡ d0 ++ (d1 ++ (d2 ++ d3)) → x4 ≡ x0 ++ all
four x0 x1 x2 x3 x4 d0 d1 d2 d3 all e1 e2 e3 e4 e =
    e4 ∙ ap (λ l. l ++ d3) (e3 ∙ ap (λ l. l ++ d2) (e2 ∙ ap (λ l. l ++ d1) e1))
    ∙ append_assoc ((x0 ++ d0) ++ d1) d2 d3 ∙ append_assoc (x0 ++ d0) d1 (d2 ++ d3) ∙ append_assoc x0 d0 (d1 ++ (d2 ++ d3)) ∙ ap (λ l. x0 ++ l) (sym e)

pub returns-clause-ok : goal.returns-clause-ok
returns-clause-ok c = four _ _ _ _ _ _ _ _ _ _ c.in_ok-push_due.ensures.ok c.in_ok-push_due-2.ensures.ok c.in_ok-push_due-3.ensures.ok c.in_ok-push_due-4.ensures.ok
    (due-alarms_of c.args.now c.args.id c.args.self.now)
