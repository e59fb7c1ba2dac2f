use Rattle.std.proofs.Common.{refl, rules, ◌≡◌, ℕ, true, false, List, ◌++◌, sym, ap, ap₂, subst, ◌∙◌}
use denote.Enum.Bare.{same_true, sameb}
use Rattle.std.proofs.lemmas.Result.{err_from_is_err_and}
use Rattle.any_order.specs.contracts.answers.Restarted.{the_type}
use Rattle.any_order.specs.declared.answers.Restarted.{Restarted}
use Rattle.any_order.specs.declared.answers.Restarted.TheVariants as restarted
use Rattle.any_order.specs.World.{Happened, WorldKept, restart_calls, side_of}
use Rattle.cfdp_any_order_script.specs.declared.told.Before.{Before}
use Rattle.cfdp_any_order_script.specs.Told.{AnswersRestart, IsNoted, kept_of, station_of}
use Rattle.cfdp_any_order_script.proofs.Noted.{happened_none, next_first_is, not_started, noted_anew, noted_as, sources_on, started, stays_through}
use Rattle.cfdp_any_order_script.proofs.told.restart_at.Goals as goal
use Rattle.cfdp_any_order_script.proofs.told.restart_at.Goals.{then-eq, else-eq}

-- an answer that isn't one is another
is_other : (a : Restarted) → a ≡ restarted.Done → sameb the_type a restarted.Done ≡ false → ⊥
is_other a e other = let no : true ≡ false = subst (λ (x : Restarted). sameb the_type x restarted.Done ≡ false) e other in cc

pub returns-in_err-prepared-clause-happened : goal.returns-in_err-prepared-clause-happened
returns-in_err-prepared-clause-happened c =
    let p = err_from_is_err_and c.from_residual.result c.from_residual.ensures.1 in
    let w : WorldKept = c.args.world.now in
    let none = subst (λ r. Happened (side_of c.args.side) (restart_calls 0 0 r) w w × AnswersRestart c.args.side 0 0 r w w) (sym p.1) (happened_none (side_of c.args.side) w, (refl, tt)) in
    (0, 0, none.0, none.1)

pub returns-in_err-reserve-clause-happened : goal.returns-in_err-reserve-clause-happened
returns-in_err-reserve-clause-happened c =
    let p = err_from_is_err_and c.from_residual-in_err-reserve.result c.from_residual-in_err-reserve.ensures.1 in
    let w : WorldKept = c.args.world.now in
    let none = subst (λ r. Happened (side_of c.args.side) (restart_calls 0 0 r) w w × AnswersRestart c.args.side 0 0 r w w) (sym p.1) (happened_none (side_of c.args.side) w, (refl, tt)) in
    (0, 0, none.0, none.1)

pub returns-clause-happened : goal.returns-clause-happened
returns-clause-happened c = (
  c.unwrap_or-first.result,
  c.unwrap_or-number.result,
  c.in_ok-answer.ensures.happened,
  (
    c.in_ok-answer.ensures.answers,
    next_first_is (kept_of c.args.side c.args.world.now) c.first_of.result _ c.first_of.ensures c.unwrap_or-first.ensures,
  ),
)

pub returns-clause-noted : goal.returns-clause-noted
returns-clause-noted c = elim c.if-eq.branch [
  | then-eq w ↦
      let done : c.in_ok-answer.answer ≡ restarted.Done = same_true the_type (search rules) _ _ (sym c.eq.ensures ∙ w.if-eq.true) in
      let begins = started (side_of c.args.side) _ _ c.in_ok-answer.answer c.args.world.now c.restart.new.self c.show_start.ensures c.in_ok-answer.ensures.happened done in
      noted_as _ _ _ _ _ _ _ _ (ap (λ (b : Before). b.lives) w.before-is ∙ c.in_ok-prepared.ensures.lives)
      (ap (λ (b : Before). b.told.items) w.before-is ∙ (w.append_reserved.ensures ∙ ap₂ (λ (x y : List ℕ). x ++ y) c.in_ok-reserve.ensures.items w.as_slice.ensures.value))
      (ap (λ (b : Before). b.completed) w.before-is)
      (noted_anew (station_of c.args.side) c.args.before.now.lives c.args.before.now.told.items c.in_ok-prepared.prepared.told.items c.args.before.now.completed c.in_ok-prepared.prepared.completed
      (kept_of c.args.side c.args.world.now) (kept_of c.args.side c.restart.new.self) begins c.requires.noted c.in_ok-prepared.ensures.told c.in_ok-prepared.ensures.completed)
  | else-eq w ↦
      let other : sameb the_type c.in_ok-answer.answer restarted.Done ≡ false = sym c.eq.ensures ∙ w.if-eq.false in
      let same : c.restart.new.self ≡ c.args.world.now = not_started _ _ c.in_ok-answer.answer _ _ c.in_ok-answer.ensures.answers (λ e. is_other c.in_ok-answer.answer e other) in
      noted_as _ _ _ _ _ _ _ _ (ap (λ (b : Before). b.lives) w.before-is) (ap (λ (b : Before). b.told.items) w.before-is ∙ c.in_ok-reserve.ensures.items) (ap (λ (b : Before). b.completed) w.before-is)
      (subst (λ (x : WorldKept). IsNoted (station_of c.args.side) c.args.before.now.lives c.args.before.now.told.items c.args.before.now.completed (kept_of c.args.side x)) (sym same) c.requires.noted)
]

pub returns-clause-other : goal.returns-clause-other
returns-clause-other c = (stays_through (side_of c.args.side) _ _ c.in_ok-answer.answer c.args.world.now c.restart.new.self c.show_start.ensures c.in_ok-answer.ensures.happened c.in_ok-answer.ensures.answers).other

pub returns-clause-sources : goal.returns-clause-sources
returns-clause-sources c = sources_on c.args.files.now c.args.world.now c.restart.new.self
    (stays_through (side_of c.args.side) _ _ c.in_ok-answer.answer c.args.world.now c.restart.new.self c.show_start.ensures c.in_ok-answer.ensures.happened c.in_ok-answer.ensures.answers).sources c.requires.sources
