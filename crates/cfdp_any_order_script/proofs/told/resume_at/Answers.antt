use Rattle.std.proofs.Common.{◌≡◌, Ok, refl, sym, subst}
use Rattle.std.proofs.lemmas.Result.{err_from_is_err_and}
use Rattle.any_order.specs.Refusing.{AnswersResume}
use Rattle.any_order.specs.World.{HasResumed, ResumesBy, WorldKept, side_of}
use Rattle.any_order.specs.declared.answers.Resumed.{Resumed}
use Rattle.any_order.specs.declared.answers.Resumed.TheVariants as resumed
use Rattle.cfdp_any_order_script.specs.Told.{AnswersNextLife, IsNoted, kept_of, station_of}
use Rattle.cfdp_any_order_script.proofs.Noted.{next_first_is, noted_as, noted_resumed, not_resumed, resumed_through, sources_on, stays_same}
use Rattle.cfdp_any_order_script.proofs.told.resume_at.Goals as goal
use Rattle.cfdp_any_order_script.proofs.told.resume_at.Goals.{In_default}

pub returns-in_err-lives-clause-happened : goal.returns-in_err-lives-clause-happened
returns-in_err-lives-clause-happened c =
    let p = err_from_is_err_and c.from_residual.result c.from_residual.ensures.1 in
    let w : WorldKept = c.args.world.now in
    let none = subst (λ r. ResumesBy r (side_of c.args.side) 0 0 w w × AnswersNextLife c.args.side 0 0 r w w) (sym p.1) (refl, (refl, tt)) in
    (0, 0, none.0, none.1)

pub returns-in_err-stores-clause-happened : goal.returns-in_err-stores-clause-happened
returns-in_err-stores-clause-happened c =
    let p = err_from_is_err_and c.from_residual-in_err-stores.result c.from_residual-in_err-stores.ensures.1 in
    let w : WorldKept = c.args.world.now in
    let none = subst (λ r. ResumesBy r (side_of c.args.side) 0 0 w w × AnswersNextLife c.args.side 0 0 r w w) (sym p.1) (refl, (refl, tt)) in
    (0, 0, none.0, none.1)

-- it resumed
done : (c : goal.After-before-1) → HasResumed (side_of c.args.side) c.unwrap_or-first.result c.unwrap_or-number.result c.args.world.now c.resume.new.self
done c = subst (λ (a : Resumed). ResumesBy (Ok a) (side_of c.args.side) c.unwrap_or-first.result c.unwrap_or-number.result c.args.world.now c.resume.new.self) c.in-Done.is c.in_ok-other.ensures.happened

pub returns-in-Done-clause-happened : goal.returns-in-Done-clause-happened
returns-in-Done-clause-happened c = (
  c.unwrap_or-first.result,
  c.unwrap_or-number.result,
  done c,
  (
    subst (λ (a : Resumed). AnswersResume c.unwrap_or-first.result c.unwrap_or-number.result (Ok a) (kept_of c.args.side c.args.world.now) (c.resume.new.self ≡ c.args.world.now)) c.in-Done.is c.in_ok-other.ensures.answers,
    next_first_is (kept_of c.args.side c.args.world.now) c.first_of.result _ c.first_of.ensures c.unwrap_or-first.ensures,
  ),
)

pub returns-in-Done-clause-noted : goal.returns-in-Done-clause-noted
returns-in-Done-clause-noted c = noted_as _ _ _ _ _ _ _ _ c.in_ok-lives.ensures refl refl
    (noted_resumed (station_of c.args.side) c.args.before.now.lives c.args.before.now.told.items c.args.before.now.completed (kept_of c.args.side c.args.world.now) (kept_of c.args.side c.resume.new.self)
    (c.show_resume.ensures (side_of c.args.side) _ _ c.resume.new.self (done c)).0 c.requires.noted)

pub returns-in-Done-clause-other : goal.returns-in-Done-clause-other
returns-in-Done-clause-other c = (resumed_through (side_of c.args.side) _ _ c.args.world.now c.resume.new.self c.show_resume.ensures (done c)).other

pub returns-in-Done-clause-sources : goal.returns-in-Done-clause-sources
returns-in-Done-clause-sources c = sources_on c.args.files.now c.args.world.now c.resume.new.self
    (resumed_through (side_of c.args.side) _ _ c.args.world.now c.resume.new.self c.show_resume.ensures (done c)).sources c.requires.sources

-- it didn't, and nothing changed
same : (c : In_default) → c.resume.new.self ≡ c.args.world.now
same c = not_resumed (side_of c.args.side) c.unwrap_or-first.result c.unwrap_or-number.result c.in_ok-other.other c.args.world.now c.resume.new.self c.in_ok-other.ensures.happened c.in_default.not-Done

pub returns-in_default-clause-happened : goal.returns-in_default-clause-happened
returns-in_default-clause-happened c = (
  c.unwrap_or-first.result,
  c.unwrap_or-number.result,
  c.in_ok-other.ensures.happened,
  (
    c.in_ok-other.ensures.answers,
    next_first_is (kept_of c.args.side c.args.world.now) c.first_of.result _ c.first_of.ensures c.unwrap_or-first.ensures,
  ),
)

pub returns-in_default-clause-noted : goal.returns-in_default-clause-noted
returns-in_default-clause-noted c =
    subst (λ (x : WorldKept). IsNoted (station_of c.args.side) c.args.before.now.lives c.args.before.now.told.items c.args.before.now.completed (kept_of c.args.side x)) (sym (same c)) c.requires.noted

pub returns-in_default-clause-other : goal.returns-in_default-clause-other
returns-in_default-clause-other c = (stays_same (side_of c.args.side) c.args.world.now c.resume.new.self (same c)).other

pub returns-in_default-clause-sources : goal.returns-in_default-clause-sources
returns-in_default-clause-sources c =
    sources_on c.args.files.now c.args.world.now c.resume.new.self (stays_same (side_of c.args.side) c.args.world.now c.resume.new.self (same c)).sources c.requires.sources
