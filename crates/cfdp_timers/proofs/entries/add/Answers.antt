-- All have one more index.
use Rattle.std.proofs.Common.{[], ◌∷◌, ◌++◌, None, sym, ap, subst, ◌∙◌}
use Rattle.cfdp_timers.specs.Entries.{AreBounds, others_of}
use Rattle.cfdp_timers.proofs.Bounded.{bounds-pushed}
use Rattle.cfdp_timers.proofs.Replaced.{others_of-push}
use Rattle.cfdp_timers.proofs.entries.add.Goals as goal

pub returns-clause-others : goal.returns-clause-others
returns-clause-others c =
    c.in_ok-push.ensures.ok ∙ ap (λ l. l ++ None ∷ []) (c.requires.others ∙ ap others_of (sym c.reserve.ensures.entries))
    ∙ sym (ap others_of c.insert.ensures.added ∙ others_of-push c.reserve.new.self.entries c.args.id)

pub returns-clause-bounds : goal.returns-clause-bounds
returns-clause-bounds c =
    subst (λ es. AreBounds es c.cover.new.bounds) (sym c.insert.ensures.added)
    (bounds-pushed c.reserve.new.self.entries c.args.id c.cover.new.bounds c.in_ok-cover.ensures.bounds c.in_ok-cover.ensures.room)
