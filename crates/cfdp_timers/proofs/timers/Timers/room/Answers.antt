-- A new entry goes last, with no timer armed.
use Rattle.std.proofs.Common.{◌≡◌, true, false, true≢false, refl, Option, Some, None, is_some, sym, ap, ◌∙◌}
use Rattle.std.specs.FinSet as set
use Rattle.cfdp_timers.specs.declared.deadlines.Deadlines.{Deadlines}
use Rattle.cfdp_timers.proofs.CallerLemmas.{has_room-new, has_room-kept}
use Rattle.cfdp_timers.proofs.Kept.{has-room}
use Rattle.cfdp_timers.proofs.Written.{insert-present, state_of-pushed}
use Rattle.cfdp_timers.proofs.timers.Timers.room.Goals as goal

no_value : (o : Option Deadlines) → is_some o ≡ false → o ≡ None
no_value None e = refl
no_value (Some d) e = absurd (true≢false e)

pub returns-then-contains_key-clause-has_room : goal.returns-then-contains_key-clause-has_room
returns-then-contains_key-clause-has_room c =
    ap (λ state. set.contains state.roomy c.args.id) (sym c.self.view_is) ∙ sym (has-room c.self.inside.entries.entries c.args.id) ∙ sym c.contains_key.ensures ∙ c.if-contains_key.true

pub returns-then-contains_key-clause-ok : goal.returns-then-contains_key-clause-ok
returns-then-contains_key-clause-ok c =
    let there : set.contains c.args.self.now.roomy c.args.id ≡ true = returns-then-contains_key-clause-has_room c in
    ap (λ r. record { time = c.args.self.now.time; roomy = r; armed = c.args.self.now.armed }) (sym (insert-present _ c.args.id there))

pub returns-then-len-ge-MOST_TRANSACTIONS-clause-again : goal.returns-then-len-ge-MOST_TRANSACTIONS-clause-again
returns-then-len-ge-MOST_TRANSACTIONS-clause-again c = λ there.
    sym c.if-contains_key.false ∙ c.contains_key.ensures ∙ has-room c.self.inside.entries.entries c.args.id ∙ ap (λ state. set.contains state.roomy c.args.id) c.self.view_is ∙ there

pub add-requires-clause-absent : goal.add-requires-clause-absent
add-requires-clause-absent c = no_value _ (sym c.contains_key.ensures ∙ c.if-contains_key.false)

pub returns-in_err-add-clause-again : goal.returns-in_err-add-clause-again
returns-in_err-add-clause-again c = λ there.
    absurd (true≢false (sym there ∙ ap (λ state. set.contains state.roomy c.args.id) (sym c.self.view_is) ∙ sym (has-room c.self.inside.entries.entries c.args.id) ∙ sym c.contains_key.ensures
    ∙ c.if-contains_key.false))

pub returns-clause-ok : goal.returns-clause-ok
returns-clause-ok c =
    state_of-pushed c.self.inside.time c.self.inside.entries.entries c.add.new.entries.entries c.args.id _ refl c.in_ok-add.ensures.added
    ∙ ap (λ state. record { time = state.time; roomy = set.insert state.roomy c.args.id; armed = state.armed }) c.self.view_is

pub returns-clause-has_room : goal.returns-clause-has_room
returns-clause-has_room c = ap (λ state. set.contains state.roomy c.args.id) (returns-clause-ok c) ∙ has_room-new c.args.self.now.roomy c.args.id

pub returns-clause-keeps : goal.returns-clause-keeps
returns-clause-keeps c = λ other had. ap (λ state. set.contains state.roomy other) (returns-clause-ok c) ∙ has_room-kept c.args.self.now.roomy c.args.id other had
