-- The last entry takes the index of the one that is found.
use Rattle.std.proofs.Common.{◌≡◌, ◌<◌, ◌-◌, ◌/◌, length, slice_get, swap_remove, Option, None, Some, false, is_some, true≢false, cond, refl, sym, ap, subst, ◌∙◌, arith, IfSome}
use Rattle.std.proofs.lemmas.Option.{slice_get_within}
use Rattle.indexmap.specs.IndexMap.{Updates}
use Rattle.cfdp_header.specs.declared.value.TransactionId.{TransactionId}
use Rattle.cfdp_header.specs.contracts.value.TransactionIdPartialEq.TheImpl.{eq-value}
use Rattle.cfdp_header.proofs.Ids.{id_eq, id_laws}
use Rattle.cfdp_timers.specs.declared.deadlines.Deadlines.{Deadlines}
use Rattle.cfdp_timers.specs.Entries.{AreBounds, deadlines_in, others_of, next_of, lowered}
use Rattle.cfdp_timers.proofs.Kept.{by_id}
use Rattle.cfdp_timers.proofs.LetGo.{others-swapped, bounds-swapped}
use Rattle.cfdp_timers.proofs.Replaced.{found-entry, length-others_of}
use Rattle.cfdp_timers.proofs.entries.take_out.Goals as goal

-- what is said of the entry that was there
if_some : {X : Type 0} (P : X → Type 0) (o : Option X) (x : X) → o ≡ Some x → IfSome o P → P x
if_some P o x is h = subst (λ r. IfSome r P) is h

no_value : (o : Option Deadlines) → is_some o ≡ false → o ≡ None
no_value None e = refl
no_value (Some d) e = absurd (true≢false e)

pub swap_remove-requires : goal.swap_remove-requires
swap_remove-requires c =
    let es = c.args.entries.now.entries in
    let place = c.in-Some.place in
    let at : slice_get es place ≡ Some (c.args.id, deadlines_in es place) = found-entry es c.args.id place (sym c.in-Some.ensures.index) in
    let many : length c.args.others.now ≡ length es = ap length c.requires.others ∙ length-others_of es in
    let below : place < length es = slice_get_within es place (c.args.id, deadlines_in es place) at in
    record { within = omega (arith, many, below) }

pub returns-clause-found : goal.returns-clause-found
returns-clause-found c = λ q.
    let es = c.args.entries.now.entries in
    let place = c.in-Some.place in
    let at : slice_get es place ≡ Some (c.args.id, deadlines_in es place) = found-entry es c.args.id place (sym c.in-Some.ensures.index) in
    let updates = if_some (λ (p : TransactionId × Deadlines). Updates (eq-value).it c.args.entries.now c.swap_remove_index.new.self p.0 None) c.swap_remove_index.result (c.args.id, deadlines_in es place) (c.swap_remove_index.ensures.entry ∙ at) c.swap_remove_index.ensures.updates in
    sym (by_id c.swap_remove_index.new.self.entries q) ∙ updates.0 q
    ∙ (λ i. cond ((id_eq c.args.id q ∙ id_laws.symm c.args.id q) i) None (by_id es q i))

pub returns-clause-others : goal.returns-clause-others
returns-clause-others c =
    let es = c.args.entries.now.entries in
    let place = c.in-Some.place in
    let at : slice_get es place ≡ Some (c.args.id, deadlines_in es place) = found-entry es c.args.id place (sym c.in-Some.ensures.index) in
    let is = if_some (λ (p : TransactionId × Deadlines). c.swap_remove_index.new.self.entries ≡ swap_remove es place p) c.swap_remove_index.result (c.args.id, deadlines_in es place) (c.swap_remove_index.ensures.entry ∙ at) c.swap_remove_index.ensures.entries in
    let below : place < length es = slice_get_within es place (c.args.id, deadlines_in es place) at in
    c.swap_remove.ensures ∙ ap (λ l. swap_remove l place None) c.requires.others ∙ others-swapped es place (c.args.id, deadlines_in es place) below ∙ sym (ap others_of is)

pub returns-clause-bounds : goal.returns-clause-bounds
returns-clause-bounds c =
    let es = c.args.entries.now.entries in
    let place = c.in-Some.place in
    let at : slice_get es place ≡ Some (c.args.id, deadlines_in es place) = found-entry es c.args.id place (sym c.in-Some.ensures.index) in
    let is = if_some (λ (p : TransactionId × Deadlines). c.swap_remove_index.new.self.entries ≡ swap_remove es place p) c.swap_remove_index.result (c.args.id, deadlines_in es place) (c.swap_remove_index.ensures.entry ∙ at) c.swap_remove_index.ensures.entries in
    let below : place < length es = slice_get_within es place (c.args.id, deadlines_in es place) at in
    let bound : c.lower.new.self ≡ lowered c.args.bounds.now (place / 64) (next_of (deadlines_in es (length es - 1)))
    = c.lower.ensures ∙ ap (lowered c.args.bounds.now (place / 64)) (c.earliest_at-moved.ensures ∙ ap (λ n. next_of (deadlines_in es (n - 1))) c.len.ensures.len) in
    subst (λ fs. AreBounds fs c.lower.new.self) (sym is)
    (subst (λ b. AreBounds (swap_remove es place (c.args.id, deadlines_in es place)) b) (sym bound) (bounds-swapped es c.args.bounds.now place (c.args.id, deadlines_in es place) below c.requires.bounds))
