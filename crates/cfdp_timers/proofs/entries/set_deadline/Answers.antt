-- The entry that is found is written, and the index beside it.
use Rattle.std.proofs.Common.{◌≡◌, ◌<◌, length, set, get_or, Option, None, Some, is_some, false, true≢false, slice_get, refl, sym, ap, subst, ◌∙◌, arith}
use Rattle.std.specs.List.{IsDistinct}
use Rattle.std.specs.Map.{keys_of, lookup}
use Rattle.std.specs.Ordering.{eq_by_cmp}
use Rattle.std.proofs.lemmas.Option.{slice_get_within}
use Rattle.cfdp_header.specs.Ids.{id_cmp}
use Rattle.cfdp_header.proofs.Ids.{id_laws}
use Rattle.std.proofs.lemmas.Map.Entries.{lookup_from_place}
use Rattle.cfdp_timers.specs.declared.deadlines.Deadlines.{Deadlines}
use Rattle.indexmap.specs.IndexMap.{set_value_at}
use Rattle.cfdp_timers.specs.Entries.{AreBounds, deadlines_in, other_of, others_of, with_deadline}
use Rattle.cfdp_timers.proofs.Bounded.{block-within, bounds-written}
use Rattle.cfdp_timers.proofs.Written.{with_timer-absent, armed_of-written}
use Rattle.cfdp_timers.proofs.Replaced.{keys-replaced, lookup-replaced, found-entry, others_of-replaced, others_of-at, length-others_of}
use Rattle.cfdp_timers.proofs.entries.set_deadline.Goals as goal

no_value : (o : Option Deadlines) → is_some o ≡ false → o ≡ None
no_value None e = refl
no_value (Some d) e = absurd (true≢false e)

pub returns-in_default-clause-armed : goal.returns-in_default-clause-armed
returns-in_default-clause-armed c =
    sym (with_timer-absent c.args.entries.now.entries c.args.id c.args.kind c.args.deadline c.requires.distinct (no_value _ (sym c.in_default.ensures.found)) c.requires.room)

pub set_other-requires : goal.set_other-requires
set_other-requires c =
    let es = c.args.entries.now.entries in
    let place = c.in-Some.place in
    let d = deadlines_in es place in
    let at : slice_get es place ≡ Some (c.args.id, d) = found-entry es c.args.id place (sym c.in-Some.ensures.index) in
    let many : length c.args.others.now ≡ length es = ap length c.requires.others ∙ length-others_of es in
    let below : place < length es = slice_get_within es place (c.args.id, d) at in
    record {
      within = omega (arith, many, below);
      same = λ is.
          ap (λ l. get_or l place None) c.requires.others ∙ others_of-at es place c.args.id d at
          ∙ sym (ap other_of c.write-deadlines.ensures.deadlines ∙ ap (λ k. other_of (with_deadline d k c.args.deadline)) is);
    }

pub lower-requires : goal.lower-requires
lower-requires c =
    let es = c.args.entries.now.entries in
    let place = c.in-Some.place in
    let at : slice_get es place ≡ Some (c.args.id, deadlines_in es place) = found-entry es c.args.id place (sym c.in-Some.ensures.index) in
    record { within = block-within es c.args.bounds.now place c.args.kind c.args.deadline (slice_get_within es place (c.args.id, deadlines_in es place) at) c.requires.bounds }

pub returns : goal.returns
returns c =
    let es = c.args.entries.now.entries in
    let fs = c.write-deadlines.new.entries.entries in
    let place = c.in-Some.place in
    let d = deadlines_in es place in
    let w = with_deadline d c.args.kind c.args.deadline in
    let at : slice_get es place ≡ Some (c.args.id, d) = found-entry es c.args.id place (sym c.in-Some.ensures.index) in
    let keys : keys_of fs ≡ keys_of es = ap keys_of c.write-deadlines.ensures.entries ∙ keys-replaced es place w in
    let had : lookup (eq_by_cmp id_cmp c.args.id) es ≡ Some d = lookup_from_place id_laws es place c.args.id d c.requires.distinct at in
    record {
      keys = keys;
      armed = armed_of-written es fs c.args.id c.args.kind d w c.args.deadline c.requires.distinct (subst (λ ks. IsDistinct (eq_by_cmp id_cmp) ks) (sym keys) c.requires.distinct) had refl
          (λ q. ap (lookup (eq_by_cmp id_cmp q)) c.write-deadlines.ensures.entries ∙ lookup-replaced es place c.args.id d w q c.requires.distinct at);
      others = c.set_other.ensures ∙ ap (λ l. set l place (other_of c.write-deadlines.result)) c.requires.others ∙ ap (λ w. set (others_of es) place (other_of w)) c.write-deadlines.ensures.deadlines
          ∙ sym (ap others_of c.write-deadlines.ensures.entries ∙ others_of-replaced es place w);
      bounds = subst (λ l. AreBounds l c.lower.new.self) (sym c.write-deadlines.ensures.entries) (subst (λ b. AreBounds (set_value_at es place w) b) (sym c.lower.ensures)
          (bounds-written es c.args.bounds.now place c.args.kind c.args.deadline (slice_get_within es place (c.args.id, d) at) c.requires.bounds));
    }
