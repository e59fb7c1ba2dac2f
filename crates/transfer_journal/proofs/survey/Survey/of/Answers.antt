use Rattle.std.proofs.Common.{◌≡◌, ◌++◌, List, [], length, append-nil, refl, sym, ap, ◌∙◌, arith}
use Rattle.std.specs.List.{flat_map}
use Rattle.std.specs.Vec.Iter.{into_iter_items}
use Rattle.journal_records.specs.declared.record.JournalRecord.{JournalRecord}
use Rattle.transfer_journal.specs.Says.{all_say}
use Rattle.transfer_journal.specs.Survey.{known_of, owner_after, ranges_by}
use Rattle.transfer_journal.proofs.Taken.{gathers-first, gathers-more, nothing-left, one-less}
use Rattle.transfer_journal.proofs.survey.Survey.of.Goals as goal

pub loop-next-init : goal.loop-next-init
loop-next-init c =
    let gives = c.into_iter-next-iterator.ensures.into_iter_gives in
    record {
      len = omega (arith, ap length gives.0, gives.1, c.args.records.ok.0);
      gathers = gathers-first c.args.addressing c.args.records.items _ _ gives.0 refl refl c.new.ensures.empty c.new-2.ensures.items c.new-3.ensures.items;
    }

pub loop-next-preserved : goal.loop-next-preserved
loop-next-preserved c = record {
  len = one-less _ _ c.in-Some.next _ _ c.loop-next.invariant.len c.in-Some.ensures.steps.0 c.in-Some.ensures.steps.1;
  gathers = gathers-more c.args.addressing c.args.records.items _ _ c.in-Some.next c.loop-next.survey c.takes.new.self c.in-Some.ensures.steps.0 c.in_ok-takes.ensures c.loop-next.invariant.gathers;
}

pub returns : goal.returns
returns c =
    let none : into_iter_items c.loop-next.next-iterator ≡ [] = nothing-left _ _ c.loop-next.invariant.len c.in-None.ensures.steps.0 in
    let g = c.loop-next.invariant.gathers in
    record {
      says = λ id. sym (ap (λ (l : List JournalRecord). all_say c.args.addressing id l (known_of id c.loop-next.survey)) none) ∙ g.known id;
      owner = sym (ap (λ (l : List JournalRecord). owner_after c.loop-next.survey.owner l) none) ∙ g.owner;
      forgotten = sym (ap (λ (l : List JournalRecord). c.loop-next.survey.forgotten.items ++ flat_map ranges_by l) none ∙ append-nil c.loop-next.survey.forgotten.items) ∙ g.forgotten;
    }
