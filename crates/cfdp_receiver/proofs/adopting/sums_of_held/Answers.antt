use Rattle.std.proofs.Common.{ℕ, List, ◌∷◌, Ok, refl, sym, ap, subst, ◌∙◌}
use Rattle.cfdp_directives.specs.declared.pdu.sums.Checksums.{Checksums}
use Rattle.cfdp_directives.specs.Pdu.Sums.{nothing_summed}
use Rattle.cfdp_store.specs.Staged.{OctetMap, staged_for}
use Rattle.cfdp_receiver.proofs.ReadAnew.{IsReadUpTo, read-first, read-to, in-range, read-range, read-ends}
use Rattle.cfdp_receiver.proofs.adopting.sums_of_held.Goals as goal

pub loop-start-init : goal.loop-start-init
loop-start-init g c =
    let wanted = c.args.wanted.now in
    let held = c.args.held.now in
    let m : OctetMap = staged_for (g.I.Inbox.staged c.args.inbox.now) c.args.id in
    let are = c.ranges-start-items.ensures.ranges in
    let first = read-first c.a_set_is_what_it_holds.ensures.ranges wanted held c.cut_file_has_its_checksum.ensures.none m c.ranges-start-items.result are.apart are.union in
    record {
      begun = c.requires.begun;
      room = refl;
      read =
          subst (λ (s : Checksums). IsReadUpTo wanted held m s c.into_iter-start-iterator.result) (sym c.new-sums.ensures.is)
          (subst (λ (rs : List (ℕ × ℕ)). IsReadUpTo wanted held m nothing_summed rs) (sym c.into_iter-start-iterator.ensures.into_iter_gives) first);
      others = λ other ne. refl;
      published = refl;
      failures = refl;
    }

pub loop-start-preserved : goal.loop-start-preserved
loop-start-preserved g c =
    let wanted = c.args.wanted.now in
    let held = c.args.held.now in
    let unions = c.a_set_is_what_it_holds.ensures.ranges in
    let r : ℕ × ℕ = (c.in-Some.start, c.in-Some.end) in
    let rest : List (ℕ × ℕ) = c.next.new.self in
    let m : OctetMap = staged_for (g.I.Inbox.staged c.loop-start.inbox) c.args.id in
    let inv = c.loop-start.invariant in
    let was : IsReadUpTo wanted held m c.loop-start.sums (r ∷ rest) = subst (λ (rs : List (ℕ × ℕ)). IsReadUpTo wanted held m c.loop-start.sums rs) c.in-Some.ensures.steps inv.read in
    let is = ap Ok c.if-not-branch.false in
    record {
      begun = c.in_ok-add_range.ensures.begun is;
      room = c.add_range.auto.buffer ∙ inv.room;
      read = read-range unions wanted held r rest was (c.in_ok-add_range.ensures.added is held (read-to unions wanted held r rest was) (in-range unions wanted held r rest was));
      others = λ other ne. c.in_ok-add_range.ensures.others other ne ∙ inv.others other ne;
      published = c.in_ok-add_range.ensures.published ∙ inv.published;
      failures = c.in_ok-add_range.ensures.failures ∙ inv.failures;
    }

pub returns-clause-adopted : goal.returns-clause-adopted
returns-clause-adopted g c =
    let m : OctetMap = staged_for (g.I.Inbox.staged c.loop-start.inbox) c.args.id in
    let inv = c.loop-start.invariant in
    read-ends {staged = g.I.Inbox.staged c.loop-start.inbox c.args.id} inv.begun refl
    (subst (λ (rs : List (ℕ × ℕ)). IsReadUpTo c.args.wanted.now c.args.held.now m c.loop-start.sums rs) c.in-None.ensures.steps.0 inv.read)
