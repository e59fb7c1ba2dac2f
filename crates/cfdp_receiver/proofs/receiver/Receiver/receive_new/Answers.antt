use Rattle.std.proofs.Common.{◌∙◌, ◌+◌, ◌≤◌, length, sym, ap, subst, arith, rules, inl, refl}
use Rattle.cfdp_directives.specs.Pdu.Codes.{size_limit}
use Rattle.cfdp_directives.proofs.FileSizes.{limit_low}
use Rattle.cfdp_receiver.specs.Does.{at}
use Rattle.cfdp_receiver.specs.State.{ReceiverState}
use Rattle.std.specs.FinSet.{contains}
use Rattle.cfdp_extents.specs.Offsets.{Offsets}
use Rattle.cfdp_receiver.proofs.Held.{held_with, held_below_with}
use Rattle.cfdp_receiver.proofs.StagedLemmas.{keeps_unheld, ready_staged}
use Rattle.cfdp_store.specs.Staged.{staged_for}
use Rattle.cfdp_receiver.specs.Limit.{KeepsLimit}
use Rattle.cfdp_receiver.proofs.Chains.{made-level, stops-stage}
use Rattle.cfdp_receiver.proofs.Limited.{none-keeps, admitted-keeps, completed-keeps}
use Rattle.cfdp_receiver.proofs.receiver.Receiver.receive_new.Goals as goal

pub returns-in_err-insert-in-Done-clause-keeps : goal.returns-in_err-insert-in-Done-clause-keeps
returns-in_err-insert-in-Done-clause-keeps g c =
    keeps_unheld _ (at g.I.Inbox c.args.self.now c.args.effects.now c.args.inbox.now) _ c.insert.new.self
    (g.I.Inbox.published c.stage.new.inbox) (g.I.Inbox.staged c.stage.new.inbox) (g.I.Inbox.failures c.stage.new.inbox) _ c.args.offset c.args.bytes.now
    c.self.view_is c.in_err-insert-in-Done.ensures.err c.stage.ensures.files
    (made-level g.I.Inbox.steps g.I.Inbox.failures c.self.inside.addressing.id _ c.args.inbox.now c.stage.new.inbox (c.stage.ensures.writes (search rules)))
    (c.stage.ensures.staged (search rules)) c.missing_in-gaps.ensures.gaps c.missing_in-gaps.ensures.inside

pub returns-in_err-insert-in-Done-clause-kept : goal.returns-in_err-insert-in-Done-clause-kept
returns-in_err-insert-in-Done-clause-kept g c = record {
  addressing = search rules;
  ready = ready_staged (g.I.Inbox.staged c.args.inbox.now) (g.I.Inbox.staged c.stage.new.inbox)
      c.args.self.now _ _ _
      c.args.offset c.args.bytes.now c.self.view_is c.requires.ready.ready c.requires.ready.receiving refl
      (c.stage.ensures.staged (search rules)) c.missing_in-gaps.ensures.gaps
      c.missing_in-gaps.ensures.inside
      (λ n h. inl (sym (ap (λ (s : Offsets). contains s n) c.in_err-insert-in-Done.ensures.err) ∙ h));
  others = search rules;
  grows = search rules;
  lets_go = search rules;
}

pub invariant_of-self-in-Done : goal.invariant_of-self-in-Done
invariant_of-self-in-Done g c = record {
  addressing_fits = c.self.invariant.addressing_fits;
  suspended_receives = c.self.invariant.suspended_receives;
  held_below = λ n h. held_below_with _ c.self.inside.held c.insert.new.self c.args.offset _ n
      c.in_ok-insert-in-Done.ensures.ok c.self.invariant.held_below
      (subst (λ (r : ReceiverState). c.args.offset + length c.args.bytes.now ≤ size_limit r.large)
      (sym c.self.view_is) c.requires.fits) h;
  size_below = c.self.invariant.size_below;
  cursor_below = c.self.invariant.cursor_below;
}

pub complete-requires : goal.complete-requires
complete-requires g c = record {
  ready = record {
    receiving = search rules;
    ready = ready_staged (g.I.Inbox.staged c.args.inbox.now) (g.I.Inbox.staged c.stage.new.inbox)
        c.args.self.now _ _ _
        c.args.offset c.args.bytes.now c.self.view_is c.requires.ready.ready c.requires.ready.receiving refl
        (c.stage.ensures.staged (search rules)) c.missing_in-gaps.ensures.gaps
        c.missing_in-gaps.ensures.inside
        (λ n h. held_with c.self.inside.held c.args.offset _ n
        (sym (ap (λ (s : Offsets). contains s n) c.in_ok-insert-in-Done.ensures.ok) ∙ h));
    room = search rules;
  };
}

pub returns-in-Refused-clause-calls : goal.returns-in-Refused-clause-calls
returns-in-Refused-clause-calls g c =
    stops-stage g.I.Inbox.steps g.I.Inbox.failures c.args.self.now _ c.self.view_is c.args.offset
    c.args.bytes.now c.fault.new.self _ c.args.inbox.now c.stage.new.inbox c.fault.new.inbox
    c.missing_in-gaps.ensures.is (c.stage.ensures.fails (search rules)) c.fault.ensures.lets_go.calls

pub overflow_add-end : goal.overflow_add-end
overflow_add-end g c = omega (arith, c.requires.fits, limit_low c.args.self.now.large)

pub stage-requires-clause-fits : goal.stage-requires-clause-fits
stage-requires-clause-fits g c = omega (arith, c.requires.fits, limit_low c.args.self.now.large)

pub sums_with-sums-requires : goal.sums_with-sums-requires
sums_with-sums-requires g c = record { fits = omega (arith, c.requires.fits, limit_low c.args.self.now.large) }

pub returns-in_ok-insert-in-Done-clause-bounded : goal.returns-in_ok-insert-in-Done-clause-bounded
returns-in_ok-insert-in-Done-clause-bounded g c = λ keeps.
    completed-keeps c.args.most_gaps c.complete.result (staged_for (g.I.Inbox.staged c.stage.new.inbox) c.self.inside.addressing.id) (g.I.Inbox.published c.stage.new.inbox)
    (record {
      addressing = c.self.inside.addressing;
      large = c.self.inside.large;
      phase = c.self.inside.phase;
      suspended = c.self.inside.suspended;
      metadata = c.self.inside.metadata;
      ending = c.self.inside.ending;
      held = c.insert.new.self;
      sums = c.sums_with-sums.result;
      ack_due = c.self.inside.ack_due;
      nak_cursor = c.self.inside.nak_cursor;
      keep_alive_due = c.self.inside.keep_alive_due;
      finished_due = c.self.inside.finished_due;
      finished_taken = c.self.inside.finished_taken;
      outcome = c.self.inside.outcome;
      nak_count = 0;
      finished_count = c.self.inside.finished_count;
    })
    c.complete.new.self c.complete.ensures.advances.does.receiver
    (admitted-keeps c.args.most_gaps c.self.inside.held c.insert.new.self c.args.offset (c.args.offset + length c.args.bytes.now)
    c.in_ok-insert-in-Done.ensures.ok
    (sym c.if-not-is_admitted.false ∙ c.is_admitted.ensures)
    (subst (λ (r : ReceiverState). KeepsLimit c.args.most_gaps r.held) (sym c.self.view_is) keeps))

pub returns-in-Refused-clause-bounded : goal.returns-in-Refused-clause-bounded
returns-in-Refused-clause-bounded g c = λ keeps. none-keeps c.args.most_gaps c.fault.new.self.held (ap (λ (r : ReceiverState). r.held) c.fault.ensures.receiver)
