use Rattle.std.proofs.Common.{◌≤◌, refl, sym, ap, subst, ◌∙◌, length, slice_get}
use Rattle.cfdp_timers.specs.Armed.{TimersState}
use Rattle.cfdp_store.specs.Rereading.{RereadsIf}
use Rattle.cfdp_store.specs.declared.stored.Stored.TheVariants.{Done}
use Rattle.cfdp_entity.specs.Desk.{desk_lent, on_desk}
use Rattle.cfdp_entity.specs.Roomy.{Roomy}
use Rattle.cfdp_entity.specs.Whole.{id_of}
use Rattle.cfdp_entity.specs.Does.{taking}
use Rattle.cfdp_entity.specs.Found.{found_at, found_in}
use Rattle.cfdp_entity.specs.declared.record.Gave.TheVariants.{Octets}
use Rattle.cfdp_entity.specs.Gives.{Gives, CountsOutbox, stored_by_gave}
use Rattle.cfdp_entity.specs.Table.{taken_at, len_at, data_at, len_due, octets_due, data_due}
use Rattle.cfdp_entity.proofs.Entries.{may-step, within, whole-step, state-step, state-nowhere, here, no_entry}
use Rattle.cfdp_entity.proofs.Lent.{whole-lent}
use Rattle.cfdp_entity.proofs.table.Table.send.Goals as goal

pub send-gave-requires-clause-ready : goal.send-gave-requires-clause-ready
send-gave-requires-clause-ready g c = may-step c.self.inside.gone (on_desk g.O.Outbox g.I.Inbox c.self.inside.desk) c.self.inside.records.entries c.self.inside.ready c.args.place c.self.invariant c.in-Some.held.now
    (sym c.in-Some.ensures.value)
    (subst (λ (v : Roomy). 3 ≤ v.spare) (sym c.self.view_is) c.requires.room)

pub set-requires : goal.set-requires
set-requires g c = record {
  within = within c.self.inside.gone (on_desk g.O.Outbox g.I.Inbox c.self.inside.desk) c.self.inside.records.entries c.self.inside.ready c.args.place c.self.invariant c.in-Some.held.now
      (sym c.in-Some.ensures.value);
}

pub invariant_of-self : goal.invariant_of-self
invariant_of-self g c =
    let old = on_desk g.O.Outbox g.I.Inbox c.self.inside.desk in
    let new = on_desk g.O.Outbox g.I.Inbox c.send-gave.new.self in
    whole-step c.self.inside.gone (desk_lent new old) c.self.inside.records.entries c.self.inside.ready c.args.place
    (whole-lent _ old new c.self.inside.records.entries c.self.inside.ready c.send-gave.ensures.shows c.self.invariant) c.in-Some.held.now
    (sym c.in-Some.ensures.value) new _ c.send-gave.new.held refl c.send-gave.ensures.stays
    (ap (λ (t : TimersState). t.roomy) c.send-gave.ensures.sent.made.timers)
    c.is_due.result (c.is_due.ensures (g.I.Inbox.staged c.send-gave.new.self.inbox (id_of c.in-Some.held.now))) c.set.new.self c.set.ensures

pub send-gave-requires-clause-fits : goal.send-gave-requires-clause-fits
send-gave-requires-clause-fits g c = subst (λ n. n ≤ length c.args.out.now)
    (ap (λ (v : Roomy). len_at c.args.place v.state) (sym c.self.view_is) ∙ ap (len_due (g.O.Outbox.files c.self.inside.desk.outbox))
    (here c.self.inside.gone (on_desk g.O.Outbox g.I.Inbox c.self.inside.desk) c.self.inside.records.entries c.self.inside.ready c.args.place c.self.invariant c.in-Some.held.now (sym c.in-Some.ensures.value)))
    c.requires.fits

pub send-gave-requires-clause-due : goal.send-gave-requires-clause-due
send-gave-requires-clause-due g c = c.requires.due ∙ ap (λ (v : Roomy). found_at c.args.place v.state) (sym c.self.view_is)
    ∙ ap found_in (here c.self.inside.gone (on_desk g.O.Outbox g.I.Inbox c.self.inside.desk) c.self.inside.records.entries c.self.inside.ready c.args.place c.self.invariant c.in-Some.held.now
    (sym c.in-Some.ensures.value))

pub returns-in-Some-clause-sends : goal.returns-in-Some-clause-sends
returns-in-Some-clause-sends g c =
    let old = on_desk g.O.Outbox g.I.Inbox c.self.inside.desk in
    let new = on_desk g.O.Outbox g.I.Inbox c.send-gave.new.self in
    let entries = c.self.inside.records.entries in
    let lent = desk_lent new old in
    let whole = whole-lent _ old new entries c.self.inside.ready c.send-gave.ensures.shows c.self.invariant in
    let there = here c.self.inside.gone old entries c.self.inside.ready c.args.place c.self.invariant c.in-Some.held.now (sym c.in-Some.ensures.value) in
    record {
      state = state-step c.self.inside.gone lent entries c.self.inside.ready c.args.place whole c.in-Some.held.now
          (sym c.in-Some.ensures.value) new _ c.send-gave.new.held refl c.send-gave.ensures.stays
          (taking (stored_by_gave c.send-gave.result)) c.send-gave.ensures.sent.made
          ∙ ap (λ (v : Roomy). taken_at (stored_by_gave c.send-gave.result) c.args.place (record v.state { sources = new.sources; stands = new.stands })) c.self.view_is;
      gives = subst (λ (v : Roomy). Gives (octets_due new.sources (slice_get v.state.records c.args.place)) (len_due new.sources (slice_get v.state.records c.args.place)) c.send-gave.result
          c.args.out.now c.send-gave.new.out) c.self.view_is
          (subst (λ e. Gives (octets_due new.sources e) (len_due new.sources e) c.send-gave.result c.args.out.now c.send-gave.new.out) (sym there) c.send-gave.ensures.sent.gives);
      carries = λ failed. ap (λ (v : Roomy). data_at c.args.place v.state) (sym c.self.view_is) ∙ ap data_due there ∙ c.send-gave.ensures.sent.carries failed;
      counts = subst (λ (v : Roomy). CountsOutbox (stored_by_gave c.send-gave.result) v.outbox_failures (g.O.Outbox.failures c.send-gave.new.self.outbox)) c.self.view_is c.send-gave.ensures.sent.counts;
      inbox = c.send-gave.ensures.sent.inbox ∙ ap (λ (v : Roomy). v.inbox_failures) c.self.view_is;
    }

pub returns-in-Some-clause-shows : goal.returns-in-Some-clause-shows
returns-in-Some-clause-shows g c =
    let old = on_desk g.O.Outbox g.I.Inbox c.self.inside.desk in
    let new = on_desk g.O.Outbox g.I.Inbox c.send-gave.new.self in
    let there = here c.self.inside.gone old c.self.inside.records.entries c.self.inside.ready c.args.place c.self.invariant c.in-Some.held.now (sym c.in-Some.ensures.value) in
    subst (λ (v : Roomy). RereadsIf (data_at c.args.place v.state) v.state.stands new.stands v.state.sources new.sources) c.self.view_is
    (subst (λ o. RereadsIf (data_due o) old.stands new.stands old.sources new.sources) (sym there) c.send-gave.ensures.shows)

pub returns-in-None-clause-sends : goal.returns-in-None-clause-sends
returns-in-None-clause-sends g c =
    let old = on_desk g.O.Outbox g.I.Inbox c.self.inside.desk in
    record {
      state = state-nowhere c.self.inside.gone old c.self.inside.records.entries c.self.inside.ready c.args.place (taking Done) c.in-None.ensures.value
          ∙ ap (λ (v : Roomy). taken_at Done c.args.place (record v.state { sources = old.sources; stands = old.stands })) c.self.view_is;
      gives = subst (λ (v : Roomy). Gives (octets_due old.sources (slice_get v.state.records c.args.place)) (len_due old.sources (slice_get v.state.records c.args.place)) (Octets 0) c.args.out.now
          c.args.out.now) c.self.view_is
          (subst (λ e. Gives (octets_due old.sources e) (len_due old.sources e) (Octets 0) c.args.out.now c.args.out.now)
          (sym (no_entry (g.I.Inbox.staged c.self.inside.desk.inbox) c.self.inside.records.entries c.args.place c.in-None.ensures.value)) (refl, record { front = refl; behind = refl }));
      carries = λ failed. absurd (cc);
      counts = ap (λ (v : Roomy). v.outbox_failures) c.self.view_is;
      inbox = ap (λ (v : Roomy). v.inbox_failures) c.self.view_is;
    }

pub returns-in-None-clause-shows : goal.returns-in-None-clause-shows
returns-in-None-clause-shows g c =
    let old = on_desk g.O.Outbox g.I.Inbox c.self.inside.desk in
    let none = no_entry (g.I.Inbox.staged c.self.inside.desk.inbox) c.self.inside.records.entries c.args.place c.in-None.ensures.value in
    subst (λ (v : Roomy). RereadsIf (data_at c.args.place v.state) v.state.stands old.stands v.state.sources old.sources) c.self.view_is
    (subst (λ b. RereadsIf b old.stands old.stands old.sources old.sources) (sym (ap data_due none)) (refl, refl))
