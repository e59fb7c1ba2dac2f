-- What a PDU leaves of a receiver that still receives: more is known and held, and the file is
-- delivered once all is there.
use Rattle.std.proofs.Common.{◌≡◌, ◌⊎◌, inl, inr, ℕ, ◌==◌, ◌&&◌, ◌||◌, not, Bool, true, false, List, [], ◌∷◌, length, Option, Some, None, is_some, refl, sym, ap, ◌∙◌, if◌then◌else◌}
use Rattle.std.specs.Prelude.{IfSome}
use Rattle.std.specs.FinMap as map
use Rattle.std.specs.FinSet as set
use Rattle.std.proofs.lemmas.Bool.{false≢true, both_ways, cond_both, and_from, or_parts, or_left, or_right}
use Rattle.cfdp_header.specs.Files.{FileMap}
use Rattle.cfdp_header.specs.declared.value.TransactionId.{TransactionId}
use Rattle.cfdp_header.specs.Ids.{same_id}
use Rattle.cfdp_directives.specs.declared.user.indication.Indication.{Indication}
use Rattle.cfdp_directives.specs.declared.user.indication.Indication.TheVariants as indication
use Rattle.cfdp_directives.specs.Pdu.Codes.{filestore_rejection, file_checksum_failure, inactivity}
use Rattle.cfdp_directives.specs.Pdu.Content.{Content}
use Rattle.cfdp_directives.specs.User.Put.{Put}
use Rattle.cfdp_extents.specs.Offsets.{range}
use Rattle.cfdp_store.specs.declared.stored.Stored.{Stored}
use Rattle.cfdp_store.specs.declared.stored.Stored.TheVariants.{Done, Refused}
use Rattle.cfdp_store.specs.Staged.{OctetMap, front}
use Rattle.cfdp_receiver.specs.declared.state.ReceiverPhase.TheVariants.{Receiving}
use Rattle.cfdp_receiver.specs.declared.state.FileInfo.{FileInfo}
use Rattle.cfdp_receiver.specs.declared.state.Ending.{Ending}
use Rattle.cfdp_receiver.specs.Missing.{missing_pairs, is_empty, cursor_by, tidied}
use Rattle.cfdp_receiver.specs.Sound.{is_whole, is_done, asks_from, is_tidy}
use Rattle.cfdp_receiver.specs.State.{ReceiverState, is_receiving, is_finishing}
use Rattle.cfdp_receiver.specs.Steps.{ReceiverAfter, leaving, telling, ends, complete, failed, faulted, agrees, published_by, completed_by, completed}
use Rattle.cfdp_entity.proofs.Entries.{same_id-itself}
use Rattle.link_sim.specs.Exchange.{is_metadata, is_eof, brings, once_ended, has_ended, if_ended, has_finished, finishes, is_closed_in, is_closed, owes_ack, tells_complete}
use Rattle.link_sim.specs.Waiting.{spoils, one_tells}
use Rattle.link_sim.proofs.Course.Steps.{Advances}

pub tidied-tidy : (r : ReceiverState) → is_tidy (tidied r) ≡ true
tidied-tidy r = from r.nak_cursor
  where
    from : (cursor : Option ℕ) → asks_from (cursor_by cursor r) (tidied r) ≡ true
    from (Some at) = cond_both (is_empty (missing_pairs at r)) None (Some at) (λ o. asks_from o (tidied r) ≡ true) (λ _. refl) (λ some. ap not some)
    from None = refl

-- a fault other than inactivity spoils the transaction
pub fault-spoils : (id of : TransactionId) (condition : ℕ) (more : List Indication) → of ≡ id → (condition == inactivity) ≡ false → one_tells (spoils id) (indication.Fault of condition ∷ more)
    ≡ false → ⊥
fault-spoils id of condition more own other good =
    both_ways (same_id id of && not (condition == inactivity)) (or_parts (same_id id of && not (condition == inactivity)) (one_tells (spoils id) more) good).0
    (and_from (same_id id of) (not (condition == inactivity)) (same_id-itself id of (sym own)) (ap not other))

-- ---- while it receives
-- what is known and held once a PDU was taken in, before the completion test
pub record Gains (put : Put) (v : Content) (r r1 : ReceiverState) : Type 0 where
  pub phase : r1.phase ≡ Receiving
  pub own : r1.addressing.id ≡ put.id
  pub active : r.suspended ≡ false → r1.suspended ≡ false
  pub heard : is_some r1.ending ≡ true → (is_some r.ending ≡ true) ⊎ (is_eof v ≡ true)
  pub acks : (owes_ack r ≡ true) ⊎ (is_eof v ≡ true) → owes_ack r1 ≡ true
  pub ack_new : owes_ack r1 ≡ true → (owes_ack r ≡ true) ⊎ (is_eof v ≡ true)
  pub ending_is : IfSome r1.ending (λ e. e.size ≡ length put.octets)
  pub metadata : (is_some r.metadata ≡ true) ⊎ (is_metadata v ≡ true) → is_some r1.metadata ≡ true
  pub ending : (is_some r.ending ≡ true) ⊎ (is_eof v ≡ true) → is_some r1.ending ≡ true
  pub held : (n : ℕ) → (set.contains r.held n ≡ true) ⊎ (brings n v ≡ true) → set.contains r1.held n ≡ true

module _ (put : Put) (v : Content) (r : ReceiverState) (is : r.phase ≡ Receiving) where
  -- what a test of a receiver that receives comes to
  at_receiving : (b : Bool) → once_ended r.phase b ≡ b
  at_receiving b = ap (λ p. once_ended p b) is

  not_ended : has_ended r ≡ true → ⊥
  not_ended h = both_ways (has_ended r) (at_receiving false) h

  not_finished : has_finished r ≡ true → ⊥
  not_finished h = both_ways (has_finished r) (ap (λ p. if_ended p r.finished_taken) is) h

  not_closed : is_closed r ≡ true → ⊥
  not_closed h = both_ways (is_closed r) (ap is_closed_in is) h

  -- after a step that spoils nothing
  abbrev pub After : ReceiverAfter → Type 0
  After a = one_tells (spoils put.id) a.told ≡ false → Advances put v r (tidied a.receiver) a.told

  -- something is still missing
  pub gains-waits : (m : OctetMap) (files : FileMap) (r1 : ReceiverState) → Gains put v r r1 → is_whole r1.metadata r1.ending r1.held ≡ false → After (leaving m files r1)
  gains-waits m files r1 g missing good = record {
    clean = record {
      ending = λ _. g.ending_is;
      lacking = or_right (not (is_receiving r1.phase)) (not (is_whole r1.metadata r1.ending r1.held)) (ap not missing);
      tidy = tidied-tidy r1;
      well = ap (λ p. is_receiving p || is_done r1.outcome) g.phase;
      owes = ap (λ p. not (is_finishing p) || ((r1.finished_due || r1.finished_taken) && is_some r1.outcome)) g.phase;
    };
    metadata = λ h. now (is_some r1.metadata) (g.metadata (was (is_some r.metadata) (is_metadata v) h));
    ending = λ h. now (is_some r1.ending) (g.ending (was (is_some r.ending) (is_eof v) h));
    held = λ n h. now (set.contains r1.held n) (g.held n (was (set.contains r.held n) (brings n v) h));
    ended = λ h. absurd (not_ended h);
    finished = λ h. absurd (not_finished h);
    due = λ h. absurd (both_ways (finishes r1) (ap is_finishing g.phase) h);
    closes = λ h. absurd (both_ways (is_closed r1) (ap is_closed_in g.phase) h);
    closed = λ h. elim h [ inl c ↦ absurd (not_closed c) | inr c ↦ absurd (not_finished c.1) ];
    tells = λ h. absurd (both_ways (has_ended r1) (ap (λ p. once_ended p false) g.phase) h);
    active = g.active;
    heard = λ h. elim (g.heard (sym (ap (λ p. once_ended p (is_some r1.ending)) g.phase) ∙ h)) [ inl old ↦ inl (at_receiving (is_some r.ending) ∙ old) | inr new ↦ inr new ];
    acks = g.acks;
    ack_new = g.ack_new;
  }
    where
      was : (b c : Bool) → (once_ended r.phase b ≡ true) ⊎ (c ≡ true) → (b ≡ true) ⊎ (c ≡ true)
      was b c (inl h) = inl (sym (at_receiving b) ∙ h)
      was b c (inr h) = inr h

      now : (b : Bool) → b ≡ true → once_ended r1.phase b ≡ true
      now b h = ap (λ p. once_ended p b) g.phase ∙ h

  -- all is there
  gains-ends : (m : OctetMap) (files : FileMap) (r1 : ReceiverState) → Gains put v r r1 → is_some r1.ending ≡ true → After (ends complete m files r1)
  gains-ends m files r1 g known good = record {
    clean = record { ending = λ e. cc; lacking = refl; tidy = refl; well = refl; owes = refl };
    metadata = λ _. refl;
    ending = λ _. refl;
    held = λ n _. refl;
    ended = λ _. refl;
    finished = λ h. absurd (not_finished h);
    due = λ _. inl refl;
    closes = λ h. absurd (false≢true h);
    closed = λ h. elim h [ inl c ↦ absurd (not_closed c) | inr c ↦ absurd (not_finished c.1) ];
    tells = λ _. inr (or_left (same_id put.id r1.addressing.id && true) false (and_from (same_id put.id r1.addressing.id) true (same_id-itself put.id r1.addressing.id (sym g.own)) refl));
    active = λ _. refl;
    heard = λ _. elim (g.heard known) [ inl old ↦ inl (at_receiving (is_some r.ending) ∙ old) | inr new ↦ inr new ];
    acks = g.acks;
    ack_new = g.ack_new;
  }

  pub faults-not : (condition : ℕ) (m : OctetMap) (files : FileMap) (r1 : ReceiverState) → r1.addressing.id ≡ put.id → (condition == inactivity) ≡ false → After (faulted condition m files r1)
  faults-not condition m files r1 own other good = absurd (fault-spoils put.id r1.addressing.id condition (ends (failed condition) m files r1).told own other good)

  publishes : (stored : Stored) (info : FileInfo) (ending : Ending) (m : OctetMap) (files : FileMap) (r1 : ReceiverState) → Gains put v r r1 → is_some r1.ending ≡ true →
      After (published_by stored info ending m files r1)
  publishes Done info ending m files r1 g known = gains-ends m (map.insert files info.destination (front m ending.size)) r1 g known
  publishes Refused info ending m files r1 g known = faults-not filestore_rejection m files r1 g.own refl

  completes-by : (stored : Stored) (m : OctetMap) (files : FileMap) (r1 : ReceiverState) (info : Option FileInfo) (ending : Option Ending) → Gains put v r r1 → r1.metadata ≡ info → r1.ending
      ≡ ending → After (completed_by stored info ending m files r1)
  completes-by stored m files r1 (Some info) (Some ending) g named known =
      cond_both (set.is_subset (range 0 ending.size) r1.held)
      (if agrees info ending r1.sums then published_by stored info ending m files r1 else faulted file_checksum_failure m files r1) (leaving m files r1) After
      (λ _. cond_both (agrees info ending r1.sums) (published_by stored info ending m files r1) (faulted file_checksum_failure m files r1) After
      (λ _. publishes stored info ending m files r1 g (ap is_some known))
      (λ _. faults-not file_checksum_failure m files r1 g.own refl))
      (λ gap. gains-waits m files r1 g (ap (λ i. is_whole i r1.ending r1.held) named ∙ ap (λ e. is_whole (Some info) e r1.held) known ∙ gap))
  completes-by stored m files r1 (Some info) None g named known = gains-waits m files r1 g (ap (λ i. is_whole i r1.ending r1.held) named ∙ ap (λ e. is_whole (Some info) e r1.held) known)
  completes-by stored m files r1 None ending g named known = gains-waits m files r1 g (ap (λ i. is_whole i r1.ending r1.held) named)

  pub completes : (stored : Stored) (m : OctetMap) (files : FileMap) (r1 : ReceiverState) → Gains put v r r1 → After (completed stored m files r1)
  completes stored m files r1 g = completes-by stored m files r1 r1.metadata r1.ending g refl refl

  -- an indication first that says nothing of an end
  pub telling-first : (i : Indication) (a : ReceiverAfter) → spoils put.id i ≡ false → After a → After (telling (i ∷ []) a)
  telling-first i a none h good =
      let rest : one_tells (spoils put.id) a.told ≡ false = (or_parts (spoils put.id i) (one_tells (spoils put.id) a.told) good).1 in
      let was : Advances put v r (tidied a.receiver) a.told = h rest in
      record {
        clean = was.clean;
        metadata = was.metadata;
        ending = was.ending;
        held = was.held;
        ended = was.ended;
        finished = was.finished;
        due = was.due;
        closes = was.closes;
        closed = was.closed;
        tells = λ e. elim (was.tells e) [ inl before ↦ inl before | inr told ↦ inr (or_right (tells_complete put.id i) (one_tells (tells_complete put.id) a.told) told) ];
        active = was.active;
        heard = was.heard;
        acks = was.acks;
        ack_new = was.ack_new;
      }
