-- What a step of a machine does to its record.
use Rattle.std.proofs.Common.{◌≡◌, ℕ, ◌∷◌, [], Bool, true, false, ◌&&◌, ◌==◌, List, Option, Some, None, Result, Ok, Err, OnOk, OnErr, IfOk, take, arith, length, ◌≤◌, refl, sym, ap, subst, ◌∙◌, if◌then◌else◌}
use Rattle.std.specs.Prelude.{◌≢◌, replicate, ◌+◌, ◌-◌, ◌^◌, max, unwrap_or, nat_lt, min, IsSome}
use Rattle.std.specs.FinMap as map
use Rattle.std.specs.FinMap.{empty}
use Rattle.std.specs.FinSet as set
use Rattle.std.proofs.lemmas.List.{append-nil, length-replicate}
use Rattle.cfdp_header.specs.declared.value.TransactionId.{TransactionId}
use Rattle.cfdp_header.specs.Files.{FileMap}
use Rattle.cfdp_directives.specs.declared.pdu.addressing.Addressing.{Addressing}
use Rattle.cfdp_directives.specs.declared.user.limits.Times.{Times}
use Rattle.cfdp_directives.specs.declared.user.policy.Policy.{Policy}
use Rattle.cfdp_directives.specs.declared.pdu.codes.Acknowledged.{Acknowledged}
use Rattle.cfdp_directives.specs.declared.pdu.codes.TransactionStatus.{TransactionStatus}
use Rattle.cfdp_directives.specs.declared.pdu.codes.Acknowledged.TheVariants as acknowledged
use Rattle.cfdp_directives.specs.Pdu.Content.{Content, FileData, Metadata, Eof, Finished, Ack, Nak, Prompt, KeepAlive}
use Rattle.cfdp_store.specs.declared.stored.Stored.{Stored}
use Rattle.cfdp_store.specs.Staged.{OctetMap, OthersKeep, staged_for}
use Rattle.cfdp_timers.specs.declared.effects.Effects.{Effects}
use Rattle.cfdp_timers.specs.Armed.{TimersState}
use Rattle.cfdp_receiver.specs.Does.{Scene, Kept, KeptAlone}
use Rattle.cfdp_timers.specs.Effects.{HasRoom}
use Rattle.cfdp_timers.specs.Waits.{waited}
use Rattle.cfdp_receiver.specs.declared.state.ReceiverPhase.{ReceiverPhase}
use Rattle.cfdp_receiver.specs.declared.state.ReceiverPhase.TheVariants as phase
use Rattle.cfdp_receiver.specs.State.{ReceiverState, flagged, is_receiving, IsReady}
use Rattle.cfdp_receiver.specs.Steps as receiver
use Rattle.cfdp_receiver.specs.Does as receiver_does
use Rattle.cfdp_sender.specs.State.{SenderState, transfer_of}
use Rattle.cfdp_sender.specs.declared.phase.SenderPhase.{SenderPhase}
use Rattle.cfdp_sender.specs.declared.phase.SenderPhase.TheVariants.{Sending, Cancelling, Closed}
use Rattle.cfdp_sender.specs.declared.due.SenderDue.{SenderDue}
use Rattle.cfdp_sender.specs.declared.due.SenderDue.TheVariants as due
use Rattle.cfdp_extents.specs.Offsets.{range}
use Rattle.cfdp_directives.specs.Pdu.Codes.{no_error, is_large}
use Rattle.cfdp_directives.specs.User.Policy.{finished_told, another_try}
use Rattle.cfdp_directives.specs.declared.user.handler.Handler.{Handler}
use Rattle.cfdp_directives.specs.declared.user.handler.Handler.TheVariants.{Cancel, Suspend, Ignore, Abandon}
use Rattle.cfdp_store.specs.declared.stored.Stored.TheVariants.{Done, Refused}
use Rattle.cfdp_timers.specs.declared.kind.Kind.{Kind}
use Rattle.cfdp_timers.specs.declared.kind.Kind.TheVariants as kind
use Rattle.cfdp_sender.specs.Steps as sender
use Rattle.cfdp_sender.specs.Does as sender_does
use Rattle.cfdp_sender.proofs.OwnFile.{GoesOn, own-after, says-unsent, on-ack, on-asks_in, on-asks_all, never, on-cancels, on-suspends, on-resumes, on-prompts, on-expiry, on-sends}
use Rattle.cfdp_entity.specs.declared.request.Request.{Request}
use Rattle.cfdp_entity.specs.declared.request.Request.TheVariants as call
use Rattle.cfdp_entity.specs.declared.record.Record.{Record}
use Rattle.cfdp_entity.specs.declared.record.Record.TheVariants as held
use Rattle.cfdp_entity.specs.Seen.{Seen, Sends, seen, octets_seen, due_octets, due_len, due_content, addressing_of, large_of, octets_of, len_of, carries_data}
use Rattle.cfdp_entity.specs.Seen as seens
use Rattle.cfdp_entity.specs.Steps.{After, by_sender, by_receiver, no_step, sender_after, receiver_after, called_sender, sender_takes, receiver_takes}
use Rattle.cfdp_entity.specs.Desk.{Staged, DeskState, scene}
use Rattle.cfdp_entity.specs.Does.{Does, Made, Keeps, Stays, SenderDoes, SenderKeeps, ReceiverDoes, ReceiverKeeps, ReceiverTook, ReceiverAcks, Asked, hearing, expiring, calling, taking, seen_as, found}
use Rattle.cfdp_entity.specs.Storing.{AsksAs, AsksHeard}
use Rattle.cfdp_entity.specs.Whole.{MayStep}
use Rattle.cfdp_entity.proofs.Masked.{Masks, masks-metadata, masks-data, masks-eof, masks-ack, masks-prompt, masks-takes}
use Rattle.cfdp_entity.proofs.Entries.{ready-sender, sender-ready, ready-receiver, receiver-ready}
use Rattle.cfdp_entity.specs.declared.record.Gave.TheVariants.{Octets, Failed}
use Rattle.cfdp_entity.specs.Gives.{Gives}
use Rattle.cfdp_sender.specs.declared.taken.Taken.{Taken}
use Rattle.cfdp_sender.specs.declared.taken.Taken.TheVariants.{Nothing, Moved, SourceFailed}
use Rattle.cfdp_sender.specs.declared.transfer.Transfer.{Transfer}
use Rattle.cfdp_sender.specs.Due.{carries_by, sender_due, sender_says}
use Rattle.std.specs.Option.{option_map}
use Rattle.cfdp_directives.specs.Pdu.Addressing.{written_len}
use Rattle.cfdp_receiver.specs.declared.due.Due.{Due}
use Rattle.cfdp_receiver.specs.Due.{receiver_due}
use Rattle.cfdp_sender.specs.Does.{HasFile, HasFileWhile, HasOwnFile}
use Rattle.cfdp_store.specs.Files.{octets_in}
use Rattle.cfdp_store.specs.Chains.{Raises}
use Rattle.cfdp_store.specs.Stores.{Counts}

-- ---- a receiver
is_it : (p : ReceiverPhase) → is_receiving p ≡ true → p ≡ phase.Receiving
is_it phase.Receiving h = refl
is_it phase.Finishing h = absurd (cc)
is_it phase.Closed h = absurd (cc)

-- how a receiver is seen that a step left so
pub seen-after : (a : receiver.ReceiverAfter) (r : ReceiverState) (id : TransactionId) (staged : Staged) → r ≡ a.receiver → r.addressing.id ≡ id
    → (a.receiver.phase ≡ phase.Receiving → staged a.receiver.addressing.id ≡ Some a.octets) → seen (staged id) (held.Receives r) ≡ seens.Receives a.receiver (octets_seen a.receiver a.octets)
seen-after a r id staged is same octets_are =
    let id_now : a.receiver.addressing.id ≡ id = ap (λ (x : ReceiverState). x.addressing.id) (sym is) ∙ same in
    let octets : octets_seen a.receiver (staged_for staged id) ≡ octets_seen a.receiver a.octets =
    elim (is_receiving a.receiver.phase) as (λ b. is_receiving a.receiver.phase ≡ b → (if b then staged_for staged id else empty) ≡ (if b then a.octets else empty)) [
      | true ↦ λ h. ap (staged_for staged) (sym id_now) ∙ ap (λ o. unwrap_or o empty) (octets_are (is_it a.receiver.phase h))
      | false ↦ λ h. refl
    ] refl in
    ap (λ x. seens.Receives x (octets_seen x (staged_for staged id))) is ∙ ap (seens.Receives a.receiver) octets

module _ (r r_now : ReceiverState) (old new : DeskState) (addr : r_now.addressing ≡ r.addressing) where
  abbrev pub there : (DeskState → Seen → After) → Type 0
  there step = Made step (held.Receives r) (held.Receives r_now) old new

  receiver-does : (f : OctetMap → receiver.ReceiverAfter) → (is_receiving r.phase ≡ false → Masks f) → (stored : Stored)
      → ReceiverDoes old.policy.times stored (Some (f (staged_for old.staged r.addressing.id))) (scene r old) (scene r_now new)
      → Does r.addressing.id (by_receiver old.policy.times (f (octets_seen r (staged_for old.staged r.addressing.id)))) (seen (new.staged r.addressing.id) (held.Receives r_now)) old new
  receiver-does f masks stored does =
      let times : Times = old.policy.times in
      let m : OctetMap = staged_for old.staged r.addressing.id in
      let a : receiver.ReceiverAfter = f m in
      let same : by_receiver times (f m) ≡ by_receiver times (f (octets_seen r m)) =
      elim (is_receiving r.phase) as (λ b. is_receiving r.phase ≡ b → by_receiver times (f m) ≡ by_receiver times (f (if b then m else empty))) [
        | true ↦ λ h. refl
        | false ↦ λ h. masks h times m
      ] refl in
      let id_now : a.receiver.addressing.id ≡ r.addressing.id = ap (λ (x : ReceiverState). x.addressing.id) (sym does.receiver) ∙ ap (λ (x : Addressing). x.id) addr in
      subst (λ (x : After). Does r.addressing.id x (seen (new.staged r.addressing.id) (held.Receives r_now)) old new) same
      (record {
        state = seen-after a r_now r.addressing.id new.staged does.receiver (ap (λ (x : Addressing). x.id) addr) does.octets;
        tells = does.tells;
        timers = does.timers ∙ (λ i. record old.effects.timers {
          armed = waited old.effects.timers.time ((ap (λ (x : ReceiverState). x.addressing.id) does.receiver ∙ id_now) i) (receiver_does.waits_of times a.anew (does.receiver i))
              old.effects.timers.armed;
        });
        files = does.files;
      })

  receiver-rests : scene r_now new ≡ scene r old
      → Does r.addressing.id (no_step old.files (seens.Receives r (octets_seen r (staged_for old.staged r.addressing.id)))) (seen (new.staged r.addressing.id) (held.Receives r_now)) old new
  receiver-rests same = record {
    state = ap (λ (s : Scene). seens.Receives s.receiver (octets_seen s.receiver (staged_for s.staged r.addressing.id))) same;
    tells = ap (λ (s : Scene). s.told) same ∙ sym (append-nil old.effects.told.items);
    timers = ap (λ (s : Scene). s.timers) same;
    files = ap (λ (s : Scene). s.files) same;
  }

  pub receiver-hears : (stored : Stored) (large : Bool) (v : Content) → ReceiverDoes old.policy.times stored
      (found (receiver_after stored large v) (scene r old)) (scene r old) (scene r_now new)
      → there (hearing stored large v)
  receiver-hears stored large (Metadata kind size source destination options) does =
      receiver-does (λ m. receiver.hears_metadata stored kind size source destination m old.files (flagged large r))
      (λ over. masks-metadata old.files (flagged large r) over stored kind size source destination) stored does
  receiver-hears stored large (FileData offset bytes) does = receiver-does (λ m. receiver.hears_data stored large offset bytes m old.files (flagged large r))
      (λ over. masks-data old.files (flagged large r) over stored large offset bytes) stored does
  receiver-hears stored large (Eof condition checksum size tlvs) does = receiver-does (λ m. receiver.hears_eof stored large condition checksum size m old.files (flagged large r))
      (λ over. masks-eof old.files (flagged large r) over stored large condition checksum size) stored does
  receiver-hears stored large (Ack acknowledged.Finished condition status) does = receiver-does (λ m. receiver.hears_ack m old.files (flagged large r))
      (λ over. masks-ack old.files (flagged large r) over) stored does
  receiver-hears stored large (Ack acknowledged.Eof condition status) does = receiver-rests does.1
  receiver-hears stored large (Prompt keep_alive) does = receiver-does (λ m. receiver.hears_prompt keep_alive m old.files (flagged large r))
      (λ over. masks-prompt old.files (flagged large r) over keep_alive) stored does
  receiver-hears stored large (Finished condition delivery status tlvs) does = receiver-rests does.1
  receiver-hears stored large (Nak start end pairs) does = receiver-rests does.1
  receiver-hears stored large (KeepAlive progress) does = receiver-rests does.1

  receiver-keeps : (v : Content) → ReceiverKeeps v (scene r old) (scene r_now new) → new.outbox_failures ≡ old.outbox_failures → Keeps v (held.Receives r) (held.Receives r_now) old new
  receiver-keeps (Metadata kind size source destination options) same outbox = record {
    state = ap (λ (s : Scene). seens.Receives s.receiver (octets_seen s.receiver (staged_for s.staged r.addressing.id))) same;
    tells = ap (λ (s : Scene). s.told) same;
    timers = ap (λ (s : Scene). s.timers) same;
    files = ap (λ (s : Scene). s.files) same;
    inbox = ap (λ (s : Scene). s.failures) same;
    outbox = outbox;
  }
  receiver-keeps (Eof condition checksum size tlvs) keeps outbox = absurd keeps
  receiver-keeps (Finished condition delivery status tlvs) keeps outbox = absurd keeps
  receiver-keeps (Ack of condition status) keeps outbox = absurd keeps
  receiver-keeps (Nak start end pairs) keeps outbox = absurd keeps
  receiver-keeps (Prompt keep_alive) keeps outbox = absurd keeps
  receiver-keeps (KeepAlive progress) keeps outbox = absurd keeps
  receiver-keeps (FileData offset bytes) keeps outbox = record {
    state = (
      octets_seen r (staged_for new.staged r.addressing.id),
      ((λ i. seens.Receives (keeps.receiver i) (octets_seen (keeps.receiver i) (staged_for new.staged r.addressing.id))), agree),
    );
    tells = keeps.tells;
    timers = keeps.timers;
    files = keeps.files;
    inbox = keeps.failures;
    outbox = outbox;
  }
    where
      agree : (n : ℕ) → set.contains r.held n ≡ true → map.get (octets_seen r (staged_for new.staged r.addressing.id)) n ≡ map.get (octets_seen r (staged_for old.staged r.addressing.id)) n
      agree n is_held = elim (is_receiving r.phase) as (λ b. map.get (if b then staged_for new.staged r.addressing.id else empty) n ≡ map.get
          (if b then staged_for old.staged r.addressing.id else empty) n) [
            | true ↦ keeps.octets n is_held
            | false ↦ refl
          ]

-- ---- a sender
module _ (x x_now : SenderState) (old new : DeskState) (files : new.files ≡ old.files) where
  sender-does : (a : sender.SenderAfter) → a.sender.addressing ≡ x.addressing →
      sender_does.Does old.policy.times a x_now old.effects new.effects
      → Does x.addressing.id (by_sender old.policy.times old.files a) (Sends x_now) old new
  sender-does a kept does = record {
    state = ap Sends does.sender;
    tells = does.tells;
    timers = does.timers ∙ (λ i. record old.effects.timers {
      armed = waited old.effects.timers.time ((ap (λ (y : Addressing). y.id) kept) i) (sender_does.waits_of old.policy.times a.anew a.sender) old.effects.timers.armed;
    });
    files = files;
  }

  sender-rests : (x_now ≡ x) × (new.effects ≡ old.effects) → Does x.addressing.id (no_step old.files (Sends x)) (Sends x_now) old new
  sender-rests rests = record {
    state = ap Sends rests.0;
    tells = ap (λ (e : Effects). e.told.items) rests.1 ∙ sym (append-nil old.effects.told.items);
    timers = ap (λ (e : Effects). e.timers) rests.1;
    files = files;
  }

-- ---- no step of a sender changes what it must send
kept-ack : (condition : ℕ) (x : SenderState) → transfer_of (sender.sender_hears_ack condition x).sender ≡ transfer_of x
kept-ack condition x = by x.phase
  where
    by : (p : SenderPhase) → transfer_of (sender.hears_ack p condition x).sender ≡ transfer_of x
    by Sending = elim (x.eof_taken && (condition == no_error)) as (λ b. transfer_of (if b then record x { acknowledged = true; eof_due = false } else x) ≡ transfer_of x) [ true ↦ refl | false ↦ refl ]
    by Cancelling = elim (condition == x.condition) as (λ b. transfer_of
        (if b then sender.hearing (finished_told x.addressing.id (sender.cancelled x) ∷ []) (sender.closed x) else sender.hearing [] x).sender ≡ transfer_of x) [ true ↦ refl | false ↦ refl ]
    by Closed = refl

kept-asks : (p : ℕ × ℕ) (x : SenderState) → transfer_of (sender.asks p x) ≡ transfer_of x
kept-asks p x = elim ((p.0 == 0) && (p.1 == 0)) as (λ b. transfer_of (if b then record x { metadata_due = true }
    else (if nat_lt p.0 (min p.1 x.sent) then record x { asked = set.union x.asked (range p.0 (min p.1 x.sent)) } else x)) ≡ transfer_of x) [
      | true ↦ refl
      | false ↦ elim (nat_lt p.0 (min p.1 x.sent)) as (λ b. transfer_of (if b then record x { asked = set.union x.asked (range p.0 (min p.1 x.sent)) } else x)
          ≡ transfer_of x) [ true ↦ refl | false ↦ refl ]
    ]

pub kept-asks_all : (ps : List (ℕ × ℕ)) (x : SenderState) → transfer_of (sender.asks_all ps x) ≡ transfer_of x
kept-asks_all [] x = refl
kept-asks_all (p ∷ ps) x = kept-asks_all ps (sender.asks p x) ∙ kept-asks p x

kept-asks_in : (p : SenderPhase) (ps : List (ℕ × ℕ)) (x : SenderState) → transfer_of (sender.asks_in p ps x) ≡ transfer_of x
kept-asks_in Sending ps x = kept-asks_all ps x
kept-asks_in Cancelling ps x = refl
kept-asks_in Closed ps x = refl

kept-called : (c : Request) (x : SenderState) → transfer_of (called_sender c x).sender ≡ transfer_of x
kept-called call.Cancel x = by x.phase
  where
    by : (p : SenderPhase) → transfer_of (sender.cancels_in p x).sender ≡ transfer_of x
    by Sending = refl
    by Cancelling = refl
    by Closed = refl
kept-called call.Suspend x = by x.phase x.suspended
  where
    by : (p : SenderPhase) (b : Bool) → transfer_of (sender.suspends_in p b x).sender ≡ transfer_of x
    by Sending false = refl
    by Sending true = refl
    by Cancelling b = refl
    by Closed b = refl
kept-called call.Resume x = by x.phase x.suspended
  where
    by : (p : SenderPhase) (b : Bool) → transfer_of (sender.resumes_in p b x).sender ≡ transfer_of x
    by Sending false = refl
    by Sending true = refl
    by Cancelling b = refl
    by Closed b = refl
kept-called (call.Prompt keep_alive) x = by x.phase x.prompt_due
  where
    by : (p : SenderPhase) (o : Option Bool) → transfer_of (sender.prompts_in p o keep_alive x).sender ≡ transfer_of x
    by Sending None = refl
    by Sending (Some b) = refl
    by Cancelling o = refl
    by Closed o = refl

kept-handled : (h : Handler) (condition : ℕ) (ignored x : SenderState) → transfer_of ignored ≡ transfer_of x → transfer_of (sender.handled h condition ignored x) ≡ transfer_of x
kept-handled Cancel condition ignored x same = refl
kept-handled Suspend condition ignored x same = refl
kept-handled Ignore condition ignored x same = same
kept-handled Abandon condition ignored x same = refl

kept-expires : (policy : Policy) (k : Kind) (x : SenderState) → transfer_of (sender.sender_expires k policy x).sender ≡ transfer_of x
kept-expires policy k x = elim (sender.sender_waits k x) as (λ b. transfer_of (if b then sender.expires k policy x else sender.quiet x).sender ≡ transfer_of x) [
  | true ↦ by k
  | false ↦ refl
]
  where
    in_phase : (p : SenderPhase) → transfer_of (sender.unacknowledged_in p policy.handlers.ack x).sender ≡ transfer_of x
    in_phase Sending = kept-handled policy.handlers.ack _ _ x refl
    in_phase Cancelling = refl
    in_phase Closed = refl

    again : (o : Option ℕ) → transfer_of (sender.sends_again o policy.handlers.ack x).sender ≡ transfer_of x
    again (Some count) = refl
    again None = in_phase x.phase

    by : (k : Kind) → transfer_of (sender.expires k policy x).sender ≡ transfer_of x
    by kind.EofAck = again (another_try x.count policy.limits.eof)
    by kind.Nak = refl
    by kind.FinishedAck = refl
    by kind.Inactivity = kept-handled policy.handlers.inactivity _ _ x refl

kept-sends : (stored : Stored) (file : List ℕ) (x : SenderState) (d : SenderDue) → transfer_of (sender.sender_sends stored file x d).sender ≡ transfer_of x
kept-sends stored file x (due.AckOfFinished condition) = refl
kept-sends stored file x (due.Prompt keep_alive) = refl
kept-sends stored file x due.Metadata = refl
kept-sends Done file x (due.AskedData start end) = refl
kept-sends Refused file x (due.AskedData start end) = refl
kept-sends Done file x (due.NewData start end) = refl
kept-sends Refused file x (due.NewData start end) = refl
kept-sends stored file x due.Eof = refl

-- a step of a receiver that doesn't concern the inbox
module _ (times : Times) (r r_now : ReceiverState) (old new : Effects) (files : FileMap) (staged : Staged) (failures : ℕ) (kept : KeptAlone r r_now) (ready : IsReady staged r) where
  abbrev pub seen-before : Scene
  seen-before = record { receiver = r; told = old.told.items; timers = old.timers; files = files; staged = staged; failures = failures }

  abbrev pub seen-now : Scene
  seen-now = record { receiver = r_now; told = new.told.items; timers = new.timers; files = files; staged = staged; failures = failures }

  pub alone-receives : (step : receiver_does.Step) → receiver_does.DoesAlone times step r r_now old new → ((m : OctetMap) → (step m files r).files ≡ files) →
      ((m : OctetMap) → (step m files r).octets ≡ m)
      → ReceiverDoes times Done (Some (step (staged_for staged r.addressing.id) files r)) seen-before seen-now
  alone-receives step does same octets =
      let m : OctetMap = staged_for staged r.addressing.id in
      record {
        receiver = does.receiver m files;
        tells = does.tells m files;
        timers = does.timers m files;
        files = sym (same m);
        octets = λ receiving. (
            let now : r_now.phase ≡ phase.Receiving = ap (λ (x : ReceiverState). x.phase) (does.receiver m files) ∙ receiving in
            let id_now : (step m files r).receiver.addressing.id ≡ r.addressing.id = ap (λ (x : ReceiverState). x.addressing.id) (sym (does.receiver m files)) ∙ ap (λ (k : Addressing). k.id)
            kept.addressing in
            let begun : IsSome (staged r.addressing.id) = subst (λ (k : Addressing). IsSome (staged k.id)) kept.addressing ((kept.ready staged ready).begun now) in
            ap staged id_now ∙ some-staged (staged r.addressing.id) begun ∙ ap Some (sym (octets m))
            );
        counts = omega arith;
      }
    where
      some-staged : (o : Option OctetMap) → IsSome o → o ≡ Some (unwrap_or o empty)
      some-staged (Some k) h = refl
      some-staged None h = absurd (cc)

  rests-alone : r_now ≡ r → new ≡ old → seen-now ≡ seen-before
  rests-alone same still = λ i. record { receiver = same i; told = (still i).told.items; timers = (still i).timers; files = files; staged = staged; failures = failures }

  pub acked-receives : (large : Bool) (of : Acknowledged) (condition : ℕ) (status : TransactionStatus) → ReceiverAcks times large of r r_now old new
      → ReceiverDoes times Done (found (receiver_after Done large (Ack of condition status)) seen-before) seen-before seen-now
  acked-receives large acknowledged.Finished condition status acks = alone-receives (receiver_does.flagging large receiver.hears_ack) acks (λ m. refl) (λ m. refl)
  acked-receives large acknowledged.Eof condition status acks = (refl, rests-alone acks.0 acks.1)

on-called : (c : Request) (x : SenderState) → GoesOn x (called_sender c x).sender
on-called call.Cancel x = on-cancels x
on-called call.Suspend x = on-suspends x
on-called call.Resume x = on-resumes x
on-called (call.Prompt keep_alive) x = on-prompts keep_alive x

-- ---- what a call of a sender leaves of its record
-- The stores are as before, except for failures.
pub record Alike (old new : DeskState) : Type 0 where
  pub files : new.files ≡ old.files
  pub staged : new.staged ≡ old.staged
  pub sources : new.sources ≡ old.sources
  pub stands : new.stands ≡ old.stands
  pub policy : new.policy ≡ old.policy

module _ (s : Record) (x x_now : SenderState) (is : s ≡ held.Sends x) (old new : DeskState) (alike : Alike old new) (may : MayStep s old) where
  pub has-file : HasOwnFile old.sources x
  has-file = (ready-sender old.staged old.sources x.addressing.id x (subst (λ (k : Record). MayStep k old) is may).ready).1

  -- what is done, and that the record stays ready
  abbrev pub Steps : (DeskState → Seen → After) → Type 0
  Steps step = Made step s (held.Sends x_now) old new × Stays s (held.Sends x_now) old new

  kept-stays : (t : Transfer) → transfer_of x_now ≡ t → t ≡ transfer_of x → GoesOn x x_now → Stays (held.Sends x) (held.Sends x_now) old new
  kept-stays t now kept on =
      let same : transfer_of x_now ≡ transfer_of x = now ∙ kept in
      record {
        ready = sender-ready new.staged new.sources x.addressing.id x_now (ap (λ (t : Transfer). t.addressing.id) same)
            (subst (λ f. HasOwnFile f x_now) (sym alike.sources) (own-after old.sources x x_now same on has-file));
        others = λ other apart. ap (λ st. st other) alike.staged;
        sources = alike.sources;
        stands = alike.stands;
        policy = alike.policy;
      }

  of-record : (step : DeskState → Seen → After) → Made step (held.Sends x) (held.Sends x_now) old new → Stays (held.Sends x) (held.Sends x_now) old new → Steps step
  of-record step does stays = subst (λ (k : Record). Made step k (held.Sends x_now) old new × Stays k (held.Sends x_now) old new) (sym is) (does, stays)

  stepped-so : (step : DeskState → Seen → After) (a : sender.SenderAfter) → step old (Sends x) ≡ by_sender old.policy.times old.files a → transfer_of a.sender ≡ transfer_of x →
      GoesOn x a.sender → sender_does.Does old.policy.times a x_now old.effects new.effects → Steps step
  stepped-so step a is_so kept on does = of-record step
      (subst (λ (k : After). Does x.addressing.id k (Sends x_now) old new) (sym is_so)
      (sender-does x x_now old new alike.files a (ap (λ (t : Transfer). t.addressing) kept) does))
      (kept-stays (transfer_of a.sender) (ap transfer_of does.sender) kept (λ h. on (ap (λ (y : SenderState). y.phase) (sym does.sender) ∙ h)))

  rests-so : (step : DeskState → Seen → After) → step old (Sends x) ≡ no_step old.files (Sends x) → (x_now ≡ x) × (new.effects ≡ old.effects) → Steps step
  rests-so step is_so does = of-record step
      (subst (λ (k : After). Does x.addressing.id k (Sends x_now) old new) (sym is_so) (sender-rests x x_now old new alike.files does))
      (kept-stays (transfer_of x) (ap transfer_of does.0) refl (λ h. ap (λ (y : SenderState). y.phase) (sym does.0) ∙ h))

  pub sender-hears : (stored : Stored) (large : Bool) (v : Content) → SenderDoes old.policy.times (sender_after v x) x x_now old.effects new.effects → Steps (hearing stored large v)
  sender-hears stored large (Ack acknowledged.Eof condition status) does = stepped-so (hearing stored large (Ack acknowledged.Eof condition status)) _ refl (kept-ack condition x) (on-ack condition x) does
  sender-hears stored large (Ack acknowledged.Finished condition status) does = rests-so (hearing stored large (Ack acknowledged.Finished condition status)) refl does
  sender-hears stored large (Nak start end pairs) does = stepped-so (hearing stored large (Nak start end pairs)) _ refl (kept-asks_in x.phase pairs x) (on-asks_in x.phase pairs x) does
  sender-hears stored large (Finished condition delivery status tlvs) does = stepped-so (hearing stored large (Finished condition delivery status tlvs)) _ refl refl never does
  sender-hears stored large (KeepAlive progress) does = stepped-so (hearing stored large (KeepAlive progress)) _ refl refl (λ h. h) does
  sender-hears stored large (FileData offset bytes) does = rests-so (hearing stored large (FileData offset bytes)) refl does
  sender-hears stored large (Metadata kind size source destination options) does = rests-so (hearing stored large (Metadata kind size source destination options)) refl does
  sender-hears stored large (Eof condition checksum size tlvs) does = rests-so (hearing stored large (Eof condition checksum size tlvs)) refl does
  sender-hears stored large (Prompt keep_alive) does = rests-so (hearing stored large (Prompt keep_alive)) refl does

  pub sender-called : (c : Request) → sender_does.Does old.policy.times (called_sender c x) x_now old.effects new.effects → Steps (calling c)
  sender-called c does = stepped-so (calling c) _ refl (kept-called c x) (on-called c x) does

  pub sender-expired : (k : Kind) → sender_does.Does old.policy.times (sender.sender_expires k old.policy x) x_now old.effects new.effects →
      Steps (expiring k)
  sender-expired k does = stepped-so (expiring k) _ refl (kept-expires old.policy k x) (on-expiry k old.policy x) does

  sender-sent : (stored : Stored) (d : SenderDue) → sender_due x ≡ Some d →
      sender_does.Does old.policy.times (sender.sender_sends stored (octets_in old.sources x.source) x d) x_now old.effects new.effects
      → Steps (taking stored)
  sender-sent stored d due_is does =
      stepped-so (taking stored) _ (ap (sender_takes stored old.policy.times old.files (octets_in old.sources x.source) x) due_is) (kept-sends stored (octets_in old.sources x.source) x d) (on-sends stored (octets_in old.sources x.source) x d) does

  abbrev before : Seen
  before = seen_as s s old

  seen-is : before ≡ Sends x
  seen-is = ap (λ (k : Record). seen_as k k old) is

  -- what taking its PDU does, by what it answered
  abbrev pub Took : List ℕ → List ℕ → Taken → Type 0
  Took out out_now Nothing = Steps (taking Done) × Gives (due_octets old.sources before) (due_len old.sources before) (Octets 0) out out_now
  Took out out_now (Moved n) = Steps (taking Done) × Gives (due_octets old.sources before) (due_len old.sources before) (Octets n) out out_now
  Took out out_now SourceFailed = Steps (taking Refused) × (carries_data before ≡ true)

  pub sender-took : (out out_now : List ℕ) (t : Taken) →
      sender_does.Takes old.policy.times (octets_in old.sources x.source) (sender_due x) t x x_now old.effects new.effects out out_now
      → Took out out_now t
  sender-took out out_now t takes_so = by (sender_due x) refl t takes_so
    where
      octets_are : (o : Option SenderDue) → sender_due x ≡ o → due_octets old.sources before ≡
          octets_of (is_large x.size) x.addressing (seens.sender_content (octets_in old.sources x.source) x o)
      octets_are o due_is = ap (due_octets old.sources) seen-is ∙ ap (λ d. octets_of (is_large x.size) x.addressing (seens.sender_content (octets_in old.sources x.source) x d)) due_is

      len_is : (o : Option SenderDue) → sender_due x ≡ o → due_len old.sources before ≡ len_of (is_large x.size) x.addressing (seens.sender_content (octets_in old.sources x.source) x o)
      len_is o due_is = ap (due_len old.sources) seen-is ∙ ap (λ d. len_of (is_large x.size) x.addressing (seens.sender_content (octets_in old.sources x.source) x d)) due_is

      by : (o : Option SenderDue) → sender_due x ≡ o → (t : Taken) →
          sender_does.Takes old.policy.times (octets_in old.sources x.source) o t x x_now old.effects new.effects out out_now → Took out out_now t
      by None due_is Nothing h = (
        rests-so (taking Done) (ap (sender_takes Done old.policy.times old.files (octets_in old.sources x.source) x) due_is) (h.sender, h.effects),
        (sym (len_is None due_is), record { front = sym (octets_are None due_is); behind = h.out }),
      )
      by (Some d) due_is (Moved n) h = (
        sender-sent Done d due_is h.1,
        (h.0.end ∙ sym (len_is (Some d) due_is), record { front = h.0.front ∙ sym (octets_are (Some d) due_is); behind = h.0.behind }),
      )
      by (Some d) due_is SourceFailed h = (
        sender-sent Refused d due_is h.1,
        ap carries_data seen-is ∙ ap carries_by due_is ∙ h.0,
      )
      by None due_is (Moved n) h = absurd h
      by None due_is SourceFailed h = absurd h
      by (Some d) due_is Nothing h = absurd h

  pub sender-keeps : (v : Content) → SenderKeeps v x x_now old.effects new.effects → new.inbox_failures ≡ old.inbox_failures → new.outbox_failures ≡ old.outbox_failures →
      Keeps v s (held.Sends x_now) old new × Stays s (held.Sends x_now) old new
  sender-keeps v keeps inbox outbox = subst (λ (k : Record). Keeps v k (held.Sends x_now) old new × Stays k (held.Sends x_now) old new) (sym is) (by v keeps)
    where
      by : (v : Content) → SenderKeeps v x x_now old.effects new.effects → Keeps v (held.Sends x) (held.Sends x_now) old new × Stays (held.Sends x) (held.Sends x_now) old new
      by (Nak start end pairs) keeps = (
        record {
          state = (keeps.0.count, ap Sends (keeps.0.asked ∙ sym (ap (λ p. sender.asks_in p (take keeps.0.count pairs) x) keeps.0.sending)));
          tells = ap (λ (e : Effects). e.told.items) keeps.1;
          timers = ap (λ (e : Effects). e.timers) keeps.1;
          files = alike.files;
          inbox = inbox;
          outbox = outbox;
        },
        kept-stays (transfer_of (sender.asks_all (take keeps.0.count pairs) x)) (ap transfer_of keeps.0.asked) (kept-asks_all (take keeps.0.count pairs) x)
            (λ h. sym (on-asks_all (take keeps.0.count pairs) x) ∙ ap (λ (y : SenderState). y.phase) (sym keeps.0.asked) ∙ h),
      )
      by (Ack of condition status) keeps = absurd keeps
      by (Finished condition delivery status tlvs) keeps = absurd keeps
      by (KeepAlive progress) keeps = absurd keeps
      by (FileData offset bytes) keeps = absurd keeps
      by (Metadata kind size source destination options) keeps = absurd keeps
      by (Eof condition checksum size tlvs) keeps = absurd keeps
      by (Prompt keep_alive) keeps = absurd keeps

  -- by what hearing a PDU answered
  module _ {E : Type 0} (answer : Result Stored E) (large : Bool) (v : Content) (does : OnOk answer (SenderDoes old.policy.times (sender_after v x) x x_now old.effects new.effects))
      (keeps : OnErr answer (SenderKeeps v x x_now old.effects new.effects)) (inbox : new.inbox_failures ≡ old.inbox_failures) (outbox : new.outbox_failures ≡ old.outbox_failures) where
    pub sender-answered : IfOk answer (λ stored. Made (hearing stored large v) s (held.Sends x_now) old new)
    sender-answered = by answer does
      where
        by : (a : Result Stored E) → OnOk a (SenderDoes old.policy.times (sender_after v x) x x_now old.effects new.effects) →
            IfOk a (λ stored. Made (hearing stored large v) s (held.Sends x_now) old new)
        by (Ok stored) h = (sender-hears stored large v h).0
        by (Err e) h = tt

    pub sender-stays : Stays s (held.Sends x_now) old new
    sender-stays = by answer does keeps
      where
        by : (a : Result Stored E) → OnOk a (SenderDoes old.policy.times (sender_after v x) x x_now old.effects new.effects) → OnErr a (SenderKeeps v x x_now old.effects new.effects) →
            Stays s (held.Sends x_now) old new
        by (Ok stored) h k = (sender-hears stored large v h).1
        by (Err e) h k = (sender-keeps v k inbox outbox).1

-- a read that failed was counted
pub refused-counts : (n m : ℕ) → m ≡ max n (min (n + 1) (2 ^ 64 - 1)) → Counts Refused n m
refused-counts n m counted = (omega (arith, counted), λ below. omega (arith, counted, below))

-- octets that were written are no failure
pub never-failed : {P : Type 0} (n : ℕ) → Octets n ≡ Failed → P
never-failed n failed = absurd (cc)

-- ---- and of a receiver
-- the timers of others have the room that they had
pub kept-roomy : (times : Times) (stored : Stored) (o : Option receiver.ReceiverAfter) (old new : Scene) → ReceiverDoes times stored o old new → new.timers.roomy ≡ old.timers.roomy
kept-roomy times stored (Some a) old new does = ap (λ (t : TimersState). t.roomy) does.timers
kept-roomy times stored None old new does = ap (λ (s : Scene). s.timers.roomy) does.1

pub still-roomy : (v : Content) (old new : Scene) → ReceiverKeeps v old new → new.timers.roomy ≡ old.timers.roomy
still-roomy (FileData offset bytes) old new keeps = ap (λ (t : TimersState). t.roomy) keeps.timers
still-roomy (Metadata kind size source destination options) old new keeps = ap (λ (s : Scene). s.timers.roomy) keeps
still-roomy (Eof condition checksum size tlvs) old new keeps = absurd keeps
still-roomy (Finished condition delivery status tlvs) old new keeps = absurd keeps
still-roomy (Ack of condition status) old new keeps = absurd keeps
still-roomy (Nak start end pairs) old new keeps = absurd keeps
still-roomy (Prompt keep_alive) old new keeps = absurd keeps
still-roomy (KeepAlive progress) old new keeps = absurd keeps

pub counted : (times : Times) (stored : Stored) (o : Option receiver.ReceiverAfter) (old new : Scene) → ReceiverDoes times stored o old new → Counts stored old.failures new.failures
counted times stored (Some a) old new does = does.counts
counted times stored None old new does = subst (λ k. Counts k old.failures new.failures) (sym does.0) (ap-le (ap (λ (s : Scene). s.failures) does.1))
  where
    ap-le : {n m : ℕ} → m ≡ n → n ≤ m
    ap-le e = omega (arith, e)

module _ (s : Record) (r : ReceiverState) (is : s ≡ held.Receives r) (old : DeskState) where
  pub has-room : MayStep s old → HasRoom r.addressing.id old.effects
  has-room may = (subst (λ (k : Record). MayStep k old) is may).room

  pub is-ready : MayStep s old → IsReady old.staged r
  is-ready may = (ready-receiver old.staged old.sources r.addressing.id r (subst (λ (k : Record). MayStep k old) is may).ready).1

  module _ (r_now : ReceiverState) (new : DeskState) (addr : r_now.addressing ≡ r.addressing) where
    pub receiver-stays : IsReady new.staged r_now → OthersKeep r.addressing.id old.staged new.staged → new.sources ≡ old.sources → new.stands ≡ old.stands → new.policy ≡ old.policy →
        Stays s (held.Receives r_now) old new
    receiver-stays ready others sources stands policy = subst (λ (k : Record). Stays k (held.Receives r_now) old new) (sym is) (record {
      ready = receiver-ready new.staged new.sources r.addressing.id r_now (ap (λ (a : Addressing). a.id) addr) ready;
      others = others;
      sources = sources;
      stands = stands;
      policy = policy;
    })

    of-receiver : (step : DeskState → Seen → After) → Made step (held.Receives r) (held.Receives r_now) old new → Made step s (held.Receives r_now) old new
    of-receiver step does = subst (λ (k : Record). Made step k (held.Receives r_now) old new) (sym is) does

    abbrev earlier : Seen
    earlier = seen_as s s old

    earlier-is : earlier ≡ seens.Receives r (octets_seen r (staged_for old.staged r.addressing.id))
    earlier-is = ap (λ (k : Record). seen_as k k old) is

    -- what taking its PDU does: the inbox stays as it is
    pub took-there : scene r_now new ≡ record (scene r_now new) { files = old.files; staged = old.staged; failures = old.inbox_failures } → KeptAlone r r_now → IsReady old.staged r → (n : ℕ)
        (out out_now : List ℕ) →
        ReceiverTook old.policy.times (receiver_due r) r r_now old.effects new.effects n out out_now
        → Made (taking Done) s (held.Receives r_now) old new × Gives (due_octets old.sources earlier) (due_len old.sources earlier) (Octets n) out out_now
    took-there inbox_kept kept ready n out out_now took = by (receiver_due r) refl took
      where
        m : OctetMap
        m = staged_for old.staged r.addressing.id

        gives : (o : Option Due) → receiver_due r ≡ o → Gives (octets_of r.large r.addressing (seens.receiver_content r o))
            (len_of r.large r.addressing (seens.receiver_content r o)) (Octets n) out out_now
            → Gives (due_octets old.sources earlier) (due_len old.sources earlier) (Octets n) out out_now
        gives o due_is h =
            let octets : due_octets old.sources earlier ≡ octets_of r.large r.addressing (seens.receiver_content r o) =
            ap (due_octets old.sources) earlier-is ∙ ap (λ d. octets_of r.large r.addressing (seens.receiver_content r d)) due_is in
            let len : due_len old.sources earlier ≡ len_of r.large r.addressing (seens.receiver_content r o) =
            ap (due_len old.sources) earlier-is ∙ ap (λ d. len_of r.large r.addressing (seens.receiver_content r d)) due_is in
            (h.0 ∙ sym len, record { front = h.1.front ∙ sym octets; behind = h.1.behind })

        took-so : (o : Option Due) → receiver_due r ≡ o → Does r.addressing.id (receiver_takes old.policy.times old.files r (octets_seen r m) o)
            (seen (new.staged r.addressing.id) (held.Receives r_now)) old
            new → Made (taking Done) s (held.Receives r_now) old new
        took-so o due_is does = of-receiver (taking Done)
            (subst (λ (o : Option Due). Does r.addressing.id (receiver_takes old.policy.times old.files r (octets_seen r m) o)
            (seen (new.staged r.addressing.id) (held.Receives r_now)) old new) (sym due_is) does)

        by : (o : Option Due) → receiver_due r ≡ o → ReceiverTook old.policy.times o r r_now old.effects new.effects n out out_now →
            Made (taking Done) s (held.Receives r_now) old new × Gives (due_octets old.sources earlier) (due_len old.sources earlier) (Octets n) out out_now
        by (Some d) due_is h = (
          took-so (Some d) due_is (receiver-does r r_now old new addr (λ k. receiver.takes d k old.files r) (λ over. masks-takes old.files r over d) Done
              (subst (ReceiverDoes old.policy.times Done (Some (receiver.takes d m old.files r)) (scene r old)) (sym inbox_kept)
              (alone-receives old.policy.times r r_now old.effects new.effects old.files old.staged old.inbox_failures kept ready (receiver.takes d) h.0 (λ m. refl) (λ m. refl)))),
          gives (Some d) due_is h.1,
        )
        by None due_is h = (
          took-so None due_is (receiver-rests r r_now old new addr
              (inbox_kept ∙ rests-alone old.policy.times r r_now old.effects new.effects old.files old.staged old.inbox_failures kept ready h.0.0 h.0.1)),
          gives None due_is h.1,
        )

    -- what hearing a PDU asked of the inbox
    pub heard-asked : {E : Type 0} (answer : Result Stored E) (large : Bool) (v : Content)
        → IfOk answer (λ stored. ReceiverDoes old.policy.times stored (found (receiver_after stored large v) (scene r old)) (scene r old) (scene r_now new))
        → IfOk answer (λ stored. AsksAs Raises (AsksHeard Raises large v stored) (seen_as s s old) (seen_as s (held.Receives r_now) new) old.inbox_failures new.inbox_failures)
        → new.outbox_failures ≡ old.outbox_failures → IfOk answer (λ stored. Asked stored (AsksHeard Raises large v stored) s (held.Receives r_now) old new)
    heard-asked (Ok stored) large v does raises outbox = record { counts = counted old.policy.times stored _ (scene r old) (scene r_now new) does; raises = raises; outbox = outbox }
    heard-asked (Err e) large v does raises outbox = tt

    pub heard-failed : {E : Type 0} (answer : Result Stored E) (v : Content) → OnErr answer (ReceiverKeeps v (scene r old) (scene r_now new)) → new.outbox_failures ≡ old.outbox_failures →
        OnErr answer (Keeps v s (held.Receives r_now) old new)
    heard-failed (Ok stored) v h outbox = tt
    heard-failed (Err e) v h outbox = subst (λ (k : Record). Keeps v k (held.Receives r_now) old new) (sym is) (receiver-keeps r r_now old new addr v h outbox)

-- ---- how long the PDU of a sender is
pub len-of-sender : (sources : FileMap) (x : SenderState) (n : Option ℕ) → HasOwnFile sources x
    → ((file : List ℕ) → length file ≡ x.size → n ≡ option_map (λ d. written_len x.addressing (is_large x.size) (sender_says file x d)) (sender_due x))
    → unwrap_or n 0 ≡ due_len sources (Sends x)
len-of-sender sources x n own len = by_phase x.phase refl own
  where
    file : List ℕ
    file = octets_in sources x.source

    by : (o : Option SenderDue) → unwrap_or (option_map (λ d. written_len x.addressing (is_large x.size) (sender_says file x d)) o) 0
        ≡ len_of (is_large x.size) x.addressing (seens.sender_content file x o)
    by (Some d) = refl
    by None = refl

    -- what isn't file data is as long, whatever the file is
    unsent : (other : List ℕ) → x.phase ≢ Sending → (o : Option SenderDue) → sender_due x ≡ o →
        option_map (λ d. written_len x.addressing (is_large x.size) (sender_says other x d)) o ≡ option_map (λ d. written_len x.addressing (is_large x.size) (sender_says file x d)) o
    unsent other apart (Some d) is = ap (λ v. Some (written_len x.addressing (is_large x.size) v)) (says-unsent x d other file is apart)
    unsent other apart None is = refl

    not_sending : x.phase ≢ Sending → unwrap_or n 0 ≡ due_len sources (Sends x)
    not_sending apart =
        ap (λ o. unwrap_or o 0) (len (replicate x.size 0) (length-replicate x.size 0) ∙ unsent (replicate x.size 0) apart (sender_due x) refl) ∙ by (sender_due x)

    by_phase : (p : SenderPhase) → x.phase ≡ p → HasFileWhile p sources x.source x.size → unwrap_or n 0 ≡ due_len sources (Sends x)
    by_phase Sending is has = ap (λ o. unwrap_or o 0) (len file has.whole) ∙ by (sender_due x)
    by_phase Cancelling is has = not_sending (λ h. let bad : Cancelling ≡ Sending = sym is ∙ h in cc)
    by_phase Closed is has = not_sending (λ h. let bad : Closed ≡ Sending = sym is ∙ h in cc)
