-- What each step of a sender does to the course of its put, and that it stays cancelled unless it
-- indicates something that spoils the put.
use Rattle.std.proofs.Common.{◌≡◌, ℕ, ◌<◌, ◌==◌, ◌||◌, ◌&&◌, not, Bool, true, false, if◌then◌else◌, List, [], ◌∷◌, ◌++◌, take, Option, Some, None, refl, sym, ap, subst, ◌∙◌, arith}
use Rattle.std.proofs.lemmas.Bool.{or_left, eqb-true}
use Rattle.cfdp_header.specs.Files.{FileMap}
use Rattle.cfdp_header.specs.declared.value.TransactionId.{TransactionId}
use Rattle.cfdp_header.specs.Ids.{same_id}
use Rattle.cfdp_directives.specs.declared.pdu.codes.Acknowledged.TheVariants as acknowledged
use Rattle.cfdp_directives.specs.declared.user.limits.Times.{Times}
use Rattle.cfdp_directives.specs.declared.user.policy.Policy.{Policy}
use Rattle.cfdp_directives.specs.declared.user.telling.Outcome.{Outcome}
use Rattle.cfdp_directives.specs.User.Policy.{another_try, finished_told}
use Rattle.cfdp_directives.specs.Pdu.Content.{Content, FileData, Metadata, Eof, Finished, Ack, Nak, Prompt, KeepAlive}
use Rattle.cfdp_directives.specs.User.Put.{Put}
use Rattle.cfdp_store.specs.declared.stored.Stored.{Stored}
use Rattle.cfdp_store.specs.declared.stored.Stored.TheVariants.{Done, Refused}
use Rattle.cfdp_store.specs.Files.{octets_in}
use Rattle.cfdp_timers.specs.declared.kind.Kind.{Kind}
use Rattle.cfdp_timers.specs.declared.kind.Kind.TheVariants as kinds
use Rattle.cfdp_sender.specs.declared.due.SenderDue.{SenderDue}
use Rattle.cfdp_sender.specs.declared.due.SenderDue.TheVariants as due
use Rattle.cfdp_sender.specs.declared.phase.SenderPhase.TheVariants as sending
use Rattle.cfdp_sender.specs.Due.{sender_due, sender_says, carries, carried}
use Rattle.cfdp_sender.specs.InFile.{IsInFile}
use Rattle.cfdp_sender.specs.Inputs.{IsSenderOf}
use Rattle.cfdp_sender.specs.State.{SenderState, IsCause}
use Rattle.cfdp_sender.specs.Steps as steps
use Rattle.cfdp_sender.specs.Steps.{SenderAfter, sender_sends, sender_expires}
use Rattle.cfdp_receiver.specs.State.{ReceiverState}
use Rattle.cfdp_entity.specs.declared.request.Request.{Request}
use Rattle.cfdp_entity.specs.declared.request.Request.TheVariants as call
use Rattle.cfdp_entity.specs.Seen.{Seen, Sends, Receives, sender_content}
use Rattle.cfdp_entity.specs.Steps.{by_sender, no_step, sender_after, called_sender, sender_takes, hears, calls, expires, takes, Spoils}
use Rattle.link_sim.specs.Course.{IsCourse, IsTrueBetween}
use Rattle.link_sim.specs.Waiting.{spoils, one_tells}
use Rattle.link_sim.proofs.Course.Laws.{CourseLaws, told_with}
use Rattle.link_sim.proofs.EveryPut.Goes.{SenderGoes}
use Rattle.cfdp_entity.proofs.Entries.{same_id-itself}

-- ---- a cancelled sender
-- unless what was indicated spoils the put, it is cancelled after the step too
abbrev StaysCancelled : TransactionId → SenderAfter → Type 0
StaysCancelled id a = one_tells (spoils id) a.told ≡ false → a.sender.phase ≡ sending.Cancelling

module _ (id : TransactionId) (x : SenderState) (is_id : x.addressing.id ≡ id) (s : IsInFile x) (h : x.phase ≡ sending.Cancelling) where
  own_id : same_id id x.addressing.id ≡ true
  own_id = same_id-itself id x.addressing.id (sym is_id)

  is_cause : (x.condition == 0) ≡ false
  is_cause = elim (x.condition == 0) as (λ b. (x.condition == 0) ≡ b → b ≡ false) [
    | true ↦ λ e. (let is : x.condition ≡ 0 = eqb-true x.condition 0 e in let some : 0 < x.condition = subst (λ p. IsCause p x.condition) h s.cause in absurd (omega (arith, is, some)))
    | false ↦ λ e. refl
  ] refl

  bad : (same_id id x.addressing.id && not (x.condition == 0)) ≡ true
  bad = ap (λ b. b && not (x.condition == 0)) own_id ∙ ap not is_cause

  -- that it is over would be indicated, with its cause
  over : (after : SenderAfter) → ((same_id id x.addressing.id && not (x.condition == 0)) || false) ≡ false → after.sender.phase ≡ sending.Cancelling
  over after none = absurd (let yes : ((same_id id x.addressing.id && not (x.condition == 0)) || false) ≡ true = ap (λ b. b || false) bad in cc)

  stays-sends : (stored : Stored) (octets : List ℕ) (d : SenderDue) → StaysCancelled id (steps.pdu_sent stored octets x d)
  stays-sends stored octets (due.AckOfFinished condition) = λ _. h
  stays-sends stored octets (due.Prompt keep_alive) = λ _. h
  stays-sends stored octets due.Metadata = λ _. h
  stays-sends Done octets (due.AskedData start end) = λ _. h
  stays-sends Refused octets (due.AskedData start end) = λ _. refl
  stays-sends Done octets (due.NewData start end) = λ _. h
  stays-sends Refused octets (due.NewData start end) = λ _. refl
  stays-sends stored octets due.Eof = λ _. h

  stays-ack : (condition : ℕ) → StaysCancelled id (steps.sender_hears_ack condition x)
  stays-ack condition = subst (λ p. StaysCancelled id (steps.hears_ack p condition x)) (sym h) (by (condition == x.condition))
    where
      by : (b : Bool) → StaysCancelled id (if b then steps.hearing (finished_told x.addressing.id (steps.cancelled x) ∷ []) (steps.closed x) else steps.hearing [] x)
      by true = over (steps.hearing (finished_told x.addressing.id (steps.cancelled x) ∷ []) (steps.closed x))
      by false = λ _. h

  stays-nak : (pairs : List (ℕ × ℕ)) → StaysCancelled id (steps.sender_hears_nak pairs x)
  stays-nak pairs = λ _. subst (λ p. (steps.asks_in p pairs x).phase ≡ sending.Cancelling) (sym h) h

  stays-finished : (outcome : Outcome) → StaysCancelled id (steps.sender_hears_finished outcome x)
  stays-finished outcome = λ none. over (steps.sender_hears_finished outcome x) (subst (λ p. one_tells (spoils id) (steps.end_told p outcome x) ≡ false) h none)

  stays-expires : (k : Kind) (policy : Policy) → StaysCancelled id (sender_expires k policy x)
  stays-expires kinds.EofAck policy = by (steps.sender_waits kinds.EofAck x)
    where
      again : (o : Option ℕ) → StaysCancelled id (steps.sends_again o policy.handlers.ack x)
      again (Some count) = λ _. h
      again None = subst (λ p. StaysCancelled id (steps.unacknowledged_in p policy.handlers.ack x)) (sym h)
          (λ none. absurd (let yes : ((same_id id x.addressing.id && true) || ((same_id id x.addressing.id) || false)) ≡ true = ap (λ b. (b && true) || (b || false)) own_id in cc))

      by : (b : Bool) → StaysCancelled id (if b then steps.expires kinds.EofAck policy x else steps.quiet x)
      by true = again (another_try x.count policy.limits.eof)
      by false = λ _. h
  stays-expires kinds.Inactivity policy = subst (λ b. StaysCancelled id (if b then steps.expires kinds.Inactivity policy x else steps.quiet x)) (sym none) (λ _. h)
    where
      none : steps.sender_waits kinds.Inactivity x ≡ false
      none = ap (λ p. not x.suspended && steps.waits_for_anything p x) h ∙ by x.suspended
        where
          by : (b : Bool) → (not b && false) ≡ false
          by true = refl
          by false = refl
  stays-expires kinds.Nak policy = λ _. h
  stays-expires kinds.FinishedAck policy = λ _. h

  stays-called : (c : Request) → StaysCancelled id (called_sender c x)
  stays-called call.Cancel = subst (λ p. StaysCancelled id (steps.cancels_in p x)) (sym h) (λ _. h)
  stays-called call.Suspend = subst (λ p. StaysCancelled id (steps.suspends_in p x.suspended x)) (sym h) (by x.suspended)
    where
      by : (b : Bool) → StaysCancelled id (steps.suspends_in sending.Cancelling b x)
      by true = λ _. h
      by false = λ _. h
  stays-called call.Resume = subst (λ p. StaysCancelled id (steps.resumes_in p x.suspended x)) (sym h) (by x.suspended)
    where
      by : (b : Bool) → StaysCancelled id (steps.resumes_in sending.Cancelling b x)
      by true = λ _. h
      by false = λ _. h
  stays-called (call.Prompt keep_alive) = subst (λ p. StaysCancelled id (steps.prompts_in p x.prompt_due keep_alive x)) (sym h) (by x.prompt_due)
    where
      by : (o : Option Bool) → StaysCancelled id (steps.prompts_in sending.Cancelling o keep_alive x)
      by (Some b) = λ _. h
      by None = λ _. h

-- ---- the steps
-- The record sends, and the PDU that it has due carries octets of its file.
abbrev pub CarriesData : Seen → Type 0
CarriesData (Sends x) = (d : SenderDue) × ((sender_due x ≡ Some d) × (carries d ≡ true))
CarriesData (Receives r m) = ⊥

module _ (laws : CourseLaws) (lossless : Bool) (put : Put) (x : SenderState) (is_sender : IsSenderOf put x) (s : IsInFile x) where
  pub sender-expires : (policy : Policy) (files : FileMap) (k : Kind) (forth back : List Content) → SenderGoes lossless put x (expires policy files k (Sends x)) forth forth back back
  sender-expires policy files k forth back = record {
    sender = (sender_expires k policy x).sender;
    is_sender = refl;
    stays = λ none h. stays-expires put.id x is_sender.id s h k policy none;
    course = λ o b c no good h. laws.sender_expires put lossless lossless lossless lossless x o forth back b c k policy is_sender s h good no;
  }

  pub sender-called : (times : Times) (files : FileMap) (c : Request) (forth back : List Content) → SenderGoes lossless put x (calls times files c (Sends x)) forth forth back back
  sender-called times files c forth back = record {
    sender = (called_sender c x).sender;
    is_sender = refl;
    stays = λ none h. stays-called put.id x is_sender.id s h c none;
    course = λ o b t no good h. laws.sender_called put lossless lossless lossless lossless x o forth back b t c is_sender s h good no;
  }

  pub sender-takes : (times : Times) (sources files : FileMap) (v : Content) (forth back : List Content) → put.octets ≡ octets_in sources x.source →
      sender_content (octets_in sources x.source) x (sender_due x) ≡ Some v
      → SenderGoes lossless put x (takes Done times sources files (Sends x)) forth (forth ++ v ∷ []) back back
  sender-takes times sources files v forth back octets says = by (sender_due x) refl says
    where
      by : (o : Option SenderDue) → sender_due x ≡ o → sender_content (octets_in sources x.source) x o ≡ Some v →
          SenderGoes lossless put x (sender_takes Done times files (octets_in sources x.source) x o) forth (forth ++ v ∷ []) back back
      by None is none = absurd cc
      by (Some d) is says_so =
          let same : sender_says (octets_in sources x.source) x d ≡ v = cc in
          subst (λ w. SenderGoes lossless put x (by_sender times files (sender_sends Done (octets_in sources x.source) x d)) forth (forth ++ w ∷ []) back back) same
          (subst (λ file. SenderGoes lossless put x (by_sender times files (sender_sends Done file x d)) forth (forth ++ sender_says file x d ∷ []) back back) octets (record {
            sender = (sender_sends Done put.octets x d).sender;
            is_sender = refl;
            stays = λ none h. stays-sends put.id x is_sender.id s h Done (carried put.octets d) d none;
            course = λ o b c no good h. laws.sender_sends put lossless lossless lossless lossless x o forth back b c d is_sender s is h good;
          }))

  -- the outbox failed, and that spoils the put
  pub sender-fails : (times : Times) (sources files : FileMap) (forth back : List Content) → CarriesData (Sends x) →
      SenderGoes lossless put x (takes Refused times sources files (Sends x)) forth forth back back
  sender-fails times sources files forth back k = subst (λ o. SenderGoes lossless put x (sender_takes Refused times files (octets_in sources x.source) x o) forth forth back back) (sym k.1.0)
      (by k.0 k.1.1)
    where
      fault : ((same_id put.id x.addressing.id && true) || false) ≡ false → ⊥
      fault none = (let yes : ((same_id put.id x.addressing.id && true) || false) ≡ true = ap (λ b. (b && true) || false) (same_id-itself put.id x.addressing.id (sym is_sender.id)) in cc)

      by : (d : SenderDue) → carries d ≡ true → SenderGoes lossless put x (by_sender times files (sender_sends Refused (octets_in sources x.source) x d)) forth forth back back
      by (due.AskedData start end) c = record { sender = _; is_sender = refl; stays = λ none h. refl; course = λ o b t no good h. absurd (fault good.good) }
      by (due.NewData start end) c = record { sender = _; is_sender = refl; stays = λ none h. refl; course = λ o b t no good h. absurd (fault good.good) }
      by (due.AckOfFinished condition) c = absurd cc
      by (due.Prompt keep_alive) c = absurd cc
      by due.Metadata c = absurd cc
      by due.Eof c = absurd cc

  -- it hears the PDU at the front
  module _ (times : Times) (files : FileMap) (stored : Stored) (forth rest : List Content) where
    heard : (v : Content) (a : SenderAfter) → sender_after v x ≡ Some a → (x.phase ≡ sending.Cancelling → StaysCancelled put.id a) →
        SenderGoes lossless put x (by_sender times files a) forth forth (v ∷ rest) rest
    heard v a is stays = record {
      sender = a.sender;
      is_sender = refl;
      stays = λ none h. stays h none;
      course = λ o b c no good h. laws.sender_hears put lossless lossless lossless lossless x o forth [] rest v b c a is_sender s is h good;
    }

    pub sender-hears : (large : Bool) (v : Content) → SenderGoes lossless put x (hears stored times files large v (Sends x)) forth forth (v ∷ rest) rest
    sender-hears large (Ack acknowledged.Eof condition status) = heard _ (steps.sender_hears_ack condition x) refl (λ h. stays-ack put.id x is_sender.id s h condition)
    sender-hears large (Nak start end pairs) = heard _ (steps.sender_hears_nak pairs x) refl (λ h. stays-nak put.id x is_sender.id s h pairs)
    sender-hears large (Finished condition delivery status tlvs) = heard _ (steps.sender_hears_finished (record { condition = condition; delivery = delivery; status = status }) x) refl
        (λ h. stays-finished put.id x is_sender.id s h (record { condition = condition; delivery = delivery; status = status }))
    sender-hears large (KeepAlive progress) = heard _ (steps.sender_hears_keep_alive progress x) refl (λ h none. h)
    sender-hears large (Ack acknowledged.Finished condition status) = record { sender = x; is_sender = refl; stays = λ none h. h; course = λ o b c no good h. absurd (h.truth.true_back.0) }
    sender-hears large (FileData offset bytes) = record { sender = x; is_sender = refl; stays = λ none h. h; course = λ o b c no good h. absurd (h.truth.true_back.0) }
    sender-hears large (Metadata kind size source destination options) = record { sender = x; is_sender = refl; stays = λ none h. h; course = λ o b c no good h. absurd (h.truth.true_back.0) }
    sender-hears large (Eof condition checksum size tlvs) = record { sender = x; is_sender = refl; stays = λ none h. h; course = λ o b c no good h. absurd (h.truth.true_back.0) }
    sender-hears large (Prompt keep_alive) = record { sender = x; is_sender = refl; stays = λ none h. h; course = λ o b c no good h. absurd (h.truth.true_back.0) }

-- ---- it found no memory for the PDU at the front, which is lost
module _ (laws : CourseLaws) (put : Put) (x : SenderState) (is_sender : IsSenderOf put x) (s : IsInFile x) (files : FileMap) (forth rest : List Content) where
  lost : (v : Content) (new : Seen) → new ≡ Sends x → SenderGoes false put x (no_step files new) forth forth (v ∷ rest) rest
  lost v new is = record {
    sender = x;
    is_sender = is;
    stays = λ none h. h;
    course = λ o b c no good h. laws.told_more put false false false false x o forth rest b (told_with put b []) c c (λ t. or_left b false t) (λ t. t) (laws.lost_back put x o forth [] rest v b c h);
  }

  -- a NAK that was heard in part is one that asks for less
  asks-less : (o : Option ReceiverState) (b c : Bool) (start end : ℕ) (pairs fewer : List (ℕ × ℕ)) → IsCourse put false false false false x o forth (Nak start end pairs ∷ rest) b c →
      IsCourse put false false false false x o forth (Nak start end fewer ∷ rest) b c
  asks-less o b c start end pairs fewer h =
      let t : IsTrueBetween put x o forth (Nak start end pairs ∷ rest) b c = h.truth in
      record {
        truth = record {
          not_cancelled = t.not_cancelled;
          all_sent = t.all_sent;
          receiver = t.receiver;
          true_forth = t.true_forth;
          true_back = t.true_back;
          eof_forth = t.eof_forth;
          heard = t.heard;
          eof_ack_due = t.eof_ack_due;
          eof_ack_back = t.eof_ack_back;
          acknowledged = t.acknowledged;
          finished_back = t.finished_back;
          over = t.over;
          ack_due = t.ack_due;
          ack_forth = t.ack_forth;
          closed = t.closed;
          sender_told = t.sender_told;
          receiver_told = t.receiver_told;
        };
        active = λ e. absurd cc;
        ack_comes = λ e. absurd cc;
        file_comes = λ e. absurd cc;
        end_comes = λ e. absurd cc;
      }

  pub sender-spoils : (v : Content) (new : Seen) → Spoils v (Sends x) new → SenderGoes false put x (no_step files new) forth forth (v ∷ rest) rest
  sender-spoils (Nak start end pairs) new k =
      let fewer : List (ℕ × ℕ) = take k.0 pairs in
      record {
        sender = steps.asks_in x.phase fewer x;
        is_sender = k.1;
        stays = λ none h. stays-nak put.id x is_sender.id s h fewer none;
        course = λ o b c no good h. laws.sender_hears put false false false false x o forth [] rest (Nak start end fewer) b c (steps.sender_hears_nak fewer x) is_sender s refl
            (asks-less o b c start end pairs fewer h) good;
      }
  sender-spoils (FileData offset bytes) new k = lost _ new k
  sender-spoils (Metadata kind size source destination options) new k = lost _ new k
  sender-spoils (Eof condition checksum size tlvs) new k = lost _ new k
  sender-spoils (Finished condition delivery status tlvs) new k = lost _ new k
  sender-spoils (Ack of condition status) new k = lost _ new k
  sender-spoils (Prompt keep_alive) new k = lost _ new k
  sender-spoils (KeepAlive progress) new k = lost _ new k
