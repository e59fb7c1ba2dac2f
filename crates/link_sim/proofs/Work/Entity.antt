-- Each PDU that an entity sends, loses or hears lowers what it may still do.
use Rattle.std.proofs.Common.{◌≡◌, inl, inr, ℕ, zero, suc, ◌+◌, ◌*◌, ◌<◌, ◌≤◌, Bool, true, List, [], ◌∷◌, ◌++◌, length, sum_by, take, slice_get, get_or, Option, Some, None, is_some, refl, sym, ap, subst, ◌∙◌, arith}
use Rattle.std.specs.FinMap as map
use Rattle.std.proofs.lemmas.List.{length-append}
use Rattle.std.proofs.lemmas.List.Sums.{sum_by_push, sum_by-cons, sum_by-append}
use Rattle.cfdp_header.specs.declared.value.TransactionId.{TransactionId}
use Rattle.cfdp_header.specs.declared.value.Header.{Header}
use Rattle.cfdp_header.specs.Files.{FileMap}
use Rattle.cfdp_directives.specs.declared.pdu.addressing.Addressing.{Addressing}
use Rattle.cfdp_directives.specs.declared.pdu.error.PduError.{PduError}
use Rattle.cfdp_directives.specs.declared.user.limits.Times.{Times}
use Rattle.cfdp_directives.specs.Pdu.Addressing.{header_of}
use Rattle.cfdp_directives.specs.Pdu.Codes.{size_limit}
use Rattle.cfdp_directives.specs.Pdu.Content.{Content, FileData, Metadata, Eof, Finished, Ack, Nak, Prompt, KeepAlive}
use Rattle.cfdp_directives.specs.Pdu.Faults.{pdu_fault}
use Rattle.cfdp_directives.specs.User.Put.{Put}
use Rattle.cfdp_store.specs.declared.stored.Stored.{Stored}
use Rattle.cfdp_store.specs.declared.stored.Stored.TheVariants.{Done, Refused}
use Rattle.cfdp_store.specs.Files.{octets_in}
use Rattle.cfdp_store.specs.Staged.{OctetMap}
use Rattle.cfdp_sender.specs.declared.due.SenderDue.{SenderDue}
use Rattle.cfdp_sender.specs.State.{SenderState}
use Rattle.cfdp_sender.specs.InFile.{IsInFile}
use Rattle.cfdp_sender.specs.Due.{sender_due, sender_says}
use Rattle.cfdp_sender.specs.Steps.{SenderAfter, sender_sends, asks_in}
use Rattle.cfdp_receiver.specs.declared.due.Due.{Due}
use Rattle.cfdp_receiver.specs.State.{ReceiverState, opened_receiver}
use Rattle.cfdp_receiver.specs.Due.{receiver_due, receiver_says, receiver_taken}
use Rattle.cfdp_receiver.specs.Steps.{ReceiverAfter}
use Rattle.cfdp_entity.specs.declared.error.EntityDrop.{EntityDrop}
use Rattle.cfdp_entity.specs.Entity.{EntityState, Counted, own_id, dropped}
use Rattle.cfdp_entity.specs.Hearing.{FindsNoMemory, HearsOctets, DropsOctets}
use Rattle.cfdp_entity.specs.Opening.{opens, opens_by, begins, closing}
use Rattle.cfdp_entity.specs.Polling.{Turn, Stray, Place, Rests, turn_by, turn, turn_octets, served}
use Rattle.cfdp_entity.specs.Seen.{Seen, Sends, Receives, large_of, is_due, due_content, sender_content, receiver_content}
use Rattle.cfdp_entity.specs.Sending.{SendsTruth, SendsItsPut}
use Rattle.cfdp_entity.specs.Sound.{SpellsDue, SpellsEntry, SpellsTurn}
use Rattle.cfdp_entity.specs.Steps.{After, Spoils, hears, takes, sender_takes, receiver_takes, if_sender, if_receiver, sender_after, receiver_after}
use Rattle.cfdp_entity.specs.Strays.{StrayAck, stray_says}
use Rattle.cfdp_entity.specs.Table.{Entry, TableState, has_due, next_due, octets_due, step_of, heard_at, taken_at, opened_by, SpoiledAt}
use Rattle.cfdp_entity.proofs.CallerLemmas.{next-due}
use Rattle.cfdp_entity.proofs.Sparing.{resting}
use Rattle.cfdp_entity.proofs.Sparing.{spoils-receives}
use Rattle.cfdp_station.specs.Taking.{HearsPdu, HearsAll}
use Rattle.mpdu.specs.Parts.{IsPartOf}
use Rattle.link_sim.proofs.EveryPut.Pdus.{text-work}
use Rattle.link_sim.proofs.Work.Receives.{receiver-falls, receiver-after-works, opens-hearing-works, opened-closed-works}
use Rattle.link_sim.proofs.Work.Routes.{EndsOne, Taken, Steps, Opens, Queues, Passes, Dropped, Counts, is-taken, is-dropped}
use Rattle.link_sim.proofs.Work.Routes as routes
use Rattle.link_sim.proofs.Work.Sends.{Falls, sender-falls, sender-hears-works, nak-works}
use Rattle.link_sim.proofs.Work.Within.{written, within-at, within-heard, within-dropped}
use Rattle.link_sim.specs.Work.{heard_work, opening_work, content_work, sender_work, receiver_work, seen_work, entry_work, entity_work, text_work, texts_work, IsSeenWithin, AreWithin}

-- ---- sums over records
module _ (most : ℕ) (st : TableState) (id : TransactionId) where
  sum-set : (es : List Entry) (n : ℕ) (e : Entry) (s : Seen) → slice_get es n ≡ Some e → sum_by (entry_work most) (written st id es n s) + seen_work most e.1 ≡ sum_by (entry_work most) es
      + seen_work most s
  sum-set [] n e s at = absurd cc
  sum-set (x ∷ xs) zero e s at =
      let is : x ≡ e = cc in
      let same : seen_work most x.1 ≡ seen_work most e.1 = ap (entry_work most) is in
      let a : sum_by (entry_work most) (x ∷ xs) ≡ seen_work most x.1 + sum_by (entry_work most) xs = sum_by-cons (entry_work most) x xs in
      let b : sum_by (entry_work most) ((x.0, s) ∷ xs) ≡ seen_work most s + sum_by (entry_work most) xs = sum_by-cons (entry_work most) (x.0, s) xs in
      omega (arith, same, a, b)
  sum-set (x ∷ xs) (suc n) e s at =
      let h : sum_by (entry_work most) (written st id xs n s) + seen_work most e.1 ≡ sum_by (entry_work most) xs + seen_work most s = sum-set xs n e s at in
      let a : sum_by (entry_work most) (x ∷ xs) ≡ seen_work most x.1 + sum_by (entry_work most) xs = sum_by-cons (entry_work most) x xs in
      let b : sum_by (entry_work most) (x ∷ written st id xs n s) ≡ seen_work most x.1 + sum_by (entry_work most) (written st id xs n s) = sum_by-cons (entry_work most) x (written st id xs n s) in
      omega (arith, h, a, b)

  -- if no record is, none is written
  sum-beyond : (es : List Entry) (n : ℕ) (s : Seen) → slice_get es n ≡ None → sum_by (entry_work most) (written st id es n s) ≡ sum_by (entry_work most) es
  sum-beyond [] n s at = refl
  sum-beyond (x ∷ xs) zero s at = absurd cc
  sum-beyond (x ∷ xs) (suc n) s at =
      let h : sum_by (entry_work most) (written st id xs n s) ≡ sum_by (entry_work most) xs = sum-beyond xs n s at in
      let a : sum_by (entry_work most) (x ∷ xs) ≡ seen_work most x.1 + sum_by (entry_work most) xs = sum_by-cons (entry_work most) x xs in
      let b : sum_by (entry_work most) (x ∷ written st id xs n s) ≡ seen_work most x.1 + sum_by (entry_work most) (written st id xs n s) = sum_by-cons (entry_work most) x (written st id xs n s) in
      omega (arith, h, a, b)

-- ---- a record is served
-- What a record sends is in its file.
abbrev pub IsSeenInFile : Seen → Type 0
IsSeenInFile (Sends x) = IsInFile x
IsSeenInFile (Receives r m) = Unit {0}

is-in-file : (put_of : TransactionId → Option Put) (sources : FileMap) (id : TransactionId) (s : Seen) → SendsItsPut put_of sources id s → IsSeenInFile s
is-in-file put_of sources id (Sends x) h = h.in_file
is-in-file put_of sources id (Receives r m) h = tt

module _ (most : ℕ) (times : Times) (files : FileMap) where
  sender-done : (file : List ℕ) (x : SenderState) (v : Content) (o : Option SenderDue) → IsInFile x → sender_due x ≡ o → sender_content file x o ≡ Some v
      → seen_work most (sender_takes Done times files file x o).seen + content_work most v < sender_work most x
  sender-done file x v None inside is says = absurd cc
  sender-done file x v (Some d) inside is says =
      let f : Falls most file x d = sender-falls most file x d inside is in
      let same : sender_says file x d ≡ v = cc in
      subst (λ w. sender_work most (sender_sends Done file x d).sender + content_work most w < sender_work most x) same f.done

  sender-refused : (file : List ℕ) (x : SenderState) (o : Option SenderDue) → IsInFile x → sender_due x ≡ o → is_some o ≡ true
      → seen_work most (sender_takes Refused times files file x o).seen < sender_work most x
  sender-refused file x None inside is some = absurd cc
  sender-refused file x (Some d) inside is some = let f : Falls most file x d = sender-falls most file x d inside is in f.refused

  receiver-done : (r : ReceiverState) (m : OctetMap) (v : Content) (o : Option Due) → IsSeenWithin most (Receives r m) → receiver_due r ≡ o → receiver_content r o ≡ Some v
      → seen_work most (receiver_takes times files r m o).seen + content_work most v < receiver_work most r
  receiver-done r m v None within is says = absurd cc
  receiver-done r m v (Some d) within is says =
      let same : receiver_says r d ≡ v = cc in
      subst (λ w. receiver_work most (receiver_taken d r) + content_work most w < receiver_work most r) same (receiver-falls most r d within is)

  receiver-refused : (r : ReceiverState) (m : OctetMap) (o : Option Due) → IsSeenWithin most (Receives r m) → receiver_due r ≡ o → is_some o ≡ true
      → seen_work most (receiver_takes times files r m o).seen < receiver_work most r
  receiver-refused r m None within is some = absurd cc
  receiver-refused r m (Some d) within is some =
      let f : receiver_work most (receiver_taken d r) + content_work most (receiver_says r d) < receiver_work most r = receiver-falls most r d within is in
      omega (arith, f)

  done-works : (sources : FileMap) (s : Seen) (v : Content) → IsSeenWithin most s → IsSeenInFile s → due_content sources s ≡ Some v
      → seen_work most (takes Done times sources files s).seen + content_work most v < seen_work most s
  done-works sources (Sends x) v within inside says = sender-done (octets_in sources x.source) x v (sender_due x) inside refl says
  done-works sources (Receives r m) v within inside says = receiver-done r m v (receiver_due r) within refl says

  refused-works : (sources : FileMap) (s : Seen) → IsSeenWithin most s → IsSeenInFile s → is_due s ≡ true → seen_work most (takes Refused times sources files s).seen < seen_work most s
  refused-works sources (Sends x) within inside some = sender-refused (octets_in sources x.source) x (sender_due x) inside refl some
  refused-works sources (Receives r m) within inside some = receiver-refused r m (receiver_due r) within refl some

-- ---- an entity is served
-- what the record at a place has due, if one is there
abbrev pub entry_says : FileMap → Option Entry → Option Content
entry_says sources (Some d) = due_content sources d.1
entry_says sources None = None

-- what the PDU says that has the turn
abbrev pub turn_says : Turn → EntityState → Option Content
turn_says (Stray s strays) e = Some (stray_says s)
turn_says (Place place) e = entry_says e.table.sources (slice_get e.table.records place)
turn_says Rests e = None

module _ (most : ℕ) (e : EntityState) where
  -- a record at a place whose work falls
  place-falls : (stored : Stored) (place n : ℕ) (d : Entry) → slice_get e.table.records place ≡ Some d → seen_work most (takes stored e.table.policy.times e.table.sources e.table.files d.1).seen + n
      < seen_work most d.1
      → entity_work most (served stored (Place place) e) + n < entity_work most e
  unfolding entity_work
  place-falls stored place n d at f =
      let st : TableState = e.table in
      let s : Seen = (takes stored st.policy.times st.sources st.files d.1).seen in
      let f1 : Entry → After = λ e. takes stored st.policy.times st.sources st.files e.1 in
      let sum : sum_by (entry_work most) (written st d.0 st.records place s) + seen_work most d.1 ≡ sum_by (entry_work most) st.records + seen_work most s =
      sum-set most st d.0 st.records place d s at in
      let same : sum_by (entry_work most) (taken_at stored place st).records ≡ sum_by (entry_work most) (written st d.0 st.records place s) =
      ap (λ o. sum_by (entry_work most) (step_of f1 place o st).records) at in
      omega (arith, sum, same, f)

  module _ (put_of : TransactionId → Option Put) (within : AreWithin most e.table.records) (truth : SendsTruth put_of e.table) where
    place-done : (place : ℕ) (v : Content) (o : Option Entry) → slice_get e.table.records place ≡ o → entry_says e.table.sources o ≡ Some v → entity_work most (served Done (Place place) e)
        + content_work most v < entity_work most e
    place-done place v None at says = absurd cc
    place-done place v (Some d) at says =
        place-falls Done place (content_work most v) d at
        (done-works most e.table.policy.times e.table.files e.table.sources d.1 v (within-at most e.table.records place d within at)
        (is-in-file put_of e.table.sources d.0 d.1 (truth.sends place d at)) says)

    stray-done : (s : StrayAck) (strays : List StrayAck) (v : Content) → e.strays ≡ s ∷ strays → stray_says s ≡ v → entity_work most (served Done (Stray s strays) e) + content_work most v
        < entity_work most e
    unfolding entity_work
    stray-done s strays v is says =
        let more : length e.strays ≡ suc (length strays) = ap length is in
        let one : content_work most v ≡ 1 = sym (ap (content_work most) says) in
        omega (arith, more, one)

    turn-done : (strays : List StrayAck) (o : Option ℕ) (v : Content) → e.strays ≡ strays → turn_says (turn_by strays o) e ≡ Some v → entity_work most (served Done (turn_by strays o) e)
        + content_work most v < entity_work most e
    turn-done (s ∷ strays) o v is says = stray-done s strays v is (let same : stray_says s ≡ v = cc in same)
    turn-done [] (Some place) v is says = place-done place v (slice_get e.table.records place) refl says
    turn-done [] None v is says = absurd cc

    -- the PDU that has the turn is sent, and says this
    pub work-served : (v : Content) → turn_says (turn e) e ≡ Some v → entity_work most (served Done (turn e) e) + content_work most v < entity_work most e
    work-served v says = turn-done e.strays (next_due e.cursor e.table.records) v refl says

    -- its octets
    due-spelled : (large : Bool) (o : Option Content) (a : Addressing) (octets : List ℕ) → SpellsDue large o a octets → (v : Content) × ((o ≡ Some v) × (text_work most octets ≡ content_work most v))
    due-spelled large None a octets h = absurd h
    due-spelled large (Some v) a octets h = (v, (refl, text-work most (header_of a large v) v octets h))

    entry-spelled : (place : ℕ) (o : Option Entry) → slice_get e.table.records place ≡ o → SpellsEntry e.table.sources o → (v : Content)
        × ((turn_says (Place place) e ≡ Some v) × (text_work most (turn_octets (Place place) e) ≡ content_work most v))
    entry-spelled place None at h = absurd h
    entry-spelled place (Some d) at h =
        let s = due-spelled (large_of d.1) (due_content e.table.sources d.1) _ _ h in
        (s.0, (ap (entry_says e.table.sources) at ∙ s.1.0, ap (λ o. text_work most (octets_due e.table.sources o)) at ∙ s.1.1))

    turn-spelled : (t : Turn) → SpellsTurn t e → (v : Content) × ((turn_says t e ≡ Some v) × (text_work most (turn_octets t e) ≡ content_work most v))
    turn-spelled (Stray s strays) h = due-spelled s.large (Some (stray_says s)) s.addressing _ h
    turn-spelled (Place place) h = entry-spelled place (slice_get e.table.records place) refl h
    turn-spelled Rests h = absurd h

    pub work-moved : SpellsTurn (turn e) e → entity_work most (served Done (turn e) e) + text_work most (turn_octets (turn e) e) < entity_work most e
    work-moved h =
        let s = turn-spelled (turn e) h in
        let f : entity_work most (served Done (turn e) e) + content_work most s.0 < entity_work most e = work-served s.0 s.1.0 in
        let same : text_work most (turn_octets (turn e) e) ≡ content_work most s.0 = s.1.1 in
        omega (arith, f, same)

    -- ---- the outbox fails
    place-refused : (place : ℕ) (o : Option Entry) → slice_get e.table.records place ≡ o → has_due (get_or e.table.records place (own_id 0 0, resting)) ≡ true →
        entity_work most (served Refused (Place place) e) < entity_work most e
    place-refused place None at some = absurd (none e.table.records place at some)
      where
        none : (es : List Entry) (n : ℕ) → slice_get es n ≡ None → has_due (get_or es n (own_id 0 0, resting)) ≡ true → ⊥
        none [] n at h = cc
        none (x ∷ xs) zero at h = cc
        none (x ∷ xs) (suc n) at h = none xs n at h
    place-refused place (Some d) at some =
        let g : entity_work most (served Refused (Place place) e) + 0 < entity_work most e =
        place-falls Refused place 0 d at (let f : seen_work most (takes Refused e.table.policy.times e.table.sources e.table.files d.1).seen < seen_work most d.1 =
        refused-works most e.table.policy.times e.table.files e.table.sources d.1 (within-at most e.table.records place d within at)
        (is-in-file put_of e.table.sources d.0 d.1 (truth.sends place d at)) (due e.table.records place at some) in omega (arith, f)) in
        omega (arith, g)
      where
        due : (es : List Entry) (n : ℕ) → slice_get es n ≡ Some d → has_due (get_or es n (own_id 0 0, resting)) ≡ true → has_due d ≡ true
        due [] n at h = absurd cc
        due (x ∷ xs) zero at h = let is : x ≡ d = cc in subst (λ (y : Entry). has_due y ≡ true) is h
        due (x ∷ xs) (suc n) at h = due xs n at h

    turn-refused : (strays : List StrayAck) (o : Option ℕ) (place : ℕ) → next_due e.cursor e.table.records ≡ o → turn_by strays o ≡ Place place → entity_work most (served Refused (turn_by strays o) e)
        < entity_work most e
    turn-refused (s ∷ strays) o place next is = absurd cc
    turn-refused [] None place next is = absurd cc
    turn-refused [] (Some p) place next is = place-refused p (slice_get e.table.records p) refl (next-due e.cursor e.table.records p (own_id 0 0, resting) next)

    -- the record that has the turn finds that the outbox can't read its data
    pub work-failed : (place : ℕ) → turn e ≡ Place place → entity_work most (served Refused (turn e) e) < entity_work most e
    work-failed place is = turn-refused e.strays (next_due e.cursor e.table.records) place refl is

-- ---- a record hears a PDU
-- what is left of a record is at most what it and the PDU counted
abbrev Leaves : ℕ → Content → (old new : Seen) → Type 0
Leaves most v old new = seen_work most new ≤ seen_work most old + content_work most v

if-sender-works : (most : ℕ) (times : Times) (files : FileMap) (v : Content) (x : SenderState) (o : Option SenderAfter) → x.size ≤ most → sender_after v x ≡ o →
    Leaves most v (Sends x) (if_sender times files x o).seen
if-sender-works most times files v x (Some a) within is =
    let h : sender_work most a.sender + 1 ≤ sender_work most x + content_work most v = sender-hears-works most v x a within is in omega (arith, h)
if-sender-works most times files v x None within is = omega arith

if-receiver-works : (most : ℕ) (times : Times) (files : FileMap) (stored : Stored) (large : Bool) (v : Content) (r : ReceiverState) (m : OctetMap) (o : Option ReceiverAfter) →
    receiver_after stored large v m files r ≡ o → seen_work most (if_receiver times files r m o).seen ≤ receiver_work most r + heard_work most v
if-receiver-works most times files stored large v r m (Some a) is =
    let h : receiver_work most a.receiver + 1 ≤ receiver_work most r + heard_work most v = receiver-after-works most stored large v m files r a is in omega (arith, h)
if-receiver-works most times files stored large v r m None is = omega arith

hears-works : (most : ℕ) (stored : Stored) (times : Times) (files : FileMap) (large : Bool) (v : Content) (s : Seen) → IsSeenWithin most s → Leaves most v s (hears stored times files large v s).seen
hears-works most stored times files large v (Sends x) within = if-sender-works most times files v x (sender_after v x) within.size refl
hears-works most stored times files large v (Receives r m) within =
    let h : seen_work most (hears stored times files large v (Receives r m)).seen ≤ receiver_work most r + heard_work most v =
    if-receiver-works most times files stored large v r m (receiver_after stored large v m files r) refl in omega (arith, h)

same-works : (most : ℕ) (v : Content) (s t : Seen) → t ≡ s → Leaves most v s t
same-works most v s t is = let e : seen_work most t ≡ seen_work most s = ap (seen_work most) is in omega (arith, e)

-- also if there was no memory
spoils-works : (most : ℕ) (v : Content) (s t : Seen) → IsSeenWithin most s → Spoils v s t → Leaves most v s t
spoils-works most v (Receives r m) t within h = let e : seen_work most t ≡ receiver_work most r = ap (seen_work most) (spoils-receives v r m t h).1.0 in omega (arith, e)
spoils-works most (Nak start end pairs) (Sends x) t within h =
    let e : seen_work most t ≡ sender_work most (asks_in x.phase (take h.0 pairs) x) = ap (seen_work most) h.1 in
    let g : sender_work most (asks_in x.phase (take h.0 pairs) x) ≤ sender_work most x + 7 * most + 7 = nak-works most x.phase (take h.0 pairs) x within.size refl in
    omega (arith, e, g)
spoils-works most (Ack of condition status) (Sends x) t within h = same-works most (Ack of condition status) (Sends x) t h
spoils-works most (Finished condition delivery status tlvs) (Sends x) t within h = same-works most (Finished condition delivery status tlvs) (Sends x) t h
spoils-works most (KeepAlive progress) (Sends x) t within h = same-works most (KeepAlive progress) (Sends x) t h
spoils-works most (Metadata kind size source destination options) (Sends x) t within h = same-works most (Metadata kind size source destination options) (Sends x) t h
spoils-works most (FileData offset bytes) (Sends x) t within h = same-works most (FileData offset bytes) (Sends x) t h
spoils-works most (Eof condition checksum size tlvs) (Sends x) t within h = same-works most (Eof condition checksum size tlvs) (Sends x) t h
spoils-works most (Prompt keep_alive) (Sends x) t within h = same-works most (Prompt keep_alive) (Sends x) t h

-- a PDU opens a record
begins-works : (most : ℕ) (begun stored : Stored) (times : Times) (files : FileMap) (large : Bool) (v : Content) (a : Addressing) → opening_work v ≡ 5 →
    seen_work most (begins begun stored times files large v a).seen ≤ content_work most v
begins-works most Done stored times files large v a may =
    let h : seen_work most (begins Done stored times files large v a).seen ≤ receiver_work most (opened_receiver a) + heard_work most v =
    if-receiver-works most times files stored large v (opened_receiver a) map.empty (receiver_after stored large v map.empty files (opened_receiver a)) refl in
    omega (arith, h, may)
begins-works most Refused stored times files large v a may = let h = opens-hearing-works most Refused stored large v files a may in omega (arith, h)

opens-works : (most : ℕ) (o : Option ℕ) (begun stored : Stored) (times : Times) (files : FileMap) (large : Bool) (v : Content) (a : Addressing) → opening_work v ≡ 5 →
    seen_work most (opens_by o begun stored times files large v a).seen ≤ content_work most v
opens-works most (Some condition) begun stored times files large v a may = let h = opened-closed-works most large condition v a may in omega (arith, h)
opens-works most None begun stored times files large v a may = begins-works most begun stored times files large v a may

-- ---- an entity hears a PDU
module _ (most : ℕ) (v : Content) where
  abbrev EntityLeaves : (old new : EntityState) → Type 0
  EntityLeaves old new = entity_work most new ≤ entity_work most old + content_work most v

  -- a record at a place that hears it
  place-heard : (e new : EntityState) (large : Bool) (place : ℕ) (stored : Stored) (o : Option Entry) → AreWithin most e.table.records → slice_get e.table.records place ≡ o
      → new ≡ record e { table = heard_at stored place large v e.table } → EntityLeaves e new
  unfolding entity_work
  place-heard e new large place stored o within at is = subst (EntityLeaves e) (sym is) (by o at)
    where
      by : (o : Option Entry) → slice_get e.table.records place ≡ o → EntityLeaves e (record e { table = heard_at stored place large v e.table })
      by None at =
          let f : Entry → After = λ d. hears stored e.table.policy.times e.table.files large v d.1 in
          let same : sum_by (entry_work most) (heard_at stored place large v e.table).records ≡ sum_by (entry_work most) e.table.records =
          ap (λ o. sum_by (entry_work most) (step_of f place o e.table).records) at in
          omega (arith, same)
      by (Some d) at =
          let f : Entry → After = λ d. hears stored e.table.policy.times e.table.files large v d.1 in
          let s : Seen = (hears stored e.table.policy.times e.table.files large v d.1).seen in
          let same : sum_by (entry_work most) (heard_at stored place large v e.table).records ≡ sum_by (entry_work most) (written e.table d.0 e.table.records place s) =
          ap (λ o. sum_by (entry_work most) (step_of f place o e.table).records) at in
          let sum : sum_by (entry_work most) (written e.table d.0 e.table.records place s) + seen_work most d.1 ≡ sum_by (entry_work most) e.table.records + seen_work most s =
          sum-set most e.table d.0 e.table.records place d s at in
          let h : seen_work most s ≤ seen_work most d.1 + content_work most v = hears-works most stored e.table.policy.times e.table.files large v d.1
          (within-at most e.table.records place d within at) in
          omega (arith, same, sum, h)

  record-opened : (e new : EntityState) (begun stored : Stored) (a : Addressing) (large : Bool) → opening_work v ≡ 5 → new ≡ record e { table = opened_by begun stored a large v e.table } →
      EntityLeaves e new
  unfolding entity_work
  record-opened e new begun stored a large may is =
      let s : Seen = (opens begun stored e.table.policy.times e.table.files large v a).seen in
      let sum : sum_by (entry_work most) (e.table.records ++ (a.id, s) ∷ []) ≡ sum_by (entry_work most) e.table.records + seen_work most s = sum_by_push (entry_work most) e.table.records (a.id, s) in
      let h : seen_work most s ≤ content_work most v = opens-works most (closing v) begun stored e.table.policy.times e.table.files large v a may in
      subst (EntityLeaves e) (sym is) (omega (arith, sum, h))

  end-work : (w : Content) → EndsOne w → 3 ≤ content_work most w
  end-work (Finished condition delivery status tlvs) h = omega arith
  end-work (FileData offset bytes) h = absurd h
  end-work (Metadata kind size source destination options) h = absurd h
  end-work (Eof condition checksum size tlvs) h = omega arith
  end-work (Ack of condition status) h = absurd h
  end-work (Nak start end pairs) h = absurd h
  end-work (Prompt keep_alive) h = absurd h
  end-work (KeepAlive progress) h = absurd h

  stray-queued : (e new : EntityState) (s : StrayAck) → EndsOne v → new ≡ record e { strays = e.strays ++ s ∷ [] } → EntityLeaves e new
  unfolding entity_work
  stray-queued e new s of_end is =
      let more : length (e.strays ++ s ∷ []) ≡ length e.strays + 1 = length-append e.strays (s ∷ []) in
      let h : 3 ≤ content_work most v = end-work v of_end in
      subst (EntityLeaves e) (sym is) (omega (arith, more, h))

  -- nothing was done
  none-done : (e new : EntityState) → new ≡ e → EntityLeaves e new
  unfolding entity_work
  none-done e new is = subst (EntityLeaves e) (sym is) (omega arith)

  -- only a drop was counted
  only-dropped : (e new : EntityState) (d : EntityDrop) → new ≡ dropped d e → EntityLeaves e new
  unfolding entity_work
  only-dropped e new d is = subst (EntityLeaves e) (sym is) (omega arith)

  table-spoiled : (place : ℕ) (old new : TableState) → AreWithin most old.records → SpoiledAt place v old new → sum_by (entry_work most) new.records ≤ sum_by (entry_work most) old.records
      + content_work most v
  table-spoiled place old new within s = subst (λ (t : TableState). sum_by (entry_work most) t.records ≤ sum_by (entry_work most) old.records + content_work most v) (sym s.table)
      (by (slice_get old.records place) refl)
    where
      by : (o : Option Entry) → slice_get old.records place ≡ o → sum_by (entry_work most) (written old (own_id 0 0) old.records place s.seen) ≤ sum_by (entry_work most) old.records
          + content_work most v
      by None at = let same = sum-beyond most old (own_id 0 0) old.records place s.seen at in omega (arith, same)
      by (Some d) at =
          let sum : sum_by (entry_work most) (written old (own_id 0 0) old.records place s.seen) + seen_work most d.1 ≡ sum_by (entry_work most) old.records + seen_work most s.seen =
          sum-set most old (own_id 0 0) old.records place d s.seen at in
          let h : seen_work most s.seen ≤ seen_work most d.1 + content_work most v = spoils-works most v d.1 s.seen (within-at most old.records place d within at) (s.spoils d at) in
          omega (arith, sum, h)

  record-spoiled : (place : ℕ) (old new : Counted) → AreWithin most old.state.table.records → FindsNoMemory place v old new → EntityLeaves old.state new.state
  unfolding entity_work
  record-spoiled place old new within f =
      let strays : length new.state.strays ≡ length old.state.strays = ap (λ (e : EntityState). length e.strays) f.counted in
      let h : sum_by (entry_work most) new.state.table.records ≤ sum_by (entry_work most) old.state.table.records + content_work most v =
      table-spoiled place old.state.table new.state.table within f.spoiled in
      omega (arith, strays, h)

  taken-works : (h : Header) (old new : Counted) → AreWithin most old.state.table.records → Taken h v old new → EntityLeaves old.state new.state
  taken-works h old new within (Steps place t) = place-heard old.state new.state h.large place t.stored (slice_get old.state.table.records place) within refl t.steps
  taken-works h old new within (Opens a may t) = record-opened old.state new.state t.begun t.stored a h.large may t.opens
  taken-works h old new within (Queues s of_end is) = stray-queued old.state new.state s of_end is
  taken-works h old new within (Passes is) = none-done old.state new.state (ap (λ (c : Counted). c.state) is)

  dropped-works : (old new : Counted) → AreWithin most old.state.table.records → Dropped v old new → EntityLeaves old.state new.state
  dropped-works old new within (Counts d is) = only-dropped old.state new.state d is
  dropped-works old new within (routes.Spoils place f) = record-spoiled place old new within f

module _ (most : ℕ) where
  pub work-heard : (pdu : List ℕ) (old new : Counted) → AreWithin most old.state.table.records → HearsOctets pdu old new → entity_work most new.state ≤ entity_work most old.state + text_work most pdu
  work-heard pdu old new within h =
      let same : text_work most pdu ≡ content_work most h.content = text-work most h.header h.content pdu h.spells in
      let g : entity_work most new.state ≤ entity_work most old.state + content_work most h.content =
      taken-works most h.content h.header old new within (is-taken h.header old new h.content h.takes) in
      omega (arith, same, g)

  pub work-dropped : (fault : Option PduError) (pdu : List ℕ) (by : EntityDrop) (old new : Counted) → AreWithin most old.state.table.records → DropsOctets fault pdu by old new →
      entity_work most new.state ≤ entity_work most old.state + text_work most pdu
  unfolding entity_work
  work-dropped (Some e) pdu by old new within d =
      subst (λ (c : Counted). sum_by (entry_work most) c.state.table.records + 2 * length c.state.strays ≤ sum_by (entry_work most) old.state.table.records + 2 * length old.state.strays
      + text_work most pdu) (sym d.1) (omega arith)
  work-dropped None pdu by old new within d =
      let same : text_work most pdu ≡ content_work most d.content = text-work most d.header d.content pdu d.spells in
      let g : entity_work most new.state ≤ entity_work most old.state + content_work most d.content = dropped-works most d.content old new within (is-dropped d.header old new d.content by d.drops) in
      omega (arith, same, g)

  -- ---- PDUs one after another
  pub work-none : texts_work most [] ≡ 0
  unfolding texts_work
  work-none = refl

  pub work-cons : (text : List ℕ) (texts : List (List ℕ)) → texts_work most (text ∷ texts) ≡ text_work most text + texts_work most texts
  unfolding texts_work
  work-cons text texts = sum_by-cons (text_work most) text texts

  pub work-append : (texts more : List (List ℕ)) → texts_work most (texts ++ more) ≡ texts_work most texts + texts_work most more
  unfolding texts_work
  work-append texts more = sum_by-append (text_work most) texts more

  module _ (limit : size_limit true ≤ most) where
    pub within-hears-all : (given : List (List ℕ)) (old new : Counted) → AreWithin most old.state.table.records → HearsAll given old new → AreWithin most new.state.table.records
    within-hears-all [] old new within h = subst (λ (c : Counted). AreWithin most c.state.table.records) (sym h) within
    within-hears-all (pdu ∷ pdus) old new within h = within-hears-all pdus h.0 new (one h.1) h.2
      where
        one : HearsPdu pdu old h.0 → AreWithin most h.0.state.table.records
        one (inl t) = within-heard most limit pdu old h.0 t within
        one (inr d) = within-dropped most limit (pdu_fault pdu) pdu d.0 old h.0 d.1 within

    one-pdu : (pdu : List ℕ) (old new : Counted) → AreWithin most old.state.table.records → HearsPdu pdu old new → entity_work most new.state ≤ entity_work most old.state + text_work most pdu
    one-pdu pdu old new within (inl t) = work-heard pdu old new within t
    one-pdu pdu old new within (inr d) = work-dropped (pdu_fault pdu) pdu d.0 old new within d.1

    pub work-hears-all : (given : List (List ℕ)) (old new : Counted) → AreWithin most old.state.table.records → HearsAll given old new → entity_work most new.state ≤ entity_work most old.state
        + texts_work most given
    work-hears-all [] old new within h = let same : entity_work most new.state ≡ entity_work most old.state = ap (λ (c : Counted). entity_work most c.state) h in omega (arith, same)
    work-hears-all (pdu ∷ pdus) old new within h =
        let mid : Counted = h.0 in
        let kept : AreWithin most mid.state.table.records = within-hears-all (pdu ∷ []) old mid within (mid, h.1, refl) in
        let a : entity_work most mid.state ≤ entity_work most old.state + text_work most pdu = one-pdu pdu old mid within h.1 in
        let b : entity_work most new.state ≤ entity_work most mid.state + texts_work most pdus = work-hears-all pdus mid new kept h.2 in
        let c : texts_work most (pdu ∷ pdus) ≡ text_work most pdu + texts_work most pdus = work-cons pdu pdus in
        omega (arith, a, b, c)

  -- a part of what ended counts no more than all of it
  pub work-part : (given ended : List (List ℕ)) → IsPartOf given ended → texts_work most given ≤ texts_work most ended
  work-part given [] is = let same : texts_work most given ≡ texts_work most [] = ap (texts_work most) is in omega (arith, same)
  work-part [] (y ∷ ys) is = omega (arith, work-none)
  work-part (x ∷ xs) (y ∷ ys) (inl is) =
      let same : text_work most x ≡ text_work most y = ap (text_work most) is.0 in
      let h : texts_work most xs ≤ texts_work most ys = work-part xs ys is.1 in
      omega (arith, same, h, work-cons x xs, work-cons y ys)
  work-part (x ∷ xs) (y ∷ ys) (inr is) =
      let h : texts_work most (x ∷ xs) ≤ texts_work most ys = work-part (x ∷ xs) ys is in
      omega (arith, h, work-cons y ys)
