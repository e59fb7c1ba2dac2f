-- An entity on which the records of another one are restored, one by one, resumes.
use Rattle.std.proofs.Common.{◌≡◌, ◌⊎◌, inl, inr, ℕ, zero, suc, ◌+◌, ◌<◌, ◌≤◌, Bool, true, false, cond, List, [], ◌∷◌, ◌++◌, append_assoc, append-nil, slice_get, map, Option, Some, None, is_some, IsTrue, if◌then◌else◌, refl, sym, ap, ap₂, subst, ◌∙◌, arith}
use Rattle.std.specs.List.{AllByRecursion, IsDistinct}
use Rattle.std.specs.Map.{keys_of}
use Rattle.std.specs.FinMap as map
use Rattle.std.specs.FinSet as set
use Rattle.std.proofs.lemmas.Bool.{false≢true}
use Rattle.cfdp_header.specs.declared.value.TransactionId.{TransactionId}
use Rattle.cfdp_header.specs.Files.{FileMap}
use Rattle.cfdp_header.specs.Ids.{same_id}
use Rattle.cfdp_directives.specs.declared.pdu.sums.Checksums.{Checksums}
use Rattle.cfdp_directives.specs.declared.user.indication.Indication.{Indication}
use Rattle.cfdp_directives.specs.declared.user.limits.Times.{Times}
use Rattle.cfdp_directives.specs.User.Completions.{completions}
use Rattle.cfdp_directives.specs.User.Put.{Put}
use Rattle.cfdp_extents.specs.Offsets.{Offsets}
use Rattle.cfdp_store.specs.Files.{octets_in}
use Rattle.cfdp_store.specs.Staged.{OctetMap}
use Rattle.cfdp_timers.specs.declared.kind.Kind.{Kind}
use Rattle.cfdp_timers.specs.declared.kind.Kind.TheVariants as kinds
use Rattle.cfdp_timers.specs.Waits.{deadline_by, wait_by, wait_for}
use Rattle.cfdp_sender.specs.declared.phase.SenderPhase.{SenderPhase}
use Rattle.cfdp_sender.specs.declared.phase.SenderPhase.TheVariants as sending
use Rattle.cfdp_sender.specs.Back as sender_back
use Rattle.cfdp_sender.specs.Back.{sent_back, sent_in}
use Rattle.cfdp_sender.specs.Does as sender_does
use Rattle.cfdp_sender.specs.Inputs.{finished_count}
use Rattle.cfdp_sender.specs.State.{SenderState}
use Rattle.cfdp_sender.specs.Steps as sender
use Rattle.cfdp_receiver.specs.declared.state.ReceiverPhase.{ReceiverPhase}
use Rattle.cfdp_receiver.specs.declared.state.ReceiverPhase.TheVariants as receiving
use Rattle.cfdp_receiver.specs.Back as receiver_back
use Rattle.cfdp_receiver.specs.Back.{received_back, received_in}
use Rattle.cfdp_receiver.specs.Does as receiver_does
use Rattle.cfdp_receiver.specs.Sound.{open_count}
use Rattle.cfdp_receiver.specs.State.{ReceiverState, is_receiving, kind_told}
use Rattle.cfdp_receiver.specs.Steps as receiver
use Rattle.cfdp_receiver.specs.Summed.{IsAdopted}
use Rattle.cfdp_entity.specs.Config.{IsConfig}
use Rattle.cfdp_entity.specs.declared.config.EntityConfig.{EntityConfig}
use Rattle.cfdp_entity.specs.Entity.{EntityState, entity_lent, is_forgotten}
use Rattle.cfdp_entity.specs.Exchanging.{with_told}
use Rattle.cfdp_entity.specs.History.{may_finish, open_in, open_of, sender_open_count}
use Rattle.cfdp_entity.specs.Restoring.{RestoresReceiver, RestoresSender, receiver_restored, restores_receiver, restores_sender, sender_restored}
use Rattle.cfdp_entity.specs.Seen.{Seen, Sends, Receives, addressing_of, octets_seen}
use Rattle.cfdp_entity.specs.Sound.{IsSound}
use Rattle.cfdp_entity.specs.Steps.{After}
use Rattle.cfdp_entity.specs.Table.{Entry, ShowsIf, TableState, first_table, place_of, record_of, table_lent, with_record}
use Rattle.cfdp_entity.specs.Telling.{WasIndicated}
use Rattle.cfdp_entity.specs.Timed.{AreTimed}
use Rattle.cfdp_entity.proofs.CallerLemmas.{push-other, same_id-symm, same_id-true}
use Rattle.cfdp_entity.proofs.Histories.{no-record}
use Rattle.cfdp_entity.proofs.Timing.{Sets, SetsAll, first-timed, push-timed}
use Rattle.cfdp_resuming.specs.Entity.{AreSomeOf, ComesBack, IsRestored, IsResumed}
use Rattle.cfdp_resuming.specs.OneByOne.{AreStagedAgain, BeginsAs, IsLeftOf, IsStagedAgain, RestoresEach, RestoresRecord}
use Rattle.cfdp_resuming.specs.Receiver.{IsRestoredReceiver, SumsStaged}
use Rattle.cfdp_resuming.proofs.Back.{IsPartOf, no-such, sender-back}
use Rattle.cfdp_resuming.proofs.Itself.{some-all}

-- ---- one record
-- an entry, and the one that is restored from it
record IsBackFrom (sources : FileMap) (e d : Entry) : Type 0 where
  pub key : d.0 ≡ (addressing_of e.1).id
  pub back : IsStagedAgain e.1 d.1 → IsRestored sources e.1 d.1
  pub finishes : open_in d.1 ≡ open_in e.1
  pub said : (told : List Indication) → WasIndicated told e.1 → WasIndicated told d.1

sender-finishes : (sent : ℕ) (sums : Checksums) (x : SenderState) (p : SenderPhase) → sender_open_count (sent_in p sent sums (sender_back.committed_of x)).phase ≡ sender_open_count x.phase
sender-finishes sent sums x sending.Sending = refl
sender-finishes sent sums x sending.Cancelling = refl
sender-finishes sent sums x sending.Closed = refl

module _ (held : Offsets) (sums : Checksums) (r : ReceiverState) (m o : OctetMap) where
  abbrev of-phase : ReceiverPhase → ReceiverState
  of-phase p = received_in p held sums (receiver_back.committed_of r)

  receiver-finishes : (p : ReceiverPhase) → open_count (of-phase p).phase ≡ open_count r.phase
  receiver-finishes receiving.Receiving = refl
  receiver-finishes receiving.Finishing = refl
  receiver-finishes receiving.Closed = refl

  receiver-said : (told : List Indication) (p : ReceiverPhase) → WasIndicated told (Receives r m) → WasIndicated told (Receives (of-phase p) (octets_seen (of-phase p) o))
  receiver-said told receiving.Receiving w = w
  receiver-said told receiving.Finishing w = w
  receiver-said told receiving.Closed w = w

  receiver-back : IsPartOf held r.held → (r.phase ≡ receiving.Receiving → IsAdopted (kind_told r.metadata) held (Some o) sums) → (p : ReceiverPhase) → r.phase ≡ p →
      IsStagedAgain (Receives r m) (Receives (of-phase p) (octets_seen (of-phase p) o)) → IsRestoredReceiver r m (of-phase p) (octets_seen (of-phase p) o)
  receiver-back part adopted receiving.Receiving is staged = record {
    addressing = refl;
    metadata = inr refl;
    ending = inr refl;
    held = λ now k has. (is, part k has, staged now k has);
    sums = λ now. subst (λ (n : OctetMap). SumsStaged (kind_told r.metadata) held n sums) (sym (ap (λ q. if is_receiving q then o else map.empty) is)) (adopted is).summed;
  }
  receiver-back part adopted receiving.Finishing is staged = record {
    addressing = refl;
    metadata = inr refl;
    ending = inr refl;
    held = λ now. absurd (no-such r.phase (ap is_receiving is) now);
    sums = λ now. absurd (no-such r.phase (ap is_receiving is) now);
  }
  receiver-back part adopted receiving.Closed is staged = record {
    addressing = refl;
    metadata = inr refl;
    ending = inr refl;
    held = λ now. absurd (no-such r.phase (ap is_receiving is) now);
    sums = λ now. absurd (no-such r.phase (ap is_receiving is) now);
  }

-- ---- its timers
some-by : (waits : Bool) (duration now : ℕ) (o : Option ℕ) → is_some (deadline_by now (wait_by waits false duration) o) ≡ waits
some-by false duration now o = refl
some-by true duration now (Some at) = refl
some-by true duration now None = refl

sender-set : (times : Times) (files : FileMap) (sent : ℕ) (sums : Checksums) (x : SenderState) → Sets None (restores_sender times files sent sums (sender_back.committed_of x))
sender-set times files sent sums x = inl (record { waits = sender_does.waits_of times None s; is = refl; so = so })
  where
    s : SenderState
    s = sent_back sent sums x

    so : (k : Kind) (now : ℕ) (o : Option ℕ) → is_some (deadline_by now (wait_for (sender_does.waits_of times None s) k) o) ≡ sender.sender_waits k s
    so kinds.EofAck now o = some-by (sender.sender_waits kinds.EofAck s) times.eof now o
    so kinds.Nak now o = some-by (sender.sender_waits kinds.Nak s) times.nak now o
    so kinds.FinishedAck now o = some-by (sender.sender_waits kinds.FinishedAck s) times.finished now o
    so kinds.Inactivity now o = some-by (sender.sender_waits kinds.Inactivity s) times.inactivity now o

receiver-set : (times : Times) (files : FileMap) (m : OctetMap) (held : Offsets) (sums : Checksums) (r : ReceiverState) → Sets None (restores_receiver times files m held sums (receiver_back.committed_of r))
receiver-set times files m held sums r = inl (record { waits = receiver_does.waits_of times None s; is = refl; so = so })
  where
    s : ReceiverState
    s = received_back held sums r

    so : (k : Kind) (now : ℕ) (o : Option ℕ) → is_some (deadline_by now (wait_for (receiver_does.waits_of times None s) k) o) ≡ receiver.waits k s
    so kinds.EofAck now o = some-by (receiver.waits kinds.EofAck s) times.eof now o
    so kinds.Nak now o = some-by (receiver.waits kinds.Nak s) times.nak now o
    so kinds.FinishedAck now o = some-by (receiver.waits kinds.FinishedAck s) times.finished now o
    so kinds.Inactivity now o = some-by (receiver.waits kinds.Inactivity s) times.inactivity now o

-- the same armed timers and records
timed-alike : (s t : TableState) → s.armed ≡ t.armed → s.records ≡ t.records → AreTimed s → AreTimed t
timed-alike s t armed records is = record {
  waited = λ id k.
      subst (λ (st : TableState). is_some (map.get st.armed (id, k)) ≡ true → Rattle.cfdp_entity.specs.Timed.waits_for k (record_of id t.records) ≡ true) both
      (subst (λ (l : List Entry). is_some (map.get s.armed (id, k)) ≡ true → Rattle.cfdp_entity.specs.Timed.waits_for k (record_of id l) ≡ true) records (is.waited id k));
  armed = λ id k.
      subst (λ (st : TableState). Rattle.cfdp_entity.specs.Timed.waits_for k (record_of id t.records) ≡ true → is_some (map.get st.armed (id, k)) ≡ true) both
      (subst (λ (l : List Entry). Rattle.cfdp_entity.specs.Timed.waits_for k (record_of id l) ≡ true → is_some (map.get s.armed (id, k)) ≡ true) records (is.armed id k));
}
  where
    both : record s { records = t.records } ≡ record s { records = t.records; armed = t.armed }
    both = ap (λ a. record s { records = t.records; armed = a }) armed

-- ---- one step
record Restores (e : Seen) (old new : EntityState) : Type 0 where
  pub config : new.config ≡ old.config
  pub next : new.next ≡ old.next
  pub forgotten : new.forgotten ≡ old.forgotten
  pub policy : new.table.policy ≡ old.table.policy
  pub told : new.table.told ≡ old.table.told
  pub files : new.table.files ≡ old.table.files
  pub stood : IsTrue new.table.stands → IsTrue old.table.stands × (new.table.sources ≡ old.table.sources)
  pub seen : Seen
  pub records : new.table.records ≡ old.table.records ++ ((addressing_of e).id, seen) ∷ []
  pub absent : place_of (addressing_of e).id old.table.records ≡ None
  pub unforgotten : is_forgotten old (addressing_of e).id ≡ false
  pub timed : AreTimed old.table → AreTimed new.table
  pub back : IsTrue new.table.stands → (id : TransactionId) → IsBackFrom new.table.sources (id, e) ((addressing_of e).id, seen)

restores-sender : (x : SenderState) (sent : ℕ) (old new : EntityState) → RestoresSender (sender_back.committed_of x) sent old new → ShowsIf true old.table new.table → Restores (Sends x) old new
restores-sender x sent old new r shows = record {
  config = ap (λ (e : EntityState). e.config) r.restored;
  next = ap (λ (e : EntityState). e.next) r.restored;
  forgotten = ap (λ (e : EntityState). e.forgotten) r.restored;
  policy = ap (λ (e : EntityState). e.table.policy) r.restored;
  told = ap (λ (e : EntityState). e.table.told) r.restored;
  files = ap (λ (e : EntityState). e.table.files) r.restored;
  stood = shows.stood;
  seen = Sends (sent_back sent r.sums x);
  records = ap (λ (e : EntityState). e.table.records) r.restored;
  absent = r.may.may_add.absent;
  unforgotten = r.may.unforgotten;
  timed = λ t. subst AreTimed (sym (ap (λ (e : EntityState). e.table) r.restored))
      (timed-alike (with_record x.addressing.id after lent) (sender_restored sent r.sums (sender_back.committed_of x) lent) refl refl
      (push-timed x.addressing.id after lent r.may.may_add.absent (sender-set lent.policy.times lent.files sent r.sums x) (timed-alike old.table lent refl refl t)));
  back = λ stands id. record {
    key = refl;
    back = λ staged. sender-back (octets_in new.table.sources x.source) sent r.sums x r.may.within (r.front stands) r.may.committed.cause x.phase refl;
    finishes = sender-finishes sent r.sums x x.phase;
    said = λ told w. w;
  };
}
  where
    lent : TableState
    lent = table_lent new.table old.table

    after : After
    after = restores_sender lent.policy.times lent.files sent r.sums (sender_back.committed_of x)

restores-receiver : (r : ReceiverState) (m : OctetMap) (held : Offsets) (old new : EntityState) → IsPartOf held r.held → RestoresReceiver (receiver_back.committed_of r) held old new → Restores (Receives r m) old new
restores-receiver r m held old new part a = record {
  config = ap (λ (e : EntityState). e.config) a.rest;
  next = ap (λ (e : EntityState). e.next) a.rest;
  forgotten = ap (λ (e : EntityState). e.forgotten) a.rest;
  policy = ap (λ (t : TableState). t.policy) a.table.added;
  told = ap (λ (t : TableState). t.told) a.table.added;
  files = ap (λ (t : TableState). t.files) a.table.added;
  stood = λ stands. (subst IsTrue (ap (λ (t : TableState). t.stands) a.table.added) stands, ap (λ (t : TableState). t.sources) a.table.added);
  seen = Receives (received_back held a.table.sums r) (octets_seen (received_back held a.table.sums r) a.table.octets);
  records = ap (λ (t : TableState). t.records) a.table.added;
  absent = a.may.may_add.absent;
  unforgotten = a.may.unforgotten;
  timed = λ t. subst AreTimed (sym a.table.added)
      (timed-alike (with_record r.addressing.id after old.table) (receiver_restored a.table.octets held a.table.sums (receiver_back.committed_of r) old.table) refl refl
      (push-timed r.addressing.id after old.table a.may.may_add.absent (receiver-set old.table.policy.times old.table.files a.table.octets held a.table.sums r) t));
  back = λ stands id. record {
    key = refl;
    back = receiver-back held a.table.sums r m a.table.octets part a.table.adopted r.phase refl;
    finishes = receiver-finishes held a.table.sums r m a.table.octets r.phase;
    said = λ told w. receiver-said held a.table.sums r m a.table.octets told r.phase w;
  };
}
  where
    after : After
    after = restores_receiver old.table.policy.times old.table.files a.table.octets held a.table.sums (receiver_back.committed_of r)

restores : (e : Seen) (old new : EntityState) → RestoresRecord e old new → Restores e old new
restores (Sends x) old new (sent, (r, shows)) = restores-sender x sent old new r shows
restores (Receives r m) old new (held, (part, a)) = restores-receiver r m held old new part a

-- ---- no transaction twice, and none that is forgotten
all-push : (id own : TransactionId) (s : Seen) (xs : List Entry) → AllByRecursion (λ k. same_id own k ≡ false) (keys_of xs) → same_id own id ≡ false → AllByRecursion (λ k. same_id own k ≡ false) (keys_of (xs ++ (id, s) ∷ []))
all-push id own s [] all last = (last, tt)
all-push id own s (x ∷ xs) all last = (all.0, all-push id own s xs all.1 last)

distinct-push : (xs : List Entry) (id : TransactionId) (s : Seen) → IsDistinct same_id (keys_of xs) → AllByRecursion (λ k. same_id id k ≡ false) (keys_of xs) → IsDistinct same_id (keys_of (xs ++ (id, s) ∷ []))
unfolding IsDistinct
distinct-push [] id s apart none = (tt, tt)
distinct-push (x ∷ xs) id s apart none = (all-push id x.0 s xs apart.0 (same_id-symm id x.0 none.0), distinct-push xs id s apart.1 none.1)

-- no record is of a forgotten transaction
abbrev AreApart : (TransactionId → Bool) → List Entry → Type 0
AreApart gone xs = (id : TransactionId) → gone id ≡ true → record_of id xs ≡ None

apart-push : (gone : TransactionId → Bool) (xs : List Entry) (id : TransactionId) (s : Seen) → gone id ≡ false → AreApart gone xs → AreApart gone (xs ++ (id, s) ∷ [])
apart-push gone xs id s unknown apart q there = elim (same_id q id) as (λ t. same_id q id ≡ t → record_of q (xs ++ (id, s) ∷ []) ≡ None) [
  | true ↦ λ t. absurd (cc (sym there ∙ ap gone (same_id-true q id t) ∙ unknown))
  | false ↦ λ t. push-other xs id q s t ∙ apart q there
] refl

-- ---- all records
-- Each of the second list is restored from one of the first, in their order. The others are
-- forgotten.
abbrev AreBackFrom : (TransactionId → Bool) → FileMap → List Entry → List Entry → Type 0
AreBackFrom gone sources [] ds = ds ≡ []
AreBackFrom gone sources (e ∷ es) ds = ((d : Entry) × (rest : List Entry) × (ds ≡ d ∷ rest) × (IsBackFrom sources e d × AreBackFrom gone sources es rest))
    ⊎ ((gone e.0 ≡ true) × AreBackFrom gone sources es ds)

record RestoresAll (es : List Entry) (old new : EntityState) : Type 0 where
  pub config : new.config ≡ old.config
  pub next : new.next ≡ old.next
  pub forgotten : new.forgotten ≡ old.forgotten
  pub policy : new.table.policy ≡ old.table.policy
  pub files : new.table.files ≡ old.table.files
  pub stood : IsTrue new.table.stands → IsTrue old.table.stands × (new.table.sources ≡ old.table.sources)
  pub added : List Entry
  pub records : new.table.records ≡ old.table.records ++ added
  pub distinct : IsDistinct same_id (keys_of old.table.records) → IsDistinct same_id (keys_of new.table.records)
  pub apart : AreApart (is_forgotten old) old.table.records → AreApart (is_forgotten new) new.table.records
  pub timed : AreTimed old.table → AreTimed new.table
  pub back : IsTrue new.table.stands → AreBackFrom (is_forgotten new) new.table.sources es added

restores-none : (old : EntityState) → RestoresAll [] old old
restores-none old = record {
  config = refl;
  next = refl;
  forgotten = refl;
  policy = refl;
  files = refl;
  stood = λ stands. (stands, refl);
  added = [];
  records = sym (append-nil old.table.records);
  distinct = λ is. is;
  apart = λ is. is;
  timed = λ t. t;
  back = λ stands. refl;
}

restores-one : (e : Entry) (es : List Entry) (old mid new : EntityState) → Restores e.1 old mid → RestoresAll es mid new → RestoresAll (e ∷ es) old new
restores-one e es old mid new h t = record {
  config = t.config ∙ h.config;
  next = t.next ∙ h.next;
  forgotten = t.forgotten ∙ h.forgotten;
  policy = t.policy ∙ h.policy;
  files = t.files ∙ h.files;
  stood = λ stands. (let s = t.stood stands in let u = h.stood s.0 in (u.0, s.1 ∙ u.1));
  added = d ∷ t.added;
  records = t.records ∙ ap (λ (l : List Entry). l ++ t.added) h.records ∙ append_assoc old.table.records (d ∷ []) t.added;
  distinct = λ is. t.distinct
      (subst (λ (l : List Entry). IsDistinct same_id (keys_of l)) (sym h.records) (distinct-push old.table.records d.0 d.1 is (no-record old.table.records d.0 h.absent).1));
  apart = λ is. t.apart
      (subst (λ f. AreApart (λ id. set.contains f id) mid.table.records) (sym h.forgotten)
      (subst (λ (l : List Entry). AreApart (is_forgotten old) l) (sym h.records) (apart-push (is_forgotten old) old.table.records d.0 d.1 h.unforgotten is)));
  timed = λ is. t.timed (h.timed is);
  back = λ stands. (let s = t.stood stands in inl (d, t.added, refl, (subst (λ (f : FileMap). IsBackFrom f e d) (sym s.1) (h.back s.0 e.0), t.back stands)));
}
  where
    d : Entry
    d = ((addressing_of e.1).id, h.seen)

restores-skipped : (e : Entry) (es : List Entry) (old mid new : EntityState) → mid ≡ old → is_forgotten old e.0 ≡ true → RestoresAll es mid new → RestoresAll (e ∷ es) old new
restores-skipped e es old mid new same gone t = subst (λ (o : EntityState). RestoresAll (e ∷ es) o new) same (record {
  config = t.config;
  next = t.next;
  forgotten = t.forgotten;
  policy = t.policy;
  files = t.files;
  stood = t.stood;
  added = t.added;
  records = t.records;
  distinct = t.distinct;
  apart = t.apart;
  timed = t.timed;
  back = λ stands. inr (ap (λ f. set.contains f e.0) (t.forgotten ∙ ap (λ (o : EntityState). o.forgotten) same) ∙ gone, t.back stands);
})

restores-all : (es : List Entry) (old new : EntityState) → RestoresEach es old new → RestoresAll es old new
restores-all [] old new same = subst (λ (e : EntityState). RestoresAll [] old e) (sym same) (restores-none old)
restores-all (e ∷ es) old new (mid, (inl one, rest)) = restores-one e es old mid new (restores e.1 old mid one) (restores-all es mid new rest)
restores-all (e ∷ es) old new (mid, (inr skipped, rest)) = restores-skipped e es old mid new skipped.0 skipped.1 (restores-all es mid new rest)

-- what is restored at an index, and where it was
record IsFrom (sources : FileMap) (es : List Entry) (d : Entry) : Type 0 where
  pub place : ℕ
  pub e : Entry
  pub there : slice_get es place ≡ Some e
  pub from : IsBackFrom sources e d

later-from : (sources : FileMap) (e : Entry) (es : List Entry) (d : Entry) → IsFrom sources es d → IsFrom sources (e ∷ es) d
later-from sources e es d r = record { place = suc r.place; e = r.e; there = r.there; from = r.from }

no-entry : (ds : List Entry) (place : ℕ) (d : Entry) → ds ≡ [] → slice_get ds place ≡ Some d → ⊥
no-entry ds place d none at = (let it : slice_get [] place ≡ Some d = subst (λ (l : List Entry). slice_get l place ≡ Some d) none at in cc)

module _ (gone : TransactionId → Bool) (sources : FileMap) where
  back-at : (es ds : List Entry) → AreBackFrom gone sources es ds → (place : ℕ) (d : Entry) → slice_get ds place ≡ Some d → IsFrom sources es d
  back-at [] ds all place d at = absurd (no-entry ds place d all at)
  back-at (e ∷ es) ds (inl (x, rest, is, (one, all))) place d at = by (back-at es rest all) place (subst (λ (l : List Entry). slice_get l place ≡ Some d) is at)
    where
      by : ((n : ℕ) (y : Entry) → slice_get rest n ≡ Some y → IsFrom sources es y) → (n : ℕ) → slice_get (x ∷ rest) n ≡ Some d → IsFrom sources (e ∷ es) d
      by more zero there = (let same : x ≡ d = cc in record { place = 0; e = e; there = refl; from = subst (IsBackFrom sources e) same one })
      by more (suc n) there = later-from sources e es d (more n d there)
  back-at (e ∷ es) ds (inr (skipped, all)) place d at = later-from sources e es d (back-at es ds all place d at)

-- each entry has its transaction
abbrev AreOwn : List Entry → Type 0
AreOwn es = (place : ℕ) (e : Entry) → slice_get es place ≡ Some e → (addressing_of e.1).id ≡ e.0

open-cond : (b : Bool) (s t : Seen) (o p : Option Seen) → open_in s ≡ open_in t → open_of o ≡ open_of p → open_of (cond b (Some s) o) ≡ open_of (cond b (Some t) p)
open-cond true s t o p one rest = one
open-cond false s t o p one rest = rest

-- a transaction that isn't forgotten may be finished as before
module _ (gone : TransactionId → Bool) (sources : FileMap) (id : TransactionId) (unknown : gone id ≡ false) where
  other-id : (q : TransactionId) → gone q ≡ true → same_id id q ≡ false
  other-id q forgotten = elim (same_id id q) as (λ t. same_id id q ≡ t → same_id id q ≡ false) [
    | true ↦ λ t. absurd (cc (sym unknown ∙ ap gone (same_id-true id q t) ∙ forgotten))
    | false ↦ λ t. t
  ] refl

  open-same : (es ds : List Entry) → AreOwn es → AreBackFrom gone sources es ds → open_of (record_of id ds) ≡ open_of (record_of id es)
  open-same [] ds own none = ap (λ (l : List Entry). open_of (record_of id l)) none
  open-same (e ∷ es) ds own (inl (d, rest, is, (one, all))) =
      ap (λ (l : List Entry). open_of (record_of id l)) is
      ∙ ap (λ (k : TransactionId). open_of (cond (same_id id k) (Some d.1) (record_of id rest))) (one.key ∙ own 0 e refl)
      ∙ open-cond (same_id id e.0) d.1 e.1 (record_of id rest) (record_of id es) one.finishes (open-same es rest (λ n. own (suc n)) all)
  open-same (e ∷ es) ds own (inr (skipped, all)) =
      open-same es ds (λ n. own (suc n)) all
      ∙ ap (λ b. open_of (cond b (Some e.1) (record_of id es))) (sym (other-id e.0 skipped))

no-more : (n : ℕ) → n ≡ 0 → 0 < n → ⊥
no-more n none some = omega (arith, none, some)

false-if : (a b : Bool) → (a ≡ true → b ≡ true) → b ≡ false → a ≡ false
false-if true b more none = absurd (false≢true (sym none ∙ more refl))
false-if false b more none = refl

-- ---- the entity
module _ (put_of : TransactionId → Option Put) (heard : List (List ℕ)) (first : FileMap) (old begun new : EntityState) (told : List Indication) (gone : ℕ) (sound : IsSound put_of heard first old) (b : BeginsAs old begun)
    (all : RestoresAll old.table.records begun new) (stands : IsTrue new.table.stands) (staged : AreStagedAgain old.table.records new.table.records) (left : IsLeftOf old told) where
  own : AreOwn old.table.records
  own = sound.once.own

  is-added : new.table.records ≡ all.added
  is-added = all.records ∙ ap (λ (l : List Entry). l ++ all.added) b.none

  backs : AreBackFrom (is_forgotten new) new.table.sources old.table.records new.table.records
  backs = subst (λ (l : List Entry). AreBackFrom (is_forgotten new) new.table.sources old.table.records l) (sym is-added) (all.back stands)

  sources-same : new.table.sources ≡ old.table.sources
  sources-same = (all.stood stands).1 ∙ b.sources

  more-forgotten : (id : TransactionId) → is_forgotten old id ≡ true → is_forgotten new id ≡ true
  more-forgotten id was = ap (λ s. set.contains s id) all.forgotten ∙ b.forgotten id was

  unended-so : (id : TransactionId) (g : Bool) → is_forgotten new id ≡ g → 0 < may_finish (is_forgotten new) id new.table.records → finished_count id told ≡ 0
  unended-so id true is some = absurd (no-more _ (ap (λ c. if c then 0 else open_of (record_of id new.table.records)) is) some)
  unended-so id false is some =
      left.unended id (subst (λ n. 0 < n) (may-same (false-if _ _ (more-forgotten id) is)) some)
    where
      may-same : is_forgotten old id ≡ false → may_finish (is_forgotten new) id new.table.records ≡ may_finish (is_forgotten old) id old.table.records
      may-same was = ap₂ (λ (g : Bool) (n : ℕ). if g then 0 else n) (is ∙ sym was) (open-same (is_forgotten new) new.table.sources id is old.table.records new.table.records own backs)

  begun-timed : AreTimed begun.table
  begun-timed = timed-alike (first_table old.table.sources old.table.files old.table.policy) begun.table (sym b.unarmed) (sym b.none) (first-timed old.table.sources old.table.files old.table.policy)

  begun-distinct : IsDistinct same_id (keys_of begun.table.records)
  unfolding IsDistinct
  begun-distinct = subst (λ (l : List Entry). IsDistinct same_id (keys_of l)) (sym b.none) tt

  each-back : (place : ℕ) (d : Entry) → slice_get new.table.records place ≡ Some d → ComesBack old.table.sources old.table.records d
  each-back place d there =
      let at : IsFrom new.table.sources old.table.records d = back-at (is_forgotten new) new.table.sources old.table.records new.table.records backs place d there in
      let key : d.0 ≡ at.e.0 = at.from.key ∙ own at.place at.e at.there in
      let was : slice_get old.table.records at.place ≡ Some (d.0, at.e.1) = at.there ∙ ap (λ (id : TransactionId). Some (id, at.e.1)) (sym key) in
      record {
        place = at.place;
        before = at.e.1;
        was = was;
        restored = subst (λ (f : FileMap). IsRestored f at.e.1 d.1) sources-same (at.from.back (staged at.place place d.0 at.e.1 d.1 was there));
      }

  restored-resumes : IsResumed old (with_told told gone new)
  restored-resumes = record {
    valid = subst IsConfig (sym all.config) b.valid;
    own = ap (λ (c : EntityConfig). c.entity) all.config ∙ b.own;
    peer = ap (λ (c : EntityConfig). c.peer) all.config ∙ b.peer;
    policy = all.policy ∙ b.policy ∙ ap (λ (c : EntityConfig). c.policy) (sym all.config);
    next = subst (λ n. old.next ≤ n) (sym all.next) b.next;
    sources = sources-same;
    files = all.files ∙ b.files;
    records = each-back;
    distinct = all.distinct begun-distinct;
    apart = all.apart (λ id is. ap (record_of id) b.none);
    told = left.some;
    published = left.published;
    ended = λ place d there.
        (let at : IsFrom new.table.sources old.table.records d = back-at (is_forgotten new) new.table.sources old.table.records new.table.records backs place d there in
        at.from.said told (left.ended at.place at.e at.there));
    unended = λ id some. unended-so id (is_forgotten new id) refl some;
    timed = timed-alike new.table (with_told told gone new).table refl refl (all.timed begun-timed);
  }

pub resumes-one-by-one : (put_of : TransactionId → Option Put) (heard : List (List ℕ)) (first : FileMap) (old begun mid : EntityState) (told : List Indication) (gone : ℕ) → IsSound put_of heard first old → BeginsAs old begun →
    RestoresEach old.table.records begun mid → IsTrue mid.table.stands → AreStagedAgain old.table.records mid.table.records → IsLeftOf old told → IsResumed old (with_told told gone mid)
resumes-one-by-one put_of heard first old begun mid told gone sound b each stands staged left =
    restored-resumes put_of heard first old begun mid told gone sound b (restores-all old.table.records begun mid each) stands staged left

-- all that was indicated
pub all-left : (put_of : TransactionId → Option Put) (heard : List (List ℕ)) (first : FileMap) (old : EntityState) → IsSound put_of heard first old → IsLeftOf old old.table.told
all-left put_of heard first old sound = record {
  some = some-all old.table.told;
  published = refl;
  ended = sound.tells.indicated;
  unended = λ id some. (let once : finished_count id old.table.told + may_finish (is_forgotten old) id old.table.records ≤ 1 = sound.once.once id in omega (arith, once, some));
}
