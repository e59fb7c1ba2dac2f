-- What an entity makes of the PDUs that it hears, if nothing goes wrong: it indicates nothing bad,
-- gives up nothing, and drops nothing except for lack of room.
use Rattle.std.proofs.Common.{◌≡◌, ◌≢◌, ℕ, zero, suc, ◌-◌, ◌^◌, ◌<◌, ◌≤◌, Bool, true, false, List, [], ◌∷◌, ◌++◌, length, get_or, slice_get, take, Option, Some, None, ◌⊎◌, inl, inr, refl, sym, ap, subst, ◌∙◌, arith}
use Rattle.std.specs.List.{list_any}
use Rattle.std.specs.FinMap as map
use Rattle.std.proofs.lemmas.Bool.{or_parts, or_from}
use Rattle.std.proofs.lemmas.List.{get_or-set_other}
use Rattle.std.proofs.lemmas.List.Quantifiers.{position-Some}
use Rattle.cfdp_header.specs.declared.value.Direction.TheVariants.{TowardReceiver}
use Rattle.cfdp_header.specs.declared.value.Header.{Header}
use Rattle.cfdp_header.specs.declared.value.TransactionId.{TransactionId}
use Rattle.cfdp_header.specs.Files.{FileMap}
use Rattle.cfdp_header.specs.Ids.{same_id}
use Rattle.cfdp_directives.specs.declared.pdu.addressing.Addressing.{Addressing}
use Rattle.cfdp_directives.specs.declared.pdu.codes.Acknowledged.TheVariants as acknowledged
use Rattle.cfdp_directives.specs.declared.user.limits.Times.{Times}
use Rattle.cfdp_directives.specs.Pdu.Addressing.{addressing_of as addressing_in}
use Rattle.cfdp_directives.specs.Pdu.Codes.{is_large, size_limit}
use Rattle.cfdp_directives.specs.Pdu.Content.{Content, FileData, Metadata, Eof, Finished, Ack, Nak, Prompt, KeepAlive}
use Rattle.cfdp_directives.specs.Pdu.Direction.{direction_of}
use Rattle.cfdp_directives.specs.User.Put.{Put, IsTruthful}
use Rattle.cfdp_directives.proofs.FileSizes.{own_allows}
use Rattle.cfdp_store.specs.declared.stored.Stored.{Stored}
use Rattle.cfdp_store.specs.declared.stored.Stored.TheVariants.{Done, Refused}
use Rattle.cfdp_store.specs.Staged.{OctetMap}
use Rattle.cfdp_store.specs.Stores.{Counts}
use Rattle.cfdp_sender.specs.declared.phase.SenderPhase.{SenderPhase}
use Rattle.cfdp_sender.specs.declared.phase.SenderPhase.TheVariants as sending
use Rattle.cfdp_sender.specs.State.{SenderState}
use Rattle.cfdp_sender.specs.Steps.{SenderAfter}
use Rattle.cfdp_receiver.specs.Sound.{ReceiverInput, Hears, Sound, receiver_hears, receiver_step, is_file_fault, IsReceivable, IsTrueInput, BeginsWithin, IsAmong}
use Rattle.cfdp_receiver.specs.State.{ReceiverState, opened_receiver}
use Rattle.cfdp_receiver.specs.Steps.{ReceiverAfter, opens as opens_receiver}
use Rattle.cfdp_entity.specs.declared.error.EntityDrop.{EntityDrop}
use Rattle.cfdp_entity.specs.declared.error.EntityDrop.TheVariants as drops
use Rattle.cfd_bits.specs.Counting.{raised}
use Rattle.cfdp_entity.specs.Entity.{EntityState, Counted, counted}
use Rattle.cfdp_entity.specs.Errors.{drop_number}
use Rattle.cfdp_entity.specs.History as history
use Rattle.cfdp_entity.specs.Opening.{opens, opens_by, closing, error_of}
use Rattle.cfdp_entity.specs.Seen.{Seen, Sends, Receives}
use Rattle.cfdp_entity.specs.Steps.{After, Spoils, hears, sender_after, receiver_after, if_sender, if_receiver}
use Rattle.cfdp_entity.specs.Table.{Entry, TableState, SpoiledAt, place_of, step_of, with_record}
use Rattle.cfdp_entity.specs.Truth.{KnowsTruth, IsTrueTable}
use Rattle.cfdp_entity.proofs.CallerLemmas.{same_id-true}
use Rattle.cfdp_entity.proofs.Sparing.{spoils-receives}
use Rattle.link_sim.specs.Between.{Pdu}
use Rattle.link_sim.specs.Clean.{is_cancelling, is_cancelling_in, is_bad}
use Rattle.link_sim.specs.Exchange.{IsTrueForth, IsTrueBack}
use Rattle.link_sim.proofs.EveryPut.Routes.{StepsRecord, OpensRecord, DropsNew, SpoilsRecord, HeardSo}
use Rattle.link_sim.proofs.Clean.WellHeard.{GoesWell, hears-well, hears-back-well, asks-in-phase}

-- ---- lists
pub any-append : {X : Type 0} (p : X → Bool) (xs ys : List X) → list_any p xs ≡ false → list_any p ys ≡ false → list_any p (xs ++ ys) ≡ false
any-append p [] ys a b = b
any-append p (x ∷ xs) ys a b = let parts = or_parts (p x) (list_any p xs) a in or_from (p x) (list_any p (xs ++ ys)) parts.0 (any-append p xs ys parts.1 b)

any-at : {X : Type 0} (p : X → Bool) (xs : List X) (n : ℕ) (x : X) → list_any p xs ≡ false → slice_get xs n ≡ Some x → p x ≡ false
any-at p [] n x none at = absurd cc
any-at p (y ∷ ys) zero x none at = let is : y ≡ x = cc in ap p (sym is) ∙ (or_parts (p y) (list_any p ys) none).0
any-at p (y ∷ ys) (suc n) x none at = any-at p ys n x (or_parts (p y) (list_any p ys) none).1 at

-- ---- giving up
-- A record isn't given up, whatever its transaction.
abbrev pub IsKept : Seen → Type 0
IsKept s = (id : TransactionId) → is_cancelling (id, s) ≡ false

pub not-cancelling : (p : SenderPhase) → is_cancelling_in p ≡ false → p ≢ sending.Cancelling
not-cancelling sending.Sending none e = cc
not-cancelling sending.Cancelling none e = cc
not-cancelling sending.Closed none e = cc

pub uncancelling : (p : SenderPhase) → p ≢ sending.Cancelling → is_cancelling_in p ≡ false
uncancelling sending.Sending not_ = refl
uncancelling sending.Cancelling not_ = absurd (not_ refl)
uncancelling sending.Closed not_ = refl

kept-seen : (s : Seen) (id : TransactionId) → is_cancelling (id, s) ≡ false → IsKept s
kept-seen (Sends x) id none q = none
kept-seen (Receives r m) id none q = refl

-- the entries of a table with another record at a place
abbrev pub set_at : TableState → List Entry → ℕ → Seen → List Entry
set_at st xs place s = (history.table_step (history.Spoils place (Prompt true) s) (record st { records = xs })).records

kept-set : (st : TableState) (xs : List Entry) (place : ℕ) (s : Seen) → IsKept s → list_any is_cancelling xs ≡ false → list_any is_cancelling (set_at st xs place s) ≡ false
kept-set st [] place s kept none = refl
kept-set st (x ∷ xs) zero s kept none = or_from (is_cancelling (x.0, s)) (list_any is_cancelling xs) (kept x.0) (or_parts (is_cancelling x) (list_any is_cancelling xs) none).1
kept-set st (x ∷ xs) (suc n) s kept none =
    let parts = or_parts (is_cancelling x) (list_any is_cancelling xs) none in
    or_from (is_cancelling x) (list_any is_cancelling (set_at st xs n s)) parts.0 (kept-set st xs n s kept parts.1)

pub kept-at : (xs : List Entry) (place : ℕ) (e : Entry) → list_any is_cancelling xs ≡ false → slice_get xs place ≡ Some e → IsKept e.1
kept-at xs place e none at = kept-seen e.1 e.0 (any-at is_cancelling xs place e none at)

-- ---- one step of one record
-- It indicated nothing bad, and isn't given up.
pub record StaysClean (a : After) : Type 0 where
  pub told : list_any is_bad a.told ≡ false
  pub kept : IsKept a.seen

-- So of a table.
pub record IsCleanTable (st : TableState) : Type 0 where
  pub told : list_any is_bad st.told ≡ false
  pub kept : list_any is_cancelling st.records ≡ false

pub step-clean : (f : Entry → After) (place : ℕ) (st : TableState) (o : Option Entry) → ((e : Entry) → o ≡ Some e → StaysClean (f e)) → IsCleanTable st → IsCleanTable (step_of f place o st)
step-clean f place st None steps k = k
step-clean f place st (Some e) steps k =
    let s : StaysClean (f e) = steps e refl in
    record { told = any-append is_bad st.told (f e).told k.told s.told; kept = kept-set st st.records place (f e).seen s.kept k.kept }

push-clean : (id : TransactionId) (a : After) (st : TableState) → StaysClean a → IsCleanTable st → IsCleanTable (with_record id a st)
push-clean id a st s k = record {
  told = any-append is_bad st.told a.told k.told s.told;
  kept = any-append is_cancelling st.records ((id, a.seen) ∷ []) k.kept (or_from (is_cancelling (id, a.seen)) false (s.kept id) refl);
}

-- ---- what comes of a put that goes well
-- The laws of a receiver that are used.
pub record HearingLaws : Type 0 where
  pub faultless : (put : Put) (heard : List (List ℕ)) (stored : Stored) (input : ReceiverInput) (m : OctetMap) (files : FileMap) (r : ReceiverState) → IsReceivable put → IsTrueInput put heard input →
      BeginsWithin put input → Sound put heard r m →
      list_any is_file_fault (receiver_step stored input m files r).told ≡ false
  pub opened : (put : Put) (heard : List (List ℕ)) (stored : Stored) (large : Bool) (files : FileMap) (addressing : Addressing) →
      Sound put heard (opens_receiver stored large files addressing).receiver (opens_receiver stored large files addressing).octets

-- Toward a receiver it says the truth of a put that can be received, and its large file flag allows the file's size.
abbrev pub IsFineForth : Put → Pdu → Type 0
IsFineForth put p = IsTrueForth put p.1 × IsReceivable put × (length put.octets ≤ size_limit p.0.large)

-- A PDU says the truth of its put to the one that hears it, and was heard.
pub record IsFine (put_of : TransactionId → Option Put) (heard : List (List ℕ)) (p : Pdu) : Type 0 where
  pub put : Put
  pub is_put : put_of p.0.id ≡ Some put
  pub says : IsFineForth put p ⊎ IsTrueBack p.1
  pub truth : IsTruthful put p.1 × IsAmong put heard p.1

-- such a PDU goes toward the receiver
pub forth-away : (put : Put) (v : Content) → IsTrueForth put v → direction_of v ≡ TowardReceiver
forth-away put (FileData offset bytes) t = refl
forth-away put (Metadata kind size source destination options) t = refl
forth-away put (Eof condition checksum size tlvs) t = refl
forth-away put (Prompt keep_alive) t = refl
forth-away put (Ack acknowledged.Finished condition status) t = refl
forth-away put (Ack acknowledged.Eof condition status) t = absurd t
forth-away put (Finished condition delivery status tlvs) t = absurd t
forth-away put (Nak start end pairs) t = absurd t
forth-away put (KeepAlive progress) t = absurd t

-- what a receiver hears, a sender doesn't
forth-none : (put : Put) (v : Content) (x : SenderState) → IsTrueForth put v → sender_after v x ≡ None
forth-none put (FileData offset bytes) x t = refl
forth-none put (Metadata kind size source destination options) x t = refl
forth-none put (Eof condition checksum size tlvs) x t = refl
forth-none put (Prompt keep_alive) x t = refl
forth-none put (Ack acknowledged.Finished condition status) x t = refl
forth-none put (Ack acknowledged.Eof condition status) x t = absurd t
forth-none put (Finished condition delivery status tlvs) x t = absurd t
forth-none put (Nak start end pairs) x t = absurd t
forth-none put (KeepAlive progress) x t = absurd t

back-none : (large : Bool) (v : Content) (m : OctetMap) (files : FileMap) (r : ReceiverState) → IsTrueBack v → receiver_after Done large v m files r ≡ None
back-none large (Finished condition delivery status tlvs) m files r t = refl
back-none large (Ack acknowledged.Eof condition status) m files r t = refl
back-none large (Nak start end pairs) m files r t = refl
back-none large (KeepAlive progress) m files r t = refl
back-none large (Ack acknowledged.Finished condition status) m files r t = absurd t
back-none large (FileData offset bytes) m files r t = absurd t
back-none large (Metadata kind size source destination options) m files r t = absurd t
back-none large (Eof condition checksum size tlvs) m files r t = absurd t
back-none large (Prompt keep_alive) m files r t = absurd t

pub forth-some : (put : Put) (large : Bool) (v : Content) (m : OctetMap) (files : FileMap) (r : ReceiverState) → IsTrueForth put v →
    receiver_after Done large v m files r ≡ Some (receiver_hears Done large v m files r)
forth-some put large (FileData offset bytes) m files r t = refl
forth-some put large (Metadata kind size source destination options) m files r t = refl
forth-some put large (Eof condition checksum size tlvs) m files r t = refl
forth-some put large (Prompt keep_alive) m files r t = refl
forth-some put large (Ack acknowledged.Finished condition status) m files r t = refl
forth-some put large (Ack acknowledged.Eof condition status) m files r t = absurd t
forth-some put large (Finished condition delivery status tlvs) m files r t = absurd t
forth-some put large (Nak start end pairs) m files r t = absurd t
forth-some put large (KeepAlive progress) m files r t = absurd t

-- the flag of a file's size allows that size
pub flag-allows : (large : Bool) (n : ℕ) → large ≡ is_large n → n ≤ size_limit true → n ≤ size_limit large
flag-allows large n is most = subst (λ b. n ≤ size_limit b) (sym is) (own_allows n most)

pub begins-within : (put : Put) (large : Bool) (v : Content) → length put.octets ≤ size_limit large → IsTrueForth put v → BeginsWithin put (Hears large v)
begins-within put large (FileData offset bytes) allowed t = (omega (arith, t), allowed)
begins-within put large (Metadata kind size source destination options) allowed t = tt
begins-within put large (Eof condition checksum size tlvs) allowed t = allowed
begins-within put large (Prompt keep_alive) allowed t = tt
begins-within put large (Ack of condition status) allowed t = tt
begins-within put large (Finished condition delivery status tlvs) allowed t = tt
begins-within put large (Nak start end pairs) allowed t = tt
begins-within put large (KeepAlive progress) allowed t = tt

pub closing-none : (put : Put) (v : Content) → IsTrueForth put v → closing v ≡ None
closing-none put (FileData offset bytes) t = refl
closing-none put (Metadata kind size source destination options) t = refl
closing-none put (Eof condition checksum size tlvs) t = ap error_of t.0
closing-none put (Prompt keep_alive) t = refl
closing-none put (Ack of condition status) t = refl
closing-none put (Finished condition delivery status tlvs) t = absurd t
closing-none put (Nak start end pairs) t = absurd t
closing-none put (KeepAlive progress) t = absurd t

back-closing : (v : Content) → IsTrueBack v → closing v ≡ None
back-closing (Finished condition delivery status tlvs) t = refl
back-closing (Ack of condition status) t = refl
back-closing (Nak start end pairs) t = refl
back-closing (KeepAlive progress) t = refl
back-closing (FileData offset bytes) t = absurd t
back-closing (Metadata kind size source destination options) t = absurd t
back-closing (Eof condition checksum size tlvs) t = absurd t
back-closing (Prompt keep_alive) t = absurd t

same-put : (p q : Put) → Some p ≡ Some q → p ≡ q
same-put p q is = cc

some-none : {X : Type 0} (x : X) → Some x ≡ None → ⊥
some-none x e = cc

-- the entry at the place of a transaction is its own
pub slice-or : (xs : List Entry) (n : ℕ) (d e : Entry) → slice_get xs n ≡ Some e → get_or xs n d ≡ e
slice-or [] n d e at = absurd cc
slice-or (x ∷ xs) zero d e at = let is : x ≡ e = cc in is
slice-or (x ∷ xs) (suc n) d e at = slice-or xs n d e at

pub key-there : (id : TransactionId) (records : List Entry) (place : ℕ) (e : Entry) → place_of id records ≡ Some place → slice_get records place ≡ Some e → id ≡ e.0
key-there id records place e is at =
    let found : same_id id (get_or records place e).0 ≡ true = (position-Some (λ (d : Entry). same_id id d.0) records place e is).1 in
    same_id-true id e.0 (ap (λ (d : Entry). same_id id d.0) (sym (slice-or records place e e at)) ∙ found)

-- a call of the inbox that failed would show
pub was-done : (s : Stored) (before after : ℕ) → Counts s before after → after ≡ before → before < 2 ^ 64 - 1 → s ≡ Done
was-done Done before after c same low = refl
was-done Refused before after c same low = absurd (let more : before < after = c.1 low in omega (arith, more, same))

-- An entity's table is clean still, and no more was dropped but of three causes.
pub record HearsClean (old new : EntityState) : Type 0 where
  pub table : IsCleanTable new.table
  pub drops : (n : ℕ) → n ≢ 14 → n ≢ 15 → n ≢ 16 → get_or new.drops n 0 ≡ get_or old.drops n 0

module _ (laws : HearingLaws) (put_of : TransactionId → Option Put) (heard : List (List ℕ)) where
  module _ (times : Times) (files : FileMap) (p : Pdu) (fine : IsFine put_of heard p) where
    sender-clean : (x : SenderState) (o : Option SenderAfter) → sender_after p.1 x ≡ o → x.phase ≢ sending.Cancelling → IsFineForth fine.put p ⊎ IsTrueBack p.1 →
        StaysClean (if_sender times files x o)
    sender-clean x None is not_ says = record { told = refl; kept = λ id. uncancelling x.phase not_ }
    sender-clean x (Some a) is not_ (inl forth) = absurd (some-none a (sym is ∙ forth-none fine.put p.1 x forth.0))
    sender-clean x (Some a) is not_ (inr back) =
        let w : GoesWell a = hears-back-well p.1 x a back is not_ in
        record { told = w.told; kept = λ id. uncancelling a.sender.phase w.uncancelled }

    receiver-clean : (r : ReceiverState) (m : OctetMap) → Sound fine.put heard r m → IsFineForth fine.put p ⊎ IsTrueBack p.1 →
        StaysClean (if_receiver times files r m (receiver_after Done p.0.large p.1 m files r))
    receiver-clean r m sound (inl forth) =
        let faults : list_any is_file_fault (receiver_hears Done p.0.large p.1 m files r).told ≡ false =
        laws.faultless fine.put heard Done (Hears p.0.large p.1) m files r forth.1 fine.truth (begins-within fine.put p.0.large p.1 forth.2 forth.0) sound in
        let good : list_any is_bad (receiver_hears Done p.0.large p.1 m files r).told ≡ false = hears-well m files r p.0.large fine.put p.1 forth.0 faults in
        subst (λ (o : Option ReceiverAfter). StaysClean (if_receiver times files r m o)) (sym (forth-some fine.put p.0.large p.1 m files r forth.0)) (record { told = good; kept = λ id. refl })
    receiver-clean r m sound (inr back) =
        subst (λ (o : Option ReceiverAfter). StaysClean (if_receiver times files r m o)) (sym (back-none p.0.large p.1 m files r back)) (record { told = refl; kept = λ id. refl })

    pub hears-clean : (own : ℕ) (s : Seen) → KnowsTruth own put_of heard p.0.id s → IsKept s → StaysClean (hears Done times files p.0.large p.1 s)
    hears-clean own (Sends x) knows kept = sender-clean x (sender_after p.1 x) refl (not-cancelling x.phase (kept p.0.id)) fine.says
    hears-clean own (Receives r m) knows kept =
        receiver-clean r m (subst (λ (q : Put). Sound q heard r m) (same-put knows.put fine.put (sym knows.is_put ∙ fine.is_put)) knows.sound) fine.says

    opens-clean : (a : Addressing) → StaysClean (opens Done Done times files p.0.large p.1 a)
    opens-clean a =
        let none : closing p.1 ≡ None = elim fine.says [ inl forth ↦ closing-none fine.put p.1 forth.0 | inr back ↦ back-closing p.1 back ] in
        subst (λ (o : Option ℕ). StaysClean (opens_by o Done Done times files p.0.large p.1 a)) (sym none)
        (receiver-clean (opened_receiver a) map.empty (laws.opened fine.put heard Done p.0.large files a) fine.says)

  -- ---- one PDU
  clean-table : (old new : EntityState) (t : TableState) → new.table ≡ t → new.drops ≡ old.drops → IsCleanTable t → HearsClean old new
  clean-table old new t is same k = record { table = subst IsCleanTable (sym is) k; drops = λ n a b c. ap (λ l. get_or l n 0) same }

  others-stay : (by : EntityDrop) (xs : List ℕ) (n : ℕ) → (drop_number by ≡ 14) ⊎ ((drop_number by ≡ 15) ⊎ (drop_number by ≡ 16)) → n ≢ 14 → n ≢ 15 → n ≢ 16 → get_or (counted by xs) n 0
      ≡ get_or xs n 0
  others-stay by xs n kinds a b c = get_or-set_other xs (drop_number by) n (raised (get_or xs (drop_number by) 0)) 0 (apart kinds)
    where
      apart : (drop_number by ≡ 14) ⊎ ((drop_number by ≡ 15) ⊎ (drop_number by ≡ 16)) → n ≢ drop_number by
      apart (inl is) e = a (e ∙ is)
      apart (inr (inl is)) e = b (e ∙ is)
      apart (inr (inr is)) e = c (e ∙ is)

  spoils-kept : (v : Content) (s t : Seen) → Spoils v s t → IsKept s → IsKept t
  spoils-kept v (Receives r m) t h kept = subst IsKept (sym (spoils-receives v r m t h).1.0) (λ id. refl)
  spoils-kept (Nak start end pairs) (Sends x) t h kept =
      subst IsKept (sym h.1) (λ id. ap is_cancelling_in (asks-in-phase x.phase (take h.0 pairs) x) ∙ kept id)
  spoils-kept (Ack of condition status) (Sends x) t h kept = subst IsKept (sym h) kept
  spoils-kept (Finished condition delivery status tlvs) (Sends x) t h kept = subst IsKept (sym h) kept
  spoils-kept (KeepAlive progress) (Sends x) t h kept = subst IsKept (sym h) kept
  spoils-kept (Metadata kind size source destination options) (Sends x) t h kept = subst IsKept (sym h) kept
  spoils-kept (FileData offset bytes) (Sends x) t h kept = subst IsKept (sym h) kept
  spoils-kept (Eof condition checksum size tlvs) (Sends x) t h kept = subst IsKept (sym h) kept
  spoils-kept (Prompt keep_alive) (Sends x) t h kept = subst IsKept (sym h) kept

  set-nowhere : (st : TableState) (xs : List Entry) (place : ℕ) (s : Seen) → slice_get xs place ≡ None → set_at st xs place s ≡ xs
  set-nowhere st [] place s at = refl
  set-nowhere st (x ∷ xs) zero s at = absurd cc
  set-nowhere st (x ∷ xs) (suc n) s at = ap (λ ys. x ∷ ys) (set-nowhere st xs n s at)

  spoiled-clean : (place : ℕ) (v : Content) (old new : TableState) → SpoiledAt place v old new → IsCleanTable old → IsCleanTable new
  spoiled-clean place v old new h k =
      subst IsCleanTable (sym h.table) (record { told = k.told; kept = by (slice_get old.records place) refl })
    where
      by : (o : Option Entry) → slice_get old.records place ≡ o → list_any is_cancelling (set_at old old.records place h.seen) ≡ false
      by None at = ap (list_any is_cancelling) (set-nowhere old old.records place h.seen at) ∙ k.kept
      by (Some e) at = kept-set old old.records place h.seen (spoils-kept v e.1 h.seen (h.spoils e at) (kept-at old.records place e k.kept at)) k.kept

  module _ (first : FileMap) (own : ℕ) (p : Pdu) (fine : IsFine put_of heard p) (old new : Counted) (knows : IsTrueTable own put_of heard first old.state.table)
      (same : new.inbox_failures ≡ old.inbox_failures) (low : old.inbox_failures < 2 ^ 64 - 1) (k : IsCleanTable old.state.table) where
    stepped : StepsRecord p.0 p.1 old new → HearsClean old.state new.state
    stepped s =
        let st : TableState = old.state.table in
        let done : s.steps.stored ≡ Done = was-done s.steps.stored old.inbox_failures new.inbox_failures s.steps.counts same low in
        clean-table old.state new.state _ (ap (λ (e : EntityState). e.table) s.steps.steps) (ap (λ (e : EntityState). e.drops) s.steps.steps)
        (step-clean (λ (e : Entry). hears s.steps.stored st.policy.times st.files p.0.large p.1 e.1) s.place st (slice_get st.records s.place)
        (λ e at. subst (λ (t : Stored). StaysClean (hears t st.policy.times st.files p.0.large p.1 e.1)) (sym done)
        (hears-clean st.policy.times st.files p fine own e.1
        (subst (λ (i : TransactionId). KnowsTruth own put_of heard i e.1) (sym (key-there p.0.id st.records s.place e s.at at)) (knows.knows s.place e at))
        (kept-at st.records s.place e k.kept at))) k)

    opened : OpensRecord p.0 p.1 old new → HearsClean old.state new.state
    opened o =
        let st : TableState = old.state.table in
        let a : Addressing = addressing_in p.0 in
        let begun : o.opens.begun ≡ Done = was-done o.opens.begun old.inbox_failures new.inbox_failures o.opens.counts.0 same low in
        let done : o.opens.stored ≡ Done = was-done o.opens.stored old.inbox_failures new.inbox_failures o.opens.counts.1 same low in
        let clean : StaysClean (opens o.opens.begun o.opens.stored st.policy.times st.files p.0.large p.1 a) =
        subst (λ (b : Stored). StaysClean (opens b o.opens.stored st.policy.times st.files p.0.large p.1 a)) (sym begun)
        (subst (λ (b : Stored). StaysClean (opens Done b st.policy.times st.files p.0.large p.1 a)) (sym done) (opens-clean st.policy.times st.files p fine a)) in
        clean-table old.state new.state _ (ap (λ (e : EntityState). e.table) o.opens.opens) (ap (λ (e : EntityState). e.drops) o.opens.opens)
        (push-clean a.id (opens o.opens.begun o.opens.stored st.policy.times st.files p.0.large p.1 a) st clean k)

    unheard : DropsNew p.0 p.1 old new → HearsClean old.state new.state
    unheard d = record {
      table = subst IsCleanTable (sym (ap (λ (e : EntityState). e.table) d.is)) k;
      drops = λ n a b c. ap (λ (e : EntityState). get_or e.drops n 0) d.is ∙ others-stay d.by old.state.drops n d.kinds a b c;
    }

    spoiled : SpoilsRecord p.0 p.1 old new → HearsClean old.state new.state
    spoiled s = record {
      table = spoiled-clean s.place p.1 old.state.table new.state.table s.finds.spoiled k;
      drops = λ n a b c. ap (λ (e : EntityState). get_or e.drops n 0) s.finds.counted ∙ others-stay drops.NoMemory old.state.drops n (inr (inr refl)) a b c;
    }

    pub heard-clean : HeardSo p.0 p.1 old new → HearsClean old.state new.state
    heard-clean (inl s) = stepped s
    heard-clean (inr (inl o)) = opened o
    heard-clean (inr (inr (inl d))) = unheard d
    heard-clean (inr (inr (inr s))) = spoiled s

-- No failure of the inbox is taken back.
pub counts-grow : (s : Stored) (before after : ℕ) → Counts s before after → before ≤ after
counts-grow Done before after c = c
counts-grow Refused before after c = c.0

pub heard-grows : (h : Header) (v : Content) (old new : Counted) → HeardSo h v old new → old.inbox_failures ≤ new.inbox_failures
heard-grows h v old new (inl s) = counts-grow s.steps.stored old.inbox_failures new.inbox_failures s.steps.counts
heard-grows h v old new (inr (inl o)) = counts-grow o.opens.begun old.inbox_failures new.inbox_failures o.opens.counts.0
heard-grows h v old new (inr (inr (inl d))) = d.grows
heard-grows h v old new (inr (inr (inr s))) = (let same = s.finds.inbox in omega (arith, same))
