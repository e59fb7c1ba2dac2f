-- What a journal would keep of a station is restored on a new one.
use Rattle.std.proofs.Common.{◌≡◌, ◌≤◌, inl, inr, ℕ, zero, suc, List, [], ◌∷◌, ◌++◌, slice_get, map, Option, Some, IsTrue, refl, sym, ap, subst, ◌∙◌}
use Rattle.std.specs.FinSet as set
use Rattle.std.specs.Ordering.{nat_cmp}
use Rattle.std.proofs.lemmas.Bool.{false≢true}
use Rattle.cfdp_header.specs.declared.value.TransactionId.{TransactionId}
use Rattle.cfdp_header.specs.Files.{FileMap}
use Rattle.cfdp_directives.specs.declared.user.indication.Indication.{Indication}
use Rattle.cfdp_directives.specs.User.Put.{Put}
use Rattle.cfdp_extents.specs.Offsets.{Offsets}
use Rattle.cfdp_directives.specs.declared.pdu.sums.Checksums.{Checksums}
use Rattle.cfdp_receiver.specs.declared.restoring.CommittedReceiver.{CommittedReceiver}
use Rattle.cfdp_receiver.specs.declared.state.ReceiverPhase.{ReceiverPhase}
use Rattle.cfdp_receiver.specs.declared.state.ReceiverPhase.TheVariants as receiving
use Rattle.cfdp_receiver.specs.Back.{received_in}
use Rattle.cfdp_entity.specs.declared.config.EntityConfig.{EntityConfig}
use Rattle.cfdp_entity.specs.declared.record.Record.{Record}
use Rattle.cfdp_entity.specs.Config.{IsConfig}
use Rattle.cfdp_entity.specs.Entity.{EntityState, first_entity}
use Rattle.cfdp_entity.specs.Exchanging.{with_told}
use Rattle.cfdp_entity.specs.Restoring.{Kept, OfReceiver, OfSender, all_kept, entry_kept, kept_of, record_kept}
use Rattle.cfdp_entity.specs.Seen.{Seen, Receives, Sends}
use Rattle.cfdp_entity.specs.Sound.{IsSound}
use Rattle.cfdp_entity.specs.Table.{Entry, TableState}
use Rattle.cfdp_resuming.specs.Entity.{IsResumed}
use Rattle.cfdp_resuming.specs.OneByOne.{AreStagedAgain, BeginsAs, IsLeftOf, IsStagedAgain, RestoresEach, RestoresEntry}
use Rattle.any_order.specs.Calls.{numbered_from}
use Rattle.any_order.specs.Restoring.{ComesBackFrom, RestoresAll, RestoresKept, goes_on_after}

-- ---- each record
restores-entry : (id : TransactionId) (s : Seen) (old new : EntityState) → RestoresKept id (kept_of s) old new → RestoresEntry (id, s) old new
restores-entry id (Sends x) old new (inl (is, shows)) = inl (goes_on_after x.phase x.sent, (is, shows))
restores-entry id (Sends x) old new (inr (closed, (same, gone))) = inr (same, gone)
restores-entry id (Receives r m) old new is = inl (set.empty, (λ k has. absurd (false≢true (sym (set.contains-empty nat_cmp k) ∙ has)), is))

pub restores-each : (es : List Entry) (old new : EntityState) → RestoresAll (map entry_kept es) old new → RestoresEach es old new
restores-each [] old new same = same
restores-each ((id, s) ∷ es) old new (mid, (first, rest)) = (mid, (restores-entry id s old mid first, restores-each es mid new rest))

-- ---- nothing is held
abbrev HoldsNone : Seen → Type 0
HoldsNone (Sends x) = Unit {0}
HoldsNone (Receives r m) = r.held ≡ set.empty

abbrev HoldNone : List Entry → Type 0
HoldNone [] = Unit {0}
HoldNone (e ∷ es) = HoldsNone e.1 × HoldNone es

hold-more : (es : List Entry) (e : Entry) → HoldNone es → HoldsNone e.1 → HoldNone (es ++ e ∷ [])
hold-more [] e none one = (one, tt)
hold-more (d ∷ es) e none one = (none.0, hold-more es e none.1 one)

hold-at : (es : List Entry) (place : ℕ) (e : Entry) → HoldNone es → slice_get es place ≡ Some e → HoldsNone e.1
hold-at [] place e none there = absurd cc
hold-at (d ∷ es) zero e none there = (let same : d ≡ e = cc in subst (λ (x : Entry). HoldsNone x.1) same none.0)
hold-at (d ∷ es) (suc n) e none there = hold-at es n e none.1 there

received-none : (p : ReceiverPhase) (sums : Checksums) (c : CommittedReceiver) → (received_in p set.empty sums c).held ≡ set.empty
received-none receiving.Receiving sums c = refl
received-none receiving.Finishing sums c = refl
received-none receiving.Closed sums c = refl

-- what one record leaves as it was
record Keeps (old new : EntityState) : Type 0 where
  pub next : new.next ≡ old.next
  pub none : HoldNone old.table.records → HoldNone new.table.records

keeps-one : (id : TransactionId) (k : Kept) (old new : EntityState) → RestoresKept id k old new → Keeps old new
keeps-one id (OfSender c sent) old new (inl (is, shows)) = record {
  next = ap (λ (e : EntityState). e.next) is.restored;
  none = λ none. subst HoldNone (sym (ap (λ (e : EntityState). e.table.records) is.restored)) (hold-more old.table.records _ none tt);
}
keeps-one id (OfSender c sent) old new (inr (closed, (same, gone))) = record {
  next = ap (λ (e : EntityState). e.next) same;
  none = λ none. subst HoldNone (sym (ap (λ (e : EntityState). e.table.records) same)) none;
}
keeps-one id (OfReceiver c held) old new is = record {
  next = ap (λ (e : EntityState). e.next) is.rest;
  none = λ none. subst HoldNone (sym (ap (λ (t : TableState). t.records) is.table.added)) (hold-more old.table.records _ none (received-none c.phase is.table.sums c));
}

keeps-all : (ks : List (TransactionId × Kept)) (old new : EntityState) → RestoresAll ks old new → Keeps old new
keeps-all [] old new same = record {
  next = ap (λ (e : EntityState). e.next) same;
  none = λ none. subst HoldNone (sym (ap (λ (e : EntityState). e.table.records) same)) none;
}
keeps-all (k ∷ ks) old new (mid, (first, rest)) =
    let one : Keeps old mid = keeps-one k.0 k.1 old mid first in
    let more : Keeps mid new = keeps-all ks mid new rest in
    record { next = more.next ∙ one.next; none = λ none. more.none (one.none none) }

pub same-next : (ks : List (TransactionId × Kept)) (old new : EntityState) → RestoresAll ks old new → new.next ≡ old.next
same-next ks old new all = (keeps-all ks old new all).next

staged-again : (s t : Seen) → HoldsNone t → IsStagedAgain s t
staged-again (Sends x) (Sends y) none = tt
staged-again (Sends x) (Receives r m) none = tt
staged-again (Receives r m) (Sends y) none = tt
staged-again (Receives r m) (Receives s n) none = λ now k has. absurd (false≢true (sym (set.contains-empty nat_cmp k) ∙ (ap (λ (h : Offsets). set.contains h k) (sym none) ∙ has)))

pub all-staged-again : (es : List Entry) (ks : List (TransactionId × Kept)) (begun mid : EntityState) → begun.table.records ≡ [] → RestoresAll ks begun mid → AreStagedAgain es mid.table.records
all-staged-again es ks begun mid none all place now id s t was is =
    let start : HoldNone begun.table.records = subst HoldNone (sym none) tt in
    staged-again s t (hold-at mid.table.records now (id, t) ((keeps-all ks begun mid all).none start) is)

-- ---- one record more, and the others after it
pub restores-more : (id : TransactionId) (r : Record) (rest : List (TransactionId × Record)) (all : List (TransactionId × Kept)) (old mid new : EntityState) →
    ((final : EntityState) → RestoresAll (map record_kept ((id, r) ∷ rest)) mid final → RestoresAll all old final) → RestoresKept id (record_kept (id, r)).1 mid new →
    (final : EntityState) → RestoresAll (map record_kept rest) new final → RestoresAll all old final
restores-more id r rest all old mid new leads one final more = leads final (new, (one, more))

-- ---- an entity that comes back
pub begins-as : (number : ℕ) (c : EntityConfig) (old new : EntityState) (is : ComesBackFrom number c old new) → old.config.entity ≡ c.entity → old.config.peer ≡ c.peer → BeginsAs old is.begun
begins-as number c old new is own peer = record {
  valid = subst IsConfig (sym (ap (λ (e : EntityState). e.config) same)) is.valid;
  own = ap (λ (e : EntityState). e.config.entity) same ∙ sym own;
  peer = ap (λ (e : EntityState). e.config.peer) same ∙ sym peer;
  policy = ap (λ (e : EntityState). e.table.policy) same ∙ sym (ap (λ (e : EntityState). e.config.policy) same);
  next = subst (λ n. old.next ≤ n) (sym (ap (λ (e : EntityState). e.next) same)) is.unused;
  sources = ap (λ (e : EntityState). e.table.sources) same;
  files = ap (λ (e : EntityState). e.table.files) same;
  forgotten = is.forgotten;
  none = ap (λ (e : EntityState). e.table.records) same;
  unarmed = ap (λ (e : EntityState). e.table.armed) same;
}
  where
    same : is.begun ≡ record (first_entity old.table.sources old.table.files (numbered_from number c)) { forgotten = is.begun.forgotten }
    same = is.begins.forgets.same

-- what the law of an entity says
pub record ResumingLaws : Type 0 where
  pub resumes : (put_of : TransactionId → Option Put) (heard : List (List ℕ)) (first : FileMap) (old begun mid : EntityState) (told : List Indication) (gone : ℕ) → IsSound put_of heard first old → BeginsAs old begun →
      RestoresEach old.table.records begun mid → IsTrue mid.table.stands → AreStagedAgain old.table.records mid.table.records → IsLeftOf old told → IsResumed old (with_told told gone mid)
  pub told : (put_of : TransactionId → Option Put) (heard : List (List ℕ)) (first : FileMap) (old : EntityState) → IsSound put_of heard first old → IsLeftOf old old.table.told

pub entity-resumes : ResumingLaws → (put_of : TransactionId → Option Put) (heard : List (List ℕ)) (first : FileMap) (number : ℕ) (c : EntityConfig) (old new : EntityState) → IsSound put_of heard first old →
    old.config.entity ≡ c.entity → old.config.peer ≡ c.peer → ComesBackFrom number c old new → IsResumed old new
entity-resumes laws put_of heard first number c old new sound own peer is =
    let begins : BeginsAs old is.begun = begins-as number c old new is own peer in
    subst (λ (e : EntityState). IsResumed old e) (sym is.told)
    (laws.resumes put_of heard first old is.begun is.mid old.table.told old.table.gone sound begins (restores-each old.table.records is.begun is.mid is.records) is.stands
    (all-staged-again old.table.records (all_kept old.table) is.begun is.mid begins.none is.records) (laws.told put_of heard first old sound))
