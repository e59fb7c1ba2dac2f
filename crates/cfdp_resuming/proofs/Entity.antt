-- An entity that resumes is sound.
use Rattle.std.proofs.Common.{◌≡◌, ◌⊎◌, inl, inr, ℕ, zero, suc, ◌+◌, ◌<◌, ◌≤◌, Bool, true, false, cond, List, [], ◌∷◌, length, Option, Some, None, sym, ap, subst, ◌∙◌, arith, if◌then◌else◌}
use Rattle.std.specs.Prelude.{Contains, count_by}
use Rattle.std.proofs.lemmas.Bool.{cases_lt}
use Rattle.std.proofs.lemmas.List.Sums.{sum_by-cons}
use Rattle.cfdp_header.specs.declared.value.TransactionId.{TransactionId}
use Rattle.cfdp_header.specs.Files.{FileMap}
use Rattle.cfdp_directives.specs.declared.pdu.addressing.Addressing.{Addressing}
use Rattle.cfdp_directives.specs.User.Completions.{completions, is_finished, IsToldComplete}
use Rattle.cfdp_directives.specs.User.Put.{Put, inbox_after}
use Rattle.cfdp_store.specs.Files.{octets_in}
use Rattle.cfdp_store.specs.Staged.{OctetMap}
use Rattle.cfdp_sender.specs.declared.transfer.Transfer.{Transfer}
use Rattle.cfdp_sender.specs.declared.phase.SenderPhase.{SenderPhase}
use Rattle.cfdp_sender.specs.declared.phase.SenderPhase.TheVariants as sending
use Rattle.cfdp_sender.specs.State.{SenderState}
use Rattle.cfdp_sender.specs.Inputs.{IsSenderOf, finished_count}
use Rattle.cfdp_sender.specs.InFile.{IsInFile}
use Rattle.cfdp_receiver.specs.declared.state.ReceiverPhase.{ReceiverPhase}
use Rattle.cfdp_receiver.specs.declared.state.ReceiverPhase.TheVariants as receiving
use Rattle.cfdp_receiver.specs.State.{ReceiverState}
use Rattle.cfdp_receiver.specs.Sound.{Sound, open_count}
use Rattle.cfdp_entity.specs.Entity.{EntityState, is_forgotten}
use Rattle.cfdp_entity.specs.History.{FinishesOnce, may_finish, open_of, sender_open_count}
use Rattle.cfdp_entity.specs.Seen.{Seen, Sends, Receives, addressing_of}
use Rattle.cfdp_entity.specs.Sending.{SendsItsPut, SendsPut}
use Rattle.cfdp_entity.specs.Sound.{IsSound}
use Rattle.cfdp_entity.specs.Table.{Entry, record_of}
use Rattle.cfdp_entity.specs.Truth.{KnowsTruth}
use Rattle.cfdp_resuming.specs.Sender.{IsRestoredSender}
use Rattle.cfdp_resuming.specs.Receiver.{IsRestoredReceiver}
use Rattle.cfdp_resuming.specs.Entity.{AreSomeOf, IsRestored, IsResumed}

-- ---- some of a list
abbrev mark : Bool → ℕ
mark b = cond b 1 0

count-some : {A : Type 0} (p : A → Bool) (all some : List A) → AreSomeOf all some → count_by p some ≤ count_by p all
count-some p [] some is = subst (λ l. count_by p l ≤ 0) (sym is) (omega arith)
count-some p (x ∷ all) some (inl rest) = let less : count_by p some ≤ count_by p all = count-some p all some rest in omega (arith, sum_by-cons (λ y. cond (p y) 1 0) x all, less)
count-some p (x ∷ all) some (inr (rest, is, more)) =
    let less : count_by p rest ≤ count_by p all = count-some p all rest more in
    let one : count_by p some ≡ mark (p x) + count_by p rest = ap (count_by p) is ∙ sum_by-cons (λ y. cond (p y) 1 0) x rest in
    let two : count_by p (x ∷ all) ≡ mark (p x) + count_by p all = sum_by-cons (λ y. cond (p y) 1 0) x all in
    omega (arith, less, one, two)

behind : {A : Type 0} (x y : A) (xs : List A) → Contains xs y → Contains (x ∷ xs) y
behind x y xs c = (suc c.0, (let n = c.0 in let low : n < length xs = c.1 in omega arith), c.2)

one-or-rest : {A : Type 0} (x y : A) (xs : List A) → Contains (x ∷ xs) y → (y ≡ x) ⊎ Contains xs y
one-or-rest x y xs (zero, low, e) = inl (sym e)
one-or-rest x y xs (suc k, low, e) = inr (k, omega (arith, low), e)

in-all : {A : Type 0} (all some : List A) (y : A) → AreSomeOf all some → Contains some y → Contains all y
in-all [] some y is c = subst (λ l. Contains l y) is c
in-all (x ∷ all) some y (inl rest) c = behind x y all (in-all all some y rest c)
in-all (x ∷ all) some y (inr (rest, is, more)) c = elim (one-or-rest x y rest (subst (λ l. Contains l y) is c)) [
  | inl here ↦ (0, omega arith, sym here)
  | inr there ↦ behind x y all (in-all all rest y more there)
]

-- ---- what may still be indicated finished
most-sending : (p : SenderPhase) → sender_open_count p ≤ 1
most-sending sending.Sending = omega arith
most-sending sending.Cancelling = omega arith
most-sending sending.Closed = omega arith

most-receiving : (p : ReceiverPhase) → open_count p ≤ 1
most-receiving receiving.Receiving = omega arith
most-receiving receiving.Finishing = omega arith
most-receiving receiving.Closed = omega arith

most-open : (s : Option Seen) → open_of s ≤ 1
most-open None = omega arith
most-open (Some (Sends x)) = most-sending x.phase
most-open (Some (Receives r m)) = most-receiving r.phase

most-of : (b : Bool) (s : Option Seen) → (if b then 0 else open_of s) ≤ 1
most-of true s = omega arith
most-of false s = most-open s

at-most-one : (gone : TransactionId → Bool) (id : TransactionId) (records : List Entry) → may_finish gone id records ≤ 1
at-most-one gone id records = most-of (gone id) (record_of id records)

-- ---- one record
same-addressing : (sources : FileMap) (x s : Seen) → IsRestored sources x s → addressing_of s ≡ addressing_of x
same-addressing sources (Sends x) (Sends s) is = ap (λ (t : Transfer). t.addressing) is.transfer
same-addressing sources (Sends x) (Receives s n) is = absurd is
same-addressing sources (Receives r m) (Sends s) is = absurd is
same-addressing sources (Receives r m) (Receives s n) is = is.addressing

-- what is known of both machines
pub record MachineLaws : Type 0 where
  pub receiver : (put : Put) (heard : List (List ℕ)) (r s : ReceiverState) (m n : OctetMap) → IsRestoredReceiver r m s n → Sound put heard r m → Sound put heard s n
  pub sender : (put : Put) (x s : SenderState) → IsRestoredSender put.octets x s → IsSenderOf put x → IsInFile x → IsSenderOf put s × IsInFile s

module _ (laws : MachineLaws) (put_of : TransactionId → Option Put) (heard : List (List ℕ)) (first : FileMap) where
  knows-restored : (own : ℕ) (sources : FileMap) (id : TransactionId) (x s : Seen) → IsRestored sources x s → KnowsTruth own put_of heard id x → KnowsTruth own put_of heard id s
  knows-restored own sources id (Sends x) (Sends s) is k = (ap (λ (t : Transfer). t.addressing.id) is.transfer ∙ k.0, k.1)
  knows-restored own sources id (Sends x) (Receives s n) is k = absurd is
  knows-restored own sources id (Receives r m) (Sends s) is k = absurd is
  knows-restored own sources id (Receives r m) (Receives s n) is k = record {
    put = k.put;
    is_put = k.is_put;
    same_id = ap (λ (a : Addressing). a.id) is.addressing ∙ k.same_id;
    not_own = k.not_own;
    sound = laws.receiver k.put heard r s m n is k.sound;
  }

  sends-restored : (sources : FileMap) (id : TransactionId) (x s : Seen) → IsRestored sources x s → SendsItsPut put_of sources id x → SendsItsPut put_of sources id s
  sends-restored sources id (Sends x) (Sends s) is k =
      let both = laws.sender k.put x s (subst (λ (file : List ℕ). IsRestoredSender file x s) (sym k.octets) is) k.sender k.in_file in
      let it : SendsPut put_of sources id s = record {
        put = k.put;
        is_put = k.is_put;
        sender = both.0;
        in_file = both.1;
        octets = k.octets ∙ ap (λ (t : Transfer). octets_in sources t.source) (sym is.transfer);
      } in it
  sends-restored sources id (Sends x) (Receives s n) is k = absurd is
  sends-restored sources id (Receives r m) (Sends s) is k = absurd is
  sends-restored sources id (Receives r m) (Receives s n) is k = tt

  -- ---- the entity
  module _ (old new : EntityState) (is : IsResumed old new) (k : IsSound put_of heard first old) where
    finished-once : FinishesOnce (is_forgotten new) new.table.records new.table.told
    finished-once = record {
      distinct = is.distinct;
      own = λ place e there.
          let back = is.records place e there in
          ap (λ (a : Addressing). a.id) (same-addressing old.table.sources back.before e.1 back.restored) ∙ k.once.own back.place (e.0, back.before) back.was;
      apart = is.apart;
      once = λ id.
          let fewer : finished_count id new.table.told ≤ finished_count id old.table.told = count-some (is_finished id) old.table.told new.table.told is.told in
          let once : finished_count id old.table.told + may_finish (is_forgotten old) id old.table.records ≤ 1 = k.once.once id in
          let few : may_finish (is_forgotten new) id new.table.records ≤ 1 = at-most-one (is_forgotten new) id new.table.records in
          elim (cases_lt 0 (may_finish (is_forgotten new) id new.table.records)) [
            | inl some ↦ (let none : finished_count id new.table.told ≡ 0 = is.unended id some in omega (arith, none, few))
            | inr none ↦ omega (arith, fewer, once, none)
          ];
    }

    pub resumed-sound : IsSound put_of heard first new
    resumed-sound = record {
      config = is.valid;
      once = finished-once;
      knows = record {
        knows = λ place e there.
            let back = is.records place e there in
            subst (λ (n : ℕ). KnowsTruth n put_of heard e.0 e.1) (sym is.own)
            (knows-restored old.config.entity old.table.sources e.0 back.before e.1 back.restored (k.knows.knows back.place (e.0, back.before) back.was));
        inbox = is.files ∙ k.knows.inbox ∙ ap (inbox_after put_of first) (sym is.published) ∙ ap (λ n. inbox_after put_of first (completions n new.table.told)) (sym is.own);
        caused = λ id c. k.knows.caused id (subst (λ (ids : List TransactionId). Contains ids id) (ap (λ n. completions n new.table.told) is.own ∙ is.published) c);
      };
      sends = record {
        sends = λ place e there.
            let back = is.records place e there in
            subst (λ (f : FileMap). SendsItsPut put_of f e.0 e.1) (sym is.sources)
            (sends-restored old.table.sources e.0 back.before e.1 back.restored (k.sends.sends back.place (e.0, back.before) back.was));
      };
      tells = record {
        indicated = is.ended;
        told = λ id (t : IsToldComplete new.config.entity new.table.told id). k.tells.told id (t.0 ∙ is.own, in-all old.table.told new.table.told _ is.told t.1);
      };
      timed = is.timed;
      policy = is.policy;
    }
