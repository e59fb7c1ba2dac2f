-- What several records say of one transaction.
use Rattle.std.proofs.Common.{◌≡◌, ℕ, Bool, true, false, cond, List, [], ◌∷◌, ◌++◌, Option, Some, None, refl, sym, ap, subst, ◌∙◌}
use Rattle.std.specs.List.{AllByRecursion}
use Rattle.cfdp_header.specs.declared.value.TransactionId.{TransactionId}
use Rattle.cfdp_header.proofs.Ids.{same_id-itself}
use Rattle.cfdp_directives.specs.declared.pdu.addressing.Addressing.{Addressing}
use Rattle.journal_records.specs.declared.record.JournalRecord.{JournalRecord}
use Rattle.transfer_journal.specs.declared.kept.KeptEnd.{KeptEnd}
use Rattle.transfer_journal.specs.declared.kept.KeptEnd.TheVariants.{Sends, Receives}
use Rattle.transfer_journal.specs.declared.kept.KeptReceiver.{KeptReceiver}
use Rattle.transfer_journal.specs.declared.kept.KeptSender.{KeptSender}
use Rattle.transfer_journal.specs.declared.kept.KeptTransfer.{KeptTransfer}
use Rattle.transfer_journal.specs.Kept.{end_after, receiver_after, sender_after, transfer_after}
use Rattle.transfer_journal.specs.Says.{Known, all_say, forgotten_said, id_of, is_id, said_of, says}

abbrev pub AreAbout : TransactionId → List JournalRecord → Type 0
AreAbout id rs = AllByRecursion (λ r. id_of r ≡ Some id) rs

-- ---- a list of records that is two
pub all_say-append : (a : Addressing) (id : TransactionId) (rs more : List JournalRecord) (known : Known) → all_say a id (rs ++ more) known ≡ all_say a id more (all_say a id rs known)
all_say-append a id [] more known = refl
all_say-append a id (r ∷ rs) more known = all_say-append a id rs more (says a id r known)

pub are_about-append : (id : TransactionId) (rs more : List JournalRecord) → AreAbout id rs → AreAbout id more → AreAbout id (rs ++ more)
are_about-append id [] more h k = k
are_about-append id (r ∷ rs) more h k = (h.0, are_about-append id rs more h.1 k)

-- ---- a record about a transaction
pub says-about : (a : Addressing) (id : TransactionId) (r : JournalRecord) (known : Known) → id_of r ≡ Some id → says a id r known ≡ said_of a id r known
says-about a id r known is =
    subst (λ (o : Option TransactionId). cond (is_id id o) (said_of a id r known) (forgotten_said id r known) ≡ said_of a id r known) (sym is)
    (subst (λ (b : Bool). cond b (said_of a id r known) (forgotten_said id r known) ≡ said_of a id r known) (sym (same_id-itself id)) refl)

-- ---- of a sender
abbrev pub sender_all : List JournalRecord → KeptSender → KeptSender
sender_all [] s = s
sender_all (r ∷ rs) s = sender_all rs (sender_after r s)

pub sender_all-append : (rs more : List JournalRecord) (s : KeptSender) → sender_all (rs ++ more) s ≡ sender_all more (sender_all rs s)
sender_all-append [] more s = refl
sender_all-append (r ∷ rs) more s = sender_all-append rs more (sender_after r s)

-- what is known is this end of a transaction
pub record IsEnd (k : Known) (e : KeptEnd) : Type 0 where
  pub transfer : KeptTransfer
  pub known : k ≡ Some (Some transfer)
  pub end : transfer.end ≡ e

pub end_said : (a : Addressing) (id : TransactionId) (r : JournalRecord) (known : Known) (end : KeptEnd) → id_of r ≡ Some id → IsEnd known end → IsEnd (says a id r known) (end_after r end)
end_said a id r known end is h = record {
  transfer = transfer_after r h.transfer;
  known = says-about a id r known is ∙ ap (said_of a id r) h.known;
  end = ap (end_after r) h.end;
}

pub sender_said : (a : Addressing) (id : TransactionId) (rs : List JournalRecord) (known : Known) (s : KeptSender) → AreAbout id rs → IsEnd known (Sends s) → IsEnd (all_say a id rs known) (Sends (sender_all rs s))
sender_said a id [] known s about h = h
sender_said a id (r ∷ rs) known s about h = sender_said a id rs (says a id r known) (sender_after r s) about.1 (end_said a id r known (Sends s) about.0 h)

-- ---- of a receiver
abbrev pub receiver_all : List JournalRecord → KeptReceiver → KeptReceiver
receiver_all [] s = s
receiver_all (r ∷ rs) s = receiver_all rs (receiver_after r s)

pub receiver_all-append : (rs more : List JournalRecord) (s : KeptReceiver) → receiver_all (rs ++ more) s ≡ receiver_all more (receiver_all rs s)
receiver_all-append [] more s = refl
receiver_all-append (r ∷ rs) more s = receiver_all-append rs more (receiver_after r s)

pub receiver_said : (a : Addressing) (id : TransactionId) (rs : List JournalRecord) (known : Known) (s : KeptReceiver) → AreAbout id rs → IsEnd known (Receives s) → IsEnd (all_say a id rs known) (Receives (receiver_all rs s))
receiver_said a id [] known s about h = h
receiver_said a id (r ∷ rs) known s about h = receiver_said a id rs (says a id r known) (receiver_after r s) about.1 (end_said a id r known (Receives s) about.0 h)
