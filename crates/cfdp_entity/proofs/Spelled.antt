-- What is due is spelled by its octets.
use Rattle.std.proofs.Common.{◌≡◌, ℕ, ◌≤◌, Bool, List, slice_get, Option, Some, None, IfSome, sym, subst, arith}
use Rattle.cfdp_header.specs.declared.value.TransactionId.{TransactionId}
use Rattle.cfdp_header.specs.Files.{FileMap}
use Rattle.cfdp_directives.specs.declared.pdu.addressing.Addressing.{Addressing}
use Rattle.cfdp_directives.specs.Pdu.Addressing.{header_of, FitsAddressing}
use Rattle.cfdp_directives.specs.Pdu.Codes.{IsCondition, is_large}
use Rattle.cfdp_directives.specs.Pdu.Content.{Content}
use Rattle.cfdp_directives.specs.Pdu.Written.{CanWrite}
use Rattle.cfdp_directives.proofs.Addressed.{can_write, crc_short}
use Rattle.cfdp_directives.proofs.Spelling.{spelled}
use Rattle.cfdp_store.specs.Staged.{OctetMap}
use Rattle.cfdp_store.specs.Files.{octets_in}
use Rattle.cfdp_sender.specs.State.{SenderState}
use Rattle.cfdp_sender.specs.Due.{sender_due, sender_says}
use Rattle.cfdp_sender.specs.declared.due.SenderDue.{SenderDue}
use Rattle.cfdp_receiver.specs.State.{ReceiverState}
use Rattle.cfdp_receiver.specs.Due.{receiver_due, receiver_says}
use Rattle.cfdp_receiver.specs.declared.due.Due.{Due}
use Rattle.cfdp_entity.specs.declared.record.Record.{Record}
use Rattle.cfdp_entity.specs.Seen.{Sends, Receives, seen, addressing_of, large_of, due_content, sender_content, receiver_content, octets_of, len_of}
use Rattle.cfdp_entity.specs.Sound.{SpellsDue, SpellsEntry}
use Rattle.cfdp_entity.specs.Spelled.{IsSpelled, SeenIsSpelled, EntryIsSpelled, StrayIsSpelled}
use Rattle.cfdp_entity.specs.Strays.{StrayAck, stray_says}
use Rattle.cfdp_entity.specs.Table.{Entry, len_due}
use Rattle.cfdp_entity.specs.Desk.{Staged}
use Rattle.cfdp_entity.specs.Whole.{entries_seen}
use Rattle.cfdp_entity.proofs.Entries.{seen_by_entry}

abbrev pub CanWriteOf : (large : Bool) → Addressing → Content → Type 0
CanWriteOf large a v = CanWrite (header_of a large v) v

-- ---- what a machine can write is spelled
sender-content : (file : List ℕ) (x : SenderState) (o : Option SenderDue) → IfSome o (λ d. CanWriteOf (is_large x.size) x.addressing (sender_says file x d)) →
    IsSpelled (is_large x.size) x.addressing (sender_content file x o)
sender-content file x None can = tt
sender-content file x (Some d) can = spelled _ _ can

pub sender-spelled : (sources : FileMap) (x : SenderState) → ((file : List ℕ) → IfSome (sender_due x) (λ d. CanWriteOf (is_large x.size) x.addressing (sender_says file x d))) →
    SeenIsSpelled sources (Sends x)
unfolding SeenIsSpelled
sender-spelled sources x can = sender-content (octets_in sources x.source) x (sender_due x) (can (octets_in sources x.source))

receiver-content : (r : ReceiverState) (o : Option Due) → IfSome o (λ d. CanWriteOf r.large r.addressing (receiver_says r d)) → IsSpelled r.large r.addressing (receiver_content r o)
receiver-content r None can = tt
receiver-content r (Some d) can = spelled _ _ can

pub receiver-spelled : (sources : FileMap) (r : ReceiverState) (m : OctetMap) → IfSome (receiver_due r) (λ d. CanWriteOf r.large r.addressing (receiver_says r d)) →
    SeenIsSpelled sources (Receives r m)
unfolding SeenIsSpelled
receiver-spelled sources r m can = receiver-content r (receiver_due r) can

-- and so is what the record at an index has due
pub entry-spelled : (staged : Staged) (sources : FileMap) (es : List (TransactionId × Record)) (i : ℕ) (k : TransactionId) (r : Record) → Some (k, r) ≡ slice_get es i
    → ((m : Option OctetMap) (sources : FileMap) → SeenIsSpelled sources (seen m r)) → EntryIsSpelled sources (slice_get (entries_seen staged es) i)
entry-spelled staged sources es i k r is all = subst (EntryIsSpelled sources) (sym (seen_by_entry staged es i k r is)) (all (staged k) sources)

pub stray-spelled : (s : StrayAck) → FitsAddressing s.addressing → IsCondition s.condition → StrayIsSpelled s
stray-spelled s fits condition = spelled _ _ (can_write s.addressing s.large (stray_says s) fits condition (omega (arith, crc_short s.addressing.crc)))

-- ---- whose turn it is
due-spells : (large : Bool) (a : Addressing) (o : Option Content) → IsSpelled large a o → 1 ≤ len_of large a o → SpellsDue large o a (octets_of large a o)
due-spells large a None is some = absurd (omega (arith, some))
due-spells large a (Some v) is some = is

pub entry-spells : (sources : FileMap) (o : Option Entry) → EntryIsSpelled sources o → 1 ≤ len_due sources o → SpellsEntry sources o
unfolding SeenIsSpelled
entry-spells sources None is some = absurd (omega (arith, some))
entry-spells sources (Some e) is some = due-spells (large_of e.1) (addressing_of e.1) (due_content sources e.1) is some
