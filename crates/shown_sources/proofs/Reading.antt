-- What a PDU says, and what its sender is afterwards, if the octets of its file come from another
-- map of files.
use Rattle.std.proofs.Common.{◌≡◌, ℕ, ◌+◌, ◌-◌, Bool, List, [], Option, Some, None, length, take, drop, min, refl, sym, ap, ◌∙◌}
use Rattle.std.specs.Prelude.{unwrap_or}
use Rattle.std.specs.FinMap.{get}
use Rattle.std.specs.Option.{option_map}
use Rattle.std.proofs.lemmas.List.{length-take, length-drop}
use Rattle.cfdp_header.specs.Files.{FileMap}
use Rattle.cfdp_header.specs.Crc.{crc_len}
use Rattle.cfdp_header.specs.Header.{header_len}
use Rattle.cfdp_directives.specs.declared.pdu.addressing.Addressing.{Addressing}
use Rattle.cfdp_directives.specs.Pdu.Codes.{file_size_octets}
use Rattle.cfdp_directives.specs.declared.user.limits.Times.{Times}
use Rattle.cfdp_store.specs.declared.stored.Stored.TheVariants.{Done, Refused}
use Rattle.cfdp_store.specs.Files.{octets_in}
use Rattle.cfdp_sender.specs.declared.due.SenderDue.{SenderDue}
use Rattle.cfdp_sender.specs.declared.due.SenderDue.TheVariants as due
use Rattle.cfdp_sender.specs.Due.{pdu_says, sender_due}
use Rattle.cfdp_sender.specs.State.{SenderState}
use Rattle.cfdp_sender.specs.Steps.{pdu_sent}
use Rattle.cfdp_entity.specs.Seen.{Seen, Sends, Receives, due_content, due_len, len_of, large_of, addressing_of, sender_content}
use Rattle.cfdp_entity.specs.Steps.{by_sender, sender_takes, takes}
use Rattle.shown_sources.specs.Shown.{AreAsLong, carried_by, read_of}

-- ---- the same octets are read
content_same : (file other : List ℕ) (x : SenderState) (d : Option SenderDue) → carried_by file d ≡ carried_by other d → sender_content file x d ≡ sender_content other x d
content_same file other x (Some d) same = ap (λ (octets : List ℕ). Some (pdu_says octets x d)) same
content_same file other x None same = refl

pub says_same : (files others : FileMap) (s : Seen) → read_of files s ≡ read_of others s → due_content files s ≡ due_content others s
says_same files others (Sends x) same = content_same (octets_in files x.source) (octets_in others x.source) x (sender_due x) same
says_same files others (Receives r m) same = refl

sent_same : (times : Times) (published : FileMap) (file other : List ℕ) (x : SenderState) (d : Option SenderDue) → carried_by file d ≡ carried_by other d →
    sender_takes Done times published file x d ≡ sender_takes Done times published other x d
sent_same times published file other x (Some d) same = ap (λ (octets : List ℕ). by_sender times published (pdu_sent Done octets x d)) same
sent_same times published file other x None same = refl

pub takes_same : (times : Times) (published files others : FileMap) (s : Seen) → read_of files s ≡ read_of others s → takes Done times files published s ≡ takes Done times others published s
takes_same times published files others (Sends x) same = sent_same times published (octets_in files x.source) (octets_in others x.source) x (sender_due x) same
takes_same times published files others (Receives r m) same = refl

-- ---- the outbox failed: no octets are used
failed_same : (times : Times) (published : FileMap) (file other : List ℕ) (x : SenderState) (d : Option SenderDue) → sender_takes Refused times published file x d ≡ sender_takes Refused times published other x d
failed_same times published file other x (Some (due.AckOfFinished condition)) = refl
failed_same times published file other x (Some (due.Prompt keep_alive)) = refl
failed_same times published file other x (Some due.Metadata) = refl
failed_same times published file other x (Some (due.AskedData start end)) = refl
failed_same times published file other x (Some (due.NewData start end)) = refl
failed_same times published file other x (Some due.Eof) = refl
failed_same times published file other x None = refl

pub fails_same : (times : Times) (published files others : FileMap) (s : Seen) → takes Refused times files published s ≡ takes Refused times others published s
fails_same times published files others (Sends x) = failed_same times published (octets_in files x.source) (octets_in others x.source) x (sender_due x)
fails_same times published files others (Receives r m) = refl

-- ---- lengths
len_of_file : (o : Option (List ℕ)) → length (unwrap_or o []) ≡ unwrap_or (option_map length o) 0
len_of_file (Some octets) = refl
len_of_file None = refl

pub as_long : (files others : FileMap) (name : List ℕ) → AreAsLong files others → length (octets_in others name) ≡ length (octets_in files name)
as_long files others name long = len_of_file (get others name) ∙ ap (λ (n : Option ℕ). unwrap_or n 0) (long name) ∙ sym (len_of_file (get files name))

part_len : (n k : ℕ) (file : List ℕ) → length (take n (drop k file)) ≡ min n (length file - k)
part_len n k file = length-take n (drop k file) ∙ ap (λ (m : ℕ). min n m) (length-drop k file)

part_as_long : (n k : ℕ) (file other : List ℕ) → length other ≡ length file → length (take n (drop k other)) ≡ length (take n (drop k file))
part_as_long n k file other same = part_len n k other ∙ ap (λ (m : ℕ). min n (m - k)) same ∙ sym (part_len n k file)

-- how long a file data PDU is, with so many octets of the file
abbrev data_len : Bool → Addressing → ℕ → ℕ
data_len large a n = header_len a.id_width a.number_width + (file_size_octets large + n + crc_len a.crc)

long_by : (large : Bool) (s : Seen) (file other : List ℕ) (x : SenderState) (d : Option SenderDue) → length other ≡ length file →
    len_of large (addressing_of s) (sender_content other x d) ≡ len_of large (addressing_of s) (sender_content file x d)
long_by large s file other x (Some (due.AckOfFinished condition)) same = refl
long_by large s file other x (Some (due.Prompt keep_alive)) same = refl
long_by large s file other x (Some due.Metadata) same = refl
long_by large s file other x (Some (due.AskedData start end)) same = ap (data_len large (addressing_of s)) (part_as_long (end - start) start file other same)
long_by large s file other x (Some (due.NewData start end)) same = ap (data_len large (addressing_of s)) (part_as_long (end - start) start file other same)
long_by large s file other x (Some due.Eof) same = refl
long_by large s file other x None same = refl

pub len_same : (files others : FileMap) (s : Seen) → AreAsLong files others → due_len others s ≡ due_len files s
len_same files others (Sends x) long = long_by (large_of (Sends x)) (Sends x) (octets_in files x.source) (octets_in others x.source) x (sender_due x) (as_long files others x.source long)
len_same files others (Receives r m) long = refl
