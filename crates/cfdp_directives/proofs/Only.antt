-- Exported: octets that spell a PDU have no fault, and spell no other.
use Rattle.std.proofs.Common.{◌≡◌, ℕ, ◌+◌, ◌-◌, ◌*◌, ◌%◌, ◌≤◌, Bool, true, false, ltb, eqb, eq-eqb, List, ◌++◌, length, take, drop, Some, None, Result, Ok, Err, refl, sym, ap, subst, ◌∙◌, arith, length-append, length-drop}
use Rattle.std.specs.Prelude.{IfOk, IsOkAnd}
use Rattle.std.specs.Result.{result_err}
use Rattle.std.specs.List.{flat_map}
use Rattle.std.proofs.lemmas.Bool.{le-ltb, le-leb}
use Rattle.std.proofs.Common.{zero, suc}
use Rattle.std.proofs.lemmas.List.{take_at, drop_at}
use Rattle.cfdp_header.specs.declared.value.Header.{Header}
use Rattle.cfdp_header.specs.Crc.{before_crc}
use Rattle.cfdp_header.specs.Header.{SpellsHeader, header_len_told, header_len, type_bit}
use Rattle.cfdp_header.proofs.Laws as header
use Rattle.cfdp_directives.specs.declared.pdu.codes.Delivery.{Delivery}
use Rattle.cfdp_directives.specs.declared.pdu.codes.Delivery.TheVariants.{Complete, Incomplete}
use Rattle.cfdp_directives.specs.declared.pdu.codes.FileStatus.{FileStatus}
use Rattle.cfdp_directives.specs.declared.pdu.codes.FileStatus.TheVariants.{Discarded, Rejected, Retained, Unreported}
use Rattle.cfdp_directives.specs.declared.pdu.codes.TransactionStatus.{TransactionStatus}
use Rattle.cfdp_directives.specs.declared.pdu.codes.TransactionStatus.TheVariants.{Undefined, Active, Terminated, Unrecognized}
use Rattle.cfdp_directives.specs.declared.pdu.codes.Acknowledged.{Acknowledged}
use Rattle.cfdp_directives.specs.declared.pdu.codes.Acknowledged.TheVariants as acknowledged
use Rattle.cfdp_directives.specs.declared.pdu.content.Pdu.{Pdu}
use Rattle.cfdp_directives.specs.declared.pdu.error.PduError.{PduError}
use Rattle.cfdp_directives.specs.Pdu.Codes.{file_size_octets, delivery_code, file_status_code, transaction_status_code, acknowledged_code}
use Rattle.cfdp_directives.specs.Pdu.Tlv.{Tlv, tlv, tlvs_of}
use Rattle.cfdp_directives.specs.Pdu.Content.{Content, FileData, Metadata, Eof, Finished, Ack, Nak, Prompt, KeepAlive, view}
use Rattle.cfdp_directives.specs.Pdu.Grammar.{Says, SpellsPdu, IsFileData, IsMetadata, IsEof, IsFinished, IsAck, IsNak, skipped, lv, fss}
use Rattle.cfdp_directives.specs.Pdu.Faults.{has_lv, after_lv, file_data_fault, metadata_fault, eof_fault, finished_fault, ack_fault, nak_fault, content_fault, pdu_fault}
use Rattle.cfdp_directives.proofs.Options.{reads}
use Rattle.cfdp_directives.proofs.Ranges.{same_pairs, pairs_even}

-- ---- texts with a length

has : (s x : List ℕ) → has_lv (lv s ++ x) ≡ true
unfolding has_lv
has s x = le-leb _ _ (omega (arith, length-append s x))

after : (s x : List ℕ) → after_lv (lv s ++ x) ≡ x
unfolding after_lv
after s x = drop_at s x (length s) refl

same_lv : (s t x y : List ℕ) → lv s ++ x ≡ lv t ++ y → (s ≡ t) × (x ≡ y)
same_lv s t x y e =
    let len : length s ≡ length t = cc in
    let rest : s ++ x ≡ t ++ y = cc in
    (sym (take_at s x (length s) refl) ∙ ap (take (length s)) rest ∙ take_at t y (length s) (sym len), sym (drop_at s x (length s) refl) ∙ ap (drop (length s)) rest ∙ drop_at t y (length s) (sym len))

same_tlvs : (ts us : List Tlv) → flat_map tlv ts ≡ flat_map tlv us → ts ≡ us
same_tlvs ts us e =
    let a : Some ts ≡ Some us = sym (reads ts) ∙ ap tlvs_of e ∙ reads us in
    cc

-- ---- no fault

file_data_accepted : (w : ℕ) (s : Bool) (offset : ℕ) (bytes d : List ℕ) → IsFileData w s offset bytes d → file_data_fault w s d ≡ None
file_data_accepted w s offset bytes d p =
    let long : ltb (length d) (skipped s d + w) ≡ false = le-ltb _ _ p.room in
    rw long refl

metadata_accepted : (w kind size : ℕ) (source destination : List ℕ) (options : List Tlv) (d : List ℕ) → IsMetadata w kind size source destination options d → metadata_fault w d ≡ None
metadata_accepted w kind size source destination options d p =
    let long : ltb (length d) (2 + w) ≡ false = le-ltb _ _ p.room in
    let rest = lv destination ++ flat_map tlv options in
    rw (long, p.rest, has source rest, after source rest, has destination (flat_map tlv options), after destination (flat_map tlv options), reads options) refl

eof_accepted : (w c k z : ℕ) (ts : List Tlv) (d : List ℕ) → IsEof w c k z ts d → eof_fault w d ≡ None
eof_accepted w c k z ts d p =
    let long : ltb (length d) (6 + w) ≡ false = le-ltb _ _ p.room in
    rw (long, p.condition_field, p.allowed, p.rest, reads ts) refl

finished_accepted : (c : ℕ) (i : Delivery) (s : FileStatus) (ts : List Tlv) (d : List ℕ) → IsFinished c i s ts d → finished_fault d ≡ None
finished_accepted c i s ts d p =
    let long : ltb (length d) 2 ≡ false = le-ltb _ _ p.room in
    rw (long, p.condition_field, p.allowed, p.rest, reads ts) refl

nak_accepted : (large : Bool) (s e : ℕ) (ps : List (ℕ × ℕ)) (d : List ℕ) → IsNak (file_size_octets large) s e ps d → nak_fault (file_size_octets large) d ≡ None
nak_accepted true s e ps d p =
    let long : ltb (length d) 17 ≡ false = le-ltb _ _ p.room in
    let whole = pairs_even 8 ps (drop 17 d) p.rest in
    let even : (length d - 17) % 16 ≡ 0 = omega (arith, length-drop 17 d) in
    rw (long, even) refl
nak_accepted false s e ps d p =
    let long : ltb (length d) 9 ≡ false = le-ltb _ _ p.room in
    let whole = pairs_even 4 ps (drop 9 d) p.rest in
    let even : (length d - 9) % 8 ≡ 0 = omega (arith, length-drop 9 d) in
    rw (long, even) refl

ack_accepted : (of : Acknowledged) (condition : ℕ) (status : TransactionStatus) (d : List ℕ) → IsAck of condition status d → ack_fault d ≡ None
ack_accepted acknowledged.Eof condition status d p = rw (p.size_octets, p.of_field, p.condition_field, p.allowed) refl
ack_accepted acknowledged.Finished condition status d p = rw (p.size_octets, p.of_field, p.condition_field, p.allowed) refl

accepted : (h : Header) (v : Content) (d : List ℕ) → Says h v d → content_fault (fss h) (type_bit h.pdu_type) h.segment_metadata d ≡ None
accepted h (FileData offset bytes) d p = rw p.0 (file_data_accepted (fss h) h.segment_metadata offset bytes d p.1)
accepted h (Metadata kind size source destination options) d p =
    let long : ltb (length d) 1 ≡ false = le-ltb _ _ (let r = p.1.room in omega arith) in
    rw (p.0, long, p.1.code) (metadata_accepted (fss h) kind size source destination options d p.1)
accepted h (Eof c k z ts) d p =
    let long : ltb (length d) 1 ≡ false = le-ltb _ _ (let r = p.1.room in omega arith) in
    rw (p.0, long, p.1.code) (eof_accepted (fss h) c k z ts d p.1)
accepted h (Finished c i s ts) d p =
    let long : ltb (length d) 1 ≡ false = le-ltb _ _ (let r = p.1.room in omega arith) in
    rw (p.0, long, p.1.code) (finished_accepted c i s ts d p.1)
accepted h (Nak s e ps) d p =
    let long : ltb (length d) 1 ≡ false = le-ltb _ _ (let r = p.1.room in omega arith) in
    rw (p.0, long, p.1.code) (nak_accepted h.large s e ps d p.1)
accepted h (Prompt k) d p =
    let long : ltb (length d) 1 ≡ false = le-ltb _ _ (let r = p.1.size_octets in omega arith) in
    rw (p.0, long, p.1.code) (rw p.1.size_octets refl)
accepted h (KeepAlive k) d p =
    let long : ltb (length d) 1 ≡ false = le-ltb _ _ (let r = p.1.size_octets in omega arith) in
    let more : ltb (length d) (1 + fss h) ≡ false = le-ltb _ _ (let r = p.1.size_octets in omega arith) in
    let all : eqb (length d) (1 + fss h) ≡ true = eq-eqb _ _ p.1.size_octets in
    rw (p.0, long, p.1.code) (rw (more, all) refl)
accepted h (Ack of condition status) d p =
    let long : ltb (length d) 1 ≡ false = le-ltb _ _ (let r = p.1.size_octets in omega arith) in
    rw (p.0, long, p.1.code) (ack_accepted of condition status d p.1)

-- what is wrong after a header is wrong with the data field
pub behind_header : (h : Header) (t : List ℕ) → SpellsHeader h t →
    pdu_fault t ≡ content_fault (fss h) (type_bit h.pdu_type) h.segment_metadata (before_crc h.crc (drop (header_len h.id_width h.number_width) t))
behind_header h t q =
    let len : header_len_told t ≡ header_len h.id_width h.number_width = rw (q.id_width, q.number_width) refl in
    rw (header.accepted h t q, q.pdu_type, q.segment_metadata, q.large, q.crc, header.told h.segment_metadata, header.told h.large, header.told h.crc, len) refl

pub pdu_accepted : (h : Header) (v : Content) (t : List ℕ) → SpellsPdu h v t → pdu_fault t ≡ None
pdu_accepted h v t p =
    behind_header h t p.header
    ∙ accepted h v (before_crc h.crc (drop (header_len h.id_width h.number_width) t)) p.content

-- ---- no other

same_delivery : (a b : Delivery) → delivery_code a ≡ delivery_code b → a ≡ b
same_delivery Complete Complete e = refl
same_delivery Incomplete Incomplete e = refl
same_delivery Complete Incomplete e = absurd cc
same_delivery Incomplete Complete e = absurd cc

file_status_with : ℕ → FileStatus
file_status_with zero = Discarded
file_status_with (suc zero) = Rejected
file_status_with (suc (suc zero)) = Retained
file_status_with (suc (suc (suc n))) = Unreported

file_status_back : (a : FileStatus) → file_status_with (file_status_code a) ≡ a
unfolding file_status_with
file_status_back Discarded = refl
file_status_back Rejected = refl
file_status_back Retained = refl
file_status_back Unreported = refl

same_file_status : (a b : FileStatus) → file_status_code a ≡ file_status_code b → a ≡ b
same_file_status a b e = sym (file_status_back a) ∙ ap file_status_with e ∙ file_status_back b

transaction_status_with : ℕ → TransactionStatus
transaction_status_with zero = Undefined
transaction_status_with (suc zero) = Active
transaction_status_with (suc (suc zero)) = Terminated
transaction_status_with (suc (suc (suc n))) = Unrecognized

transaction_status_back : (a : TransactionStatus) → transaction_status_with (transaction_status_code a) ≡ a
unfolding transaction_status_with
transaction_status_back Undefined = refl
transaction_status_back Active = refl
transaction_status_back Terminated = refl
transaction_status_back Unrecognized = refl

same_transaction_status : (a b : TransactionStatus) → transaction_status_code a ≡ transaction_status_code b → a ≡ b
same_transaction_status a b e = sym (transaction_status_back a) ∙ ap transaction_status_with e ∙ transaction_status_back b

same_code : (a b : Acknowledged) → acknowledged_code a ≡ acknowledged_code b → a ≡ b
same_code acknowledged.Eof acknowledged.Eof e = refl
same_code acknowledged.Finished acknowledged.Finished e = refl
same_code acknowledged.Eof acknowledged.Finished e = absurd cc
same_code acknowledged.Finished acknowledged.Eof e = absurd cc

-- a file-size field has at least one octet
some : (large : Bool) → 1 ≤ file_size_octets large
some true = omega arith
some false = omega arith

pub same : (h : Header) (v w : Content) (d : List ℕ) → Says h v d → Says h w d → v ≡ w
same h (FileData a b) (FileData a' b') d p q =
    let p' = p.1 in
    let q' = q.1 in
    cc
same h (FileData a b) w d p q = absurd cc
same h (Metadata a b s t o) (Metadata a' b' s' t' o') d p q =
    let p' = p.1 in
    let q' = q.1 in
    let one = same_lv s s' (lv t ++ flat_map tlv o) (lv t' ++ flat_map tlv o') (sym p'.rest ∙ q'.rest) in
    let two = same_lv t t' (flat_map tlv o) (flat_map tlv o') one.1 in
    let three = same_tlvs o o' two.1 in
    cc
same h (Metadata a b s t o) w d p q = let k = p.1.code in absurd cc
same h (Eof a b c o) (Eof a' b' c' o') d p q =
    let p' = p.1 in
    let q' = q.1 in
    let one = same_tlvs o o' (sym p'.rest ∙ q'.rest) in
    cc
same h (Eof a b c o) w d p q = let k = p.1.code in absurd cc
same h (Finished a b c o) (Finished a' b' c' o') d p q =
    let p' = p.1 in
    let q' = q.1 in
    let one = same_delivery b b' (sym p'.delivery_field ∙ q'.delivery_field) in
    let two = same_file_status c c' (sym p'.status_field ∙ q'.status_field) in
    let three = same_tlvs o o' (sym p'.rest ∙ q'.rest) in
    cc
same h (Finished a b c o) w d p q = let k = p.1.code in absurd cc
same h (Nak a b o) (Nak a' b' o') d p q =
    let p' = p.1 in
    let q' = q.1 in
    let one = same_pairs (fss h) o o' (drop (1 + 2 * fss h) d) (some h.large) p'.rest q'.rest in
    cc
same h (Nak a b o) w d p q = let k = p.1.code in absurd cc
same h (Prompt b) (Prompt b') d p q =
    let p' = p.1 in
    let q' = q.1 in
    let one = header.same_flag b b' (sym p'.kind_field ∙ q'.kind_field) in
    cc
same h (Prompt b) w d p q = let k = p.1.code in absurd cc
same h (KeepAlive a) (KeepAlive a') d p q =
    let p' = p.1 in
    let q' = q.1 in
    cc
same h (KeepAlive a) w d p q = let k = p.1.code in absurd cc
same h (Ack a b c) (Ack a' b' c') d p q =
    let p' = p.1 in
    let q' = q.1 in
    let one = same_code a a' (sym p'.of_field ∙ q'.of_field) in
    let two = same_transaction_status c c' (sym p'.status_field ∙ q'.status_field) in
    cc
same h (Ack a b c) w d p q = let k = p.1.code in absurd cc

-- ---- what is spelled is read

pub only : (r : Result (Header × Pdu) PduError) (t : List ℕ) → IfOk r (λ x. SpellsPdu x.0 (view x.1) t) → result_err r ≡ pdu_fault t → (h : Header) (v : Content) → SpellsPdu h v t →
    IsOkAnd r (λ x. (x.0 ≡ h) × (view x.1 ≡ v))
only (Err e) t found refused h v p =
    let none = pdu_accepted h v t p in
    absurd cc
only (Ok x) t found refused h v p =
    let heads : x.0 ≡ h = header.unique x.0 h t found.header p.header in
    let moved : Says h (view x.1) (before_crc h.crc (drop (header_len h.id_width h.number_width) t)) = subst (λ (k : Header). Says k (view x.1) (before_crc k.crc (drop (header_len k.id_width k.number_width) t))) heads found.content in
    (heads, same h (view x.1) v (before_crc h.crc (drop (header_len h.id_width h.number_width) t)) moved p.content)
