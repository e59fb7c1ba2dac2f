-- Exported: what is written spells the PDU, and no spelling begins another.
use Rattle.std.proofs.Common.{◌≡◌, ℕ, ◌+◌, ◌*◌, ◌/◌, ◌%◌, ◌^◌, ◌<◌, ◌≤◌, Bool, false, List, [], ◌∷◌, ◌++◌, length, take, drop, refl, sym, ap, subst, ◌∙◌, append_assoc, append-nil, arith, length-append}
use Rattle.std.specs.List.{flat_map, AllByRecursion}
use Rattle.std.proofs.lemmas.List.{drop_at, drop-drop, length-take-le}
use Rattle.std.proofs.lemmas.List.Concat.{flat_map-cons}
use Rattle.cfd_bits.specs.Field.{field, octets, flag}
use Rattle.cfd_bits.proofs.Fields.{length-octets, field_between, field_in_octet}
use Rattle.cfdp_header.specs.declared.value.Header.{Header}
use Rattle.cfdp_header.specs.Crc.{before_crc}
use Rattle.cfdp_header.specs.Header.{FitsHeader, header_len, header_octets}
use Rattle.cfdp_header.proofs.Crcs as crcs
use Rattle.cfdp_header.proofs.Laws as header
use Rattle.cfdp_directives.specs.declared.pdu.codes.Delivery.{Delivery}
use Rattle.cfdp_directives.specs.declared.pdu.codes.Delivery.TheVariants.{Complete, Incomplete}
use Rattle.cfdp_directives.specs.declared.pdu.codes.FileStatus.{FileStatus}
use Rattle.cfdp_directives.specs.declared.pdu.codes.FileStatus.TheVariants.{Discarded, Rejected, Retained, Unreported}
use Rattle.cfdp_directives.specs.declared.pdu.codes.TransactionStatus.{TransactionStatus}
use Rattle.cfdp_directives.specs.declared.pdu.codes.TransactionStatus.TheVariants.{Undefined, Active, Terminated, Unrecognized}
use Rattle.cfdp_directives.specs.declared.pdu.codes.Acknowledged.{Acknowledged}
use Rattle.cfdp_directives.specs.declared.pdu.codes.Acknowledged.TheVariants as acknowledged
use Rattle.cfdp_directives.specs.Pdu.Codes.{delivery_code, file_status_code, transaction_status_code, acknowledged_code, acknowledged_subtype}
use Rattle.cfdp_directives.specs.Pdu.Tlv.{Tlv, tlv}
use Rattle.cfdp_directives.specs.Pdu.Pair.{pair, IsPair, ArePairs}
use Rattle.cfdp_directives.specs.Pdu.Content.{Content, FileData, Metadata, Eof, Finished, Ack, Nak, Prompt, KeepAlive, pdu_type_of}
use Rattle.cfdp_directives.specs.Pdu.Grammar.{Says, SpellsPdu, IsFileData, IsMetadata, IsEof, IsFinished, IsAck, IsNak, IsPrompt, IsKeepAlive, lv, fss}
use Rattle.cfdp_directives.specs.Pdu.Written.{content_octets, content_len, FitsContent, CanWrite, pdu_octets}
use Rattle.cfdp_directives.proofs.Only.{same}
use Rattle.cfdp_directives.proofs.Ranges.{pairs_len}

pub one_form : (a b x y : List ℕ) (h k : Header) (v w : Content) → SpellsPdu h v a → SpellsPdu k w b → a ++ x ≡ b ++ y → (a ≡ b) × (h ≡ k) × (v ≡ w)
one_form a b x y h k v w p q e =
    let r = header.one_form a b x y h k p.header q.header e in
    let moved : Says k v (before_crc k.crc (drop (header_len k.id_width k.number_width) b)) =
    subst (λ (t : List ℕ). Says k v (before_crc k.crc (drop (header_len k.id_width k.number_width) t))) r.0
    (subst (λ (g : Header). Says g v (before_crc g.crc (drop (header_len g.id_width g.number_width) a))) r.1 p.content) in
    (r.0, r.1, same k v w (before_crc k.crc (drop (header_len k.id_width k.number_width) b)) moved q.content)

-- ---- codes fit their fields

pub one_octet : (n : ℕ) → n < 256 → octets 1 n ≡ n ∷ []
unfolding octets
one_octet n h = let e : n % 256 ≡ n = omega arith in rw e refl

pub delivery_below : (delivery : Delivery) → delivery_code delivery < 2
delivery_below Complete = omega arith
delivery_below Incomplete = omega arith

pub file_status_below : (status : FileStatus) → file_status_code status < 4
file_status_below Discarded = omega arith
file_status_below Rejected = omega arith
file_status_below Retained = omega arith
file_status_below Unreported = omega arith

pub transaction_status_below : (status : TransactionStatus) → transaction_status_code status < 4
transaction_status_below Undefined = omega arith
transaction_status_below Active = omega arith
transaction_status_below Terminated = omega arith
transaction_status_below Unrecognized = omega arith

pub acknowledged_below : (of : Acknowledged) → 16 * acknowledged_code of + acknowledged_subtype of < 256
acknowledged_below acknowledged.Eof = omega arith
acknowledged_below acknowledged.Finished = omega arith

-- ---- pairs

pairs_written : (w : ℕ) (ps : List (ℕ × ℕ)) → AllByRecursion (IsPair w) ps → ArePairs w ps (flat_map (pair w) ps)
pairs_written w [] h = refl
pairs_written w (p ∷ ps) h =
    let rest = flat_map (pair w) ps in
    let a = octets w p.0 in
    let b = octets w p.1 in
    let la = length-octets w p.0 in
    let lb = length-octets w p.1 in
    let whole : flat_map (pair w) (p ∷ ps) ≡ a ++ (b ++ rest) = flat_map-cons (pair w) p ps ∙ append_assoc a b rest in
    let one : field (a ++ (b ++ rest)) 0 (8 * w) ≡ p.0 = field_between [] (b ++ rest) w p.0 0 (8 * w) h.0.0 refl refl in
    let two : field (a ++ (b ++ rest)) (8 * w) (8 * w) ≡ p.1 = field_between a rest w p.1 (8 * w) (8 * w) h.0.1 (omega (arith, la)) refl in
    let both : length (a ++ b) ≡ 2 * w = omega (arith, length-append a b, la, lb) in
    let behind : drop (2 * w) (a ++ (b ++ rest)) ≡ rest = rw (← append_assoc a b rest) (drop_at (a ++ b) rest (2 * w) both) in
    let room : 2 * w ≤ length (a ++ (b ++ rest)) = omega (arith, length-append a (b ++ rest), length-append b rest, la, lb) in
    subst (λ (t : List ℕ). ArePairs w (p ∷ ps) t) (sym whole) (room, one, two, subst (λ (t : List ℕ). ArePairs w ps t) (sym behind) (pairs_written w ps h.1))

-- ---- data fields

file_data_written : (w offset : ℕ) (bytes : List ℕ) → offset < 256 ^ w → IsFileData w false offset bytes (content_octets w (FileData offset bytes))
file_data_written w offset bytes f = record {
  room = omega (arith, length-append (octets w offset) bytes, length-octets w offset);
  offset_field = field_between [] bytes w offset 0 (8 * w) f refl refl;
  after = drop_at (octets w offset) bytes (0 + w) (omega (arith, length-octets w offset));
}

metadata_written : (w k z : ℕ) (s t : List ℕ) (o : List Tlv) → FitsContent w (Metadata k z s t o) → IsMetadata w k z s t o (content_octets w (Metadata k z s t o))
unfolding octets
metadata_written w k z s t o f =
    let texts = lv s ++ (lv t ++ flat_map tlv o) in
    let front = octets 1 7 ++ octets 1 k ++ octets w z in
    let d = front ++ texts in
    let grouped : content_octets w (Metadata k z s t o) ≡ d = simp append_assoc in
    let low = f.0 in
    let kind = field_in_octet d 12 4 1 4 (k % 256) refl (omega arith) refl in
    let len : length front ≡ 2 + w = omega (arith, length-octets w z) in
    rw grouped (record {
      room = omega (arith, length-append front texts, len);
      code = field_in_octet d 0 8 0 0 7 refl (omega arith) refl;
      kind_field = omega arith;
      size_field = field_between (octets 1 7 ++ octets 1 k) texts w z 16 (8 * w) f.1 refl refl;
      rest = drop_at front texts (2 + w) len;
    })

eof_written : (w c k z : ℕ) (o : List Tlv) → FitsContent w (Eof c k z o) → IsEof w c k z o (content_octets w (Eof c k z o))
unfolding octets
eof_written w c k z o f =
    let d = content_octets w (Eof c k z o) in
    let front = octets 1 4 ++ octets 1 (16 * c) ++ octets 4 k ++ octets w z in
    let low = f.0.0 in
    let condition = field_in_octet d 8 4 1 0 (16 * c % 256) refl (omega arith) refl in
    let len : length front ≡ 6 + w = omega (arith, length-octets w z) in
    record {
      room = omega (arith, length-append front (flat_map tlv o), len);
      code = field_in_octet d 0 8 0 0 4 refl (omega arith) refl;
      condition_field = omega arith;
      allowed = f.0.1;
      checksum_field = field_between (octets 1 4 ++ octets 1 (16 * c)) (octets w z ++ flat_map tlv o) 4 k 16 32 f.1 refl refl;
      size_field = field_between (octets 1 4 ++ octets 1 (16 * c) ++ octets 4 k) (flat_map tlv o) w z 48 (8 * w) f.2 refl refl;
      rest = drop_at front (flat_map tlv o) (6 + w) len;
    }

finished_written : (w c : ℕ) (i : Delivery) (s : FileStatus) (o : List Tlv) → FitsContent w (Finished c i s o) → IsFinished c i s o (content_octets w (Finished c i s o))
unfolding octets
finished_written w c i s o f =
    let d = content_octets w (Finished c i s o) in
    let x : ℕ = (16 * c + 4 * delivery_code i + file_status_code s) % 256 in
    let low = f.0 in
    let low2 = delivery_below i in
    let low3 = file_status_below s in
    let condition = field_in_octet d 8 4 1 0 x refl (omega arith) refl in
    let delivery = field_in_octet d 13 1 1 5 x refl (omega arith) refl in
    let status = field_in_octet d 14 2 1 6 x refl (omega arith) refl in
    record {
      room = omega arith;
      code = field_in_octet d 0 8 0 0 5 refl (omega arith) refl;
      condition_field = omega arith;
      allowed = f.1;
      delivery_field = omega arith;
      status_field = omega arith;
      rest = refl;
    }

nak_written : (w s e : ℕ) (ps : List (ℕ × ℕ)) → FitsContent w (Nak s e ps) → IsNak w s e ps (content_octets w (Nak s e ps))
unfolding octets
nak_written w s e ps f =
    let d = content_octets w (Nak s e ps) in
    let ranges = flat_map (pair w) ps in
    let front = octets 1 8 ++ octets w s ++ octets w e in
    let ls = length-octets w s in
    let le = length-octets w e in
    let len : length front ≡ 1 + 2 * w = omega (arith, length-append (octets w s) (octets w e), ls, le) in
    let grouped : d ≡ octets 1 8 ++ (octets w s ++ (octets w e ++ ranges)) = simp append_assoc in
    let start : field (octets 1 8 ++ (octets w s ++ (octets w e ++ ranges))) 8 (8 * w) ≡ s = field_between (octets 1 8) (octets w e ++ ranges) w s 8 (8 * w) f.0 refl refl in
    let end : field (octets 1 8 ++ (octets w s ++ (octets w e ++ ranges))) (8 + 8 * w) (8 * w) ≡ e =
    field_between (octets 1 8 ++ octets w s) ranges w e (8 + 8 * w) (8 * w) f.1 (omega (arith, ls)) refl in
    record {
      room = omega (arith, length-append front ranges, len);
      code = field_in_octet d 0 8 0 0 8 refl (omega arith) refl;
      start_field = subst (λ (t : List ℕ). field t 8 (8 * w) ≡ s) (sym grouped) start;
      end_field = subst (λ (t : List ℕ). field t (8 + 8 * w) (8 * w) ≡ e) (sym grouped) end;
      rest = subst (λ (t : List ℕ). ArePairs w ps t) (sym (drop_at front ranges (1 + 2 * w) len)) (pairs_written w ps f.2);
    }

prompt_written : (w : ℕ) (k : Bool) → IsPrompt k (content_octets w (Prompt k))
unfolding octets
prompt_written w k =
    let d = content_octets w (Prompt k) in
    let low = header.flag_below k in
    let kind = field_in_octet d 8 1 1 0 (128 * flag k % 256) refl (omega arith) refl in
    record { size_octets = refl; code = field_in_octet d 0 8 0 0 9 refl (omega arith) refl; kind_field = omega arith }

keep_alive_written : (w n : ℕ) → FitsContent w (KeepAlive n) → IsKeepAlive w n (content_octets w (KeepAlive n))
unfolding octets
keep_alive_written w n f =
    let d = content_octets w (KeepAlive n) in
    let behind : field (octets 1 12 ++ (octets w n ++ [])) 8 (8 * w) ≡ n = field_between (octets 1 12) [] w n 8 (8 * w) f refl refl in
    record {
      size_octets = omega (arith, length-octets w n);
      code = field_in_octet d 0 8 0 0 12 refl (omega arith) refl;
      progress_field = subst (λ (t : List ℕ). field (octets 1 12 ++ t) 8 (8 * w) ≡ n) (append-nil (octets w n)) behind;
    }

code_written : (of : Acknowledged) → (16 * acknowledged_code of + acknowledged_subtype of) % 256 / 2 ^ 4 % 2 ^ 4 ≡ acknowledged_code of
code_written acknowledged.Eof = refl
code_written acknowledged.Finished = refl

ack_written : (w : ℕ) (of : Acknowledged) (c : ℕ) (s : TransactionStatus) → FitsContent w (Ack of c s) → IsAck of c s (content_octets w (Ack of c s))
unfolding octets
ack_written w of c s f =
    let d = content_octets w (Ack of c s) in
    let x : ℕ = (16 * c + transaction_status_code s) % 256 in
    let low = f.0 in
    let low2 = transaction_status_below s in
    let condition = field_in_octet d 16 4 2 0 x refl (omega arith) refl in
    let status = field_in_octet d 22 2 2 6 x refl (omega arith) refl in
    record {
      size_octets = refl;
      code = field_in_octet d 0 8 0 0 6 refl (omega arith) refl;
      of_field = field_in_octet d 8 4 1 0 ((16 * acknowledged_code of + acknowledged_subtype of) % 256) refl (omega arith) refl ∙ code_written of;
      condition_field = omega arith;
      allowed = f.1;
      status_field = omega arith;
    }

said : (h : Header) (v : Content) → FitsContent (fss h) v → h.pdu_type ≡ pdu_type_of v → h.segment_metadata ≡ false → Says h v (content_octets (fss h) v)
said h (FileData a b) f k plain = (k, subst (λ (m : Bool). IsFileData (fss h) m a b (content_octets (fss h) (FileData a b))) (sym plain) (file_data_written (fss h) a b f))
said h (Metadata a b s t o) f k plain = (k, metadata_written (fss h) a b s t o f)
said h (Eof a b c o) f k plain = (k, eof_written (fss h) a b c o f)
said h (Finished a b c o) f k plain = (k, finished_written (fss h) a b c o f)
said h (Ack a b c) f k plain = (k, ack_written (fss h) a b c f)
said h (Nak a b o) f k plain = (k, nak_written (fss h) a b o f)
said h (Prompt a) f k plain = (k, prompt_written (fss h) a)
said h (KeepAlive a) f k plain = (k, keep_alive_written (fss h) a f)

pub length-content_octets : (w : ℕ) (v : Content) → length (content_octets w v) ≡ content_len w v
unfolding octets
length-content_octets w (FileData a b) = omega (arith, length-append (octets w a) b, length-octets w a)
length-content_octets w (Metadata a b s t o) =
    let grouped : content_octets w (Metadata a b s t o) ≡ octets 1 7 ++ octets 1 a ++ octets w b ++ (lv s ++ (lv t ++ flat_map tlv o)) = simp append_assoc in
    ap length grouped
    ∙ omega (arith, length-append (octets w b) (lv s ++ (lv t ++ flat_map tlv o)), length-octets w b, length-append s (lv t ++ flat_map tlv o), length-append t (flat_map tlv o))
length-content_octets w (Eof a b c o) = omega (arith, length-append (octets w c) (flat_map tlv o), length-octets w c)
length-content_octets w (Finished a b c o) = omega arith
length-content_octets w (Ack a b c) = refl
length-content_octets w (Nak a b o) =
    omega (arith, length-append (octets w a ++ octets w b) (flat_map (pair w) o), length-append (octets w a) (octets w b), length-octets w a, length-octets w b, pairs_len w o)
length-content_octets w (Prompt a) = refl
length-content_octets w (KeepAlive a) = omega (arith, length-octets w a)

-- what is written spells the PDU
pub spelled : (h : Header) (v : Content) → CanWrite h v → SpellsPdu h v (pdu_octets h v)
spelled h v can =
    let len = can.len in
    let heads = header_octets h in
    let says = content_octets (fss h) v in
    let n : ℕ = header_len h.id_width h.number_width in
    let behind = says ++ crcs.crc_octets h.crc (heads ++ says) in
    let place : before_crc h.crc (drop n (pdu_octets h v)) ≡ says =
    ap (λ (t : List ℕ). before_crc h.crc (drop n t)) (crcs.behind h.crc heads says)
    ∙ ap (λ (t : List ℕ). before_crc h.crc t) (drop_at heads behind n (header.length-header_octets h))
    ∙ crcs.before h.crc (heads ++ says) says in
    record {
      header = header.spelled h says can.header (omega (arith, length-content_octets (fss h) v));
      content = subst (λ (t : List ℕ). Says h v t) (sym place) (said h v can.content can.kind can.no_segment_metadata);
    }

-- octets that stayed after a header also stay after its data field
pub behind_data : (out middle front : List ℕ) (at len end : ℕ) → drop at middle ≡ drop at out → length front ≡ length (take (at + len) middle) → at + len ≤ length middle → end ≡ at + len →
    drop end (front ++ drop (at + len) middle) ≡ drop end out
behind_data out middle front at len end stayed size room ends =
    let whole : length front ≡ at + len = size ∙ length-take-le (at + len) middle room in
    let cut : drop (at + len) middle ≡ drop (at + len) out = sym (drop-drop len at middle) ∙ ap (λ (t : List ℕ). drop len t) stayed ∙ drop-drop len at out in
    rw ends (drop_at front (drop (at + len) middle) (at + len) whole ∙ cut)

-- the header of what was read fits its fields
pub answered : (h : Header) (v : Content) (t : List ℕ) → SpellsPdu h v t → FitsHeader h
answered h v t p = header.read_fits h t p.header
