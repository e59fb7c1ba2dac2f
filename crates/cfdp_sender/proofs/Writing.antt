-- What stands in the octets of a PDU that carries some of the file.
use Rattle.std.proofs.Common.{◌≡◌, ℕ, ◌+◌, ◌-◌, ◌≤◌, List, [], ◌++◌, length, take, drop, Option, Some, refl, sym, ap, subst, ◌∙◌, arith, Bool}
use Rattle.std.proofs.lemmas.List.{length-append, length-take, length-drop, drop-drop, drop-take, drop_at, take_at, take-take, append-nil, append_assoc}
use Rattle.cfd_bits.specs.Field.{octets}
use Rattle.cfdp_header.specs.Crc.{crc_len, with_crc}
use Rattle.cfdp_header.specs.Header.{header_octets}
use Rattle.cfdp_header.proofs.Crcs.{crc_octets, length-crc, behind}
use Rattle.cfdp_directives.specs.declared.pdu.addressing.Addressing.{Addressing}
use Rattle.cfdp_directives.specs.Pdu.Addressing.{header_of, data_front_len}
use Rattle.cfdp_directives.specs.Pdu.Codes.{file_size_octets, is_large}
use Rattle.cfdp_directives.specs.Pdu.Content.{FileData}
use Rattle.cfdp_directives.specs.Pdu.Written.{pdu_octets}
use Rattle.cfdp_sender.specs.declared.due.SenderDue.{SenderDue}
use Rattle.cfdp_sender.specs.declared.due.SenderDue.TheVariants as due
use Rattle.cfdp_sender.specs.State.{SenderState}
use Rattle.cfdp_sender.specs.Due.{sender_due, carried, sender_says}
use Rattle.cfdp_directives.specs.declared.user.limits.Times.{Times}
use Rattle.cfdp_store.specs.declared.stored.Stored.TheVariants.{Done}
use Rattle.cfdp_timers.specs.declared.kind.Kind.{Kind}
use Rattle.cfdp_timers.specs.declared.effects.Effects.{Effects}
use Rattle.cfdp_sender.specs.declared.taken.Taken.TheVariants.{Moved}
use Rattle.cfdp_sender.specs.Steps.{pdu_sent, sender_sends}
use Rattle.cfdp_sender.specs.Does.{Leaves, Takes, Writes, timers_set}

-- a front, octets of the file after it, and the CRC after these, are a whole PDU
pub data-writes : (large : Bool) (a : Addressing) (start count at end : ℕ) (file out middle read new : List ℕ) → start + count ≤ length file → at ≡ data_front_len a large
    → ((bytes : List ℕ) → length bytes ≡ count → with_crc a.crc (take at middle ++ bytes) ≡ pdu_octets (header_of a large (FileData start bytes)) (FileData start bytes))
    → drop at middle ≡ drop at out → take (at + count) read ≡ take at middle ++ take count (drop start file) → drop (at + count) read ≡ drop (at + count) middle
    → end ≡ at + count + crc_len a.crc → take end new ≡ with_crc a.crc (take (at + count) read) → drop end new ≡ drop end read
    → Writes large a (FileData start (take count (drop start file))) end out new
data-writes large a start count at end file out middle read new within is front stays put rest ends check last =
    let bytes = take count (drop start file) in
    let len : length bytes ≡ count = omega (arith, length-take count (drop start file), length-drop start file, within) in
    let cut : drop (at + count) middle ≡ drop (at + count) out = sym (drop-drop count at middle) ∙ ap (λ (t : List ℕ). drop count t) stays ∙ drop-drop count at out in
    let kept : drop end read ≡ drop end out = rw ends
    (sym (drop-drop (crc_len a.crc) (at + count) read) ∙ ap (λ (t : List ℕ). drop (crc_len a.crc) t) (rest ∙ cut) ∙ drop-drop (crc_len a.crc) (at + count) out) in
    record {
      end = omega (arith, is, len, ends);
      front = check ∙ ap (with_crc a.crc) put ∙ front bytes len;
      behind = last ∙ kept;
    }

-- the octets at the end of a list of octets
at_end : (front bytes new : List ℕ) (len count : ℕ) → len ≤ length new → take len new ≡ front ++ bytes → length bytes ≡ count → (count ≤ len)
    × (take (len - (len - count)) (drop (len - count) new) ≡ bytes)
at_end front bytes new len count room is some =
    let total : length (take len new) ≡ length front + length bytes = ap length is ∙ length-append front bytes in
    let first : length front ≡ len - count = omega (arith, total, some, length-take len new, room) in
    let cut : drop (len - count) (front ++ bytes) ≡ bytes = drop_at front bytes (len - count) first in
    let whole : len - count + (len - (len - count)) ≡ len = omega arith in
    let same : drop (len - count) (take len new) ≡ take (len - (len - count)) (drop (len - count) new) = ap (λ (n : ℕ). drop (len - count) (take n new)) (sym whole)
    ∙ drop-take (len - count) (len - (len - count)) new in
    (omega (arith, total, some, length-take len new, room), sym same ∙ ap (drop (len - count)) is ∙ cut)

nothing_at_end : (new : List ℕ) (len count : ℕ) → 0 ≡ count → (count ≤ len) × (take (len - (len - count)) (drop (len - count) new) ≡ [])
nothing_at_end new len count is =
    let none : len - (len - count) ≡ 0 = omega (arith, is) in
    (omega (arith, is), rw none refl)

-- a text without the CRC at its end
without-crc : (crc : Bool) (text new : List ℕ) (len : ℕ) → len ≤ length new → take len new ≡ with_crc crc text → take (len - crc_len crc) new ≡ text
without-crc crc text new len room is =
    let tail = crc_octets crc text in
    let whole : take len new ≡ text ++ tail = is ∙ ap (with_crc crc) (sym (append-nil text)) ∙ behind crc text [] ∙ ap (λ t. text ++ crc_octets crc t) (append-nil text) in
    let total : length (take len new) ≡ length text + length tail = ap length whole ∙ length-append text tail in
    let first : length text ≡ len - crc_len crc = omega (arith, total, length-crc crc text, length-take len new, room) in
    let all : len - crc_len crc + crc_len crc ≡ len = omega (arith, total, length-crc crc text, length-take len new, room) in
    let front : take (len - crc_len crc) (take len new) ≡ take (len - crc_len crc) new = take-take (len - crc_len crc) len new (omega arith) in
    sym front ∙ ap (take (len - crc_len crc)) whole ∙ take_at text tail (len - crc_len crc) first

-- the last octets of a PDU before its CRC are those of the file that it carries
abbrev pub IsLast : List ℕ → List ℕ → ℕ → ℕ → Type 0
IsLast bytes new end count = (count ≤ end) × (take (end - (end - count)) (drop (end - count) new) ≡ bytes)

data-last : (x : SenderState) (start : ℕ) (bytes out new : List ℕ) (len count : ℕ) → Writes (is_large x.size) x.addressing (FileData start bytes) len out new → len ≤ length new
    → length bytes ≡ count → IsLast bytes new (len - crc_len x.addressing.crc) count
data-last x start bytes out new len count w room some =
    let v = FileData start bytes in
    let heads = header_octets (header_of x.addressing (is_large x.size) v) in
    let offset = octets (file_size_octets (is_large x.size)) start in
    at_end (heads ++ offset) bytes new (len - crc_len x.addressing.crc) count (omega (arith, room))
    (without-crc x.addressing.crc (heads ++ (offset ++ bytes)) new len room w.front ∙ sym (append_assoc heads offset bytes)) some

due-last : (x : SenderState) (d : SenderDue) (file out new : List ℕ) (len count : ℕ) → Writes (is_large x.size) x.addressing (sender_says file x d) len out new → len ≤ length new →
    length (carried file d)
    ≡ count
    → IsLast (carried file d) new (len - crc_len x.addressing.crc) count
due-last x (due.AskedData start end) file out new len count w room some = data-last x start (carried file (due.AskedData start end)) out new len count w room some
due-last x (due.NewData start end) file out new len count w room some = data-last x start (carried file (due.NewData start end)) out new len count w room some
due-last x (due.AckOfFinished condition) file out new len count w room some = nothing_at_end new (len - crc_len x.addressing.crc) count some
due-last x (due.Prompt keep_alive) file out new len count w room some = nothing_at_end new (len - crc_len x.addressing.crc) count some
due-last x due.Metadata file out new len count w room some = nothing_at_end new (len - crc_len x.addressing.crc) count some
due-last x due.Eof file out new len count w room some = nothing_at_end new (len - crc_len x.addressing.crc) count some

pub carried-last : (x : SenderState) (d : SenderDue) (file out new : List ℕ) (len check count : ℕ) → check ≡ crc_len x.addressing.crc
    → Writes (is_large x.size) x.addressing (sender_says file x d) len out new → len ≤ length new →
    length (carried file d)
    ≡ count
    → IsLast (carried file d) new (len - check) count
carried-last x d file out new len check count is w room some = subst (λ (n : ℕ). IsLast (carried file d) new (len - n) count) (sym is) (due-last x d file out new len count w room some)

-- what is left if the PDU that was due was written
pub takes-moved : (times : Times) (file octets : List ℕ) (x new : SenderState) (d : SenderDue) (len : ℕ) (anew : Option Kind) (before now : Effects) (out out_now : List ℕ)
    → sender_due x ≡ Some d → Writes (is_large x.size) x.addressing (sender_says file x d) len out out_now → octets ≡ carried file d
    → Leaves (pdu_sent Done octets x d) new before.told now.told → anew ≡ (pdu_sent Done octets x d).anew → now.timers ≡ timers_set times anew new before.timers
    → Takes times file (sender_due x) (Moved len) x new before now out out_now
takes-moved times file octets x new d len anew before now out out_now is w same l armed t =
    let left : Leaves (sender_sends Done file x d) new before.told now.told = subst (λ (o : List ℕ). Leaves (pdu_sent Done o x d) new before.told now.told) same l in
    let which : anew ≡ (sender_sends Done file x d).anew = armed ∙ ap (λ (o : List ℕ). (pdu_sent Done o x d).anew) same in
    let set = t ∙ ap (λ (a : Option Kind). timers_set times a new before.timers) which ∙ ap (λ (y : SenderState). timers_set times (sender_sends Done file x d).anew y before.timers) left.sender in
    subst (λ (o : Option SenderDue). Takes times file o (Moved len) x new before now out out_now) (sym is)
    (w, record { sender = left.sender; tells = left.tells; timers = set })
