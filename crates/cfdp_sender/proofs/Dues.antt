-- Exported: what holds of a PDU that is due, and that it can be written.
use Rattle.std.proofs.Common.{◌≡◌, ℕ, zero, suc, ◌+◌, ◌-◌, ◌^◌, ◌<◌, ◌≤◌, ◌||◌, not, min, Bool, true, false, List, [], ◌∷◌, length, take, drop, Option, Some, None, IfSome, nat_lt, if◌then◌else◌, lit<, refl, sym, ap, subst, ◌∙◌, arith, add-zero, ◌⊎◌, inl, inr}
use Rattle.std.specs.Cmp.{nat_cmp_total}
use Rattle.std.specs.FinSet as set
use Rattle.std.specs.List.{flat_map}
use Rattle.std.proofs.lemmas.Bool.{ltb-true, le-leb, lt-ltb, and_from}
use Rattle.std.proofs.lemmas.Bool.Decides.{nat_tests}
use Rattle.std.proofs.lemmas.List.{append-nil, length-take, length-drop}
use Rattle.cfd_bits.proofs.Fields.{length-octets}
use Rattle.cfd_bits.specs.Field.{octets}
use Rattle.cfdp_extents.specs.Offsets.{range}
use Rattle.cfdp_extents.specs.Front.{IsFront}
use Rattle.cfdp_extents.specs.Terms.{front_of}
use Rattle.cfdp_extents.proofs.CallerLemmas.{contains-range, front-is}
use Rattle.std.specs.Option.{option_map}
use Rattle.cfdp_directives.specs.Pdu.Content.{Content}
use Rattle.cfdp_directives.specs.Pdu.Addressing.{header_of, data_field_len, written_len}
use Rattle.cfdp_directives.specs.Pdu.Codes.{file_size_octets, is_large, IsCondition}
use Rattle.cfdp_directives.proofs.FileSizes.{own_fits, octets_most}
use Rattle.cfdp_directives.specs.Pdu.Tlv.{tlv, fault_location}
use Rattle.cfdp_directives.specs.Pdu.Written.{content_len, FitsContent, CanWrite}
use Rattle.cfdp_directives.proofs.Addressed.{can_write, crc_short}
use Rattle.cfdp_sender.specs.declared.phase.SenderPhase.{SenderPhase}
use Rattle.cfdp_sender.specs.declared.phase.SenderPhase.TheVariants.{Sending, Cancelling, Closed}
use Rattle.cfdp_sender.specs.declared.due.SenderDue.{SenderDue}
use Rattle.cfdp_sender.specs.declared.due.SenderDue.TheVariants as due
use Rattle.cfdp_sender.specs.State.{SenderState, IsSender}
use Rattle.cfdp_sender.specs.Due.{sender_due, ack_first, phase_due, prompt_first, file_due, data_due, rest_due, carried, carries, pdu_says, sender_says, eof_says, told_checksum}

-- EOF is due once all was sent, or once it is cancelled
abbrev pub IsEofDue : SenderPhase → SenderState → Type 0
IsEofDue Sending x = x.size ≤ x.sent
IsEofDue Cancelling x = Unit {0}
IsEofDue Closed x = ⊥

-- what holds of what is due
abbrev pub IsDue : SenderState → SenderDue → Type 0
IsDue x (due.AckOfFinished condition) = x.ack_due ≡ Some condition
IsDue x (due.AskedData start end) = front_of x.asked x.segment ≡ Some (start, end)
IsDue x (due.NewData start end) = (start ≡ x.sent) × (x.sent < x.size) × (end ≡ min x.size (x.sent + x.segment))
IsDue x due.Eof = IsEofDue x.phase x
IsDue x _ = Unit {0}

rest-is : (x : SenderState) (d : SenderDue) → x.phase ≡ Sending → rest_due x ≡ Some d → IsDue x d
rest-is x d p e = elim (nat_lt x.sent x.size) as (λ b. nat_lt x.sent x.size ≡ b →
    (if b then Some (due.NewData x.sent (min x.size (x.sent + x.segment))) else (if x.eof_due || not x.eof_taken then Some due.Eof else None)) ≡ Some d → IsDue x d) [
      | true ↦ λ t h.
          let same : due.NewData x.sent (min x.size (x.sent + x.segment)) ≡ d = cc in
          subst (IsDue x) same (refl, ltb-true _ _ t, refl)
      | false ↦ λ f h. elim (x.eof_due || not x.eof_taken) as (λ b. (if b then Some due.Eof else None) ≡ Some d → IsDue x d) [
        | true ↦ λ g. let same : due.Eof ≡ d = cc in subst (IsDue x) same (subst (λ q. IsEofDue q x) (sym p) (grind (arith, nat_tests)))
        | false ↦ λ g. absurd (cc)
      ] h
    ] refl e

data-is : (x : SenderState) (d : SenderDue) → x.phase ≡ Sending → (o : Option (ℕ × ℕ)) → front_of x.asked x.segment ≡ o → data_due o x ≡ Some d → IsDue x d
data-is x d p (Some r) is e = let same : due.AskedData r.0 r.1 ≡ d = cc in subst (IsDue x) same is
data-is x d p None is e = rest-is x d p e

file-is : (x : SenderState) (d : SenderDue) → x.phase ≡ Sending → file_due x ≡ Some d → IsDue x d
file-is x d p e = elim x.metadata_due as (λ b. (if b then Some due.Metadata else data_due (front_of x.asked x.segment) x) ≡ Some d → IsDue x d) [
  | true ↦ λ h. let same : due.Metadata ≡ d = cc in subst (IsDue x) same tt
  | false ↦ λ h. data-is x d p (front_of x.asked x.segment) refl h
] e

prompt-is : (x : SenderState) (d : SenderDue) → x.phase ≡ Sending → (o : Option Bool) → prompt_first o x ≡ Some d → IsDue x d
prompt-is x d p (Some keep_alive) e = let same : due.Prompt keep_alive ≡ d = cc in subst (IsDue x) same tt
prompt-is x d p None e = file-is x d p e

phase-is : (x : SenderState) (d : SenderDue) (p : SenderPhase) → x.phase ≡ p → phase_due p x ≡ Some d → IsDue x d
phase-is x d Sending is e = prompt-is x d is x.prompt_due e
phase-is x d Cancelling is e = elim x.eof_due as (λ b. (if b then Some due.Eof else None) ≡ Some d → IsDue x d) [
  | true ↦ λ h. let same : due.Eof ≡ d = cc in subst (IsDue x) same (subst (λ q. IsEofDue q x) (sym is) tt)
  | false ↦ λ h. absurd (cc)
] e
phase-is x d Closed is e = absurd (cc)

ack-is : (x : SenderState) (d : SenderDue) (o : Option ℕ) → x.ack_due ≡ o → ack_first o x ≡ Some d → IsDue x d
ack-is x d (Some condition) is e = let same : due.AckOfFinished condition ≡ d = cc in subst (IsDue x) same is
ack-is x d None is e = phase-is x d x.phase refl e

pub due-is : (x : SenderState) (d : SenderDue) → sender_due x ≡ Some d → IsDue x d
due-is x d e = elim x.suspended as (λ b. (if b then None else ack_first x.ack_due x) ≡ Some d → IsDue x d) [
  | true ↦ λ h. absurd (cc)
  | false ↦ λ h. ack-is x d x.ack_due refl h
] e

-- ---- the data that a PDU carries are in the file, and at most a segment
pub record IsSegment (x : SenderState) (start end : ℕ) : Type 0 where
  pub some : start < end
  pub most : end ≤ start + x.segment
  pub within : end ≤ x.size

pub asked-segment : (x : SenderState) (start end : ℕ) → IsSender x → front_of x.asked x.segment ≡ Some (start, end) → IsSegment x start end
asked-segment x start end s e =
    let front : IsFront x.asked x.segment start end = front-is x.asked x.segment (start, end) e in
    let within : set.contains (range start end) (end - 1) ≡ true =
    contains-range start end (end - 1) ∙ and_from _ _ (le-leb start (end - 1) (omega (arith, front.some))) (lt-ltb (end - 1) end (omega (arith, front.some))) in
    let below = s.asked (end - 1) (set.is_subset-contains nat_cmp_total (range start end) x.asked front.gapless (end - 1) within) in
    record { some = front.some; most = front.at_most; within = omega (arith, front.some, below, s.sent) }

pub new-segment : (x : SenderState) (end : ℕ) → IsSender x → x.sent < x.size → end ≡ min x.size (x.sent + x.segment) → IsSegment x x.sent end
new-segment x end s more is = record {
  some = omega (arith, more, is, s.transfer.some);
  most = omega (arith, is);
  within = omega (arith, is);
}

abbrev pub CarriesSegment : SenderState → SenderDue → Type 0
CarriesSegment x (due.AskedData start end) = IsSegment x start end
CarriesSegment x (due.NewData start end) = IsSegment x start end
CarriesSegment x _ = Unit {0}

pub carries-segment : (x : SenderState) (d : SenderDue) → IsSender x → IsDue x d → CarriesSegment x d
carries-segment x (due.AckOfFinished condition) s is = tt
carries-segment x (due.Prompt keep_alive) s is = tt
carries-segment x due.Metadata s is = tt
carries-segment x (due.AskedData start end) s is = asked-segment x start end s is
carries-segment x (due.NewData start end) s is = subst (λ n. IsSegment x n end) (sym is.0) (new-segment x end s is.1 is.2)
carries-segment x due.Eof s is = tt

-- ---- what is due can be written
location-len : (entity width : ℕ) → length (flat_map tlv (fault_location entity width ∷ [])) ≡ 2 + width
location-len entity width =
    let len : length (octets width entity) ≡ width = length-octets width entity in
    ap length (append-nil (tlv (fault_location entity width))) ∙ omega (arith, len)

told-fits : (x : SenderState) → IsSender x → told_checksum x < 2 ^ 32
told-fits x s = s.sums x.checksum_kind

-- each number fits its field, and the data field is short
abbrev pub Fits : SenderState → SenderDue → List ℕ → Type 0
Fits x d bytes = FitsContent (file_size_octets (is_large x.size)) (pdu_says bytes x d) × (data_field_len x.addressing (is_large x.size) (pdu_says bytes x d) < 2 ^ 16)

-- each offset of the file and its size fit their fields
pub below-fits : (x : SenderState) (n : ℕ) → IsSender x → n ≤ x.size → n < 256 ^ file_size_octets (is_large x.size)
below-fits x n s low = omega (arith, low, own_fits x.size s.transfer.size)

eof-fits : (x : SenderState) (p : SenderPhase) → IsSender x →
    FitsContent (file_size_octets (is_large x.size)) (eof_says p x) × (data_field_len x.addressing (is_large x.size) (eof_says p x) < 2 ^ 16)
eof-fits x Sending s = (((lit< tt, refl), told-fits x s, below-fits x x.size s (omega arith)), omega (arith, octets_most (is_large x.size), crc_short x.addressing.crc))
eof-fits x Cancelling s = (
  (s.condition, told-fits x s, below-fits x x.sent s s.sent),
  let len = location-len x.addressing.id.source x.addressing.id_width in
      omega (arith, len, octets_most (is_large x.size), crc_short x.addressing.crc, s.transfer.addressing.id.id_width.1),
)
eof-fits x Closed s = (
  (s.condition, told-fits x s, below-fits x x.sent s s.sent),
  let len = location-len x.addressing.id.source x.addressing.id_width in
      omega (arith, len, octets_most (is_large x.size), crc_short x.addressing.crc, s.transfer.addressing.id.id_width.1),
)

pub due-fits : (x : SenderState) (d : SenderDue) (bytes : List ℕ) → IsSender x → IsDue x d → length bytes ≤ 4096 → Fits x d bytes
due-fits x (due.AckOfFinished condition) bytes s is le = (subst (λ o. IfSome o IsCondition) is s.ack, omega (arith, crc_short x.addressing.crc))
due-fits x (due.Prompt keep_alive) bytes s is le = (tt, omega (arith, crc_short x.addressing.crc))
due-fits x due.Metadata bytes s is le = (
  (s.transfer.kind, below-fits x x.size s (omega arith), omega (arith, s.transfer.source.1), omega (arith, s.transfer.destination.1)),
  omega (arith, octets_most (is_large x.size), crc_short x.addressing.crc, s.transfer.source.1, s.transfer.destination.1),
)
due-fits x (due.AskedData start end) bytes s is le =
    let part = asked-segment x start end s is in
    (below-fits x start s (omega (arith, part.some, part.within)), omega (arith, octets_most (is_large x.size), crc_short x.addressing.crc, le))
due-fits x (due.NewData start end) bytes s is le =
    (below-fits x start s (omega (arith, is.0, is.1)), omega (arith, octets_most (is_large x.size), crc_short x.addressing.crc, le))
due-fits x due.Eof bytes s is le = eof-fits x x.phase s

-- what is due can be written
carried-short : (x : SenderState) (d : SenderDue) (file : List ℕ) → CarriesSegment x d → x.segment ≤ 4096 → length (carried file d) ≤ 4096
carried-short x (due.AskedData start end) file part most = omega (arith, length-take (end - start) (drop start file), part.most, most)
carried-short x (due.NewData start end) file part most = omega (arith, length-take (end - start) (drop start file), part.most, most)
carried-short x (due.AckOfFinished condition) file part most = omega arith
carried-short x (due.Prompt keep_alive) file part most = omega arith
carried-short x due.Metadata file part most = omega arith
carried-short x due.Eof file part most = omega arith

pub due-can_write : (x : SenderState) (d : SenderDue) (file : List ℕ) → IsSender x → sender_due x ≡ Some d →
    CanWrite (header_of x.addressing (is_large x.size) (sender_says file x d)) (sender_says file x d)
due-can_write x d file s is =
    let of = due-is x d is in
    let fits : Fits x d (carried file d) = due-fits x d (carried file d) s of (carried-short x d file (carries-segment x d s of) s.transfer.most) in
    can_write x.addressing (is_large x.size) (sender_says file x d) s.transfer.addressing fits.0 fits.1

-- and is no longer than file data of a whole segment
none-carried : (count : ℕ) → (0 < count → false ≡ true) → count ≡ 0
none-carried zero some = refl
none-carried (suc n) some = let e : false ≡ true = some (omega arith) in absurd (cc)

eof-short : (x : SenderState) (p : SenderPhase) → IsSender x → content_len (file_size_octets (is_large x.size)) (eof_says p x) ≤ 24
eof-short x Sending s = omega (arith, octets_most (is_large x.size))
eof-short x Cancelling s = let len = location-len x.addressing.id.source x.addressing.id_width in omega (arith, len, octets_most (is_large x.size), s.transfer.addressing.id.id_width.1)
eof-short x Closed s = let len = location-len x.addressing.id.source x.addressing.id_width in omega (arith, len, octets_most (is_large x.size), s.transfer.addressing.id.id_width.1)

pub content-short : (x : SenderState) (d : SenderDue) (count : ℕ) → IsSender x → count ≤ 4096 → (0 < count → carries d ≡ true) →
    content_len (file_size_octets (is_large x.size)) (pdu_says [] x d) + count ≤ 4104
content-short x (due.AckOfFinished condition) count s le some = omega (arith, octets_most (is_large x.size), none-carried count some)
content-short x (due.Prompt keep_alive) count s le some = omega (arith, octets_most (is_large x.size), none-carried count some)
content-short x due.Metadata count s le some = omega (arith, octets_most (is_large x.size), none-carried count some, s.transfer.source.1, s.transfer.destination.1)
content-short x (due.AskedData start end) count s le some = omega (arith, octets_most (is_large x.size), le)
content-short x (due.NewData start end) count s le some = omega (arith, octets_most (is_large x.size), le)
content-short x due.Eof count s le some = omega (arith, octets_most (is_large x.size), none-carried count some, eof-short x x.phase s)

-- the octets carried add to the length of a PDU without them
pub says-len : (x : SenderState) (d : SenderDue) (file : List ℕ) →
    content_len (file_size_octets (is_large x.size)) (pdu_says (carried file d) x d) ≡ content_len (file_size_octets (is_large x.size)) (pdu_says [] x d)
    + length (carried file d)
says-len x (due.AckOfFinished condition) file = refl
says-len x (due.Prompt keep_alive) file = refl
says-len x due.Metadata file = sym (add-zero _)
says-len x (due.AskedData start end) file = omega arith
says-len x (due.NewData start end) file = omega arith
says-len x due.Eof file = sym (add-zero _)

-- an extent whose octets are those carried has their length
pub extent-len : (file octets : List ℕ) (start len size : ℕ) → octets ≡ take len (drop start file) → length file ≡ size → start + len ≤ size → length octets ≡ len
extent-len file octets start len size is whole within =
    let dropped = length-drop start file in
    let taken = length-take len (drop start file) in
    let same : length octets ≡ length (take len (drop start file)) = ap length is in
    omega (arith, dropped, taken, same, whole, within)

pub carries-data : (d : SenderDue) → ((start : ℕ) × (end : ℕ) × (d ≡ due.AskedData start end)) ⊎ ((start : ℕ) × (end : ℕ) × (d ≡ due.NewData start end)) → carries d ≡ true
carries-data d (inl h) = ap carries h.2
carries-data d (inr h) = ap carries h.2

pub data-segment : (x : SenderState) (d : SenderDue) (start end : ℕ) → IsSender x → sender_due x ≡ Some d
    → (d ≡ due.AskedData start end) ⊎ (d ≡ due.NewData start end) → IsSegment x start end
data-segment x d start end s is (inl e) = subst (CarriesSegment x) e (carries-segment x d s (due-is x d is))
data-segment x d start end s is (inr e) = subst (CarriesSegment x) e (carries-segment x d s (due-is x d is))

-- so that a header before it fits too
pub fits-short : (x : SenderState) (d : SenderDue) (bytes : List ℕ) → IsSender x → sender_due x ≡ Some d → length bytes ≤ 4096 → Fits x d bytes
fits-short x d bytes s is le = due-fits x d bytes s (due-is x d is) le

-- the length of a PDU that is due
pub len-of-due : (x : SenderState) (d : SenderDue) (file : List ℕ) (start len r : ℕ) (v : Content) → v ≡ pdu_says [] x d → r ≡ written_len x.addressing (is_large x.size) v
    → carried file d ≡ take len (drop start file) → length file ≡ x.size → start + len ≤ x.size → r + len ≡ written_len x.addressing (is_large x.size) (sender_says file x d)
len-of-due x d file start len r v says written part whole within =
    let add = says-len x d file in
    let same : length (carried file d) ≡ len = extent-len file (carried file d) start len x.size part whole within in
    let content : content_len (file_size_octets (is_large x.size)) v ≡ content_len (file_size_octets (is_large x.size)) (pdu_says [] x d) = ap (content_len (file_size_octets
    (is_large x.size))) says in
    omega (arith, add, same, content, written)

-- the length that `due` answers
pub due-len : (x : SenderState) (d : SenderDue) (file : List ℕ) (start len r : ℕ) (v : Content)
    → sender_due x ≡ Some d → v ≡ pdu_says [] x d → r ≡ written_len x.addressing (is_large x.size) v
    → carried file d ≡ take len (drop start file) → length file ≡ x.size → start + len ≤ x.size
    → Some (r + len) ≡ option_map (λ d. written_len x.addressing (is_large x.size) (sender_says file x d)) (sender_due x)
due-len x d file start len r v is says written part whole within =
    ap Some (len-of-due x d file start len r v says written part whole within)
    ∙ ap (option_map (λ d. written_len x.addressing (is_large x.size) (sender_says file x d))) (sym is)
