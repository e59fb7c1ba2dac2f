-- What a dump shows, thing by thing, each in a line, or in some lines if fields are shown.
use Rattle.std.specs.Prelude.{◌≡◌, ℕ, ◌+◌, ◌-◌, ◌<◌, ◌==◌, ◌&&◌, ◌||◌, Bool, true, false, nat_le, nat_lt, not, if◌then◌else◌, List, [], ◌∷◌, ◌++◌, codes, decimal, drop, length, slice_index, Option, Some, None}
use Rattle.std.specs.Int.{is_in_range}
use Rattle.std.specs.List.{flat_map}
use Rattle.captures.specs.Texts.{fault_text, passed_text}
use Rattle.space_packet.specs.Packet.{apid_field, count_field, flags_field, secondary_field}
use Rattle.cfdp_dump.specs.Carrying.{CarriedText}
use Rattle.cfdp_dump.specs.Spelled.Refusal.{has_details, refusal_text}
use Rattle.cfdp_dump.specs.Spelled.Told.{TellsAsFrame, TellsAsPdu, end_of}
use Rattle.cfdp_dump.specs.declared.spelled.refusal.LineRefusal.TheVariants.{Hex}
use Rattle.cfdp_dump.specs.declared.dump.DumpRequest.{DumpRequest}
use Rattle.cfdp_dump.specs.declared.dump.remark.Remark.{Remark}
use Rattle.cfdp_dump.specs.declared.dump.remark.Remark.TheVariants.{Missing, OnlyIdle, CutOff, BadHeaders, Unfollowed, Packet, PassedBy, BadCapture}

pub data Told : Type 0 where
  -- what isn't pairs of hexadecimal digits: a line, or what stands after so many octets of one
  BadHex : (before : ℕ) → (digits : List ℕ) → Told
  -- what octets are, as a PDU, and as a frame
  AsPdu : (octets : List ℕ) → Told
  AsFrame : (octets : List ℕ) → Told
  -- what is said beside that
  Says : (remark : Remark) → Told

abbrev pub remark_text : Remark → List ℕ
remark_text (Missing frames) = codes "missing " ++ decimal frames
remark_text OnlyIdle = codes "idle"
remark_text CutOff = codes "cut"
remark_text (BadHeaders headers) = codes "bad " ++ decimal headers
remark_text Unfollowed = codes "unfollowed"
remark_text (Packet apid count len) = codes "packet " ++ decimal apid ++ codes " " ++ decimal count
    ++ codes " " ++ decimal len
remark_text (PassedBy passed) = passed_text passed
remark_text (BadCapture cause place) =
    fault_text cause ++ (codes " at octet " ++ decimal place)

-- Whether the octet at a place of a text may stand there: it is a hexadecimal digit; or, in a line
-- as tools write it, a space, or the x of 0x at the beginning of a word.
abbrev pub is_digit : ℕ → Bool
is_digit octet = is_in_range 48 57 octet || (is_in_range 65 70 octet || is_in_range 97 102 octet)

abbrev pub begins_word : List ℕ → ℕ → Bool
begins_word line place = (place == 0) || (slice_index line (place - 1) == 32)

abbrev pub follows_zero : List ℕ → ℕ → Bool
follows_zero line place = nat_le 1 place
    && (slice_index line (place - 1) == 48 && begins_word line (place - 1))

abbrev pub may_stand : (by_tools : Bool) → List ℕ → ℕ → Bool
may_stand by_tools line place =
    is_digit (slice_index line place) || (by_tools && ((slice_index line place == 32)
    || (slice_index line place == 120 && follows_zero line place)))

-- what is said of it: the column of the first octet that may not, from 1, in a line in which so
-- many octets stand before the text; if all may, the digits are odd in number
pub record IsBadPlace (by_tools : Bool) (line : List ℕ) (place : ℕ) : Type 0 where
  pub inside : place < length line
  pub bad : may_stand by_tools line place ≡ false
  pub first : (k : ℕ) → k < place → may_stand by_tools line k ≡ true

abbrev pub IsSaidOf : (by_tools : Bool) → (before : ℕ) → List ℕ → Option ℕ → Type 0
IsSaidOf by_tools before line None =
    (k : ℕ) → k < length line → may_stand by_tools line k ≡ true
IsSaidOf by_tools before line (Some column) =
    (place : ℕ) × IsBadPlace by_tools line place × (column ≡ before + place + 1)

-- if details are shown, and nothing else
abbrev pub place_text : (details : Bool) → Option ℕ → List ℕ
place_text false column = []
place_text true None = codes " odd digits"
place_text true (Some column) = codes " column " ++ decimal column

-- The text shows it.
pub record TellsBadHex (request : DumpRequest) (before : ℕ) (digits text : List ℕ) : Type 0 where
  pub column : Option ℕ
  pub said : IsSaidOf request.by_tools before digits column
  pub words : text ≡ refusal_text Hex
      ++ (place_text (has_details request.form) column ++ end_of request.form)

-- the PDU of a packet: it has one if it is no segment and has no secondary header (CCSDS 133.0-B-2,
-- 4.1.3.3.3, 4.1.3.4.2)
abbrev pub pdu_in : List ℕ → Option (List ℕ)
pdu_in packet = if nat_lt (length packet) 6 then None
    else if not (flags_field packet == 3) then None
    else if not (secondary_field packet == 0) then None
    else Some (drop 6 packet)

-- the APID of a packet, its sequence count and its octets; each packet has a header of six octets
abbrev pub packet_remark : List ℕ → Remark
packet_remark packet = if nat_lt (length packet) 6 then Packet 0 0 (length packet)
    else Packet (apid_field packet) (count_field packet) (length packet)

-- This text is written for it.
abbrev pub TellsTold : DumpRequest → Told → List ℕ → Type 0
TellsTold request (BadHex before digits) text = TellsBadHex request before digits text
TellsTold request (AsPdu octets) text = TellsAsPdu request.form octets text
TellsTold request (AsFrame octets) text = TellsAsFrame request.form request.shape octets text
TellsTold request (Says remark) text = text ≡ remark_text remark

-- ---- what a frame carries: first how many are missing, then that it has idle data or what is out
-- of order in it, and then each packet that ends in it, with its PDU
abbrev pub missing_remark : ℕ → Option Remark
missing_remark frames = if frames == 0 then None else Some (Missing frames)

abbrev pub idle_remark : Bool → Option Remark
idle_remark only_idle = if only_idle then Some OnlyIdle else None

abbrev pub cut_remark : Bool → Option Remark
cut_remark cut_off = if cut_off then Some CutOff else None

abbrev pub bad_remark : ℕ → Option Remark
bad_remark headers = if headers == 0 then None else Some (BadHeaders headers)

abbrev pub said : Option Remark → List Told
said None = []
said (Some remark) = Says remark ∷ []

abbrev pub pdu_told : Option (List ℕ) → List Told
pdu_told None = []
pdu_told (Some octets) = AsPdu octets ∷ []

abbrev pub packet_told : List ℕ → List Told
packet_told packet = Says (packet_remark packet) ∷ pdu_told (pdu_in packet)

abbrev pub carried_told : CarriedText → List Told
carried_told c = said (missing_remark c.missing) ++ (said (idle_remark c.only_idle)
    ++ (said (cut_remark c.cut_off) ++ (said (bad_remark c.bad)
    ++ flat_map packet_told c.packets)))
