-- Secured frames: bare frames with a security header and trailer (CCSDS 355.0-B-2), whose MAC is
-- HMAC-SHA-256 (CCSDS 352.0-B). A bare frame is its header, of 6 octets, and its M_PDU.
use Rattle.std.specs.Prelude.{ℕ, ◌+◌, ◌-◌, ◌≤◌, List, ◌++◌, length, take, drop, replicate}
use Rattle.cfd_bits.specs.Field.{field, octets}
use Rattle.aos_frame.specs.LinkFields.{AreFields, extra}
use Rattle.hmac.specs.Hmac.{hmac}
use Rattle.frame_security.specs.declared.config.Security.{Security}
use Rattle.frame_security.specs.declared.config.SecurityField.{SecurityField}
use Rattle.frame_security.specs.declared.config.SecurityField.TheVariants.{InsertZone, MacLen}

-- A valid configuration: the security trailer has 16 to 32 octets of the MAC.
pub record IsSecurity (s : Security) : Type 0 where
  pub fields : AreFields s.fields
  pub least : 16 ≤ s.mac_len
  pub most : s.mac_len ≤ 32

abbrev pub FitsSecurity : SecurityField → Security → Type 0
FitsSecurity InsertZone s = AreFields s.fields
FitsSecurity MacLen s = (16 ≤ s.mac_len) × (s.mac_len ≤ 32)

-- how many octets a frame of the link has besides its bare frame
abbrev pub overhead : Security → ℕ
overhead s = extra s.fields + 10 + s.mac_len

-- ---- what is sent
-- the security header: the security parameter index, and the sequence number
abbrev pub security_header : (spi number : ℕ) → List ℕ
security_header spi number = octets 2 spi ++ octets 8 number

-- the authenticated octets: the header, the security header, and the M_PDU
abbrev pub text_of : (spi number : ℕ) → (bare : List ℕ) → List ℕ
text_of spi number bare = take 6 bare ++ security_header spi number ++ drop 6 bare

-- the same with the insert zone, which the authentication bit mask replaces by zeros
abbrev pub masked : (insert_zone : ℕ) → (text : List ℕ) → List ℕ
masked insert_zone text = take 6 text ++ replicate insert_zone 0 ++ drop 6 text

-- the octets of the MAC that are sent: its first ones
abbrev pub mac_of : Security → (key text : List ℕ) → List ℕ
mac_of s key text = take s.mac_len (hmac key (masked s.fields.insert_zone text))

-- the secured frame without the fields of the link; its security trailer is the MAC
abbrev pub secured : Security → (key : List ℕ) → (spi number : ℕ) → (bare : List ℕ) → List ℕ
secured s key spi number bare = let text = text_of spi number bare in text ++ mac_of s key text

-- ---- what is received, without the fields of the link
abbrev pub text_in : Security → List ℕ → List ℕ
text_in s octets = take (length octets - s.mac_len) octets

abbrev pub mac_in : Security → List ℕ → List ℕ
mac_in s octets = drop (length octets - s.mac_len) octets

abbrev pub spi_in : List ℕ → ℕ
spi_in octets = field octets 48 16

abbrev pub number_in : List ℕ → ℕ
number_in octets = field octets 64 64

-- the bare frame: the header, and the octets between the security header and the MAC
abbrev pub frame_in : Security → List ℕ → List ℕ
frame_in s octets = take 6 octets ++ drop 16 (text_in s octets)
