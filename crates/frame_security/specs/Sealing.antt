-- The sending end, which applies security to frames (ApplySecurity of CCSDS 355.0-B-2).
use Rattle.std.specs.Prelude.{ℕ, List}
use Rattle.aos_frame.specs.LinkFields.{sealed}
use Rattle.frame_security.specs.declared.config.Security.{Security}
use Rattle.frame_security.specs.Frames.{secured}

-- its configuration, the SPI and the key of its security association, and the next sequence number
pub record SealerState : Type 0 where
  pub security : Security
  pub spi : ℕ
  pub key : List ℕ
  pub next : ℕ

-- the frame of the link for a bare frame, with this operational control field
abbrev pub secured_frame : SealerState → (bare : List ℕ) → (control : ℕ) → List ℕ
secured_frame s bare control =
    sealed s.security.fields (secured s.security s.key s.spi s.next bare) control
