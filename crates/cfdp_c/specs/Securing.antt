-- Frames that only the holder of a key can have sent, as a caller seals and opens them, each call by
-- a struct with the key and a number.
use Rattle.std.specs.Prelude.{◌≡◌, ℕ, ◌+◌, ◌<◌, ◌≤◌, List, None}
use Rattle.aos_frame.specs.LinkFields.{bare_in}
use Rattle.frame_security.specs.declared.config.Security.{Security}
use Rattle.frame_security.specs.Frames.{frame_in, number_in}
use Rattle.frame_security.specs.Opening.{OpenerState, begun, refusal}
use Rattle.frame_security.specs.Sealing.{SealerState, secured_frame}
use Rattle.cfdp_c.specs.Config.{flag_of}
use Rattle.cfdp_c.specs.Told.{over}
use Rattle.cfdp_c.specs.declared.securing.CfdpSecurity.{CfdpSecurity}

-- Each field of a struct must be in its range.
pub record IsUsable (s : CfdpSecurity) : Type 0 where
  pub insert_zone : s.insert_zone ≤ 64
  pub control_field : s.control_field < 2
  pub error_control : s.error_control < 2
  pub least : 16 ≤ s.mac_len
  pub most : s.mac_len ≤ 32

abbrev pub security_of : CfdpSecurity → Security
security_of s = record {
  fields = record {
    insert_zone = s.insert_zone;
    control_field = flag_of s.control_field;
    error_control = flag_of s.error_control;
  };
  mac_len = s.mac_len;
}

-- both ends by this struct: its number is the number of the next frame, or of the last one
abbrev pub sealer_of : CfdpSecurity → SealerState
sealer_of s = record { security = security_of s; spi = s.spi; key = s.key; next = s.number }

abbrev pub opener_of : CfdpSecurity → OpenerState
opener_of s = begun (security_of s) s.spi s.key s.number

-- The frame was sealed, and its number is used.
pub record Seals (old : CfdpSecurity) (frame : List ℕ) (control : ℕ) (out : List ℕ)
    (new : CfdpSecurity) : Type 0 where
  pub secured : out ≡ secured_frame (sealer_of old) frame control
  pub number : new ≡ record old { number = old.number + 1 }

-- The frame was accepted, and its number is the last one. The bare frame is over the front of the
-- room.
pub record Opens (old : CfdpSecurity) (frame : List ℕ) (room out : List ℕ) (new : CfdpSecurity)
    : Type 0 where
  pub accepted : refusal (opener_of old) frame ≡ None
  pub bare : out ≡ over (frame_in (security_of old) (bare_in (security_of old).fields frame)) room
  pub number : new
      ≡ record old { number = number_in (bare_in (security_of old).fields frame) }
