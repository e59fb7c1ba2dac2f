-- What is wrong with a secured frame, by what was found in its parts.
use Rattle.std.proofs.Common.{◌≡◌, ◌↔◌, ℕ, ◌+◌, ◌-◌, ◌<◌, ◌≤◌, nat_le, Bool, true, false, not, IsTrue, if◌then◌else◌, Option, Some, None, List, ◌++◌, length, take, drop, sym, ap, ap₂, ◌∙◌, arith, length-append}
use Rattle.std.proofs.lemmas.Bool.{le-leb, lt-leb}
use Rattle.std.proofs.lemmas.Bool.Decides.{same_from_decides}
use Rattle.std.proofs.lemmas.Slice.Eq.{bytes_eq-Decides}
use Rattle.cfd_bits.specs.Field.{field}
use Rattle.hmac.specs.Hmac.{hmac}
use Rattle.frame_security.specs.declared.config.Security.{Security}
use Rattle.frame_security.specs.declared.opening.FrameRefusal.{FrameRefusal}
use Rattle.frame_security.specs.declared.opening.FrameRefusal.TheVariants.{Short, NotAuthentic, Replayed}
use Rattle.frame_security.specs.Frames.{mac_in, mac_of, masked, number_in, spi_in, text_in}
use Rattle.frame_security.specs.Opening.{OpenerState, bare_fault, is_authentic, key_fault, key_of}
use Rattle.frame_security.proofs.Parts.{mac_apart, spi_apart, text_apart}

-- ---- by the tests
abbrev whole_by : Bool → Option FrameRefusal → Option FrameRefusal
whole_by long behind = if not long then Some Short else behind

abbrev known_by : (right used : Bool) → Option FrameRefusal
known_by right used = if not right then Some NotAuthentic else if used then Some Replayed else None

-- octets that are long enough, under the key of their SPI
pub long_fault : (o : OpenerState) (octets : List ℕ) (spi : ℕ) → 16 + o.security.mac_len ≤ length octets → spi_in octets ≡ spi →
    bare_fault o octets ≡ key_fault o.security (key_of o spi) o.last octets
long_fault o octets spi long is =
    ap (λ b. whole_by b (key_fault o.security (key_of o (spi_in octets)) o.last octets)) (le-leb (16 + o.security.mac_len) (length octets) long)
    ∙ ap (λ n. key_fault o.security (key_of o n) o.last octets) is

pub wrong_mac : (s : Security) (key : List ℕ) (last : ℕ) (octets : List ℕ) → is_authentic s key octets ≡ false → key_fault s (Some key) last octets ≡ Some NotAuthentic
wrong_mac s key last octets wrong = ap (λ a. known_by a (nat_le (number_in octets) last)) wrong

pub used_number : (s : Security) (key : List ℕ) (last : ℕ) (octets : List ℕ) → is_authentic s key octets ≡ true → number_in octets ≤ last → key_fault s (Some key) last octets ≡ Some Replayed
used_number s key last octets right used = ap₂ known_by right (le-leb (number_in octets) last used)

pub no_fault : (s : Security) (key : List ℕ) (last : ℕ) (octets : List ℕ) → is_authentic s key octets ≡ true → last < number_in octets → key_fault s (Some key) last octets ≡ None
no_fault s key last octets right fresh = ap₂ known_by right (lt-leb (number_in octets) last fresh)

-- ---- a header, and what stands after it
module _ (o : OpenerState) (h b : List ℕ) (m : ℕ) (six : length h ≡ 6) (is : m ≡ o.security.mac_len) (room : 10 + m ≤ length b) where
  pub fault_apart : (spi : ℕ) → spi ≡ field (take (length b - m) b) 0 16 → bare_fault o (h ++ b) ≡ key_fault o.security (key_of o spi) o.last (h ++ b)
  fault_apart spi at =
      long_fault o (h ++ b) spi (omega (arith, length-append h b))
      (spi_apart h b (length b - m) six (omega arith) ∙ sym at)

  -- the MAC was made of the octets before it, and compared with it
  pub compared : (key whole : List ℕ) (r : Bool) → whole ≡ hmac key (masked o.security.fields.insert_zone (h ++ take (length b - m) b)) →
      IsTrue r ↔ (take m whole ≡ drop (length b - m) b) → is_authentic o.security key (h ++ b) ≡ r
  compared key whole r made (there, back) =
      let octets : List ℕ = h ++ b in
      let s : Security = o.security in
      let cut : text_in s octets ≡ h ++ take (length b - m) b = ap (λ n. take (length octets - n) octets) (sym is) ∙ text_apart h b m six (omega arith) in
      let mac : mac_in s octets ≡ drop (length b - m) b = ap (λ n. drop (length octets - n) octets) (sym is) ∙ mac_apart h b m six (omega arith) in
      let own : mac_of s key (text_in s octets) ≡ take m whole =
      ap (λ t. mac_of s key t) cut ∙ ap₂ (λ n l. take n l) (sym is) (sym made) in
      let (gives, taken) = bytes_eq-Decides (mac_of s key (text_in s octets)) (mac_in s octets) in
      same_from_decides (is_authentic s key octets) r
      (bytes_eq-Decides (mac_of s key (text_in s octets)) (mac_in s octets))
      (λ e. own ∙ there e ∙ sym mac, λ e. back (sym own ∙ e ∙ mac))
