-- Exported: what is sealed is opened again; `number_of_secured` and `frame_of_secured` for callers.
use Rattle.std.proofs.Common.{◌≡◌, ℕ, ◌+◌, ◌-◌, ◌*◌, ◌^◌, ◌<◌, ◌≤◌, true, Some, None, List, ◌++◌, length, take, drop, refl, sym, ap, ap₂, ◌∙◌, arith, length-append, length-drop, append_assoc}
use Rattle.std.proofs.lemmas.List.{length-take-le, take-append-drop, take_at, drop_at}
use Rattle.std.proofs.lemmas.Slice.Eq.{bytes_eq-Decides}
use Rattle.cfd_bits.specs.Field.{field, octets}
use Rattle.cfd_bits.proofs.Fields.{field_between, length-octets}
use Rattle.aos_frame.specs.LinkFields.{bare_in, fields_fault}
use Rattle.aos_frame.proofs.RoundTrip.{opens_sealed}
use Rattle.hmac.specs.Hmac.{hmac}
use Rattle.hmac.proofs.Lengths.{length-hmac}
use Rattle.frame_security.specs.declared.config.Security.{Security}
use Rattle.frame_security.specs.Frames.{IsSecurity, frame_in, mac_in, mac_of, masked, number_in, secured, security_header, spi_in, text_in, text_of}
use Rattle.frame_security.specs.Sealing.{SealerState, secured_frame}
use Rattle.frame_security.specs.Opening.{OpenerState, bare_fault, is_authentic, key_fault, key_of, refusal, refusal_by}
use Rattle.frame_security.proofs.Faults.{long_fault, no_fault}

-- ---- the parts of a secured frame
module _ (s : Security) (key : List ℕ) (spi number : ℕ) (bare : List ℕ) (six : 6 ≤ length bare) where
  abbrev text : List ℕ
  text = text_of spi number bare

  abbrev whole : List ℕ
  whole = secured s key spi number bare

  length_header : length (security_header spi number) ≡ 10
  length_header = omega (arith, length-append (octets 2 spi) (octets 8 number), length-octets 2 spi, length-octets 8 number)

  pub length_text : length text ≡ length bare + 10
  length_text =
      omega (
        arith,
        length-append (take 6 bare ++ security_header spi number) (drop 6 bare),
        length-append (take 6 bare) (security_header spi number),
        length-take-le 6 bare six,
        length_header,
        length-drop 6 bare,
      )

  pub spi_of_secured : spi < 2 ^ 16 → spi_in whole ≡ spi
  spi_of_secured fits =
      let rest : List ℕ = (octets 8 number ++ drop 6 bare) ++ mac_of s key text in
      let parts : whole ≡ take 6 bare ++ (octets 2 spi ++ rest) = simp append_assoc in
      let at : 48 ≡ 8 * length (take 6 bare) = omega (arith, length-take-le 6 bare six) in
      ap (λ o. field o 48 16) parts ∙ field_between (take 6 bare) rest 2 spi 48 16 fits at refl

  pub number_of_secured : number < 2 ^ 64 → number_in whole ≡ number
  number_of_secured fits =
      let rest : List ℕ = drop 6 bare ++ mac_of s key text in
      let front : List ℕ = take 6 bare ++ octets 2 spi in
      let parts : whole ≡ front ++ (octets 8 number ++ rest) = simp append_assoc in
      let at : 64 ≡ 8 * length front = omega (arith, length-append (take 6 bare) (octets 2 spi), length-octets 2 spi, length-take-le 6 bare six) in
      ap (λ o. field o 64 64) parts ∙ field_between front rest 8 number 64 64 fits at refl

  -- ---- if the MAC has so many octets
  module _ (most : s.mac_len ≤ 32) where
    length_mac : length (mac_of s key text) ≡ s.mac_len
    length_mac =
        let whole_mac : List ℕ = hmac key (masked s.fields.insert_zone text) in
        length-take-le s.mac_len whole_mac (omega (arith, length-hmac key (masked s.fields.insert_zone text)))

    pub length_secured : length whole ≡ length bare + 10 + s.mac_len
    length_secured = omega (arith, length-append text (mac_of s key text), length_text, length_mac)

    cut : length whole - s.mac_len ≡ length text
    cut = omega (arith, length_secured, length_text)

    text_of_secured : text_in s whole ≡ text
    text_of_secured = take_at text (mac_of s key text) (length whole - s.mac_len) (sym cut)

    mac_of_secured : mac_in s whole ≡ mac_of s key text
    mac_of_secured = drop_at text (mac_of s key text) (length whole - s.mac_len) (sym cut)

    pub frame_of_secured : frame_in s whole ≡ bare
    frame_of_secured =
        let h : List ℕ = take 6 bare in
        let sh : List ℕ = security_header spi number in
        let b : List ℕ = drop 6 bare in
        let sixteen : length (h ++ sh) ≡ 16 = omega (arith, length-append h sh, length-take-le 6 bare six, length_header) in
        let parts : whole ≡ h ++ ((sh ++ b) ++ mac_of s key text) = simp append_assoc in
        let front : take 6 whole ≡ h = ap (take 6) parts ∙ take_at h ((sh ++ b) ++ mac_of s key text) 6 (length-take-le 6 bare six) in
        let behind : drop 16 (text_in s whole) ≡ b = ap (drop 16) text_of_secured ∙ drop_at (h ++ sh) b 16 sixteen in
        ap₂ (λ (x y : List ℕ). x ++ y) front behind ∙ take-append-drop 6 bare

    pub authentic_secured : is_authentic s key whole ≡ true
    authentic_secured =
        (bytes_eq-Decides (mac_of s key (text_in s whole)) (mac_in s whole)).1
        (ap (mac_of s key) text_of_secured ∙ sym mac_of_secured)

    pub no_fault_of_secured : (o : OpenerState) → o.security ≡ s → spi < 2 ^ 16 → number < 2 ^ 64 → key_of o spi ≡ Some key → o.last < number →
        bare_fault o whole ≡ None
    no_fault_of_secured o same fits most_number known fresh =
        let size : o.security.mac_len ≡ s.mac_len = ap (λ (x : Security). x.mac_len) same in
        let read : number_in whole ≡ number = number_of_secured most_number in
        long_fault o whole spi (omega (arith, length_secured, size)) (spi_of_secured fits)
        ∙ ap₂ (λ (x : Security) found. key_fault x found o.last whole) same known
        ∙ no_fault s key o.last whole authentic_secured (omega (arith, read, fresh))

-- ---- in a frame of the link
pub opened : (s : SealerState) (o : OpenerState) (bare : List ℕ) (control : ℕ) → IsSecurity s.security → o.security ≡ s.security → s.spi < 2 ^ 16 → s.next < 2 ^ 64 →
    key_of o s.spi ≡ Some s.key → o.last < s.next → 6 ≤ length bare → control < 2 ^ 32 →
    (refusal o (secured_frame s bare control) ≡ None)
    × (frame_in o.security (bare_in o.security.fields (secured_frame s bare control)) ≡ bare)
    × (number_in (bare_in o.security.fields (secured_frame s bare control)) ≡ s.next)
opened s o bare control valid same spi number known fresh six fits =
    let inner : List ℕ = secured s.security s.key s.spi s.next bare in
    let frame : List ℕ = secured_frame s bare control in
    let long : 6 ≤ length inner = omega (arith, length_secured s.security s.key s.spi s.next bare six valid.most) in
    let parts = opens_sealed s.security.fields inner control long fits in
    let stands : bare_in o.security.fields frame ≡ inner =
    ap (λ (x : Security). bare_in x.fields frame) same ∙ ap₂ (λ (x y : List ℕ). x ++ y) parts.1 parts.3 ∙ take-append-drop 6 inner in
    let none : fields_fault o.security.fields frame ≡ None = ap (λ (x : Security). fields_fault x.fields frame) same ∙ parts.0 in (
      ap₂ refusal_by none (ap (bare_fault o) stands ∙ no_fault_of_secured s.security s.key s.spi s.next bare six valid.most o same spi number known fresh),
      ap₂ (λ (x : Security) l. frame_in x l) same stands ∙ frame_of_secured s.security s.key s.spi s.next bare six valid.most,
      ap number_in stands ∙ number_of_secured s.security s.key s.spi s.next bare six number,
    )
