-- Exported: what is sealed is opened again; `opens_sealed` for callers.
use Rattle.std.proofs.Common.{◌≡◌, ℕ, ◌+◌, ◌-◌, ◌^◌, ◌<◌, ◌≤◌, ◌&&◌, nat_le, Bool, true, false, not, if◌then◌else◌, Some, None, List, [], ◌++◌, length, take, drop, replicate, refl, sym, ap, ◌∙◌, arith, append_assoc, append-nil, length-append, length-drop}
use Rattle.std.proofs.lemmas.Bool.{eq-eqb, le-leb}
use Rattle.std.proofs.lemmas.List.{length-take-le, length-replicate, take_at, drop_at}
use Rattle.cfd_bits.specs.Field.{field, octets}
use Rattle.cfd_bits.proofs.Fields.{length-octets, field-octets, field-append_left}
use Rattle.crc.specs.Checks.{divisor16, crc16_behind, check_from, crc16_of}
use Rattle.crc.proofs.Divisions as div
use Rattle.aos_frame.specs.declared.fields.FrameFields.{FrameFields}
use Rattle.aos_frame.specs.declared.opening.FieldsFault.TheVariants.{Short, Damaged}
use Rattle.aos_frame.specs.LinkFields.{extra, fields_fault, is_intact, control_len, check_len, control_octets, guarded, sealed, insert_in, behind_insert, mpdu_len, mpdu_in, control_of, control_in}
use Rattle.crc.proofs.Detection.{least, most}

check_below : (text : List ℕ) → crc16_of text < 256 ^ 2
unfolding crc16_behind check_from
check_below text = div.remainder_below 16 divisor16 least most _ _

-- the error control field alone
abbrev check_octets : FrameFields → List ℕ → List ℕ
check_octets fields text = if fields.error_control then octets 2 (crc16_of text) else []

none_behind : (text : List ℕ) → text ≡ text ++ []
none_behind text = sym (simp append-nil)

guarded_is : (fields : FrameFields) (text : List ℕ) → guarded fields text ≡ text ++ check_octets fields text
guarded_is fields text = by fields.error_control where
  by : (b : Bool) → (if b then text ++ octets 2 (crc16_of text) else text) ≡ text ++ (if b then octets 2 (crc16_of text) else [])
  by true = refl
  by false = none_behind text

length-check : (fields : FrameFields) (text : List ℕ) → length (check_octets fields text) ≡ check_len fields
length-check fields text = by fields.error_control where
  by : (b : Bool) → length (if b then octets 2 (crc16_of text) else []) ≡ (if b then 2 else 0)
  by true = length-octets 2 (crc16_of text)
  by false = refl

length-control : (fields : FrameFields) (control : ℕ) → length (control_octets fields control) ≡ control_len fields
length-control fields control = by fields.control_field where
  by : (b : Bool) → length (if b then octets 4 control else []) ≡ (if b then 4 else 0)
  by true = length-octets 4 control
  by false = refl

-- the check at the end is the check of all before it
intact_end : (text : List ℕ) → is_intact (text ++ octets 2 (crc16_of text)) ≡ true
intact_end text =
    let frame : List ℕ = text ++ octets 2 (crc16_of text) in
    let two = length-octets 2 (crc16_of text) in
    let n : length text ≡ length frame - 2 = omega (arith, length-append text (octets 2 (crc16_of text)), two) in
    let back : drop (length frame - 2) frame ≡ octets 2 (crc16_of text) = drop_at text (octets 2 (crc16_of text)) (length frame - 2) n in
    let front : take (length frame - 2) frame ≡ text = take_at text (octets 2 (crc16_of text)) (length frame - 2) n in
    let read : field (drop (length frame - 2) frame) 0 16 ≡ crc16_of text =
    ap (λ o. field o 0 16) back ∙ field-octets 2 (crc16_of text) (check_below text) in
    eq-eqb (field (drop (length frame - 2) frame) 0 16) (crc16_of (take (length frame - 2) frame))
    (read ∙ sym (ap crc16_of front))

-- no fault, by its tests
sound : (long check whole : Bool) → long ≡ true → (check ≡ true → whole ≡ true) → (if not long then Some Short else if check && not whole then Some Damaged else None) ≡ None
sound true true true a b = refl
sound true true false a b = let no = b refl in absurd cc
sound true false whole a b = refl
sound false check whole a b = absurd cc

abbrev Opens : FrameFields → (bare : List ℕ) → (control : ℕ) → (frame : List ℕ) → Type 0
Opens fields bare control frame =
    (fields_fault fields frame ≡ None) × (take 6 frame ≡ take 6 bare)
    × (insert_in fields frame ≡ replicate fields.insert_zone 0) × (mpdu_in fields frame ≡ drop 6 bare)
    × (control_in fields frame ≡ (if fields.control_field then Some control else None))

pub opens_sealed : (fields : FrameFields) (bare : List ℕ) (control : ℕ) → 6 ≤ length bare → control < 256 ^ 4 → Opens fields bare control (sealed fields bare control)
opens_sealed fields bare control long fits =
    let h : List ℕ = take 6 bare in
    let z : List ℕ = replicate fields.insert_zone 0 in
    let m : List ℕ = drop 6 bare in
    let o : List ℕ = control_octets fields control in
    let text : List ℕ = h ++ z ++ m ++ o in
    let k : List ℕ = check_octets fields text in
    let frame : List ℕ = sealed fields bare control in
    let is : frame ≡ text ++ k = guarded_is fields text in
    let parts : text ++ k ≡ h ++ (z ++ (m ++ (o ++ k))) = simp append_assoc in
    let lh : length h ≡ 6 = length-take-le 6 bare long in
    let lz : length z ≡ fields.insert_zone = length-replicate fields.insert_zone 0 in
    let lm = length-drop 6 bare in
    let lo = length-control fields control in
    let lk = length-check fields text in
    let whole : frame ≡ h ++ (z ++ (m ++ (o ++ k))) = is ∙ parts in
    let len : length frame ≡ 6 + extra fields + length m =
    ap length whole ∙ omega (arith, length-append h (z ++ (m ++ (o ++ k))), length-append z (m ++ (o ++ k)), length-append m (o ++ k), length-append o k, lh, lz, lo, lk) in
    let six : take 6 frame ≡ h = ap (take 6) whole ∙ take_at h (z ++ (m ++ (o ++ k))) 6 lh in
    let rest : drop 6 frame ≡ z ++ (m ++ (o ++ k)) = ap (drop 6) whole ∙ drop_at h (z ++ (m ++ (o ++ k))) 6 lh in
    let insert : insert_in fields frame ≡ z = ap (take fields.insert_zone) rest ∙ take_at z (m ++ (o ++ k)) fields.insert_zone lz in
    let after : behind_insert fields frame ≡ m ++ (o ++ k) = ap (drop fields.insert_zone) rest ∙ drop_at z (m ++ (o ++ k)) fields.insert_zone lz in
    let mid : length m ≡ mpdu_len fields frame = omega (arith, len) in
    let mpdu : mpdu_in fields frame ≡ m = ap (take (mpdu_len fields frame)) after ∙ take_at m (o ++ k) (mpdu_len fields frame) mid in
    let behind : drop (mpdu_len fields frame) (behind_insert fields frame) ≡ o ++ k = ap (drop (mpdu_len fields frame)) after ∙ drop_at m (o ++ k) (mpdu_len fields frame) mid in
    let told : control_in fields frame ≡ (if fields.control_field then Some control else None) =
    ap (control_of fields) behind ∙ read fields.control_field k in
    let enough : nat_le (6 + extra fields) (length frame) ≡ true = le-leb (6 + extra fields) (length frame) (omega (arith, len)) in
    let right : fields.error_control ≡ true → is_intact frame ≡ true = λ e.
    ap is_intact (ap (λ b. if b then text ++ octets 2 (crc16_of text) else text) e) ∙ intact_end text in (
      sound (nat_le (6 + extra fields) (length frame)) fields.error_control (is_intact frame) enough right,
      six,
      insert,
      mpdu,
      told,
    ) where
      read : (b : Bool) (k : List ℕ) → (if b then Some (field ((if b then octets 4 control else []) ++ k) 0 32) else None) ≡ (if b then Some control else None)
      read true k =
          let four = length-octets 4 control in
          ap Some (field-append_left (octets 4 control) k 0 32 (omega (arith, four)) ∙ field-octets 4 control fits)
      read false k = refl
