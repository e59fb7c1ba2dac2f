-- Options, one after the other.
use Rattle.std.proofs.Common.{◌≡◌, ℕ, zero, suc, ◌+◌, ◌*◌, ◌%◌, ◌<◌, ◌≤◌, Bool, true, false, cond, leb, List, [], ◌∷◌, ◌++◌, length, get_or, take, drop, Option, Some, None, refl, sym, ap, ◌∙◌, arith, length-drop, length-append, append-nil}
use Rattle.std.proofs.lemmas.Bool.{le-leb, lt-leb, leb-true}
use Rattle.std.proofs.lemmas.List.{take_at, drop_at, take-append-drop, length-take-le}
use Rattle.std.proofs.lemmas.List.Concat.{flat_map-cons}
use Rattle.std.specs.Prelude.{is_some, unwrap_or}
use Rattle.std.specs.Option.{option_map}
use Rattle.std.specs.List.{flat_map}
use Rattle.cfd_bits.specs.Field.{field, octets}
use Rattle.cfd_bits.proofs.Fields.{length-octets, field-drop}
use Rattle.cfdp_directives.specs.Pdu.Tlv.{Tlv, tlv, tlvs_at, tlvs_of, fault_location}

-- more turns than octets change nothing
enough : (n m : ℕ) (bytes : List ℕ) → length bytes ≤ n → length bytes ≤ m → tlvs_at n bytes ≡ tlvs_at m bytes
unfolding tlvs_at
enough zero zero [] h k = refl
enough zero (suc m) [] h k = refl
enough (suc n) zero [] h k = refl
enough (suc n) (suc m) [] h k = refl
enough zero m (a ∷ bytes) h k = absurd (omega arith)
enough (suc n) zero (a ∷ bytes) h k = absurd (omega arith)
enough (suc n) (suc m) (a ∷ []) h k = refl
enough (suc n) (suc m) (a ∷ b ∷ bytes) h k = rw (enough n m (drop b bytes) (omega (arith, length-drop b bytes)) (omega (arith, length-drop b bytes))) refl

pub step : (kind len : ℕ) (rest : List ℕ) → tlvs_of (kind ∷ len ∷ rest)
    ≡ cond (leb len (length rest)) (option_map (λ ts. record { kind = kind; value = take len rest } ∷ ts) (tlvs_of (drop len rest))) None
unfolding tlvs_at tlvs_of
step kind len rest = rw (enough (suc (length rest)) (length (drop len rest)) (drop len rest) (omega (arith, length-drop len rest)) (omega arith)) refl

some_map : {A B : Type 0} (f : A → B) (o : Option A) → is_some (option_map f o) ≡ is_some o
some_map f None = refl
some_map f (Some x) = refl

-- the options after the first one
pub one_more : (bytes : List ℕ) → 2 ≤ length bytes → get_or bytes 1 0 ≤ length (drop 2 bytes) → is_some (tlvs_of (drop (get_or bytes 1 0) (drop 2 bytes))) ≡ is_some (tlvs_of bytes)
one_more [] h k = absurd (omega arith)
one_more (a ∷ []) h k = absurd (omega arith)
one_more (kind ∷ len ∷ rest) h k =
    let t : leb len (length rest) ≡ true = le-leb len (length rest) k in
    sym (rw (step kind len rest, t) (some_map (λ ts. record { kind = kind; value = take len rest } ∷ ts) (tlvs_of (drop len rest))))

pub too_long : (bytes : List ℕ) → 2 ≤ length bytes → length (drop 2 bytes) < get_or bytes 1 0 → is_some (tlvs_of bytes) ≡ false
too_long [] h k = absurd (omega arith)
too_long (a ∷ []) h k = absurd (omega arith)
too_long (kind ∷ len ∷ rest) h k =
    let t : leb len (length rest) ≡ false = lt-leb len (length rest) k in
    rw (step kind len rest, t) refl

pub none_left : (bytes : List ℕ) → length bytes ≡ 0 → is_some (tlvs_of bytes) ≡ true
unfolding tlvs_at tlvs_of
none_left [] h = refl
none_left (a ∷ bytes) h = absurd cc

pub one_left : (bytes : List ℕ) → 0 < length bytes → length bytes < 2 → is_some (tlvs_of bytes) ≡ false
unfolding tlvs_at tlvs_of
one_left [] h k = absurd (omega arith)
one_left (a ∷ []) h k = refl
one_left (a ∷ b ∷ bytes) h k = absurd (omega arith)

some_is : {A : Type 0} (x y : A) → Some x ≡ Some y → x ≡ y
some_is x y e = cc

from_cond : (t : Bool) (o : Option (List Tlv)) (f : List Tlv → List Tlv) (ts : List Tlv) → cond t (option_map f o) None ≡ Some ts → (t ≡ true) × (us : List Tlv) × (o ≡ Some us) × (f us ≡ ts)
from_cond true (Some us) f ts e = (refl, us, refl, some_is (f us) ts e)
from_cond true None f ts e = absurd cc
from_cond false o f ts e = absurd cc

-- what was read is what is spelled
spelled_at : (n : ℕ) (bytes : List ℕ) (ts : List Tlv) → tlvs_at n bytes ≡ Some ts → bytes ≡ flat_map tlv ts
unfolding tlvs_at
spelled_at zero [] ts e = ap (λ (us : List Tlv). flat_map tlv us) (some_is [] ts e)
spelled_at (suc n) [] ts e = ap (λ (us : List Tlv). flat_map tlv us) (some_is [] ts e)
spelled_at zero (a ∷ bytes) ts e = absurd cc
spelled_at (suc n) (a ∷ []) ts e = absurd cc
spelled_at (suc n) (a ∷ b ∷ bytes) ts e =
    let first : Tlv = record { kind = a; value = take b bytes } in
    let c = from_cond (leb b (length bytes)) (tlvs_at n (drop b bytes)) (λ us. first ∷ us) ts e in
    let us = c.1 in
    let fits : b ≤ length bytes = leb-true b (length bytes) c.0 in
    let ih : drop b bytes ≡ flat_map tlv us = spelled_at n (drop b bytes) us c.2 in
    let len : length (take b bytes) ≡ b = length-take-le b bytes fits in
    let parts : bytes ≡ take b bytes ++ flat_map tlv us = sym (take-append-drop b bytes) ∙ ap (λ (r : List ℕ). take b bytes ++ r) ih in
    let whole : a ∷ b ∷ bytes ≡ tlv first ++ flat_map tlv us = ap (λ (r : List ℕ). a ∷ b ∷ r) parts ∙ ap (λ (k : ℕ). a ∷ k ∷ (take b bytes ++ flat_map tlv us)) (sym len) in
    whole ∙ sym (flat_map-cons tlv first us) ∙ ap (λ (us : List Tlv). flat_map tlv us) c.3

view_of : (o : Option (List Tlv)) (bytes : List ℕ) → is_some o ≡ true → ((ts : List Tlv) → o ≡ Some ts → bytes ≡ flat_map tlv ts) → bytes ≡ flat_map tlv (unwrap_or o [])
view_of (Some ts) bytes h k = k ts refl
view_of None bytes h k = absurd cc

pub spelled_so : (bytes : List ℕ) (ts : List Tlv) → tlvs_of bytes ≡ Some ts → bytes ≡ flat_map tlv ts
unfolding tlvs_of
spelled_so bytes ts e = spelled_at (length bytes) bytes ts e

pub spelled_view : (bytes : List ℕ) → is_some (tlvs_of bytes) ≡ true → bytes ≡ flat_map tlv (unwrap_or (tlvs_of bytes) [])
spelled_view bytes h = view_of (tlvs_of bytes) bytes h (λ ts e. spelled_so bytes ts e)

-- what is spelled is read
pub reads : (ts : List Tlv) → tlvs_of (flat_map tlv ts) ≡ Some ts
unfolding tlvs_at tlvs_of
reads [] = refl
reads (t ∷ ts) =
    let rest : List ℕ = flat_map tlv ts in
    let whole : flat_map tlv (t ∷ ts) ≡ t.kind ∷ length t.value ∷ (t.value ++ rest) = flat_map-cons tlv t ts in
    let fits : leb (length t.value) (length (t.value ++ rest)) ≡ true = le-leb _ _ (omega (arith, length-append t.value rest)) in
    ap tlvs_of whole ∙ rw (step t.kind (length t.value) (t.value ++ rest), fits, take_at t.value rest (length t.value) refl, drop_at t.value rest (length t.value) refl, reads ts) refl

-- ---- the first option

parts : (o : Option (List Tlv)) (f : List Tlv → List Tlv) → is_some o ≡ true → unwrap_or (option_map f o) [] ≡ f (unwrap_or o [])
parts (Some ts) f h = refl
parts None f h = absurd cc

pub first : (bytes : List ℕ) → 2 ≤ length bytes → get_or bytes 1 0 ≤ length (drop 2 bytes) → is_some (tlvs_of bytes) ≡ true
    → unwrap_or (tlvs_of bytes) [] ≡ record { kind = get_or bytes 0 0; value = take (get_or bytes 1 0) (drop 2 bytes) } ∷ unwrap_or (tlvs_of (drop (get_or bytes 1 0) (drop 2 bytes))) []
first [] h k s = absurd (omega arith)
first (a ∷ []) h k s = absurd (omega arith)
first (kind ∷ len ∷ rest) h k s =
    let t : leb len (length rest) ≡ true = le-leb len (length rest) k in
    let some : is_some (tlvs_of (drop len rest)) ≡ true = one_more (kind ∷ len ∷ rest) h k ∙ s in
    rw (step kind len rest, t) (parts (tlvs_of (drop len rest)) (λ ts. record { kind = kind; value = take len rest } ∷ ts) some)

pub nothing : (bytes : List ℕ) → length bytes ≡ 0 → unwrap_or (tlvs_of bytes) [] ≡ []
unfolding tlvs_at tlvs_of
nothing [] h = refl
nothing (a ∷ bytes) h = absurd cc

-- ---- a fault location

-- what is written of a fault location spells it
pub location_read : (entity width kind len : ℕ) (text : List ℕ) → kind ≡ 6 → len ≡ width → width < 256 → text ≡ octets 1 kind ++ octets 1 len ++ octets width entity → tlvs_of text
    ≡ Some (fault_location entity width ∷ [])
unfolding octets
location_read entity width kind len text is_six is_width h e =
    let first : kind % 256 ≡ 6 = omega arith in
    let second : len % 256 ≡ width = omega arith in
    let size : length (octets width entity) ≡ width = length-octets width entity in
    let whole : text ≡ 6 ∷ length (octets width entity) ∷ (octets width entity ++ []) = e ∙ rw (first, second, size, append-nil) refl in
    ap tlvs_of whole ∙ reads (fault_location entity width ∷ [])

pub location_whole : (entity width kind len : ℕ) (text : List ℕ) → kind ≡ 6 → len ≡ width → width < 256 → text ≡ octets 1 kind ++ octets 1 len ++ octets width entity → is_some (tlvs_of text) ≡ true
location_whole entity width kind len text is_six is_width h e = rw (location_read entity width kind len text is_six is_width h e) refl

pub location_view : (entity width kind len : ℕ) (text : List ℕ) → kind ≡ 6 → len ≡ width → width < 256 → text ≡ octets 1 kind ++ octets 1 len ++ octets width entity → unwrap_or (tlvs_of text) []
    ≡ fault_location entity width ∷ []
location_view entity width kind len text is_six is_width h e = rw (location_read entity width kind len text is_six is_width h e) refl

pub length-location : (entity width : ℕ) (ts : List Tlv) → ts ≡ fault_location entity width ∷ [] → length (flat_map tlv ts) ≡ 2 + width
length-location entity width ts e =
    let whole : flat_map tlv (fault_location entity width ∷ []) ≡ 6 ∷ length (octets width entity) ∷ (octets width entity ++ []) = refl in
    ap (λ (us : List Tlv). length (flat_map tlv us)) e ∙ ap length whole ∙ omega (arith, length-octets width entity, length-append (octets width entity) [])

pub location_len : (entity width : ℕ) → length (flat_map tlv (fault_location entity width ∷ [])) ≡ 2 + width
location_len entity width = length-location entity width (fault_location entity width ∷ []) refl

-- a field of whole octets after others
pub field_behind : (n w : ℕ) (o : List ℕ) → field (drop n o) 0 w ≡ field o (8 * n) w
field_behind n w o = let place : 8 * n + 0 ≡ 8 * n = omega arith in field-drop n o 0 w ∙ ap (λ (at : ℕ). field o at w) place
