-- A secured frame whose header, of 6 octets, and what stands after it are apart.
use Rattle.std.proofs.Common.{◌≡◌, ℕ, ◌+◌, ◌-◌, ◌*◌, ◌≤◌, List, ◌++◌, length, take, drop, replicate, sym, ap, ap₂, ◌∙◌, arith, length-append, append_assoc}
use Rattle.std.proofs.lemmas.List.{take_at, drop_at, drop-drop}
use Rattle.std.proofs.Math.Seq.{take-append-add}
use Rattle.cfd_bits.specs.Field.{field}
use Rattle.cfd_bits.proofs.Fields.{field-append_right, field-drop}
use Rattle.cfd_bits.proofs.BitFields.{field-take}
use Rattle.cfd_bits.specs.Field.{octets}
use Rattle.aos_frame.specs.declared.fields.FrameFields.{FrameFields}
use Rattle.aos_frame.specs.LinkFields.{bare_in, extra}
use Rattle.hmac.specs.Hmac.{hmac}
use Rattle.frame_security.specs.declared.config.Security.{Security}
use Rattle.frame_security.specs.Frames.{mac_of, masked, secured, security_header, text_of}

-- what is authenticated
pub text_apart : (h b : List ℕ) (m : ℕ) → length h ≡ 6 → m ≤ length b → take (length (h ++ b) - m) (h ++ b) ≡ h ++ take (length b - m) b
text_apart h b m six room =
    let at : length (h ++ b) - m ≡ length h + (length b - m) = omega (arith, length-append h b) in
    ap (λ n. take n (h ++ b)) at ∙ take-append-add h b (length b - m)

-- the MAC
pub mac_apart : (h b : List ℕ) (m : ℕ) → length h ≡ 6 → m ≤ length b → drop (length (h ++ b) - m) (h ++ b) ≡ drop (length b - m) b
mac_apart h b m six room =
    let at : length (h ++ b) - m ≡ 6 + (length b - m) = omega (arith, length-append h b) in
    ap (λ n. drop n (h ++ b)) at ∙ sym (drop-drop (length b - m) 6 (h ++ b)) ∙ ap (drop (length b - m)) (drop_at h b 6 six)

-- the SPI and the number
pub spi_apart : (h b : List ℕ) (k : ℕ) → length h ≡ 6 → 2 ≤ k → field (h ++ b) 48 16 ≡ field (take k b) 0 16
spi_apart h b k six two =
    let at : 48 ≡ 8 * length h + 0 = omega arith in
    ap (λ n. field (h ++ b) n 16) at ∙ field-append_right h b 0 16 ∙ sym (field-take k b 0 16 (omega arith))

pub number_apart : (h b : List ℕ) (k : ℕ) → length h ≡ 6 → 10 ≤ k → field (h ++ b) 64 64 ≡ field (drop 2 (take k b)) 0 64
number_apart h b k six ten =
    let at : 64 ≡ 8 * length h + 16 = omega arith in
    ap (λ n. field (h ++ b) n 64) at ∙ field-append_right h b 16 64 ∙ sym (field-take k b 16 64 (omega arith)) ∙ sym (field-drop 2 (take k b) 0 64)

-- the bare frame
pub frame_apart : (h b : List ℕ) (m : ℕ) → length h ≡ 6 → m ≤ length b →
    take 6 (h ++ b) ++ drop 16 (take (length (h ++ b) - m) (h ++ b)) ≡ h ++ drop 10 (take (length b - m) b)
frame_apart h b m six room =
    let t : List ℕ = take (length b - m) b in
    ap₂ (λ (x y : List ℕ). x ++ y) (take_at h b 6 six)
    (ap (drop 16) (text_apart h b m six room) ∙ sym (drop-drop 10 6 (h ++ t)) ∙ ap (drop 10) (drop_at h t 6 six))

-- with the insert zone, which is masked
pub masked_apart : (zone : ℕ) (h t : List ℕ) → length h ≡ 6 → masked zone (h ++ t) ≡ h ++ replicate zone 0 ++ t
masked_apart zone h t six = ap₂ (λ (x y : List ℕ). x ++ replicate zone 0 ++ y) (take_at h t 6 six) (drop_at h t 6 six)

-- a secured frame that is written after its header
pub written : (s : Security) (key : List ℕ) (spi number : ℕ) (bare body behind mac : List ℕ) → body ≡ octets 2 spi ++ octets 8 number ++ drop 6 bare →
    mac ≡ hmac key (masked s.fields.insert_zone (take 6 bare ++ body)) → behind ≡ body ++ take s.mac_len mac → take 6 bare ++ behind ≡ secured s key spi number bare
written s key spi number bare body behind mac is made whole =
    let h : List ℕ = take 6 bare in
    let text : h ++ body ≡ text_of spi number bare = ap (λ l. h ++ l) is ∙ sym (append_assoc h (security_header spi number) (drop 6 bare)) in
    ap (λ l. h ++ l) whole ∙ sym (append_assoc h body (take s.mac_len mac))
    ∙ ap (λ l. (h ++ body) ++ take s.mac_len l) made
    ∙ ap (λ t. t ++ mac_of s key t) text

-- a bare frame that stands in one of the link
pub bare_placed : (fields : FrameFields) (h gap body behind : List ℕ) → length h ≡ 6 → length gap ≡ fields.insert_zone → length behind + fields.insert_zone ≡ extra fields →
    bare_in fields (h ++ (gap ++ (body ++ behind))) ≡ h ++ body
bare_placed fields h gap body behind six zone rest =
    let whole : List ℕ = h ++ (gap ++ (body ++ behind)) in
    let after : drop fields.insert_zone (drop 6 whole) ≡ body ++ behind =
    ap (drop fields.insert_zone) (drop_at h (gap ++ (body ++ behind)) 6 six) ∙ drop_at gap (body ++ behind) fields.insert_zone zone in
    let len : length body ≡ length whole - 6 - extra fields =
    omega (arith, length-append h (gap ++ (body ++ behind)), length-append gap (body ++ behind), length-append body behind) in
    ap₂ (λ (x y : List ℕ). x ++ y) (take_at h (gap ++ (body ++ behind)) 6 six)
    (ap (take (length whole - 6 - extra fields)) after ∙ take_at body behind (length whole - 6 - extra fields) len)
