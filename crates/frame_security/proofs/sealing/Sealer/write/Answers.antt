use Rattle.std.proofs.Common.{◌≡◌, ℕ, ◌≤◌, ◌++◌, List, length, take, drop, ap, ap₂, sym, ◌∙◌, arith}
use Rattle.std.proofs.lemmas.List.{length-take-le, take_all}
use Rattle.cfd_bits.specs.Field.{octets}
use Rattle.hmac.specs.Hmac.{hmac}
use Rattle.hmac.proofs.Lengths.{length-hmac}
use Rattle.frame_security.specs.declared.config.Security.{Security}
use Rattle.frame_security.specs.Frames.{masked, secured}
use Rattle.frame_security.specs.Sealing.{SealerState}
use Rattle.frame_security.proofs.Parts.{written}
use Rattle.frame_security.proofs.sealing.Sealer.write.Goals as goal

pub returns : goal.returns
returns c =
    let i = c.self.inside in
    let bare : List ℕ = c.args.bare.now in
    let out : List ℕ = c.put_bytes.new.out in
    let ours : c.get-security.result ≡ i.security = c.get-security.ensures.is in
    let size : c.from-2.result ≡ i.security.mac_len = c.from-2.ensures ∙ ap (λ (s : Security). s.mac_len) ours in
    let two : take c.put_uint-at.result c.put_uint-at.new.out ≡ octets 2 i.spi =
    c.put_uint-at.ensures.front ∙ ap (octets 2) c.from.ensures in
    let ten : take c.put_eight-at.result c.put_eight-at.new.out ≡ octets 2 i.spi ++ octets 8 i.next =
    c.put_eight-at.ensures.front ∙ ap (λ l. l ++ octets 8 i.next) two in
    let body : take c.put_bytes-at.result c.put_bytes-at.new.out ≡ octets 2 i.spi ++ octets 8 i.next ++ drop 6 bare =
    c.put_bytes-at.ensures.front ∙ ap₂ (λ (x y : List ℕ). x ++ y) ten c.split_at.ensures.back in
    let made : c.mac_of-mac.result ≡ hmac i.key (masked i.security.fields.insert_zone (take 6 bare ++ take c.put_bytes-at.result c.put_bytes-at.new.out)) =
    c.mac_of-mac.ensures ∙ ap₂ (λ (s : Security) h. hmac i.key (masked s.fields.insert_zone (h ++ take c.put_bytes-at.result c.put_bytes-at.new.out))) ours c.split_at.ensures.front in
    let size_is : i.security.mac_len ≡ c.args.self.now.security.mac_len = ap (λ (x : SealerState). x.security.mac_len) c.self.view_is in
    let len : length (take c.from-2.result c.mac_of-mac.result) ≡ c.from-2.result =
    length-take-le c.from-2.result c.mac_of-mac.result
    (omega (arith, size, c.self.invariant.most, ap length made, length-hmac i.key (masked i.security.fields.insert_zone (take 6 bare ++ take c.put_bytes-at.result c.put_bytes-at.new.out)))) in
    let all : length out ≤ c.put_bytes.result =
    omega (arith, len, size, size_is, c.put_bytes.ensures.end, c.put_bytes-at.ensures.end, c.put_eight-at.ensures.end, c.put_uint-at.ensures.end, c.split_at.ensures.back_len, c.put_bytes.auto.out, c.put_bytes-at.auto.out, c.put_eight-at.auto.out, c.put_uint-at.auto.out, c.requires.body) in
    let whole : out ≡ take c.put_bytes-at.result c.put_bytes-at.new.out ++ take i.security.mac_len c.mac_of-mac.result =
    sym (take_all c.put_bytes.result out all) ∙ c.put_bytes.ensures.front ∙ ap (λ n. take c.put_bytes-at.result c.put_bytes-at.new.out ++ take n c.mac_of-mac.result) size in
    ap (λ h. h ++ out) (c.copy_from_slice.ensures.after ∙ c.split_at.ensures.front)
    ∙ written i.security i.key i.spi i.next bare (take c.put_bytes-at.result c.put_bytes-at.new.out) out c.mac_of-mac.result body made whole
    ∙ ap (λ (x : SealerState). secured x.security x.key x.spi x.next bare) c.self.view_is
