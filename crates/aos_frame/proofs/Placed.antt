-- A bare frame whose octets stand in the link's frame already.
use Rattle.std.proofs.Common.{◌≡◌, ℕ, ◌+◌, ◌-◌, ◌≤◌, List, ◌++◌, length, take, drop, replicate, sym, ap, ◌∙◌, arith, length-append}
use Rattle.std.proofs.lemmas.List.{take-append-drop, length-take-le, length-replicate, take_at, drop_at, drop-drop}
use Rattle.std.proofs.Math.Seq.{take-append-add}
use Rattle.aos_frame.specs.declared.fields.FrameFields.{FrameFields}
use Rattle.aos_frame.specs.LinkFields.{extra, bare_in, behind_insert, mpdu_len, mpdu_in}

-- what stands before the fields after it, once its insert zone is written
pub placed : (fields : FrameFields) (old mid : List ℕ) (end : ℕ) → 6 + extra fields ≤ length old → end ≡ length old - (extra fields - fields.insert_zone) →
    take (6 + fields.insert_zone) mid ≡ take 6 old ++ replicate fields.insert_zone 0 → drop (6 + fields.insert_zone) mid ≡ drop (6 + fields.insert_zone) old →
    (o : List ℕ) → take end mid ++ o ≡ take 6 (bare_in fields old) ++ replicate fields.insert_zone 0 ++ drop 6 (bare_in fields old) ++ o
placed fields old mid end fits at front behind o =
    let n : ℕ = 6 + fields.insert_zone in
    let h : List ℕ = take 6 old in
    let z : List ℕ = replicate fields.insert_zone 0 in
    let m : List ℕ = mpdu_in fields old in
    let lh : length h ≡ 6 = length-take-le 6 old (omega (arith, fits)) in
    let lz : length z ≡ fields.insert_zone = length-replicate fields.insert_zone 0 in
    let whole : mid ≡ (h ++ z) ++ drop n old = sym (take-append-drop n mid) ∙ ap (λ l. l ++ drop n mid) front ∙ ap (λ l. (h ++ z) ++ l) behind in
    let len : end ≡ length (h ++ z) + mpdu_len fields old = omega (arith, at, fits, length-append h z, lh, lz) in
    let cut : take end mid ≡ (h ++ z) ++ take (mpdu_len fields old) (drop n old) =
    ap (take end) whole ∙ ap (λ k. take k ((h ++ z) ++ drop n old)) len ∙ take-append-add (h ++ z) (drop n old) (mpdu_len fields old) in
    let same : drop n old ≡ behind_insert fields old = sym (drop-drop fields.insert_zone 6 old) in
    let text : take end mid ≡ (h ++ z) ++ m = cut ∙ ap (λ l. (h ++ z) ++ take (mpdu_len fields old) l) same in
    let six : take 6 (h ++ m) ≡ h = take_at h m 6 lh in
    let rest : drop 6 (h ++ m) ≡ m = drop_at h m 6 lh in
    ap (λ l. l ++ o) text ∙ sym (ap (λ l. l ++ z ++ drop 6 (h ++ m) ++ o) six ∙ ap (λ l. h ++ z ++ l ++ o) rest)
