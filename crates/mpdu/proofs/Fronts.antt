use Rattle.std.proofs.Common.{◌≡◌, ℕ, ◌≤◌, Bool, true, false, not, List, [], ◌∷◌, ◌++◌, length, take, drop, refl, sym, ap, ◌∙◌, arith}
use Rattle.std.proofs.lemmas.List.{take_at, append_assoc}
use Rattle.mpdu.specs.Stream.{keep, header_len, header_ok, is_idle}
use Rattle.mpdu.specs.Reading.{Read, scan}
use Rattle.mpdu.proofs.Scan.{scan_next}

pub keep-back : (b : Bool) (p : List ℕ) (ps : List (List ℕ)) → keep b p ps ≡ keep b p [] ++ ps
keep-back true p ps = refl
keep-back false p ps = refl

-- what stands before a part, if two lists are one
pub front_of : {X : Type 0} → (a b c d : List X) → length a ≤ length c → a ++ b ≡ c ++ d → (n : ℕ) × (c ≡ a ++ take n b)
front_of [] b c d h e = (length c, sym (ap (λ l. take (length c) l) e ∙ take_at c d (length c) refl))
front_of (x ∷ a) b [] d h e = absurd (omega arith)
front_of (x ∷ a) b (y ∷ c) d h e =
    let heads : x ≡ y = cc in
    let tails : a ++ b ≡ c ++ d = cc in
    let ih : (n : ℕ) × (c ≡ a ++ take n b) = front_of a b c d (omega arith) tails in
    let same : c ≡ a ++ take ih.0 b = ih.1 in
    (ih.0, cc)

-- one more packet
pub cut_more : (xs : List ℕ) (before all now then : List (List ℕ)) → 6 ≤ length xs → header_ok xs ≡ true → header_len xs ≤ length xs →
    before ++ all ≡ now ++ (scan (length xs) xs).out → then ≡ now ++ keep (not (is_idle (take (header_len xs) xs))) (take (header_len xs) xs) [] →
    before ++ all ≡ then ++ (scan (length (drop (header_len xs) xs)) (drop (header_len xs) xs)).out
cut_more xs before all now then long ok room is more =
    let p : List ℕ = take (header_len xs) xs in
    let r : Read = scan (length (drop (header_len xs) xs)) (drop (header_len xs) xs) in
    is ∙ ap (λ x. now ++ x.out) (scan_next xs long ok room) ∙ ap (λ l. now ++ l) (keep-back (not (is_idle p)) p r.out)
    ∙ sym (append_assoc now (keep (not (is_idle p)) p []) r.out) ∙ ap (λ l. l ++ r.out) (sym more)

-- a packet at the front that isn't idle is handed out
pub hands_first : (xs : List ℕ) → 6 ≤ length xs → header_ok xs ≡ true → header_len xs ≤ length xs → is_idle (take (header_len xs) xs) ≡ false →
    1 ≤ length (scan (length xs) xs).out
hands_first xs long ok room busy =
    let p : List ℕ = take (header_len xs) xs in
    let r : Read = scan (length (drop (header_len xs) xs)) (drop (header_len xs) xs) in
    let out : (scan (length xs) xs).out ≡ p ∷ r.out = ap (λ x. x.out) (scan_next xs long ok room) ∙ ap (λ b. keep (not b) p r.out) busy in
    omega (arith, ap length out)
