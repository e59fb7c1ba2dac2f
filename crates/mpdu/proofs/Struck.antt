-- Exported: what a zone that was struck leaves.
use Rattle.std.proofs.Common.{◌≡◌, ℕ, ◌+◌, ◌-◌, ◌*◌, ◌<◌, ◌≤◌, Bool, true, false, not, ◌&&◌, nat_le, List, [], ◌∷◌, ◌++◌, length, refl, sym, ap, ◌∙◌, inl, inr, arith}
use Rattle.std.proofs.lemmas.Bool.{le-leb, lt-leb, cases_lt}
use Rattle.mpdu.specs.Stream.{keep, is_idle, ArePackets, arrived, survivors, begun}
use Rattle.mpdu.proofs.Spans.{arrived-before, arrived-past, arrived-behind, arrived-into}
use Rattle.mpdu.proofs.Scan.{packet_long}
use Rattle.mpdu.proofs.Zone.{end_more}

-- a struck zone discards what is begun
pub begun-struck : (z : ℕ) (marks : List Bool) (a : ℕ) (ps : List (List ℕ)) → 0 < z → begun z (marks ++ false ∷ []) a ps ≡ []
begun-struck z marks a [] pos = refl
begun-struck z marks a (p ∷ ps) pos =
    let m : List Bool = marks ++ false ∷ [] in
    let e : ℕ = length marks * z in
    let b : ℕ = length m * z in
    let em : length (marks ++ false ∷ []) * z ≡ length marks * z + z = end_more z marks false in
    let G : Type 0 = begun z m a (p ∷ ps) ≡ [] in
    let below : a + length p ≤ b → G = λ (c : a + length p ≤ b).
    let t : nat_le (a + length p) b ≡ true = le-leb (a + length p) b c in
    rw t (begun-struck z marks (a + length p) ps pos) in
    let cut : b < a + length p → a < e + z → G = λ (c : b < a + length p) (d : a < e + z).
    let t : nat_le (a + length p) b ≡ false = lt-leb (a + length p) b c in
    let f : arrived z 0 m a b ≡ false = arrived-into z 0 marks false a b e pos (omega arith) (omega arith) (omega arith) d in
    rw (t, f) refl in
    let behind : b < a + length p → e + z ≤ a → G = λ (c : b < a + length p) (d : e + z ≤ a).
    let t : nat_le (a + length p) b ≡ false = lt-leb (a + length p) b c in
    let f : arrived z 0 m a b ≡ true = arrived-behind z 0 m a b (omega arith) (omega arith) in
    let k : b - a ≡ 0 = omega arith in
    rw (t, f, k) refl in
    elim (cases_lt b (a + length p)) [ inl c ↦ elim (cases_lt a (e + z)) [ inl d ↦ cut c d | inr d ↦ behind c d ] | inr c ↦ below c ]

-- and completes no packet
pub survivors-struck : (z : ℕ) (marks : List Bool) (a : ℕ) (ps : List (List ℕ)) → 0 < z → ArePackets ps → survivors z (marks ++ false ∷ []) a ps ≡ survivors z marks a ps
survivors-struck z marks a [] pos h = refl
survivors-struck z marks a (p ∷ ps) pos h =
    let m : List Bool = marks ++ false ∷ [] in
    let e : ℕ = length marks * z in
    let b : ℕ = a + length p in
    let long : 7 ≤ length p = packet_long p h.0 in
    let em : length (marks ++ false ∷ []) * z ≡ length marks * z + z = end_more z marks false in
    let A : Type 0 = arrived z 0 m a b ≡ arrived z 0 marks a b in
    let below : b ≤ e → A = λ (c : b ≤ e). arrived-before z 0 marks false a b (omega arith) in
    let into : e < b → b ≤ e + z → A = λ (c : e < b) (d : b ≤ e + z).
    arrived-into z 0 marks false a b e pos (omega arith) c d (omega arith) ∙ sym (arrived-past z 0 marks a b (omega arith)) in
    let past : e < b → e + z < b → A = λ (c : e < b) (d : e + z < b). arrived-past z 0 m a b (omega arith) ∙ sym (arrived-past z 0 marks a b (omega arith)) in
    let same : A = elim (cases_lt e b) [ inl c ↦ elim (cases_lt (e + z) b) [ inl d ↦ past c d | inr d ↦ into c d ] | inr c ↦ below c ] in
    ap (λ t. keep (t && not (is_idle p)) p (survivors z m b ps)) same ∙ ap (λ l. keep (arrived z 0 marks a b && not (is_idle p)) p l) (survivors-struck z marks b ps pos h.1)

pub begun-none : (z : ℕ) (ps : List (List ℕ)) → ArePackets ps → begun z [] 0 ps ≡ []
begun-none z [] h = refl
begun-none z (p ∷ ps) h =
    let t : nat_le (0 + length p) (0 * z) ≡ false = lt-leb (0 + length p) (0 * z) (omega (arith, packet_long p h.0)) in
    let u : nat_le (0 * z) 0 ≡ true = le-leb (0 * z) 0 (omega arith) in
    let k : 0 * z - 0 ≡ 0 = omega arith in
    rw (t, u, k) refl
