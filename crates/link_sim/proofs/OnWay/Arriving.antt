-- The PDUs of a direction that will arrive if no more is lost, after each kind of step.
use Rattle.std.proofs.Common.{◌≡◌, ℕ, ◌+◌, ◌-◌, ◌*◌, ◌<◌, ◌≤◌, Bool, true, false, not, ◌&&◌, nat_le, nat_lt, if◌then◌else◌, List, [], ◌∷◌, ◌++◌, ◌⊎◌, length, take, refl, sym, ap, ◌∙◌, inl, inr, arith, length-append}
use Rattle.std.proofs.lemmas.Bool.{cases_lt, le-leb, lt-leb, lt-ltb, le-ltb, false≢true}
use Rattle.std.proofs.lemmas.List.{length-take}
use Rattle.mpdu.specs.Stream.{stream, keep, is_idle, ArePackets, arrived, survivors, begun}
use Rattle.mpdu.specs.Packets.{busy}
use Rattle.mpdu.proofs.Scan.{packet_long}
use Rattle.mpdu.proofs.Spans.{arrived-before, arrived-behind, arrived-into}
use Rattle.mpdu.proofs.Zone.{end_more, survivors-behind}
use Rattle.link_sim.specs.OneWay.{behind, unbroken}
use Rattle.link_sim.proofs.OnWay.Lists.{keep-append, none_yet}

-- ---- the packets after a limit
-- if the limit doesn't lie after their front, all
pub unbroken-all : (limit from : ℕ) (held : List ℕ) (ps : List (List ℕ)) → ArePackets ps → limit ≤ from → unbroken limit from held ps ≡ ps
unbroken-all limit from held [] h le = refl
unbroken-all limit from held (p ∷ ps) h le =
    let t : nat_le (from + length p) limit ≡ false = lt-leb (from + length p) limit (omega (arith, packet_long p h.0)) in
    let u : nat_lt from limit ≡ false = le-ltb from limit le in
    rw (t, u) refl

-- packets that are sent after it stay
pub unbroken-append : (limit from : ℕ) (held : List ℕ) (ps qs : List (List ℕ)) → ArePackets qs → limit ≤ from + length (stream ps) → unbroken limit from held (ps ++ qs) ≡ unbroken limit from held ps
    ++ qs
unbroken-append limit from held [] qs h le = unbroken-all limit from held qs h (omega arith)
unbroken-append limit from held (p ∷ ps) qs h le =
    let more : unbroken limit (from + length p) held (ps ++ qs) ≡ unbroken limit (from + length p) held ps ++ qs =
    unbroken-append limit (from + length p) held ps qs h (omega (arith, length-append p (stream ps))) in
    let cut : (t : Bool) → (if t then ps ++ qs else p ∷ (ps ++ qs)) ≡ (if t then ps else p ∷ ps) ++ qs =
    λ t. elim t as (λ b. (if b then ps ++ qs else p ∷ (ps ++ qs)) ≡ (if b then ps else p ∷ ps) ++ qs) [ true ↦ refl | false ↦ refl ] in
    elim (cases_lt limit (from + length p)) [
      | inl c ↦ rw (lt-leb (from + length p) limit c) (cut (nat_lt from limit && nat_le (length held) 0))
      | inr c ↦ rw (le-leb (from + length p) limit c) more
    ]

-- of those after a limit at most the first is missing
pub record OneFewer (all some : List (List ℕ)) : Type 0 where
  pub first : List ℕ
  pub is : all ≡ first ∷ some

pub unbroken-behind : (limit from : ℕ) (held : List ℕ) (ps : List (List ℕ)) → ArePackets ps → (behind limit from ps ≡ unbroken limit from held ps)
    ⊎ OneFewer (behind limit from ps) (unbroken limit from held ps)
unbroken-behind limit from held [] h = inl refl
unbroken-behind limit from held (p ∷ ps) h =
    let G : Type 0 = (behind limit from (p ∷ ps) ≡ unbroken limit from held (p ∷ ps)) ⊎ OneFewer (behind limit from (p ∷ ps)) (unbroken limit from held (p ∷ ps)) in
    let rest = unbroken-behind limit (from + length p) held ps h.1 in
    let past : limit < from + length p → G = λ (c : limit < from + length p).
    rw (lt-leb (from + length p) limit c)
    (elim (nat_lt from limit && nat_le (length held) 0) as (λ b. (p ∷ ps ≡ (if b then ps else p ∷ ps)) ⊎ OneFewer (p ∷ ps) (if b then ps else p ∷ ps)) [
      | true ↦ inr (record { first = p; is = refl })
      | false ↦ inl refl
    ]) in
    elim (cases_lt limit (from + length p)) [ inl c ↦ past c | inr c ↦ rw (le-leb (from + length p) limit c) rest ]

-- ---- a zone more is delivered
-- The packet that the marks' end cuts is there if all zones that it meets till there were
-- delivered.
unbroken-cut : (z : ℕ) (marks : List Bool) (a : ℕ) (p : List ℕ) (ps : List (List ℕ)) → length marks * z < a + length p →
    unbroken (length marks * z) a (begun z marks a (p ∷ ps)) (p ∷ ps) ≡ (if arrived z 0 marks a (length marks * z) then p ∷ ps else ps)
unbroken-cut z marks a p ps c = rw (lt-leb (a + length p) (length marks * z) c) (by (arrived z 0 marks a (length marks * z)) refl)
  where
    by : (t : Bool) → arrived z 0 marks a (length marks * z) ≡ t → (if nat_lt a (length marks * z) && nat_le (length (if t then take (length marks * z - a) p else [])) 0 then ps else p ∷ ps)
        ≡ (if t then p ∷ ps else ps)
    by true is = elim (cases_lt a (length marks * z)) [
      | inl l ↦ (let long : length (take (length marks * z - a) p) ≡ length marks * z - a = (let n = length-take (length marks * z - a) p in omega (arith, n, c, l)) in
          rw (lt-ltb a (length marks * z) l, lt-leb (length (take (length marks * z - a) p)) 0 (omega (arith, long, l))) refl)
      | inr l ↦ rw (le-ltb a (length marks * z) l) refl
    ]
    by false is = elim (cases_lt a (length marks * z)) [
      | inl l ↦ rw (lt-ltb a (length marks * z) l) refl
      | inr l ↦ absurd (false≢true (sym is ∙ arrived-behind z 0 marks a (length marks * z) (omega arith) l))
    ]

-- What a frame that is delivered completes, of the packets that aren't idle, is the front of those that
-- will arrive.
pub record Lands (z : ℕ) (marks : List Bool) (a : ℕ) (ps : List (List ℕ)) : Type 0 where
  pub done : List (List ℕ)
  pub completed : survivors z (marks ++ true ∷ []) a ps ≡ survivors z marks a ps ++ done
  pub lands : busy (unbroken (length marks * z) a (begun z marks a ps) ps)
      ≡ done ++ busy (unbroken (length (marks ++ true ∷ []) * z) a (begun z (marks ++ true ∷ []) a ps) ps)

pub lands : (z : ℕ) (marks : List Bool) (a : ℕ) (ps : List (List ℕ)) → 0 < z → ArePackets ps → Lands z marks a ps
lands z marks a [] pos h = record { done = []; completed = refl; lands = refl }
lands z marks a (p ∷ ps) pos h =
    let b : ℕ = a + length p in
    let m : List Bool = marks ++ true ∷ [] in
    let i : Bool = not (is_idle p) in
    let e : ℕ = length marks * z in
    let n : ℕ = length (marks ++ true ∷ []) * z in
    let em : length (marks ++ true ∷ []) * z ≡ length marks * z + z = end_more z marks true in
    let long : 7 ≤ length p = packet_long p h.0 in
    let rest : Lands z marks b ps = lands z marks b ps pos h.1 in
    let G : Type 0 = Lands z marks a (p ∷ ps) in
    let before : b ≤ e → G = λ (c : b ≤ e).
    let same : arrived z 0 m a b ≡ arrived z 0 marks a b = arrived-before z 0 marks true a b (omega arith) in
    record {
      done = rest.done;
      completed = ap (λ t. keep (t && i) p (survivors z m b ps)) same
          ∙ ap (λ l. keep (arrived z 0 marks a b && i) p l) rest.completed ∙ keep-append (arrived z 0 marks a b && i) p (survivors z marks b ps) rest.done;
      lands = rw (le-leb b (length marks * z) c, le-leb b (length (marks ++ true ∷ []) * z) (omega (arith, em, c))) rest.lands;
    } in
    let after : e < b → G = λ (c : e < b).
    let w : Bool = arrived z 0 marks a (length marks * z) in
    let s : List (List ℕ) = survivors z m b ps in
    let none : survivors z marks a (p ∷ ps) ≡ [] = none_yet z marks a p ps h.1 (omega arith) in
    let done : List (List ℕ) = survivors z m a (p ∷ ps) in
    let cut : unbroken (length marks * z) a (begun z marks a (p ∷ ps)) (p ∷ ps) ≡ (if w then p ∷ ps else ps) = unbroken-cut z marks a p ps c in
    let x : List (List ℕ) = busy (unbroken n b (begun z m b ps) ps) in
    let all : unbroken (length marks * z) b (begun z marks b ps) ps ≡ ps = unbroken-all (length marks * z) b (begun z marks b ps) ps h.1 (omega arith) in
    let done_b : rest.done ≡ s = ap (λ l. l ++ rest.done) (sym (survivors-behind z marks b ps h.1 (omega arith))) ∙ sym rest.completed in
    let parts : busy ps ≡ s ++ x = ap busy (sym all) ∙ rest.lands ∙ ap (λ l. l ++ x) done_b in
    let either : (t : Bool) → busy (if t then p ∷ ps else ps) ≡ keep (t && i) p s ++ x = λ t. elim t as (λ b. busy (if b then p ∷ ps else ps) ≡ keep (b && i) p s ++ x) [
      | true ↦ ap (λ l. keep i p l) parts ∙ keep-append i p s x
      | false ↦ parts
    ] in
    let inside : b ≤ n → busy (unbroken (length marks * z) a (begun z marks a (p ∷ ps)) (p ∷ ps)) ≡ done
    ++ busy (unbroken (length (marks ++ true ∷ []) * z) a (begun z (marks ++ true ∷ []) a (p ∷ ps)) (p ∷ ps)) = λ (d : b ≤ n).
    let here : arrived z 0 m a b ≡ w = arrived-into z 0 marks true a b (length marks * z) pos (omega arith) c (omega (arith, em, d)) (omega (arith, em, d, long)) in
    let is : done ≡ keep (w && i) p s = ap (λ t. keep (t && i) p s) here in
    let right : unbroken (length (marks ++ true ∷ []) * z) a (begun z (marks ++ true ∷ []) a (p ∷ ps)) (p ∷ ps) ≡ unbroken n b (begun z m b ps) ps =
    rw (le-leb b (length (marks ++ true ∷ []) * z) d) refl in
    ap busy cut ∙ either w ∙ ap (λ l. l ++ x) (sym is) ∙ ap (λ l. done ++ busy l) (sym right) in
    let past : n < b → busy (unbroken (length marks * z) a (begun z marks a (p ∷ ps)) (p ∷ ps)) ≡ done
    ++ busy (unbroken (length (marks ++ true ∷ []) * z) a (begun z (marks ++ true ∷ []) a (p ∷ ps)) (p ∷ ps)) = λ (d : n < b).
    let nothing : done ≡ [] = none_yet z m a p ps h.1 d in
    let cut_then : unbroken (length (marks ++ true ∷ []) * z) a (begun z (marks ++ true ∷ []) a (p ∷ ps)) (p ∷ ps) ≡ (if arrived z 0 m a (length (marks ++ true ∷ []) * z) then p ∷ ps else ps) =
    unbroken-cut z m a p ps d in
    let same : arrived z 0 m a (length (marks ++ true ∷ []) * z) ≡ w = elim (cases_lt a n) [
      | inl f ↦ arrived-into z 0 marks true a n (length marks * z) pos (omega arith) (omega (arith, em, pos)) (omega (arith, em)) (omega (arith, em, f))
      | inr f ↦ arrived-behind z 0 m a n (omega arith) f ∙ sym (arrived-behind z 0 marks a (length marks * z) (omega arith) (omega (arith, em, f)))
    ] in
    ap busy cut ∙ ap (λ t. busy (if t then p ∷ ps else ps)) (sym same) ∙ ap busy (sym cut_then)
    ∙ ap (λ l. l ++ busy (unbroken (length (marks ++ true ∷ []) * z) a (begun z (marks ++ true ∷ []) a (p ∷ ps)) (p ∷ ps))) (sym nothing) in
    record {
      done = done;
      completed = ap (λ l. l ++ done) (sym none);
      lands = elim (cases_lt n b) [ inl d ↦ past d | inr d ↦ inside d ];
    } in
    elim (cases_lt e b) [ inl c ↦ after c | inr c ↦ before c ]
