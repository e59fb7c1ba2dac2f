-- Of the packets of a stream those that end after a limit, and what comes of them if the limit
-- moves on by a zone.
use Rattle.std.proofs.Common.{◌≡◌, ℕ, ◌+◌, ◌*◌, ◌<◌, ◌≤◌, Bool, true, false, not, ◌&&◌, nat_le, if◌then◌else◌, List, [], ◌∷◌, ◌++◌, length, refl, sym, ap, subst, ◌∙◌, inl, inr, arith, length-append}
use Rattle.std.specs.List.{list_any}
use Rattle.std.proofs.lemmas.Bool.{cases_lt, cases_Bool, le-leb, lt-leb}
use Rattle.mpdu.specs.Stream.{stream, keep, is_idle, ArePackets, arrived, meets, survivors}
use Rattle.mpdu.specs.Packets.{busy}
use Rattle.mpdu.specs.Parts.{IsPartOf}
use Rattle.mpdu.proofs.Parts.{part-none, part-behind}
use Rattle.mpdu.proofs.Scan.{packet_long}
use Rattle.mpdu.proofs.Spans.{arrived-before, arrived-past}
use Rattle.mpdu.proofs.Zone.{keep_false, end_more, survivors-behind}
use Rattle.link_sim.specs.OneWay.{behind}

-- ---- the packets after a limit
-- if the limit doesn't lie after their front, all
pub behind-all : (limit from : ℕ) (ps : List (List ℕ)) → ArePackets ps → limit ≤ from → behind limit from ps ≡ ps
behind-all limit from [] h le = refl
behind-all limit from (p ∷ ps) h le =
    let t : nat_le (from + length p) limit ≡ false = lt-leb (from + length p) limit (omega (arith, packet_long p h.0)) in
    rw t refl

-- if it doesn't lie before their end, none
pub behind-none : (limit from : ℕ) (ps : List (List ℕ)) → from + length (stream ps) ≤ limit → behind limit from ps ≡ []
behind-none limit from [] le = refl
behind-none limit from (p ∷ ps) le =
    let t : nat_le (from + length p) limit ≡ true = le-leb (from + length p) limit (omega (arith, length-append p (stream ps))) in
    rw t (behind-none limit (from + length p) ps (omega (arith, length-append p (stream ps))))

-- packets that are sent after it stay
pub behind-append : (limit from : ℕ) (ps qs : List (List ℕ)) → ArePackets qs → limit ≤ from + length (stream ps) → behind limit from (ps ++ qs) ≡ behind limit from ps ++ qs
behind-append limit from [] qs h le = behind-all limit from qs h (omega arith)
behind-append limit from (p ∷ ps) qs h le =
    let more : behind limit (from + length p) (ps ++ qs) ≡ behind limit (from + length p) ps ++ qs = behind-append limit (from + length p) ps qs h (omega (arith, length-append p (stream ps))) in
    elim (cases_lt limit (from + length p)) [
      | inl c ↦ rw (lt-leb (from + length p) limit c) refl
      | inr c ↦ rw (le-leb (from + length p) limit c) more
    ]

-- those that end after a limit, but not after the next one
abbrev pub ended : (limit next from : ℕ) → List (List ℕ) → List (List ℕ)
ended limit next from [] = []
ended limit next from (p ∷ ps) =
    if nat_le (from + length p) next then
    (if nat_le (from + length p) limit then ended limit next (from + length p) ps else p ∷ ended limit next (from + length p) ps)
    else []

pub behind-ended : (limit next from : ℕ) (ps : List (List ℕ)) → ArePackets ps → limit ≤ next → behind limit from ps ≡ ended limit next from ps ++ behind next from ps
behind-ended limit next from [] h le = refl
behind-ended limit next from (p ∷ ps) h le =
    let b : ℕ = from + length p in
    let G : Type 0 = behind limit from (p ∷ ps) ≡ ended limit next from (p ∷ ps) ++ behind next from (p ∷ ps) in
    let rest : behind limit b ps ≡ ended limit next b ps ++ behind next b ps = behind-ended limit next b ps h.1 le in
    let before : b ≤ limit → G = λ (c : b ≤ limit). rw (le-leb b limit c, le-leb b next (omega arith)) rest in
    let inside : limit < b → b ≤ next → G = λ (c : limit < b) (d : b ≤ next).
    rw (lt-leb b limit c, le-leb b next d) (ap (λ l. p ∷ l) (sym (behind-all limit b ps h.1 (omega arith)) ∙ rest)) in
    let past : limit < b → next < b → G = λ (c : limit < b) (d : next < b). rw (lt-leb b limit c, lt-leb b next d) refl in
    elim (cases_lt limit b) [ inl c ↦ elim (cases_lt next b) [ inl d ↦ past c d | inr d ↦ inside c d ] | inr c ↦ before c ]

-- ---- what a frame completes
keep-busy : (x i : Bool) (p : List ℕ) (l k : List (List ℕ)) → IsPartOf l k → IsPartOf (keep (x && i) p l) (keep i p k)
keep-busy false false p l k part = part
keep-busy false true p l k part = part-behind l p k part
keep-busy true false p l k part = part
keep-busy true true p l k part = inl (refl, part)

pub keep-append : (k : Bool) (p : List ℕ) (l m : List (List ℕ)) → keep k p (l ++ m) ≡ keep k p l ++ m
keep-append true p l m = refl
keep-append false p l m = refl

-- of packets, the first of which ends after the marks, none survives
pub none_yet : (z : ℕ) (marks : List Bool) (a : ℕ) (p : List ℕ) (ps : List (List ℕ)) → ArePackets ps → length marks * z < a + length p → survivors z marks a (p ∷ ps) ≡ []
none_yet z marks a p ps h lt =
    let no : arrived z 0 marks a (a + length p) ≡ false = arrived-past z 0 marks a (a + length p) (omega arith) in
    keep_false (arrived z 0 marks a (a + length p)) p (survivors z marks (a + length p) ps) no ∙ survivors-behind z marks (a + length p) ps h (omega arith)

-- of packets that lie after a limit those survive at most that end before the marks' end
survivors-ended : (z : ℕ) (marks : List Bool) (limit next a : ℕ) (ps : List (List ℕ)) → ArePackets ps → next ≡ length marks * z → limit < a →
    IsPartOf (survivors z marks a ps) (busy (ended limit next a ps))
survivors-ended z marks limit next a [] h e lt = refl
survivors-ended z marks limit next a (p ∷ ps) h e lt =
    let b : ℕ = a + length p in
    let G : Type 0 = IsPartOf (survivors z marks a (p ∷ ps)) (busy (ended limit next a (p ∷ ps))) in
    let inside : b ≤ next → G = λ (c : b ≤ next).
    let rest : IsPartOf (survivors z marks b ps) (busy (ended limit next b ps)) = survivors-ended z marks limit next b ps h.1 e (omega arith) in
    let t : nat_le b limit ≡ false = lt-leb b limit (omega arith) in
    rw (t, le-leb b next c) (keep-busy (arrived z 0 marks a b) (not (is_idle p)) p (survivors z marks b ps) (busy (ended limit next b ps)) rest) in
    let past : next < b → G = λ (c : next < b).
    subst (λ l. IsPartOf l (busy (ended limit next a (p ∷ ps)))) (sym (none_yet z marks a p ps h.1 (omega arith))) (part-none (busy (ended limit next a (p ∷ ps)))) in
    elim (cases_lt next b) [ inl c ↦ past c | inr c ↦ inside c ]

-- A frame that is delivered completes some packets, of those that end in its zone.
pub record Ends (z : ℕ) (marks : List Bool) (limit next a : ℕ) (ps : List (List ℕ)) : Type 0 where
  pub done : List (List ℕ)
  pub completed : survivors z (marks ++ true ∷ []) a ps ≡ survivors z marks a ps ++ done
  pub part : IsPartOf done (busy (ended limit next a ps))

pub ends : (z : ℕ) (marks : List Bool) (limit next a : ℕ) (ps : List (List ℕ)) → ArePackets ps → limit ≡ length marks * z → next ≡ limit + z → Ends z marks limit next a ps
ends z marks limit next a [] h e f = record { done = []; completed = refl; part = refl }
ends z marks limit next a (p ∷ ps) h e f =
    let b : ℕ = a + length p in
    let m : List Bool = marks ++ true ∷ [] in
    let i : Bool = not (is_idle p) in
    let em : length (marks ++ true ∷ []) * z ≡ length marks * z + z = end_more z marks true in
    let G : Type 0 = Ends z marks limit next a (p ∷ ps) in
    let before : b ≤ limit → G = λ (c : b ≤ limit).
    let same : arrived z 0 m a b ≡ arrived z 0 marks a b = arrived-before z 0 marks true a b (omega arith) in
    let rest : Ends z marks limit next b ps = ends z marks limit next b ps h.1 e f in
    let part : IsPartOf rest.done (busy (ended limit next a (p ∷ ps))) = rw (le-leb b limit c, le-leb b next (omega arith)) rest.part in
    record {
      done = rest.done;
      completed = ap (λ t. keep (t && i) p (survivors z m b ps)) same
          ∙ ap (λ l. keep (arrived z 0 marks a b && i) p l) rest.completed ∙ keep-append (arrived z 0 marks a b && i) p (survivors z marks b ps) rest.done;
      part = part;
    } in
    let after : limit < b → G = λ (c : limit < b).
    let none : survivors z marks a (p ∷ ps) ≡ [] = none_yet z marks a p ps h.1 (omega arith) in
    let done : List (List ℕ) = survivors z m a (p ∷ ps) in
    let inside : b ≤ next → IsPartOf done (busy (ended limit next a (p ∷ ps))) = λ (d : b ≤ next).
    rw (lt-leb b limit c, le-leb b next d)
    (keep-busy (arrived z 0 m a b) i p (survivors z m b ps) (busy (ended limit next b ps)) (survivors-ended z m limit next b ps h.1 (omega (arith, em)) c)) in
    let past : next < b → IsPartOf done (busy (ended limit next a (p ∷ ps))) = λ (d : next < b).
    subst (λ l. IsPartOf l (busy (ended limit next a (p ∷ ps)))) (sym (none_yet z m a p ps h.1 (omega (arith, em)))) (part-none (busy (ended limit next a (p ∷ ps)))) in
    record {
      done = done;
      completed = ap (λ l. l ++ done) (sym none);
      part = elim (cases_lt next b) [ inl d ↦ past d | inr d ↦ inside d ];
    } in
    elim (cases_lt limit b) [ inl c ↦ after c | inr c ↦ before c ]

-- ---- if all frames were delivered
-- all that they hold arrived
pub all_arrived : (z s : ℕ) (marks : List Bool) (a b : ℕ) → list_any not marks ≡ false → b ≤ s + length marks * z → arrived z s marks a b ≡ true
all_arrived z s [] a b all le = le-leb b s (omega arith)
all_arrived z s (false ∷ marks) a b all le = absurd cc
all_arrived z s (true ∷ marks) a b all le =
    let rest : arrived z (s + z) marks a b ≡ true = all_arrived z (s + z) marks a b all (omega arith) in
    elim (cases_Bool (meets s (s + z) a b)) [ inl e ↦ rw (e, rest) refl | inr e ↦ rw (e, rest) refl ]

any-front : (marks : List Bool) (k : Bool) → list_any not (marks ++ k ∷ []) ≡ false → list_any not marks ≡ false
any-front [] k all = refl
any-front (false ∷ marks) k all = absurd cc
any-front (true ∷ marks) k all = any-front marks k all

-- a frame more that is delivered completes all packets that end in its zone
pub all_ended : (z : ℕ) (marks : List Bool) (limit next a : ℕ) (ps : List (List ℕ)) → ArePackets ps → limit ≡ length marks * z → next ≡ limit + z → list_any not (marks ++ true ∷ []) ≡ false →
    survivors z (marks ++ true ∷ []) a ps ≡ survivors z marks a ps ++ busy (ended limit next a ps)
all_ended z marks limit next a [] h e f all = refl
all_ended z marks limit next a (p ∷ ps) h e f all =
    let b : ℕ = a + length p in
    let m : List Bool = marks ++ true ∷ [] in
    let i : Bool = not (is_idle p) in
    let em : length (marks ++ true ∷ []) * z ≡ length marks * z + z = end_more z marks true in
    let G : Type 0 = survivors z m a (p ∷ ps) ≡ survivors z marks a (p ∷ ps) ++ busy (ended limit next a (p ∷ ps)) in
    let rest : survivors z m b ps ≡ survivors z marks b ps ++ busy (ended limit next b ps) = all_ended z marks limit next b ps h.1 e f all in
    let before : b ≤ limit → G = λ (c : b ≤ limit).
    let same : arrived z 0 m a b ≡ arrived z 0 marks a b = arrived-before z 0 marks true a b (omega arith) in
    rw (le-leb b limit c, le-leb b next (omega arith))
    (ap (λ t. keep (t && i) p (survivors z m b ps)) same
    ∙ ap (λ l. keep (arrived z 0 marks a b && i) p l) rest ∙ keep-append (arrived z 0 marks a b && i) p (survivors z marks b ps) (busy (ended limit next b ps))) in
    let none : limit < b → survivors z marks a (p ∷ ps) ≡ [] = λ (c : limit < b). none_yet z marks a p ps h.1 (omega arith) in
    let inside : limit < b → b ≤ next → G = λ (c : limit < b) (d : b ≤ next).
    let here : arrived z 0 m a b ≡ true = all_arrived z 0 m a b all (omega (arith, em)) in
    let less : survivors z m b ps ≡ busy (ended limit next b ps) = rest ∙ ap (λ l. l ++ busy (ended limit next b ps)) (survivors-behind z marks b ps h.1 (omega arith)) in
    let one : survivors z m a (p ∷ ps) ≡ keep i p (busy (ended limit next b ps)) = ap (λ t. keep (t && i) p (survivors z m b ps)) here ∙ ap (λ l. keep i p l) less in
    let two : busy (ended limit next a (p ∷ ps)) ≡ keep i p (busy (ended limit next b ps)) = rw (lt-leb b limit c, le-leb b next d) refl in
    one ∙ sym two ∙ ap (λ l. l ++ busy (ended limit next a (p ∷ ps))) (sym (none c)) in
    let past : limit < b → next < b → G = λ (c : limit < b) (d : next < b).
    let two : busy (ended limit next a (p ∷ ps)) ≡ [] = rw (lt-leb b next d) refl in
    none_yet z m a p ps h.1 (omega (arith, em)) ∙ sym two ∙ ap (λ l. l ++ busy (ended limit next a (p ∷ ps))) (sym (none c)) in
    elim (cases_lt limit b) [ inl c ↦ elim (cases_lt next b) [ inl d ↦ past c d | inr d ↦ inside c d ] | inr c ↦ before c ]
