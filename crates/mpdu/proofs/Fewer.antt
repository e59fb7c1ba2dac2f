-- Exported: if fewer zones are delivered, fewer packets survive, and each zone completes no more.
use Rattle.std.proofs.Common.{◌≡◌, ℕ, ◌+◌, ◌*◌, ◌<◌, ◌≤◌, Bool, true, false, not, ◌&&◌, cond, List, [], ◌∷◌, ◌++◌, length, refl, sym, ap, subst, ◌∙◌, inl, inr, arith}
use Rattle.std.proofs.lemmas.Bool.{cases_lt}
use Rattle.mpdu.specs.Stream.{keep, is_idle, ArePackets, arrived, meets, survivors}
use Rattle.mpdu.proofs.Spans.{arrived-before, arrived-past}
use Rattle.mpdu.proofs.Zone.{keep_false, survivors-behind}
use Rattle.mpdu.specs.Parts.{IsPartOf, AreAmong, CompletesMore}
use Rattle.mpdu.specs.Packets.{busy}
use Rattle.mpdu.proofs.Parts.{part-behind, among-length, among-push}

step_more : (t b m x y : Bool) → (b ≡ true → m ≡ true) → (x ≡ true → y ≡ true) → cond t (b && x) x ≡ true → cond t (m && y) y ≡ true
step_more false b m x y h k e = k e
step_more true false m x y h k e = absurd cc
step_more true true m x y h k e = rw (h refl) (k e)

-- a range that arrived, arrives if more is delivered
pub arrived-more : (z s : ℕ) (few marks : List Bool) (a b : ℕ) → AreAmong few marks → arrived z s few a b ≡ true → arrived z s marks a b ≡ true
arrived-more z s [] [] a b h e = e
arrived-more z s [] (m ∷ marks) a b h e = absurd h
arrived-more z s (f ∷ few) [] a b h e = absurd h
arrived-more z s (f ∷ few) (m ∷ marks) a b h e =
    step_more (meets s (s + z) a b) f m (arrived z (s + z) few a b) (arrived z (s + z) marks a b) h.0 (arrived-more z (s + z) few marks a b h.1) e

keep-part : (x y i : Bool) (p : List ℕ) (l k : List (List ℕ)) → (x ≡ true → y ≡ true) → IsPartOf l k → IsPartOf (keep (x && i) p l) (keep (y && i) p k)
keep-part false false i p l k h part = part
keep-part false true false p l k h part = part
keep-part false true true p l k h part = part-behind l p k part
keep-part true false i p l k h part = absurd (let bad : false ≡ true = h refl in cc)
keep-part true true false p l k h part = part
keep-part true true true p l k h part = inl (refl, part)

pub survivors-part : (z : ℕ) (few marks : List Bool) (a : ℕ) (ps : List (List ℕ)) → AreAmong few marks → IsPartOf (survivors z few a ps) (survivors z marks a ps)
survivors-part z few marks a [] h = refl
survivors-part z few marks a (p ∷ ps) h =
    keep-part (arrived z 0 few a (a + length p)) (arrived z 0 marks a (a + length p)) (not (is_idle p)) p (survivors z few (a + length p) ps) (survivors z marks (a + length p) ps)
    (arrived-more z 0 few marks a (a + length p) h) (survivors-part z few marks (a + length p) ps h)

keep-busy : (x i : Bool) (p : List ℕ) (l k : List (List ℕ)) → IsPartOf l k → IsPartOf (keep (x && i) p l) (keep i p k)
keep-busy false false p l k part = part
keep-busy false true p l k part = part-behind l p k part
keep-busy true false p l k part = part
keep-busy true true p l k part = inl (refl, part)

-- what survives was sent
pub survivors-busy : (z : ℕ) (marks : List Bool) (a : ℕ) (ps : List (List ℕ)) → IsPartOf (survivors z marks a ps) (busy ps)
survivors-busy z marks a [] = refl
survivors-busy z marks a (p ∷ ps) =
    keep-busy (arrived z 0 marks a (a + length p)) (not (is_idle p)) p (survivors z marks (a + length p) ps) (busy ps) (survivors-busy z marks (a + length p) ps)

keep-strip : (k : Bool) (p : List ℕ) (l m added : List (List ℕ)) → keep k p l ≡ keep k p m ++ added → l ≡ m ++ added
keep-strip true p l m added e = cc
keep-strip false p l m added e = e

keep-append : (k : Bool) (p : List ℕ) (l m : List (List ℕ)) → keep k p (l ++ m) ≡ keep k p l ++ m
keep-append true p l m = refl
keep-append false p l m = refl

-- of packets of which the first ends after the marks none survives
none_yet : (z : ℕ) (marks : List Bool) (a : ℕ) (p : List ℕ) (ps : List (List ℕ)) → ArePackets ps → length marks * z < a + length p → survivors z marks a (p ∷ ps) ≡ []
none_yet z marks a p ps h lt =
    let no : arrived z 0 marks a (a + length p) ≡ false = arrived-past z 0 marks a (a + length p) (omega arith) in
    keep_false (arrived z 0 marks a (a + length p)) p (survivors z marks (a + length p) ps) no ∙ survivors-behind z marks (a + length p) ps h (omega arith)

-- One more zone, if more is delivered: it completes all that it would otherwise complete.
pub record CompletesFrom (z : ℕ) (marks : List Bool) (a : ℕ) (ps added : List (List ℕ)) : Type 0 where
  pub more : List (List ℕ)
  pub completed : survivors z (marks ++ true ∷ []) a ps ≡ survivors z marks a ps ++ more
  pub part : IsPartOf added more

pub completes_more : (z : ℕ) (few marks : List Bool) (a : ℕ) (ps added : List (List ℕ)) → ArePackets ps → AreAmong few marks →
    survivors z (few ++ true ∷ []) a ps ≡ survivors z few a ps ++ added → CompletesFrom z marks a ps added
completes_more z few marks a [] added h among e = record { more = []; completed = refl; part = sym e }
completes_more z few marks a (p ∷ ps) added h among e =
    let b : ℕ = a + length p in
    let same : length few ≡ length marks = among-length few marks among in
    let ends : length few * z ≡ length marks * z = ap (λ n. n * z) same in
    let i : Bool = not (is_idle p) in
    let G : Type 0 = CompletesFrom z marks a (p ∷ ps) added in
    let before : b ≤ length marks * z → G = λ (c : b ≤ length marks * z).
    let x : arrived z 0 (few ++ true ∷ []) a b ≡ arrived z 0 few a b = arrived-before z 0 few true a b (omega arith) in
    let y : arrived z 0 (marks ++ true ∷ []) a b ≡ arrived z 0 marks a b = arrived-before z 0 marks true a b (omega arith) in
    let f : keep (arrived z 0 few a b && i) p (survivors z (few ++ true ∷ []) b ps) ≡ keep (arrived z 0 few a b && i) p (survivors z few b ps) ++ added =
    ap (λ t. keep (t && i) p (survivors z (few ++ true ∷ []) b ps)) (sym x) ∙ e in
    let rest : CompletesFrom z marks b ps added =
    completes_more z few marks b ps added h.1 among (keep-strip (arrived z 0 few a b && i) p (survivors z (few ++ true ∷ []) b ps) (survivors z few b ps) added f) in
    record {
      more = rest.more;
      completed = ap (λ t. keep (t && i) p (survivors z (marks ++ true ∷ []) b ps)) y
          ∙ ap (λ l. keep (arrived z 0 marks a b && i) p l) rest.completed ∙ keep-append (arrived z 0 marks a b && i) p (survivors z marks b ps) rest.more;
      part = rest.part;
    } in
    let behind : length marks * z < b → G = λ (c : length marks * z < b).
    let none : survivors z few a (p ∷ ps) ≡ [] = none_yet z few a p ps h.1 (omega arith) in
    let none2 : survivors z marks a (p ∷ ps) ≡ [] = none_yet z marks a p ps h.1 c in
    let all : survivors z (few ++ true ∷ []) a (p ∷ ps) ≡ added = e ∙ ap (λ l. l ++ added) none in
    record {
      more = survivors z (marks ++ true ∷ []) a (p ∷ ps);
      completed = ap (λ l. l ++ survivors z (marks ++ true ∷ []) a (p ∷ ps)) (sym none2);
      part = subst (λ l. IsPartOf l (survivors z (marks ++ true ∷ []) a (p ∷ ps))) all
          (survivors-part z (few ++ true ∷ []) (marks ++ true ∷ []) a (p ∷ ps) (among-push few marks true true among (λ x. x)));
    } in
    elim (cases_lt (length marks * z) b) [ inl c ↦ behind c | inr c ↦ before c ]

pub next_completes : (z : ℕ) (few marks : List Bool) (ps added : List (List ℕ)) → ArePackets ps → AreAmong few marks → survivors z (few ++ true ∷ []) 0 ps ≡ survivors z few 0 ps ++ added →
    CompletesMore z marks ps added
next_completes z few marks ps added h among e =
    let m : CompletesFrom z marks 0 ps added = completes_more z few marks 0 ps added h among e in
    record { more = m.more; completed = m.completed; part = m.part }
