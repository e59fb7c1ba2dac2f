-- What the counts of the frames show if few in a row are struck.
use Rattle.std.proofs.Common.{◌≡◌, ℕ, zero, suc, ◌+◌, ◌-◌, ◌%◌, ◌==◌, ◌<◌, ◌≤◌, Bool, true, false, List, [], ◌∷◌, length, get_or, Option, Some, None, refl, sym, subst, ◌∙◌, inl, inr, arith}
use Rattle.std.proofs.lemmas.Bool.{cases_lt, cases_Bool, eqb-true}
use Rattle.std.specs.Option.{IfSome}
use Rattle.aos_frame.specs.Counts.{frame_counts, with_cycle, follows, CountsFrame}
use Rattle.aos_frame.specs.declared.count.SeenCount.{SeenCount}
use Rattle.mpdu.proofs.Following.{held_follows}
use Rattle.mpdu.specs.Reading.{held_at}
use Rattle.mpdu.specs.Carrying.{AreFewInARow}
use Rattle.mpdu.specs.Draining.{IsCounted}

pub never : (n : ℕ) → (suc n == 0) ≡ false
never n = elim (cases_Bool (suc n == 0)) [ inl e ↦ (let same : suc n ≡ 0 = eqb-true (suc n) 0 e in absurd (omega arith)) | inr e ↦ e ]

-- a mark of the list, whatever stands for the marks past its end
pub mark-inside : (bs : List Bool) (i : ℕ) (d e : Bool) → i < length bs → get_or bs i d ≡ get_or bs i e
mark-inside [] i d e h = absurd (omega arith)
mark-inside (b ∷ bs) zero d e h = refl
mark-inside (b ∷ bs) (suc i) d e h = mark-inside bs i d e (omega arith)

pub counts_none : (struck : List Bool) → IsCounted struck 0 0 0 None []
counts_none struck = record { counted = refl; within = omega arith; run = λ k h lt. absurd (omega arith); seen = tt; unseen = λ e. refl }

seen_more : (last : Option SeenCount) (taken missed : ℕ) → IfSome last (λ l. (n : ℕ) × CountsFrame true n l × (taken ≡ n + 1 + missed)) →
    IfSome last (λ l. (n : ℕ) × CountsFrame true n l × (taken + 1 ≡ n + 1 + suc missed))
seen_more None taken missed h = tt
seen_more (Some l) taken missed (n, e, f) = (n, e, omega arith)

pub counts_struck : (struck : List Bool) (taken missed next next' : ℕ) (last : Option SeenCount) (held : List ℕ) → IsCounted struck taken missed next last held →
    get_or struck taken false ≡ true → next' ≡ (next + 1) % frame_counts → IsCounted struck (taken + 1) (suc missed) next' last held
counts_struck struck taken missed next next' last held h lost e =
    record {
      counted = omega (arith, h.counted);
      within = omega (arith, h.within);
      run = λ (k : ℕ) (le : taken + 1 ≤ k + suc missed) (lt : k < taken + 1).
          (let before : k < taken → get_or struck k false ≡ true = λ (c : k < taken). h.run k (omega arith) c in
          let here : taken ≤ k → get_or struck k false ≡ true = λ (c : taken ≤ k). (let same : taken ≡ k = omega arith in subst (λ (n : ℕ). get_or struck n false ≡ true) same lost) in
          elim (cases_lt k taken) [ inl c ↦ before c | inr c ↦ here c ]);
      seen = seen_more last taken missed h.seen;
      unseen = h.unseen;
    }

pub counts_read : (struck : List Bool) (taken missed next next' : ℕ) (last : Option SeenCount) (held held' : List ℕ) → IsCounted struck taken missed next last held →
    next' ≡ (next + 1) % frame_counts → IsCounted struck (taken + 1) 0 next' (Some (with_cycle next)) held'
counts_read struck taken missed next next' last held held' h e =
    record {
      counted = omega (arith, h.counted);
      within = omega arith;
      run = λ k le lt. absurd (omega arith);
      seen = (taken, record { count = h.counted; cycle = λ e. e }, omega arith);
      unseen = λ bad. absurd (cc);
    }

-- fewer frames than there are counts are missed
few : (struck : List Bool) (taken missed next : ℕ) (last : Option SeenCount) (held : List ℕ) → AreFewInARow struck → IsCounted struck taken missed next last held → missed < frame_counts
few struck taken missed next last held runs h =
    let some : (k : ℕ) × (taken - missed ≤ k) × (k < taken - missed + frame_counts) × (get_or struck k false ≡ false) = runs (taken - missed) in
    let k : ℕ = some.0 in
    let many : frame_counts ≤ missed → ⊥ = λ (c : frame_counts ≤ missed).
    let lost : get_or struck k false ≡ true = h.run k (omega (arith, some.1, h.within)) (omega (arith, some.2, h.within)) in
    let bad : false ≡ true = sym some.3 ∙ lost in
    absurd (cc) in
    elim (cases_lt missed frame_counts) [ inl c ↦ c | inr c ↦ absurd (many c) ]

-- What is held at the next zone, if its frame is the next count's.
pub told_right : (struck : List Bool) (taken missed next count : ℕ) (last : Option SeenCount) (held : List ℕ) → AreFewInARow struck → IsCounted struck taken missed next last held →
    count ≡ next → held_at (follows last (with_cycle count)) held ≡ held_at (missed == 0) held
told_right struck taken missed next count last held runs h e =
    (held_follows true last (with_cycle count) taken missed held (few struck taken missed next last held runs h) h.seen h.unseen (record { count = e ∙ h.counted; cycle = λ e. e })).0

get_or-past : (bs : List Bool) (i : ℕ) (d : Bool) → length bs ≤ i → get_or bs i d ≡ d
get_or-past [] i d h = refl
get_or-past (b ∷ bs) zero d h = absurd (omega arith)
get_or-past (b ∷ bs) (suc i) d h = get_or-past bs i d (omega arith)

-- The runs of a list, one mark after the other: the last `run` of the first i are struck, and each
-- start before those has a mark that isn't.
pub record AreFewBelow (struck : List Bool) (i run : ℕ) : Type 0 where
  pub few : run < frame_counts
  pub within : run ≤ i
  pub last : (k : ℕ) → i ≤ k + run → k < i → get_or struck k false ≡ true
  pub before : (j : ℕ) → j + run < i → (k : ℕ) × (j ≤ k) × (k < j + frame_counts) × (get_or struck k false ≡ false)

last_more : (struck : List Bool) (i run : ℕ) → AreFewBelow struck i run → get_or struck i false ≡ true → (k : ℕ) → i + 1 ≤ k + (run + 1) → k < i + 1 → get_or struck k false ≡ true
last_more struck i run h e k le lt =
    let same : i ≤ k → get_or struck k false ≡ true = λ (c : i ≤ k). (let eq : i ≡ k = omega arith in subst (λ (n : ℕ). get_or struck n false ≡ true) eq e) in
    let early : k < i → get_or struck k false ≡ true = λ (c : k < i). h.last k (omega arith) c in
    elim (cases_lt k i) [ inl c ↦ early c | inr c ↦ same c ]

pub few_came : (struck : List Bool) (i run : ℕ) → AreFewBelow struck i run → get_or struck i false ≡ false → AreFewBelow struck (i + 1) 0
few_came struck i run h e =
    record {
      few = omega arith;
      within = omega arith;
      last = λ k a b. absurd (omega arith);
      before = λ (j : ℕ) (a : j + 0 < i + 1).
          (let G : Type 0 = (k : ℕ) × (j ≤ k) × (k < j + frame_counts) × (get_or struck k false ≡ false) in
          let early : j + run < i → G = λ (c : j + run < i). h.before j c in
          let near : i ≤ j + run → G = λ (c : i ≤ j + run). (i, omega arith, omega (arith, h.few), e) in
          elim (cases_lt (j + run) i) [ inl c ↦ early c | inr c ↦ near c ]);
    }

pub few_all : (struck : List Bool) (run : ℕ) → AreFewBelow struck (length struck) run → AreFewInARow struck
few_all struck run h j =
    let n : ℕ = length struck in
    let G : Type 0 = (k : ℕ) × (j ≤ k) × (k < j + frame_counts) × (get_or struck k false ≡ false) in
    let early : j + run < n → G = λ (c : j + run < n). h.before j c in
    let near : n ≤ j + run → j < n → G = λ (c : n ≤ j + run) (d : j < n). (n, omega arith, omega (arith, h.few), get_or-past struck n false (omega arith)) in
    let past : n ≤ j → G = λ (c : n ≤ j). (j, omega arith, omega arith, get_or-past struck j false c) in
    elim (cases_lt (j + run) n) [ inl c ↦ early c | inr c ↦ elim (cases_lt j n) [ inl d ↦ near c d | inr d ↦ past d ] ]

pub many_lost : (struck : List Bool) (i run : ℕ) → AreFewBelow struck i run → get_or struck i false ≡ true → run + 1 ≡ frame_counts → AreFewInARow struck → ⊥
many_lost struck i run h e full few =
    let some : (k : ℕ) × (i - run ≤ k) × (k < i - run + frame_counts) × (get_or struck k false ≡ false) = few (i - run) in
    let lost : get_or struck some.0 false ≡ true = last_more struck i run h e some.0 (omega (arith, some.1, h.within)) (omega (arith, some.2, h.within)) in
    let bad : false ≡ true = sym some.3 ∙ lost in
    absurd (cc)
