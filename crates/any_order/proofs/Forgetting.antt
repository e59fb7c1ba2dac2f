-- What a station had forgotten is forgotten on a new one, source by source and range by range.
use Rattle.std.proofs.Common.{◌≡◌, ◌⊎◌, inl, inr, ℕ, ◌==◌, Bool, true, false, not, ◌&&◌, ◌||◌, ◌+◌, List, [], ◌∷◌, refl, sym, ap, ap₂, subst, ◌∙◌, arith}
use Rattle.std.specs.FinSet as set
use Rattle.std.specs.List.{list_any}
use Rattle.std.specs.Ordering.{nat_cmp, eq_by_cmp}
use Rattle.std.specs.Cmp.{nat_cmp_total, unsigned_tied}
use Rattle.std.proofs.lemmas.Bool.{eq-eqb, eqb-true, false≢true}
use Rattle.std.proofs.lemmas.Bool.Decides.{nat_tests}
use Rattle.cfdp_header.specs.declared.value.TransactionId.{TransactionId}
use Rattle.cfdp_header.proofs.Ids.{id_total}
use Rattle.cfdp_extents.specs.Offsets.{is_within, range, union_of}
use Rattle.cfdp_extents.proofs.CallerLemmas.{contains-more, contains-range}
use Rattle.cfdp_extents.specs.Forgotten.{IdSet, NumberSet, below_greatest, greatest_number, ids_in, ids_of, is_of}
use Rattle.cfdp_extents.proofs.Sets.{contains-ids, ids-none}
use Rattle.cfdp_entity.specs.Entity.{EntityState, is_forgotten}
use Rattle.cfdp_entity.specs.Restoring.{with_forgotten}
use Rattle.any_order.specs.Restoring.{ForgetsMore, ForgetsOnly}

either : (a b : Bool) → (a || b) ≡ true → (a ≡ true) ⊎ (b ≡ true)
either true b is = inl refl
either false b is = inr is

or-left : (a b : Bool) → a ≡ true → (a || b) ≡ true
or-left true b is = refl
or-left false b is = absurd (false≢true is)

or-right : (a b : Bool) → b ≡ true → (a || b) ≡ true
or-right true b is = refl
or-right false b is = is

and-both : (a b : Bool) → a ≡ true → b ≡ true → (a && b) ≡ true
and-both true b one two = two
and-both false b one two = one

or-nothing : (a : Bool) → (a || false) ≡ true → a ≡ true
or-nothing true is = refl
or-nothing false is = is

first-of : (a b : Bool) → (a && b) ≡ true → a ≡ true
first-of true b is = refl
first-of false b is = is

second-of : (a b : Bool) → (a && b) ≡ true → b ≡ true
second-of true b is = is
second-of false b is = absurd (false≢true is)

-- ---- one range
pub forgets-range : (source start end : ℕ) (old new : EntityState) → new ≡ with_forgotten source start end old → ForgetsMore old new
forgets-range source start end old new is = record {
  same = is ∙ ap (λ (f : IdSet). record old { forgotten = f }) (sym (ap (λ (e : EntityState). e.forgotten) is));
  more = λ id has.
      ap (λ (e : EntityState). is_forgotten e id) is
      ∙ (set.contains-union id_total old.forgotten (ids_in source start end) id ∙ or-left (is_forgotten old id) (set.contains (ids_in source start end) id) has);
}

abbrev number_of : ℕ → ℕ → TransactionId
number_of source n = record { source = source; number = n }

in-range : (source start end n : ℕ) → is_within start end n ≡ true → set.contains (ids_in source start end) (number_of source n) ≡ true
in-range source start end n has =
    contains-ids ((source, range start end) ∷ []) (number_of source n)
    ∙ or-left ((source == source) && set.contains (range start end) n) false
    (and-both (source == source) (set.contains (range start end) n) (eq-eqb source source refl) (contains-range start end n ∙ has))

range-forgotten : (source start end n : ℕ) (old new : EntityState) → new ≡ with_forgotten source start end old → is_within start end n ≡ true → is_forgotten new (number_of source n) ≡ true
range-forgotten source start end n old new is has =
    ap (λ (e : EntityState). is_forgotten e (number_of source n)) is
    ∙ (set.contains-union id_total old.forgotten (ids_in source start end) (number_of source n)
    ∙ or-right (is_forgotten old (number_of source n)) (set.contains (ids_in source start end) (number_of source n)) (in-range source start end n has))

range-only : (source start end : ℕ) (old new : EntityState) → new ≡ with_forgotten source start end old → (id : TransactionId) → is_forgotten new id ≡ true →
    (is_forgotten old id ≡ true) ⊎ ((id.source ≡ source) × (is_within start end id.number ≡ true))
range-only source start end old new is id has = elim (either (is_forgotten old id) (set.contains (ids_in source start end) id)
    (sym (set.contains-union id_total old.forgotten (ids_in source start end) id) ∙ (sym (ap (λ (e : EntityState). is_forgotten e id) is) ∙ has))) [
      | inl was ↦ inl was
      | inr among ↦
          let both : ((id.source == source) && set.contains (range start end) id.number) ≡ true =
          or-nothing ((id.source == source) && set.contains (range start end) id.number) (sym (contains-ids ((source, range start end) ∷ []) id) ∙ among) in
          inr (
            eqb-true id.source source (first-of (id.source == source) (set.contains (range start end) id.number) both),
            sym (contains-range start end id.number) ∙ second-of (id.source == source) (set.contains (range start end) id.number) both,
          )
    ]

-- ---- only those
pub forgets-none : (Those : TransactionId → Type 0) (e f : EntityState) → f ≡ e → ForgetsOnly Those e f
forgets-none Those e f is = subst (λ (x : EntityState). ForgetsOnly Those e x) (sym is) (record { forgets = record { same = refl; more = λ id has. has }; only = λ id has. inl has })

pub forgets-both : (a b c : EntityState) → ForgetsMore a b → ForgetsMore b c → ForgetsMore a c
forgets-both a b c one two = record {
  same = two.same ∙ ap (λ (x : EntityState). record x { forgotten = c.forgotten }) one.same;
  more = λ id is. two.more id (one.more id is);
}

pub only-both : (A B C : TransactionId → Type 0) (a b c : EntityState) → ((id : TransactionId) → A id → C id) → ((id : TransactionId) → B id → C id) → ForgetsOnly A a b → ForgetsOnly B b c → ForgetsOnly C a c
only-both A B C a b c first second one two = record {
  forgets = forgets-both a b c one.forgets two.forgets;
  only = λ id has. elim (two.only id has) [
    | inl was ↦ elim (one.only id was) [
      | inl at_first ↦ inl at_first
      | inr those ↦ inr (first id those)
    ]
    | inr those ↦ inr (second id those)
  ];
}

pub only-more : (A B : TransactionId → Type 0) (a b : EntityState) → ((id : TransactionId) → A id → B id) → ForgetsOnly A a b → ForgetsOnly B a b
only-more A B a b more one = record {
  forgets = one.forgets;
  only = λ id has. elim (one.only id has) [
    | inl was ↦ inl was
    | inr those ↦ inr (more id those)
  ];
}

-- numbers of a source
abbrev pub IsNumber : (source : ℕ) → NumberSet → TransactionId → Type 0
IsNumber source numbers id = (id.source ≡ source) × (set.contains numbers id.number ≡ true)

-- one range of them
pub range-forgets : (source : ℕ) (numbers : NumberSet) (r : ℕ × ℕ) (old new : EntityState) → new ≡ with_forgotten source r.0 r.1 old → ((n : ℕ) → is_within r.0 r.1 n ≡ true → set.contains numbers n ≡ true) →
    ForgetsOnly (IsNumber source numbers) old new
range-forgets source numbers r old new is among = record {
  forgets = forgets-range source r.0 r.1 old new is;
  only = λ id has. elim (range-only source r.0 r.1 old new is id has) [
    | inl was ↦ inl was
    | inr those ↦ inr (those.0, among id.number those.1)
  ];
}

-- one transaction
pub one-forgotten : (id : TransactionId) (end : ℕ) (old new : EntityState) → end ≡ id.number + 1 → new ≡ with_forgotten id.source id.number end old → ForgetsOnly (λ q. q ≡ id) old new
one-forgotten id end old new is_end is = record {
  forgets = forgets-range id.source id.number end old new is;
  only = λ q has. elim (range-only id.source id.number end old new is q has) [
    | inl was ↦ inl was
    | inr those ↦ inr (same_one q id those.0 (within-one id.number end q.number is_end those.1))
  ];
}
  where
    within-one : (start end n : ℕ) → end ≡ start + 1 → is_within start end n ≡ true → n ≡ start
    within-one start end n e has = grind (arith, nat_tests)

    same_one : (q id : TransactionId) → q.source ≡ id.source → q.number ≡ id.number → q ≡ id
    same_one q id one two = ap₂ (λ (a b : ℕ). record { source = a; number = b }) one two

-- ---- the ranges of a source
-- Each number is in a range that is left, or forgotten.
abbrev pub AreLeft : (source : ℕ) (numbers : NumberSet) (rest : List (ℕ × ℕ)) → EntityState → Type 0
AreLeft source numbers rest e = (n : ℕ) → set.contains numbers n ≡ true → (set.contains (union_of rest) n ≡ true) ⊎ (is_forgotten e (record { source = source; number = n }) ≡ true)

other-number : (numbers : NumberSet) (n : ℕ) → set.contains numbers greatest_number ≡ false → set.contains numbers n ≡ true → (b : Bool) → eq_by_cmp nat_cmp n greatest_number ≡ b → set.contains (below_greatest numbers) n ≡ true
other-number numbers n none has true is =
    let same : n ≡ greatest_number = eqb-true n greatest_number (sym (unsigned_tied n greatest_number) ∙ is) in
    absurd (false≢true (sym none ∙ (ap (λ (k : ℕ). set.contains numbers k) (sym same) ∙ has)))
other-number numbers n none has false is =
    set.contains-remove nat_cmp_total numbers greatest_number n ∙ (ap (λ b. not b && set.contains numbers n) is ∙ has)

pub all-left : (source : ℕ) (numbers : NumberSet) (rest : List (ℕ × ℕ)) (e : EntityState) → set.contains numbers greatest_number ≡ false → union_of rest ≡ below_greatest numbers → AreLeft source numbers rest e
all-left source numbers rest e none union n has =
    inl (ap (λ (s : NumberSet). set.contains s n) union ∙ other-number numbers n none has (eq_by_cmp nat_cmp n greatest_number) refl)

pub left-less : (source : ℕ) (numbers : NumberSet) (r : ℕ × ℕ) (rest : List (ℕ × ℕ)) (old new : EntityState) → new ≡ with_forgotten source r.0 r.1 old → AreLeft source numbers (r ∷ rest) old →
    AreLeft source numbers rest new
left-less source numbers r rest old new is left n has = elim (left n has) [
  | inl among ↦ elim (either (is_within r.0 r.1 n) (set.contains (union_of rest) n) (sym (contains-more r rest n) ∙ among)) [
    | inl here ↦ inr (range-forgotten source r.0 r.1 n old new is here)
    | inr there ↦ inl there
  ]
  | inr was ↦ inr ((forgets-range source r.0 r.1 old new is).more (number_of source n) was)
]

-- Those that are left are numbers of the source.
abbrev pub AreAmong : NumberSet → List (ℕ × ℕ) → Type 0
AreAmong numbers rest = (n : ℕ) → set.contains (union_of rest) n ≡ true → set.contains numbers n ≡ true

pub among-all : (numbers : NumberSet) (rest : List (ℕ × ℕ)) → union_of rest ≡ below_greatest numbers → AreAmong numbers rest
among-all numbers rest union n has = below (eq_by_cmp nat_cmp n greatest_number) (set.contains numbers n)
    (sym (set.contains-remove nat_cmp_total numbers greatest_number n) ∙ (sym (ap (λ (s : NumberSet). set.contains s n) union) ∙ has))
  where
    below : (a b : Bool) → (not a && b) ≡ true → b ≡ true
    below a b both = second-of (not a) b both

pub among-first : (numbers : NumberSet) (r : ℕ × ℕ) (rest : List (ℕ × ℕ)) → AreAmong numbers (r ∷ rest) → (n : ℕ) → is_within r.0 r.1 n ≡ true → set.contains numbers n ≡ true
among-first numbers r rest all n has = all n (contains-more r rest n ∙ or-left (is_within r.0 r.1 n) (set.contains (union_of rest) n) has)

pub among-rest : (numbers : NumberSet) (r : ℕ × ℕ) (rest : List (ℕ × ℕ)) → AreAmong numbers (r ∷ rest) → AreAmong numbers rest
among-rest numbers r rest all n has = all n (contains-more r rest n ∙ or-right (is_within r.0 r.1 n) (set.contains (union_of rest) n) has)

none-in : (n : ℕ) → set.contains (union_of []) n ≡ true → ⊥
unfolding union_of
none-in n has = false≢true (sym (set.contains-empty nat_cmp n) ∙ has)

pub left-none : (source : ℕ) (numbers : NumberSet) (e : EntityState) → AreLeft source numbers [] e → (n : ℕ) → set.contains numbers n ≡ true → is_forgotten e (record { source = source; number = n }) ≡ true
left-none source numbers e left n has = elim (left n has) [
  | inl among ↦ absurd (none-in n among)
  | inr was ↦ was
]

-- ---- all sources
-- Each transaction is of a source that is left, or forgotten.
abbrev pub AreStill : (killed : EntityState) (rest : List (ℕ × NumberSet)) → EntityState → Type 0
AreStill killed rest e = (id : TransactionId) → is_forgotten killed id ≡ true → (set.contains (ids_of rest) id ≡ true) ⊎ (is_forgotten e id ≡ true)

pub still-all : (killed : EntityState) (rest : List (ℕ × NumberSet)) (e : EntityState) → ids_of rest ≡ killed.forgotten → AreStill killed rest e
still-all killed rest e same id has = inl (ap (λ (s : IdSet). set.contains s id) same ∙ has)

pub still-less : (killed : EntityState) (source : ℕ) (numbers : NumberSet) (rest : List (ℕ × NumberSet)) (old new : EntityState) → ForgetsMore old new →
    ((n : ℕ) → set.contains numbers n ≡ true → is_forgotten new (record { source = source; number = n }) ≡ true) → AreStill killed ((source, numbers) ∷ rest) old → AreStill killed rest new
still-less killed source numbers rest old new more all still id has = elim (still id has) [
  | inl among ↦ elim (either (is_of id (source, numbers)) (list_any (is_of id) rest) (sym (contains-ids ((source, numbers) ∷ rest) id) ∙ among)) [
    | inl here ↦
        let same : id.source ≡ source = eqb-true id.source source (first-of (id.source == source) (set.contains numbers id.number) here) in
        inr (subst (λ (s : ℕ). is_forgotten new (record { source = s; number = id.number }) ≡ true) (sym same) (all id.number (second-of (id.source == source) (set.contains numbers id.number) here)))
    | inr there ↦ inl (contains-ids rest id ∙ there)
  ]
  | inr was ↦ inr (more.more id was)
]

pub still-none : (killed : EntityState) (e : EntityState) → AreStill killed [] e → (id : TransactionId) → is_forgotten killed id ≡ true → is_forgotten e id ≡ true
still-none killed e still id has = elim (still id has) [
  | inl among ↦ absurd (false≢true (sym (ap (λ (s : IdSet). set.contains s id) ids-none ∙ set.contains-empty _ id) ∙ among))
  | inr was ↦ was
]

-- Those that are left were forgotten.
abbrev pub WereForgotten : (killed : EntityState) → List (ℕ × NumberSet) → Type 0
WereForgotten killed rest = (id : TransactionId) → set.contains (ids_of rest) id ≡ true → is_forgotten killed id ≡ true

pub were-all : (killed : EntityState) (rest : List (ℕ × NumberSet)) → ids_of rest ≡ killed.forgotten → WereForgotten killed rest
were-all killed rest same id has = sym (ap (λ (s : IdSet). set.contains s id) same) ∙ has

pub were-first : (killed : EntityState) (source : ℕ) (numbers : NumberSet) (rest : List (ℕ × NumberSet)) → WereForgotten killed ((source, numbers) ∷ rest) → (id : TransactionId) → IsNumber source numbers id →
    is_forgotten killed id ≡ true
were-first killed source numbers rest all id is = all id
    (contains-ids ((source, numbers) ∷ rest) id
    ∙ or-left ((id.source == source) && set.contains numbers id.number) (list_any (is_of id) rest) (and-both (id.source == source) (set.contains numbers id.number) (eq-eqb id.source source is.0) is.1))

pub were-rest : (killed : EntityState) (source : ℕ) (numbers : NumberSet) (rest : List (ℕ × NumberSet)) → WereForgotten killed ((source, numbers) ∷ rest) → WereForgotten killed rest
were-rest killed source numbers rest all id has = all id
    (contains-ids ((source, numbers) ∷ rest) id
    ∙ or-right ((id.source == source) && set.contains numbers id.number) (list_any (is_of id) rest) (sym (contains-ids rest id) ∙ has))
