-- The parts of a text, and its words.
use Rattle.std.proofs.Common.{◌≡◌, ◌≢◌, ◌⊎◌, ◌<◌, ◌≤◌, ◌&&◌, not, inl, inr, ℕ, ◌==◌, Bool, true, false, List, [], ◌∷◌, ◌++◌, length, refl, sym, ◌∙◌, ap, Option, Some, None, eqb-true, eq-eqb, ⊎_elim, subst, arith, if◌then◌else◌}
use Rattle.std.specs.Prelude.{MatchOption, is_some}
use Rattle.std.specs.Option.{option_map_or}
use Rattle.std.specs.List.{All, join_with_byte}
use Rattle.std.proofs.lemmas.List.Elements.{All-head, All-tail, All-nil, All-cons}
use Rattle.std.proofs.lemmas.Bool.{ne_eqb}
use Rattle.std.specs.Char.{is_digit}
use Rattle.cfdp_header.specs.declared.value.TransactionId.{TransactionId}
use Rattle.cfdp_report.specs.Numbers.{number_of}
use Rattle.cfdp_report.specs.Words.{onto_first, parts, next_word, nothing_of, text_of}
use Rattle.cfdp_report.specs.Meaning.{both, id_of_parts}
use Rattle.cfdp_report.proofs.Numerals.{by_test, all_digits, number-none, digits-pass}

-- ---- a text is cut after its first part

parts-cut : (separator : ℕ) (first rest : List ℕ) → All (λ octet. octet ≢ separator) first → parts separator (first ++ separator ∷ rest) ≡ first ∷ parts separator rest
unfolding parts onto_first
parts-cut separator [] rest none = rw (eq-eqb separator separator refl) refl
parts-cut separator (octet ∷ first) rest none =
    let more = parts-cut separator first rest (All-tail (λ x. x ≢ separator) octet first none) in
    let other : (octet == separator) ≡ false = ne_eqb octet separator (All-head (λ x. x ≢ separator) octet first none) in
    rw (other, more) refl

parts-whole : (separator : ℕ) (text : List ℕ) → All (λ octet. octet ≢ separator) text → parts separator text ≡ text ∷ []
unfolding parts onto_first
parts-whole separator [] none = refl
parts-whole separator (octet ∷ text) none =
    let more = parts-whole separator text (All-tail (λ x. x ≢ separator) octet text none) in
    let other : (octet == separator) ≡ false = ne_eqb octet separator (All-head (λ x. x ≢ separator) octet text none) in
    rw (other, more) refl

-- what is cut off, and what is after it, by their octets
pub parts-are : (separator : ℕ) (text first : List ℕ) (behind : Option (List ℕ)) → All (λ octet. octet ≢ separator) first
    → MatchOption behind (first ≡ text) (λ rest. text ≡ first ++ separator ∷ rest) → parts separator text ≡ first ∷ option_map_or (parts separator) behind []
parts-are separator text first None none whole = rw (← whole) (parts-whole separator first none)
parts-are separator text first (Some rest) none cut = rw cut (parts-cut separator first rest none)

-- ---- a word is taken

pub next-some : (word : List ℕ) (rest : List (List ℕ)) → 0 < length word → next_word (word ∷ rest) ≡ Some (word, rest)
next-some [] rest some = absurd (omega (arith, some))
next-some (octet ∷ word) rest some = refl

pub next-none : (word : List ℕ) (rest : List (List ℕ)) → length word ≡ 0 → next_word (word ∷ rest) ≡ None
next-none [] rest none = refl
next-none (octet ∷ word) rest none = absurd (omega (arith, none))

-- ---- the words, joined again, are the line

onto-some : (octet : ℕ) (ps : List (List ℕ)) → onto_first octet ps ≡ [] → ⊥
unfolding onto_first
onto-some octet [] none = absurd cc
onto-some octet (p ∷ ps) none = absurd cc

parts-some : (separator : ℕ) (text : List ℕ) → parts separator text ≡ [] → ⊥
unfolding parts
parts-some separator [] none = absurd cc
parts-some separator (octet ∷ text) none =
    by_test (octet == separator) (λ b. (if b then [] ∷ parts separator text else onto_first octet (parts separator text)) ≡ [] → ⊥)
    (λ _ empty. absurd cc) (λ _ empty. onto-some octet (parts separator text) empty) none

join-onto : (separator octet : ℕ) (ps : List (List ℕ)) → (ps ≡ [] → ⊥) → join_with_byte separator (onto_first octet ps) ≡ octet ∷ join_with_byte separator ps
unfolding onto_first
join-onto separator octet [] some = absurd (some refl)
join-onto separator octet (p ∷ []) some = refl
join-onto separator octet (p ∷ q ∷ ps) some = refl

join-cut : (separator : ℕ) (ps : List (List ℕ)) → (ps ≡ [] → ⊥) → join_with_byte separator ([] ∷ ps) ≡ separator ∷ join_with_byte separator ps
join-cut separator [] some = absurd (some refl)
join-cut separator (q ∷ ps) some = refl

pub join-parts : (separator : ℕ) (text : List ℕ) → join_with_byte separator (parts separator text) ≡ text
unfolding parts
join-parts separator [] = refl
join-parts separator (octet ∷ text) =
    let more = join-parts separator text in
    let some = parts-some separator text in
    by_test (octet == separator) (λ b. join_with_byte separator (if b then [] ∷ parts separator text else onto_first octet (parts separator text)) ≡ octet ∷ text)
    (λ same. join-cut separator (parts separator text) some ∙ ap (λ l. separator ∷ l) more ∙ ap (λ o. o ∷ text) (sym (eqb-true octet separator same)))
    (λ _. join-onto separator octet (parts separator text) some ∙ ap (λ l. octet ∷ l) more)

-- ---- what is left

nothing-some : (ps : List (List ℕ)) → (ps ≡ [] → ⊥) → nothing_of ps ≡ None
nothing-some [] some = absurd (some refl)
nothing-some (p ∷ ps) some = refl

pub nothing-parts : (text : List ℕ) → nothing_of (parts 32 text) ≡ None
nothing-parts text = nothing-some (parts 32 text) (parts-some 32 text)

pub none-left : {A : Type 0} (f : A → List ℕ) (r : Option A) (b : Bool) → is_some r ≡ not b → b ≡ is_some (nothing_of (option_map_or (λ x. parts 32 (f x)) r []))
none-left f None true is = refl
none-left f None false is = absurd cc
none-left f (Some x) true is = absurd cc
none-left f (Some x) false is = rw (nothing-parts (f x)) refl

pub text-some : (text : List ℕ) → 0 < length text → text_of (parts 32 text) ≡ Some text
text-some [] some = absurd (omega (arith, some))
text-some (octet ∷ text) some = rw (join-parts 32 (octet ∷ text)) refl

pub text-none : (text : List ℕ) → length text ≡ 0 → text_of (parts 32 text) ≡ None
text-none [] none = rw (join-parts 32 []) refl
text-none (octet ∷ text) none = absurd (omega (arith, none))

-- ---- two numbers with a colon between

no_colon : (w : List ℕ) → all_digits 10 w ≡ true → All (λ octet. octet ≢ 58) w
no_colon [] pass = All-nil (λ x. x ≢ 58)
no_colon (octet ∷ w) pass =
    by_test (is_digit octet 10) (λ b. (b && all_digits 10 w) ≡ true → All (λ x. x ≢ 58) (octet ∷ w))
    (λ digit rest. All-cons (λ x. x ≢ 58) octet w (λ colon. absurd (let P : ℕ → Type 0 = λ o. is_digit o 10 ≡ true in let t : false ≡ true = subst P colon digit in cc)) (no_colon w rest))
    (λ _ none. absurd cc) pass

some-length : (ps : List (List ℕ)) → (ps ≡ [] → ⊥) → 1 ≤ length ps
some-length [] some = absurd (some refl)
some-length (p ∷ ps) some = omega arith

onto-length : (octet : ℕ) (ps : List (List ℕ)) → 2 ≤ length ps → 2 ≤ length (onto_first octet ps)
unfolding onto_first
onto-length octet [] many = absurd (omega (arith, many))
onto-length octet (p ∷ ps) many = omega (arith, many)

-- a text with a separator has two parts at least
part-counts : (separator : ℕ) (text : List ℕ) → (parts separator text ≡ text ∷ []) ⊎ (2 ≤ length (parts separator text))
unfolding parts onto_first
part-counts separator [] = inl refl
part-counts separator (octet ∷ text) =
    let P : Bool → Type 0 = λ b. let ps = if b then [] ∷ parts separator text else onto_first octet (parts separator text) in (ps ≡ (octet ∷ text) ∷ []) ⊎ (2 ≤ length ps) in
    let some : 1 ≤ length (parts separator text) = some-length (parts separator text) (parts-some separator text) in
    by_test (octet == separator) P
    (λ _. inr (omega (arith, some)))
    (λ _. ⊎_elim (λ one. inl (ap (λ ps. onto_first octet ps) one)) (λ many. inr (onto-length octet (parts separator text) many)) (part-counts separator text))

id-none : (source : List ℕ) (ps : List (List ℕ)) → 2 ≤ length ps → id_of_parts (source ∷ ps) ≡ None
id-none source [] many = absurd (omega (arith, many))
id-none source (p ∷ []) many = absurd (omega (arith, many))
id-none source (p ∷ q ∷ ps) many = refl

both-none : (a : Option ℕ) → both {C = TransactionId} (λ s (n : ℕ). record { source = s; number = n }) a None ≡ None
both-none None = refl
both-none (Some x) = refl

id_cut : (source number : List ℕ) → id_of_parts (source ∷ parts 58 number) ≡ both {C = TransactionId} (λ s n. record { source = s; number = n }) (number_of source) (number_of number)
id_cut source number =
    ⊎_elim (λ one. rw one refl)
    (λ many. let none : number_of number ≡ None = number-none number (λ numeral.
    let one : length (parts 58 number) ≡ 1 = ap length (parts-whole 58 number (no_colon number (digits-pass 10 number numeral.0.1))) in
    absurd (omega (arith, one, many))) in
    id-none source (parts 58 number) many ∙ rw none (sym (both-none (number_of source))))
    (part-counts 58 number)

pub id_numbers : (source number : List ℕ) (a b : Option ℕ) → a ≡ number_of source → b ≡ number_of number
    → id_of_parts (source ∷ parts 58 number) ≡ both {C = TransactionId} (λ s n. record { source = s; number = n }) a b
id_numbers source number a b of_source of_number = rw (of_source, of_number) (id_cut source number)
