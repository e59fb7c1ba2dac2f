-- What was right stays so.
use Rattle.std.proofs.Common.{◌≡◌, List, [], ◌∷◌, ◌++◌, ℕ, inl, inr, ap, subst, sym, ◌∙◌, append_assoc}
use Rattle.std.proofs.lemmas.List.{append-nil}
use Rattle.std.proofs.lemmas.List.Elements.{Contains-append_left, filter_map-append}
use Rattle.std.specs.List.{cons_option}
use Rattle.std.specs.Prelude.{Contains, Option, Some, None, IfSome, option_to_list, Bool, true, false, if◌then◌else◌}
use Rattle.cfdp_spool.specs.declared.folder_spool.queue.Staying.{Staying}
use Rattle.cfdp_spool.specs.declared.folder_spool.place.Place.TheVariants.{Spool, Leaving, Left}
use Rattle.cfdp_spool.specs.declared.folder_spool.place.Way.{Way}
use Rattle.cfdp_spool.specs.declared.folder_spool.notes.Told.{Told}
use Rattle.cfdp_spool.specs.declared.folder_spool.notes.Done.{Done}
use Rattle.cfdp_spool.specs.declared.folder_spool.notes.Done.TheVariants.{Saw, Free, Stands, Moved, Removed, Refused}
use Rattle.cfdp_spool.specs.Leaving.{AreTold, IsRight, IsTold, May, MightBe, Shows, SpoolState, ToldToLeave, name_if, names_told, noted}

-- one thing more was done
might-more : (s : SpoolState) (es : List Done) (e : Done) → MightBe s es → May (record s { done = s.done ++ es }) e → MightBe s (es ++ e ∷ [])
might-more s [] e was may = (subst (λ (d : List Done). May (record s { done = d }) e) (append-nil s.done) may, tt)
might-more s (x ∷ es) e was may = (
  was.0,
  might-more (noted x s) es e was.1 (subst (λ (d : List Done). May (record s { done = d }) e) (sym (append_assoc s.done (x ∷ []) es)) may),
)

pub right-noted : (s : SpoolState) (e : Done) → IsRight s → May s e → IsRight (noted e s)
right-noted s e was may = might-more (record s { done = [] }) s.done e was may

-- one file more must leave
abbrev more : Told → SpoolState → SpoolState
more t s = record s { told = s.told ++ t ∷ [] }

shows-told : (s : SpoolState) (t : Told) (name : List ℕ) (way : Way) → Shows s name way → Shows (more t s) name way
shows-told s t name way shows = record {
  stamp = shows.stamp;
  found = shows.found;
  told = Contains-append_left s.told (t ∷ []) _ shows.told;
  same = shows.same;
  last = shows.last;
}

may-told : (s : SpoolState) (t : Told) (e : Done) → May s e → May (more t s) e
may-told s t (Saw name place found) may = tt
may-told s t (Free name) may = tt
may-told s t (Stands name) may = tt
may-told s t (Refused name) may = tt
may-told s t (Moved name Spool Leaving) may = (may.0, may.1, Contains-append_left s.told (t ∷ []) _ may.2, may.3)
may-told s t (Moved name Spool Spool) may = absurd may
may-told s t (Moved name Spool (Left way)) may = absurd may
may-told s t (Moved name Leaving Spool) may = may
may-told s t (Moved name Leaving Leaving) may = absurd may
may-told s t (Moved name Leaving (Left way)) may = shows-told s t name way may
may-told s t (Moved name (Left from) to) may = absurd may
may-told s t (Removed name) may = elim may [
  | inl last ↦ inl last
  | inr sent ↦ inr (sent.0, shows-told s t name _ sent.1)
]

might-told : (s : SpoolState) (t : Told) (es : List Done) → MightBe s es → MightBe (more t s) es
might-told s t [] was = tt
might-told s t (x ∷ es) was = (may-told s t x was.0, might-told (noted x s) t es was.1)

pub right-told : (s : SpoolState) (t : Told) → IsRight s → IsRight (more t s)
right-told s t was = might-told (record s { done = [] }) t s.done was

-- ---- those that the system refused to move

abbrev told_of : Staying → Told
told_of x = record { name = x.name.items; way = x.way; stamp = Some x.stamp }

-- one more stays
are_told-push : (told : List Told) (xs : List Staying) (x : Staying) → AreTold told xs → Contains told (told_of x) → AreTold told (xs ++ x ∷ [])
are_told-push told [] x were is = (is, tt)
are_told-push told (y ∷ ys) x were is = (were.0, are_told-push told ys x were.1 is)

pushed : (b : Bool) (told : List Told) (xs : List Staying) (x : Staying) → AreTold told xs → Contains told (told_of x)
    → AreTold told (if b then xs ++ x ∷ [] else xs)
pushed true told xs x were is = are_told-push told xs x were is
pushed false told xs x were is = were

-- one more stays, if there is memory for it
pub are_told-stays : (s t : SpoolState) → s ≡ t → (name : List ℕ) (x : Staying) → x.name.items ≡ name → (b : Bool) (xs ys : List Staying)
    → ys ≡ (if b then xs ++ x ∷ [] else xs) → AreTold s.told xs → IsTold t name x.way x.stamp → AreTold s.told ys
are_told-stays s t same name x named b xs ys push were is =
    let named_so = subst (λ (n : List ℕ). Contains t.told (record { name = n; way = x.way; stamp = Some x.stamp })) (sym named) is in
    let told = subst (λ (v : SpoolState). Contains v.told (told_of x)) (sym same) named_so in
    subst (AreTold s.told) (sym push) (pushed b s.told xs x were told)

-- the first is taken
pub are_told-pop : (told : List Told) (xs ys : List Staying) (r : Option Staying) → xs ≡ option_to_list r ++ ys → AreTold told xs
    → AreTold told ys × IfSome r (λ x. Contains told (told_of x))
are_told-pop told xs ys None same were = (subst (AreTold told) same were, tt)
are_told-pop told xs ys (Some x) same were = (let w : AreTold told (x ∷ ys) = subst (AreTold told) same were in (w.1, w.0))

-- one file more must leave
pub are_told-more : (told : List Told) (t : Told) (xs : List Staying) → AreTold told xs → AreTold (told ++ t ∷ []) xs
are_told-more told t [] were = tt
are_told-more told t (x ∷ xs) were = (Contains-append_left told (t ∷ []) _ were.0, are_told-more told t xs were.1)

-- ---- the names of those that must leave

pub names-same : (way other : Way) (s new : SpoolState) (name : List ℕ) → name_if way other name ≡ None → ToldToLeave name other s new
    → names_told way new.told ≡ names_told way s.told
names-same way other s new name none told =
    let t : Told = record { name = name; way = other; stamp = told.stamp } in
    ap (λ (v : SpoolState). names_told way v.told) told.now ∙ filter_map-append (λ (u : Told). name_if way u.way u.name) s.told (t ∷ [])
    ∙ ap (λ (o : Option (List ℕ)). names_told way s.told ++ cons_option o []) none ∙ append-nil (names_told way s.told)

pub names-more : (way : Way) (s new : SpoolState) (name : List ℕ) → name_if way way name ≡ Some name → ToldToLeave name way s new
    → names_told way new.told ≡ names_told way s.told ++ name ∷ []
names-more way s new name some told =
    let t : Told = record { name = name; way = way; stamp = told.stamp } in
    ap (λ (v : SpoolState). names_told way v.told) told.now ∙ filter_map-append (λ (u : Told). name_if way u.way u.name) s.told (t ∷ [])
    ∙ ap (λ (o : Option (List ℕ)). names_told way s.told ++ cons_option o []) some
