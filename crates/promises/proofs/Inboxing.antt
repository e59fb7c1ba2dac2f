-- The lives of an inbox: what it has, or had as each life ended, is what it had as the life began, overwritten by the files
-- of the puts that were completed in it.
use Rattle.std.proofs.Common.{◌≡◌, ℕ, zero, suc, ◌<◌, Some, List, [], ◌∷◌, ◌++◌, length, refl, sym, ap, ap₂, subst, ◌∙◌, inl, inr, arith, append-nil}
use Rattle.std.specs.Prelude.{Contains}
use Rattle.std.specs.List.{flat_map}
use Rattle.std.proofs.lemmas.Grind.{flat_map-append}
use Rattle.std.proofs.lemmas.List.Elements.{Contains-append_cases, Contains-append_left, Contains-append_right}
use Rattle.cfdp_header.specs.declared.value.TransactionId.{TransactionId}
use Rattle.cfdp_header.specs.Files.{FileMap}
use Rattle.cfdp_directives.specs.declared.user.indication.Indication.{Indication}
use Rattle.cfdp_directives.specs.User.Completions.{completions}
use Rattle.cfdp_directives.specs.User.Put.{Put, inbox_after}
use Rattle.cfdp_directives.proofs.Puts.{completions-append, inbox_after-append}
use Rattle.cfdp_entity.specs.Sound.{FindsMore}
use Rattle.cfdp_station.specs.declared.config.StationConfig.{StationConfig}
use Rattle.cfdp_station.specs.Station.{StationState}
use Rattle.any_order.specs.Kept.{EndKept}
use Rattle.any_order.specs.Promise.{found}
use Rattle.any_order.proofs.Kept.{inbox_same}
use Rattle.any_order.proofs.Promise.{life_inbox}
use Rattle.any_order.proofs.Puts.{finds_more}
use Rattle.cfdp_port.specs.Calls.{WireCall}
use Rattle.cfdp_port.specs.Port.{table_of}
use Rattle.promises.specs.Promise.{FollowEachOther, IsFolded}
use Rattle.promises.specs.Serving.{Deed, InboxLife, LetsGo, Says, Served, Starts, Stops, Tells, Turns, Wishes, inboxes}
use Rattle.promises.proofs.Holding.{Held}
use Rattle.promises.proofs.Standing.{DoesDeed}
use Rattle.promises.proofs.Turning.{early_life, turn_life}

-- ---- what was indicated in all of them
abbrev pub told_in : List InboxLife → List Indication
told_in ls = flat_map (λ (l : InboxLife). l.told) ls

-- what was completed in one of them was completed in all
one_of_all : (own : ℕ) (ls : List InboxLife) (l : InboxLife) (id : TransactionId) → Contains ls l → Contains (completions own l.told) id → Contains (completions own (told_in ls)) id
one_of_all own [] l id (k, low, e) done = absurd (omega (arith, low))
one_of_all own (x ∷ ls) l id (zero, low, e) done =
    subst (λ (ids : List TransactionId). Contains ids id) (sym (completions-append own x.told (told_in ls)))
    (Contains-append_left (completions own x.told) (completions own (told_in ls)) id (subst (λ (y : InboxLife). Contains (completions own y.told) id) (sym e) done))
one_of_all own (x ∷ ls) l id (suc k, low, e) done =
    subst (λ (ids : List TransactionId). Contains ids id) (sym (completions-append own x.told (told_in ls)))
    (Contains-append_right (completions own x.told) (completions own (told_in ls)) id (one_of_all own ls l id (k, omega (arith, low), e) done))

-- what was completed in all was completed in one
pub in_one : (own : ℕ) (ls : List InboxLife) (id : TransactionId) → Contains (completions own (told_in ls)) id → (l : InboxLife) × Contains ls l × Contains (completions own l.told) id
in_one own [] id (k, low, e) = absurd (omega (arith, low))
in_one own (x ∷ ls) id done = elim (Contains-append_cases (completions own x.told) (completions own (told_in ls)) id
    (subst (λ (ids : List TransactionId). Contains ids id) (completions-append own x.told (told_in ls)) done)) [
      | inl here ↦ (x, (0, omega arith, refl), here)
      | inr there ↦
          let r = in_one own ls id there in
          let k : ℕ = r.1.0 in
          let low : k < length ls = r.1.1 in
          (r.0, (suc k, omega (arith, low), r.1.2), r.2)
    ]

-- ---- what is known
-- Each life that ended is folded, and what was indicated in them is what was indicated before.
pub record Inboxed (own : ℕ) (puts : List Put) (s : Served) : Type 0 where
  pub folded : (l : InboxLife) → Contains s.inboxes_before l → IsFolded own puts l
  pub told : told_in s.inboxes_before ≡ s.kept.told_before

one_in : {X : Type 0} (x y : X) → Contains (x ∷ []) y → y ≡ x
one_in x y (zero, low, e) = sym e
one_in x y (suc k, low, e) = absurd (omega (arith, low))

folded_more : (own : ℕ) (puts puts_then : List Put) (l : InboxLife) → FindsMore (found puts) (found puts_then) →
    ((id : TransactionId) → Contains (completions own l.told) id → (put : Put) × (found puts id ≡ Some put)) → IsFolded own puts l → IsFolded own puts_then l
folded_more own puts puts_then l finds known folded =
    folded ∙ inbox_same (found puts) (found puts_then) l.begun (completions own l.told) (λ id done. let p = known id done in p.1 ∙ sym (finds id p.0 p.1))

module _ (c t : StationConfig) (begun there : FileMap) (puts : List Put) (mine theirs : EndKept) (h : Held c t begun there puts mine theirs) where
  -- this life
  pub now_folded : IsFolded c.entity.entity puts (record { begun = begun; told = (table_of mine.station).told; files = (table_of mine.station).files })
  now_folded = subst (λ (s : StationState). (table_of s).files ≡ inbox_after (found puts) begun (completions c.entity.entity (table_of s).told)) h.of_mine.station
      (life_inbox c t begun puts h.m h.o h.kept_mine)

  -- the puts that were completed before are known
  known_before : (id : TransactionId) → Contains (completions c.entity.entity mine.told_before) id → (put : Put) × (found puts id ≡ Some put)
  known_before id done =
      let k = h.kept_mine.past.caused id (subst (λ (l : List Indication). Contains (completions c.entity.entity l) id) (sym h.of_mine.told) done) in
      (k.0, k.1.0)

-- all lives, this one last
pub all_folded : (own : ℕ) (puts : List Put) (s : Served) → Inboxed own puts s → IsFolded own puts (record { begun = s.begun; told = (table_of s.kept.station).told; files = (table_of s.kept.station).files }) →
    (l : InboxLife) → Contains (inboxes s) l → IsFolded own puts l
all_folded own puts s i now l among =
    let this : InboxLife = record { begun = s.begun; told = (table_of s.kept.station).told; files = (table_of s.kept.station).files } in
    elim (Contains-append_cases s.inboxes_before (this ∷ []) l among) [
      | inl before ↦ i.folded l before
      | inr last ↦ subst (λ (x : InboxLife). IsFolded own puts x) (sym (one_in this l last)) now
    ]

-- what was indicated in all of them is all that was indicated
pub all_told : (own : ℕ) (puts : List Put) (s : Served) → Inboxed own puts s → told_in (inboxes s) ≡ s.kept.told_before ++ (table_of s.kept.station).told
all_told own puts s i =
    let this : InboxLife = record { begun = s.begun; told = (table_of s.kept.station).told; files = (table_of s.kept.station).files } in
    flat_map-append (λ (l : InboxLife). l.told) s.inboxes_before (this ∷ []) ∙ ap₂ (λ (a b : List Indication). a ++ b) i.told (append-nil (table_of s.kept.station).told)

-- ---- if each life began with what the one before ended with
followed : (own : ℕ) (puts : List Put) (first : FileMap) (ls : List InboxLife) (l : InboxLife) → ((x : InboxLife) → Contains (ls ++ l ∷ []) x → IsFolded own puts x) → FollowEachOther first (ls ++ l ∷ []) →
    l.files ≡ inbox_after (found puts) first (completions own (told_in (ls ++ l ∷ [])))
followed own puts first [] l folded (is, none) =
    folded l (0, omega arith, refl) ∙ ap (λ (f : FileMap). inbox_after (found puts) f (completions own l.told)) is
    ∙ ap (λ (i : List Indication). inbox_after (found puts) first (completions own i)) (sym (append-nil l.told))
followed own puts first (x ∷ ls) l folded (is, rest) =
    let all : List Indication = told_in (ls ++ l ∷ []) in
    let here : x.files ≡ inbox_after (found puts) first (completions own x.told) =
    folded x (0, omega arith, refl) ∙ ap (λ (f : FileMap). inbox_after (found puts) f (completions own x.told)) is in
    followed own puts x.files ls l (λ y among. folded y (suc among.0, (let k = among.0 in let low : k < length (ls ++ l ∷ []) = among.1 in omega (arith, low)), among.2)) rest
    ∙ ap (λ (f : FileMap). inbox_after (found puts) f (completions own all)) here
    ∙ sym (inbox_after-append (found puts) first (completions own x.told) (completions own all))
    ∙ ap (inbox_after (found puts) first) (sym (completions-append own x.told all))

pub inbox_followed : (own : ℕ) (puts : List Put) (first : FileMap) (s : Served) → Inboxed own puts s → ((l : InboxLife) → Contains (inboxes s) l → IsFolded own puts l) → FollowEachOther first (inboxes s) →
    (table_of s.kept.station).files ≡ inbox_after (found puts) first (completions own (s.kept.told_before ++ (table_of s.kept.station).told))
inbox_followed own puts first s i folded follow =
    let this : InboxLife = record { begun = s.begun; told = (table_of s.kept.station).told; files = (table_of s.kept.station).files } in
    followed own puts first s.inboxes_before this folded follow ∙ ap (λ (l : List Indication). inbox_after (found puts) first (completions own l)) (all_told own puts s i)

-- ---- what is done
-- the lives before stay
pub inboxed_on : (c t : StationConfig) (begun there : FileMap) (theirs : EndKept) (old new : Served) (puts puts_then added : List Put) → puts_then ≡ puts ++ added → new.inboxes_before ≡ old.inboxes_before →
    new.kept.told_before ≡ old.kept.told_before → Held c t begun there puts old.kept theirs → Inboxed c.entity.entity puts old → Inboxed c.entity.entity puts_then new
inboxed_on c t begun there theirs old new puts puts_then added more same told h i = record {
  folded = λ l among.
      let was : Contains old.inboxes_before l = subst (λ (ls : List InboxLife). Contains ls l) same among in
      let finds : FindsMore (found puts) (found puts_then) = subst (λ (ps : List Put). FindsMore (found puts) (found ps)) (sym more) (finds_more puts added) in
      folded_more c.entity.entity puts puts_then l finds
      (λ id done. known_before c t begun there puts old.kept theirs h id
      (subst (λ (is : List Indication). Contains (completions c.entity.entity is) id) i.told (one_of_all c.entity.entity old.inboxes_before l id was done)))
      (i.folded l was);
  told = ap told_in same ∙ i.told ∙ sym told;
}

pub deed_inboxed : {W : Type 0} (Steps : W → WireCall → W → Type 0) (deed : Deed) (c t : StationConfig) (there : FileMap) (theirs : EndKept) (old new : Served) (puts puts_then : List Put) →
    DoesDeed Steps deed c theirs old new puts puts_then → Held c t old.begun there puts old.kept theirs → Inboxed c.entity.entity puts old → Inboxed c.entity.entity puts_then new
deed_inboxed Steps (Wishes wish reply) c t there theirs old new puts puts_then (station, added, does, same, more) h i =
    inboxed_on c t old.begun there theirs old new puts puts_then added more (ap (λ (s : Served). s.inboxes_before) same) (ap (λ (s : Served). s.kept.told_before) same) h i
deed_inboxed Steps (Says call) c t there theirs old new puts puts_then (is, same, more) h i =
    inboxed_on c t old.begun there theirs old new puts puts_then [] (more ∙ sym (append-nil puts)) (ap (λ (s : Served). s.inboxes_before) same) (ap (λ (s : Served). s.kept.told_before) same) h i
deed_inboxed Steps Tells c t there theirs old new puts puts_then (same, more) h i =
    inboxed_on c t old.begun there theirs old new puts puts_then [] (more ∙ sym (append-nil puts)) (ap (λ (s : Served). s.inboxes_before) same) (ap (λ (s : Served). s.kept.told_before) same) h i
deed_inboxed Steps LetsGo c t there theirs old new puts puts_then (station, go, same, more) h i =
    inboxed_on c t old.begun there theirs old new puts puts_then [] (more ∙ sym (append-nil puts)) (ap (λ (s : Served). s.inboxes_before) same) (ap (λ (s : Served). s.kept.told_before) same) h i
deed_inboxed Steps Turns c t there theirs old new puts puts_then (turn, same, more) h i =
    inboxed_on c t old.begun there theirs old new puts puts_then [] (more ∙ sym (append-nil puts)) (ap (λ (s : Served). s.inboxes_before) same)
    (turn_life Steps c.receives theirs old.kept new.kept turn).told h i
deed_inboxed Steps Stops c t there theirs old new puts puts_then (turn, same, more) h i =
    inboxed_on c t old.begun there theirs old new puts puts_then [] (more ∙ sym (append-nil puts)) (ap (λ (s : Served). s.inboxes_before) same)
    (early_life Steps c.receives theirs old.kept new.kept turn).told h i
deed_inboxed Steps (Starts counted number) c t there theirs old new puts puts_then (anew, more) h i =
    subst (λ (ps : List Put). Inboxed c.entity.entity ps new) (sym more) (record {
      folded = λ l among.
          all_folded c.entity.entity puts old i (now_folded c t old.begun there puts old.kept theirs h) l (subst (λ (ls : List InboxLife). Contains ls l) anew.inboxes_before among);
      told = ap told_in anew.inboxes_before ∙ all_told c.entity.entity puts old i ∙ ap (λ (k : EndKept). k.told_before) (sym anew.kept);
    })
