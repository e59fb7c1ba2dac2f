-- What the calls of a station's user say: each put that was accepted is found, and what was heard
-- was indicated.
use Rattle.std.proofs.Common.{◌≡◌, ℕ, ◌<◌, Bool, false, Some, None, Ok, List, [], ◌∷◌, ◌++◌, length, map, drop, refl, sym, ap, ap₂, subst, ◌∙◌, inl, inr, arith}
use Rattle.std.specs.Prelude.{Contains, ◌^◌, nat_lt, cond, true}
use Rattle.std.proofs.lemmas.Grind.{flat_map-append}
use Rattle.std.proofs.lemmas.List.{take-append-drop}
use Rattle.std.proofs.lemmas.List.Elements.{Contains-append_cases, Contains-append_left, Contains-append_right}
use Rattle.std.specs.Prelude.{take}
use Rattle.cfdp_header.specs.declared.value.TransactionId.{TransactionId}
use Rattle.cfdp_header.specs.Files.{FileMap}
use Rattle.cfdp_header.specs.Ids.{same_id}
use Rattle.cfdp_header.proofs.Ids.{other_id}
use Rattle.cfdp_directives.specs.declared.user.indication.Indication.{Indication}
use Rattle.cfdp_directives.specs.User.Put.{Put}
use Rattle.cfdp_entity.specs.Entity.{EntityState}
use Rattle.cfdp_entity.specs.Sound.{next_put}
use Rattle.cfdp_entity.specs.Table.{TableState}
use Rattle.cfdp_station.specs.declared.config.StationConfig.{StationConfig}
use Rattle.cfdp_station.specs.Station.{StationState}
use Rattle.any_order.specs.Calls.{entity_of}
use Rattle.any_order.specs.Kept.{EndKept}
use Rattle.any_order.specs.Promise.{found}
use Rattle.any_order.proofs.Puts.{finds_last, finds_more}
use Rattle.cfdp_service.specs.Calls.{UserCall, Asks, Answered, Hears, Intends, Ends, heard_by, heard_in}
use Rattle.cfdp_service.specs.declared.wish.PutNames.{PutNames}
use Rattle.cfdp_service.specs.declared.wish.Reply.{Reply}
use Rattle.cfdp_service.specs.declared.wish.Reply.TheVariants as replies
use Rattle.cfdp_service.specs.declared.wish.Wish.{Wish}
use Rattle.cfdp_service.specs.declared.wish.Wish.TheVariants as wishes
use Rattle.cfdp_service.specs.Serving.{said_by}
use Rattle.promises.specs.Serving.{IsSaid}
use Rattle.promises.proofs.Holding.{Held}
use Rattle.promises.proofs.Standing.{Fulfils, PutsFile}
use Rattle.promises.proofs.Sounds.{looked_like}

-- ---- two calls in a row
-- the calls that a put of these names was wished by, and accepted
abbrev pub asks_put : PutNames → UserCall
asks_put names = Asks (Some (wishes.Put names))

abbrev pub accepts_put : TransactionId → UserCall
accepts_put id = Answered (replies.Put (Ok id))

-- Two calls in a row of two lists joined are both of the first one, or the last and the first, or both of the second one.
data Apart (a b : UserCall) (xs ys : List UserCall) : Type 0 where
  InFront : (before behind : List UserCall) → xs ≡ before ++ a ∷ b ∷ behind → Apart a b xs ys
  Across : (behind : List UserCall) → ys ≡ b ∷ behind → Apart a b xs ys
  Behind : (before behind : List UserCall) → ys ≡ before ++ a ∷ b ∷ behind → Apart a b xs ys

abbrev first_or : {X : Type 0} → X → List X → X
first_or x [] = x
first_or x (y ∷ ys) = y

abbrev behind_first : {X : Type 0} → List X → List X
behind_first [] = []
behind_first (y ∷ ys) = ys

head_is : {X : Type 0} (x y : X) (xs ys : List X) → ◌≡◌ {A = List X} (x ∷ xs) (y ∷ ys) → x ≡ y
head_is {X} x y xs ys e = ap (λ (l : List X). first_or x l) e

rest_is : {X : Type 0} (x y : X) (xs ys : List X) → ◌≡◌ {A = List X} (x ∷ xs) (y ∷ ys) → xs ≡ ys
rest_is {X} x y xs ys e = ap (λ (l : List X). behind_first l) e

none_is : {X : Type 0} (x : X) (xs : List X) → ◌≡◌ {A = List X} [] (x ∷ xs) → ⊥
none_is x xs e = let same : 0 ≡ length (x ∷ xs) = ap length e in absurd (omega (arith, same))

none_behind : {X : Type 0} (before : List X) (x : X) (xs : List X) → ◌≡◌ {A = List X} [] (before ++ x ∷ xs) → ⊥
none_behind [] x xs e = none_is x xs e
none_behind (y ∷ before) x xs e = none_is y (before ++ x ∷ xs) e

apart_more : (a b x : UserCall) (xs ys : List UserCall) → Apart a b xs ys → Apart a b (x ∷ xs) ys
apart_more a b x xs ys (InFront before behind e) = InFront (x ∷ before) behind (ap (λ l. x ∷ l) e)
apart_more a b x xs ys (Across behind e) = Across behind e
apart_more a b x xs ys (Behind before behind e) = Behind before behind e

apart_here : (a b x : UserCall) (xs ys behind : List UserCall) → x ≡ a → xs ++ ys ≡ b ∷ behind → Apart a b (x ∷ xs) ys
apart_here a b x [] ys behind is e = Across behind e
apart_here a b x (y ∷ xs) ys behind is e = InFront [] xs (ap₂ (λ p q. p ∷ q ∷ xs) is (head_is y b (xs ++ ys) behind e))

apart : (a b : UserCall) (xs ys before behind : List UserCall) → xs ++ ys ≡ before ++ a ∷ b ∷ behind → Apart a b xs ys
apart a b [] ys before behind e = Behind before behind e
apart a b (x ∷ xs) ys [] behind e = apart_here a b x xs ys behind (head_is x a (xs ++ ys) (b ∷ behind) e) (rest_is x a (xs ++ ys) (b ∷ behind) e)
apart a b (x ∷ xs) ys (y ∷ before) behind e = apart_more a b x xs ys (apart a b xs ys before behind (rest_is x y (xs ++ ys) (before ++ a ∷ b ∷ behind) e))

-- ---- what is known
-- A put of these names was accepted as this transaction, of this entity.
pub record IsPut (own : ℕ) (puts : List Put) (names : PutNames) (id : TransactionId) : Type 0 where
  pub put : Put
  pub is_put : found puts id ≡ Some put
  pub its_id : put.id ≡ id
  pub source : put.source ≡ names.source.items
  pub destination : put.destination ≡ names.destination.items
  pub of_own : id.source ≡ own

abbrev pub ArePut : ℕ → List Put → List UserCall → Type 0
ArePut own puts calls = (before behind : List UserCall) (names : PutNames) (id : TransactionId) → calls ≡ before ++ asks_put names ∷ accepts_put id ∷ behind → IsPut own puts names id

-- All that was heard was indicated.
abbrev pub AreTold : List UserCall → List Indication → Type 0
AreTold calls told = (i : Indication) → Contains (heard_by calls) i → Contains told i

-- no put of these calls was accepted
abbrev NoPut : List UserCall → Type 0
NoPut calls = (before behind : List UserCall) (names : PutNames) (id : TransactionId) → calls ≡ before ++ asks_put names ∷ accepts_put id ∷ behind → ⊥

-- none of these is the answer of a put
abbrev BeginsElse : List UserCall → Type 0
BeginsElse calls = (id : TransactionId) (behind : List UserCall) → calls ≡ accepts_put id ∷ behind → ⊥

pub put_more : (own : ℕ) (puts added : List Put) (names : PutNames) (id : TransactionId) → IsPut own puts names id → IsPut own (puts ++ added) names id
put_more own puts added names id p = record { put = p.put; is_put = finds_more puts added id p.put p.is_put; its_id = p.its_id; source = p.source; destination = p.destination; of_own = p.of_own }

-- more calls, none of which is about a put
more_else : (own : ℕ) (puts : List Put) (calls more : List UserCall) → ArePut own puts calls → BeginsElse more → NoPut more → ArePut own puts (calls ++ more)
more_else own puts calls more are begins none before behind names id e = by (apart (asks_put names) (accepts_put id) calls more before behind e)
  where
    by : Apart (asks_put names) (accepts_put id) calls more → IsPut own puts names id
    by (InFront before behind is) = are before behind names id is
    by (Across behind is) = absurd (begins id behind is)
    by (Behind before behind is) = absurd (none before behind names id is)

-- ---- calls that are of no put
one_call : (call : UserCall) → NoPut (call ∷ [])
one_call call [] behind names id e = none_is (accepts_put id) behind (rest_is call (asks_put names) [] (accepts_put id ∷ behind) e)
one_call call (x ∷ before) behind names id e = none_behind before (asks_put names) (accepts_put id ∷ behind) (rest_is call x [] (before ++ asks_put names ∷ accepts_put id ∷ behind) e)

said_else : (call : UserCall) → IsSaid call → BeginsElse (call ∷ [])
said_else call said id behind e = subst IsSaid (head_is call (accepts_put id) [] behind e) said

abbrev is_heard : UserCall → Bool
is_heard (Hears indication) = true
is_heard _ = false

hears_else : (all : List Indication) → BeginsElse (map Hears all)
hears_else [] id behind e = none_is (accepts_put id) behind e
hears_else (i ∷ all) id behind e = let bad : true ≡ false = ap is_heard (head_is (Hears i) (accepts_put id) (map Hears all) behind e) in absurd cc

hears_none : (all : List Indication) → NoPut (map Hears all)
hears_none [] before behind names id e = none_behind before (asks_put names) (accepts_put id ∷ behind) e
hears_none (i ∷ all) [] behind names id e = let bad : true ≡ false = ap is_heard (head_is (Hears i) (asks_put names) (map Hears all) (accepts_put id ∷ behind) e) in absurd cc
hears_none (i ∷ all) (x ∷ before) behind names id e = hears_none all before behind names id (rest_is (Hears i) x (map Hears all) (before ++ asks_put names ∷ accepts_put id ∷ behind) e)

-- ---- a wish that is done
abbrev is_answered : UserCall → Bool
is_answered (Answered reply) = true
is_answered _ = false

abbrev wish_of : Wish → UserCall → Wish
wish_of wish (Asks (Some other)) = other
wish_of wish _ = wish

abbrev reply_of : Reply → UserCall → Reply
reply_of reply (Answered other) = other
reply_of reply _ = reply

wishes_else : (wish : Wish) (reply : Reply) → BeginsElse (Asks (Some wish) ∷ Answered reply ∷ [])
wishes_else wish reply id behind e = let bad : false ≡ true = ap is_answered (head_is (Asks (Some wish)) (accepts_put id) (Answered reply ∷ []) behind e) in absurd cc

module _ (c t : StationConfig) (first there : FileMap) (puts : List Put) (mine theirs : EndKept) (h : Held c t first there puts mine theirs) where
  -- the put that is accepted now is found
  file_put : (names : PutNames) (id : TransactionId) (station : StationState) (added : List Put) → PutsFile names.source.items names.destination.items (Ok id) mine.station station added →
      IsPut c.entity.entity (puts ++ added) names id
  file_put names id station added f =
      let is : h.m.station ≡ mine.station = h.of_mine.station in
      let e : EntityState = f.looked.entity.state in
      let its : Put = next_put names.source.items names.destination.items e in
      let like = looked_like names.source.items mine.station.entity.state e f.looks.looks in
      let own : e.config.entity ≡ c.entity.entity = ap (λ x. x.entity) like.config ∙ ap (λ (s : StationState). s.entity.state.config.entity) (sym is) ∙ h.kept_mine.own in
      let next : e.next ≡ (entity_of h.m).next = like.next ∙ ap (λ (s : StationState). s.entity.state.next) (sym is) in
      let none : (q : Put) → Contains puts q → same_id q.id its.id ≡ false =
      (λ (q : Put) (among : Contains puts q).
      other_id q.id its.id (λ (same : its.id ≡ q.id).
      let source : q.id.source ≡ c.entity.entity = sym (ap (λ i. i.source) same) ∙ own in
      let low : q.id.number < (entity_of h.m).next = h.kept_mine.numbers q among source in
      let number : e.next ≡ q.id.number = ap (λ i. i.number) same in
      omega (arith, low, number, next))) in
      let accepted : id ≡ its.id = f.puts.0.is_next in
      record {
        put = its;
        is_put = ap (λ (l : List Put). found (puts ++ l) id) f.added ∙ ap (λ i. found (puts ++ its ∷ []) i) accepted ∙ finds_last puts its none;
        its_id = sym accepted;
        source = refl;
        destination = refl;
        of_own = ap (λ i. i.source) accepted ∙ own;
      }

  put_now : (names : PutNames) (id : TransactionId) (station : StationState) (added : List Put) → Fulfils (wishes.Put names) (replies.Put (Ok id)) mine.station station added →
      IsPut c.entity.entity (puts ++ added) names id
  put_now names id station added (inl f) = file_put names id station added f
  put_now names id station added (inr (is, fails, none)) = absurd cc

  pub wish_known : (wish : Wish) (reply : Reply) (station : StationState) (added : List Put) (calls : List UserCall) → Fulfils wish reply mine.station station added → ArePut c.entity.entity puts calls →
      ArePut c.entity.entity (puts ++ added) (calls ++ Asks (Some wish) ∷ Answered reply ∷ [])
  wish_known wish reply station added calls does are before behind names id e =
      by (apart (asks_put names) (accepts_put id) calls (Asks (Some wish) ∷ Answered reply ∷ []) before behind e)
    where
      last : (before behind : List UserCall) → Asks (Some wish) ∷ Answered reply ∷ [] ≡ before ++ asks_put names ∷ accepts_put id ∷ behind → IsPut c.entity.entity (puts ++ added) names id
      last [] behind e =
          let wished : wish ≡ wishes.Put names = ap (wish_of wish) (head_is (Asks (Some wish)) (asks_put names) (Answered reply ∷ []) (accepts_put id ∷ behind) e) in
          let rest = rest_is (Asks (Some wish)) (asks_put names) (Answered reply ∷ []) (accepts_put id ∷ behind) e in
          let replied : reply ≡ replies.Put (Ok id) = ap (reply_of reply) (head_is (Answered reply) (accepts_put id) [] behind rest) in
          put_now names id station added
          (subst (λ (w : Wish). Fulfils w (replies.Put (Ok id)) mine.station station added) wished (subst (λ (r : Reply). Fulfils wish r mine.station station added) replied does))
      last (x ∷ before) behind e =
          absurd (one_call (Answered reply) before behind names id (rest_is (Asks (Some wish)) x (Answered reply ∷ []) (before ++ asks_put names ∷ accepts_put id ∷ behind) e))

      by : Apart (asks_put names) (accepts_put id) calls (Asks (Some wish) ∷ Answered reply ∷ []) → IsPut c.entity.entity (puts ++ added) names id
      by (InFront before behind is) = put_more c.entity.entity puts added names id (are before behind names id is)
      by (Across behind is) = absurd (wishes_else wish reply id behind is)
      by (Behind before behind is) = last before behind is

-- ---- other calls
pub said_known : (own : ℕ) (puts : List Put) (calls : List UserCall) (call : UserCall) → IsSaid call → ArePut own puts calls → ArePut own puts (calls ++ call ∷ [])
said_known own puts calls call said are = more_else own puts calls (call ∷ []) are (said_else call said) (one_call call)

pub hears_known : (own : ℕ) (puts : List Put) (calls : List UserCall) (all : List Indication) → ArePut own puts calls → ArePut own puts (calls ++ map Hears all)
hears_known own puts calls all are = more_else own puts calls (map Hears all) are (hears_else all) (hears_none all)

pub none_known : (own : ℕ) (puts : List Put) → ArePut own puts []
none_known own puts before behind names id e = absurd (none_behind before (asks_put names) (accepts_put id ∷ behind) e)

pub all_more : (own : ℕ) (puts added : List Put) (calls : List UserCall) → ArePut own puts calls → ArePut own (puts ++ added) calls
all_more own puts added calls are before behind names id e = put_more own puts added names id (are before behind names id e)

-- ---- what was heard
heard_more : (calls more : List UserCall) (told : List Indication) → AreTold calls told → AreTold more told → AreTold (calls ++ more) told
heard_more calls more told a b i has = elim (Contains-append_cases (heard_by calls) (heard_by more) i (subst (λ (l : List Indication). Contains l i) (flat_map-append heard_in calls more) has)) [
  | inl first ↦ a i first
  | inr later ↦ b i later
]

none_heard : (told : List Indication) (i : Indication) → Contains [] i → Contains told i
none_heard told i (k, low, e) = absurd (omega (arith, low))

pub heard_grown : (calls : List UserCall) (told gained : List Indication) → AreTold calls told → AreTold calls (told ++ gained)
heard_grown calls told gained a i has = Contains-append_left told gained i (a i has)

pub wish_heard : (wish : Wish) (reply : Reply) (calls : List UserCall) (told : List Indication) → AreTold calls told → AreTold (calls ++ Asks (Some wish) ∷ Answered reply ∷ []) told
wish_heard wish reply calls told a = heard_more calls (Asks (Some wish) ∷ Answered reply ∷ []) told a (λ i has. none_heard told i has)

pub said_heard : (call : UserCall) (calls : List UserCall) (told : List Indication) → IsSaid call → AreTold calls told → AreTold (calls ++ call ∷ []) told
said_heard (Asks None) calls told said a = heard_more calls (Asks None ∷ []) told a (λ i has. none_heard told i has)
said_heard (Asks (Some wish)) calls told said a = absurd said
said_heard (Answered reply) calls told said a = absurd said
said_heard (Hears indication) calls told said a = absurd said
said_heard (Intends intent) calls told said a = heard_more calls (Intends intent ∷ []) told a (λ i has. none_heard told i has)
said_heard Ends calls told said a = heard_more calls (Ends ∷ []) told a (λ i has. none_heard told i has)

pub hears_all : (all : List Indication) → heard_by (map Hears all) ≡ all
hears_all [] = refl
hears_all (i ∷ all) = ap (λ l. i ∷ l) (hears_all all)

said_told : (t : TableState) (i : Indication) → Contains (said_by t) i → Contains t.told i
said_told t i = by (nat_lt (length t.told) (2 ^ 64))
  where
    by : (b : Bool) → Contains (cond b (drop t.gone t.told) []) i → Contains t.told i
    by true has = subst (λ (l : List Indication). Contains l i) (take-append-drop t.gone t.told) (Contains-append_right (take t.gone t.told) (drop t.gone t.told) i has)
    by false has = none_heard t.told i has

pub tells_heard : (calls : List UserCall) (before : List Indication) (t : TableState) → AreTold calls (before ++ t.told) → AreTold (calls ++ map Hears (said_by t)) (before ++ t.told)
tells_heard calls before t a =
    heard_more calls (map Hears (said_by t)) (before ++ t.told) a
    (λ i has. Contains-append_right before t.told i (said_told t i (subst (λ (l : List Indication). Contains l i) (hears_all (said_by t)) has)))
