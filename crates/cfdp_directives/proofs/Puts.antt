-- Exported: laws of what was received and indicated, as more is received and indicated.
use Rattle.std.proofs.Common.{◌≡◌, ℕ, ◌+◌, ◌<◌, Bool, cond, List, [], ◌∷◌, ◌++◌, length, Option, refl, ◌∙◌, arith, length-append}
use Rattle.std.specs.Prelude.{Any, Contains, count_by}
use Rattle.std.proofs.lemmas.List.{get_or_append_left, get_or-append-add}
use Rattle.std.proofs.lemmas.List.Sums.{sum_by-append}
use Rattle.std.proofs.lemmas.Grind.{flat_map-append}
use Rattle.cfdp_header.specs.declared.value.Header.{Header}
use Rattle.cfdp_header.specs.declared.value.TransactionId.{TransactionId}
use Rattle.cfdp_directives.specs.declared.user.indication.Indication.{Indication}
use Rattle.cfdp_directives.specs.Pdu.Content.{Content}
use Rattle.cfdp_directives.specs.Pdu.Grammar.{SpellsPdu}
use Rattle.cfdp_directives.specs.User.Put.{Put, SomePdu, IsMetadataOf, IsEofOf, Brings, HeardInFull, overwritten, inbox_after}
use Rattle.cfdp_header.specs.Files.{FileMap}
use Rattle.cfdp_directives.specs.User.Completions.{completion, completions, is_finished}

-- ---- some element

pub Any-append_left : {X : Type 0} (P : X → Type 0) (xs ys : List X) → Any P xs → Any P (xs ++ ys)
Any-append_left P xs ys a =
    let k = a.0 in
    let x = a.1 in
    let h : k < length xs = a.2 in
    (k, x, omega (arith, length-append xs ys), get_or_append_left xs ys x k h ∙ a.3, a.4)

pub Any-append_right : {X : Type 0} (P : X → Type 0) (xs ys : List X) → Any P ys → Any P (xs ++ ys)
Any-append_right P xs ys a =
    let k = a.0 in
    let x = a.1 in
    let h : k < length ys = a.2 in
    (length xs + k, x, omega (arith, length-append xs ys), get_or-append-add xs ys k x ∙ a.3, a.4)

pub Any-one : {X : Type 0} (P : X → Type 0) (x : X) → P x → Any P (x ∷ [])
Any-one P x p = (0, x, omega arith, refl, p)

-- ---- some PDU

-- more PDUs are received
pub SomePdu-append_left : (P : Header → Content → Type 0) (old new : List (List ℕ)) → SomePdu P old → SomePdu P (old ++ new)
SomePdu-append_left P old new a = Any-append_left (λ text. (h : Header) × ((v : Content) × (SpellsPdu h v text × P h v))) old new a

pub SomePdu-append_right : (P : Header → Content → Type 0) (old new : List (List ℕ)) → SomePdu P new → SomePdu P (old ++ new)
SomePdu-append_right P old new a = Any-append_right (λ text. (h : Header) × ((v : Content) × (SpellsPdu h v text × P h v))) old new a

-- the PDU received last
pub SomePdu-last : (P : Header → Content → Type 0) (old : List (List ℕ)) (text : List ℕ) (h : Header) (v : Content) → SpellsPdu h v text → P h v → SomePdu P (old ++ text ∷ [])
SomePdu-last P old text h v s p = SomePdu-append_right P old (text ∷ []) (Any-one (λ text. (h : Header) × ((v : Content) × (SpellsPdu h v text × P h v))) text (h, (v, (s, p))))

-- what was received in full stays so
pub HeardInFull-append : (put : Put) (old new : List (List ℕ)) → HeardInFull put old → HeardInFull put (old ++ new)
HeardInFull-append put old new heard = record {
  metadata = SomePdu-append_left (IsMetadataOf put) old new heard.metadata;
  ending = SomePdu-append_left (IsEofOf put) old new heard.ending;
  file = λ n h. SomePdu-append_left (Brings put n) old new (heard.file n h);
}

-- ---- completions

pub completions-append : (own : ℕ) (old new : List Indication) → completions own (old ++ new) ≡ completions own old ++ completions own new
completions-append own old new = flat_map-append (completion own) old new

pub count_by-append : {X : Type 0} (p : X → Bool) (xs ys : List X) → count_by p (xs ++ ys) ≡ count_by p xs + count_by p ys
count_by-append p xs ys = sum_by-append (λ x. cond (p x) 1 0) xs ys

-- how often a transaction was indicated finished
pub finished-append : (id : TransactionId) (old new : List Indication) → count_by (is_finished id) (old ++ new) ≡ count_by (is_finished id) old + count_by (is_finished id) new
finished-append id old new = count_by-append (is_finished id) old new

pub finished-last : (id : TransactionId) (old : List Indication) (told : Indication) → count_by (is_finished id) (old ++ told ∷ []) ≡ count_by (is_finished id) old + cond (is_finished id told) 1 0
finished-last id old told = finished-append id old (told ∷ []) ∙ omega arith

pub Contains-append_left : {X : Type 0} (xs ys : List X) (x : X) → Contains xs x → Contains (xs ++ ys) x
Contains-append_left xs ys x a =
    let k = a.0 in
    let h : k < length xs = a.1 in
    (k, omega (arith, length-append xs ys), get_or_append_left xs ys x k h ∙ a.2)

pub Contains-append_right : {X : Type 0} (xs ys : List X) (x : X) → Contains ys x → Contains (xs ++ ys) x
Contains-append_right xs ys x a =
    let k = a.0 in
    let h : k < length ys = a.1 in
    (length xs + k, omega (arith, length-append xs ys), get_or-append-add xs ys k x ∙ a.2)

-- ---- the inbox

pub inbox_after-append : (put_of : TransactionId → Option Put) (first : FileMap) (old new : List TransactionId) → inbox_after put_of first (old ++ new)
    ≡ inbox_after put_of (inbox_after put_of first old) new
inbox_after-append put_of first [] new = refl
inbox_after-append put_of first (id ∷ old) new = inbox_after-append put_of (overwritten first (put_of id)) old new
