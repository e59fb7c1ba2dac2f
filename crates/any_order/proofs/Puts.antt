-- Puts that are found by their ids, as more are accepted.
use Rattle.std.proofs.Common.{◌≡◌, suc, ◌<◌, Bool, true, false, Option, Some, List, [], ◌∷◌, ◌++◌, length, refl, sym, ap, ◌∙◌, arith}
use Rattle.std.specs.Prelude.{Contains, if◌then◌else◌, unwrap_or}
use Rattle.cfdp_header.specs.declared.value.TransactionId.{TransactionId}
use Rattle.cfdp_header.specs.Ids.{same_id}
use Rattle.cfdp_header.proofs.Ids.{same_id-is, same_id-itself}
use Rattle.cfdp_directives.specs.User.Put.{Put}
use Rattle.cfdp_entity.specs.Sound.{FindsById, FindsMore}
use Rattle.any_order.specs.Promise.{found}

if_more : (b : Bool) (p q : Put) (a c : Option Put) → (a ≡ Some q → c ≡ Some q) → (if b then Some p else a) ≡ Some q → (if b then Some p else c) ≡ Some q
if_more true p q a c more e = e
if_more false p q a c more e = more e

pub finds_more : (puts added : List Put) → FindsMore (found puts) (found (puts ++ added))
finds_more [] added id put e = absurd cc
finds_more (p ∷ puts) added id put e = if_more (same_id p.id id) p put (found puts id) (found (puts ++ added) id) (λ f. finds_more puts added id put f) e

some-is : {X : Type 0} (a b : X) → Some a ≡ Some b → a ≡ b
some-is a b e = ap (λ o. unwrap_or o a) e

by_id : (p q : Put) (id : TransactionId) (b : Bool) (a : Option Put) → same_id p.id id ≡ b → (a ≡ Some q → q.id ≡ id) → (if b then Some p else a) ≡ Some q → q.id ≡ id
by_id p q id true a is rest e = ap (λ x. x.id) (sym (some-is p q e)) ∙ same_id-is p.id id is
by_id p q id false a is rest e = rest e

pub finds_by_id : (puts : List Put) → FindsById (found puts)
finds_by_id [] id put e = absurd cc
finds_by_id (p ∷ puts) id put e = by_id p put id (same_id p.id id) (found puts id) refl (finds_by_id puts id put) e

-- one that isn't there yet is the last one, once it is put after them
pub finds_last : (puts : List Put) (p : Put) → ((q : Put) → Contains puts q → same_id q.id p.id ≡ false) → found (puts ++ p ∷ []) p.id ≡ Some p
finds_last [] p none = rw (same_id-itself p.id) refl
finds_last (q ∷ puts) p none =
    let other : same_id q.id p.id ≡ false = none q (0, omega arith, refl) in
    rw (other) (finds_last puts p (λ x c. none x (suc c.0, (let n = c.0 in let low : n < length puts = c.1 in omega arith), c.2)))
