-- What is seen of one put in two entities: PDUs and indications by transaction, counts of drops, and
-- that what spoils nothing after a step spoiled nothing before it.
use Rattle.std.proofs.Common.{◌≡◌, ◌≢◌, ℕ, ◌<◌, ◌==◌, ◌||◌, Bool, true, false, cond, List, [], ◌∷◌, ◌++◌, append-nil, length, get_or, Some, refl, sym, ap, ◌∙◌, arith, get_or-set_same, get_or-set_other, eqb-true}
use Rattle.std.specs.Prelude.{slice_set}
use Rattle.std.specs.List.{list_any}
use Rattle.std.proofs.lemmas.Bool.{eqb-false, or_parts}
use Rattle.std.proofs.lemmas.List.Folds.{list_any-append}
use Rattle.cfdp_header.specs.declared.value.TransactionId.{TransactionId}
use Rattle.cfdp_header.specs.Ids.{same_id}
use Rattle.cfdp_directives.specs.declared.user.indication.Indication.{Indication}
use Rattle.cfdp_entity.specs.declared.error.EntityDrop.{EntityDrop}
use Rattle.cfd_bits.specs.Counting.{raised}
use Rattle.cfdp_entity.specs.Entity.{EntityState, dropped}
use Rattle.cfdp_entity.specs.Errors.{drop_number}
use Rattle.cfdp_entity.specs.Table.{record_of}
use Rattle.link_sim.specs.Between.{Pdu, of_id, IsUnspoiled}
use Rattle.link_sim.specs.Clean.{HasHeardAll}
use Rattle.link_sim.specs.Exchange.{pauses}
use Rattle.link_sim.specs.Waiting.{IsUncancelled, spoils, one_tells}

pub some-same : {X : Type 0} {x y : X} → Some x ≡ Some y → x ≡ y
some-same e = cc

-- ---- what PDUs say of a transaction
pub of_id-append : (id : TransactionId) (xs ys : List Pdu) → of_id id (xs ++ ys) ≡ of_id id xs ++ of_id id ys
of_id-append id [] ys = refl
of_id-append id (x ∷ xs) ys = elim (same_id id x.0.id) as (λ b. cond b (x.1 ∷ of_id id (xs ++ ys)) (of_id id (xs ++ ys)) ≡ cond b (x.1 ∷ of_id id xs) (of_id id xs) ++ of_id id ys) [
  | true ↦ ap (λ l. x.1 ∷ l) (of_id-append id xs ys)
  | false ↦ of_id-append id xs ys
]

pub head-own : (id : TransactionId) (p : Pdu) (pdus : List Pdu) → same_id id p.0.id ≡ true → of_id id (p ∷ pdus) ≡ p.1 ∷ of_id id pdus
head-own id p pdus is = ap (λ b. cond b (p.1 ∷ of_id id pdus) (of_id id pdus)) is

pub head-other : (id : TransactionId) (p : Pdu) (pdus : List Pdu) → same_id id p.0.id ≡ false → of_id id (p ∷ pdus) ≡ of_id id pdus
head-other id p pdus differs = ap (λ b. cond b (p.1 ∷ of_id id pdus) (of_id id pdus)) differs

pub end-own : (id : TransactionId) (pdus : List Pdu) (p : Pdu) → same_id id p.0.id ≡ true → of_id id (pdus ++ p ∷ []) ≡ of_id id pdus ++ p.1 ∷ []
end-own id pdus p is = of_id-append id pdus (p ∷ []) ∙ ap (λ l. of_id id pdus ++ l) (head-own id p [] is)

pub end-other : (id : TransactionId) (pdus : List Pdu) (p : Pdu) → same_id id p.0.id ≡ false → of_id id (pdus ++ p ∷ []) ≡ of_id id pdus
end-other id pdus p differs = of_id-append id pdus (p ∷ []) ∙ ap (λ l. of_id id pdus ++ l) (head-other id p [] differs) ∙ append-nil (of_id id pdus)

-- ---- what was indicated
pub told-parts : (tells : Indication → Bool) (old gained new : List Indication) → new ≡ old ++ gained → one_tells tells new ≡ false → (one_tells tells old ≡ false) × (one_tells tells gained ≡ false)
told-parts tells old gained new is none = or_parts (list_any tells old) (list_any tells gained) (sym (list_any-append tells old gained) ∙ ap (list_any tells) (sym is) ∙ none)

pub told-more : (tells : Indication → Bool) (old gained new : List Indication) → new ≡ old ++ gained → (one_tells tells old || one_tells tells gained) ≡ one_tells tells new
told-more tells old gained new is = sym (list_any-append tells old gained) ∙ ap (list_any tells) (sym is)

-- ---- counts of drops
raised-zero : (n : ℕ) → raised n ≡ 0 → ⊥
raised-zero n h = omega (arith, h)

-- a count that is 0 was 0, and isn't the one that rose
counted-zero : (drops : List ℕ) (k n : ℕ) → k < length drops → get_or (slice_set drops k (raised (get_or drops k 0))) n 0 ≡ 0 → (n ≢ k) × (get_or drops n 0 ≡ 0)
counted-zero drops k n low none = elim (n == k) as (λ b. (n == k) ≡ b → (n ≢ k) × (get_or drops n 0 ≡ 0)) [
  | true ↦ λ e. (let is : n ≡ k = eqb-true n k e in absurd (raised-zero (get_or drops k 0)
      (sym (get_or-set_same drops k (raised (get_or drops k 0)) 0 low) ∙ ap (λ i. get_or (slice_set drops k (raised (get_or drops k 0))) i 0) (sym is) ∙ none)))
  | false ↦ λ e. (let apart : n ≢ k = eqb-false n k e in (apart, sym (get_or-set_other drops k n (raised (get_or drops k 0)) 0 apart) ∙ none))
] refl

-- an entity that dropped a PDU by a cause other than 14 hasn't heard all
pub drops-none : (d : EntityDrop) (e : EntityState) → drop_number d < length e.drops → drop_number d ≢ 14 → HasHeardAll (dropped d e) → ⊥
drops-none d e low apart heard = (counted-zero e.drops (drop_number d) (drop_number d) low (heard (drop_number d) apart)).0 refl

pub heard-before : (d : EntityDrop) (e : EntityState) → drop_number d < length e.drops → HasHeardAll (dropped d e) → HasHeardAll e
heard-before d e low heard = λ n apart. (counted-zero e.drops (drop_number d) n low (heard n apart)).1

-- ---- an entity that went on
-- what it indicated more, and that counts of drops only grow
pub record Grew (old new : EntityState) (gained : List Indication) : Type 0 where
  pub told : new.table.told ≡ old.table.told ++ gained
  pub drops : HasHeardAll new → HasHeardAll old

pub grew-none : (e : EntityState) → Grew e e []
grew-none e = record { told = sym (append-nil e.table.told); drops = λ h. h }

-- What spoiled nothing after a step spoiled nothing before it, and what was indicated meanwhile
-- didn't.
pub unspoiled-before : (lossless : Bool) (id : TransactionId) (mine mine1 theirs theirs1 : EntityState) (gained gained_there : List Indication) → Grew mine mine1 gained →
    Grew theirs theirs1 gained_there
    → (one_tells (spoils id) gained ≡ false → IsUncancelled (record_of id mine1.table.records) → IsUncancelled (record_of id mine.table.records))
    → IsUnspoiled lossless id mine1 theirs1 → IsUnspoiled lossless id mine theirs
unspoiled-before lossless id mine mine1 theirs theirs1 gained gained_there g t back u = record {
  told = (told-parts (spoils id) mine.table.told gained mine1.table.told g.told u.told).0;
  told_there = (told-parts (spoils id) theirs.table.told gained_there theirs1.table.told t.told u.told_there).0;
  uncancelled = back (told-parts (spoils id) mine.table.told gained mine1.table.told g.told u.told).1 u.uncancelled;
  heard = λ l. g.drops (u.heard l);
  heard_there = λ l. t.drops (u.heard_there l);
  awake = λ l. (told-parts (pauses id) mine.table.told gained mine1.table.told g.told (u.awake l)).0;
  awake_there = λ l. (told-parts (pauses id) theirs.table.told gained_there theirs1.table.told t.told (u.awake_there l)).0;
}
