-- Slots of transactions, of which one changes, one is added, or some are dropped.
use Rattle.std.proofs.Common.{◌≡◌, ℕ, zero, suc, ◌+◌, ◌≤◌, ◌<◌, Bool, true, false, cond, not, List, [], ◌∷◌, ◌++◌, length, set, position, Option, Some, None, true≢false, refl, sym, ap, subst, ◌∙◌, arith}
use Rattle.std.specs.Prelude.{nat_lt, slice_get, if◌then◌else◌}
use Rattle.std.specs.List.{position_or_len}
use Rattle.std.specs.Option.{option_or, option_map}
use Rattle.cfdp_header.specs.declared.value.TransactionId.{TransactionId}
use Rattle.cfdp_header.specs.Ids.{same_id}
use Rattle.cfdp_header.proofs.Ids.{same_id-is, same_id-itself}
use Rattle.transfer_journal.specs.declared.kept.KeptTransfer.{KeptTransfer}
use Rattle.transfer_journal.specs.Says.{Known}
use Rattle.transfer_journal.specs.Survey.{slot_of, with_none}

apart : (k x : TransactionId) → same_id k x ≡ false → k ≡ x → ⊥
apart k x isnt is = true≢false (sym (same_id-itself k) ∙ (ap (same_id k) is ∙ isnt))

-- a slot more, for a transaction that had none
abbrev pub slot_more : TransactionId → TransactionId → Option KeptTransfer → Known → Known
slot_more id k slot known = option_or known (if same_id id k then Some slot else None)

pub slot_of-push : (id k : TransactionId) (slot : Option KeptTransfer) (ks : List TransactionId) (slots : List (Option KeptTransfer)) → length slots ≡ length ks → slot_of id (ks ++ k ∷ []) (slots ++ slot ∷ []) ≡ slot_more id k slot (slot_of id ks slots)
slot_of-push id k slot [] [] e = refl
slot_of-push id k slot [] (s ∷ ss) e = absurd (omega (arith, e))
slot_of-push id k slot (x ∷ ks) [] e = absurd (omega (arith, e))
slot_of-push id k slot (x ∷ ks) (s ∷ ss) e =
    let rest : slot_of id (ks ++ k ∷ []) (ss ++ slot ∷ []) ≡ slot_more id k slot (slot_of id ks ss) = slot_of-push id k slot ks ss (omega (arith, e)) in
    elim (same_id id x) as (λ b. cond b (Some s) (slot_of id (ks ++ k ∷ []) (ss ++ slot ∷ [])) ≡ slot_more id k slot (cond b (Some s) (slot_of id ks ss))) [
      | true ↦ refl
      | false ↦ rest
    ]

one-more : (n : ℕ) → 1 + n ≡ suc n
one-more n = omega arith

-- the slot of one transaction changed
pub slot_of-set : (id k : TransactionId) (new : Option KeptTransfer) (ks : List TransactionId) (slots : List (Option KeptTransfer)) → length slots ≡ length ks → position_or_len (same_id k) ks < length ks → slot_of id ks (set slots (position_or_len (same_id k) ks) new) ≡ (if same_id id k then Some new else slot_of id ks slots)
slot_of-set id k new [] slots e l = absurd (omega (arith, l))
slot_of-set id k new (x ∷ ks) [] e l = absurd (omega (arith, e))
slot_of-set id k new (x ∷ ks) (s ∷ ss) e l =
    elim (same_id k x) as (λ b. same_id k x ≡ b → cond (not b) (1 + position_or_len (same_id k) ks) 0 < suc (length ks) → slot_of id (x ∷ ks) (set (s ∷ ss) (cond (not b) (1 + position_or_len (same_id k) ks) 0) new) ≡ cond (same_id id k) (Some new) (cond (same_id id x) (Some s) (slot_of id ks ss))) [
      | true ↦ λ is l.
          subst (λ (y : TransactionId). slot_of id (y ∷ ks) (new ∷ ss) ≡ cond (same_id id k) (Some new) (cond (same_id id y) (Some s) (slot_of id ks ss))) (same_id-is k x is)
          (elim (same_id id k) as (λ b. cond b (Some new) (slot_of id ks ss) ≡ cond b (Some new) (cond b (Some s) (slot_of id ks ss))) [ true ↦ refl | false ↦ refl ])
      | false ↦ λ isnt l.
          let rest : slot_of id ks (set ss (position_or_len (same_id k) ks) new) ≡ cond (same_id id k) (Some new) (slot_of id ks ss) = slot_of-set id k new ks ss (omega (arith, e)) (omega (arith, l)) in
          rw one-more (elim (same_id id x) as (λ b. same_id id x ≡ b → cond b (Some s) (slot_of id ks (set ss (position_or_len (same_id k) ks) new)) ≡ cond (same_id id k) (Some new) (cond b (Some s) (slot_of id ks ss))) [
            | true ↦ λ at.
                elim (same_id id k) as (λ c. same_id id k ≡ c → Some s ≡ cond c (Some new) (Some s)) [
                  | true ↦ λ too. absurd (apart k x isnt (sym (same_id-is id k too) ∙ same_id-is id x at))
                  | false ↦ λ no. refl
                ] refl
            | false ↦ λ no. rest
          ] refl)
    ] refl l

-- what is known of a transaction is in its slot
pub slot_of-at : (k : TransactionId) (ks : List TransactionId) (slots : List (Option KeptTransfer)) → length slots ≡ length ks → position_or_len (same_id k) ks < length ks → slot_of k ks slots ≡ slice_get slots (position_or_len (same_id k) ks)
slot_of-at k [] slots e l = absurd (omega (arith, l))
slot_of-at k (x ∷ ks) [] e l = absurd (omega (arith, e))
slot_of-at k (x ∷ ks) (s ∷ ss) e l =
    elim (same_id k x) as (λ b. cond (not b) (1 + position_or_len (same_id k) ks) 0 < suc (length ks) → cond b (Some s) (slot_of k ks ss) ≡ slice_get (s ∷ ss) (cond (not b) (1 + position_or_len (same_id k) ks) 0)) [
      | true ↦ λ l. refl
      | false ↦ λ l. rw one-more (slot_of-at k ks ss (omega (arith, e)) (omega (arith, l)))
    ] l

pub slot_of-absent : (k : TransactionId) (ks : List TransactionId) (slots : List (Option KeptTransfer)) → position_or_len (same_id k) ks ≡ length ks → slot_of k ks slots ≡ None
slot_of-absent k [] slots h = refl
slot_of-absent k (x ∷ ks) [] h = refl
slot_of-absent k (x ∷ ks) (s ∷ ss) h =
    elim (same_id k x) as (λ b. cond (not b) (1 + position_or_len (same_id k) ks) 0 ≡ suc (length ks) → cond b (Some s) (slot_of k ks ss) ≡ None) [
      | true ↦ λ h. absurd (omega (arith, h))
      | false ↦ λ h. (let n : position_or_len (same_id k) ks ≡ length ks = omega (arith, h) in slot_of-absent k ks ss n)
    ] h

-- ---- some are dropped
same_both : {A : Type 0} (b : Bool) (x : A) → x ≡ cond b x x
same_both true x = refl
same_both false x = refl

some-either : (b : Bool) (s : Option KeptTransfer) → Some (cond b None s) ≡ cond b (Some None) (Some s)
some-either true s = refl
some-either false s = refl

first-either : (b : Bool) (s : Option KeptTransfer) (ss : List (Option KeptTransfer)) → cond b None s ∷ ss ≡ cond b (None ∷ ss) (s ∷ ss)
first-either true s ss = refl
first-either false s ss = refl

pub slot_of-with_none : (drops : TransactionId → Bool) (id : TransactionId) (ks : List TransactionId) (slots : List (Option KeptTransfer)) → slot_of id ks (with_none drops ks slots) ≡ (if drops id then option_map (λ slot. None) (slot_of id ks slots) else slot_of id ks slots)
slot_of-with_none drops id [] slots = same_both {A = Known} (drops id) None
slot_of-with_none drops id (k ∷ ks) [] = same_both {A = Known} (drops id) None
slot_of-with_none drops id (k ∷ ks) (s ∷ ss) =
    elim (same_id id k) as (λ b. same_id id k ≡ b → cond b (Some (cond (drops k) None s)) (slot_of id ks (with_none drops ks ss)) ≡ cond (drops id) (option_map (λ slot. None) (cond b (Some s) (slot_of id ks ss))) (cond b (Some s) (slot_of id ks ss))) [
      | true ↦ λ is.
          subst (λ (y : TransactionId). Some (cond (drops y) None s) ≡ cond (drops id) (Some None) (Some s)) (same_id-is id k is)
          (some-either (drops id) s)
      | false ↦ λ isnt. slot_of-with_none drops id ks ss
    ] refl

pub with_none-more : (drops : TransactionId → Bool) (k : TransactionId) (ks : List TransactionId) (slots : List (Option KeptTransfer)) → with_none drops (ks ++ k ∷ []) slots ≡ (if drops k then set (with_none drops ks slots) (length ks) None else with_none drops ks slots)
with_none-more drops k [] [] = same_both {A = List (Option KeptTransfer)} (drops k) []
with_none-more drops k [] (s ∷ ss) = first-either (drops k) s ss
with_none-more drops k (x ∷ ks) [] = same_both {A = List (Option KeptTransfer)} (drops k) []
with_none-more drops k (x ∷ ks) (s ∷ ss) =
    let rest : with_none drops (ks ++ k ∷ []) ss ≡ cond (drops k) (set (with_none drops ks ss) (length ks) None) (with_none drops ks ss) = with_none-more drops k ks ss in
    elim (drops k) as (λ b. with_none drops (ks ++ k ∷ []) ss ≡ cond b (set (with_none drops ks ss) (length ks) None) (with_none drops ks ss) → cond (drops x) None s ∷ with_none drops (ks ++ k ∷ []) ss ≡ cond b (cond (drops x) None s ∷ set (with_none drops ks ss) (length ks) None) (cond (drops x) None s ∷ with_none drops ks ss)) [
      | true ↦ λ h. ap (λ l. cond (drops x) None s ∷ l) h
      | false ↦ λ h. ap (λ l. cond (drops x) None s ∷ l) h
    ] rest
