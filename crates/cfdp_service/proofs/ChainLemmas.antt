-- Calls of a user, one after another, and as more come; what it heard by them.
use Rattle.std.proofs.Common.{◌≡◌, ◌∙◌, ℕ, ◌+◌, List, [], ◌∷◌, ◌++◌, Bool, false, ◌<◌, add-one, cond, get_or, ap, drop, length, map, refl, subst, sym, take}
use Rattle.std.specs.Prelude.{◌^◌, nat_lt}
use Rattle.std.proofs.lemmas.List.{map-append}
use Rattle.std.proofs.Math.Seq.{take-suc}
use Rattle.std.proofs.lemmas.Grind.{flat_map-append}
use Rattle.cfdp_directives.specs.declared.user.indication.Indication.{Indication}
use Rattle.cfdp_entity.specs.Table.{TableState}
use Rattle.cfdp_service.specs.Serving.{said_by}
use Rattle.cfdp_service.specs.Calls.{UserCall, Hears, Chain, heard_by, heard_in}

module _ {U : Type 0} (Steps : U → UserCall → U → Type 0) where
  pub chain-none : (a : U) → Chain Steps [] a a
  unfolding Chain
  chain-none a = refl

  pub chain-one : (call : UserCall) (a b : U) → Steps a call b → Chain Steps (call ∷ []) a b
  unfolding Chain
  chain-one call a b step = (b, (step, refl))

  pub chain-then : (calls more : List UserCall) (a b c : U) → Chain Steps calls a b → Chain Steps more b c → Chain Steps (calls ++ more) a c
  unfolding Chain
  chain-then [] more a b c same rest = subst (λ x. Chain Steps more x c) same rest
  chain-then (call ∷ calls) more a b c (mid, (step, first)) rest = (mid, (step, chain-then calls more mid b c first rest))

  -- one indication more is heard
  pub chain-hears : (all : List Indication) (i : ℕ) (item : Indication) (a b c : U) → i < length all → item ≡ get_or all i item
      → Chain Steps (map Hears (take i all)) a b → Steps b (Hears item) c → Chain Steps (map Hears (take (i + 1) all)) a c
  chain-hears all i item a b c low is before step =
      let longer : take (i + 1) all ≡ take i all ++ item ∷ [] = rw add-one (take-suc all i item low ∙ ap (λ x. take i all ++ x ∷ []) (sym is)) in
      subst (λ l. Chain Steps l a c) (sym (ap (map Hears) longer ∙ map-append Hears (take i all) (item ∷ [])))
      (chain-then (map Hears (take i all)) (Hears item ∷ []) a b c before (chain-one (Hears item) b c step))

  -- if 64 bits don't count what was reported, nothing is heard
  pub chain-said_none : (t : TableState) (a : U) → nat_lt (length t.told) (2 ^ 64) ≡ false → Chain Steps (map Hears (said_by t)) a a
  chain-said_none t a great = subst (λ (l : List Indication). Chain Steps (map Hears l) a a) (sym (ap (λ (b : Bool). cond b (drop t.gone t.told) []) great)) (chain-none a)

-- ---- what was heard
pub heard-hears : (all : List Indication) → heard_by (map Hears all) ≡ all
heard-hears [] = refl
heard-hears (i ∷ all) = ap (λ l. i ∷ l) (heard-hears all)

pub heard-both : (calls more : List UserCall) → heard_by (calls ++ more) ≡ heard_by calls ++ heard_by more
heard-both calls more = flat_map-append heard_in calls more
