-- What a user heard in a life of its station is what was discarded in it.
use Rattle.std.proofs.Common.{◌≡◌, ◌∙◌, ◌+◌, ◌≤◌, Bool, true, false, List, [], ◌∷◌, ◌++◌, ap, arith, cond, drop, length, length-append, map, refl, sym, take, take_all}
use Rattle.std.specs.Prelude.{◌^◌, nat_lt}
use Rattle.std.proofs.lemmas.List.{append-nil, take-append-drop, take-append-le}
use Rattle.std.proofs.lemmas.Grind.{flat_map-append}
use Rattle.cfdp_header.specs.declared.value.TransactionId.{TransactionId}
use Rattle.cfdp_directives.specs.declared.user.indication.Indication.{Indication}
use Rattle.cfdp_entity.specs.Entity.{EntityState}
use Rattle.cfdp_entity.specs.Forgetting.{Forgets, ForgetsEach, ForgetsSome}
use Rattle.cfdp_entity.specs.Table.{TableState}
use Rattle.cfdp_port.specs.Gains.{Gains}
use Rattle.cfdp_service.specs.Calls.{UserCall, Hears, heard_by, heard_in}
use Rattle.cfdp_service.specs.Serving.{HearsGone, once_said, said_by}

heard_all : (all : List Indication) → heard_by (map Hears all) ≡ all
heard_all [] = refl
heard_all (i ∷ all) = ap (λ l. i ∷ l) (heard_all all)

pub heard_both : (calls more : List UserCall) → heard_by (calls ++ more) ≡ heard_by calls ++ heard_by more
heard_both calls more = flat_map-append heard_in calls more

-- ---- what is discarded
said_few : (t : TableState) → t.gone ≤ length t.told → (once_said t).gone ≤ length (once_said t).told
said_few t few = by (nat_lt (length t.told) (2 ^ 64))
  where
    by : (b : Bool) → (cond b (length t.told) t.gone) ≤ length t.told
    by true = omega arith
    by false = few

said_gone : (t : TableState) → take (once_said t).gone (once_said t).told ≡ take t.gone t.told ++ said_by t
said_gone t = by (nat_lt (length t.told) (2 ^ 64))
  where
    by : (b : Bool) → take (cond b (length t.told) t.gone) t.told ≡ take t.gone t.told ++ cond b (drop t.gone t.told) []
    by true = take_all (length t.told) t.told (omega arith) ∙ sym (take-append-drop t.gone t.told)
    by false = sym (append-nil (take t.gone t.told))

-- records that are released change nothing of it
each_told : (ids : List TransactionId) (a b : EntityState) → ForgetsEach ids a b → (b.table.told ≡ a.table.told) × (b.table.gone ≡ a.table.gone)
unfolding ForgetsEach
each_told [] a b same = (ap (λ (e : EntityState). e.table.told) same, ap (λ (e : EntityState). e.table.gone) same)
each_told (id ∷ ids) a b f =
    let one : Forgets id a f.0 = f.1.0 in
    let more = each_told ids f.0 b f.1.1 in
    (more.0 ∙ ap (λ (e : EntityState). e.table.told) one.forgot, more.1 ∙ ap (λ (e : EntityState). e.table.gone) one.forgot)

pub forgot_told : (a b : EntityState) → ForgetsSome a b → (b.table.told ≡ a.table.told) × (b.table.gone ≡ a.table.gone)
forgot_told a b f = each_told f.ids a b f.forgets

-- ---- what was heard
pub hears_first : (t : TableState) → t.gone ≡ 0 → HearsGone [] t
hears_first t none = record { few = omega (arith, none); heard = ap (λ n. take n t.told) (sym none) }

-- as the station indicates more
pub hears_gains : (calls : List UserCall) (t t_now : TableState) → HearsGone calls t → Gains t t_now → HearsGone calls t_now
hears_gains calls t t_now h g = record {
  few = (let low : t.gone ≤ length t.told = h.few in let same : t_now.gone ≡ t.gone = g.gone in
      let long : length t_now.told ≡ length t.told + length g.gained = ap length g.told ∙ length-append t.told g.gained in omega (arith, low, same, long));
  heard = h.heard ∙ sym ((λ i. take (g.gone i) (g.told i)) ∙ take-append-le t.gone t.told g.gained h.few);
}

-- by a call that reports nothing to it
pub hears_more : (calls more : List UserCall) (t : TableState) → HearsGone calls t → heard_by more ≡ [] → HearsGone (calls ++ more) t
hears_more calls more t h none = record {
  few = h.few;
  heard = heard_both calls more ∙ ap (λ l. heard_by calls ++ l) none ∙ append-nil (heard_by calls) ∙ h.heard;
}

-- all that is left is reported, and discarded
pub hears_said : (calls : List UserCall) (t : TableState) → HearsGone calls t → HearsGone (calls ++ map Hears (said_by t)) (once_said t)
hears_said calls t h = record {
  few = said_few t h.few;
  heard = heard_both calls (map Hears (said_by t)) ∙ (λ i. h.heard i ++ heard_all (said_by t) i) ∙ sym (said_gone t);
}
