-- What a station does for its user between turns, and what the user hears of it.
use Rattle.std.proofs.Common.{◌≡◌, ◌∙◌, ℕ, ◌+◌, ◌≤◌, Bool, true, false, List, [], ◌∷◌, ◌++◌, Some, Result, ap, arith, cond, drop, length, length-append, map, refl, subst, sym, take, take_all, ⊎_elim}
use Rattle.std.specs.Prelude.{◌^◌, nat_lt}
use Rattle.std.specs.List.{flat_map}
use Rattle.std.proofs.lemmas.List.{append-nil, append_assoc, take-append-drop, take-append-le}
use Rattle.std.proofs.lemmas.Grind.{flat_map-append}
use Rattle.cfdp_header.specs.declared.value.TransactionId.{TransactionId}
use Rattle.cfdp_entity.specs.Entity.{EntityState}
use Rattle.cfdp_entity.specs.Forgetting.{Forgets, ForgetsEach, ForgetsSome}
use Rattle.cfdp_entity.specs.Table.{TableState}
use Rattle.cfdp_entity.specs.declared.error.PutError.{PutError}
use Rattle.cfdp_station.specs.Station.{StationState}
use Rattle.cfdp_port.specs.Asking.{Puts}
use Rattle.cfdp_port.specs.Gains.{Gains}
use Rattle.cfdp_port.specs.Port.{AtStation, PortState, table_of}
use Rattle.cfdp_service.specs.Calls.{UserCall, Asks, Answered, Hears, Intends, Ends, Chain, heard_by}
use Rattle.cfdp_port.specs.Calls.{WireCall}
use Rattle.cfdp_service.specs.declared.user.Intent.{Intent}
use Rattle.cfdp_service.specs.Serving.{AsksToEnd, Does, GetsReady, Prepares, DoesEach, HearsGone, Obeys, once_said, once_told, said_by, wish_calls}
use Rattle.cfdp_service.specs.declared.wish.Reply.{Reply}
use Rattle.cfdp_service.specs.declared.wish.Wish.{Wish}
use Rattle.cfdp_service.proofs.ChainLemmas.{chain-one, chain-then, heard-both, heard-hears}

-- ---- the put
-- names as they were asked for, and the answer as it is known
pub puts_as : {W : Type 0} (source asked_source destination asked_destination : List ℕ) → asked_source ≡ source → asked_destination ≡ destination
    → (answered answer : Result TransactionId PutError) → answered ≡ answer → (old new : PortState W)
    → AtStation (Puts asked_source asked_destination answered) old new → AtStation (Puts source destination answer) old new
puts_as source asked_source destination asked_destination same_source same_destination answered answer same old new puts =
    subst (λ s. AtStation (Puts s destination answer) old new) same_source
    (subst (λ d. AtStation (Puts asked_source d answer) old new) same_destination
    (subst (λ a. AtStation (Puts asked_source asked_destination a) old new) same puts))

-- ---- wishes
pub does-none : (a : StationState) → DoesEach [] a a
unfolding DoesEach
does-none a = refl

pub does-then : (done : List (Wish × Reply)) (one : Wish × Reply) (a b c : StationState) → DoesEach done a b → Does one.0 one.1 b c → DoesEach (done ++ one ∷ []) a c
unfolding DoesEach
does-then [] one a b c same does = (c, (subst (λ s. Does one.0 one.1 s c) same does, refl))
does-then (first ∷ done) one a b c (mid, (here, rest)) does = (mid, (here, does-then done one mid b c rest does))

-- by a wish and its answer a user hears nothing
wish-unheard : (done : List (Wish × Reply)) → heard_by (flat_map wish_calls done) ≡ []
wish-unheard [] = refl
wish-unheard (one ∷ done) = wish-unheard done

pub obeys-unheard : (done : List (Wish × Reply)) (rests : List UserCall) → heard_by rests ≡ [] → heard_by (flat_map wish_calls done ++ rests) ≡ []
obeys-unheard done rests none = heard-both (flat_map wish_calls done) rests ∙ (λ i. wish-unheard done i ++ none i)

module _ {U : Type 0} (Steps : U → UserCall → U → Type 0) where
  -- one wish more
  pub chain-wish : (done : List (Wish × Reply)) (wish : Wish) (reply : Reply) (a b asked c : U) → Chain Steps (flat_map wish_calls done) a b
      → Steps b (Asks (Some wish)) asked → Steps asked (Answered reply) c → Chain Steps (flat_map wish_calls (done ++ (wish, reply) ∷ [])) a c
  chain-wish done wish reply a b asked c before asks answered =
      subst (λ l. Chain Steps l a c) (sym (flat_map-append wish_calls done ((wish, reply) ∷ [])))
      (chain-then Steps (flat_map wish_calls done) (Asks (Some wish) ∷ Answered reply ∷ []) a b c before
      (chain-then Steps (Asks (Some wish) ∷ []) (Answered reply ∷ []) b asked c (chain-one Steps (Asks (Some wish)) b asked asks) (chain-one Steps (Answered reply) asked c answered)))

-- ---- what is discarded
-- what is reported once all is discarded that is left
pub said-few : (t : TableState) → t.gone ≤ length t.told → (once_said t).gone ≤ length (once_said t).told
said-few t few = by (nat_lt (length t.told) (2 ^ 64))
  where
    by : (b : Bool) → (cond b (length t.told) t.gone) ≤ length t.told
    by true = omega arith
    by false = few

pub said-gone : (t : TableState) → take (once_said t).gone (once_said t).told ≡ take t.gone t.told ++ said_by t
said-gone t = by (nat_lt (length t.told) (2 ^ 64))
  where
    by : (b : Bool) → take (cond b (length t.told) t.gone) t.told ≡ take t.gone t.told ++ cond b (drop t.gone t.told) []
    by true = take_all (length t.told) t.told (omega arith) ∙ sym (take-append-drop t.gone t.told)
    by false = sym (append-nil (take t.gone t.told))

-- what was indicated before is indicated still
pub gains-gone : (a b : TableState) → a.gone ≤ length a.told → Gains a b → take b.gone b.told ≡ take a.gone a.told
gains-gone a b few g = (λ i. take (g.gone i) (g.told i)) ∙ take-append-le a.gone a.told g.gained few

pub gains-few : (a b : TableState) → a.gone ≤ length a.told → Gains a b → b.gone ≤ length b.told
gains-few a b few g =
    let same : b.gone ≡ a.gone = g.gone in
    let long : length b.told ≡ length a.told + length g.gained = ap length g.told ∙ length-append a.told g.gained in
    omega (arith, same, long, few)

-- records that are discarded change nothing of it
forgets-told : (id : TransactionId) (a b : EntityState) → Forgets id a b → (b.table.told ≡ a.table.told) × (b.table.gone ≡ a.table.gone)
forgets-told id a b f = (ap (λ (e : EntityState). e.table.told) f.forgot, ap (λ (e : EntityState). e.table.gone) f.forgot)

each-told : (ids : List TransactionId) (a b : EntityState) → ForgetsEach ids a b → (b.table.told ≡ a.table.told) × (b.table.gone ≡ a.table.gone)
unfolding ForgetsEach
each-told [] a b same = (ap (λ (e : EntityState). e.table.told) same, ap (λ (e : EntityState). e.table.gone) same)
each-told (id ∷ ids) a b f =
    let one = forgets-told id a f.0 f.1.0 in
    let more = each-told ids f.0 b f.1.1 in
    (more.0 ∙ one.0, more.1 ∙ one.1)

pub some-told : (a b : EntityState) → ForgetsSome a b → (b.table.told ≡ a.table.told) × (b.table.gone ≡ a.table.gone)
some-told a b f = each-told f.ids a b f.forgets

-- ---- what the user heard
pub hears-first : (t : TableState) → t.gone ≡ 0 → HearsGone [] t
hears-first t none = record { few = omega (arith, none); heard = ap (λ n. take n t.told) (sym none) }

-- as the station indicates more
pub hears-gains : (calls : List UserCall) (t t_now : TableState) → HearsGone calls t → Gains t t_now → HearsGone calls t_now
hears-gains calls t t_now h g = record { few = gains-few t t_now h.few g; heard = h.heard ∙ sym (gains-gone t t_now h.few g) }

-- by a call in which it hears nothing
pub hears-more : (calls more : List UserCall) (t : TableState) → HearsGone calls t → heard_by more ≡ [] → HearsGone (calls ++ more) t
hears-more calls more t h none = record {
  few = h.few;
  heard = heard-both calls more ∙ ap (λ l. heard_by calls ++ l) none ∙ append-nil (heard_by calls) ∙ h.heard;
}

-- all that is left is reported, and discarded
pub hears-said : (calls : List UserCall) (t t_now : TableState) → HearsGone calls t → t_now.told ≡ (once_said t).told → t_now.gone ≡ (once_said t).gone
    → HearsGone (calls ++ map Hears (said_by t)) t_now
hears-said calls t t_now h told gone = record {
  few = subst (λ n. n ≤ length t_now.told) (sym gone) (subst (λ l. (once_said t).gone ≤ length l) (sym told) (said-few t h.few));
  heard = heard-both calls (map Hears (said_by t)) ∙ (λ i. h.heard i ++ heard-hears (said_by t) i) ∙ sym (said-gone t) ∙ (λ i. take (sym gone i) (sym told i));
}

-- the user hears nothing by what it wishes
obeyed-unheard : (calls : List UserCall) (a b : StationState) → Obeys calls a b → heard_by calls ≡ []
obeyed-unheard calls a b o =
    ap heard_by o.is ∙ obeys-unheard o.done o.rests (⊎_elim (λ e. ap heard_by e) (λ e. ap heard_by e.0) o.ends)

pub hears-obeyed : (before wished : List UserCall) (a b : StationState) (last : TableState) → Obeys wished a b → Gains (table_of a) (table_of b)
    → last.told ≡ (once_said (table_of b)).told → last.gone ≡ (once_said (table_of b)).gone
    → HearsGone before (table_of a) → HearsGone (before ++ (wished ++ map Hears (said_by (table_of b)))) last
hears-obeyed before wished a b last obeys gains told gone h =
    let put = hears-more before wished (table_of b) (hears-gains before (table_of a) (table_of b) h gains) (obeyed-unheard wished a b obeys) in
    subst (λ l. HearsGone l last) (append_assoc before wished (map Hears (said_by (table_of b)))) (hears-said (before ++ wished) (table_of b) last put told gone)

-- the user says what it intends, by which it hears nothing
pub hears-same : (before calls : List UserCall) (intent : Intent) (t t_now : TableState) → HearsGone (before ++ calls) t → t_now ≡ t
    → HearsGone (before ++ calls ++ Intends intent ∷ []) t_now
hears-same before calls intent t t_now h same =
    hears-more (before ++ calls) (Intends intent ∷ []) t_now (subst (λ x. HearsGone (before ++ calls) x) (sym same) h) refl

-- ---- before a turn
module _ {W : Type 0} (Steps : W → WireCall → W → Type 0) where
  pub gets-ready : (over : Bool) (intent : Intent) (lacking : ℕ) (before calls : List UserCall) (last prepared asked : PortState W) → Prepares calls last.station prepared.station
      → prepared.wire ≡ last.wire → asked.station ≡ prepared.station → AsksToEnd Steps intent over prepared.station prepared.wire asked.wire
      → GetsReady Steps over (record { port = last; calls = before; lacking = lacking })
      (record { port = asked; calls = before ++ calls ++ Intends intent ∷ []; lacking = lacking })
  gets-ready over intent lacking before calls last prepared asked prepares wire station asks = record {
    calls = calls;
    intent = intent;
    prepares = subst (λ (s : StationState). Prepares calls last.station s) (sym station) prepares;
    asks = subst (λ (w : W). AsksToEnd Steps intent over asked.station w asked.wire) wire
        (subst (λ (s : StationState). AsksToEnd Steps intent over s prepared.wire asked.wire) (sym station) asks);
    is = refl;
    lacking = refl;
  }

-- all that is left is reported at the end
pub hears-all : (calls : List UserCall) (s s_now : StationState) → HearsGone calls (table_of s) → s_now ≡ once_told s
    → HearsGone (calls ++ map Hears (said_by (table_of s)) ++ Ends ∷ []) (table_of s_now)
hears-all calls s s_now h same =
    hears-more (calls ++ map Hears (said_by (table_of s))) (Ends ∷ []) (table_of s_now)
    (hears-said calls (table_of s) (table_of s_now) h (ap (λ (x : StationState). (table_of x).told) same) (ap (λ (x : StationState). (table_of x).gone) same)) refl
