-- Rounds of a recovery are no more than there are records: in each one gets done.
use Rattle.std.proofs.Common.{◌≡◌, ℕ, zero, suc, ◌+◌, ◌<◌, ◌≤◌, arith, Bool, true, false, cond, List, [], ◌∷◌, length, Option, Some, None, refl, sym, ap, subst, ◌∙◌}
use Rattle.std.specs.Prelude.{Contains}
use Rattle.std.specs.Map.{keys_of}
use Rattle.std.proofs.lemmas.Bool.{false≢true}
use Rattle.cfdp_header.specs.declared.value.TransactionId.{TransactionId}
use Rattle.cfdp_header.specs.Ids.{same_id}
use Rattle.cfdp_directives.specs.User.Put.{Put}
use Rattle.cfdp_entity.specs.Seen.{Seen}
use Rattle.cfdp_entity.specs.Table.{Entry, record_of}
use Rattle.cfdp_entity.proofs.CallerLemmas.{same_id-true}
use Rattle.link_sim.specs.Found.{IsPutOf}
use Rattle.link_sim.specs.Tracks.{StandsIn, AllTracked, KeepsPutsOf, GetsDone, Advances, is_done, done_at}
use Rattle.link_sim.specs.World.State.{WorldState, entity_at}
use Rattle.station_pair.specs.declared.side.Side.{Side}
use Rattle.station_pair.specs.declared.side.Side.TheVariants.{One, Two}

-- ---- counts
pub how_many : {X : Type 0} → (X → Bool) → List X → ℕ
how_many p [] = 0
how_many p (x ∷ xs) = cond (p x) (suc (how_many p xs)) (how_many p xs)

how_many-length : {X : Type 0} (p : X → Bool) (xs : List X) → how_many p xs ≤ length xs
unfolding how_many
how_many-length p [] = omega arith
how_many-length p (x ∷ xs) = by (p x) (how_many-length p xs)
  where
    by : (b : Bool) → how_many p xs ≤ length xs → cond b (suc (how_many p xs)) (how_many p xs) ≤ suc (length xs)
    by true low = omega (arith, low)
    by false low = omega (arith, low)

module _ {X : Type 0} (p q : X → Bool) (all : (x : X) → p x ≡ true → q x ≡ true) where
  -- one more at the front
  add : (a b : Bool) (n m : ℕ) → (a ≡ true → b ≡ true) → n ≤ m → cond a (suc n) n ≤ cond b (suc m) m
  add false false n m h low = low
  add false true n m h low = omega (arith, low)
  add true true n m h low = omega (arith, low)
  add true false n m h low = absurd (false≢true (h refl))

  add-less : (a b : Bool) (n m : ℕ) → (a ≡ true → b ≡ true) → n < m → cond a (suc n) n < cond b (suc m) m
  add-less false false n m h low = low
  add-less false true n m h low = omega (arith, low)
  add-less true true n m h low = omega (arith, low)
  add-less true false n m h low = absurd (false≢true (h refl))

  pub count-most : (xs : List X) → how_many p xs ≤ how_many q xs
  unfolding how_many
  count-most [] = omega arith
  count-most (x ∷ xs) = add (p x) (q x) (how_many p xs) (how_many q xs) (all x) (count-most xs)

  pub count-less : (xs : List X) (x : X) → Contains xs x → p x ≡ false → q x ≡ true → how_many p xs < how_many q xs
  unfolding how_many
  count-less [] x (n, low, is) a b = absurd (omega (arith, low))
  count-less (y ∷ xs) x (zero, low, is) a b = first (p y) (q y) (ap p is ∙ a) (ap q is ∙ b)
    where
      first : (c d : Bool) → c ≡ false → d ≡ true → cond c (suc (how_many p xs)) (how_many p xs) < cond d (suc (how_many q xs)) (how_many q xs)
      first false true a b = (let most = count-most xs in omega (arith, most))
      first false false a b = absurd (false≢true b)
      first true d a b = absurd (false≢true (sym a))
  count-less (y ∷ xs) x (suc n, low, is) a b = add-less (p y) (q y) (how_many p xs) (how_many q xs) (all y) (count-less xs x (n, omega (arith, low), is) a b)

-- ---- a transaction of which there is a record is among the keys
key-among : (id : TransactionId) (xs : List Entry) (s : Seen) → record_of id xs ≡ Some s → Contains (keys_of xs) id
key-among id [] s is = absurd (let e : None ≡ Some s = is in cc)
key-among id (x ∷ xs) s is = elim (same_id id x.0) as (λ b. same_id id x.0 ≡ b → cond b (Some x.1) (record_of id xs) ≡ Some s → Contains (keys_of (x ∷ xs)) id) [
  | true ↦ λ t h. (0, omega arith, sym (same_id-true id x.0 t))
  | false ↦ λ t h. (let c : Contains (keys_of xs) id = key-among id xs s h in let n : ℕ = c.0 in let low : n < length (keys_of xs) = c.1 in (suc n, omega (arith, low), c.2))
] refl is

done-among : (s : Side) (w : WorldState) (id : TransactionId) → done_at s w id ≡ true → Contains (keys_of (entity_at s w).table.records) id
done-among s w id d = by (record_of id (entity_at s w).table.records) refl
  where
    by : (o : Option Seen) → record_of id (entity_at s w).table.records ≡ o → Contains (keys_of (entity_at s w).table.records) id
    by None is = absurd (false≢true (sym (ap is_done is) ∙ d))
    by (Some x) is = key-among id (entity_at s w).table.records x is

-- ---- so many advances, one after another
unfoldable pub AdvancesBy : ℕ → (old new : WorldState) → Type 0
AdvancesBy zero old new = new ≡ old
AdvancesBy (suc n) old new = (mid : WorldState) × (Advances old mid × AdvancesBy n mid new)

-- what is kept by all of them
pub record AdvancesAll (old new : WorldState) : Type 0 where
  pub keeps : KeepsPutsOf old new
  pub tracked : AllTracked new
  pub stands : (s : Side) (put : Put) → IsPutOf s put old → StandsIn s put old → StandsIn s put new
  pub done : (s : Side) (id : TransactionId) → done_at s old id ≡ true → done_at s new id ≡ true

pub all-advance : (n : ℕ) (old new : WorldState) → AdvancesBy n old new → AllTracked old → AdvancesAll old new
unfolding AdvancesBy
all-advance zero old new same all = subst (AdvancesAll old) (sym same) (record {
  keeps = record { puts = λ s put own. own; puts_before = λ s put own. own; policy = λ s. refl };
  tracked = all;
  stands = λ s put own h. h;
  done = λ s id h. h;
})
all-advance (suc n) old new run all =
    let a : Advances old run.0 = run.1.0 in
    let r : AdvancesAll run.0 new = all-advance n run.0 new run.1.1 (a.tracked all) in
    record {
      keeps = record {
        puts = λ s put own. r.keeps.puts s put (a.keeps.puts s put own);
        puts_before = λ s put own. a.keeps.puts_before s put (r.keeps.puts_before s put own);
        policy = λ s. r.keeps.policy s ∙ a.keeps.policy s;
      };
      tracked = r.tracked;
      stands = λ s put own h. r.stands s put (a.keeps.puts s put own) (a.stands all s put own h);
      done = λ s id h. r.done s id (a.done all s id h);
    }

module _ (last : WorldState) where
  keys : Side → List TransactionId
  keys s = keys_of (entity_at s last).table.records

  -- how much is done in a world, of the transactions of the last one
  done_in : WorldState → ℕ
  done_in w = how_many (done_at One w) (keys One) + how_many (done_at Two w) (keys Two)

  one-more : (old mid : WorldState) → Advances old mid → AllTracked old → ((s : Side) (id : TransactionId) → done_at s mid id ≡ true → done_at s last id ≡ true) → done_in old < done_in mid
  unfolding done_in keys
  one-more old mid a all later = by g.side refl
    where
      g : GetsDone old mid
      g = a.more all

      most : (s : Side) → how_many (done_at s old) (keys s) ≤ how_many (done_at s mid) (keys s)
      most s = count-most (done_at s old) (done_at s mid) (λ id h. a.done all s id h) (keys s)

      less : how_many (done_at g.side old) (keys g.side) < how_many (done_at g.side mid) (keys g.side)
      less = count-less (done_at g.side old) (done_at g.side mid) (λ id h. a.done all g.side id h) (keys g.side) g.id (done-among g.side last g.id (later g.side g.id g.after)) g.before g.after

      by : (s : Side) → g.side ≡ s → done_in old < done_in mid
      by One is = (let one : how_many (done_at One old) (keys One) < how_many (done_at One mid) (keys One) =
          subst (λ s. how_many (done_at s old) (keys s) < how_many (done_at s mid) (keys s)) is less in let two = most Two in omega (arith, one, two))
      by Two is = (let two : how_many (done_at Two old) (keys Two) < how_many (done_at Two mid) (keys Two) =
          subst (λ s. how_many (done_at s old) (keys s) < how_many (done_at s mid) (keys s)) is less in let one = most One in omega (arith, one, two))

  all-more : (n : ℕ) (old : WorldState) → AdvancesBy n old last → AllTracked old → n ≤ done_in last
  unfolding AdvancesBy
  all-more n old run all = (let more = at n old run all in omega (arith, more))
    where
      at : (n : ℕ) (old : WorldState) → AdvancesBy n old last → AllTracked old → done_in old + n ≤ done_in last
      at zero old same all = (let is : done_in last ≡ done_in old = ap done_in same in omega (arith, is))
      at (suc n) old run all =
          let a : Advances old run.0 = run.1.0 in
          let r : AdvancesAll run.0 last = all-advance n run.0 last run.1.1 (a.tracked all) in
          let less : done_in old < done_in run.0 = one-more old run.0 a all r.done in
          let rest : done_in run.0 + n ≤ done_in last = at n run.0 run.1.1 (a.tracked all) in
          omega (arith, less, rest)

  keys-length : (xs : List Entry) → length (keys_of xs) ≡ length xs
  keys-length [] = refl
  keys-length (x ∷ xs) = ap suc (keys-length xs)

  -- no more rounds than records
  pub few-rounds : (n most : ℕ) (old : WorldState) → AdvancesBy n old last → AllTracked old → ((s : Side) → length (entity_at s last).table.records ≤ most) → n ≤ most + most
  unfolding done_in keys
  few-rounds n most old run all few =
      let low : n ≤ done_in last = all-more n old run all in
      let one : how_many (done_at One last) (keys One) ≤ length (keys One) = how_many-length (done_at One last) (keys One) in
      let two : how_many (done_at Two last) (keys Two) ≤ length (keys Two) = how_many-length (done_at Two last) (keys Two) in
      let a = keys-length (entity_at One last).table.records in
      let b = keys-length (entity_at Two last).table.records in
      let c = few One in
      let d = few Two in
      omega (arith, low, one, two, a, b, c, d)
