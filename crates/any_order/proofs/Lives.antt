-- Sending ends at which more is done, and more of them.
use Rattle.std.proofs.Common.{◌≡◌, ℕ, ◌+◌, ◌<◌, ◌≤◌, List, [], ◌∷◌, ◌++◌, length, map, slice_index_or, refl, sym, ap, subst, ◌∙◌, inl, inr, arith, append-nil, length-append}
use Rattle.std.specs.Prelude.{Contains}
use Rattle.std.proofs.lemmas.Bool.{cases_lt}
use Rattle.std.proofs.lemmas.List.{get_or_append_left, get_or-append-add}
use Rattle.aos_frame.specs.declared.config.Lane.{Lane}
use Rattle.aos_frame.specs.declared.config.LinkConfig.{LinkConfig}
use Rattle.link_stack.specs.EndToEnd.{DownCall, keep_place, made_of, puts_of}
use Rattle.link_stack.specs.Lives.{AreApart, AreComingOf, ComingOf, CopyOf, NoiseOf, Life, life_at, made_in, numbers_of, octets_coming}
use Rattle.cfdp_directives.proofs.Puts.{Contains-append_left}
use Rattle.any_order.proofs.Lists.{made_append, puts_append}

-- More was done with one of them: it has the same numbers, and its calls are those of before and
-- others after.
pub record IsLonger (old new : Life) : Type 0 where
  pub first : new.first ≡ old.first
  pub more : List DownCall
  pub calls : new.calls ≡ old.calls ++ more

-- There are at least as many, and with each of those before more was done, or nothing.
pub record Grow (old new : List Life) : Type 0 where
  pub many : length old ≤ length new
  pub each : (k : ℕ) → k < length old → IsLonger (life_at old k) (life_at new k)

same_life : (life : Life) → IsLonger life life
same_life life = record { first = refl; more = []; calls = sym (append-nil life.calls) }

abbrev no_life : Life
no_life = record { first = 0; calls = [] }

pub grow_none : (ls : List Life) → Grow ls ls
grow_none ls = record { many = omega arith; each = λ k low. same_life (life_at ls k) }

-- the last of them
pub life_last : (before : List Life) (last : Life) → life_at (before ++ last ∷ []) (length before) ≡ last
life_last before last =
    let place : length before ≡ length before + 0 = omega arith in
    ap (λ k. slice_index_or (before ++ last ∷ []) k no_life) place ∙ get_or-append-add before (last ∷ []) 0 no_life

pub life_before : (before : List Life) (last : Life) (k : ℕ) → k < length before → life_at (before ++ last ∷ []) k ≡ life_at before k
life_before before last k low = get_or_append_left before (last ∷ []) no_life k low

pub count_lives : (before : List Life) (last : Life) → length (before ++ last ∷ []) ≡ length before + 1
count_lives before last = length-append before (last ∷ [])

-- each of them is one of those before, or the last
pub each_life : (P : ℕ → Life → Type 0) (before : List Life) (last : Life) → ((k : ℕ) → k < length before → P k (life_at before k)) → P (length before) last →
    (k : ℕ) → k < length (before ++ last ∷ []) → P k (life_at (before ++ last ∷ []) k)
each_life P before last front end k low = elim (cases_lt k (length before)) [
  | inl there ↦ subst (λ (l : Life). P k l) (sym (life_before before last k there)) (front k there)
  | inr over ↦
      let many : length (before ++ last ∷ []) ≡ length before + 1 = count_lives before last in
      let place : length before ≡ k = omega (arith, low, over, many) in
      subst (λ (n : ℕ). P n (life_at (before ++ last ∷ []) n)) place (subst (λ (l : Life). P (length before) l) (sym (life_last before last)) end)
]

-- more was done with the last one
pub grow_last : (before : List Life) (old new : Life) → IsLonger old new → Grow (before ++ old ∷ []) (before ++ new ∷ [])
grow_last before old new longer = record {
  many = omega (arith, count_lives before old, count_lives before new);
  each = each_life (λ k l. IsLonger l (life_at (before ++ new ∷ []) k)) before old
      (λ k low. subst (λ (l : Life). IsLonger (life_at before k) l) (sym (life_before before new k low)) (same_life (life_at before k)))
      (subst (λ (l : Life). IsLonger old l) (sym (life_last before new)) longer);
}

-- one more began
pub grow_more : (ls : List Life) (last : Life) → Grow ls (ls ++ last ∷ [])
grow_more ls last = record {
  many = omega (arith, count_lives ls last);
  each = λ k low. subst (λ (l : Life). IsLonger (life_at ls k) l) (sym (life_before ls last k low)) (same_life (life_at ls k));
}

-- ---- what came
longer_made : (lane : Lane) (old new : Life) → IsLonger old new → (place : ℕ) → place < length (made_in lane old) → (place < length (made_in lane new))
    × (slice_index_or (made_in lane new) place [] ≡ slice_index_or (made_in lane old) place [])
longer_made lane old new longer place low =
    let all : made_in lane new ≡ made_in lane old ++ made_of lane longer.more = ap (made_of lane) longer.calls ∙ made_append lane old.calls longer.more in
    let long : length (made_in lane new) ≡ length (made_in lane old) + length (made_of lane longer.more) = ap length all ∙ length-append (made_in lane old) (made_of lane longer.more) in (
      omega (arith, low, long),
      ap (λ l. slice_index_or l place []) all ∙ get_or_append_left (made_in lane old) (made_of lane longer.more) [] place low,
    )

pub coming_grown : (link : LinkConfig) (old new : List Life) (came : List ComingOf) → Grow old new → AreComingOf link old came → AreComingOf link new came
coming_grown link old new [] grow are = tt
coming_grown link old new (CopyOf life lane place ∷ came) grow are =
    let low : life < length old = are.0 in
    let many : length old ≤ length new = grow.many in
    (omega arith, (longer_made lane (life_at old life) (life_at new life) (grow.each life low) place are.1).0, coming_grown link old new came grow are.2)
coming_grown link old new (NoiseOf octets ∷ came) grow are = (are.0, coming_grown link old new came grow are.1)

pub octets_grown : (link : LinkConfig) (old new : List Life) (came : List ComingOf) → Grow old new → AreComingOf link old came → map (octets_coming new) came ≡ map (octets_coming old) came
octets_grown link old new [] grow are = refl
octets_grown link old new (CopyOf life lane place ∷ came) grow are =
    let this = (longer_made lane (life_at old life) (life_at new life) (grow.each life are.0) place are.1).1 in
    ap (λ f. f ∷ map (octets_coming new) came) this ∙ ap (λ l. slice_index_or (made_in lane (life_at old life)) place [] ∷ l) (octets_grown link old new came grow are.2)
octets_grown link old new (NoiseOf octets ∷ came) grow are = ap (λ l. octets ∷ l) (octets_grown link old new came grow are.1)

pub numbers_grown : (lane : Lane) (link : LinkConfig) (old new : List Life) (came : List ComingOf) → Grow old new → AreComingOf link old came → numbers_of lane new came ≡ numbers_of lane old came
numbers_grown lane link old new [] grow are = refl
numbers_grown lane link old new (CopyOf life its place ∷ came) grow are =
    let first : (life_at new life).first ≡ (life_at old life).first = (grow.each life are.0).first in
    ap (λ n. keep_place lane its (n + place) (numbers_of lane new came)) first ∙ ap (λ l. keep_place lane its ((life_at old life).first + place) l) (numbers_grown lane link old new came grow are.2)
numbers_grown lane link old new (NoiseOf octets ∷ came) grow are = numbers_grown lane link old new came grow are.1

pub coming_both : (link : LinkConfig) (ls : List Life) (a b : List ComingOf) → AreComingOf link ls a → AreComingOf link ls b → AreComingOf link ls (a ++ b)
coming_both link ls [] b one two = two
coming_both link ls (CopyOf life lane place ∷ a) b one two = (one.0, one.1, coming_both link ls a b one.2 two)
coming_both link ls (NoiseOf octets ∷ a) b one two = (one.0, coming_both link ls a b one.1 two)

-- what was put in stays so
pub record WasPut (ls : List Life) (pdu : List ℕ) : Type 0 where
  pub life : ℕ
  pub one : life < length ls
  pub lane : Lane
  pub among : Contains (puts_of lane (life_at ls life).calls) pdu

pub put_grown : (old new : List Life) (pdu : List ℕ) → Grow old new → WasPut old pdu → WasPut new pdu
put_grown old new pdu grow was =
    let longer = grow.each was.life was.one in
    let all : puts_of was.lane (life_at new was.life).calls ≡ puts_of was.lane (life_at old was.life).calls ++ puts_of was.lane longer.more =
    ap (puts_of was.lane) longer.calls ∙ puts_append was.lane (life_at old was.life).calls longer.more in
    let many : length old ≤ length new = grow.many in
    let low : was.life < length old = was.one in
    record {
      life = was.life;
      one = omega arith;
      lane = was.lane;
      among =
          subst (λ (l : List (List ℕ)). Contains l pdu) (sym all)
          (Contains-append_left (puts_of was.lane (life_at old was.life).calls) (puts_of was.lane longer.more) pdu was.among);
    }

-- ---- lives that are apart
pub apart_one : (last : Life) → AreApart (last ∷ [])
apart_one last lane j k before low = absurd (omega (arith, before, low))

-- a new one begins after all those before
behind_all : (ls : List Life) (lane : Lane) (last new : Life) → AreApart (ls ++ last ∷ []) → last.first + length (made_in lane last) < new.first → (j : ℕ) → j < length (ls ++ last ∷ []) →
    (life_at (ls ++ last ∷ []) j).first + length (made_in lane (life_at (ls ++ last ∷ []) j)) < new.first
behind_all ls lane last new apart behind j low = each_life
    (λ i l. l.first + length (made_in lane l) < new.first) ls last
    (λ i there.
    let many : length (ls ++ last ∷ []) ≡ length ls + 1 = count_lives ls last in
    let gap = apart lane i (length ls) there (omega arith) in
    let one : (life_at ls i).first + length (made_in lane (life_at ls i)) < last.first =
    subst (λ (l : Life). l.first + length (made_in lane l) < last.first) (life_before ls last i there)
    (subst (λ (l : Life). (life_at (ls ++ last ∷ []) i).first + length (made_in lane (life_at (ls ++ last ∷ []) i)) < l.first) (life_last ls last) gap) in
    omega (arith, one, behind))
    behind j low

pub apart_more : (ls : List Life) (last new : Life) → AreApart (ls ++ last ∷ []) → ((lane : Lane) → last.first + length (made_in lane last) < new.first) → AreApart ((ls ++ last ∷ []) ++ new ∷ [])
apart_more ls last new apart behind lane j k before low =
    let all : List Life = ls ++ last ∷ [] in
    let many : length (all ++ new ∷ []) ≡ length all + 1 = count_lives all new in
    let first : j < length all = omega arith in
    let start : life_at (all ++ new ∷ []) j ≡ life_at all j = life_before all new j first in
    subst (λ (l : Life). l.first + length (made_in lane l) < (life_at (all ++ new ∷ []) k).first) (sym start)
    (elim (cases_lt k (length all)) [
      | inl there ↦
          subst (λ (l : Life). (life_at all j).first + length (made_in lane (life_at all j)) < l.first) (sym (life_before all new k there)) (apart lane j k before there)
      | inr over ↦
          let place : length all ≡ k = omega arith in
          let end : life_at (all ++ new ∷ []) k ≡ new = subst (λ (n : ℕ). life_at (all ++ new ∷ []) n ≡ new) place (life_last all new) in
          subst (λ (l : Life). (life_at all j).first + length (made_in lane (life_at all j)) < l.first) (sym end) (behind_all ls lane last new apart (behind lane) j first)
    ])

-- more is done with the last one
pub apart_last : (ls : List Life) (old new : Life) → new.first ≡ old.first → AreApart (ls ++ old ∷ []) → AreApart (ls ++ new ∷ [])
apart_last ls old new same apart lane j k before low =
    let many : length (ls ++ new ∷ []) ≡ length ls + 1 = count_lives ls new in
    let there : length (ls ++ old ∷ []) ≡ length ls + 1 = count_lives ls old in
    let first : j < length ls = omega arith in
    let was = apart lane j k before (omega arith) in
    let start : life_at (ls ++ new ∷ []) j ≡ life_at (ls ++ old ∷ []) j = life_before ls new j first ∙ sym (life_before ls old j first) in
    let end : (life_at (ls ++ new ∷ []) k).first ≡ (life_at (ls ++ old ∷ []) k).first = elim (cases_lt k (length ls)) [
      | inl front ↦ ap (λ (l : Life). l.first) (life_before ls new k front ∙ sym (life_before ls old k front))
      | inr over ↦
          let place : length ls ≡ k = omega arith in
          subst (λ (n : ℕ). (life_at (ls ++ new ∷ []) n).first ≡ (life_at (ls ++ old ∷ []) n).first) place
          (ap (λ (l : Life). l.first) (life_last ls new) ∙ same ∙ sym (ap (λ (l : Life). l.first) (life_last ls old)))
    ] in
    subst (λ (n : ℕ). (life_at (ls ++ new ∷ []) j).first + length (made_in lane (life_at (ls ++ new ∷ []) j)) < n) (sym end)
    (subst (λ (l : Life). l.first + length (made_in lane l) < (life_at (ls ++ old ∷ []) k).first) (sym start) was)
