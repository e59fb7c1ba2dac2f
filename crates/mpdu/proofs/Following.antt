-- Exported: if no frame was missed, a frame follows by the counts of frames in order.
use Rattle.std.proofs.Common.{◌≡◌, ℕ, zero, suc, ◌+◌, ◌%◌, ◌<◌, ◌==◌, ◌&&◌, not, Bool, true, false, List, [], Option, Some, None, IfSome, refl, sym, ap, ◌∙◌, arith}
use Rattle.std.proofs.lemmas.Bool.{eq-eqb, ne_eqb}
use Rattle.aos_frame.specs.Counts.{frame_counts, counts_of, compared, follows, CountsFrame}
use Rattle.aos_frame.specs.declared.count.SeenCount.{SeenCount}
use Rattle.mpdu.specs.Reading.{held_at, is_some}

nothing_held : (a b : Bool) → held_at a [] ≡ held_at b []
nothing_held true true = refl
nothing_held true false = refl
nothing_held false true = refl
nothing_held false false = refl

nothing_let_go : (a b : Bool) → (not a && is_some []) ≡ (not b && is_some [])
nothing_let_go true true = refl
nothing_let_go true false = refl
nothing_let_go false true = refl
nothing_let_go false false = refl

each : (missed : ℕ) (all : Bool) → missed < counts_of all → missed < frame_counts
each missed true few = few
each missed false few = omega arith

-- If fewer are missed than such a stream has counts, they are fewer than the counts compared.
few_compared : (all last this : Bool) (missed : ℕ) → (all ≡ true → last ≡ true) → (all ≡ true → this ≡ true) → missed < counts_of all → missed < compared last this
few_compared all true true missed f g few = each missed all few
few_compared false true false missed f g few = few
few_compared false false this missed f g few = few
few_compared true true false missed f g few = absurd (let bad : false ≡ true = g refl in cc)
few_compared true false this missed f g few = absurd (let bad : false ≡ true = f refl in cc)

-- Compared as they are, the counts are the numbers of the frames.
same_counts : (last this : Bool) (l c n taken : ℕ) → l ≡ n % counts_of last → c ≡ taken % counts_of this →
    ((l + 1) % compared last this ≡ (n + 1) % compared last this) × (c % compared last this ≡ taken % compared last this)
same_counts true true l c n taken e f = (omega arith, omega arith)
same_counts true false l c n taken e f = (omega arith, omega arith)
same_counts false true l c n taken e f = (omega arith, omega arith)
same_counts false false l c n taken e f = (omega arith, omega arith)

-- By the counts of frames in order it follows if none is missed.
none_missed : (all : Bool) (n taken : ℕ) → taken ≡ n + 1 → (n + 1) % counts_of all ≡ taken % counts_of all
none_missed all n taken e = ap (λ k. k % counts_of all) (sym e)

some_missed : (all : Bool) (n taken m : ℕ) → suc m < counts_of all → taken ≡ n + 1 + suc m → (n + 1) % counts_of all ≡ taken % counts_of all → ⊥
some_missed true n taken m few e same = omega arith
some_missed false n taken m few e same = omega arith

follows_counts : (all : Bool) (n taken missed : ℕ) → missed < counts_of all → taken ≡ n + 1 + missed → ((n + 1) % counts_of all == taken % counts_of all) ≡ (missed == 0)
follows_counts all n taken zero few e = eq-eqb ((n + 1) % counts_of all) (taken % counts_of all) (none_missed all n taken (omega (arith, e)))
follows_counts all n taken (suc m) few e =
    let some : suc m ≡ 0 → ⊥ = λ (z : suc m ≡ 0). omega (arith, z) in
    ne_eqb ((n + 1) % counts_of all) (taken % counts_of all) (some_missed all n taken m few e) ∙ sym (ne_eqb (suc m) 0 some)

follows_some : (all : Bool) (last this : SeenCount) (n taken missed : ℕ) → missed < counts_of all → CountsFrame all n last → CountsFrame all taken this → taken ≡ n + 1 + missed →
    follows (Some last) this ≡ (missed == 0)
follows_some all last this n taken missed few l c e =
    let both : Bool = last.cycle && this.cycle in
    let same = same_counts last.cycle this.cycle last.count this.count n taken l.count c.count in
    ap (λ k. k == this.count % counts_of both) same.0 ∙ ap (λ k. (n + 1) % counts_of both == k) same.1
    ∙ follows_counts both n taken missed (few_compared all last.cycle this.cycle missed l.cycle c.cycle few) e

pub held_follows : (all : Bool) (last : Option SeenCount) (this : SeenCount) (taken missed : ℕ) (begun : List ℕ) → missed < counts_of all →
    IfSome last (λ l. (n : ℕ) × CountsFrame all n l × (taken ≡ n + 1 + missed)) → (last ≡ None → begun ≡ []) → CountsFrame all taken this →
    (held_at (follows last this) begun ≡ held_at (missed == 0) begun) × ((not (follows last this) && is_some begun) ≡ (not (missed == 0) && is_some begun))
held_follows all None this taken missed begun few seen unseen c =
    let none : begun ≡ [] = unseen refl in (
      rw none (nothing_held true (missed == 0)),
      rw none (nothing_let_go true (missed == 0)),
    )
held_follows all (Some l) this taken missed begun few seen unseen c =
    let same : follows (Some l) this ≡ (missed == 0) = follows_some all l this seen.0 taken missed few seen.1 c seen.2 in (
      ap (λ b. held_at b begun) same,
      ap (λ b. not b && is_some begun) same,
    )
