-- The bounds of blocks: what a transaction that is added, a deadline that is set and a bound that
-- is set do to them.
use Rattle.std.proofs.Common.{◌≡◌, ◌≢◌, ◌⊎◌, inl, inr, ℕ, zero, suc, ◌+◌, ◌*◌, ◌/◌, ◌<◌, ◌≤◌, List, [], ◌∷◌, ◌++◌, length, set, get_or, refl, sym, ap, subst, ◌∙◌, true, false, cond, Option, Some, None, arith, min, nat_eq, length-append, length-set}
use Rattle.std.specs.Map.{values_of}
use Rattle.std.specs.Ordering.{is_eq, nat_cmp}
use Rattle.std.proofs.lemmas.Bool.{eqb-true, eqb-false}
use Rattle.std.proofs.lemmas.List.{get_or-set_same, get_or-set_other}
use Rattle.std.proofs.lemmas.Option.{same_Some, none-some}
use Rattle.indexmap.specs.IndexMap.{set_value_at}
use Rattle.cfdp_header.specs.declared.value.TransactionId.{TransactionId}
use Rattle.cfdp_timers.specs.declared.kind.Kind.{Kind}
use Rattle.cfdp_timers.specs.declared.kind.Kind.TheVariants.{EofAck, Nak, FinishedAck, Inactivity}
use Rattle.cfdp_timers.specs.declared.deadlines.Deadlines.{Deadlines}
use Rattle.cfdp_timers.specs.Order.{kind_place}
use Rattle.cfdp_timers.specs.Entries.{no_deadlines, deadline_at, deadlines_in, with_deadline, earlier, next_of, AreBounds, lowered}
use Rattle.cfdp_timers.proofs.Written.{written}

-- ---- the deadlines at a place
pub none-armed : (kind : Kind) (at : ℕ) → deadline_at no_deadlines kind ≡ Some at → ⊥
none-armed EofAck at h = none-some at h
none-armed Nak at h = none-some at h
none-armed FinishedAck at h = none-some at h
none-armed Inactivity at h = none-some at h

in-past : (es : List (TransactionId × Deadlines)) (place : ℕ) → length es ≤ place → deadlines_in es place ≡ no_deadlines
in-past [] place l = refl
in-past (e ∷ es) zero l = absurd (omega (arith, l))
in-past (e ∷ es) (suc place) l = in-past es place (omega (arith, l))

in-pushed : (es : List (TransactionId × Deadlines)) (id : TransactionId) (place : ℕ) → deadlines_in (es ++ (id, no_deadlines) ∷ []) place ≡ deadlines_in es place
in-pushed [] id zero = refl
in-pushed [] id (suc place) = refl
in-pushed (e ∷ es) id zero = refl
in-pushed (e ∷ es) id (suc place) = in-pushed es id place

values-replaced : (es : List (TransactionId × Deadlines)) (place : ℕ) (w : Deadlines) → values_of (set_value_at es place w) ≡ set (values_of es) place w
values-replaced [] place w = refl
values-replaced (e ∷ es) zero w = refl
values-replaced (e ∷ es) (suc place) w = ap (λ l. e.1 ∷ l) (values-replaced es place w)

length-replaced : (es : List (TransactionId × Deadlines)) (place : ℕ) (w : Deadlines) → length (set_value_at es place w) ≡ length es
length-replaced [] place w = refl
length-replaced (e ∷ es) zero w = refl
length-replaced (e ∷ es) (suc place) w = ap suc (length-replaced es place w)

length-values : (es : List (TransactionId × Deadlines)) → length (values_of es) ≡ length es
length-values [] = refl
length-values (e ∷ es) = ap suc (length-values es)

-- ---- a transaction that is added
pub bounds-none : (bounds : List ℕ) → AreBounds [] bounds
bounds-none bounds = record {
  cover = omega arith;
  each = λ block l. record { none_before = λ place kind at is h. absurd (none-armed kind at h) };
}

pub bounds-pushed : (es : List (TransactionId × Deadlines)) (id : TransactionId) (bounds : List ℕ) → AreBounds es bounds → length es < 64 * length bounds →
    AreBounds (es ++ (id, no_deadlines) ∷ []) bounds
bounds-pushed es id bounds are room =
    let more = length-append es ((id, no_deadlines) ∷ []) in
    record {
      cover = omega (arith, room, more);
      each = λ block l. record {
        none_before = λ place kind at is h. (are.each block l).none_before place kind at is (ap (λ d. deadline_at d kind) (sym (in-pushed es id place)) ∙ h);
      };
    }

-- ---- a bound that is set

-- ---- a deadline that is set
pub length-lowered : (bounds : List ℕ) (block : ℕ) (o : Option ℕ) → length (lowered bounds block o) ≡ length bounds
length-lowered bounds block None = refl
length-lowered bounds block (Some at) = length-set bounds block (min (get_or bounds block 0) at)

pub lowered-at : (bounds : List ℕ) (block at : ℕ) → block < length bounds → get_or (lowered bounds block (Some at)) block 0 ≤ at
lowered-at bounds block at within = let e = get_or-set_same bounds block (min (get_or bounds block 0) at) 0 within in omega (arith, e)

pub lowered-le : (bounds : List ℕ) (block : ℕ) (o : Option ℕ) (k : ℕ) → block < length bounds → get_or (lowered bounds block o) k 0 ≤ get_or bounds k 0
lowered-le bounds block None k within = omega arith
lowered-le bounds block (Some at) k within =
    let low : ℕ = min (get_or bounds block 0) at in
    elim (nat_eq k block) as (λ b. nat_eq k block ≡ b → get_or (set bounds block low) k 0 ≤ get_or bounds k 0) [
      | true ↦ λ here.
          let is : block ≡ k = sym (eqb-true k block here) in
          let e = get_or-set_same bounds block low 0 within in
          let less : get_or (set bounds block low) block 0 ≤ get_or bounds block 0 = omega (arith, e) in
          subst (λ j. get_or (set bounds block low) j 0 ≤ get_or bounds j 0) is less
      | false ↦ λ other. let e = get_or-set_other bounds block k low 0 (eqb-false k block other) in omega (arith, e)
    ] refl

module _ (es : List (TransactionId × Deadlines)) (bounds : List ℕ) (place : ℕ) (kind : Kind) (o : Option ℕ) (within : place < length es) (are : AreBounds es bounds) where
  abbrev old : Deadlines
  old = deadlines_in es place

  abbrev after : List (TransactionId × Deadlines)
  after = set_value_at es place (with_deadline old kind o)

  pub block-within : place / 64 < length bounds
  block-within = let cover = are.cover in omega (arith, cover, within)

  in-after : (q : ℕ) → deadlines_in after q ≡ get_or (set (values_of es) place (with_deadline old kind o)) q no_deadlines
  in-after q = ap (λ l. get_or l q no_deadlines) (values-replaced es place (with_deadline old kind o))

  set-here : (k : Kind) (x : ℕ) → deadline_at (with_deadline old kind o) k ≡ Some x → (o ≡ Some x) ⊎ (deadline_at old k ≡ Some x)
  set-here k x h = elim (is_eq (nat_cmp (kind_place k) (kind_place kind))) as (λ b. cond b o (deadline_at old k) ≡ Some x → (o ≡ Some x) ⊎ (deadline_at old k ≡ Some x)) [
    | true ↦ λ e. inl e
    | false ↦ λ e. inr e
  ] (sym (written old kind o k) ∙ h)

  -- a deadline is the one that was set, or was there before
  from : (q : ℕ) (k : Kind) (x : ℕ) → deadline_at (deadlines_in after q) k ≡ Some x → ((q ≡ place) × (o ≡ Some x)) ⊎ (deadline_at (deadlines_in es q) k ≡ Some x)
  from q k x h = elim (nat_eq q place) as (λ b. nat_eq q place ≡ b → ((q ≡ place) × (o ≡ Some x)) ⊎ (deadline_at (deadlines_in es q) k ≡ Some x)) [
    | true ↦ λ here.
        let at : q ≡ place = eqb-true q place here in
        let size = length-values es in
        let there : place < length (values_of es) = omega (arith, size, within) in
        let is : deadlines_in after q ≡ with_deadline old kind o =
        ap (deadlines_in after) at ∙ in-after place ∙ get_or-set_same (values_of es) place (with_deadline old kind o) no_deadlines there in
        elim (set-here k x (ap (λ d. deadline_at d k) (sym is) ∙ h)) as (λ _. ((q ≡ place) × (o ≡ Some x)) ⊎ (deadline_at (deadlines_in es q) k ≡ Some x)) [
          | inl e ↦ inl (at, e)
          | inr e ↦ inr (ap (λ i. deadline_at (deadlines_in es i) k) at ∙ e)
        ]
    | false ↦ λ other.
        let is : deadlines_in after q ≡ deadlines_in es q =
        in-after q ∙ get_or-set_other (values_of es) place q (with_deadline old kind o) no_deadlines (eqb-false q place other) in
        inr (ap (λ d. deadline_at d k) (sym is) ∙ h)
  ] refl

  pub bounds-written : AreBounds after (lowered bounds (place / 64) o)
  bounds-written =
      let cover = are.cover in
      let size = length-replaced es place (with_deadline old kind o) in
      let same = length-lowered bounds (place / 64) o in
      record {
        cover = omega (arith, cover, size, same);
        each = λ block l. record {
          none_before = λ q k x is h. elim (from q k x h) as (λ _. get_or (lowered bounds (place / 64) o) block 0 ≤ x) [
            | inl p ↦
                let here : place / 64 ≡ block = ap (λ i. i / 64) (sym p.0) ∙ is in
                let low : get_or (lowered bounds (place / 64) o) (place / 64) 0 ≤ x =
                subst (λ u. get_or (lowered bounds (place / 64) u) (place / 64) 0 ≤ x) (sym p.1) (lowered-at bounds (place / 64) x block-within) in
                subst (λ b. get_or (lowered bounds (place / 64) o) b 0 ≤ x) here low
            | inr e ↦
                let there : block < length bounds = omega (arith, l, same) in
                let was = (are.each block there).none_before q k x is e in
                let less = lowered-le bounds (place / 64) o block block-within in
                omega (arith, was, less)
          ];
        };
      }

-- ---- the earliest deadlines
abbrev pub IsNoLater : Option ℕ → ℕ → Type 0
IsNoLater o at = (x : ℕ) × (o ≡ Some x) × (x ≤ at)

pub no_later-left : (a b : Option ℕ) (at : ℕ) → IsNoLater a at → IsNoLater (earlier a b) at
no_later-left None b at h = absurd (none-some h.0 h.1)
no_later-left (Some x) None at h = h
no_later-left (Some x) (Some y) at h =
    let is : x ≡ h.0 = same_Some x h.0 h.1 in
    let l = h.2 in (min x y, refl, omega (arith, is, l))

pub no_later-right : (a b : Option ℕ) (at : ℕ) → IsNoLater b at → IsNoLater (earlier a b) at
no_later-right None b at h = h
no_later-right (Some x) None at h = absurd (none-some h.0 h.1)
no_later-right (Some x) (Some y) at h =
    let is : y ≡ h.0 = same_Some y h.0 h.1 in
    let l = h.2 in (min x y, refl, omega (arith, is, l))

pub no_later-next : (d : Deadlines) (kind : Kind) (at : ℕ) → deadline_at d kind ≡ Some at → IsNoLater (next_of d) at
no_later-next d EofAck at h = no_later-left d.eof_ack (earlier d.nak (earlier d.finished_ack d.inactivity)) at (at, h, omega arith)
no_later-next d Nak at h =
    no_later-right d.eof_ack (earlier d.nak (earlier d.finished_ack d.inactivity)) at (no_later-left d.nak (earlier d.finished_ack d.inactivity) at (at, h, omega arith))
no_later-next d FinishedAck at h =
    no_later-right d.eof_ack (earlier d.nak (earlier d.finished_ack d.inactivity)) at
    (no_later-right d.nak (earlier d.finished_ack d.inactivity) at (no_later-left d.finished_ack d.inactivity at (at, h, omega arith)))
no_later-next d Inactivity at h =
    no_later-right d.eof_ack (earlier d.nak (earlier d.finished_ack d.inactivity)) at
    (no_later-right d.nak (earlier d.finished_ack d.inactivity) at (no_later-right d.finished_ack d.inactivity at (at, h, omega arith)))

-- the bounds of a block's indices up to one are no earlier
pub record AreNoEarlier (es : List (TransactionId × Deadlines)) (first place : ℕ) (o : Option ℕ) : Type 0 where
  pub each : (q : ℕ) (kind : Kind) (at : ℕ) → first ≤ q → q < place → deadline_at (deadlines_in es q) kind ≡ Some at → IsNoLater o at

pub no_earlier-more : (es : List (TransactionId × Deadlines)) (first place : ℕ) (o : Option ℕ) → AreNoEarlier es first place o →
    AreNoEarlier es first (place + 1) (earlier o (next_of (deadlines_in es place)))
no_earlier-more es first place o are = record {
  each = λ q kind at low high h. elim (nat_eq q place) as (λ b. nat_eq q place ≡ b → IsNoLater (earlier o (next_of (deadlines_in es place))) at) [
    | true ↦ λ here.
        let is : q ≡ place = eqb-true q place here in
        no_later-right o (next_of (deadlines_in es place)) at (no_later-next (deadlines_in es place) kind at (ap (λ i. deadline_at (deadlines_in es i) kind) (sym is) ∙ h))
    | false ↦ λ other.
        let apart : q ≢ place = eqb-false q place other in
        let before : q < place = omega (arith, high, apart) in
        no_later-left o (next_of (deadlines_in es place)) at (are.each q kind at low before h)
  ] refl;
}
