-- The orders are total, and only equal timers tie.
use Rattle.std.proofs.Common.{◌≡◌, ℕ, zero, suc, refl, sym, ap, ◌∙◌, Bool, true, false, unwrap_or}
use Rattle.std.specs.Cmp.{IsTotalOrder, on_total, then_total, nat_cmp_total, IsEquivalence, eq_by_cmp_equiv, Equal-is}
use Rattle.std.specs.FinMap.{IsAntisymmetric, nat_cmp-IsAntisymmetric, get}
use Rattle.std.specs.Ordering.{nat_cmp, eq_by_cmp}
use Rattle.cfdp_timers.specs.declared.kind.Kind.{Kind}
use Rattle.cfdp_timers.specs.declared.kind.Kind.TheVariants.{EofAck, Nak, FinishedAck, Inactivity}
use Rattle.cfdp_timers.specs.Order.{Timer, kind_place, timer_cmp}
use Rattle.cfdp_header.specs.Ids.{id_cmp}
use Rattle.cfdp_header.proofs.Ids.{id_total, both_tie, id_cmp-IsAntisymmetric}
use Rattle.cfdp_timers.specs.Armed.{Armed}
use Rattle.cfdp_timers.specs.Due.{firing_cmp}

pub timer_total : IsTotalOrder timer_cmp
timer_total = then_total (on_total (λ t. t.0) id_total) (on_total (λ t. kind_place t.1) nat_cmp_total)

pub firing_total : (armed : Armed) → IsTotalOrder (firing_cmp armed)
firing_total armed = then_total (on_total (λ t. unwrap_or (get armed t) 0) nat_cmp_total) timer_total

kind_at : ℕ → Kind
kind_at zero = EofAck
kind_at (suc zero) = Nak
kind_at (suc (suc zero)) = FinishedAck
kind_at (suc (suc (suc n))) = Inactivity

kind_at-place : (k : Kind) → kind_at (kind_place k) ≡ k
unfolding kind_at
kind_at-place EofAck = refl
kind_at-place Nak = refl
kind_at-place FinishedAck = refl
kind_at-place Inactivity = refl

same_kind : (x y : Kind) → kind_place x ≡ kind_place y → x ≡ y
same_kind x y e = sym (kind_at-place x) ∙ ap kind_at e ∙ kind_at-place y

pub same_timer : IsAntisymmetric timer_cmp
same_timer x y e =
    let ties = both_tie (id_cmp x.0 y.0) (nat_cmp (kind_place x.1) (kind_place y.1)) e in
    let id : x.0 ≡ y.0 = id_cmp-IsAntisymmetric _ _ ties.0 in
    let kind : x.1 ≡ y.1 = same_kind _ _ (nat_cmp-IsAntisymmetric _ _ ties.1) in
    λ i. (id i, kind i)

pub same_firing : (armed : Armed) → IsAntisymmetric (firing_cmp armed)
same_firing armed x y e = same_timer x y (both_tie (nat_cmp (unwrap_or (get armed x) 0) (unwrap_or (get armed y) 0)) (timer_cmp x y) e).1

pub timer_laws : IsEquivalence (eq_by_cmp timer_cmp)
timer_laws = eq_by_cmp_equiv timer_total

-- the order of firing ties what the order of timers ties
pub firing_ties : (armed : Armed) (x y : Timer) → eq_by_cmp (firing_cmp armed) x y ≡ eq_by_cmp timer_cmp x y
firing_ties armed x y = one_way (eq_by_cmp (firing_cmp armed) x y) (eq_by_cmp timer_cmp x y)
    (λ h. (Equal-is (timer_cmp x y)).1 (both_tie (nat_cmp (unwrap_or (get armed x) 0) (unwrap_or (get armed y) 0)) (timer_cmp x y) ((Equal-is (firing_cmp armed x y)).0 h)).1)
    (λ h. ap (λ t. eq_by_cmp (firing_cmp armed) x t) (sym (same_timer x y ((Equal-is (timer_cmp x y)).0 h))) ∙ (eq_by_cmp_equiv (firing_total armed)).refl x)
  where
    one_way : (a b : Bool) → (a ≡ true → b ≡ true) → (b ≡ true → a ≡ true) → a ≡ b
    one_way true b f g = sym (f refl)
    one_way false true f g = g refl
    one_way false false f g = refl
