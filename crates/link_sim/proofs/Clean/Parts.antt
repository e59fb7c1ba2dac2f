-- The parts of a settling, one after the other.
use Rattle.std.proofs.Common.{◌≡◌, ◌||◌, Bool, true, false, Result, Ok, Err, refl, sym, subst, inr}
use Rattle.link_sim.specs.Observed.{seen}
use Rattle.link_sim.specs.Parts.{SettlesPart}
use Rattle.link_sim.specs.World.State.{WorldState}
use Rattle.link_sim.specs.declared.event.Event.{Event}
use Rattle.station_pair.specs.declared.settle_error.SettleError.{SettleError}
use Rattle.link_sim.proofs.Clean.Causes.{Lowers, cause-then, lowers-both, on-both}
use Rattle.link_sim.proofs.Events.Folding.{leads-both}

-- an error that is handed up
pub err-as : {X : Type 0} (r : Result X SettleError) (P : Result X SettleError → Type 0) (y e : SettleError) → r ≡ Err y → y ≡ e → P (Err e) → P r
err-as r P y e is same p = subst P (sym is) (subst (λ (x : SettleError). P (Err x)) (sym same) p)

pub part-both : (from mid upto : Event) (a b : Bool) (x y z : WorldState) → SettlesPart from mid (Ok a) x y → SettlesPart mid upto (Ok b) y z → SettlesPart from upto (Ok (a || b)) x z
part-both from mid upto a b x y z one two =
    let both : Lowers (a || b) x z = lowers-both a b x y z (one.work.less, one.same) (two.work.less, two.same) in
    record {
      work = record { leads = leads-both (seen x) (seen y) (seen z) one.work.leads two.work.leads; less = both.0 };
      same = both.1;
      well = on-both from mid upto x y z one.well two.well;
      cause = tt;
    }

-- if anything happened before, and if nothing did
pub part-then : (from mid upto : Event) (r a b : Bool) (x y z : WorldState) → r ≡ true → a ≡ true → SettlesPart from mid (Ok a) x y → SettlesPart mid upto (Ok b) y z → SettlesPart from upto (Ok r) x z
part-then from mid upto r a b x y z so is one two =
    subst (λ d. SettlesPart from upto (Ok d) x z) (sym so) (part-both from mid upto true b x y z (subst (λ d. SettlesPart from mid (Ok d) x y) is one) two)

pub part-else : (from mid upto : Event) (a b : Bool) (x y z : WorldState) → a ≡ false → SettlesPart from mid (Ok a) x y → SettlesPart mid upto (Ok b) y z → SettlesPart from upto (Ok b) x z
part-else from mid upto a b x y z is one two = part-both from mid upto false b x y z (subst (λ d. SettlesPart from mid (Ok d) x y) is one) two

-- three parts
pub part-three : (from two three upto : Event) (a b d : Bool) (w x y z : WorldState) → SettlesPart from two (Ok a) w x → SettlesPart two three (Ok b) x y → SettlesPart three upto (Ok d) y z →
    SettlesPart from upto (Ok ((a || b) || d)) w z
part-three from two three upto a b d w x y z first second third =
    part-both from three upto (a || b) d w y z (part-both from two three a b w x y first second) third

pub none-true : (a b c : Bool) → a ≡ false → b ≡ false → c ≡ false → ((a || b) || c) ≡ false
none-true true b c e f g = absurd cc
none-true false true c e f g = absurd cc
none-true false false true e f g = absurd cc
none-true false false false e f g = refl

-- the first part failed, and one after others
pub first-fails : (from mid upto : Event) (error : SettleError) (x y : WorldState) → SettlesPart from mid (Err error) x y → SettlesPart from upto (Err error) x y
first-fails from mid upto error x y one = record { work = record { leads = one.work.leads; less = tt }; same = tt; well = tt; cause = one.cause }

pub then-fails : (from mid next upto : Event) (a : Bool) (error : SettleError) (x y z : WorldState) → SettlesPart from mid (Ok a) x y → SettlesPart mid next (Err error) y z →
    SettlesPart from upto (Err error) x z
then-fails from mid next upto a error x y z one two = record {
  work = record { leads = leads-both (seen x) (seen y) (seen z) one.work.leads two.work.leads; less = tt };
  same = tt;
  well = tt;
  cause = cause-then error from mid x y z (inr one.well) two.cause;
}
