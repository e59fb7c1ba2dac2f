-- What both lanes of a direction have, if each lane is as it was.
use Rattle.std.proofs.Common.{◌≡◌, ℕ, ◌+◌, List, ◌++◌, ap, ◌∙◌}
use Rattle.aos_frame.specs.declared.config.Lane.{Lane}
use Rattle.aos_frame.specs.declared.config.Lane.TheVariants.{Directives, Data}
use Rattle.station_pair.specs.declared.side.Side.{Side}
use Rattle.link_sim.specs.OneWay.{OneWayState, arriving, on_way}
use Rattle.link_sim.specs.Work.{octets_left, octets_left_from}
use Rattle.link_sim.specs.World.State.{WorldState, arriving_from, on_way_from, way_from}

module _ (s : Side) (old new : WorldState) (same : (l : Lane) → way_from s l new ≡ way_from s l old) where
  both-same : (of : OneWayState → List (List ℕ)) → of (way_from s Directives new) ++ of (way_from s Data new) ≡ of (way_from s Directives old) ++ of (way_from s Data old)
  both-same of = ap (λ w. of w ++ of (way_from s Data new)) (same Directives) ∙ ap (λ w. of (way_from s Directives old) ++ of w) (same Data)

  pub same-on-way : on_way_from s new ≡ on_way_from s old
  same-on-way = both-same on_way

  pub same-arriving : arriving_from s new ≡ arriving_from s old
  same-arriving = both-same arriving

  pub same-left : octets_left_from s new ≡ octets_left_from s old
  same-left = ap (λ w. octets_left w + octets_left (way_from s Data new)) (same Directives) ∙ ap (λ w. octets_left (way_from s Directives old) + octets_left w) (same Data)
