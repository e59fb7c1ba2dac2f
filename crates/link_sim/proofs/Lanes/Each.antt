-- What holds of one lane and of the other one holds of both.
use Rattle.std.proofs.Common.{◌≡◌, refl}
use Rattle.aos_frame.specs.Frame.{IsChannel, IsLink, lane_channel, other_lane}
use Rattle.aos_frame.specs.declared.config.Lane.{Lane}
use Rattle.aos_frame.specs.declared.config.Lane.TheVariants.{Directives, Data}
use Rattle.aos_frame.specs.declared.config.LinkConfig.{LinkConfig}
use Rattle.link_sim.specs.FrameLink.{FrameLinksState, lane_of_links}
use Rattle.link_sim.specs.World.State.{on_lane, seen_link, seen_links}

pub each-lane : (P : Lane → Type 0) → P Directives → P Data → (l : Lane) → P l
each-lane P directives file_data Directives = directives
each-lane P directives file_data Data = file_data

pub either-lane : (P : Lane → Type 0) (l : Lane) → P l → P (other_lane l) → (k : Lane) → P k
either-lane P Directives here there Directives = here
either-lane P Directives here there Data = there
either-lane P Data here there Directives = there
either-lane P Data here there Data = here

-- a lane of a link that can be, can be
pub lane-valid : (l : Lane) (link : LinkConfig) → IsLink link → IsChannel (lane_channel l link)
lane-valid Directives link valid = record {
  virtual_channel = valid.virtual_channel;
  least_zone = valid.least_zone;
  most_zone = valid.most_zone;
  apid = valid.apid;
  fields = valid.fields;
}
lane-valid Data link valid = record {
  virtual_channel = valid.data_virtual_channel;
  least_zone = valid.least_zone;
  most_zone = valid.most_zone;
  apid = valid.apid;
  fields = valid.fields;
}

-- a lane of the frames, as it is seen
pub lane-seen : (l : Lane) (k : FrameLinksState) → on_lane l (seen_links k) ≡ seen_link (lane_of_links l k)
lane-seen Directives k = refl
lane-seen Data k = refl
