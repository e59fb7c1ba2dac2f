-- What each field of a link, or of one of its channels, must be.
use Rattle.std.specs.Prelude.{◌≢◌, ◌<◌, ◌≤◌}
use Rattle.aos_frame.specs.LinkFields.{AreFields}
use Rattle.aos_frame.specs.Frame.{idle_channel}
use Rattle.aos_frame.specs.declared.config.ChannelConfig.{ChannelConfig}
use Rattle.aos_frame.specs.declared.config.LinkConfig.{LinkConfig}
use Rattle.aos_frame.specs.declared.config.LinkField.{LinkField}
use Rattle.aos_frame.specs.declared.config.LinkField.TheVariants.{VirtualChannel, DataVirtualChannel}
use Rattle.aos_frame.specs.declared.config.LinkField.TheVariants.{Zone, Apid, InsertZone}

abbrev pub FitsLink : LinkField → LinkConfig → Type 0
FitsLink VirtualChannel link = link.virtual_channel < idle_channel
FitsLink DataVirtualChannel link =
    (link.data_virtual_channel < idle_channel) × (link.data_virtual_channel ≢ link.virtual_channel)
FitsLink Zone link = (16 ≤ link.zone) × (link.zone ≤ 2040)
FitsLink Apid link = link.apid ≤ 2046
FitsLink InsertZone link = AreFields link.fields

-- A channel has no other one beside it, so any value is accepted here.
abbrev pub FitsChannel : LinkField → ChannelConfig → Type 0
FitsChannel VirtualChannel c = c.virtual_channel < idle_channel
FitsChannel DataVirtualChannel c = Unit {0}
FitsChannel Zone c = (16 ≤ c.zone) × (c.zone ≤ 2040)
FitsChannel Apid c = c.apid ≤ 2046
FitsChannel InsertZone c = AreFields c.fields
