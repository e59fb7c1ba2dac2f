-- What is wrong with numbers that are set of a station.
use Rattle.std.specs.Prelude.{ℕ, ◌≡◌, ◌≢◌, ◌<◌, nat_le, ◌+◌, ◌⊎◌, Bool, true, List, codes}
use Rattle.std.specs.List.{list_all}
use Rattle.cfdp_setup.specs.Keys.{most_of, name_of, own_keys}
use Rattle.cfdp_setup.specs.Links.{FitsOctets, HasRoom, mac_len}
use Rattle.cfdp_setup.specs.declared.misfit.Misfit.{Misfit}
use Rattle.cfdp_setup.specs.declared.misfit.Misfit.TheVariants.{OneId, WideId, TooGreat, Mac, ShortZone, OneChannel, Other}
use Rattle.cfdp_setup.specs.declared.own_key.OwnKey.{OwnKey}
use Rattle.cfdp_setup.specs.declared.own_key.OwnKey.TheVariants as key
use Rattle.cfdp_setup.specs.declared.station_setup.StationSetup.{StationSetup}

-- the number that is set by a key
abbrev pub value_of : OwnKey → StationSetup → ℕ
value_of key.Spacecraft s = s.spacecraft
value_of key.VirtualChannel s = s.own.virtual_channel
value_of key.DataVirtualChannel s = s.own.data_virtual_channel
value_of key.Apid s = s.own.apid
value_of key.PeerVirtualChannel s = s.peer.virtual_channel
value_of key.PeerDataVirtualChannel s = s.peer.data_virtual_channel
value_of key.PeerApid s = s.peer.apid
value_of key.PacketType s = s.packets.packet_type
value_of key.SecondaryHeader s = s.packets.secondary_header
value_of key.PeerSecondaryHeader s = s.packets.peer_secondary_header
value_of key.PeerInsertZone s = s.peer_fields.insert_zone
value_of key.PeerControlField s = s.peer_fields.control_field
value_of key.PeerErrorControl s = s.peer_fields.error_control
value_of key.Mac s = mac_len s

-- the key of this name has this value, which is greater than its greatest
abbrev pub IsTooGreat : StationSetup → (name : List ℕ) → (value most : ℕ) → Type 0
IsTooGreat s name value most = (own : OwnKey) × (name ≡ name_of own) × (value ≡ value_of own s)
    × (most ≡ most_of own) × (most < value)

-- a key's value is at most its greatest
abbrev pub is_in_range : StationSetup → OwnKey → Bool
is_in_range s own = nat_le (value_of own s) (most_of own)

abbrev pub are_in_range : StationSetup → List OwnKey → Bool
are_in_range s keys = list_all (is_in_range s) keys

-- both channels of a direction are this one
abbrev pub HaveOneChannel : StationSetup → (one other : OwnKey) → (channel : ℕ) → Type 0
HaveOneChannel s one other channel = (value_of one s ≡ channel) × (value_of other s ≡ channel)

-- the two ids differ, and each fits the octets of an id
abbrev pub FitIds : StationSetup → (id peer : ℕ) → Type 0
FitIds s id peer = (id ≢ peer) × FitsOctets id s.settings.id_width
    × FitsOctets peer s.settings.id_width

-- the channels of each direction differ
abbrev pub HasChannels : StationSetup → Type 0
HasChannels s = (s.own.virtual_channel ≢ s.own.data_virtual_channel)
    × (s.peer.virtual_channel ≢ s.peer.data_virtual_channel)

-- What is named is so. Something else is wrong only if nothing of that has a name here.
abbrev pub IsMisfit : StationSetup → (id peer : ℕ) → Misfit → Type 0
IsMisfit s id peer (OneId one) = (id ≡ one) × (peer ≡ one)
IsMisfit s id peer (WideId option width) = (width ≡ s.settings.id_width)
    × (((option.now ≡ codes "id") × (FitsOctets id width → ⊥))
    ⊎ ((option.now ≡ codes "peer") × (FitsOctets peer width → ⊥)))
IsMisfit s id peer (TooGreat name value most) = IsTooGreat s name.now value most
IsMisfit s id peer (Mac len) = (s.is_secured ≡ true) × (len ≡ mac_len s) × (len ≢ 16) × (len ≢ 32)
IsMisfit s id peer (ShortZone least zone len) = (s.is_secured ≡ true) × (len ≡ mac_len s)
    × (zone ≡ s.settings.zone) × (least ≡ 26 + len) × (zone < least)
IsMisfit s id peer (OneChannel one other channel) =
    ((one.now ≡ name_of key.VirtualChannel) × (other.now ≡ name_of key.DataVirtualChannel)
    × HaveOneChannel s key.VirtualChannel key.DataVirtualChannel channel)
    ⊎ ((one.now ≡ name_of key.PeerVirtualChannel)
    × (other.now ≡ name_of key.PeerDataVirtualChannel)
    × HaveOneChannel s key.PeerVirtualChannel key.PeerDataVirtualChannel channel)
IsMisfit s id peer Other = (are_in_range s own_keys ≡ true) × HasRoom s × FitIds s id peer
    × HasChannels s
