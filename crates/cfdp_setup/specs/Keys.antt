-- The keys of a station's `--set` beside those of a script.
use Rattle.std.specs.Prelude.{ℕ, ◌^◌, ◌-◌, List, [], ◌∷◌, Option, Some, None, codes, if◌then◌else◌}
use Rattle.cfdp_report.specs.Settings.{is}
use Rattle.cfdp_setup.specs.declared.own_key.OwnKey.{OwnKey}
use Rattle.cfdp_setup.specs.declared.own_key.OwnKey.TheVariants.{Spacecraft, VirtualChannel, DataVirtualChannel, Apid, PeerVirtualChannel, PeerDataVirtualChannel, PeerApid, PacketType, SecondaryHeader, PeerSecondaryHeader, PeerInsertZone, PeerControlField, PeerErrorControl, Mac}

-- the name of each
abbrev pub name_of : OwnKey → List ℕ
name_of Spacecraft = codes "spacecraft"
name_of VirtualChannel = codes "virtual_channel"
name_of DataVirtualChannel = codes "data_virtual_channel"
name_of Apid = codes "apid"
name_of PeerVirtualChannel = codes "peer_virtual_channel"
name_of PeerDataVirtualChannel = codes "peer_data_virtual_channel"
name_of PeerApid = codes "peer_apid"
name_of PacketType = codes "packet_type"
name_of SecondaryHeader = codes "secondary_header"
name_of PeerSecondaryHeader = codes "peer_secondary_header"
name_of PeerInsertZone = codes "peer_insert_zone"
name_of PeerControlField = codes "peer_control_field"
name_of PeerErrorControl = codes "peer_error_control"
name_of Mac = codes "mac"

-- the greatest value of each; that of a MAC isn't looked at with those of the others
abbrev pub most_of : OwnKey → ℕ
most_of Spacecraft = 255
most_of VirtualChannel = 62
most_of DataVirtualChannel = 62
most_of Apid = 2046
most_of PeerVirtualChannel = 62
most_of PeerDataVirtualChannel = 62
most_of PeerApid = 2046
most_of PacketType = 1
most_of SecondaryHeader = 63
most_of PeerSecondaryHeader = 63
most_of PeerInsertZone = 64
most_of PeerControlField = 1
most_of PeerErrorControl = 1
most_of Mac = 2 ^ 64 - 1

abbrev pub own_keys : List OwnKey
own_keys =
    Spacecraft ∷
    VirtualChannel ∷
    DataVirtualChannel ∷
    Apid ∷
    PeerVirtualChannel ∷
    PeerDataVirtualChannel ∷
    PeerApid ∷
    PacketType ∷
    SecondaryHeader ∷
    PeerSecondaryHeader ∷
    PeerInsertZone ∷
    PeerControlField ∷
    PeerErrorControl ∷
    Mac ∷
    []

-- the key of these whose name this word is
abbrev pub key_named : List OwnKey → List ℕ → Option OwnKey
key_named [] word = None
key_named (key ∷ rest) word = if is word (name_of key) then Some key else key_named rest word

abbrev pub own_key_of : List ℕ → Option OwnKey
own_key_of word = key_named own_keys word
