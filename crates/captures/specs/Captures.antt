-- What a file of captured packets spells: its records, or its blocks, in order.
use Rattle.std.specs.Prelude.{◌≡◌, ◌⊎◌, ℕ, ◌<◌, ◌==◌, Bool, nat_lt, if◌then◌else◌, List, [], ◌∷◌, ◌++◌, length, Option, Some, None}
use Rattle.captures.specs.declared.fault.CaptureFault.{CaptureFault}
use Rattle.captures.specs.declared.order.ByteOrder.{ByteOrder}
use Rattle.captures.specs.declared.order.ByteOrder.TheVariants.{BigEndian, LittleEndian}
use Rattle.captures.specs.declared.packet.Interface.{Interface}
use Rattle.captures.specs.declared.reader.PlacedFault.{PlacedFault}
use Rattle.captures.specs.declared.reader.Next.{Next}
use Rattle.captures.specs.declared.reader.Next.TheVariants.{FileHeader, Record, Block}
use Rattle.captures.specs.Blocks.{BlockText, SpellsBlock, block_fault, enhanced_fault, enhanced_packet, interface_at, interface_fault, interface_in, section_fault, simple_fault, simple_packet}
use Rattle.captures.specs.Numbers.{number}
use Rattle.captures.specs.Packets.{CaptureState, Captured, Faulty, ItemText, PacketText, PassedOver}
use Rattle.captures.specs.Records.{SpellsHeader, SpellsRecord, has_magic, header_fault, record_fault}

-- ---- how a file begins
abbrev pub unread : Next → ByteOrder → CaptureState
unread next order = record { next = next; order = order; interfaces = [] }

-- a file that begins with a magic number of pcap, in either order, or with the kind of a section
-- header of pcapng; other files are no captures
abbrev pub start_of : List ℕ → Option CaptureState
start_of file =
    if nat_lt (length file) 4 then None
    else if has_magic BigEndian file then Some (unread FileHeader BigEndian)
    else if has_magic LittleEndian file then Some (unread FileHeader LittleEndian)
    else if number BigEndian file 0 == 0x0A0D0D0A then Some (unread Block BigEndian)
    else None

-- ---- what is in a block, by its kind: a section header begins a section without interfaces, an
-- interface goes after the interfaces before it, and a block of another kind is passed over
abbrev pub body_fault : CaptureState → BlockText → Option CaptureFault
body_fault st b =
    if b.kind == 0x0A0D0D0A then section_fault b.order b.body
    else if b.kind == 1 then interface_fault b.body
    else if b.kind == 3 then simple_fault b.order st.interfaces b.body
    else if b.kind == 6 then enhanced_fault b.order st.interfaces b.body
    else None

abbrev pub item_of : CaptureState → BlockText → ItemText
item_of st b =
    if b.kind == 3 then Captured (simple_packet b.order st.interfaces b.body)
    else if b.kind == 6 then Captured (enhanced_packet b.order st.interfaces b.body)
    else PassedOver

abbrev pub state_after : CaptureState → BlockText → CaptureState
state_after st b =
    if b.kind == 0x0A0D0D0A then unread Block b.order
    else if b.kind == 1
    then record st { interfaces = st.interfaces ++ interface_in b.order b.body ∷ [] }
    else st

-- ---- what stands at the front of a text, and the rest after it
pub record TakesHeader (st : CaptureState) (text : List ℕ) (item : ItemText) (after : CaptureState)
    (rest : List ℕ) : Type 0 where
  pub interface : Interface
  pub spelled : SpellsHeader st.order interface text rest
  pub says : item ≡ PassedOver
  pub leaves : after ≡ record st { next = Record; interfaces = interface ∷ [] }

pub record TakesRecord (st : CaptureState) (text : List ℕ) (item : ItemText) (after : CaptureState)
    (rest : List ℕ) : Type 0 where
  pub packet : PacketText
  pub spelled : SpellsRecord st.order (interface_at st.interfaces 0).link_type packet text rest
  pub says : item ≡ Captured packet
  pub leaves : after ≡ st

pub record TakesBlock (st : CaptureState) (text : List ℕ) (item : ItemText) (after : CaptureState)
    (rest : List ℕ) : Type 0 where
  pub block : BlockText
  pub spelled : SpellsBlock st.order block text rest
  pub sound : body_fault st block ≡ None
  pub says : item ≡ item_of st block
  pub leaves : after ≡ state_after st block

abbrev pub TakesNext : Next → CaptureState → (text : List ℕ) → ItemText → CaptureState →
    (rest : List ℕ) → Type 0
TakesNext FileHeader st text item after rest = TakesHeader st text item after rest
TakesNext Record st text item after rest = TakesRecord st text item after rest
TakesNext Block st text item after rest = TakesBlock st text item after rest

-- ---- nothing that can be read stands there
pub record HasBadBody (st : CaptureState) (text : List ℕ) (cause : CaptureFault) : Type 0 where
  pub block : BlockText
  pub behind : List ℕ
  pub spelled : SpellsBlock st.order block text behind
  pub bad : body_fault st block ≡ Some cause

abbrev pub HasFault : Next → CaptureState → (text : List ℕ) → CaptureFault → Type 0
HasFault FileHeader st text cause = header_fault st.order text ≡ Some cause
HasFault Record st text cause = record_fault st.order text ≡ Some cause
HasFault Block st text cause = (block_fault st.order text ≡ Some cause) ⊎ HasBadBody st text cause

-- Then nothing after it is read.
pub record TakesNone (st : CaptureState) (text : List ℕ) (item : ItemText) (after : CaptureState)
    (rest : List ℕ) : Type 0 where
  pub fault : PlacedFault
  pub found : HasFault st.next st text fault.cause
  pub place : fault.left ≡ length text
  pub says : item ≡ Faulty fault
  pub leaves : after ≡ st
  pub behind : rest ≡ []

-- ---- what was taken off the front of a text, what is known after it, and the rest
abbrev pub HasTaken : CaptureState → (text : List ℕ) → ItemText → CaptureState →
    (rest : List ℕ) → Type 0
HasTaken st text item after rest =
    TakesNext st.next st text item after rest ⊎ TakesNone st text item after rest

-- ---- what a text spells from its front on, what is known after that, and the rest; all of it,
-- if there is no rest
abbrev pub SpellsTo : CaptureState → (items : List ItemText) → (text : List ℕ) → CaptureState →
    (rest : List ℕ) → Type 0
SpellsTo st [] text last rest = (last ≡ st) × (rest ≡ text)
SpellsTo st (item ∷ items) text last rest =
    (0 < length text)
    × ((after : CaptureState) × (behind : List ℕ) × HasTaken st text item after behind
    × SpellsTo after items behind last rest)
