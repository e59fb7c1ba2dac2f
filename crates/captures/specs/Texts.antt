-- Why nothing is read of a capture, or of a packet in it, by number, name, and what is said with
-- them.
use Rattle.std.specs.Prelude.{ℕ, List, ◌++◌, codes, decimal}
use Rattle.captures.specs.declared.fault.CaptureFault.{CaptureFault}
use Rattle.captures.specs.declared.fault.CaptureFault.TheVariants.{CutOff, BadLength, BadOrder, BadVersion, BadInterface}
use Rattle.captures.specs.declared.unit.SkipCause.{SkipCause}
use Rattle.captures.specs.declared.unit.SkipCause.TheVariants.{CutShort, OtherLink, NotIp, Fragment, NotUdp, Malformed}

abbrev pub fault_text : CaptureFault → List ℕ
fault_text CutOff = codes "error 20 CutOff"
fault_text BadLength = codes "error 21 BadLength"
fault_text BadOrder = codes "error 22 BadOrder"
fault_text BadVersion = codes "error 23 BadVersion"
fault_text BadInterface = codes "error 24 BadInterface"

abbrev pub passed_text : SkipCause → List ℕ
passed_text (CutShort captured all) =
    codes "error 25 SnapLength " ++ (decimal captured ++ (codes " octets of " ++ decimal all))
passed_text (OtherLink link_type) = codes "error 26 OtherLink " ++ decimal link_type
passed_text NotIp = codes "error 27 NotIp"
passed_text Fragment = codes "error 28 Fragment"
passed_text (NotUdp protocol) = codes "error 29 NotUdp " ++ decimal protocol
passed_text Malformed = codes "error 30 Malformed"
