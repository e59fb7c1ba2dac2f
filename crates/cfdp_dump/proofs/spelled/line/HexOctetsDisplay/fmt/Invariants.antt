use Rattle.std.proofs.Common.{take}
use Rattle.std.specs.Fmt.{HasWritten, IsPlainFormatter}
use Rattle.std.specs.List.{flat_map}
use Rattle.cfdp_dump.specs.Spelled.Lines.{hex_octet_text}
use Rattle.cfdp_dump.proofs.spelled.line.HexOctetsDisplay.fmt.Given as goal

-- the octets so far are written
abbrev pub invariant-loop-octet : goal.invariant-loop-octet
invariant-loop-octet g l =
    IsPlainFormatter l.initial.f
    → HasWritten g.W.Write.write_str_gives l.initial.f (flat_map hex_octet_text (take l.octet-index l.octet-items)) l.f
