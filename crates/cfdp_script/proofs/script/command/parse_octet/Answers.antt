use Rattle.std.proofs.Common.{◌∙◌, sym}
use Rattle.cfdp_report.proofs.Numerals.{octet_is}
use Rattle.cfdp_script.proofs.script.command.parse_octet.Goals as goal

pub returns : goal.returns
returns c = sym c.ok_or.ensures.ok_part ∙ octet_is _ _ c.parse_hex_octet.ensures.some c.parse_hex_octet.ensures.value
