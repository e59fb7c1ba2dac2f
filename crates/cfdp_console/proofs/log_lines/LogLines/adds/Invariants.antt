use Rattle.std.proofs.Common.{◌≡◌, ◌++◌, take}
use Rattle.cfdp_console.proofs.log_lines.LogLines.adds.Given as goal

abbrev pub invariant-loop-octet : goal.invariant-loop-octet
invariant-loop-octet l = l.self.came ≡ l.initial.self.came ++ take l.octet-index l.octets
