use Rattle.std.proofs.Common.{◌≡◌, ◌++◌, take, drop}
use Rattle.hmac.specs.Hmac.{xored}
use Rattle.hmac.proofs.key.xor_with.Given as goal

abbrev pub invariant-loop-i : goal.invariant-loop-i
invariant-loop-i l = l.octets ≡ xored l.pad (take l.i l.initial.octets) ++ drop l.i l.initial.octets
