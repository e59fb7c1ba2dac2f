use Rattle.std.proofs.Common.{◌≡◌, ℕ, List, ◌++◌}
use Rattle.std.specs.Fmt.{HasWritten, IsPlainFormatter}
use Rattle.std.specs.List.{flat_map}
use Rattle.cfdp_dump.specs.Spelled.Fields.{option_field}
use Rattle.cfdp_dump.proofs.spelled.fields.OptionFieldListDisplay.fmt.Given as goal

-- some words are written, and those of the options that are left make up all
abbrev pub invariant-loop-kind : goal.invariant-loop-kind
invariant-loop-kind g l =
    (words : List ℕ)
    × (IsPlainFormatter l.initial.f → HasWritten g.W.Write.write_str_gives l.initial.f words l.f)
    × (flat_map option_field l.self.0.now ≡ words ++ flat_map option_field l.kind-iterator)
