use Rattle.std.proofs.Common.{◌≡◌}
use Rattle.std.specs.Prelude.{is_some}
use Rattle.cfdp_operator.proofs.operator_console.OperatorConsole.takes_notes.Given as goal

-- notes say nothing
abbrev pub invariant-loop-note : goal.invariant-loop-note
invariant-loop-note l = (l.self-inside.heard ≡ l.initial.self-inside.heard)
    × (l.self-inside.post.names ≡ l.initial.self-inside.post.names)
    × (is_some l.self-inside.post.transfers ≡ is_some l.initial.self-inside.post.transfers)
