use Rattle.std.proofs.Common.{◌≤◌, vec_len}
use Rattle.std.specs.Io.KnownBytes.{Consumes}
use Rattle.cfdp_report.proofs.reading.read_up_to.Given as goal

-- no longer than the longest file, and all that the reader gave so far
abbrev pub invariant-loop : goal.invariant-loop
invariant-loop g l =
    (vec_len l.file ≤ l.most) × Consumes (g.R.Read.remaining l.initial.reader) (g.R.Read.remaining l.reader) l.file.items
