use Rattle.std.proofs.Common.{◌≡◌, map, drop}
use Rattle.cfdp_report.specs.Settings.{key_among, row_key}
use Rattle.cfdp_report.proofs.settings.table.with_key.Given as goal

-- none of the rows so far has that key
abbrev pub invariant-loop-row : goal.invariant-loop-row
invariant-loop-row l = key_among (map row_key l.rows) l.word ≡ key_among (map row_key (drop l.row-index l.rows)) l.word
