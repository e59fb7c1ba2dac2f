use Rattle.std.proofs.Common.{◌≡◌, drop}
use Rattle.station_pair.specs.declared.side.Side.TheVariants.{One, Two}
use Rattle.cfdp_script.specs.Script.Outboxes.{outbox_of, with_files}
use Rattle.cfdp_script.proofs.script.outboxes.outboxes.Given as goal

-- with the files that are left these are all files
abbrev pub invariant-loop-file : goal.invariant-loop-file
invariant-loop-file l =
    (with_files One l.one (drop l.file-index l.files) ≡ outbox_of One l.files)
    × (with_files Two l.two (drop l.file-index l.files) ≡ outbox_of Two l.files)
