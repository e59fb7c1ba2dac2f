use Rattle.cfdp_dump.proofs.Flushing.{flushed_dump}
use Rattle.cfdp_dump.proofs.dump.run_dump.Goals as goal

pub returns-clause-told : goal.returns-clause-told
returns-clause-told g c =
    flushed_dump _ _ _ c.flushed.ensures.kept c.args.request (g.R.Read.remaining c.args.reader) c.dump_lines.result c.flushed.result c.dump_lines.ensures c.flushed.ensures.answer c.flushed.ensures.none
