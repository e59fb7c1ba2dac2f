use Rattle.std.proofs.lemmas.Result.{on_ok_weaker}
use Rattle.key_file.proofs.Entries.{line-added}
use Rattle.key_file.proofs.lines.add_line.Goals as goal

pub returns-clause-adds : goal.returns-clause-adds
returns-clause-adds c =
    on_ok_weaker c.add.result (line-added c.args.line.now c.before_comment.ensures
    c.in_ok-spi.ensures c.in-Some.is c.in_ok-direction.ensures.says) c.add.ensures.adds
