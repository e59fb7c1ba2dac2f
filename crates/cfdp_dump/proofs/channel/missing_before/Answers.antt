use Rattle.std.proofs.Common.{subst}
use Rattle.cfdp_dump.specs.Carrying.{IsMissing, count_of}
use Rattle.cfdp_dump.proofs.Missing.{is_missing, told}
use Rattle.cfdp_dump.proofs.channel.missing_before.Goals as goal

pub returns-in-Follows-clause-missing : goal.returns-in-Follows-clause-missing
returns-in-Follows-clause-missing c =
    subst (λ k. IsMissing c.args.monitor.now (count_of c.args.header) (told k)) c.in-Follows.is
    (is_missing c.args.monitor.now (count_of c.args.header) c.see.result c.see.ensures.first c.see.ensures.told c.one_number_is_missing.ensures.some)

pub returns-in-Gap-clause-missing : goal.returns-in-Gap-clause-missing
returns-in-Gap-clause-missing c =
    subst (λ k. IsMissing c.args.monitor.now (count_of c.args.header) (told k)) c.in-Gap.is
    (is_missing c.args.monitor.now (count_of c.args.header) c.see.result c.see.ensures.first c.see.ensures.told c.one_number_is_missing.ensures.some)
