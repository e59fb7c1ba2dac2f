use Rattle.std.proofs.Common.{◌+◌, ◌≤◌, ℕ, sym, subst}
use Rattle.cfdp_directives.specs.declared.user.policy.Policy.{Policy}
use Rattle.cfdp_entity.specs.Entity.{EntityState}
use Rattle.cfdp_endings.specs.Entity.{records_left, GivesUp, Ends, IsLively}
use Rattle.cfdp_endings.proofs.Tables.{MachineLaws}
use Rattle.cfdp_endings.proofs.Rounds.{round-less, rounds-less, rounds-end, round-lively, most-all}
use Rattle.cfdp_endings.proofs.Closing.{rounds-close}
use Rattle.cfdp_endings.proofs.laws.an_entity_alone_ends.Goals as goal

-- the table does as it is configured
falls-by : (n : ℕ) (old new : EntityState) → IsLively old → n + records_left old.table.policy.limits new.table.records ≤ records_left old.table.policy.limits old.table.records →
    n + records_left old.config.policy.limits new.table.records ≤ records_left old.config.policy.limits old.table.records
falls-by n old new k low = subst (λ (p : Policy). n + records_left p.limits new.table.records ≤ records_left p.limits old.table.records) k.policy low

few-by : (n : ℕ) (old : EntityState) → IsLively old → records_left old.config.policy.limits old.table.records ≤ n → records_left old.table.policy.limits old.table.records ≤ n
few-by n old k many = subst (λ (p : Policy). records_left p.limits old.table.records ≤ n) (sym k.policy) many

pub returns : goal.returns
returns c =
    let owes = c.a_receiver_is_never_silent.ensures in
    let file = c.what_is_due_is_in_the_file.ensures in
    let laws : MachineLaws = record { in_file = file.stays; put = file.opened; step = owes.stays; opened = owes.opened; closed = owes.closed } in
    record {
      round = λ old new g k r. falls-by 1 old new k (round-less old new (subst GivesUp (sym k.policy) g) k.table r).0;
      rounds = λ n old new g k run. falls-by n old new k (rounds-less laws n old new (subst GivesUp (sym k.policy) g) k.table run);
      ends = λ n old new g k run many. rounds-end laws n old new (subst GivesUp (sym k.policy) g) k.table run (few-by n old k many);
      closes = λ n old new e k awake run many rests. rounds-close laws n old new (subst Ends (sym k.policy) e) k.table awake run (few-by n old k many) rests;
      most = most-all;
      lively = round-lively laws;
    }
