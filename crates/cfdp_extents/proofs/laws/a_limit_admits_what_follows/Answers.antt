use Rattle.cfdp_extents.proofs.Counted.{admits-from_zero, admits-after, keeps-limit}
use Rattle.cfdp_extents.proofs.laws.a_limit_admits_what_follows.Goals as goal

pub returns-clause-keeps : goal.returns-clause-keeps
returns-clause-keeps c = λ most held start end is few. keeps-limit most start end held is few

pub returns-clause-first : goal.returns-clause-first
returns-clause-first c = λ most held end. admits-from_zero most end held

pub returns-clause-follows : goal.returns-clause-follows
returns-clause-follows c = λ most held n end is up. admits-after most n end held is up
