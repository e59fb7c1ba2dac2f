use Rattle.std.proofs.Common.{refl, sym, append-nil}
use Rattle.batches.proofs.Cutting.{empty-none, one-reading, torn-none}
use Rattle.batches.proofs.laws.a_cut_leaves_whole_batches.Goals as goal

pub returns-clause-cut : goal.returns-clause-cut
returns-clause-cut c texts text n fit fits cut =
    record { octets = refl; fit = fit; none = torn-none text n fits cut }

pub returns-clause-whole : goal.returns-clause-whole
returns-clause-whole c texts fit =
    record { octets = sym (append-nil _); fit = fit; none = empty-none }

pub returns-clause-one : goal.returns-clause-one
returns-clause-one c = one-reading
