use Rattle.std.proofs.Common.{map}
use Rattle.journal_records.specs.Writing.{records_octets}
use Rattle.journal_records.proofs.Journals.{journal-of, journal-cut, never-faulty, one-journal}
use Rattle.journal_records.proofs.Records.{records-again}
use Rattle.journal_records.proofs.laws.what_is_written_is_read.Goals as goal

pub returns : goal.returns
returns c =
    let laws = c.a_cut_leaves_whole_batches.ensures in
    record {
      again = records-again;
      whole = λ lists fit. journal-of _ lists _ fit (λ texts. laws.whole (map records_octets lists) texts);
      cut = λ lists rs n fit fits low. journal-cut laws.cut lists rs n fit fits low;
      one = one-journal laws.one;
      fine = never-faulty;
    }
