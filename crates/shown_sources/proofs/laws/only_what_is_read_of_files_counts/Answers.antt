use Rattle.std.proofs.Common.{sym, subst}
use Rattle.cfdp_header.specs.Files.{FileMap}
use Rattle.shown_sources.specs.Shown.{AreAsLong}
use Rattle.shown_sources.proofs.Hearing.{frame_keeps, frame_sending}
use Rattle.shown_sources.proofs.Polling.{poll_long, poll_sending}
use Rattle.shown_sources.proofs.Tables.{accepts_keeps, accepts_sending, put_refused_same, some_keeps, some_sending, station_answers, station_keeps, ticks_keep, ticks_sending}
use Rattle.shown_sources.proofs.laws.only_what_is_read_of_files_counts.Goals as goal

pub returns : goal.returns
returns c = record {
  polls = λ files answer old new p long reads. poll_sending files old new answer p long reads;
  polled = λ files answer old new p long. poll_long files old new answer p long;
  puts = λ files source destination id old new a long.
      (accepts_sending files source destination id old new long a, subst (λ (x : FileMap). AreAsLong x files) (sym (accepts_keeps source destination id old new a)) long);
  refused = λ files stored source destination e long. put_refused_same files stored source destination e long;
  frames = λ files frame old new t. (frame_sending files frame old new t, frame_keeps frame old new t);
  requests = λ files c id answer old new a. (station_answers files c id answer old new a, station_keeps c id answer old new a);
  ticks = λ files now old new t. (ticks_sending files now old new t, ticks_keep now old new t);
  forgets = λ files old new f. (some_sending files old new f, some_keeps old new f);
}
