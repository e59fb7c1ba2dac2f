use Rattle.cfdp_watch.specs.Capture.{capture_octets}
use Rattle.std.proofs.Common.{[]}
use Rattle.cfdp_dump.proofs.TextLines.{appends_flushed}
use Rattle.cfdp_watch.proofs.capture.begin_capture.Goals as goal

pub returns-clause-begun : goal.returns-clause-begun
returns-clause-begun g c =
    appends_flushed _ _ _ _ (capture_octets []) c.in_ok-write_all.ensures.bytes c.flush.ensures.bytes
