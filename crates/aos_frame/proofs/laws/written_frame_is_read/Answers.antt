use Rattle.aos_frame.proofs.Spelling.{written_frame_is_read}
use Rattle.aos_frame.proofs.laws.written_frame_is_read.Goals as goal

pub returns : goal.returns
returns c = written_frame_is_read
