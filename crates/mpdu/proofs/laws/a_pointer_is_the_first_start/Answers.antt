use Rattle.mpdu.proofs.Pointers.{first_start}
use Rattle.mpdu.proofs.laws.a_pointer_is_the_first_start.Goals as goal

pub returns : goal.returns
returns c z start ps = first_start z start 0 ps
