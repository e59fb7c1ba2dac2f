use Rattle.cfdp_resuming.proofs.Anew.{read-staged}
use Rattle.cfdp_resuming.proofs.laws.what_is_read_anew_is_summed.Goals as goal

pub returns : goal.returns
returns c wanted held ranges m are there =
    read-staged m c.a_set_is_what_it_holds.ensures.ranges c.cut_file_has_its_checksum.ensures.none c.cut_file_has_its_checksum.ensures.more wanted held ranges are there
