use Rattle.std.proofs.Common.{length, append_assoc, refl}
use Rattle.cfdp_directives.proofs.Spelling.{one_octet}
use Rattle.cfdp_directives.proofs.pdu.writing.put_lv.Goals as goal

pub returns-clause-front : goal.returns-clause-front
returns-clause-front c = rw (c.put_bytes.ensures.front, c.put_uint-at.ensures.front, one_octet (length c.args.value.now) c.requires.short, append_assoc) refl
