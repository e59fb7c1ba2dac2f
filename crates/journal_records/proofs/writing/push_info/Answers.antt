use Rattle.std.proofs.Common.{List, ℕ, ◌++◌}
use Rattle.journal_records.specs.Writing.{id_octets, name_octets, octet}
use Rattle.journal_records.proofs.Appended.{after, on-ok, written-of}
use Rattle.journal_records.proofs.writing.push_info.Goals as goal

pub returns : goal.returns
returns c =
    let old = c.args.out.now.items in
    let info = c.args.info.now in
    let id : List ℕ = id_octets c.args.id in
    let kind : List ℕ = octet info.checksum_kind in
    let name : List ℕ = name_octets info.destination in
    let first = written-of octet c.code.result info.checksum_kind _ _ c.code.ensures.value c.in_ok-push_octet.ensures in
    let one = after id kind old _ _ c.in_ok-push_id.ensures first in
    on-ok c.push_name.result (λ last. after (id ++ kind) name old _ _ one (written-of name_octets c.as_slice.result.now info.destination _ _ c.as_slice.ensures last)) c.push_name.ensures
