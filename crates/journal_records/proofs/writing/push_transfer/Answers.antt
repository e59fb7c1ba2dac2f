use Rattle.std.proofs.Common.{List, ℕ, ◌++◌}
use Rattle.std.specs.Int.{w16, w64, to_be_bytes}
use Rattle.journal_records.specs.Writing.{addressing_octets, name_octets, octet}
use Rattle.journal_records.proofs.Appended.{after, on-ok, written-of}
use Rattle.journal_records.proofs.writing.push_transfer.Goals as goal

pub returns : goal.returns
returns c =
    let t = c.args.transfer.now in
    let old = c.args.out.now.items in
    let how : List ℕ = addressing_octets t.addressing in
    let kind : List ℕ = octet t.checksum_kind in
    let segment : List ℕ = to_be_bytes w16 t.segment in
    let source : List ℕ = name_octets t.source in
    let destination : List ℕ = name_octets t.destination in
    let size : List ℕ = to_be_bytes w64 t.size in
    let first = written-of octet c.code.result t.checksum_kind _ _ c.code.ensures.value c.in_ok-push_octet.ensures in
    let second = written-of name_octets c.as_slice.result.now t.source _ _ c.as_slice.ensures c.in_ok-push_name.ensures in
    let third = written-of name_octets c.as_slice-2.result.now t.destination _ _ c.as_slice-2.ensures c.in_ok-push_name-2.ensures in
    let one = after how kind old _ _ c.in_ok-push_addressing.ensures first in
    let two = after (how ++ kind) segment old _ _ one c.in_ok-push_u16.ensures in
    let three = after (how ++ kind ++ segment) source old _ _ two second in
    let four = after (how ++ kind ++ segment ++ source) destination old _ _ three third in
    on-ok c.push_number.result (λ last. after (how ++ kind ++ segment ++ source ++ destination) size old _ _ four last) c.push_number.ensures
