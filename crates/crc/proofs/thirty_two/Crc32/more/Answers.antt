use Rattle.std.proofs.Common.{◌+◌, ◌%◌, ◌^◌, bit_xor, take, get_or, refl, ap, ◌∙◌, arith}
use Rattle.crc.specs.FileChecks.{left_behind}
use Rattle.crc.specs.Mirrors.{mirrored32, mirror_moved}
use Rattle.crc.proofs.Mirrors.{mirror_below}
use Rattle.crc.proofs.Tables32.{by_table, one_more, all_taken}
use Rattle.crc.proofs.thirty_two.Crc32.more.Goals as goal

pub loop-place-preserved : goal.loop-place-preserved
loop-place-preserved c =
    let kind = c.args.self in
    let o = c.args.octets.now in
    let n = c.loop-place.place in
    let b = get_or o n 0 in
    let y = c.loop-place.mirror in
    c.with_octet-mirror.ensures
    ∙ by_table kind c.tables-tables.result.now y b (bit_xor (y % 2 ^ 8) b) c.tables-tables.ensures (rw c.loop-place.invariant (mirror_below kind (left_behind kind c.args.before (take n o)))) (omega (arith, c.type_inv.octets n)) refl
    ∙ ap (λ m. mirror_moved kind 1 (bit_xor m b)) c.loop-place.invariant
    ∙ one_more kind c.args.before o n (n + 1) refl (omega arith) (omega (arith, c.type_inv.octets n))

pub returns : goal.returns
returns c =
    c.mirrored.ensures
    ∙ ap (mirrored32 c.args.self) c.loop-place.invariant
    ∙ all_taken c.args.self c.args.before c.args.octets.now c.loop-place.place (omega arith)
