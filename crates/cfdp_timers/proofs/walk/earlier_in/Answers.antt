-- A block whose bound is no earlier is skipped; otherwise one more transaction.
use Rattle.std.proofs.Common.{◌≡◌, ◌≤◌, ◌+◌, ◌*◌, drop, get_or, sym, ap, ◌∙◌, arith}
use Rattle.cfdp_timers.specs.Entries.{alarms, earlier, earliest}
use Rattle.cfdp_timers.proofs.Earliest.{earliest-more, earliest-skipped}
use Rattle.cfdp_timers.proofs.walk.earlier_in.Goals as goal

pub returns-then-is_no_later : goal.returns-then-is_no_later
returns-then-is_no_later c =
    let es = c.args.entries.now.entries in
    let block = c.args.block in
    let bound = get_or c.args.bounds.now block 0 in
    let found = c.is_no_later.ensures c.if-is_no_later.true in
    let low : found.0 ≤ bound = omega (arith, found.2, c.at.ensures) in
    ap (λ o. earlier o (earliest (alarms (drop (64 * (block + 1)) es)))) found.1
    ∙ earliest-skipped es block bound found.0 (c.requires.bounds.each block c.requires.within) low
    ∙ sym (ap (λ o. earlier o (earliest (alarms (drop (64 * block) es)))) found.1)

pub loop-place-init : goal.loop-place-init
loop-place-init c =
    let es = c.args.entries.now.entries in
    let start : c.args.block * 64 ≡ 64 * c.args.block = omega arith in
    ap (λ n. earlier c.args.first (earliest (alarms (drop n es)))) start

pub loop-place-preserved : goal.loop-place-preserved
loop-place-preserved c =
    earliest-more c.args.entries.now.entries c.loop-place.place c.loop-place.earliest c.earlier-earliest.result _ (c.earlier-earliest.ensures ∙ ap (earlier c.loop-place.earliest) c.earliest_at.ensures)
    c.loop-place.invariant

pub returns : goal.returns
returns c =
    let es = c.args.entries.now.entries in
    let end : 64 * (c.args.block + 1) ≡ c.loop-place.place = omega arith in
    ap (λ n. earlier c.loop-place.earliest (earliest (alarms (drop n es)))) end ∙ c.loop-place.invariant
