use Rattle.std.proofs.Common.{◌≡◌, ◌+◌, ◌-◌, ◌<◌, ◌≤◌, ◌++◌, true, false, not, length, take, drop, min, sym, ap, ◌∙◌, arith, List, ℕ}
use Rattle.std.proofs.lemmas.Bool.{leb-true, leb-false}
use Rattle.std.proofs.lemmas.List.{drop_min}
use Rattle.mpdu.specs.Stream.{header_len, header_ok}
use Rattle.mpdu.specs.Reading.{goes_on}
use Rattle.mpdu.proofs.Joining.{told_is, turns_bad_is, joined, joined_all, heads_are, last_size, begun_less, reads_on, reads_at, both_first, some_of, min_is}
use Rattle.mpdu.proofs.reassembler.join.Goals as goal

pub returns-then-not-fits-clause-goes_on : goal.returns-then-not-fits-clause-goes_on
returns-then-not-fits-clause-goes_on c =
    sym c.if-not-fits.true
    ∙ told_is (length c.args.zone.now) c.args.pointer c.args.held.now.items c.args.zone.now c.append.new.held.items c.deref.result.now c.saturating_sub-header.result c.len-before.result c.fits.result
    (some_of _ _ (c.args.held.now.ok.0) c.if-is_empty.ensures) c.requires.zone
    (c.len-before.ensures ∙ c.args.held.now.ok.0) c.saturating_sub-header.ensures c.append.ensures.items c.deref.ensures.value c.fits.ensures

pub returns-then-not-fits-clause-bad : goal.returns-then-not-fits-clause-bad
returns-then-not-fits-clause-bad c =
    let held : List ℕ = c.args.held.now.items in
    let k : c.saturating_sub-header.result ≡ 6 - length held = c.saturating_sub-header.ensures ∙ ap (λ n. 6 - n) (c.len-before.ensures ∙ c.args.held.now.ok.0) in
    ap not (c.has_good_version-bad.ensures ∙ ap header_ok c.deref-then-not-fits.ensures.value)
    ∙ sym (turns_bad_is held c.args.zone.now c.append.new.held.items (some_of _ _ (c.args.held.now.ok.0) c.if-is_empty.ensures) c.requires.zone
    (c.append.ensures.items ∙ ap (λ n. held ++ take n c.args.zone.now) k))

pub returns-then-not-fits-clause-read : goal.returns-then-not-fits-clause-read
returns-then-not-fits-clause-read c =
    let off : goes_on (length c.args.zone.now) c.args.held.now.items c.args.pointer c.args.zone.now ≡ false = sym (returns-then-not-fits-clause-goes_on c) in
    ap (λ l. l ++ drop c.min-start.result c.args.zone.now) c.clear.ensures.items ∙ ap (λ n. drop n c.args.zone.now) c.min-start.ensures ∙ drop_min c.args.pointer c.args.zone.now
    ∙ sym (reads_at (length c.args.zone.now) c.args.pointer c.args.held.now.items c.args.zone.now off)

pub returns-clause-goes_on : goal.returns-clause-goes_on
returns-clause-goes_on c =
    sym c.if-not-fits.false
    ∙ told_is (length c.args.zone.now) c.args.pointer c.args.held.now.items c.args.zone.now c.append.new.held.items c.deref.result.now c.saturating_sub-header.result c.len-before.result c.fits.result
    (some_of _ _ (c.args.held.now.ok.0) c.if-is_empty.ensures) c.requires.zone
    (c.len-before.ensures ∙ c.args.held.now.ok.0) c.saturating_sub-header.ensures c.append.ensures.items c.deref.ensures.value c.fits.ensures

front_ok : (c : goal.After-append-2) → header_ok c.append.new.held.items ≡ true
front_ok c = ap header_ok (sym c.deref.ensures.value) ∙ both_first _ _ (sym c.fits.ensures ∙ c.if-not-fits.false)

-- the octets of the header that the zone has
header_is : (c : goal.After-append-2) → c.saturating_sub-header.result ≡ 6 - length c.args.held.now.items
header_is c = c.saturating_sub-header.ensures ∙ ap (λ n. 6 - n) (c.len-before.ensures ∙ c.args.held.now.ok.0)

front_is : (c : goal.After-append-2) → c.append.new.held.items ≡ c.args.held.now.items ++ take (6 - length c.args.held.now.items) c.args.zone.now
front_is c = c.append.ensures.items ∙ ap (λ n. c.args.held.now.items ++ take n c.args.zone.now) (header_is c)

more_is : (c : goal.After-append-2) → c.append-2.new.held.items
    ≡ c.append.new.held.items ++ take (c.min-end.result - (6 - length c.args.held.now.items)) (drop (6 - length c.args.held.now.items) c.args.zone.now)
more_is c = c.append-2.ensures.items ∙ ap (λ n. c.append.new.held.items ++ take (c.min-end.result - n) (drop n c.args.zone.now)) (header_is c)

pub returns-clause-bad : goal.returns-clause-bad
returns-clause-bad c =
    ap not (sym (front_ok c))
    ∙ sym (turns_bad_is c.args.held.now.items c.args.zone.now c.append.new.held.items (some_of _ _ (c.args.held.now.ok.0) c.if-is_empty.ensures) c.requires.zone (front_is c))

-- what is held, up to where the others are read
last_is : (c : goal.After-append-2) → c.append-2.new.held.items ≡ c.args.held.now.items ++ take c.min-end.result c.args.zone.now
last_is c = joined c.args.held.now.items c.args.zone.now c.append.new.held.items c.append-2.new.held.items c.min-end.result (front_is c) (more_is c) (omega (arith, c.args.held.now.ok.0))

pub returns-clause-read : goal.returns-clause-read
returns-clause-read c =
    joined_all c.args.held.now.items c.args.zone.now c.append-2.new.held.items c.min-end.result (last_is c)
    ∙ sym (reads_on (length c.args.zone.now) c.args.pointer c.args.held.now.items c.args.zone.now (sym (returns-clause-goes_on c)))

-- the octets that its header gives
len_is : (c : goal.After-append-2) → c.packet_len.result ≡ header_len c.append.new.held.items
len_is c = c.packet_len.ensures.told ∙ ap header_len c.deref-2.ensures.value

before_is : (c : goal.After-append-2) → c.len-before.result ≡ length c.args.held.now.items
before_is c = c.len-before.ensures ∙ c.args.held.now.ok.0

sizes_are : (c : goal.After-append-2) → (6 ≤ length c.append-2.new.held.items) × (header_len c.append-2.new.held.items ≡ header_len c.append.new.held.items)
    × (length c.append-2.new.held.items ≡ length c.args.held.now.items + c.min-end.result)
sizes_are c =
    let all = last_size c.args.held.now.items c.args.zone.now c.append.new.held.items c.append-2.new.held.items c.min-end.result c.requires.zone (front_is c) (more_is c) (last_is c) (omega arith) in
    (all.0, all.2, all.3)

less_is : (c : goal.After-append-2) → length c.args.held.now.items < header_len c.append.new.held.items
less_is c = begun_less c.args.held.now.items c.args.zone.now c.append.new.held.items c.requires.begun (front_is c)

pub returns-clause-whole : goal.returns-clause-whole
returns-clause-whole c fits =
    let sizes = sizes_are c in
    let le : c.packet_len.result - c.len-before.result ≤ length c.args.zone.now = leb-true _ _ fits in
    (sizes.0, omega (arith, sizes.1, sizes.2, le, len_is c, before_is c, less_is c, c.min-end.ensures))

pub returns-clause-other : goal.returns-clause-other
returns-clause-other c cut long same =
    let sizes = sizes_are c in
    let lt : length c.args.zone.now < c.packet_len.result - c.len-before.result = leb-false _ _ cut in
    omega (arith, same, sizes.1, sizes.2, lt, len_is c, before_is c, less_is c, c.min-end.ensures)

pub returns-clause-heads : goal.returns-clause-heads
returns-clause-heads c =
    let end : c.min-end.result ≡ min (header_len c.append.new.held.items - length c.args.held.now.items) (length c.args.zone.now) =
    c.min-end.ensures ∙ ap (λ n. min (n - c.len-before.result) (length c.args.zone.now)) (len_is c)
    ∙ ap (λ n. min (header_len c.append.new.held.items - n) (length c.args.zone.now)) (before_is c) in
    heads_are c.args.held.now.items c.args.zone.now c.append.new.held.items c.append-2.new.held.items c.min-end.result c.requires.zone c.requires.begun (front_is c) (front_ok c) (more_is c)
    (last_is c) (omega arith)
    (min_is (header_len c.append.new.held.items - length c.args.held.now.items) (length c.args.zone.now) c.min-end.result end)
