use Rattle.std.proofs.Common.{◌≡◌, ◌≤◌, ◌-◌, ◌++◌, length, take, drop, refl, sym, ap, subst, ◌∙◌, arith, length-append, List, ℕ}
use Rattle.std.proofs.lemmas.List.{take_rest, append-nil}
use Rattle.std.proofs.lemmas.Result.{err_from_is_err_and}
use Rattle.mpdu.specs.Reading.{to_read, step, scan}
use Rattle.mpdu.specs.Joining.{IsSplit, IsBegun}
use Rattle.mpdu.proofs.Joining.{IsPast, past, hands_behind, hands_whole, read_front, read_begun, scan_begun, begun-short}
use Rattle.mpdu.proofs.Scan.{header_len-short}
use Rattle.mpdu.proofs.reassembler.read_behind.Goals.{After-append, After-append-2}
use Rattle.mpdu.proofs.reassembler.read_behind.Goals as goal

pub append-requires : goal.append-requires
append-requires c =
    let held : c.deref.result.now ≡ c.args.held.now.items = c.deref.ensures.value in
    let more = c.goes_past.ensures.more c.if-goes_past.true in
    omega (arith, more, ap length held, header_len-short c.deref.result.now, c.requires.room)

past_is : (c : goal.After-append) → IsPast (length c.args.zone.now) c.args.pointer c.args.held.now.items c.args.zone.now
past_is c =
    let g = c.goes_past.ensures in
    let yes = c.if-goes_past.true in
    subst (λ (l : List ℕ). IsPast (length c.args.zone.now) c.args.pointer l c.args.zone.now) c.deref.ensures.value
    (past (length c.args.zone.now) c.args.pointer c.deref.result.now c.args.zone.now refl c.requires.zone (g.long yes) (g.version yes) (g.none yes) (g.more yes))

pub returns-then-goes_past-clause-goes_on : goal.returns-then-goes_past-clause-goes_on
returns-then-goes_past-clause-goes_on c = sym (past_is c).on

pub returns-then-goes_past-clause-turns_bad : goal.returns-then-goes_past-clause-turns_bad
returns-then-goes_past-clause-turns_bad c = sym (past_is c).good

pub returns-then-goes_past-clause-held : goal.returns-then-goes_past-clause-held
returns-then-goes_past-clause-held c = c.append.ensures.items ∙ sym (ap (λ r. r.begun) (past_is c).read)

pub returns-then-goes_past-clause-bad : goal.returns-then-goes_past-clause-bad
returns-then-goes_past-clause-bad c = sym (ap (λ r. r.bad) (past_is c).read)

pub returns-then-goes_past-clause-ok : goal.returns-then-goes_past-clause-ok
returns-then-goes_past-clause-ok c =
    let before : List (List ℕ) = c.args.out.now in
    sym (ap (λ r. before ++ r.out) (past_is c).read ∙ append-nil before)

pub returns-then-goes_past-clause-begun : goal.returns-then-goes_past-clause-begun
returns-then-goes_past-clause-begun c = subst (λ (l : List ℕ). IsBegun l) (sym c.append.ensures.items) (past_is c).begun

pub returns-in_err-front-clause-err : goal.returns-in_err-front-clause-err
returns-in_err-front-clause-err c =
    let rest : List ℕ = drop c.join-joined.result.from c.args.zone.now in
    let s : IsSplit (c.join-joined.new.held.items ++ rest) rest c.finish.new.held.items c.args.out.now c.finish.new.out =
    c.in_ok-finish.ensures.ok rest c.join-joined.ensures.heads in
    let p = err_from_is_err_and c.from_residual-in_err-front.result c.from_residual-in_err-front.ensures.1 in
    rw (p.1) (read_front (to_read (length c.args.zone.now) c.args.held.now.items c.args.pointer c.args.zone.now) (c.join-joined.new.held.items ++ rest) rest
    (take (length c.args.zone.now - c.join-joined.result.from) rest) c.finish.new.held.items c.args.out.now c.finish.new.out
    c.cut.new.out (c.in_err-front.ensures.err.0) c.join-joined.ensures.read (take_rest c.args.zone.now c.join-joined.result.from) s (c.in_err-front.ensures.err.1))

pub returns-in_err-front-clause-hands : goal.returns-in_err-front-clause-hands
returns-in_err-front-clause-hands c =
    let rest : List ℕ = drop c.join-joined.result.from c.args.zone.now in
    let s : IsSplit (c.join-joined.new.held.items ++ rest) rest c.finish.new.held.items c.args.out.now c.finish.new.out =
    c.in_ok-finish.ensures.ok rest c.join-joined.ensures.heads in
    let p = err_from_is_err_and c.from_residual-in_err-front.result c.from_residual-in_err-front.ensures.1 in
    rw (p.1) (hands_behind (to_read (length c.args.zone.now) c.args.held.now.items c.args.pointer c.args.zone.now) (c.join-joined.new.held.items ++ rest) rest
    (take (length c.args.zone.now - c.join-joined.result.from) rest) c.finish.new.held.items c.args.out.now
    c.finish.new.out c.join-joined.ensures.read (take_rest c.args.zone.now c.join-joined.result.from) s c.in_err-front.ensures.hands)

pub returns-in_err-finish-clause-hands : goal.returns-in_err-finish-clause-hands
returns-in_err-finish-clause-hands c =
    let rest : List ℕ = drop c.join-joined.result.from c.args.zone.now in
    let held : List ℕ = c.join-joined.new.held.items in
    let whole = c.join-joined.ensures.whole c.in_err-finish.ensures.hands.0 in
    let p = err_from_is_err_and c.from_residual.result c.from_residual.ensures.1 in
    rw (p.1) (hands_whole (to_read (length c.args.zone.now) c.args.held.now.items c.args.pointer c.args.zone.now) held rest whole.0 whole.1 c.join-joined.ensures.heads c.in_err-finish.ensures.hands.1
    c.join-joined.ensures.read)

-- what is left
left_is : (c : goal.After-append-arg-3-1) → c.finish.new.held.items ++ drop c.in_ok-front.front.end
    (take (length c.args.zone.now - c.join-joined.result.from) (drop c.join-joined.result.from c.args.zone.now))
    ≡ (step (length c.args.zone.now) c.args.held.now.items c.args.pointer c.args.zone.now).begun
left_is c =
    let rest : List ℕ = drop c.join-joined.result.from c.args.zone.now in
    let s : IsSplit (c.join-joined.new.held.items ++ rest) rest c.finish.new.held.items c.args.out.now c.finish.new.out =
    c.in_ok-finish.ensures.ok rest c.join-joined.ensures.heads in
    read_begun (to_read (length c.args.zone.now) c.args.held.now.items c.args.pointer c.args.zone.now) (c.join-joined.new.held.items ++ rest) rest
    (take (length c.args.zone.now - c.join-joined.result.from) rest) c.finish.new.held.items _ c.args.out.now
    c.finish.new.out c.join-joined.ensures.read (take_rest c.args.zone.now c.join-joined.result.from) s c.in_ok-front.ensures.held

pub append-requires-2 : goal.append-requires-2
append-requires-2 c =
    let part : List ℕ = take (length c.args.zone.now - c.join-joined.result.from) (drop c.join-joined.result.from c.args.zone.now) in
    let held : List ℕ = c.finish.new.held.items in
    let behind : List ℕ = drop c.in_ok-front.front.end part in
    let text : List ℕ = to_read (length c.args.zone.now) c.args.held.now.items c.args.pointer c.args.zone.now in
    let short : length (scan (length text) text).begun ≤ 65541 = begun-short (scan (length text) text).begun (scan_begun (length text) text) in
    omega (
      arith,
      short,
      ap length (left_is c),
      length-append held behind,
      ap length (take_rest part c.in_ok-front.front.end),
      c.in_ok-finish.ensures.capacity,
      c.join-joined.ensures.capacity,
      c.requires.room,
    )

held_is : (c : goal.After-append-2) → c.append-2.new.held.items ≡ (step (length c.args.zone.now) c.args.held.now.items c.args.pointer c.args.zone.now).begun
held_is c =
    let rest : List ℕ = drop c.join-joined.result.from c.args.zone.now in
    let s : IsSplit (c.join-joined.new.held.items ++ rest) rest c.finish.new.held.items c.args.out.now c.finish.new.out =
    c.in_ok-finish.ensures.ok rest c.join-joined.ensures.heads in
    let part : List ℕ = take (length c.args.zone.now - c.join-joined.result.from) rest in
    c.append-2.ensures.items ∙ ap (λ l. c.finish.new.held.items ++ l) (take_rest part c.in_ok-front.front.end)
    ∙ read_begun (to_read (length c.args.zone.now) c.args.held.now.items c.args.pointer c.args.zone.now) (c.join-joined.new.held.items ++ rest) rest
    (take (length c.args.zone.now - c.join-joined.result.from) rest) c.finish.new.held.items _ c.args.out.now
    c.finish.new.out c.join-joined.ensures.read (take_rest c.args.zone.now c.join-joined.result.from) s c.in_ok-front.ensures.held

pub returns-clause-held : goal.returns-clause-held
returns-clause-held c = held_is c

pub returns-clause-begun : goal.returns-clause-begun
returns-clause-begun c =
    let text : List ℕ = to_read (length c.args.zone.now) c.args.held.now.items c.args.pointer c.args.zone.now in
    subst (λ (l : List ℕ). IsBegun l) (sym (held_is c)) (scan_begun (length text) text)
