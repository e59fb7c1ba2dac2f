use Rattle.std.proofs.Common.{◌≡◌, ℕ, ◌+◌, ◌-◌, ◌≤◌, ◌++◌, List, [], true, false, not, length, take, drop, sym, ap, ◌∙◌, arith, length-append}
use Rattle.std.proofs.lemmas.List.{drop_all, drop-drop, append-nil}
use Rattle.std.proofs.lemmas.Result.{err_from_is_err_and}
use Rattle.mpdu.specs.Stream.{keep, header_len, header_ok, is_idle}
use Rattle.mpdu.specs.Reading.{scan}
use Rattle.mpdu.proofs.Scan.{scan_short, scan_bad, scan_held, scan_next}
use Rattle.mpdu.proofs.Fronts.{front_of, cut_more, hands_first}
use Rattle.mpdu.proofs.reassembler.cut.Goals as goal

pub returns-then-not-has_good_version-clause-held : goal.returns-then-not-has_good_version-clause-held
returns-then-not-has_good_version-clause-held c =
    let bad : header_ok c.loop-rest.rest.now ≡ false = sym c.has_good_version.ensures ∙ c.if-not-has_good_version.true in
    drop_all (length c.args.bytes.now) c.args.bytes.now (omega arith) ∙ sym (c.loop-rest.invariant.begun ∙ ap (λ r. r.begun) (scan_bad c.loop-rest.rest.now c.loop-rest-test.true bad))

pub returns-then-rest-len-clause-held : goal.returns-then-rest-len-clause-held
returns-then-rest-len-clause-held c =
    let ok : header_ok c.loop-rest.rest.now ≡ true = sym c.has_good_version.ensures ∙ c.if-not-has_good_version.false in
    let held = scan_held c.loop-rest.rest.now c.loop-rest-test.true ok (omega arith) in
    sym c.loop-rest.invariant.behind ∙ sym (c.loop-rest.invariant.begun ∙ ap (λ r. r.begun) held)

pub returns-then-rest-len-clause-ok : goal.returns-then-rest-len-clause-ok
returns-then-rest-len-clause-ok c =
    let ok : header_ok c.loop-rest.rest.now ≡ true = sym c.has_good_version.ensures ∙ c.if-not-has_good_version.false in
    let held = scan_held c.loop-rest.rest.now c.loop-rest-test.true ok (omega arith) in
    sym (append-nil c.loop-rest.out) ∙ sym (c.loop-rest.invariant.out ∙ ap (λ r. c.loop-rest.out ++ r.out) held)

pub returns-in_err-emit-clause-err : goal.returns-in_err-emit-clause-err
returns-in_err-emit-clause-err c =
    let none : c.emit.new.out ≡ c.loop-rest.out = c.in_err-emit.ensures.err in
    let n : (k : ℕ) × (c.loop-rest.out ≡ c.args.out.now ++ take k (scan (length c.args.bytes.now) c.args.bytes.now).out) =
    front_of c.args.out.now (scan (length c.args.bytes.now) c.args.bytes.now).out c.loop-rest.out
    (scan (length c.loop-rest.rest.now) c.loop-rest.rest.now).out c.loop-rest.invariant.grown c.loop-rest.invariant.out in
    let p = err_from_is_err_and c.from_residual.result c.from_residual.ensures.1 in
    rw (p.1) (n.0, none ∙ n.1)

pub returns-in_err-emit-clause-hands : goal.returns-in_err-emit-clause-hands
returns-in_err-emit-clause-hands c =
    let xs : List ℕ = c.loop-rest.rest.now in
    let ok : header_ok xs ≡ true = sym c.has_good_version.ensures ∙ c.if-not-has_good_version.false in
    let len : c.packet_len-len.result ≡ header_len xs = c.packet_len-len.ensures.told in
    let room : header_len xs ≤ length xs = omega arith in
    let first : c.split_at.result.0.now ≡ take (header_len xs) xs = c.split_at.ensures.front ∙ ap (λ n. take n xs) len in
    let busy : is_idle (take (header_len xs) xs) ≡ false = ap is_idle (sym first) ∙ c.in_err-emit.ensures.hands in
    let some : 1 ≤ length (scan (length xs) xs).out = hands_first xs c.loop-rest-test.true ok room busy in
    let all = ap length c.loop-rest.invariant.out in
    let p = err_from_is_err_and c.from_residual.result c.from_residual.ensures.1 in
    rw (p.1) (omega (
      arith,
      some,
      all,
      c.loop-rest.invariant.grown,
      length-append c.args.out.now (scan (length c.args.bytes.now) c.args.bytes.now).out,
      length-append c.loop-rest.out (scan (length xs) xs).out,
    ))

pub loop-rest-preserved : goal.loop-rest-preserved
loop-rest-preserved c =
    let xs : List ℕ = c.loop-rest.rest.now in
    let ok : header_ok xs ≡ true = sym c.has_good_version.ensures ∙ c.if-not-has_good_version.false in
    let len : c.packet_len-len.result ≡ header_len xs = c.packet_len-len.ensures.told in
    let room : header_len xs ≤ length xs = omega arith in
    let rest : c.split_at.result.1.now ≡ drop (header_len xs) xs = c.split_at.ensures.back ∙ ap (λ n. drop n xs) len in
    let first : c.split_at.result.0.now ≡ take (header_len xs) xs = c.split_at.ensures.front ∙ ap (λ n. take n xs) len in
    let e : length c.args.bytes.now - length xs + header_len xs ≡ length c.args.bytes.now - length c.split_at.result.1.now = omega arith in
    let more : c.emit.new.out ≡ c.loop-rest.out ++ keep (not (is_idle (take (header_len xs) xs))) (take (header_len xs) xs) [] =
    c.in_ok-emit.ensures.ok ∙ ap (λ p. c.loop-rest.out ++ keep (not (is_idle p)) p []) first in
    record {
      shorter = omega arith;
      behind = rest ∙ ap (λ l. drop (header_len xs) l) c.loop-rest.invariant.behind ∙ drop-drop (header_len xs) (length c.args.bytes.now - length xs) c.args.bytes.now
          ∙ ap (λ n. drop n c.args.bytes.now) e;
      begun = c.loop-rest.invariant.begun ∙ ap (λ r. r.begun) (scan_next xs c.loop-rest-test.true ok room) ∙ ap (λ l. (scan (length l) l).begun) (sym rest);
      bad = c.loop-rest.invariant.bad ∙ ap (λ r. r.bad) (scan_next xs c.loop-rest-test.true ok room) ∙ ap (λ l. (scan (length l) l).bad) (sym rest);
      out = cut_more xs c.args.out.now (scan (length c.args.bytes.now) c.args.bytes.now).out c.loop-rest.out
          c.emit.new.out c.loop-rest-test.true ok room c.loop-rest.invariant.out more
          ∙ ap (λ l. c.emit.new.out ++ (scan (length l) l).out) (sym rest);
      grown = omega (arith, ap length more, length-append c.loop-rest.out (keep (not (is_idle (take (header_len xs) xs))) (take (header_len xs) xs) []));
    }

pub returns-clause-held : goal.returns-clause-held
returns-clause-held c =
    let held = scan_short c.loop-rest.rest.now (omega arith) in
    sym c.loop-rest.invariant.behind ∙ sym (c.loop-rest.invariant.begun ∙ ap (λ r. r.begun) held)

pub returns-clause-ok : goal.returns-clause-ok
returns-clause-ok c =
    let held = scan_short c.loop-rest.rest.now (omega arith) in
    sym (append-nil c.loop-rest.out) ∙ sym (c.loop-rest.invariant.out ∙ ap (λ r. c.loop-rest.out ++ r.out) held)

pub returns-then-not-has_good_version-clause-bad : goal.returns-then-not-has_good_version-clause-bad
returns-then-not-has_good_version-clause-bad c =
    let bad : header_ok c.loop-rest.rest.now ≡ false = sym c.has_good_version.ensures ∙ c.if-not-has_good_version.true in
    sym (c.loop-rest.invariant.bad ∙ ap (λ r. r.bad) (scan_bad c.loop-rest.rest.now c.loop-rest-test.true bad))

pub returns-then-rest-len-clause-bad : goal.returns-then-rest-len-clause-bad
returns-then-rest-len-clause-bad c =
    let ok : header_ok c.loop-rest.rest.now ≡ true = sym c.has_good_version.ensures ∙ c.if-not-has_good_version.false in
    sym (c.loop-rest.invariant.bad ∙ ap (λ r. r.bad) (scan_held c.loop-rest.rest.now c.loop-rest-test.true ok (omega arith)))

pub returns-clause-bad : goal.returns-clause-bad
returns-clause-bad c = sym (c.loop-rest.invariant.bad ∙ ap (λ r. r.bad) (scan_short c.loop-rest.rest.now (omega arith)))
