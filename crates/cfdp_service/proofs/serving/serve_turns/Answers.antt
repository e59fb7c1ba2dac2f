use Rattle.std.proofs.Common.{◌++◌, ◌<◌, ◌∷◌, [], ap, arith, false, true, inl, inr, refl, rules, subst, sym}
use Rattle.cfdp_port.specs.Port.{table_of}
use Rattle.cfdp_port.proofs.TurnLemmas.{once_more}
use Rattle.cfdp_service.specs.Calls.{Chain, Intends}
use Rattle.cfdp_service.specs.Serving.{GoesOn, GoesOnce, AsksToEnd}
use Rattle.cfdp_service.proofs.ChainLemmas.{chain-none, chain-one, chain-then}
use Rattle.cfdp_service.proofs.ServingLemmas.{gets-ready, hears-first, hears-gains, hears-same}
use Rattle.cfdp_service.proofs.serving.serve_turns.Goals as goal

pub loop-before-init : goal.loop-before-init
loop-before-init g c = ([], refl, chain-none g.U.User.steps _, hears-first _ c.requires, omega arith)

pub prepare-requires : goal.prepare-requires
prepare-requires g c = c.loop-before.invariant.3.few

pub returns-then-is_over : goal.returns-then-is_over
returns-then-is_over g c =
    let so_far = c.loop-before.invariant in
    let prepared = c.prepare.ensures.prepares in
    let steps = g.U.User.steps in
    let ready = gets-ready g.W.Wire.steps true c.intends-intent.result c.loop-before.lacking so_far.0 prepared.0 c.loop-before.port c.prepare.new.port c.is_over.new.port prepared.1 c.prepare.ensures.wire
    c.is_over.ensures.station (subst (λ b. AsksToEnd g.W.Wire.steps c.intends-intent.result b c.prepare.new.port.station c.prepare.new.port.wire c.is_over.new.port.wire) c.if-is_over.true c.is_over.ensures.over) in (
      so_far.0 ++ prepared.0 ++ Intends c.intends-intent.result ∷ [],
      c.loop-before.lacking,
      record {
        count = c.loop-before.before;
        last = record { port = c.loop-before.port; calls = so_far.0; lacking = c.loop-before.lacking };
        turns = so_far.1;
        ends = inl ready;
      },
      chain-then steps (so_far.0 ++ prepared.0) (Intends c.intends-intent.result ∷ []) _ _ _
          (chain-then steps so_far.0 prepared.0 _ _ _ so_far.2 prepared.2)
          (chain-one steps (Intends c.intends-intent.result) _ _ c.intends-intent.ensures),
      hears-same so_far.0 prepared.0 c.intends-intent.result (table_of c.prepare.new.port.station) (table_of c.is_over.new.port.station) (prepared.3 so_far.0 so_far.3) (ap table_of c.is_over.ensures.station),
    )

pub returns-then-lacking-ge-MOST_LACKING : goal.returns-then-lacking-ge-MOST_LACKING
returns-then-lacking-ge-MOST_LACKING g c =
    let so_far = c.loop-before.invariant in
    let prepared = c.prepare.ensures.prepares in
    let steps = g.U.User.steps in
    let calls = so_far.0 ++ prepared.0 ++ Intends c.intends-intent.result ∷ [] in
    let ready = gets-ready g.W.Wire.steps false c.intends-intent.result c.loop-before.lacking so_far.0 prepared.0 c.loop-before.port c.prepare.new.port c.is_over.new.port prepared.1 c.prepare.ensures.wire
    c.is_over.ensures.station (subst (λ b. AsksToEnd g.W.Wire.steps c.intends-intent.result b c.prepare.new.port.station c.prepare.new.port.wire c.is_over.new.port.wire) c.if-is_over.false c.is_over.ensures.over) in
    let once : GoesOnce g.W.Wire.steps (record { port = c.loop-before.port; calls = so_far.0; lacking = c.loop-before.lacking })
    (record { port = c.take_turn-is_short.new.port; calls = calls; lacking = c.lacking_after-lacking.result })
    = record { ready = _; gets = ready; short = c.take_turn-is_short.result; turn = c.take_turn-is_short.ensures.turn; calls = refl; lacking = c.lacking_after-lacking.ensures.after } in
    let chain = subst (λ u. Chain steps calls c.args.user.now u) (sym c.take_turn-is_short.ensures.user)
    (chain-then steps (so_far.0 ++ prepared.0) (Intends c.intends-intent.result ∷ []) _ _ _
    (chain-then steps so_far.0 prepared.0 _ _ _ so_far.2 prepared.2)
    (chain-one steps (Intends c.intends-intent.result) _ _ c.intends-intent.ensures)) in
    let hears = hears-gains _ _ _ (hears-same so_far.0 prepared.0 c.intends-intent.result (table_of c.prepare.new.port.station) (table_of c.is_over.new.port.station) (prepared.3 so_far.0 so_far.3) (ap table_of c.is_over.ensures.station)) c.take_turn-is_short.ensures.gains in (
      calls,
      c.lacking_after-lacking.result,
      record {
        count = c.loop-before.before;
        last = record { port = c.loop-before.port; calls = so_far.0; lacking = c.loop-before.lacking };
        turns = so_far.1;
        ends = (once, omega (arith, c.lacking_after-lacking.ensures.few, c.if-lacking-ge-MOST_LACKING.true));
      },
      chain,
      hears,
    )

pub loop-before-preserved : goal.loop-before-preserved
loop-before-preserved g c =
    let so_far = c.loop-before.invariant in
    let prepared = c.prepare.ensures.prepares in
    let steps = g.U.User.steps in
    let calls = so_far.0 ++ prepared.0 ++ Intends c.intends-intent.result ∷ [] in
    let ready = gets-ready g.W.Wire.steps false c.intends-intent.result c.loop-before.lacking so_far.0 prepared.0 c.loop-before.port c.prepare.new.port c.is_over.new.port prepared.1 c.prepare.ensures.wire
    c.is_over.ensures.station (subst (λ b. AsksToEnd g.W.Wire.steps c.intends-intent.result b c.prepare.new.port.station c.prepare.new.port.wire c.is_over.new.port.wire) c.if-is_over.false c.is_over.ensures.over) in
    let once : GoesOnce g.W.Wire.steps (record { port = c.loop-before.port; calls = so_far.0; lacking = c.loop-before.lacking })
    (record { port = c.take_turn-is_short.new.port; calls = calls; lacking = c.lacking_after-lacking.result })
    = record { ready = _; gets = ready; short = c.take_turn-is_short.result; turn = c.take_turn-is_short.ensures.turn; calls = refl; lacking = c.lacking_after-lacking.ensures.after } in
    let chain = subst (λ u. Chain steps calls c.args.user.now u) (sym c.take_turn-is_short.ensures.user)
    (chain-then steps (so_far.0 ++ prepared.0) (Intends c.intends-intent.result ∷ []) _ _ _
    (chain-then steps so_far.0 prepared.0 _ _ _ so_far.2 prepared.2)
    (chain-one steps (Intends c.intends-intent.result) _ _ c.intends-intent.ensures)) in
    let hears = hears-gains _ _ _ (hears-same so_far.0 prepared.0 c.intends-intent.result (table_of c.prepare.new.port.station) (table_of c.is_over.new.port.station) (prepared.3 so_far.0 so_far.3) (ap table_of c.is_over.ensures.station)) c.take_turn-is_short.ensures.gains in
    let few : c.lacking_after-lacking.result < 100 = omega (arith, c.if-lacking-ge-MOST_LACKING.false) in (
      calls,
      once_more (GoesOn g.W.Wire.steps) c.loop-before.before _ (record { port = c.loop-before.port; calls = so_far.0; lacking = c.loop-before.lacking })
          (record { port = c.take_turn-is_short.new.port; calls = calls; lacking = c.lacking_after-lacking.result }) so_far.1 (record { once = once; few = few }),
      chain,
      hears,
      few,
    )

pub returns : goal.returns
returns g c =
    let so_far = c.loop-before.invariant in (
      so_far.0,
      c.loop-before.lacking,
      record {
        count = c.loop-before.before;
        last = record { port = c.loop-before.port; calls = so_far.0; lacking = c.loop-before.lacking };
        turns = so_far.1;
        ends = inr (search rules, refl);
      },
      so_far.2,
      so_far.3,
    )
