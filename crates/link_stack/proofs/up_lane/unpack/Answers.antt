use Rattle.std.proofs.Common.{◌≡◌, ℕ, ◌∷◌, [], List, drop, suc, slice_index_or, refl, arith}
use Rattle.link_stack.proofs.Unpacked.{at_place, unpacked_one}
use Rattle.link_stack.proofs.up_lane.unpack.Goals as goal

pub loop-place-init : goal.loop-place-init
loop-place-init c = record { within = c.requires.there; long = c.requires.long; pdus = refl; drops = refl }

pub loop-place-preserved : goal.loop-place-preserved
loop-place-preserved c =
    let all : List (List ℕ) = c.loop-place.packets in
    let q : List ℕ = slice_index_or all c.loop-place.place [] in
    let left : List (List ℕ) = drop (suc c.loop-place.place) all in
    let here : drop c.loop-place.place all ≡ q ∷ left = at_place all c.loop-place.place [] (omega (arith, c.loop-place-test.true)) in
    let one = c.unpack_one-place.ensures.one q left here in
    unpacked_one c.args.link.now c.args.packets.now c.args.first c.args.drops.now all
    c.unpack_one-place.new.packets c.loop-place.place c.unpack_one-place.result c.loop-place.drops c.unpack_one-place.new.drops q left
    c.loop-place.invariant here c.unpack_one-place.ensures.within one.0 one.1 one.2
