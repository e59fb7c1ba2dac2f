-- Turns over secured wires in which nothing is lost: after them, too, all that left was lost or came.
use Rattle.std.proofs.Common.{◌≡◌, ℕ, List, [], ◌∷◌, length, sym, subst}
use Rattle.aos_frame.specs.declared.config.Lane.{Lane}
use Rattle.link_sim.specs.declared.event.AcceptedPut.{AcceptedPut}
use Rattle.cfdp_port.specs.Calls.{WireCall}
use Rattle.cfdp_port.specs.Pair.{PairState, TakesTurn}
use Rattle.cfdp_port.specs.Passing.{frames_came, frames_left}
use Rattle.ports_in_order.specs.InOrder.{Passage}
use Rattle.outages_by_turns.specs.Turns.{Turn, then_pair}
use Rattle.outages_by_turns.specs.Whole.{AreWhole, GetsThroughIn, LosesNothing, passed_whole}
use Rattle.secured_wire.specs.Direction.{SealedIn, bares_in}
use Rattle.secured_wire.specs.Keeping.{KeeperCall}
use Rattle.secured_wire.specs.Secured.{Secures, SecuredState}
use Rattle.secured_link.proofs.Lanes.{InLane, Stands}
use Rattle.outages_on_secured_wires.specs.Turns.{AcceptsSealed, Gone, gone_then}
use Rattle.outages_on_secured_wires.specs.Whole.{AreWholeSealed, GetsThroughSecured, all_lost, all_passed}
use Rattle.outages_on_secured_wires.proofs.Counting.{all-taken}
use Rattle.outages_on_secured_wires.proofs.Growing.{AreFewer, Grows, fewer-one, fewer-two, near-by, rest-grows, wholes-grow}
use Rattle.outages_on_secured_wires.proofs.Standing.{Standing, lengths, passage, stands-lost, turn-on}

-- the same, by equal counts
stands-as : (all : List SealedIn) (next last : ℕ) (from : Lane → List (List ℕ)) (one two : Lane → ℕ) → ((x : Lane) → one x ≡ two x) → Stands all next last from one → Stands all next last from two
stands-as all next last from one two same s = record {
  first = s.first;
  rises_all = s.rises_all;
  rest = s.rest;
  low = s.low;
  rises = s.rises;
  has = s.has;
  lanes = λ x. subst (λ (n : ℕ). InLane (from x) n (bares_in x s.rest)) (same x) (s.lanes x);
}

module _ {W : Type 0} (Steps : W → WireCall → W → Type 0) (Calls : KeeperCall → Type 0) where
  abbrev Ports : Type 0
  Ports = PairState (SecuredState W)

  -- All that left was lost or came.
  abbrev pub AllGone : Ports → Gone → Type 0
  AllGone p g = Standing Steps Calls p g (lengths g.left_one) (lengths g.left_two)

  whole-on : (now : ℕ) (old new : Ports) (turn : TakesTurn (Secures Steps Calls) now old new) (g : Gone) → AllGone old g → AcceptsSealed Steps Calls now old new turn (gone_then Steps Calls now old new turn g) →
      LosesNothing (Secures Steps Calls) now old new turn → AreFewer (gone_then Steps Calls now old new turn g).left_one → AreFewer (gone_then Steps Calls now old new turn g).left_two →
      AllGone new (gone_then Steps Calls now old new turn g)
  whole-on now old new turn g s sealed losing most_one most_two =
      let next : Gone = gone_then Steps Calls now old new turn g in
      let t = turn-on Steps Calls now old new turn g (lengths g.left_one) (lengths g.left_two) s sealed (near-by next most_one most_two (lengths g.left_one) (lengths g.left_two)) in
      let one = turn.one_sends.sends in
      let two = turn.two_sends.sends in
      let all_one : (x : Lane) → t.one_then x ≡ length (next.left_one x) = all-taken g.left_one (λ x. frames_left (Secures Steps Calls) x one.count _ _ one.sent)
      (frames_came (Secures Steps Calls) turn.two_hears.count _ _ turn.two_hears.heard) t.one_then t.passes.to_two losing.to_two in
      let all_two : (x : Lane) → t.two_then x ≡ length (next.left_two x) = all-taken g.left_two (λ x. frames_left (Secures Steps Calls) x two.count _ _ two.sent)
      (frames_came (Secures Steps Calls) turn.one_hears.count _ _ turn.one_hears.heard) t.two_then t.passes.to_one losing.to_one in
      record {
        from_one = stands-as next.sealed_one new.one.wire.sealer.next new.two.wire.opener.last next.left_one t.one_then (lengths next.left_one) all_one t.stands.from_one;
        from_two = stands-as next.sealed_two new.two.wire.sealer.next new.one.wire.opener.last next.left_two t.two_then (lengths next.left_two) all_two t.stands.from_two;
        size_one = t.stands.size_one;
        size_two = t.stands.size_two;
      }

  wholes-on : (put : AcceptedPut) (turns : List (Turn (SecuredState W))) (old : Ports) (before after : Passage) (are : AreWhole (Secures Steps Calls) put turns old before after) (g h : Gone) →
      AreWholeSealed Steps Calls put turns old before after are g h → AreFewer h.left_one → AreFewer h.left_two → AllGone old g → AllGone (then_pair old turns) h
  wholes-on put [] old before after are g h same most_one most_two s = subst (λ (x : Gone). AllGone old x) (sym same) s
  wholes-on put (t ∷ turns) old before after (turn, losing, undue, more) g h (sealed, rest) most_one most_two s =
      let mid : Gone = gone_then Steps Calls t.now old t.after turn g in
      let next : Passage = passed_whole (Secures Steps Calls) t.now old t.after turn before in
      let grown : Grows mid h = wholes-grow Steps Calls put turns t.after next after more mid h rest in
      wholes-on put turns t.after next after more mid h rest most_one most_two
      (whole-on t.now old t.after turn g s sealed losing (fewer-one mid h grown most_one) (fewer-two mid h grown most_two))

  module _ (put : AcceptedPut) (old : Ports) (first : Turn (SecuredState W)) (later : List (Turn (SecuredState W))) (before after : Gone) (s : GetsThroughSecured Steps Calls put old first later before after) where
    pub gets-on : (one two : Lane → ℕ) → AreFewer after.left_one → AreFewer after.left_two → Standing Steps Calls old before one two → AllGone (then_pair first.after later) after
    gets-on one two most_one most_two stands =
        let g = s.through in
        let mid : Gone = gone_then Steps Calls first.now old first.after g.turn (all_lost before) in
        let grown : Grows mid after = rest-grows Steps Calls put old first later before after s in
        wholes-on put later first.after (passed_whole (Secures Steps Calls) first.now old first.after g.turn (all_passed before)) (all_passed after) g.rest mid after s.in_rest most_one most_two
        (whole-on first.now old first.after g.turn (all_lost before) (stands-lost Steps Calls old before one two stands) s.at_first g.whole (fewer-one mid after grown most_one) (fewer-two mid after grown most_two))

    -- whatever had come before
    pub gets-as : (one two : Lane → ℕ) → GetsThroughIn (Secures Steps Calls) put old first later (passage before one two) (all_passed after)
    gets-as one two = let g = s.through in record {
      idle = g.idle;
      turn = g.turn;
      whole = g.whole;
      side = g.side;
      kind = g.kind;
      answerable = g.answerable;
      expires = g.expires;
      calm = g.calm;
      alone = g.alone;
      rest = g.rest;
      idle_then = g.idle_then;
    }
