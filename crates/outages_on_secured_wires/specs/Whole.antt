-- Turns over secured wires in which nothing is lost, and a timer of a transaction that expires in
-- the first of them.
use Rattle.std.specs.Prelude.{◌≡◌, List, [], ◌∷◌, length}
use Rattle.link_sim.specs.declared.event.AcceptedPut.{AcceptedPut}
use Rattle.cfdp_port.specs.Calls.{WireCall}
use Rattle.cfdp_port.specs.Pair.{PairState}
use Rattle.ports_in_order.specs.InOrder.{Passage}
use Rattle.outages_by_turns.specs.Turns.{Turn}
use Rattle.outages_by_turns.specs.Whole.{AreWhole, GetsThroughIn, passed_whole}
use Rattle.secured_wire.specs.Keeping.{KeeperCall}
use Rattle.secured_wire.specs.Secured.{Secures, SecuredState}
use Rattle.outages_on_secured_wires.specs.Turns.{AcceptsSealed, Gone, gone_then}

-- All that left was lost or came.
abbrev pub all_passed : Gone → Passage
all_passed gone = record {
  from_one = gone.left_one;
  from_two = gone.left_two;
  taken_one = λ lane. length (gone.left_one lane);
  taken_two = λ lane. length (gone.left_two lane);
}

-- Of what left so far nothing is accepted any more.
abbrev pub all_lost : Gone → Gone
all_lost gone = record gone { sealed_one = []; sealed_two = [] }

module _ {W : Type 0} (Steps : W → WireCall → W → Type 0) (Calls : KeeperCall → Type 0) where
  -- All that was accepted in these turns had been sealed.
  abbrev pub AreWholeSealed : (put : AcceptedPut) → (turns : List (Turn (SecuredState W)))
      → (old : PairState (SecuredState W)) → (before after : Passage)
      → AreWhole (Secures Steps Calls) put turns old before after → (gone then_gone : Gone)
      → Type 0
  AreWholeSealed put [] old before after same gone then_gone = then_gone ≡ gone
  AreWholeSealed put (t ∷ turns) old before after (turn, losing, undue, more) gone then_gone =
      AcceptsSealed Steps Calls t.now old t.after turn
      (gone_then Steps Calls t.now old t.after turn gone)
      × AreWholeSealed put turns t.after
      (passed_whole (Secures Steps Calls) t.now old t.after turn before) after more
      (gone_then Steps Calls t.now old t.after turn gone) then_gone

  -- It is `GetsThroughIn` over secured wires: all that was accepted in these turns was sealed in
  -- them. What had not been accepted when they began is lost, and isn't accepted later.
  pub record GetsThroughSecured (put : AcceptedPut) (old : PairState (SecuredState W))
      (first : Turn (SecuredState W)) (later : List (Turn (SecuredState W)))
      (before after : Gone) : Type 0 where
    pub through : GetsThroughIn (Secures Steps Calls) put old first later (all_passed before)
        (all_passed after)
    pub at_first : AcceptsSealed Steps Calls first.now old first.after through.turn
        (gone_then Steps Calls first.now old first.after through.turn (all_lost before))
    pub in_rest : AreWholeSealed put later first.after
        (passed_whole (Secures Steps Calls) first.now old first.after through.turn
        (all_passed before)) (all_passed after) through.rest
        (gone_then Steps Calls first.now old first.after through.turn (all_lost before)) after
