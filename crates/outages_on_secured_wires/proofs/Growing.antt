-- What left only grows, so if few frames leave in all, few are lost in a row.
use Rattle.std.proofs.Common.{◌≡◌, ℕ, ◌+◌, ◌<◌, ◌≤◌, List, [], ◌∷◌, ◌++◌, length, sym, subst, arith, length-append}
use Rattle.aos_frame.specs.Counts.{frame_counts}
use Rattle.aos_frame.specs.declared.config.Lane.{Lane}
use Rattle.link_sim.specs.declared.event.AcceptedPut.{AcceptedPut}
use Rattle.cfdp_port.specs.Calls.{WireCall}
use Rattle.cfdp_port.specs.Pair.{PairState, TakesTurn}
use Rattle.ports_in_order.specs.InOrder.{Passage}
use Rattle.outages_by_turns.specs.Turns.{Turn}
use Rattle.outages_by_turns.specs.Whole.{AreWhole, passed_whole}
use Rattle.secured_wire.specs.Keeping.{KeeperCall}
use Rattle.secured_wire.specs.Secured.{Secures, SecuredState}
use Rattle.outages_on_secured_wires.specs.Turns.{AreSecured, FewLostIn, Gone, gone_then}
use Rattle.outages_on_secured_wires.specs.Whole.{AreWholeSealed, GetsThroughSecured, all_lost, all_passed}

pub record Grows (a b : Gone) : Type 0 where
  pub one : (x : Lane) → length (a.left_one x) ≤ length (b.left_one x)
  pub two : (x : Lane) → length (a.left_two x) ≤ length (b.left_two x)

grows-none : (g : Gone) → Grows g g
grows-none g = record { one = λ x. omega arith; two = λ x. omega arith }

grows-both : (a b c : Gone) → Grows a b → Grows b c → Grows a c
grows-both a b c g h = record {
  one = λ x. (let p : length (a.left_one x) ≤ length (b.left_one x) = g.one x in let q : length (b.left_one x) ≤ length (c.left_one x) = h.one x in omega (arith, p, q));
  two = λ x. (let p : length (a.left_two x) ≤ length (b.left_two x) = g.two x in let q : length (b.left_two x) ≤ length (c.left_two x) = h.two x in omega (arith, p, q));
}

appended : (xs ys : List (List ℕ)) → length xs ≤ length (xs ++ ys)
appended xs ys = (let both : length (xs ++ ys) ≡ length xs + length ys = length-append xs ys in omega (arith, both))

-- fewer in all than there are frame counts
abbrev pub AreFewer : (Lane → List (List ℕ)) → Type 0
AreFewer left = (x : Lane) → length (left x) < frame_counts

pub fewer-one : (a b : Gone) → Grows a b → AreFewer b.left_one → AreFewer a.left_one
fewer-one a b g few x = (let p : length (a.left_one x) ≤ length (b.left_one x) = g.one x in let q : length (b.left_one x) < frame_counts = few x in omega (arith, p, q))

pub fewer-two : (a b : Gone) → Grows a b → AreFewer b.left_two → AreFewer a.left_two
fewer-two a b g few x = (let p : length (a.left_two x) ≤ length (b.left_two x) = g.two x in let q : length (b.left_two x) < frame_counts = few x in omega (arith, p, q))

-- so fewer than there may be after any of them
pub near-by : (a : Gone) → AreFewer a.left_one → AreFewer a.left_two → (one two : Lane → ℕ) → (x : Lane) →
    (length (a.left_one x) ≤ one x + frame_counts) × (length (a.left_two x) ≤ two x + frame_counts)
near-by a most_one most_two one two x =
    let p : length (a.left_one x) < frame_counts = most_one x in
    let q : length (a.left_two x) < frame_counts = most_two x in
    (omega (arith, p), omega (arith, q))

module _ {W : Type 0} (Steps : W → WireCall → W → Type 0) (Calls : KeeperCall → Type 0) where
  abbrev Ports : Type 0
  Ports = PairState (SecuredState W)

  turn-grows : (now : ℕ) (old new : Ports) (turn : TakesTurn (Secures Steps Calls) now old new) (g : Gone) → Grows g (gone_then Steps Calls now old new turn g)
  turn-grows now old new turn g = record { one = λ x. appended (g.left_one x) _; two = λ x. appended (g.left_two x) _ }

  pub turns-grow : (turns : List (Turn (SecuredState W))) (old : Ports) (before after : Gone) → AreSecured Steps Calls turns old before after → Grows before after
  turns-grow [] old before after same = subst (λ (g : Gone). Grows before g) (sym same) (grows-none before)
  turns-grow (t ∷ turns) old before after (turn, sealed, more) =
      let mid : Gone = gone_then Steps Calls t.now old t.after turn before in
      grows-both before mid after (turn-grows t.now old t.after turn before) (turns-grow turns t.after mid after more)

  pub wholes-grow : (put : AcceptedPut) (turns : List (Turn (SecuredState W))) (old : Ports) (before after : Passage) (are : AreWhole (Secures Steps Calls) put turns old before after) (g h : Gone) →
      AreWholeSealed Steps Calls put turns old before after are g h → Grows g h
  wholes-grow put [] old before after are g h same = subst (λ (x : Gone). Grows g x) (sym same) (grows-none g)
  wholes-grow put (t ∷ turns) old before after (turn, losing, undue, more) g h (sealed, rest) =
      let mid : Gone = gone_then Steps Calls t.now old t.after turn g in
      grows-both g mid h (turn-grows t.now old t.after turn g) (wholes-grow put turns t.after (passed_whole (Secures Steps Calls) t.now old t.after turn before) after more mid h rest)

  -- from the first of the turns in which nothing is lost
  pub rest-grows : (put : AcceptedPut) (old : Ports) (first : Turn (SecuredState W)) (later : List (Turn (SecuredState W))) (before after : Gone) (s : GetsThroughSecured Steps Calls put old first later before after) →
      Grows (gone_then Steps Calls first.now old first.after s.through.turn (all_lost before)) after
  rest-grows put old first later before after s =
      wholes-grow put later first.after (passed_whole (Secures Steps Calls) first.now old first.after s.through.turn (all_passed before)) (all_passed after) s.through.rest
      (gone_then Steps Calls first.now old first.after s.through.turn (all_lost before)) after s.in_rest

  pub gets-grow : (put : AcceptedPut) (old : Ports) (first : Turn (SecuredState W)) (later : List (Turn (SecuredState W))) (before after : Gone) → GetsThroughSecured Steps Calls put old first later before after → Grows before after
  gets-grow put old first later before after s =
      let mid : Gone = gone_then Steps Calls first.now old first.after s.through.turn (all_lost before) in
      grows-both before mid after (record { one = λ x. appended (before.left_one x) _; two = λ x. appended (before.left_two x) _ }) (rest-grows put old first later before after s)

  -- ---- few are lost in a row
  pub few-lost : (turns : List (Turn (SecuredState W))) (old : Ports) (before after : Gone) (are : AreSecured Steps Calls turns old before after) → AreFewer after.left_one → AreFewer after.left_two → (passed : Passage) →
      FewLostIn Steps Calls turns old before after are passed
  few-lost [] old before after same most_one most_two passed = tt
  few-lost (t ∷ turns) old before after (turn, sealed, more) most_one most_two passed =
      let mid : Gone = gone_then Steps Calls t.now old t.after turn before in
      let grown : Grows mid after = turns-grow turns t.after mid after more in
      (near-by mid (fewer-one mid after grown most_one) (fewer-two mid after grown most_two) passed.taken_one passed.taken_two, λ later passes. few-lost turns t.after mid after more most_one most_two later)
