-- Turns over secured wires are turns over wires that keep the order of each lane.
use Rattle.std.proofs.Common.{ℕ, List, [], ◌∷◌, ◌++◌, refl, sym, ap, subst}
use Rattle.aos_frame.specs.declared.config.Lane.{Lane}
use Rattle.cfdp_header.specs.Files.{FileMap}
use Rattle.station_pair.specs.declared.world_config.WorldConfig.{WorldConfig}
use Rattle.link_sim.specs.declared.event.AcceptedPut.{AcceptedPut}
use Rattle.cfdp_port.specs.Calls.{WireCall}
use Rattle.cfdp_port.specs.Pair.{PairState}
use Rattle.ports_in_order.specs.InOrder.{Passage, nothing_passed}
use Rattle.outages_by_turns.specs.Turns.{AreTurns, HaveTurned, Turn, then_pair}
use Rattle.outages_by_turns.proofs.Numbered.{apart}
use Rattle.secured_wire.specs.Keeping.{KeeperCall}
use Rattle.secured_wire.specs.Secured.{Secures, SecuredState}
use Rattle.outages_on_secured_wires.specs.Turns.{AreSecured, FewLostIn, Gone, HaveBegun, gone_then, nothing_gone}
use Rattle.outages_on_secured_wires.proofs.Standing.{Standing, passage, stands-first, turn-on}

module _ {W : Type 0} (Steps : W → WireCall → W → Type 0) (Calls : KeeperCall → Type 0) where
  abbrev Ports : Type 0
  Ports = PairState (SecuredState W)

  -- What turns come to, from where the ports stood.
  pub record TurnsOn (turns : List (Turn (SecuredState W))) (old : Ports) (before after : Gone) (one two : Lane → ℕ) : Type 0 where
    pub one_then : Lane → ℕ
    pub two_then : Lane → ℕ
    pub are : AreTurns (Secures Steps Calls) turns old (passage before one two) (passage after one_then two_then)
    pub stands : Standing Steps Calls (then_pair old turns) after one_then two_then

  pub turns-on : (turns : List (Turn (SecuredState W))) (old : Ports) (before after : Gone) (are : AreSecured Steps Calls turns old before after) (one two : Lane → ℕ) →
      FewLostIn Steps Calls turns old before after are (passage before one two) → Standing Steps Calls old before one two → TurnsOn turns old before after one two
  turns-on [] old before after same one two few s =
      subst (λ (g : Gone). TurnsOn [] old before g one two) (sym same) (record { one_then = one; two_then = two; are = refl; stands = s })
  turns-on (t ∷ turns) old before after (turn, sealed, more) one two (near, rest) s =
      let mid : Gone = gone_then Steps Calls t.now old t.after turn before in
      let g = turn-on Steps Calls t.now old t.after turn before one two s sealed near in
      let r = turns-on turns t.after mid after more g.one_then g.two_then (rest (passage mid g.one_then g.two_then) g.passes) g.stands in
      record { one_then = r.one_then; two_then = r.two_then; are = (turn, passage mid g.one_then g.two_then, g.passes, r.are); stands = r.stands }

  -- Turns from the put on, and others after them.
  module _ (c : WorldConfig) (outboxes inboxes : FileMap × FileMap) (put : AcceptedPut) (first : Ports) (begun : HaveBegun c outboxes inboxes put first) where
    pub have-turned : (turns : List (Turn (SecuredState W))) (passed : Passage) → AreTurns (Secures Steps Calls) turns first nothing_passed passed →
        HaveTurned (Secures Steps Calls) c outboxes inboxes put (then_pair first turns) passed
    have-turned turns passed are = record {
      valid = begun.valid;
      first = begun.first;
      first_one = begun.first_one;
      first_two = begun.first_two;
      one = begun.one;
      puts = begun.puts;
      turns = turns;
      are = subst (λ (p : Ports). AreTurns (Secures Steps Calls) turns p nothing_passed passed) begun.is are;
      is = ap (λ (p : Ports). then_pair p turns) begun.is;
    }

    pub record Runs (before outage : List (Turn (SecuredState W))) : Type 0 where
      pub mid : Passage
      pub after : Passage
      pub have : HaveTurned (Secures Steps Calls) c outboxes inboxes put (then_pair first before) mid
      pub are : AreTurns (Secures Steps Calls) outage (then_pair first before) mid after

    pub runs : (before outage : List (Turn (SecuredState W))) (gone : Gone) (turns : AreSecured Steps Calls (before ++ outage) first nothing_gone gone) →
        FewLostIn Steps Calls (before ++ outage) first nothing_gone gone turns nothing_passed → Runs before outage
    runs before outage gone turns few =
        let r = turns-on (before ++ outage) first nothing_gone gone turns (λ lane. 0) (λ lane. 0) few (stands-first Steps Calls first begun.openers) in
        let after : Passage = passage gone r.one_then r.two_then in
        let cut = apart (Secures Steps Calls) before outage first nothing_passed after r.are in
        record { mid = cut.0; after = after; have = have-turned before cut.0 cut.1; are = cut.2 }
