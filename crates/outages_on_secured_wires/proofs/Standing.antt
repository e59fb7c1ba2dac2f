-- Where two ports with secured wires stand between two turns, and what a turn does to that.
use Rattle.std.proofs.Common.{ℕ, ◌+◌, ◌≤◌, List, [], length, refl, sym, ap, subst, ◌∙◌, arith}
use Rattle.aos_frame.specs.Counts.{frame_counts}
use Rattle.aos_frame.specs.declared.config.Lane.{Lane}
use Rattle.frame_security.specs.declared.config.Security.{Security}
use Rattle.frame_security.specs.Opening.{OpenerState}
use Rattle.cfdp_port.specs.Calls.{WireCall}
use Rattle.cfdp_port.specs.Pair.{PairState, TakesTurn}
use Rattle.cfdp_port.specs.Passing.{frames_came, frames_left}
use Rattle.ports_in_order.specs.InOrder.{Passage, PassesInOrder}
use Rattle.secured_wire.specs.Keeping.{KeeperCall}
use Rattle.secured_wire.specs.Passing.{arrivals, sealed_in}
use Rattle.secured_wire.specs.Secured.{Secures, SecuredState}
use Rattle.secured_link.specs.Turns.{BothBegin}
use Rattle.secured_link.proofs.Arriving.{ended, heard_by_all, then_security}
use Rattle.secured_link.proofs.Lanes.{Stands, begins}
use Rattle.secured_link.proofs.Turns.{direction, sent}
use Rattle.outages_on_secured_wires.specs.Turns.{AcceptsSealed, Gone, gone_then, nothing_gone}
use Rattle.outages_on_secured_wires.specs.Whole.{all_lost}

-- what passed, if so many frames of each lane were lost or came
abbrev pub passage : Gone → (one two : Lane → ℕ) → Passage
passage g one two = record { from_one = g.left_one; from_two = g.left_two; taken_one = one; taken_two = two }

abbrev pub lengths : (Lane → List (List ℕ)) → Lane → ℕ
lengths left lane = length (left lane)

-- Nothing that left may still come.
none_left : (next last : ℕ) (from : Lane → List (List ℕ)) → Stands [] next last from (lengths from)
none_left next last from = record {
  first = next;
  rises_all = λ more h. h;
  rest = [];
  low = next;
  rises = λ more h. h;
  has = λ z at above. at;
  lanes = λ lane. record { past = length (from lane); at = omega arith; within = omega arith; left = tt };
}

module _ {W : Type 0} (Steps : W → WireCall → W → Type 0) (Calls : KeeperCall → Type 0) where
  -- Of what left, so much of each lane was lost or came, and what was sealed of the rest may still come.
  pub record Standing (p : PairState (SecuredState W)) (g : Gone) (one two : Lane → ℕ) : Type 0 where
    pub from_one : Stands g.sealed_one p.one.wire.sealer.next p.two.wire.opener.last g.left_one one
    pub from_two : Stands g.sealed_two p.two.wire.sealer.next p.one.wire.opener.last g.left_two two
    pub size_one : p.one.wire.opener.security.mac_len ≤ 32
    pub size_two : p.two.wire.opener.security.mac_len ≤ 32

  pub stands-first : (p : PairState (SecuredState W)) → BothBegin p → Standing p nothing_gone (λ lane. 0) (λ lane. 0)
  stands-first p (size_one, size_two) = record {
    from_one = begins p.one.wire.sealer.next p.two.wire.opener.last;
    from_two = begins p.two.wire.sealer.next p.one.wire.opener.last;
    size_one = size_one;
    size_two = size_two;
  }

  -- What left so far is lost.
  pub stands-lost : (p : PairState (SecuredState W)) (g : Gone) (one two : Lane → ℕ) → Standing p g one two → Standing p (all_lost g) (lengths g.left_one) (lengths g.left_two)
  stands-lost p g one two s = record {
    from_one = none_left p.one.wire.sealer.next p.two.wire.opener.last g.left_one;
    from_two = none_left p.two.wire.sealer.next p.one.wire.opener.last g.left_two;
    size_one = s.size_one;
    size_two = s.size_two;
  }

  module _ (now : ℕ) (old new : PairState (SecuredState W)) (turn : TakesTurn (Secures Steps Calls) now old new) (g : Gone) where
    abbrev pub next : Gone
    next = gone_then Steps Calls now old new turn g

    pub record TurnOn (one two : Lane → ℕ) : Type 0 where
      pub one_then : Lane → ℕ
      pub two_then : Lane → ℕ
      pub passes : PassesInOrder (Secures Steps Calls) now old new turn (passage g one two) (passage next one_then two_then)
      pub stands : Standing new next one_then two_then

    pub turn-on : (one two : Lane → ℕ) → Standing old g one two → AcceptsSealed Steps Calls now old new turn next →
        ((lane : Lane) → (length (next.left_one lane) ≤ one lane + frame_counts) × (length (next.left_two lane) ≤ two lane + frame_counts)) → TurnOn one two
    turn-on one two s (to_two, to_one) near =
        let s1 = sent Steps Calls turn.one_sends.sends.count _ _ turn.one_sends.sends.sent in
        let s2 = sent Steps Calls turn.two_sends.sends.count _ _ turn.two_sends.sends.sent in
        let h1 = heard_by_all Steps Calls turn.one_hears.count _ _ turn.one_hears.heard in
        let h2 = heard_by_all Steps Calls turn.two_hears.count _ _ turn.two_hears.heard in
        let e1 = ended Steps Calls turn.one_hears.count turn.one_hears.last new.one turn.one_hears.ends in
        let e2 = ended Steps Calls turn.two_hears.count turn.two_hears.last new.two turn.two_hears.ends in
        let d1 = direction Steps Calls g.sealed_one (sealed_in Steps Calls turn.one_sends.sends.count _ _ turn.one_sends.sends.sent) g.left_one
        (λ lane. frames_left (Secures Steps Calls) lane turn.one_sends.sends.count _ _ turn.one_sends.sends.sent) next.left_one one old.one.wire turn.one.wire new.one.wire old.two.wire
        turn.two turn.two_hears.last new.two (frames_came (Secures Steps Calls) turn.two_hears.count _ _ turn.two_hears.heard)
        (arrivals Steps Calls turn.two_hears.count _ _ turn.two_hears.heard) s.from_one s1 (λ lane. refl) s2.opener s.size_two h2 e2.0 (e1.1 ∙ h1.sealer) (λ lane. (near lane).0) to_two in
        let d2 = direction Steps Calls g.sealed_two (sealed_in Steps Calls turn.two_sends.sends.count _ _ turn.two_sends.sends.sent) g.left_two
        (λ lane. frames_left (Secures Steps Calls) lane turn.two_sends.sends.count _ _ turn.two_sends.sends.sent) next.left_two two old.two.wire turn.two.wire new.two.wire old.one.wire
        turn.one turn.one_hears.last new.one (frames_came (Secures Steps Calls) turn.one_hears.count _ _ turn.one_hears.heard)
        (arrivals Steps Calls turn.one_hears.count _ _ turn.one_hears.heard) s.from_two s2 (λ lane. refl) s1.opener s.size_one h1 e1.0 (e2.1 ∙ h2.sealer) (λ lane. (near lane).1) to_one in
        record {
          one_then = d1.now;
          two_then = d2.now;
          passes = record { from_one = λ lane. refl; from_two = λ lane. refl; to_two = d1.in_order; to_one = d2.in_order };
          stands = record {
            from_one = d1.stands;
            from_two = d2.stands;
            size_one = subst (λ (s : Security). s.mac_len ≤ 32)
                (sym (ap (λ (x : OpenerState). x.security) (e1.0 ∙ h1.opener) ∙ then_security turn.one.wire.opener (arrivals Steps Calls turn.one_hears.count _ _ turn.one_hears.heard)
                ∙ ap (λ (x : OpenerState). x.security) s1.opener)) s.size_one;
            size_two = subst (λ (s : Security). s.mac_len ≤ 32)
                (sym (ap (λ (x : OpenerState). x.security) (e2.0 ∙ h2.opener) ∙ then_security turn.two.wire.opener (arrivals Steps Calls turn.two_hears.count _ _ turn.two_hears.heard)
                ∙ ap (λ (x : OpenerState). x.security) s2.opener)) s.size_two;
          };
        }
