-- Exported: over secured wires each lane keeps its order, whatever the network does; `sent` and
-- `direction` for turns of any kind.
use Rattle.std.proofs.Common.{◌≡◌, inl, inr, ℕ, zero, suc, ◌+◌, ◌≤◌, Result, List, [], ◌∷◌, ◌++◌, length, refl, sym, ap, subst, ◌∙◌, arith, append_assoc, append-nil}
use Rattle.aos_frame.specs.Counts.{frame_counts}
use Rattle.aos_frame.specs.declared.config.Lane.{Lane}
use Rattle.cfdp_header.specs.declared.value.TransactionId.{TransactionId}
use Rattle.cfdp_station.specs.Transmitting.{Times}
use Rattle.frame_security.specs.declared.config.Security.{Security}
use Rattle.frame_security.specs.Lives.{AreSomeOf}
use Rattle.frame_security.specs.Opening.{OpenerState}
use Rattle.frame_security.proofs.Taken.{Rise}
use Rattle.cfdp_port.specs.Calls.{WireCall, Sent}
use Rattle.cfdp_port.specs.Passing.{frames_came, frames_left, in_lane}
use Rattle.ports_in_order.specs.InOrder.{ComeInOrder, PassInOrder, Passage}
use Rattle.cfdp_port.specs.Pair.{PairState, Turns}
use Rattle.cfdp_port.specs.Port.{PortState}
use Rattle.cfdp_port.specs.Turn.{SendsFrame}
use Rattle.cfdp_port.specs.declared.wire.WireFault.{WireFault}
use Rattle.secured_wire.specs.Passing.{arrivals, sealed_by_call, sealed_in}
use Rattle.secured_link.specs.Turns.{BothBegin, FewLost, NoneForgedIn, WereSealed, left_one, left_two, sealed_one, sealed_two}
use Rattle.secured_wire.specs.Keeping.{KeeperCall}
use Rattle.secured_wire.specs.Direction.{Arrival, SealedIn, bares_in, opener_then}
use Rattle.secured_wire.specs.Secured.{Secures, SecuredState}
use Rattle.secured_link.proofs.Arriving.{Hears, ended, heard_by_all, then_security}
use Rattle.secured_link.proofs.Lanes.{Stands, bares-append, begins, hears, of, sends, some_and_some, were_sealed}

module _ {W : Type 0} (Steps : W → WireCall → W → Type 0) (Calls : KeeperCall → Type 0) where
  -- ---- what leaves in a turn
  pub record Leaves (old new : SecuredState W) (left : Lane → List (List ℕ)) (sealed : List SealedIn) : Type 0 where
    pub rise : (others : List SealedIn) → Rise of new.sealer.next others → Rise of old.sealer.next (sealed ++ others)
    pub opener : new.opener ≡ old.opener
    pub some : (lane : Lane) → AreSomeOf (left lane) (bares_in lane sealed)

  all_of : {A : Type 0} (xs : List A) → AreSomeOf xs xs
  all_of [] = tt
  all_of (x ∷ xs) = ([], xs, refl, all_of xs)

  one_left : (lane : Lane) (frame : List ℕ) (answer : Result (Unit {0}) WireFault) (old new : SecuredState W) (sent : Secures Steps Calls old (Sent frame answer) new) →
      Leaves old new (λ its. in_lane its lane frame) (sealed_by_call Steps Calls lane frame answer old new sent)
  one_left lane frame answer old new (inl sends) =
      let next : new.sealer.next ≡ old.sealer.next + 1 = ap (λ s. s.next) sends.sealer in
      record {
        rise = λ others h. (omega arith, (omega (arith, sends.number), sends.header), subst (λ n. Rise of n others) next h);
        opener = sends.opener;
        some = λ its. subst (AreSomeOf (in_lane its lane frame)) (sym (append-nil (in_lane its lane frame))) (all_of (in_lane its lane frame));
      }
  one_left lane frame answer old new (inr lost) = record {
    rise = λ others h. subst (λ (s : SecuredState W). Rise of s.sealer.next others) lost.same h;
    opener = ap (λ (s : SecuredState W). s.opener) lost.same;
    some = λ its. tt;
  }

  pub sent : (count : ℕ) (old new : PortState (SecuredState W)) (steps : Times (SendsFrame (Secures Steps Calls)) count old new) →
      Leaves old.wire new.wire (λ lane. frames_left (Secures Steps Calls) lane count old new steps) (sealed_in Steps Calls count old new steps)
  sent zero old new same = record {
    rise = λ others h. subst (λ (p : PortState (SecuredState W)). Rise of p.wire.sealer.next others) same h;
    opener = ap (λ (p : PortState (SecuredState W)). p.wire.opener) same;
    some = λ lane. tt;
  }
  sent (suc count) old new (mid, before, step) =
      let b = sent count old mid before in
      let one = one_left step.lane step.frame step.answer mid.wire new.wire step.sent in
      let xs : List SealedIn = sealed_in Steps Calls count old mid before in
      let t : List SealedIn = sealed_by_call Steps Calls step.lane step.frame step.answer mid.wire new.wire step.sent in
      record {
        rise = λ others h. subst (Rise of old.wire.sealer.next) (sym (append_assoc xs t others)) (b.rise (t ++ others) (one.rise others h));
        opener = one.opener ∙ b.opener;
        some = λ lane. subst (AreSomeOf (frames_left (Secures Steps Calls) lane count old mid before ++ in_lane lane step.lane step.frame)) (sym (bares-append lane xs t))
            (some_and_some (frames_left (Secures Steps Calls) lane count old mid before) (bares_in lane xs) (in_lane lane step.lane step.frame) (bares_in lane t) (b.some lane) (one.some lane));
      }

  -- ---- one direction, in a turn
  -- What must be shown of it: what came did so in order, and the rest may still come.
  pub record Passes (all : List SealedIn) (next last : ℕ) (from : Lane → List (List ℕ)) (taken : Lane → ℕ) (came : List (List ℕ)) : Type 0 where
    pub now : Lane → ℕ
    pub in_order : ComeInOrder from taken came now
    pub stands : Stands all next last from now

  -- one station sent, and the other one took what came
  pub direction : (all more : List SealedIn) (from gone then_from : Lane → List (List ℕ)) (taken : Lane → ℕ) (sender sent_by sender_new : SecuredState W) (hearer : SecuredState W) (heard_by last new : PortState (SecuredState W))
      (came : List (List ℕ)) (arrived : List Arrival) → Stands all sender.sealer.next hearer.opener.last from taken → Leaves sender sent_by gone more → ((lane : Lane) → then_from lane ≡ from lane ++ gone lane) →
      heard_by.wire.opener ≡ hearer.opener → hearer.opener.security.mac_len ≤ 32 → Hears Steps Calls heard_by last came arrived → new.wire.opener ≡ last.wire.opener → sender_new.sealer ≡ sent_by.sealer →
      ((lane : Lane) → length (then_from lane) ≤ taken lane + frame_counts) → WereSealed heard_by.wire.opener (all ++ more) arrived →
      Passes (all ++ more) sender_new.sealer.next new.wire.opener.last then_from taken came
  direction all more from gone then_from taken sender sent_by sender_new hearer heard_by last new came arrived s leaves grown same size h at_end kept short none =
      let grew : Stands (all ++ more) sent_by.sealer.next hearer.opener.last then_from taken =
      sends all more sender.sealer.next sent_by.sealer.next hearer.opener.last from gone then_from taken s leaves.rise leaves.some grown in
      let ready : Stands (all ++ more) sent_by.sealer.next heard_by.wire.opener.last then_from taken =
      subst (λ (o : OpenerState). Stands (all ++ more) sent_by.sealer.next o.last then_from taken) (sym same) grew in
      let most : heard_by.wire.opener.security.mac_len ≤ 32 = subst (λ (o : OpenerState). o.security.mac_len ≤ 32) (sym same) size in
      let t = hears (all ++ more) sent_by.sealer.next then_from heard_by.wire.opener arrived taken short most ready none in
      let now : opener_then heard_by.wire.opener arrived ≡ new.wire.opener = sym (at_end ∙ h.opener) in
      record {
        now = t.0;
        in_order = subst (λ l. ComeInOrder then_from taken l t.0) (sym h.frames) t.1;
        stands = subst (λ (o : OpenerState). Stands (all ++ more) sender_new.sealer.next o.last then_from t.0) now
            (subst (λ n. Stands (all ++ more) n (opener_then heard_by.wire.opener arrived).last then_from t.0) (sym (ap (λ x. x.next) kept)) t.2);
      }

  -- ---- all turns
  module _ (id : TransactionId) where
    abbrev passage : (count : ℕ) (first now : PairState (SecuredState W)) → Turns (Secures Steps Calls) id count first now → (one two : Lane → ℕ) → Passage
    passage count first now turns one two = record {
      from_one = λ lane. left_one Steps Calls id count first now turns lane;
      from_two = λ lane. left_two Steps Calls id count first now turns lane;
      taken_one = one;
      taken_two = two;
    }

    record Order (count : ℕ) (first now : PairState (SecuredState W)) (turns : Turns (Secures Steps Calls) id count first now) : Type 0 where
      one : Lane → ℕ
      two : Lane → ℕ
      pass : PassInOrder (Secures Steps Calls) id count first now turns (passage count first now turns one two)
      from_one : Stands (sealed_one Steps Calls id count first now turns) now.one.wire.sealer.next now.two.wire.opener.last (λ lane. left_one Steps Calls id count first now turns lane) one
      from_two : Stands (sealed_two Steps Calls id count first now turns) now.two.wire.sealer.next now.one.wire.opener.last (λ lane. left_two Steps Calls id count first now turns lane) two
      size_one : now.one.wire.opener.security.mac_len ≤ 32
      size_two : now.two.wire.opener.security.mac_len ≤ 32

    order : (count : ℕ) (first now : PairState (SecuredState W)) (turns : Turns (Secures Steps Calls) id count first now) → BothBegin first → NoneForgedIn Steps Calls id count first now turns → FewLost Steps Calls id count first now turns →
        Order count first now turns
    order zero first now same (size_one, size_two) none few = record {
      one = λ lane. 0;
      two = λ lane. 0;
      pass = refl;
      from_one = begins now.one.wire.sealer.next now.two.wire.opener.last;
      from_two = begins now.two.wire.sealer.next now.one.wire.opener.last;
      size_one = subst (λ (p : PairState (SecuredState W)). p.one.wire.opener.security.mac_len ≤ 32) (sym same) size_one;
      size_two = subst (λ (p : PairState (SecuredState W)). p.two.wire.opener.security.mac_len ≤ 32) (sym same) size_two;
    }
    order (suc count) first now (mid, before, unclosed, turn) begin (none, to_two, to_one) (few, near) =
        let o = order count first mid before begin none few in
        let close = near (passage count first mid before o.one o.two) o.pass in
        let s1 = sent turn.one_sends.sends.count _ _ turn.one_sends.sends.sent in
        let s2 = sent turn.two_sends.sends.count _ _ turn.two_sends.sends.sent in
        let h1 = heard_by_all Steps Calls turn.one_hears.count _ _ turn.one_hears.heard in
        let h2 = heard_by_all Steps Calls turn.two_hears.count _ _ turn.two_hears.heard in
        let e1 = ended Steps Calls turn.one_hears.count turn.one_hears.last now.one turn.one_hears.ends in
        let e2 = ended Steps Calls turn.two_hears.count turn.two_hears.last now.two turn.two_hears.ends in
        let d1 = direction (sealed_one Steps Calls id count first mid before) (sealed_in Steps Calls turn.one_sends.sends.count _ _ turn.one_sends.sends.sent)
        (λ lane. left_one Steps Calls id count first mid before lane) (λ lane. frames_left (Secures Steps Calls) lane turn.one_sends.sends.count _ _ turn.one_sends.sends.sent)
        (λ lane. left_one Steps Calls id count first mid before lane ++ frames_left (Secures Steps Calls) lane turn.one_sends.sends.count _ _ turn.one_sends.sends.sent)
        o.one mid.one.wire turn.one.wire now.one.wire mid.two.wire turn.two turn.two_hears.last now.two
        (frames_came (Secures Steps Calls) turn.two_hears.count _ _ turn.two_hears.heard) (arrivals Steps Calls turn.two_hears.count _ _ turn.two_hears.heard)
        o.from_one s1 (λ lane. refl) s2.opener o.size_two h2 e2.0 (e1.1 ∙ h1.sealer) (λ lane. (close lane).0)
        (were_sealed (sealed_one Steps Calls id count first mid before ++ sealed_in Steps Calls turn.one_sends.sends.count _ _ turn.one_sends.sends.sent) turn.two.wire.opener
        (arrivals Steps Calls turn.two_hears.count _ _ turn.two_hears.heard) to_two) in
        let d2 = direction (sealed_two Steps Calls id count first mid before) (sealed_in Steps Calls turn.two_sends.sends.count _ _ turn.two_sends.sends.sent)
        (λ lane. left_two Steps Calls id count first mid before lane) (λ lane. frames_left (Secures Steps Calls) lane turn.two_sends.sends.count _ _ turn.two_sends.sends.sent)
        (λ lane. left_two Steps Calls id count first mid before lane ++ frames_left (Secures Steps Calls) lane turn.two_sends.sends.count _ _ turn.two_sends.sends.sent)
        o.two mid.two.wire turn.two.wire now.two.wire mid.one.wire turn.one turn.one_hears.last now.one
        (frames_came (Secures Steps Calls) turn.one_hears.count _ _ turn.one_hears.heard) (arrivals Steps Calls turn.one_hears.count _ _ turn.one_hears.heard)
        o.from_two s2 (λ lane. refl) s1.opener o.size_one h1 e1.0 (e2.1 ∙ h2.sealer) (λ lane. (close lane).1)
        (were_sealed (sealed_two Steps Calls id count first mid before ++ sealed_in Steps Calls turn.two_sends.sends.count _ _ turn.two_sends.sends.sent) turn.one.wire.opener
        (arrivals Steps Calls turn.one_hears.count _ _ turn.one_hears.heard) to_one) in
        record {
          one = d1.now;
          two = d2.now;
          pass = (passage count first mid before o.one o.two, o.pass, record { from_one = λ lane. refl; from_two = λ lane. refl; to_two = d1.in_order; to_one = d2.in_order });
          from_one = d1.stands;
          from_two = d2.stands;
          size_one = subst (λ (s : Security). s.mac_len ≤ 32) (sym (ap (λ (x : OpenerState). x.security) (e1.0 ∙ h1.opener) ∙ then_security turn.one.wire.opener (arrivals Steps Calls turn.one_hears.count _ _ turn.one_hears.heard)
              ∙ ap (λ (x : OpenerState). x.security) s1.opener)) o.size_one;
          size_two = subst (λ (s : Security). s.mac_len ≤ 32) (sym (ap (λ (x : OpenerState). x.security) (e2.0 ∙ h2.opener) ∙ then_security turn.two.wire.opener (arrivals Steps Calls turn.two_hears.count _ _ turn.two_hears.heard)
              ∙ ap (λ (x : OpenerState). x.security) s2.opener)) o.size_two;
        }

-- the law
pub in_order : {W : Type 0} (Steps : W → WireCall → W → Type 0) (Calls : KeeperCall → Type 0) (id : TransactionId) (count : ℕ) (first last : PairState (SecuredState W)) (turns : Turns (Secures Steps Calls) id count first last) → BothBegin first →
    NoneForgedIn Steps Calls id count first last turns → FewLost Steps Calls id count first last turns → (passed : Passage) × PassInOrder (Secures Steps Calls) id count first last turns passed
in_order Steps Calls id count first last turns begin none few =
    let o = order Steps Calls id count first last turns begin none few in
    (passage Steps Calls id count first last turns o.one o.two, o.pass)
