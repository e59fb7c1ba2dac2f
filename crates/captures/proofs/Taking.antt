-- What stands at the front of a text is taken off it in one way.
use Rattle.std.proofs.Common.{◌≡◌, ◌⊎◌, ℕ, List, [], length, Option, Some, None, Result, Ok, Err, sym, ap, ◌∙◌, refl, subst, inl, inr, arith}
use Rattle.std.specs.Result.{IfOk}
use Rattle.captures.specs.declared.fault.CaptureFault.{CaptureFault}
use Rattle.captures.specs.declared.order.ByteOrder.{ByteOrder}
use Rattle.captures.specs.declared.reader.PlacedFault.{PlacedFault}
use Rattle.captures.specs.declared.reader.Next.{Next}
use Rattle.captures.specs.declared.reader.Next.TheVariants.{FileHeader, Record, Block}
use Rattle.captures.specs.Blocks.{BlockText, SpellsBlock, block_fault}
use Rattle.captures.specs.Captures.{HasBadBody, HasFault, HasTaken, TakesBlock, TakesNext, TakesNone, body_fault, item_of, state_after}
use Rattle.captures.specs.Packets.{CaptureState, Faulty, ItemText}

-- two answers are one
pub record AreOne (i i2 : ItemText) (a a2 : CaptureState) (r r2 : List ℕ) : Type 0 where
  pub item : i ≡ i2
  pub after : a ≡ a2
  pub rest : r ≡ r2

-- a text begins with one block
pub one_block : (o : ByteOrder) (b b2 : BlockText) (text r r2 : List ℕ) → SpellsBlock o b text r → SpellsBlock o b2 text r2 → (b ≡ b2) × (r ≡ r2)
one_block o b b2 text r r2 one two = grind (arith, one, two)

-- and then no fault stands there
pub sound_block : (o : ByteOrder) (b : BlockText) (text r : List ℕ) → SpellsBlock o b text r → block_fault o text ≡ None
sound_block o b text r one = grind (arith, one)

some_is : {A : Type 0} {x y : A} → Some x ≡ Some y → x ≡ y
some_is same = cc same

one_fault : (f g : PlacedFault) → f.cause ≡ g.cause → f.left ≡ g.left → f ≡ g
one_fault f g cause left = grind (arith, cause, left)

-- ---- what stands at the front of a text of blocks
block_taken : (st : CaptureState) (text : List ℕ) (i : ItemText) (a : CaptureState) (r : List ℕ) → st.next ≡ Block → HasTaken st text i a r → TakesBlock st text i a r ⊎ TakesNone st text i a r
block_taken st text i a r next (inl takes) = inl (let P : Next → Type 0 = λ n. TakesNext n st text i a r in subst P next takes)
block_taken st text i a r next (inr none) = inr none

block_faulty : (st : CaptureState) (text : List ℕ) (cause : CaptureFault) → st.next ≡ Block → HasFault st.next st text cause → (block_fault st.order text ≡ Some cause) ⊎ HasBadBody st text cause
block_faulty st text cause next has = let P : Next → Type 0 = λ n. HasFault n st text cause in subst P next has

-- a block that is read, and a fault
not_both : (st : CaptureState) (text : List ℕ) (b : BlockText) (r : List ℕ) (cause : CaptureFault) → SpellsBlock st.order b text r → body_fault st b ≡ None
    → (block_fault st.order text ≡ Some cause) ⊎ HasBadBody st text cause → ⊥
not_both st text b r cause spelled sound (inl fault) =
    let none = sound_block st.order b text r spelled in
    let both : None ≡ Some cause = sym none ∙ fault in
    cc both
not_both st text b r cause spelled sound (inr bad) =
    let same = (one_block st.order b bad.block text r bad.behind spelled bad.spelled).0 in
    let both : None ≡ Some cause = sym sound ∙ ap (λ x. body_fault st x) same ∙ bad.bad in
    cc both

-- two faults
one_cause : (st : CaptureState) (text : List ℕ) (cause other : CaptureFault) → (block_fault st.order text ≡ Some cause) ⊎ HasBadBody st text cause
    → (block_fault st.order text ≡ Some other) ⊎ HasBadBody st text other → Some cause ≡ Some other
one_cause st text cause other (inl one) (inl two) = sym one ∙ two
one_cause st text cause other (inl one) (inr two) =
    let none = sound_block st.order two.block text two.behind two.spelled in
    let both : None ≡ Some cause = sym none ∙ one in
    absurd (cc both)
one_cause st text cause other (inr one) (inl two) =
    let none = sound_block st.order one.block text one.behind one.spelled in
    let both : None ≡ Some other = sym none ∙ two in
    absurd (cc both)
one_cause st text cause other (inr one) (inr two) =
    let same = (one_block st.order one.block two.block text one.behind two.behind one.spelled two.spelled).0 in
    sym one.bad ∙ ap (λ x. body_fault st x) same ∙ two.bad

one_of : (st : CaptureState) (text : List ℕ) (i i2 : ItemText) (a a2 : CaptureState) (r r2 : List ℕ) → st.next ≡ Block
    → TakesBlock st text i a r ⊎ TakesNone st text i a r → TakesBlock st text i2 a2 r2 ⊎ TakesNone st text i2 a2 r2 → AreOne i i2 a a2 r r2
one_of st text i i2 a a2 r r2 next (inl one) (inl two) =
    let same = one_block st.order one.block two.block text r r2 one.spelled two.spelled in
    record {
      item = one.says ∙ ap (λ b. item_of st b) same.0 ∙ sym two.says;
      after = one.leaves ∙ ap (λ b. state_after st b) same.0 ∙ sym two.leaves;
      rest = same.1;
    }
one_of st text i i2 a a2 r r2 next (inl one) (inr two) =
    absurd (not_both st text one.block r two.fault.cause one.spelled one.sound (block_faulty st text two.fault.cause next two.found))
one_of st text i i2 a a2 r r2 next (inr one) (inl two) =
    absurd (not_both st text two.block r2 one.fault.cause two.spelled two.sound (block_faulty st text one.fault.cause next one.found))
one_of st text i i2 a a2 r r2 next (inr one) (inr two) =
    let cause : one.fault.cause ≡ two.fault.cause = some_is (one_cause st text one.fault.cause two.fault.cause (block_faulty st text one.fault.cause next one.found) (block_faulty st text two.fault.cause next two.found)) in
    record {
      item = one.says ∙ ap (λ f. Faulty f) (one_fault one.fault two.fault cause (one.place ∙ sym two.place)) ∙ sym two.says;
      after = one.leaves ∙ sym two.leaves;
      rest = one.behind ∙ sym two.behind;
    }

pub block_once : (st : CaptureState) (text : List ℕ) (i i2 : ItemText) (a a2 : CaptureState) (r r2 : List ℕ) → st.next ≡ Block
    → HasTaken st text i a r → HasTaken st text i2 a2 r2 → AreOne i i2 a a2 r r2
block_once st text i i2 a a2 r r2 next one two = one_of st text i i2 a a2 r r2 next (block_taken st text i a r next one) (block_taken st text i2 a2 r2 next two)

-- of the value, if there is one
pub if_ok : {A E : Type 0} (P Q : A → Type 0) (r : Result A E) → ((x : A) → P x → Q x) → IfOk r P → IfOk r Q
if_ok P Q (Ok x) more one = more x one
if_ok P Q (Err e) more one = tt
