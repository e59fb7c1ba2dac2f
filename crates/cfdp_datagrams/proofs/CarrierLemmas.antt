-- What leaves over a wire of datagrams, step by step.
use Rattle.std.proofs.Common.{◌≡◌, ℕ, ◌+◌, ◌≤◌, suc, Bool, true, List, [], ◌∷◌, Option, Some, None, length, inl, inr, refl, sym, ap, subst, ◌∙◌, arith}
use Rattle.std.specs.Prelude.{is_some, unwrap_or}
use Rattle.cfdp_station.specs.Transmitting.{Times}
use Rattle.cfdp_port.specs.Calls.{WireCall}
use Rattle.cfdp_datagrams.specs.Carrier.{ConversionState}
use Rattle.cfdp_datagrams.specs.CarrierWire.{CarrierState, CarriesAs, Converts, LeavesNext, MayLeave, SendsStep, waiting_of}

-- what is in an option
pub some_same : (a b : ConversionState) → Some a ≡ Some b → a ≡ b
some_same a b same = ap (λ (o : Option ConversionState). unwrap_or o a) same

-- the first of the datagrams that wait
pub record First (o : Option ConversionState) : Type 0 where
  pub conversion : ConversionState
  pub pdu : List ℕ
  pub rest : List (List ℕ)
  pub there : o ≡ Some conversion
  pub queue : conversion.queue ≡ pdu ∷ rest

pub first_in : (c : ConversionState) (queue : List (List ℕ)) → c.queue ≡ queue → 1 ≤ length queue → First (Some c)
first_in c [] same some = absurd (omega (arith, some))
first_in c (pdu ∷ rest) same some = record { conversion = c; pdu = pdu; rest = rest; there = refl; queue = same }

pub first_of : (o : Option ConversionState) → 1 ≤ waiting_of o → First o
first_of None some = absurd (omega (arith, some))
first_of (Some c) some = first_in c c.queue refl some

module _ {W : Type 0} (Steps : W → WireCall → W → Type 0) where
  -- one step more
  pub one_more : (count : ℕ) (old mid new : CarrierState W) → Times (SendsStep Steps) count old mid → SendsStep Steps mid new
      → Times (SendsStep Steps) (suc count) old new
  one_more count old mid new before step = (mid, before, step)

  -- the wire was asked, or need not be
  pub asked_more : (answer : Bool) (count : ℕ) (old mid new : CarrierState W) → Times (SendsStep Steps) count old mid → MayLeave Steps answer mid new
      → (more : ℕ) × Times (SendsStep Steps) more old new
  asked_more answer count old mid new before may = elim may.asks [
    | inl same ↦ (count, subst (λ (s : CarrierState W). Times (SendsStep Steps) count old s) (sym same) before)
    | inr asks ↦ (suc count, one_more count old mid new before (inl asks))
  ]

  -- asking lets nothing leave
  pub asked_waits : (answer : Bool) (old new : CarrierState W) → MayLeave Steps answer old new → new.conversion ≡ old.conversion
  asked_waits answer old new may = elim may.asks [
    | inl same ↦ ap (λ (s : CarrierState W). s.conversion) same
    | inr asks ↦ asks.conversion
  ]

  -- one waits less
  pub one_less : (old new : CarrierState W) → LeavesNext Steps old new → waiting_of new.conversion + 1 ≡ waiting_of old.conversion
  one_less old new left =
      let before : waiting_of old.conversion ≡ suc (length left.rest) = ap waiting_of left.was ∙ ap (λ (q : List (List ℕ)). length q) left.queue in
      let after : waiting_of new.conversion ≡ length left.rest = ap waiting_of left.now ∙ ap (λ (c : ConversionState). length c.queue) left.leaves.now in
      omega (arith, before, after)

  -- what a call does, if PDUs are carried
  pub converted : (o : Option ConversionState) (call : WireCall) (old new : CarrierState W) → is_some o ≡ true
      → ((c : ConversionState) → Converts Steps c call old new) → CarriesAs Steps o call old new
  converted None call old new there does = absurd cc
  converted (Some c) call old new there does = does c
