-- Which calls of the outbox a sender makes when its PDU is taken.
use Rattle.std.specs.Prelude.{◌≡◌, ℕ, Bool, true, false, List, [], ◌∷◌, length, is_ok, Option, Some, None}
use Rattle.cfdp_store.specs.Calls.{Answer, OutboxCall, Read}
use Rattle.cfdp_store.specs.Chains.{Calls}
use Rattle.cfdp_sender.specs.declared.due.SenderDue.{SenderDue}
use Rattle.cfdp_sender.specs.Due.{carries, extent_of}
use Rattle.cfdp_sender.specs.State.{SenderState}

module _ {S : Type 0} (Steps : S → OutboxCall → S → Type 0) where
  -- One read of so many octets of a file, from an offset on, and no other call. It was Ok or not;
  -- what the octets lent to it held before and after is left open here.
  pub record ReadsOnce (name : List ℕ) (offset count : ℕ) (ok : Bool) (old new : S) : Type 0 where
    pub lent : List ℕ
    pub answer : Answer
    pub left : List ℕ
    pub room : length lent ≡ count
    pub outcome : is_ok answer ≡ ok
    pub made : Calls Steps old (Read name offset lent answer left ∷ []) new

  abbrev pub ReadsIf : Bool → List ℕ → ℕ × ℕ → (ok : Bool) → (old new : S) → Type 0
  ReadsIf true name extent ok old new = ReadsOnce name extent.0 extent.1 ok old new
  ReadsIf false name extent ok old new = Calls Steps old [] new

  -- If file data are due, they are read once. For any other PDU the outbox isn't called.
  abbrev pub Reads : SenderState → Option SenderDue → (ok : Bool) → (old new : S) → Type 0
  Reads x (Some d) ok old new = ReadsIf (carries d) x.source (extent_of d) ok old new
  Reads x None ok old new = Calls Steps old [] new
