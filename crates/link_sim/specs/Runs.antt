-- Proof-only: what becomes of one transaction while its two entities only poll, flush and deliver,
-- and nothing is lost: a run of its own. And what becomes of it if timers of it expire.
use Rattle.std.specs.Prelude.{◌≡◌, ◌≢◌, ◌⊎◌, ℕ, zero, suc, ◌||◌, Bool, true, false, List, [], ◌∷◌, ◌++◌, Option, Some, None}
use Rattle.std.specs.List.{list_any}
use Rattle.cfdp_header.specs.Files.{FileMap}
use Rattle.cfdp_directives.specs.declared.pdu.addressing.Addressing.{Addressing}
use Rattle.cfdp_directives.specs.declared.user.indication.Indication.{Indication}
use Rattle.cfdp_directives.specs.declared.user.limits.Times.{Times}
use Rattle.cfdp_directives.specs.declared.user.policy.Policy.{Policy}
use Rattle.cfdp_directives.specs.Pdu.Content.{Content}
use Rattle.cfdp_directives.specs.User.Put.{Put}
use Rattle.cfdp_store.specs.declared.stored.Stored.TheVariants.{Done}
use Rattle.cfdp_store.specs.Staged.{OctetMap}
use Rattle.cfdp_timers.specs.declared.kind.Kind.{Kind}
use Rattle.cfdp_sender.specs.declared.due.SenderDue.{SenderDue}
use Rattle.cfdp_sender.specs.Due.{sender_due, sender_says}
use Rattle.cfdp_sender.specs.InFile.{IsInFile}
use Rattle.cfdp_sender.specs.Inputs.{IsSenderOf}
use Rattle.cfdp_sender.specs.State.{SenderState}
use Rattle.cfdp_sender.specs.Steps.{SenderAfter, sender_sends, sender_expires}
use Rattle.cfdp_receiver.specs.declared.due.Due.{Due}
use Rattle.cfdp_receiver.specs.Due.{receiver_due, receiver_says}
use Rattle.cfdp_receiver.specs.Sound.{is_file_fault}
use Rattle.cfdp_receiver.specs.State.{ReceiverState}
use Rattle.cfdp_receiver.specs.Steps.{ReceiverAfter, takes, expires}
use Rattle.cfdp_entity.specs.Opening.{opens}
use Rattle.cfdp_entity.specs.Seen.{Receives}
use Rattle.cfdp_entity.specs.Steps.{sender_after, receiver_after}
use Rattle.link_sim.specs.Exchange.{IsTrueForth, tells_complete}
use Rattle.link_sim.specs.Waiting.{one_tells}
use Rattle.link_sim.specs.Work.{opening_work}

-- Two parts of a list that stood one after the other, `first` and `second`, changed places, as PDUs
-- on their way do if those of one lane overtake those of the other. What stands before and after
-- stayed.
pub record IsSwapped {X : Type 0} (xs ys : List X) : Type 0 where
  pub before : List X
  pub first : List X
  pub second : List X
  pub behind : List X
  pub was : xs ≡ before ++ (first ++ (second ++ behind))
  pub is : ys ≡ before ++ (second ++ (first ++ behind))

-- One transaction: its sender, its receiver or none yet, the PDUs on their way to the receiver and
-- to the sender, and whether it was indicated complete to the sender's user, and to the receiver's.
pub record Exchange : Type 0 where
  pub sender : SenderState
  pub receiver : Option ReceiverState
  pub forth : List Content
  pub back : List Content
  pub told : Bool
  pub told_there : Bool

-- whether it was indicated, with what was indicated before
abbrev pub told_then : Put → Bool → List Indication → Bool
told_then put before told = before || one_tells (tells_complete put.id) told

-- What holds of every sender of the put, beside its state.
pub record IsItsSender (put : Put) (x : SenderState) : Type 0 where
  pub is_sender : IsSenderOf put x
  pub in_file : IsInFile x

-- ---- one step of it
-- `large` is the large file flag of a PDU that a receiver hears.
pub record SenderSends (put : Put) (old new : Exchange) : Type 0 where
  pub own : IsItsSender put old.sender
  pub due : SenderDue
  pub is_due : sender_due old.sender ≡ Some due
  pub is : new ≡ (let a = sender_sends Done put.octets old.sender due in record old {
    sender = a.sender;
    forth = old.forth ++ sender_says put.octets old.sender due ∷ [];
    told = told_then put old.told a.told;
  })

pub record SenderHears (put : Put) (old new : Exchange) : Type 0 where
  pub own : IsItsSender put old.sender
  pub heard : Content
  pub rest : List Content
  pub front : old.back ≡ heard ∷ rest
  pub after : SenderAfter
  pub is_after : sender_after heard old.sender ≡ Some after
  pub is : new ≡ record old {
    sender = after.sender;
    back = rest;
    told = told_then put old.told after.told;
  }

-- what is for a receiver is nothing to a sender
pub record SenderPasses (old new : Exchange) : Type 0 where
  pub heard : Content
  pub rest : List Content
  pub front : old.back ≡ heard ∷ rest
  pub none : sender_after heard old.sender ≡ None
  pub is : new ≡ record old { back = rest }

pub record ReceiverTakes (put : Put) (old new : Exchange) : Type 0 where
  pub receiver : ReceiverState
  pub is_receiver : old.receiver ≡ Some receiver
  pub own : receiver.addressing.id ≡ put.id
  pub due : Due
  pub is_due : receiver_due receiver ≡ Some due
  pub octets : OctetMap
  pub files : FileMap
  pub is : new ≡ (let a = takes due octets files receiver in record old {
    receiver = Some a.receiver;
    back = old.back ++ receiver_says receiver due ∷ [];
    told_there = told_then put old.told_there a.told;
  })

-- The inbox does as it is asked, and of a PDU that is true of the put no fault of the file is
-- indicated.
pub record ReceiverHears (put : Put) (old new : Exchange) : Type 0 where
  pub receiver : ReceiverState
  pub is_receiver : old.receiver ≡ Some receiver
  pub own : receiver.addressing.id ≡ put.id
  pub large : Bool
  pub heard : Content
  pub rest : List Content
  pub front : old.forth ≡ heard ∷ rest
  pub octets : OctetMap
  pub files : FileMap
  pub after : ReceiverAfter
  pub is_after : receiver_after Done large heard octets files receiver ≡ Some after
  pub good : IsTrueForth put heard → list_any is_file_fault after.told ≡ false
  pub is : new ≡ record old {
    receiver = Some after.receiver;
    forth = rest;
    told_there = told_then put old.told_there after.told;
  }

-- what is for a sender is nothing to a receiver
pub record ReceiverPasses (old new : Exchange) : Type 0 where
  pub receiver : ReceiverState
  pub is_receiver : old.receiver ≡ Some receiver
  pub large : Bool
  pub heard : Content
  pub rest : List Content
  pub front : old.forth ≡ heard ∷ rest
  pub octets : OctetMap
  pub files : FileMap
  pub none : receiver_after Done large heard octets files receiver ≡ None
  pub is : new ≡ record old { forth = rest }

pub record ReceiverOpens (put : Put) (old new : Exchange) : Type 0 where
  pub none : old.receiver ≡ None
  pub large : Bool
  pub heard : Content
  pub rest : List Content
  pub front : old.forth ≡ heard ∷ rest
  pub opening : opening_work heard ≢ 0
  pub addressing : Addressing
  pub own : addressing.id ≡ put.id
  pub times : Times
  pub files : FileMap
  pub receiver : ReceiverState
  pub octets : OctetMap
  pub is_receiver :
      (opens Done Done times files large heard addressing).seen ≡ Receives receiver octets
  pub good : IsTrueForth put heard
      → list_any is_file_fault (opens Done Done times files large heard addressing).told ≡ false
  pub is : new ≡ record old {
    receiver = Some receiver;
    forth = rest;
    told_there = told_then put old.told_there
        (opens Done Done times files large heard addressing).told;
  }

-- a PDU that opens no record comes if there is none
pub record GoesUnheard (old new : Exchange) : Type 0 where
  pub none : old.receiver ≡ None
  pub heard : Content
  pub rest : List Content
  pub front : old.forth ≡ heard ∷ rest
  pub opens_none : opening_work heard ≡ 0
  pub is : new ≡ record old { forth = rest }

-- on the way to the receiver, or back, one lane overtakes the other
pub record Overtakes (old new : Exchange) : Type 0 where
  pub forth : List Content
  pub back : List Content
  pub swaps : IsSwapped old.forth forth
  pub swaps_back : IsSwapped old.back back
  pub is : new ≡ record old { forth = forth; back = back }

-- more was indicated, of whatever transaction
pub record TellsMore (old new : Exchange) : Type 0 where
  pub told : Bool
  pub told_there : Bool
  pub stays : old.told ≡ true → told ≡ true
  pub stays_there : old.told_there ≡ true → told_there ≡ true
  pub is : new ≡ record old { told = told; told_there = told_there }

abbrev pub Settles : Put → (old new : Exchange) → Type 0
Settles put old new =
    SenderSends put old new ⊎ (SenderHears put old new ⊎ (SenderPasses old new
    ⊎ (ReceiverTakes put old new ⊎ (ReceiverHears put old new ⊎ (ReceiverPasses old new
    ⊎ (ReceiverOpens put old new ⊎ (GoesUnheard old new ⊎ (Overtakes old new
    ⊎ TellsMore old new))))))))

-- so many of them, one after another
unfoldable pub Runs : ℕ → Put → (old new : Exchange) → Type 0
Runs zero put old new = new ≡ old
Runs (suc n) put old new = (mid : Exchange) × (Runs n put old mid × Settles put mid new)

-- ---- timers of it that expire
-- of the sender, in turn
unfoldable pub expire_sender : Policy → Put → List Kind → Exchange → Exchange
expire_sender policy put [] e = e
expire_sender policy put (k ∷ ks) e =
    let a = sender_expires k policy e.sender in
    expire_sender policy put ks
    (record e { sender = a.sender; told = told_then put e.told a.told })

-- of the receiver, in turn; what it staged and published is left open
unfoldable pub ReceiverExpires : Policy → Put → List Kind → (old new : Exchange) → Type 0
ReceiverExpires policy put [] old new = new ≡ old
ReceiverExpires policy put (k ∷ ks) old new =
    (r : ReceiverState) × ((old.receiver ≡ Some r) × ((octets : OctetMap) × ((files : FileMap)
    × ReceiverExpires policy put ks (let a = expires k policy octets files r in
    record old { receiver = Some a.receiver; told_there = told_then put old.told_there a.told })
    new)))
