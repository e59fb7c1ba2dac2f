-- What a clerk does with the files of its spool: one leaves it as sent only if its put was
-- indicated complete, and as failed only if its put was refused or its transaction is over.
use Rattle.std.specs.Prelude.{◌≡◌, ◌⊎◌, ℕ, List, [], ◌∷◌, ◌++◌, Contains, Option, Some, None, Ok, Err, option_and_then, if◌then◌else◌}
use Rattle.cfdp_header.specs.declared.value.TransactionId.{TransactionId}
use Rattle.cfdp_directives.specs.declared.pdu.codes.Delivery.TheVariants.{Complete}
use Rattle.cfdp_directives.specs.declared.pdu.codes.FileStatus.TheVariants.{Retained}
use Rattle.cfdp_directives.specs.declared.user.indication.Indication.{Indication}
use Rattle.cfdp_directives.specs.declared.user.indication.Indication.TheVariants.{Abandoned, Finished}
use Rattle.cfdp_directives.specs.Pdu.Codes.{no_error}
use Rattle.cfdp_directives.specs.User.Completions.{IsToldComplete}
use Rattle.cfdp_entity.specs.declared.error.PutError.{PutError}
use Rattle.cfdp_service.specs.Calls.{UserCall, Asks, Answered, Hears, heard_by}
use Rattle.cfdp_service.specs.declared.clerk.AskedPut.{AskedPut}
use Rattle.cfdp_service.specs.declared.clerk.OpenFile.{OpenFile}
use Rattle.cfdp_service.specs.declared.wish.PutNames.{PutNames}
use Rattle.cfdp_service.specs.declared.wish.Reply.{Reply}
use Rattle.cfdp_service.specs.declared.wish.Reply.TheVariants as replies
use Rattle.cfdp_service.specs.declared.wish.Wish.{Wish}
use Rattle.cfdp_service.specs.declared.wish.Wish.TheVariants as wishes

-- a clerk of the entity `own`: the file of the spool whose put it wishes, if that isn't
-- answered; the files whose puts are open, each with its transaction; and the spool
pub record ClerkState (S : Type 0) : Type 0 where
  pub own : ℕ
  pub asked : Option (List ℕ)
  pub files : List OpenFile
  pub spool : S

-- the file of the put that was wished last, if it lies in the spool
abbrev pub asked_file : Option AskedPut → Option (List ℕ)
asked_file asked = option_and_then
    (λ put. if put.is_file then Some put.names.source.items else None) asked

-- The wish is to send this file, under its own name at the peer.
pub record WishesFile (name : List ℕ) (wish : Option Wish) : Type 0 where
  pub names : PutNames
  pub is : wish ≡ Some (wishes.Put names)
  pub source : names.source.items ≡ name
  pub destination : names.destination.items ≡ name

-- What is asked is the file that is wished, if that is one.
abbrev pub WishesAsked : (asked : Option (List ℕ)) → Option Wish → Type 0
WishesAsked asked wish = (name : List ℕ) → asked ≡ Some name → WishesFile name wish

-- It is indicated to the entity `own`, which sends the transaction, that its file was delivered.
abbrev pub Completes : ℕ → TransactionId → Indication → Type 0
Completes own id indication = (id.source ≡ own)
    × (indication ≡ Finished id no_error Complete Retained)

-- The transaction is over by this, whatever became of its file.
abbrev pub EndsBy : TransactionId → Indication → Type 0
EndsBy id (Finished over condition delivery status) = over ≡ id
EndsBy id (Abandoned over condition) = over ≡ id
EndsBy id _ = ⊥

-- ---- files that leave the spool in one way: `gone` are those that did
module _ {S : Type 0} (gone : S → List (List ℕ)) where
  -- No file left.
  abbrev pub KeepsFiles : (old new : ClerkState S) → Type 0
  KeepsFiles old new = gone new.spool ≡ gone old.spool

  -- The file of this name left.
  abbrev pub Leaves : (name : List ℕ) → (old new : ClerkState S) → Type 0
  Leaves name old new = gone new.spool ≡ gone old.spool ++ (name ∷ [])

  -- A file left whose put was open as this transaction.
  abbrev pub LeavesOpen : TransactionId → (old new : ClerkState S) → Type 0
  LeavesOpen id old new =
      (file : OpenFile) × Contains old.files file × (file.id ≡ id) × Leaves file.name.items old new

  -- No put of a file was opened.
  abbrev pub OpensNone : (old new : ClerkState S) → Type 0
  OpensNone old new = (file : OpenFile) → Contains new.files file → Contains old.files file

  -- A file left the spool as sent: its put is open, and is indicated complete.
  pub record LeavesSent (indication : Indication) (old new : ClerkState S) : Type 0 where
    pub file : OpenFile
    pub was_open : Contains old.files file
    pub told : Completes old.own file.id indication
    pub left : Leaves file.name.items old new

  -- The file left whose put was wished, since that was refused.
  pub record LeavesRefused (reply : Reply) (old new : ClerkState S) : Type 0 where
    pub name : List ℕ
    pub by : PutError
    pub asked : old.asked ≡ Some name
    pub refused : reply ≡ replies.Put (Err by)
    pub leaves : Leaves name old new

  -- A file left whose transaction is over, and wasn't indicated complete.
  pub record LeavesOver (indication : Indication) (old new : ClerkState S) : Type 0 where
    pub id : TransactionId
    pub over : EndsBy id indication
    pub fails : Completes old.own id indication → ⊥
    pub leaves : LeavesOpen id old new

  -- which files leave as failed by a call
  abbrev pub FailsBy : (old : ClerkState S) → UserCall → (new : ClerkState S) → Type 0
  FailsBy old (Answered reply) new = KeepsFiles old new ⊎ LeavesRefused reply old new
  FailsBy old (Hears indication) new = KeepsFiles old new ⊎ LeavesOver indication old new
  FailsBy old _ new = KeepsFiles old new

-- ---- what a clerk does
module _ {S : Type 0} (sent failed : S → List (List ℕ)) where
  -- what a call of the clerk does
  abbrev pub DoesCall : (old : ClerkState S) → UserCall → (new : ClerkState S) → Type 0
  DoesCall old (Asks wish) new = KeepsFiles sent old new × OpensNone sent old new
      × WishesAsked new.asked wish
  DoesCall old (Answered reply) new = KeepsFiles sent old new × (new.asked ≡ None)
      × ((file : OpenFile) → Contains new.files file → Contains old.files file
      ⊎ ((old.asked ≡ Some file.name.items) × (reply ≡ replies.Put (Ok file.id))))
  DoesCall old (Hears indication) new = OpensNone sent old new × (new.asked ≡ None)
      × (KeepsFiles sent old new ⊎ LeavesSent sent indication old new)
  DoesCall old _ new = KeepsFiles sent old new × OpensNone sent old new × (new.asked ≡ None)

  -- A clerk does a call, and stays that of its entity.
  pub record ClerkSteps (old : ClerkState S) (call : UserCall) (new : ClerkState S) : Type 0 where
    pub does : DoesCall old call new
    pub fails : FailsBy failed old call new
    pub own : new.own ≡ old.own

-- ---- what follows
-- By these calls a put of this file was wished, and accepted as this transaction.
pub record IsAccepted (calls : List UserCall) (name : List ℕ) (id : TransactionId) : Type 0 where
  pub before : List UserCall
  pub behind : List UserCall
  pub wish : Option Wish
  pub is : calls ≡ before ++ Asks wish ∷ Answered (replies.Put (Ok id)) ∷ behind
  pub wishes : WishesFile name wish

-- By these calls a put of this file was accepted, and the entity heard that it was delivered.
pub record IsDelivered (own : ℕ) (calls : List UserCall) (name : List ℕ) : Type 0 where
  pub id : TransactionId
  pub accepted : IsAccepted calls name id
  pub told : IsToldComplete own (heard_by calls) id

-- By these calls a put of this file was accepted, and the entity heard that its transaction is
-- complete.
pub record IsSentFile (own : ℕ) (calls : List UserCall) (told : List Indication) (name : List ℕ)
    : Type 0 where
  pub id : TransactionId
  pub accepted : IsAccepted calls name id
  pub complete : IsToldComplete own told id
