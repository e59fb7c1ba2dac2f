-- Exported: what is said by one of the PDUs heard is said by one of any PDUs that these are among, in
-- whatever order.
use Rattle.std.proofs.Common.{ℕ, List, Option, Some, None}
use Rattle.std.specs.Prelude.{Any, Contains, IfSome}
use Rattle.cfdp_header.specs.declared.value.Header.{Header}
use Rattle.cfdp_directives.specs.Pdu.Content.{Content}
use Rattle.cfdp_directives.specs.Pdu.Grammar.{SpellsPdu}
use Rattle.cfdp_directives.specs.User.Put.{Put, SomePdu, IsMetadataOf, IsEofOf, Brings, HeardInFull}
use Rattle.cfdp_store.specs.Staged.{OctetMap}
use Rattle.cfdp_receiver.specs.declared.state.FileInfo.{FileInfo}
use Rattle.cfdp_receiver.specs.declared.state.Ending.{Ending}
use Rattle.cfdp_receiver.specs.State.{ReceiverState}
use Rattle.cfdp_receiver.specs.Sound.{IsNameOf, IsEndOf, HoldsOctet, Sound}

pub any-among : {X : Type 0} (P : X → Type 0) (xs ys : List X) → ((x : X) → Contains xs x → Contains ys x) → Any P xs → Any P ys
any-among P xs ys among a = let c = among a.1 (a.0, a.2, a.3) in (c.0, a.1, c.1, c.2, a.4)

module _ (heard others : List (List ℕ)) (among : (text : List ℕ) → Contains heard text → Contains others text) where
  pub some-among : (P : Header → Content → Type 0) → SomePdu P heard → SomePdu P others
  some-among P a = any-among (λ text. (h : Header) × ((v : Content) × (SpellsPdu h v text × P h v))) heard others among a

  pub full-among : (put : Put) → HeardInFull put heard → HeardInFull put others
  full-among put h = record {
    metadata = some-among (IsMetadataOf put) h.metadata;
    ending = some-among (IsEofOf put) h.ending;
    file = λ n low. some-among (Brings put n) (h.file n low);
  }

  name-among : (put : Put) (metadata : Option FileInfo) → IfSome metadata (IsNameOf put heard) → IfSome metadata (IsNameOf put others)
  name-among put (Some info) h = (h.0, h.1, some-among (IsMetadataOf put) h.2)
  name-among put None h = tt

  end-among : (put : Put) (ending : Option Ending) → IfSome ending (IsEndOf put heard) → IfSome ending (IsEndOf put others)
  end-among put (Some ending) h = (h.0, h.1, some-among (IsEofOf put) h.2)
  end-among put None h = tt

  pub sound-among : (put : Put) (r : ReceiverState) (m : OctetMap) → Sound put heard r m → Sound put others r m
  sound-among put r m s = record {
    name = name-among put r.metadata s.name;
    end = end-among put r.ending s.end;
    octets = λ is n h. (let o : HoldsOctet put heard m n = s.octets is n h in record { within = o.within; same = o.same; was_heard = some-among (Brings put n) o.was_heard });
    sum = s.sum;
  }
