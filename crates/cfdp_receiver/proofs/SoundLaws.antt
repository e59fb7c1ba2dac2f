-- How a sound receiver begins, and what more that is heard leaves of it.
use Rattle.std.proofs.Common.{◌≡◌, ℕ, ◌<◌, true, List, [], ◌∷◌, ◌++◌, length, Option, Some, None, refl, sym, ◌∙◌, Bool}
use Rattle.std.specs.Prelude.{IfSome}
use Rattle.std.specs.FinMap as map
use Rattle.std.specs.FinSet as set
use Rattle.std.specs.Ordering.{nat_cmp}
use Rattle.std.proofs.lemmas.Bool.{false≢true}
use Rattle.cfdp_header.specs.declared.value.Header.{Header}
use Rattle.cfdp_header.specs.Files.{FileMap}
use Rattle.cfdp_directives.specs.declared.pdu.addressing.Addressing.{Addressing}
use Rattle.cfdp_directives.specs.Pdu.Checksum.{checksum_of}
use Rattle.cfdp_directives.specs.Pdu.Sums.{nothing_summed, wants, sum_told}
use Rattle.cfdp_directives.specs.Pdu.Content.{Content, FileData, Metadata, Eof, Finished, Ack, Nak, Prompt, KeepAlive}
use Rattle.cfdp_directives.specs.Pdu.Grammar.{SpellsPdu}
use Rattle.cfdp_directives.specs.User.Put.{Put, IsTruthful, IsMetadataOf, IsEofOf, Brings}
use Rattle.cfdp_directives.proofs.Puts.{SomePdu-append_left, SomePdu-last}
use Rattle.cfdp_store.specs.declared.stored.Stored.{Stored}
use Rattle.cfdp_store.specs.declared.stored.Stored.TheVariants.{Done, Refused}
use Rattle.cfdp_store.specs.Staged.{OctetMap}
use Rattle.cfdp_receiver.specs.declared.state.ReceiverPhase.{ReceiverPhase}
use Rattle.cfdp_receiver.specs.declared.state.ReceiverPhase.TheVariants.{Receiving, Finishing, Closed}
use Rattle.cfdp_receiver.specs.declared.state.FileInfo.{FileInfo}
use Rattle.cfdp_receiver.specs.declared.state.Ending.{Ending}
use Rattle.cfdp_receiver.specs.State.{ReceiverState, kind_told}
use Rattle.cfdp_receiver.specs.Steps.{opens, opened_closed}
use Rattle.cfdp_receiver.specs.Sound.{IsNameOf, IsEndOf, HoldsOctet, KeepsTruth, Sound, IsAmong}
use Rattle.cfdp_receiver.proofs.Sums.{ChecksumsHold, sums-all, sums-none, wants-it}

-- ---- more is heard
name-more : (put : Put) (heard more : List (List ℕ)) (metadata : Option FileInfo) → IfSome metadata (IsNameOf put heard) → IfSome metadata (IsNameOf put (heard ++ more))
name-more put heard more (Some info) h = (h.0, h.1, SomePdu-append_left (IsMetadataOf put) heard more h.2)
name-more put heard more None h = tt

end-more : (put : Put) (heard more : List (List ℕ)) (ending : Option Ending) → IfSome ending (IsEndOf put heard) → IfSome ending (IsEndOf put (heard ++ more))
end-more put heard more (Some ending) h = (h.0, h.1, SomePdu-append_left (IsEofOf put) heard more h.2)
end-more put heard more None h = tt

pub sound-more : (put : Put) (heard more : List (List ℕ)) (r : ReceiverState) (m : OctetMap) → Sound put heard r m → Sound put (heard ++ more) r m
sound-more put heard more r m s = record {
  name = name-more put heard more r.metadata s.name;
  end = end-more put heard more r.ending s.end;
  octets = λ is n h. (let o : HoldsOctet put heard m n = s.octets is n h in record { within = o.within; same = o.same; was_heard = SomePdu-append_left (Brings put n) heard more o.was_heard });
  sum = s.sum;
}

-- only what is held matters of what is staged
pub sound-staged : (put : Put) (heard : List (List ℕ)) (r : ReceiverState) (m n : OctetMap) → (r.phase ≡ Receiving → (k : ℕ) → set.contains r.held k ≡ true → map.get n k ≡ map.get m k) →
    Sound put heard r m → Sound put heard r n
sound-staged put heard r m n same s = record {
  name = s.name;
  end = s.end;
  octets = λ is k h. (let o : HoldsOctet put heard m k = s.octets is k h in record { within = o.within; same = same is k h ∙ o.same; was_heard = o.was_heard });
  sum = s.sum;
}

-- the PDU that was heard last is among those heard
pub among-last : (put : Put) (heard : List (List ℕ)) (text : List ℕ) (h : Header) (v : Content) → SpellsPdu h v text → h.id ≡ put.id → IsTruthful put v → IsAmong put (heard ++ text ∷ []) v
among-last put heard text h (Metadata kind size source destination options) spells same truth =
    SomePdu-last (IsMetadataOf put) heard text h (Metadata kind size source destination options) spells (same, truth)
among-last put heard text h (FileData offset bytes) spells same truth = λ n low high. SomePdu-last (Brings put n) heard text h (FileData offset bytes) spells (same, low, high, truth)
among-last put heard text h (Eof condition checksum size tlvs) spells same truth = λ fine. SomePdu-last (IsEofOf put) heard text h (Eof condition checksum size tlvs) spells (same, fine, truth)
among-last put heard text h (Finished condition delivery status tlvs) spells same truth = tt
among-last put heard text h (Ack of condition status) spells same truth = tt
among-last put heard text h (Nak start end pairs) spells same truth = tt
among-last put heard text h (Prompt keep_alive) spells same truth = tt
among-last put heard text h (KeepAlive progress) spells same truth = tt

-- ---- how it begins
nothing : ChecksumsHold → (put : Put) (heard : List (List ℕ)) (phase : ReceiverPhase) (m : OctetMap) → KeepsTruth put heard phase None None set.empty nothing_summed m
nothing law put heard phase m = record {
  name = tt;
  end = tt;
  octets = λ _ n h. absurd (false≢true (sym (set.contains-empty nat_cmp n) ∙ h));
  sum = λ _. sums-none law None put.octets;
}

pub sound-opens : ChecksumsHold → (put : Put) (heard : List (List ℕ)) (stored : Stored) (large : Bool) (files : FileMap) (addressing : Addressing) →
    Sound put heard (opens stored large files addressing).receiver (opens stored large files addressing).octets
sound-opens law put heard Done large files addressing = nothing law put heard Receiving map.empty
sound-opens law put heard Refused large files addressing = nothing law put heard Finishing map.empty

pub sound-closed : ChecksumsHold → (put : Put) (heard : List (List ℕ)) (large : Bool) (condition : ℕ) (addressing : Addressing) (m : OctetMap) → Sound put heard (opened_closed large condition addressing) m
sound-closed law put heard large condition addressing m = nothing law put heard Closed m

-- ---- the checksum of all
pub sum-whole : ChecksumsHold → (put : Put) (heard : List (List ℕ)) (r : ReceiverState) (m : OctetMap) → Sound put heard r m → r.phase ≡ Receiving →
    ((n : ℕ) → n < length put.octets → set.contains r.held n ≡ true) → sum_told put.checksum_kind r.sums ≡ checksum_of put.checksum_kind put.octets
sum-whole law put heard r m s is all = sums-all law (kind_told r.metadata) put.checksum_kind put.octets r.held r.sums (its r.metadata s.name) (s.sum is) all
  where
    its : (metadata : Option FileInfo) → IfSome metadata (IsNameOf put heard) → wants (kind_told metadata) put.checksum_kind ≡ true
    its None named = refl
    its (Some info) named = wants-it info.checksum_kind put.checksum_kind named.0
