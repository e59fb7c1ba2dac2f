-- An entity resumes as itself.
use Rattle.std.proofs.Common.{◌≡◌, inr, ℕ, ◌+◌, ◌≤◌, List, [], ◌∷◌, length, take, slice_get, Option, Some, None, if◌then◌else◌, refl, sym, ap, subst, ◌∙◌, arith}
use Rattle.std.proofs.lemmas.List.{take-append-le}
use Rattle.std.specs.FinSet as set
use Rattle.std.specs.Ordering.{nat_cmp}
use Rattle.cfdp_header.specs.declared.value.TransactionId.{TransactionId}
use Rattle.cfdp_header.specs.Files.{FileMap}
use Rattle.cfdp_directives.specs.User.Put.{Put}
use Rattle.cfdp_directives.specs.Pdu.Sums.{AreSumsOf, nothing_summed}
use Rattle.cfdp_store.specs.Staged.{OctetMap}
use Rattle.cfdp_sender.specs.Inputs.{finished_count, front_sums}
use Rattle.cfdp_receiver.specs.declared.state.ReceiverPhase.TheVariants.{Receiving}
use Rattle.cfdp_receiver.specs.State.{ReceiverState, kind_told}
use Rattle.cfdp_entity.specs.Entity.{EntityState, is_forgotten}
use Rattle.cfdp_entity.specs.History.{may_finish}
use Rattle.cfdp_entity.specs.Seen.{Seen, Sends, Receives}
use Rattle.cfdp_entity.specs.Sending.{SendsItsPut}
use Rattle.cfdp_entity.specs.Sound.{IsSound}
use Rattle.cfdp_resuming.specs.Committed.{ComesBackAs}
use Rattle.cfdp_resuming.specs.Entity.{AreSomeOf, IsRestored, IsResumed}
use Rattle.cfdp_resuming.specs.Receiver.{SumsStaged}

pub some-all : {A : Type 0} (xs : List A) → AreSomeOf xs xs
some-all [] = refl
some-all (x ∷ xs) = inr (xs, refl, some-all xs)

pub opened-sums : (m : OctetMap) → AreSumsOf None [] nothing_summed → SumsStaged None set.empty m nothing_summed
opened-sums m none = record { pieces = []; cut = record { parts = tt; once = λ n. ap (λ b. if b then 1 else 0) (sym (set.contains-empty nat_cmp n)) }; are = none }

-- one record
module _ (put_of : TransactionId → Option Put) (sources : FileMap) (id : TransactionId) where
  seen-itself : (s : Seen) → SendsItsPut put_of sources id s → ((r : ReceiverState) (m : OctetMap) → s ≡ Receives r m → r.phase ≡ Receiving → SumsStaged (kind_told r.metadata) r.held m r.sums) → IsRestored sources s s
  seen-itself (Sends x) k sums = record {
    transfer = refl;
    sent = k.in_file.sent;
    front = subst (λ (file : List ℕ). x.sums ≡ front_sums x.checksum_kind (take x.sent file)) k.octets k.sender.front;
    asked = k.in_file.asked;
    cause = k.in_file.cause;
  }
  seen-itself (Receives r m) k sums = record {
    addressing = refl;
    metadata = inr refl;
    ending = inr refl;
    held = λ receives n is. (receives, is, refl);
    sums = λ receives. sums r m refl receives;
  }

pub entity-itself : (put_of : TransactionId → Option Put) (heard : List (List ℕ)) (first : FileMap) (e : EntityState) → IsSound put_of heard first e →
    ((place : ℕ) (id : TransactionId) (r : ReceiverState) (m : OctetMap) → slice_get e.table.records place ≡ Some (id, Receives r m) → r.phase ≡ Receiving → SumsStaged (kind_told r.metadata) r.held m r.sums) → IsResumed e e
entity-itself put_of heard first e k each = record {
  valid = k.config;
  own = refl;
  peer = refl;
  policy = k.policy;
  next = omega arith;
  sources = refl;
  files = refl;
  records = λ place d there. record {
    place = place;
    before = d.1;
    was = there;
    restored = seen-itself put_of e.table.sources d.0 d.1 (k.sends.sends place d there) (λ r m is. each place d.0 r m (there ∙ ap (λ (s : Seen). Some (d.0, s)) is));
  };
  distinct = k.once.distinct;
  apart = k.once.apart;
  told = some-all e.table.told;
  published = refl;
  ended = k.tells.indicated;
  unended = λ id some. (let once : finished_count id e.table.told + may_finish (is_forgotten e) id e.table.records ≤ 1 = k.once.once id in omega (arith, once, some));
  timed = k.timed;
}

-- what a user received before the commit stays indicated
pub received-stays : (saved old new : EntityState) → ComesBackAs saved old new → old.table.gone ≤ length saved.table.told → take old.table.gone new.table.told ≡ take old.table.gone old.table.told
received-stays saved old new c low =
    let n : ℕ = old.table.gone in
    ap (take n) c.told ∙ sym (take-append-le n saved.table.told c.goes.gained low) ∙ ap (take n) (sym c.goes.told)
