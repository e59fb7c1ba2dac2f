-- A file that no record is sending may become another: all records stay ready.
use Rattle.std.proofs.Common.{◌≡◌, ◌≢◌, ◌⊎◌, inl, inr, ◌<◌, arith, ℕ, zero, suc, Bool, false, ◌&&◌, List, [], ◌∷◌, length, slice_get, None, IsSome, refl, sym, ap, subst, ◌∙◌}
use Rattle.std.specs.Prelude.{unwrap_or, bytes_eq}
use Rattle.std.proofs.lemmas.Bool.Decides.{not_from_Decides}
use Rattle.std.proofs.lemmas.Slice.Eq.{bytes_eq-Decides}
use Rattle.std.specs.FinSet as set
use Rattle.cfdp_header.specs.declared.value.TransactionId.{TransactionId}
use Rattle.cfdp_header.specs.Ids.{id_cmp}
use Rattle.cfdp_header.specs.Files.{FileMap}
use Rattle.cfdp_store.specs.Rereading.{LooksFor}
use Rattle.cfdp_sender.specs.declared.phase.SenderPhase.{SenderPhase}
use Rattle.cfdp_sender.specs.declared.phase.SenderPhase.TheVariants.{Sending, Cancelling, Closed}
use Rattle.cfdp_sender.specs.Due.{is_sending, sends_file}
use Rattle.cfdp_sender.specs.State.{SenderState}
use Rattle.cfdp_sender.specs.Does.{HasFile, HasFileWhile, HasOwnFile}
use Rattle.cfdp_entity.specs.declared.record.Record.{Record}
use Rattle.cfdp_entity.specs.declared.record.Record.TheVariants as held
use Rattle.cfdp_entity.specs.Desk.{Staged, DeskState}
use Rattle.cfdp_entity.specs.Looking.{IsUnsent, sends_at, sends_in}
use Rattle.cfdp_entity.specs.Seen as seens
use Rattle.cfdp_entity.specs.Seen.{seen}
use Rattle.cfdp_entity.specs.Table.{Entry, TableState}
use Rattle.cfdp_entity.specs.Whole.{AllReady, IsReadyRecord, IsWhole, entries_seen}

module _ (name : List ℕ) (stand stand_now : Bool) (sources now : FileMap) (looks : LooksFor name stand stand_now sources now) where
  file-left : (other : List ℕ) (size : ℕ) → other ≢ name → HasFile sources other size → HasFile now other size
  file-left other size apart has =
      let same = looks.others other apart in
      record { there = subst IsSome (sym same) has.there; whole = ap (λ o. length (unwrap_or o [])) same ∙ has.whole }

  own-left : (x : SenderState) → sends_file name x ≡ false → HasOwnFile sources x → HasOwnFile now x
  own-left x unsent has = by x.phase refl has
    where
      by : (p : SenderPhase) → x.phase ≡ p → HasFileWhile p sources x.source x.size → HasFileWhile p now x.source x.size
      by Sending is own =
          let apart : bytes_eq x.source name ≡ false = ap (λ q. is_sending q && bytes_eq x.source name) (sym is) ∙ unsent in
          file-left x.source x.size (not_from_Decides (bytes_eq x.source name) (bytes_eq-Decides x.source name) apart) own
      by Cancelling is own = tt
      by Closed is own = tt

  record-left : (staged : Staged) (id : TransactionId) (r : Record) → seens.sends_file name (seen (staged id) r) ≡ false → IsReadyRecord staged sources id r → IsReadyRecord staged now id r
  unfolding IsReadyRecord
  record-left staged id (held.Sends x) unsent ready = (ready.0, own-left x unsent ready.1)
  record-left staged id (held.Receives r) unsent ready = ready

  ready-left : (staged : Staged) (roomy : set.FinSet id_cmp) (es : List (TransactionId × Record)) → ((place : ℕ) → sends_in name (slice_get (entries_seen staged es) place) ≡ false) →
      AllReady staged sources roomy es → AllReady staged now roomy es
  unfolding AllReady entries_seen
  ready-left staged roomy [] unsent all = tt
  ready-left staged roomy (e ∷ es) unsent all = (record-left staged e.0 e.1 (unsent zero) all.0, all.1, ready-left staged roomy es (λ place. unsent (suc place)) all.2)

pub whole-looked : (name : List ℕ) (desk : DeskState) (stands : Bool) (now : FileMap) (failures : ℕ) (es : List (TransactionId × Record)) (flags : List Bool) →
    ((place : ℕ) → sends_in name (slice_get (entries_seen desk.staged es) place) ≡ false) → LooksFor name desk.stands stands desk.sources now → IsWhole desk es flags →
    IsWhole (record desk { sources = now; stands = stands; outbox_failures = failures }) es flags
whole-looked name desk stands now failures es flags unsent looks whole = record {
  distinct = whole.distinct;
  ready = ready-left name desk.stands stands desk.sources now looks desk.staged desk.effects.timers.roomy es unsent whole.ready;
  flagged = whole.flagged;
  few = whole.few;
}

-- ---- after the last record none is
below-or-past : (es : List Entry) (k : ℕ) → (k < length es) ⊎ (slice_get es k ≡ None)
below-or-past [] k = inr refl
below-or-past (e ∷ es) zero = inl (omega arith)
below-or-past (e ∷ es) (suc k) = elim (below-or-past es k) [
  | inl low ↦ inl (omega (arith, low))
  | inr none ↦ inr none
]

pub unsent-all : (name : List ℕ) (st : TableState) → ((k : ℕ) → k < length st.records → sends_at name k st ≡ false) → IsUnsent name st
unsent-all name st below place = elim (below-or-past st.records place) [
  | inl low ↦ below place low
  | inr none ↦ ap (sends_in name) none
]
