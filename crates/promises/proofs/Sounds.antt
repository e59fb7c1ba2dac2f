-- An entity stays sound if its outbox has other files than before, except for those that its
-- records send, and if indications were discarded.
use Rattle.std.proofs.Common.{◌≡◌, ℕ, Bool, List, [], ◌∷◌, slice_get, Option, Some, refl, sym, ap, subst, ◌∙◌, inl, inr}
use Rattle.std.specs.Prelude.{unwrap_or}
use Rattle.std.specs.Prelude.{bytes_eq}
use Rattle.std.proofs.lemmas.Bool.{cases_Bool}
use Rattle.std.proofs.lemmas.Bool.Decides.{not_from_Decides}
use Rattle.std.proofs.lemmas.Slice.Eq.{bytes_eq-Decides}
use Rattle.cfdp_header.specs.declared.value.TransactionId.{TransactionId}
use Rattle.cfdp_header.specs.Files.{FileMap}
use Rattle.cfdp_directives.specs.User.Put.{Put}
use Rattle.cfdp_store.specs.Files.{octets_in}
use Rattle.cfdp_sender.specs.State.{SenderState}
use Rattle.cfdp_entity.specs.Entity.{EntityState, with_table}
use Rattle.cfdp_entity.specs.Forgetting.{Forgets, ForgetsEach, ForgetsSome}
use Rattle.cfdp_entity.specs.Looking.{LooksUp}
use Rattle.cfdp_entity.specs.Seen.{Seen, Sends, Receives}
use Rattle.cfdp_entity.specs.Sending.{SendsItsPut}
use Rattle.cfdp_entity.specs.Sound.{IsSound}
use Rattle.cfdp_entity.specs.Table.{TableState}
use Rattle.promises.proofs.Standing.{KeepsSent}

-- What of an entity doesn't change.
pub record IsLike (old new : EntityState) : Type 0 where
  pub told : new.table.told ≡ old.table.told
  pub config : new.config ≡ old.config
  pub next : new.next ≡ old.next
  pub files : new.table.files ≡ old.table.files

pub like_same : (old new : EntityState) → new ≡ old → IsLike old new
like_same old new e = record {
  told = ap (λ (x : EntityState). x.table.told) e;
  config = ap (λ (x : EntityState). x.config) e;
  next = ap (λ (x : EntityState). x.next) e;
  files = ap (λ (x : EntityState). x.table.files) e;
}

like_both : (a b c : EntityState) → IsLike a b → IsLike b c → IsLike a c
like_both a b c g h = record { told = h.told ∙ g.told; config = h.config ∙ g.config; next = h.next ∙ g.next; files = h.files ∙ g.files }

-- ---- records that are released
forgets_like : (id : TransactionId) (old new : EntityState) → Forgets id old new → IsLike old new
forgets_like id old new f = record {
  told = ap (λ (x : EntityState). x.table.told) f.forgot;
  config = ap (λ (x : EntityState). x.config) f.forgot;
  next = ap (λ (x : EntityState). x.next) f.forgot;
  files = ap (λ (x : EntityState). x.table.files) f.forgot;
}

each_like : (ids : List TransactionId) (old new : EntityState) → ForgetsEach ids old new → IsLike old new
unfolding ForgetsEach
each_like [] old new same = like_same old new same
each_like (id ∷ ids) old new f = like_both old f.0 new (forgets_like id old f.0 f.1.0) (each_like ids f.0 new f.1.1)

pub some_like : (old new : EntityState) → ForgetsSome old new → IsLike old new
some_like old new f = each_like f.ids old new f.forgets

-- ---- other files, and indications that are discarded
module _ (p : TransactionId → Option Put) (heard : List (List ℕ)) (first : FileMap) where
  sends_else : (sources now : FileMap) (id : TransactionId) (s : Seen) → ((x : SenderState) → s ≡ Sends x → octets_in now x.source ≡ octets_in sources x.source) → SendsItsPut p sources id s →
      SendsItsPut p now id s
  sends_else sources now id (Sends x) same o = record { put = o.put; is_put = o.is_put; sender = o.sender; in_file = o.in_file; octets = o.octets ∙ sym (same x refl) }
  sends_else sources now id (Receives r m) same o = tt

  pub sound_else : (e : EntityState) (sources : FileMap) (stands : Bool) (gone : ℕ) →
      ((place : ℕ) (id : TransactionId) (x : SenderState) → slice_get e.table.records place ≡ Some (id, Sends x) → octets_in sources x.source ≡ octets_in e.table.sources x.source) →
      IsSound p heard first e → IsSound p heard first (record e { table = record e.table { sources = sources; stands = stands; gone = gone } })
  sound_else e sources stands gone same k = record {
    config = k.config;
    once = k.once;
    knows = record { knows = k.knows.knows; inbox = k.knows.inbox; caused = k.knows.caused };
    sends = record {
      sends = λ place entry at.
          sends_else e.table.sources sources entry.0 entry.1 (λ x is. same place entry.0 x (at ∙ ap (λ (s : Seen). Some (entry.0, s)) is)) (k.sends.sends place entry at);
    };
    tells = record { indicated = k.tells.indicated; told = k.tells.told };
    timed = record { waited = k.timed.waited; armed = k.timed.armed };
    policy = k.policy;
  }

  -- a file was looked for, which no record sends or sent as another one
  pub sound_looked : (name : List ℕ) (old new : EntityState) → LooksUp name old new → KeepsSent name old.table new.table → IsSound p heard first old → IsSound p heard first new
  sound_looked name old new looks keeps k = elim (looks.looks) [
    | inl sent ↦ subst (λ (e : EntityState). IsSound p heard first e) (sym (looks.entity ∙ ap (λ (t : TableState). with_table old t) sent.1)) k
    | inr anew ↦
        let same : (place : ℕ) (id : TransactionId) (x : SenderState) → slice_get old.table.records place ≡ Some (id, Sends x) → octets_in new.table.sources x.source ≡ octets_in old.table.sources x.source =
        (λ (place : ℕ) (id : TransactionId) (x : SenderState) (at : slice_get old.table.records place ≡ Some (id, Sends x)).
        elim (cases_Bool (bytes_eq x.source name)) [
          | inl is ↦
              let its : x.source ≡ name = (bytes_eq-Decides x.source name).0 is in
              ap (λ n. octets_in new.table.sources n) its ∙ keeps place id x at its ∙ ap (λ n. octets_in old.table.sources n) (sym its)
          | inr apart ↦ ap (λ o. unwrap_or o []) (anew.looks.others x.source (not_from_Decides (bytes_eq x.source name) (bytes_eq-Decides x.source name) apart))
        ]) in
        subst (λ (e : EntityState). IsSound p heard first e) (sym (looks.entity ∙ ap (λ (t : TableState). with_table old t) anew.table))
        (sound_else old new.table.sources new.table.stands old.table.gone same k)
  ]

pub looked_like : (name : List ℕ) (old new : EntityState) → LooksUp name old new → IsLike old new
looked_like name old new looks = elim (looks.looks) [
  | inl sent ↦ like_same old new (looks.entity ∙ ap (λ (t : TableState). with_table old t) sent.1)
  | inr anew ↦
      let e : new ≡ with_table old (record old.table { sources = new.table.sources; stands = new.table.stands }) = looks.entity ∙ ap (λ (t : TableState). with_table old t) anew.table in
      record {
        told = ap (λ (x : EntityState). x.table.told) e;
        config = ap (λ (x : EntityState). x.config) e;
        next = ap (λ (x : EntityState). x.next) e;
        files = ap (λ (x : EntityState). x.table.files) e;
      }
]
