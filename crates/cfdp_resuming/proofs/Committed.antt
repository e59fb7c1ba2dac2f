-- An entity that is restored from what was committed of it resumes.
use Rattle.std.proofs.Common.{◌≡◌, inl, inr, ℕ, List, [], ◌∷◌, ◌++◌, append-nil, refl, sym, ap, subst, ◌∙◌}
use Rattle.cfdp_header.specs.Files.{FileMap}
use Rattle.cfdp_directives.specs.declared.user.indication.Indication.{Indication}
use Rattle.cfdp_directives.specs.User.Completions.{completions}
use Rattle.cfdp_directives.proofs.Puts.{completions-append}
use Rattle.cfdp_store.specs.Files.{octets_in}
use Rattle.cfdp_sender.specs.declared.transfer.Transfer.{Transfer}
use Rattle.cfdp_sender.specs.State.{SenderState, transfer_of}
use Rattle.cfdp_entity.specs.Entity.{EntityState}
use Rattle.cfdp_entity.specs.History.{Leads}
use Rattle.cfdp_entity.specs.Seen.{Seen, Sends, Receives}
use Rattle.cfdp_entity.specs.Table.{Entry, TableState}
use Rattle.cfdp_sender.specs.Back.{sent_back}
use Rattle.cfdp_resuming.specs.Committed.{ComesAsEver, ComesBackAs, IsBack}
use Rattle.cfdp_resuming.specs.Entity.{AreSomeOf, ComesBack, IsRestored, IsResumed}
use Rattle.cfdp_resuming.specs.Later.{AreLater, IsLaterSeen}
use Rattle.cfdp_resuming.specs.Sender.{IsRestoredSender}
use Rattle.cfdp_resuming.proofs.Back.{sender-back}
use Rattle.cfdp_resuming.proofs.Later.{back-later}

-- ---- what was indicated
some-none : {A : Type 0} (ys : List A) → AreSomeOf ys []
some-none [] = refl
some-none (y ∷ ys) = inl (some-none ys)

some-front : {A : Type 0} (xs ys : List A) → AreSomeOf (xs ++ ys) xs
some-front [] ys = some-none ys
some-front (x ∷ xs) ys = inr (xs, refl, some-front xs ys)

-- ---- one record
restored-later : (file : List ℕ) (x y s : SenderState) → transfer_of y ≡ transfer_of x → IsRestoredSender file x s → IsRestoredSender file y s
restored-later file x y s same r = record { transfer = r.transfer ∙ sym same; sent = r.sent; front = r.front; asked = r.asked; cause = r.cause }

pub seen-back : (sources : FileMap) (saved old new : Seen) → IsLaterSeen saved old → IsBack sources saved old new → IsRestored sources old new
seen-back sources (Sends x) (Sends y) new later back =
    let restored : IsRestoredSender (octets_in sources x.source) x (sent_back back.sent back.sums x) =
    sender-back (octets_in sources x.source) back.sent back.sums x back.within back.front back.cause x.phase refl in
    let moved : IsRestoredSender (octets_in sources y.source) y (sent_back back.sent back.sums x) =
    subst (λ (t : Transfer). IsRestoredSender (octets_in sources t.source) y (sent_back back.sent back.sums x)) (sym later)
    (restored-later (octets_in sources x.source) x y (sent_back back.sent back.sums x) later restored) in
    subst (λ (s : Seen). IsRestored sources (Sends y) s) (sym back.is) moved
seen-back sources (Receives r m) (Receives s n) new later back =
    subst (λ (t : Seen). IsRestored sources (Receives s n) t) (sym back.is) (back-later r s m n back.octets back.held back.sums later back.there back.summed)
seen-back sources (Sends x) (Receives s n) new later back = absurd later
seen-back sources (Receives r m) (Sends y) new later back = absurd later

pub comes-ever : (sources : FileMap) (old : List Entry) (e : Entry) → ComesAsEver sources old e → ComesBack sources old e
comes-ever sources old e c = record { place = c.place; before = c.now; was = c.was; restored = seen-back sources c.before c.now e.1 c.later c.back }

-- ---- the entity
pub committed-resumes : ((old new : TableState) → Leads old new → AreLater old.records new.records) → (saved old new : EntityState) → ComesBackAs saved old new → IsResumed old new
committed-resumes later saved old new c = record {
  valid = c.valid;
  own = c.own;
  peer = c.peer;
  policy = c.policy;
  next = c.next;
  sources = c.sources;
  files = c.files;
  records = λ place e there.
      (let came = c.records place e there in
      let went = later saved.table old.table c.leads came.place (e.0, came.before) came.was in
      let back : IsRestored saved.table.sources went.0 e.1 =
      seen-back saved.table.sources came.before went.0 e.1 went.1.1 (came.back went.0 went.1.0) in
      let it : ComesBack old.table.sources old.table.records e =
      record { place = came.place; before = went.0; was = went.1.0; restored = subst (λ (f : FileMap). IsRestored f went.0 e.1) (sym c.goes.sources) back } in it);
  distinct = c.distinct;
  apart = c.apart;
  told = subst (λ (l : List Indication). AreSomeOf old.table.told l) (sym c.told) (subst (λ (l : List Indication). AreSomeOf l saved.table.told) (sym c.goes.told) (some-front saved.table.told c.goes.gained));
  published =
      (let own : ℕ = old.config.entity in
      ap (completions own) c.told ∙ sym (append-nil (completions own saved.table.told)) ∙ ap (λ l. completions own saved.table.told ++ l) (sym c.none_published)
      ∙ sym (completions-append own saved.table.told c.goes.gained) ∙ ap (completions own) (sym c.goes.told));
  ended = c.ended;
  unended = c.unended;
  timed = c.timed;
}
