-- What a station does for a wish is what is said of it here, if its file is free.
use Rattle.std.proofs.Common.{◌≡◌, ℕ, List, [], Some, slice_get, refl, ap, inl, inr}
use Rattle.cfdp_header.specs.declared.value.TransactionId.{TransactionId}
use Rattle.cfdp_header.specs.Files.{FileMap}
use Rattle.cfdp_directives.specs.User.Put.{Put}
use Rattle.cfdp_store.specs.Files.{octets_in}
use Rattle.cfdp_sender.specs.State.{SenderState}
use Rattle.cfdp_entity.specs.Looking.{IsSent}
use Rattle.cfdp_entity.specs.Seen.{Sends}
use Rattle.cfdp_entity.specs.Table.{TableState}
use Rattle.cfdp_station.specs.Station.{StationState}
use Rattle.cfdp_port.specs.Port.{table_of}
use Rattle.cfdp_service.specs.declared.wish.PutNames.{PutNames}
use Rattle.cfdp_service.specs.declared.wish.Reply.{Reply}
use Rattle.cfdp_service.specs.declared.wish.Reply.TheVariants as replies
use Rattle.cfdp_service.specs.declared.wish.Wish.{Wish}
use Rattle.cfdp_service.specs.declared.wish.Wish.TheVariants as wishes
use Rattle.cfdp_service.specs.Serving.{Does}
use Rattle.shown_sources.specs.Shown.{entity_sending}
use Rattle.promises.specs.Serving.{Fulfils, IsFree, MayFind, accepted_by}

-- what a file has that is free, and that a record has sent, stays
keeps_sent : (names : PutNames) (has now : FileMap) (old : TableState) → IsFree (wishes.Put names) old → (IsSent names.source.items old → now ≡ has) → (place : ℕ) (id : TransactionId) (x : SenderState) →
    slice_get old.records place ≡ Some (id, Sends x) → x.source ≡ names.source.items → octets_in now names.source.items ≡ octets_in has names.source.items
keeps_sent names has now old (inl sent) same place id x at is = ap (λ (f : FileMap). octets_in f names.source.items) (same sent)
keeps_sent names has now old (inr none) same place id x at is = absurd (none place id x at is)

pub fulfilled : (wish : Wish) (reply : Reply) (has now : FileMap) (old new : StationState) (does : Does wish reply old new) → IsFree wish (table_of old) → MayFind wish reply old new does has now →
    (added : List Put) × Fulfils wish reply has now old new added
fulfilled (wishes.Put names) (replies.Put answer) has now old new (inl (looked, looks, puts)) free (long, others, same) = (
  accepted_by names.source.items names.destination.items answer (entity_sending now looked.entity.state),
  inl (record {
    looked = looked;
    looks = looks;
    finds = record { long = long; others = others; sent = same; keeps = keeps_sent names has now (table_of old) free same };
    puts = puts;
    added = refl;
  }),
)
fulfilled (wishes.Put names) (replies.Put answer) has now old new (inr (is, fails)) free same = ([], inr (is, fails, same, refl))
fulfilled (wishes.Put names) (replies.Change answer) has now old new does free same = absurd does
fulfilled (wishes.Change id request) (replies.Change answer) has now old new does free same = ([], (does, same, refl))
fulfilled (wishes.Change id request) (replies.Put answer) has now old new does free same = absurd does
