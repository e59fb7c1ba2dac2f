-- Clerks of stations that resumed, as worked examples.
use Rattle.std.proofs.Common.{◌≡◌, ℕ, ◌<◌, None, List, [], ◌∷◌, refl, sym, subst, arith, inl, inr}
use Rattle.std.specs.Prelude.{Contains}
use Rattle.cfdp_directives.specs.declared.pdu.codes.Delivery.TheVariants.{Complete}
use Rattle.cfdp_directives.specs.declared.pdu.codes.FileStatus.TheVariants.{Retained}
use Rattle.cfdp_directives.specs.declared.user.indication.Indication.{Indication}
use Rattle.cfdp_directives.specs.declared.user.indication.Indication.TheVariants.{Finished}
use Rattle.cfdp_directives.specs.Pdu.Codes.{no_error}
use Rattle.cfdp_sender.specs.State.{SenderState}
use Rattle.cfdp_entity.specs.Seen.{Sends}
use Rattle.cfdp_service.specs.Calls.{Chain, Hears, Intends, UserCall}
use Rattle.cfdp_service.specs.Clerk.{ClerkState, ClerkSteps}
use Rattle.cfdp_service.specs.declared.clerk.OpenFile.{OpenFile}
use Rattle.cfdp_service.specs.declared.user.Intent.{Intent}
use Rattle.promises.specs.ResumedPromise.{CameBack}
use Rattle.promises.specs.Resuming.{ServiceLife, calls_in}

-- A spool is the names of the files that left it as sent; none leaves as failed.
abbrev sent : List (List ℕ) → List (List ℕ)
sent spool = spool

abbrev failed : List (List ℕ) → List (List ℕ)
failed spool = []

module _ (file : OpenFile) (x : SenderState) (named : x.source ≡ file.name.items) (alike : x.destination ≡ file.name.items) (life : ServiceLife) (goes_on : Intent) where
  -- its end
  abbrev ended : Indication
  ended = Finished file.id no_error Complete Retained

  -- a clerk of its entity with these open files, of whose spool these left
  abbrev clerk : List OpenFile → (gone : List (List ℕ)) → ClerkState (List (List ℕ))
  clerk files gone = record { own = file.id.source; asked = None; files = files; spool = gone }

  -- the same life, if the station resumed with the file's record, and its clerk heard this again
  abbrev resumed : List Indication → ServiceLife
  resumed again = record life { back = (file.id, Sends x) ∷ []; again = again }

  abbrev Steps : (old new : ClerkState (List (List ℕ))) → Indication → Type 0
  Steps old new indication = ClerkSteps sent failed old (Hears indication) new

  none_open : (other : OpenFile) → Contains [] other → Contains (file ∷ []) other
  none_open other has = absurd (let k = has.0 in let low : k < 0 = has.1 in omega arith)

  -- The clerk of a station that resumed takes the file back.
  pub came_back : (again : List Indication) → CameBack (resumed again).back file.name.items file.id
  came_back again = record { place = 0; x = x; is = refl; source = named; destination = alike }

  -- If the file is open as its end is heard, it leaves.
  leaves : Steps (clerk (file ∷ []) []) (clerk [] (file.name.items ∷ [])) ended
  leaves = record {
    does = (none_open, refl, inr (record { file = file; was_open = (0, omega arith, refl); told = (refl, refl); left = refl }));
    fails = inl refl;
    own = refl;
  }

  -- A life resumes and completes: it hears nothing again, goes on, and hears the end.
  pub completes : Chain (ClerkSteps sent failed) (Intends goes_on ∷ Hears ended ∷ []) (clerk (file ∷ []) []) (clerk [] (file.name.items ∷ []))
  unfolding Chain
  completes =
      (clerk (file ∷ []) [], (record { does = (refl, λ other has. has, refl); fails = refl; own = refl }, (clerk [] (file.name.items ∷ []), (leaves, refl))))

  -- A life resumes, in which nothing is heard of the file; so the file is still open, and may come
  -- back once more.
  pub stays_open : Chain (ClerkSteps sent failed) (Intends goes_on ∷ []) (clerk (file ∷ []) []) (clerk (file ∷ []) [])
  unfolding Chain
  stays_open = (clerk (file ∷ []) [], (record { does = (refl, λ other has. has, refl); fails = refl; own = refl }, refl))

  only_heard : Chain (ClerkSteps sent failed) (Hears ended ∷ []) (clerk (file ∷ []) []) (clerk [] (file.name.items ∷ []))
  unfolding Chain
  only_heard = (clerk [] (file.name.items ∷ []), (leaves, refl))

  -- The station was killed before its user heard the end: the next user hears it before all else,
  -- and the file leaves.
  pub heard_first : life.served.calls ≡ [] → Chain (ClerkSteps sent failed) (calls_in (resumed (ended ∷ []))) (clerk (file ∷ []) []) (clerk [] (file.name.items ∷ []))
  heard_first none = subst (λ (calls : List UserCall). Chain (ClerkSteps sent failed) (Hears ended ∷ calls) (clerk (file ∷ []) []) (clerk [] (file.name.items ∷ []))) (sym none) only_heard

  -- The station was killed after its user heard the end: the file isn't in the spool any more, so
  -- the next user has none open, hears the end again, and nothing leaves.
  pub heard_twice : Steps (clerk [] []) (clerk [] []) ended
  heard_twice = record { does = (λ other has. has, refl, inl refl); fails = inl refl; own = refl }
