-- A visitor is attended to.
use Rattle.std.specs.Prelude.{◌≡◌, ◌≤◌, ◌++◌, ◌↔◌, ℕ, Bool, true, false, List, IsTrue, Option, Some, None, IfSome, length, take}
use Rattle.std.proofs.Common.{◌∙◌, ap, inl, inr, subst, sym}
use Rattle.std.proofs.lemmas.List.{take-append-le}
use Rattle.http.specs.declared.request.Request.{Request}
use Rattle.cfdp_console.proofs.HeardFrom.{heard_from}
use Rattle.cfdp_console.specs.Hearing.{Heard, HearsNothing, IsGone, IsNext, Listens, Reads, octets_of, requests_of}
use Rattle.cfdp_console.specs.declared.asking.Ask.{Ask}
use Rattle.cfdp_console.specs.declared.caller.Caller.{Caller}
use Rattle.cfdp_console.specs.declared.guard.Guard.{Guard}
use Rattle.cfdp_console.specs.Came.{HasHeard}
use Rattle.cfdp_console.specs.Serving.{Attends, BringsNothing, NotesRead}
use Rattle.std.specs.declared.io.traits.Read.{Ghosts as Read}
use Rattle.std.specs.declared.io.traits.Write.{Ghosts as Write}
use Rattle.cfdp_console.specs.declared.visitor.Visitor.{Visitor}

-- what came is heard
pub heard_all : (old new : Caller) (came octets : List ℕ) → HasHeard old came → Listens old
    → Reads old new octets → HasHeard new (came ++ octets)
heard_all old new came octets heard listens (inl gone) = λ there. absurd (there gone)
heard_all old new came octets heard listens (inr read) =
    let hearing = listens.0 in
    λ there. read ∙ ap (λ (xs : List ℕ). xs ++ octets) (heard (λ gone. cc))

-- what a piece of a buffer has is heard
pub heard_read : (old new : Caller) (before after octets rest : List ℕ) (n : ℕ)
    → HasHeard old before → Listens old → Reads old new (take n (octets ++ rest))
    → n ≤ length octets → after ≡ before ++ take n octets → HasHeard new after
heard_read old new before after octets rest n heard listens reads within is =
    subst (λ (came : List ℕ). HasHeard new came)
    (ap (λ (xs : List ℕ). before ++ xs) (take-append-le n octets rest within) ∙ sym is)
    (heard_all old new before (take n (octets ++ rest)) heard listens reads)

-- nothing was heard
pub heard_kept : (old new : Caller) (came : List ℕ) → HearsNothing old new → HasHeard old came
    → HasHeard new came
heard_kept old new came kept heard =
    λ there. kept.octets ∙ heard (λ gone. there (kept.gone gone))

pub not_gone : (b : Bool) (caller : Caller) → (IsTrue b ↔ IsGone caller) → b ≡ false
    → ¬ (IsGone caller)
not_gone true caller same is = absurd cc
not_gone false caller same is = λ gone. let shown = same.1 gone in cc

-- whoever asks has heard all
pub came_all : (guard : Guard) (old new : Caller) (asked : Option Ask) (came : List ℕ)
    → Heard guard old new asked → HasHeard new came → IfSome asked (λ _. octets_of new ≡ came)
came_all guard old new None came heard all = tt
came_all guard old new (Some it) came (request, next, may, waits) all = all (λ gone. cc)

next_then : (old mid new : Caller) (request : Request (List ℕ))
    → requests_of new ≡ requests_of mid → IsNext old mid request → IsNext old new request
next_then old mid new request same next = record {
  response = next.response;
  later = next.later;
  is = same ∙ next.is;
}

-- nothing more is heard after that
heard_then : (guard : Guard) (old mid new : Caller) → Heard guard old mid None
    → HearsNothing mid new → Heard guard old new None
heard_then guard old mid new (inl none) kept = inl (kept.requests ∙ none)
heard_then guard old mid new (inr (request, next, why, denied)) kept =
    inr (request, next_then old mid new request kept.requests next, why, denied)

pub heard_none : (guard : Guard) (old mid new : Caller) (asked : Option Ask) → asked ≡ None
    → Heard guard old mid asked → HearsNothing mid new → Heard guard old new None
heard_none guard old mid new asked none heard kept = heard_then guard old mid new
    (subst (λ (a : Option Ask). Heard guard old mid a) none heard) kept

pub reads_then : (old mid new : Caller) (octets : List ℕ) → Reads old mid octets
    → HearsNothing mid new → Reads old new octets
reads_then old mid new octets (inl gone) kept = inl (kept.gone gone)
reads_then old mid new octets (inr read) kept = inr (kept.octets ∙ read)

pub nothing_nothing : (old mid new : Caller) → HearsNothing old mid → HearsNothing mid new
    → HearsNothing old new
nothing_nothing old mid new first then = record {
  octets = then.octets ∙ first.octets;
  requests = then.requests ∙ first.requests;
  gone = λ gone. then.gone (first.gone gone);
}

module _ {S : Type 0} {R : Read S} {W : Write S} where
  -- something was done before, by which nothing was heard
  pub attends_after : (guard : Guard) (old mid new : Visitor S R W) (asked : Option Ask)
      → BringsNothing old mid → Attends guard mid new asked → Attends guard old new asked
  attends_after guard old mid new asked nothing attends = record {
    number = attends.number ∙ nothing.number;
    heard = heard_from guard old.caller mid.caller new.caller asked nothing.kept.requests
        attends.heard;
    came = attends.came;
    read = subst (λ (came : List ℕ). NotesRead came new) nothing.came attends.read;
  }
