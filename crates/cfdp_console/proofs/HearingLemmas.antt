-- What was heard, along the calls of a connection.
use Rattle.std.specs.Prelude.{◌≡◌, ℕ, List, [], ◌∷◌, ◌++◌, Some, None, Result, Ok, Err, IfOk}
use Rattle.std.specs.Result.{result_ok}
use Rattle.std.proofs.Common.{sym, ◌∙◌, ap, subst, inl, inr}
use Rattle.std.proofs.lemmas.List.{append-nil}
use Rattle.http.specs.declared.request.Request.{Request}
use Rattle.http_server.specs.Exchange.{Call, Chain}
use Rattle.cfdp_console.specs.Hearing.{Heard, HearsRequest, IsJudged, IsNext, Waits, requests_of}
use Rattle.cfdp_console.specs.declared.asking.Ask.{Ask}
use Rattle.cfdp_console.specs.declared.guard.Guard.{Guard}
use Rattle.cfdp_console.specs.declared.caller.Caller.{Caller}
use Rattle.cfdp_console.specs.declared.caller.Hearing.{Hearing}
use Rattle.cfdp_console.specs.declared.denial.Denial.{Denial}

some_is : {X : Type 0} {a b : X} → Some a ≡ Some b → a ≡ b
some_is same = cc

-- what was judged stays
pub kept : (calls : List Call) (old new : Hearing) (judged : Result Ask Denial)
    → old.asked ≡ Some judged → Chain (λ o r _ n. HearsRequest o r n) old calls new
    → new.asked ≡ Some judged
kept [] old new judged is chain = ap (λ h. h.asked) chain ∙ is
kept (c ∷ calls) old new judged is (next, step, rest) =
    kept calls next new judged (step.later judged is) rest

-- what is given for what was judged
given : (guard : Guard) (old new : Caller) (request : Request (List ℕ)) → IsNext old new request
    → (judged : Result Ask Denial) → IfOk judged (λ _. Waits new)
    → IsJudged guard request judged → Heard guard old new (result_ok judged)
given guard old new request next (Ok it) waits may = (request, next, may, waits)
given guard old new request next (Err why) waits denied = inr (request, next, why, denied)

-- What is judged at the end is the first of the new requests.
pub heard : (guard : Guard) (before after : Caller) (calls : List Call) (old new : Hearing)
    → Chain (λ o r _ n. HearsRequest o r n) old calls new → old.asked ≡ None
    → old.guard.now ≡ guard → requests_of after ≡ requests_of before ++ calls
    → (judged : Result Ask Denial) → IfOk judged (λ _. Waits after) → new.asked ≡ Some judged
    → Heard guard before after (result_ok judged)
heard guard before after [] old new chain none is_guard all judged waits is =
    let none_is : None ≡ Some judged = sym none ∙ sym (ap (λ h. h.asked) chain) ∙ is
    in absurd cc
heard guard before after (c ∷ calls) old new (next, step, rest) none is_guard all judged waits is =
    let it = step.first none in
    let same : Some it.0 ≡ Some judged = sym (kept calls next new it.0 it.1 rest) ∙ is in
    given guard before after c.0 (record { response = c.1; later = calls; is = all }) judged waits
    (subst (λ j. IsJudged guard c.0 j) (some_is same)
    (subst (λ g. IsJudged g c.0 it.0) is_guard it.2))

-- If nothing is judged at the end, there is no new request.
pub unheard : (calls : List Call) (old new : Hearing)
    → Chain (λ o r _ n. HearsRequest o r n) old calls new → old.asked ≡ None → new.asked ≡ None
    → (before after : List Call) → after ≡ before ++ calls → after ≡ before
unheard [] old new chain none is before after all = all ∙ append-nil before
unheard (c ∷ calls) old new (next, step, rest) none is before after all =
    let it = step.first none in
    let same : Some it.0 ≡ None = sym (kept calls next new it.0 it.1 rest) ∙ is in
    absurd cc
