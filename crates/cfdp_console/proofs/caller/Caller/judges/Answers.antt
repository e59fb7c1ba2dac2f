-- What is given was judged along the calls of the connection.
use Rattle.std.specs.Prelude.{◌≡◌, ◌++◌}
use Rattle.std.proofs.Common.{◌∙◌, ap, inl, refl, sym, subst}
use Rattle.http_server.specs.declared.connection.Connection.{Connection}
use Rattle.http_server.specs.Connection.{history}
use Rattle.cfdp_console.specs.Hearing.{Heard, requests_of}
use Rattle.cfdp_console.proofs.HearingLemmas.{heard, unheard}
use Rattle.cfdp_console.proofs.caller.Caller.judges.Goals as goal

pub returns-in-Some-clause-heard : goal.returns-in-Some-clause-heard
returns-in-Some-clause-heard c =
    let calls = c.answer_all.ensures.calls in
    let all : requests_of c.judged.new.self ≡ requests_of c.args.self.now ++ calls.0
    = ap (λ (k : Connection). (history k).calls) c.judged.ensures.same ∙ calls.1 in
    subst (λ given. Heard c.args.guard.now c.args.self.now c.judged.new.self given)
    (sym c.judged.ensures.given)
    (heard c.args.guard.now c.args.self.now c.judged.new.self calls.0 _
    c.answer_all.new.service calls.2 refl refl all c.in-Some.asked c.judged.ensures.waits c.in-Some.is)

pub returns-in-None-clause-heard : goal.returns-in-None-clause-heard
returns-in-None-clause-heard c =
    let calls = c.answer_all.ensures.calls in
    inl (unheard calls.0 _ c.answer_all.new.service calls.2 refl c.in-None.is _ _ calls.1)
