-- What a request is answered by the page's server.
use Rattle.std.specs.Prelude.{◌≡◌, ◌⊎◌, ℕ, List}
use Rattle.http.specs.declared.request.Request.{Request}
use Rattle.http.specs.Request.{body_of}
use Rattle.http_server.specs.declared.response.Response.{Response}
use Rattle.cfdp_console.specs.declared.denial.Denial.{Denial}
use Rattle.cfdp_console.specs.declared.denial.Denial.TheVariants as denial
use Rattle.cfdp_play.specs.Asking.{IsDenied, MayAsk}
use Rattle.cfdp_play.specs.Fields.{TellsFields}
use Rattle.cfdp_play.specs.Load.{AreFewEnough, AreTooMany, lines_of}
use Rattle.cfdp_play.specs.Running.{HasNoText, TellsRun}
use Rattle.cfdp_play.specs.declared.asking.Asked.{Asked}
use Rattle.cfdp_play.specs.declared.asking.Asked.TheVariants.{Page, Run, Fields}
use Rattle.cfdp_play.specs.declared.load.TooMuch.{TooMuch}

-- the status of HTTP that says why nothing is done
abbrev pub status_of : Denial → ℕ
status_of denial.NotFound = 404
status_of denial.WrongMethod = 405
status_of denial.Foreign = 403
status_of denial.NoToken = 401
status_of denial.BadBody = 400
status_of denial.NoMemory = 503

-- What a script is answered: its run; that it asks for too much, and isn't run; or that its report
-- is no text.
abbrev pub RunAnswers : (script : List ℕ) → Response → Type 0
RunAnswers script response =
    ((response.status ≡ 200) × AreFewEnough (lines_of script)
    × TellsRun script response.body.items)
    ⊎ ((response.status ≡ 413) × ((why : TooMuch) × AreTooMany why (lines_of script)))
    ⊎ ((response.status ≡ 500) × HasNoText script)

-- What frames or PDUs are answered: their fields, or 400 if the first line doesn't say what they
-- are.
abbrev pub FieldsAnswer : (body : List ℕ) → Response → Type 0
FieldsAnswer body response = ((response.status ≡ 200) × TellsFields body response.body.items)
    ⊎ (response.status ≡ 400)

abbrev pub AnswersAsked : Asked → List ℕ → Response → Type 0
AnswersAsked Page body response = response.status ≡ 200
AnswersAsked Run body response = RunAnswers body response
AnswersAsked Fields body response = FieldsAnswer body response

-- Each request is answered what it asks for, if it may ask that, or why it is denied.
abbrev pub Answers : Request (List ℕ) → Response → Type 0
Answers request response =
    ((it : Asked) × MayAsk request it × AnswersAsked it (body_of request) response)
    ⊎ ((why : Denial) × IsDenied request why × (response.status ≡ status_of why))
