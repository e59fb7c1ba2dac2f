-- Why a request of the console is denied.
use Rattle.std.specs.Prelude.{◌≡◌, ◌≢◌, ◌⊎◌, ◌++◌, ℕ, List, codes, IsFalse, IsSome, Option, Some, None, ⊤}
use Rattle.http.specs.declared.request.Request.{Request}
use Rattle.http.specs.Request.{head_of, body_of}
use Rattle.http_uri.specs.Uri.{uri_query}
use Rattle.serde_json.specs.Data.{Data}
use Rattle.cfdp_console.specs.Asking.{IsGet, IsIdOf, IsPost, PutOf, Puts, path_in, path_of, plain_at}
use Rattle.cfdp_console.specs.Guard.{IsAllowed, ShowsToken}
use Rattle.cfdp_console.specs.declared.deed.Deed.{Deed}
use Rattle.cfdp_console.specs.declared.denial.Denial.{Denial}
use Rattle.cfdp_console.specs.declared.denial.Denial.TheVariants as denial
use Rattle.cfdp_console.specs.declared.guard.Guard.{Guard}
use Rattle.cfdp_console.specs.declared.look.Look.TheVariants as look

-- the path isn't one of this deed
abbrev pub IsNotOf : Deed → List ℕ → Type 0
IsNotOf it path = (id : List ℕ) → path ≡ path_of it id → ¬ (IsIdOf it id)

-- Why this is no put: only for what it says, or for memory.
abbrev pub SaysNoPut : Data → Denial → Type 0
SaysNoPut wanted denial.BadBody = (line : List ℕ) → ¬ (PutOf wanted line)
SaysNoPut wanted denial.NoMemory = ⊤
SaysNoPut wanted _ = ⊥

abbrev pub IsNoPut : List ℕ → Denial → Type 0
IsNoPut body denial.BadBody = (line : List ℕ) → ¬ (Puts body line)
IsNoPut body denial.NoMemory = ⊤
IsNoPut body _ = ⊥

-- Why a path and a body are no command: the path is that of no deed, or the body of a put is wrong.
abbrev pub IsNoCommand : List ℕ → List ℕ → Denial → Type 0
IsNoCommand path body denial.NotFound = (it : Deed) → IsNotOf it path
IsNoCommand path body denial.BadBody = (path ≡ codes "/puts") × IsNoPut body denial.BadBody
IsNoCommand path body denial.NoMemory = ⊤
IsNoCommand path body _ = ⊥

-- There is nothing to be shown at this path, or only with another query.
pub record IsNothingAt (path : List ℕ) (query : Option (List ℕ)) : Type 0 where
  pub plain : plain_at path ≡ None
  pub transactions : path ≡ codes "/transactions" → IsSome query
  pub log : path ≡ codes "/log" → IsSome query
  pub transaction : (rest : List ℕ) → path ≢ codes "/transactions/" ++ rest

-- the token must be shown: for a command, and for all but the page if the console isn't open
abbrev pub NeedsToken : Guard → Request (List ℕ) → Type 0
NeedsToken guard request = IsPost request
    ⊎ (IsFalse guard.is_open × (plain_at (path_in request) ≢ Some look.Page))

-- Why a request is denied: a right one is denied only for memory.
abbrev pub IsDenied : Guard → Request (List ℕ) → Denial → Type 0
IsDenied guard request denial.Foreign = ¬ (IsAllowed guard request)
IsDenied guard request denial.NoToken = ¬ (ShowsToken guard request) × NeedsToken guard request
IsDenied guard request denial.WrongMethod = ¬ (IsPost request) × ¬ (IsGet request)
IsDenied guard request denial.NotFound =
    (IsPost request × IsNoCommand (path_in request) (body_of request) denial.NotFound)
    ⊎ (IsGet request × IsNothingAt (path_in request) (uri_query (head_of request).uri))
IsDenied guard request denial.BadBody =
    IsPost request × IsNoCommand (path_in request) (body_of request) denial.BadBody
IsDenied guard request denial.NoMemory = ⊤
