-- Who may ask the page's server for what.
use Rattle.std.specs.Prelude.{◌≡◌, ◌≢◌, ◌⊎◌, ℕ, List, codes, Some, ⊤}
use Rattle.http.specs.declared.request.Request.{Request}
use Rattle.http.specs.Request.{head_of}
use Rattle.http_uri.specs.Uri.{uri_path}
use Rattle.http_header.specs.FieldValue.{FieldValue}
use Rattle.cfdp_console.specs.Guard.{IsOwn, field_of}
use Rattle.cfdp_console.specs.declared.denial.Denial.{Denial}
use Rattle.cfdp_console.specs.declared.denial.Denial.TheVariants as denial
use Rattle.cfdp_play.specs.declared.asking.Asked.{Asked}
use Rattle.cfdp_play.specs.declared.asking.Asked.TheVariants.{Page, Run, Fields}

-- the path at which it is asked for
abbrev pub path_of : Asked → List ℕ
path_of Page = codes "/"
path_of Run = codes "/run"
path_of Fields = codes "/fields"

-- by which method it is asked for
abbrev pub IsMethodOf : Asked → List ℕ → Type 0
IsMethodOf Page method = (method ≡ codes "GET") ⊎ (method ≡ codes "HEAD")
IsMethodOf Run method = method ≡ codes "POST"
IsMethodOf Fields method = method ≡ codes "POST"

-- The request says its origin. By `IsOwn` that must be the server's own address: the page itself
-- sends it.
abbrev pub TellsOrigin : Request (List ℕ) → Type 0
TellsOrigin request = (origin : FieldValue) × (field_of request (codes "origin") ≡ Some origin)

-- The page may be asked for by anybody on this machine, everything else by the page alone.
abbrev pub ComesFrom : Asked → Request (List ℕ) → Type 0
ComesFrom Page request = ⊤
ComesFrom Run request = TellsOrigin request
ComesFrom Fields request = TellsOrigin request

abbrev pub path_in : Request (List ℕ) → List ℕ
path_in request = uri_path (head_of request).uri

-- a request may ask for this
pub record MayAsk (request : Request (List ℕ)) (it : Asked) : Type 0 where
  pub own : IsOwn request
  pub path : path_in request ≡ path_of it
  pub method : IsMethodOf it (head_of request).method
  pub origin : ComesFrom it request

-- there is nothing at this path
pub record IsNowhere (path : List ℕ) : Type 0 where
  pub page : path ≢ path_of Page
  pub run : path ≢ path_of Run
  pub fields : path ≢ path_of Fields

-- what is asked for takes another method
pub record TakesAnother (request : Request (List ℕ)) : Type 0 where
  pub it : Asked
  pub path : path_in request ≡ path_of it
  pub method : ¬ IsMethodOf it (head_of request).method

-- Why a request is denied. Of `Foreign` nothing is said: the console's test, if a request is for
-- this server by its own address, may deny more than it must.
abbrev pub IsDenied : Request (List ℕ) → Denial → Type 0
IsDenied request denial.Foreign = ⊤
IsDenied request denial.NotFound = IsOwn request × IsNowhere (path_in request)
IsDenied request denial.WrongMethod = IsOwn request × TakesAnother request
IsDenied request _ = ⊥
