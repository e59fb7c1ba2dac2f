-- What a request of the console asks of a station.
use Rattle.std.specs.Prelude.{◌≡◌, ◌≢◌, ◌<◌, ◌⊎◌, ◌++◌, ℕ, Bool, true, false, List, [], codes, All, IsTrue, Option, Some, None, IfSome, option_and_then, if◌then◌else◌, ⊤}
use Rattle.std.specs.Str.{IsUtf8, bytes_eq}
use Rattle.http.specs.declared.request.Request.{Request}
use Rattle.http.specs.Request.{head_of, body_of}
use Rattle.http_uri.specs.Uri.{uri_path}
use Rattle.serde_json.specs.Data.{Data}
use Rattle.serde_json.specs.Read.{read}
use Rattle.serde_json.specs.Find.{get, as_str, as_bool}
use Rattle.cfdp_console.specs.declared.guard.Guard.{Guard}
use Rattle.cfdp_console.specs.declared.asking.Ask.{Ask}
use Rattle.cfdp_console.specs.declared.asking.Ask.TheVariants as ask
use Rattle.cfdp_console.specs.declared.deed.Deed.{Deed}
use Rattle.cfdp_console.specs.declared.deed.Deed.TheVariants as deed
use Rattle.cfdp_console.specs.declared.look.Look.{Look}
use Rattle.cfdp_console.specs.declared.look.Look.TheVariants as look
use Rattle.cfdp_console.specs.Guard.{IsAllowed, ShowsToken}

-- ---- what is done: its path has these parts before the transaction's id and after it, and its
-- line is the command of the control address, with the id after it

abbrev pub front_of : Deed → List ℕ
front_of deed.Put = codes "/puts"
front_of deed.Cancel = codes "/transactions/"
front_of deed.Suspend = codes "/transactions/"
front_of deed.Resume = codes "/transactions/"
front_of deed.Freeze = codes "/freeze"
front_of deed.Thaw = codes "/thaw"

abbrev pub behind_of : Deed → List ℕ
behind_of deed.Put = []
behind_of deed.Cancel = codes "/cancel"
behind_of deed.Suspend = codes "/suspend"
behind_of deed.Resume = codes "/resume"
behind_of deed.Freeze = []
behind_of deed.Thaw = []

abbrev pub words_of : Deed → List ℕ
words_of deed.Put = codes "put "
words_of deed.Cancel = codes "cancel "
words_of deed.Suspend = codes "suspend "
words_of deed.Resume = codes "resume "
words_of deed.Freeze = codes "freeze"
words_of deed.Thaw = codes "thaw"

abbrev pub path_of : Deed → List ℕ → List ℕ
path_of it id = front_of it ++ (id ++ behind_of it)

-- an octet that ends no word of a line
abbrev pub IsOfWord : ℕ → Type 0
IsOfWord octet = (32 < octet) × (octet ≢ 127)

pub record IsWord (word : List ℕ) : Type 0 where
  pub some : word ≢ []
  pub all : All IsOfWord word

-- what stands after the deed's words: one word, which is the id of a transaction, or nothing
abbrev pub IsIdOf : Deed → List ℕ → Type 0
IsIdOf deed.Put id = id ≡ []
IsIdOf deed.Cancel id = IsWord id
IsIdOf deed.Suspend id = IsWord id
IsIdOf deed.Resume id = IsWord id
IsIdOf deed.Freeze id = id ≡ []
IsIdOf deed.Thaw id = id ≡ []

-- ---- a put: an object of JSON with the file's name `source`, with `destination` if it is to
-- have another one at the peer, and with `first` as `true` if it goes ahead of all that wait

abbrev pub text_in : List ℕ → Data → Option (List ℕ)
text_in key wanted = option_and_then as_str (get key wanted)

abbrev pub first_words : Option Bool → List ℕ
first_words (Some true) = codes "put --first "
first_words (Some false) = codes "put "
first_words None = codes "put "

-- the name at the peer, which is that of the file if no other is said
abbrev pub name_at_peer : List ℕ → Option (List ℕ) → List ℕ
name_at_peer source (Some destination) = destination
name_at_peer source None = source

abbrev pub put_words : Option Bool → List ℕ → List ℕ → List ℕ
put_words first source destination = first_words first ++ source ++ codes " " ++ destination

-- both names are words, and that of the file isn't taken for an option
pub record MayBePut (source destination : List ℕ) : Type 0 where
  pub source_is_word : IsWord source
  pub is_no_option : source ≢ codes "--first"
  pub destination_is_word : IsWord destination

pub record PutOf (wanted : Data) (line : List ℕ) : Type 0 where
  pub source : List ℕ
  pub destination : List ℕ
  pub is_there : text_in (codes "source") wanted ≡ Some source
  pub named : destination ≡ name_at_peer source (text_in (codes "destination") wanted)
  pub may_be : MayBePut source destination
  pub says : line ≡ put_words (option_and_then as_bool (get (codes "first") wanted)) source
      destination

abbrev pub Puts : List ℕ → List ℕ → Type 0
Puts body line = IsUtf8 body × (wanted : Data) × (read body ≡ Some wanted) × PutOf wanted line

-- ---- the line that a request to this path, with this body, stands for

abbrev pub LineOf : Deed → List ℕ → List ℕ → List ℕ → Type 0
LineOf deed.Put id body line = Puts body line
LineOf deed.Cancel id body line = line ≡ words_of deed.Cancel ++ id
LineOf deed.Suspend id body line = line ≡ words_of deed.Suspend ++ id
LineOf deed.Resume id body line = line ≡ words_of deed.Resume ++ id
LineOf deed.Freeze id body line = line ≡ words_of deed.Freeze ++ id
LineOf deed.Thaw id body line = line ≡ words_of deed.Thaw ++ id

pub record Commands (path body line : List ℕ) : Type 0 where
  pub it : Deed
  pub id : List ℕ
  pub path_is : path ≡ path_of it id
  pub id_is : IsIdOf it id
  pub line_is : LineOf it id body line

-- ---- what is looked at

-- what is shown at a path alone, whatever the query
abbrev pub plain_at : List ℕ → Option Look
plain_at path =
    if bytes_eq path (codes "/") then Some look.Page
    else if bytes_eq path (codes "/token") then Some look.Token
    else if bytes_eq path (codes "/status") then Some look.Status
    else if bytes_eq path (codes "/history") then Some look.History
    else if bytes_eq path (codes "/metrics") then Some look.Metrics
    else if bytes_eq path (codes "/files") then Some look.Files
    else None

-- the page itself has nothing of the station
abbrev pub IsPage : Look → Type 0
IsPage look.Page = ⊤
IsPage _ = ⊥

abbrev pub path_in : Request (List ℕ) → List ℕ
path_in request = uri_path (head_of request).uri

-- the request is to change something
abbrev pub IsPost : Request (List ℕ) → Type 0
IsPost request = (head_of request).method ≡ codes "POST"

-- the request is to show something
abbrev pub IsGet : Request (List ℕ) → Type 0
IsGet request = ((head_of request).method ≡ codes "GET") ⊎ ((head_of request).method ≡ codes "HEAD")

-- Who is entitled to ask this: for a command, whoever shows the token and sends it as a POST; for
-- what the station has, whoever shows the token, or anybody if it is open to all.
abbrev pub IsEntitled : Guard → Request (List ℕ) → Ask → Type 0
IsEntitled guard request (ask.Look it) = IsGet request
    × IfSome (plain_at (path_in request)) (λ there. it ≡ there)
    × (IsPage it ⊎ (IsTrue guard.is_open ⊎ ShowsToken guard request))
IsEntitled guard request (ask.Command line) = ShowsToken guard request × IsPost request
    × Commands (path_in request) (body_of request) line.items

-- who may ask this: who is entitled to, and asks by the console's own address or through the proxy
pub record May (guard : Guard) (request : Request (List ℕ)) (it : Ask) : Type 0 where
  pub allowed : IsAllowed guard request
  pub entitled : IsEntitled guard request it
