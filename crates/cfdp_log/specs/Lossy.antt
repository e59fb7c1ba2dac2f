-- What becomes of the lines of a log that loses some.
use Rattle.std.specs.Prelude.{◌≡◌, ◌≢◌, ◌⊎◌, ◌++◌, ◌∷◌, ℕ, Bool, true, List, [], codes, decimal}
use Rattle.cfdp_console.specs.LastLines.{HasNoEnd}
use Rattle.cfdp_log.specs.Log.Totals.{counted}
use Rattle.cfdp_log.specs.Queue.{QueueState, logged_by}

-- It ends by words that say how many lines were lost, in plain text or as the end of an object.
abbrev pub SaysLost : (lost : ℕ) → List ℕ → Type 0
SaysLost lost line = (front : List ℕ)
    × ((line ≡ front ++ decimal lost ++ (codes " lines of the log were lost" ++ 10 ∷ []))
    ⊎ (line ≡ front ++ codes ",\"lines\":" ++ decimal lost ++ (codes "}" ++ 10 ∷ [])))

-- What is logged of the lines that came, and how many were lost since the last one that says so.
pub data IsLoggedAs : (came logged : List ℕ) → (lost : ℕ) → Type 0 where
  -- Nothing came yet.
  Nothing : IsLoggedAs [] [] 0
  -- A line came, and is logged. None is lost.
  Keeps : (came logged line : List ℕ) → IsLoggedAs came logged 0 → HasNoEnd line
      → IsLoggedAs (came ++ line ++ 10 ∷ []) (logged ++ line ++ 10 ∷ []) 0
  -- A line came, and is lost and counted.
  Loses : (came logged line : List ℕ) (lost : ℕ) → IsLoggedAs came logged lost → HasNoEnd line
      → IsLoggedAs (came ++ line ++ 10 ∷ []) logged (counted true lost)
  -- Some were lost, and a line says how many.
  Says : (came logged line : List ℕ) (lost : ℕ) → IsLoggedAs came logged lost → lost ≢ 0
      → SaysLost lost line → IsLoggedAs came (logged ++ line) 0

-- The octets that came are whole lines, which are logged so, and the beginning of one, of which all
-- is kept or not.
pub record LogsLines (came : List ℕ) (queue : QueueState) (is_whole : Bool) (begun : List ℕ)
    : Type 0 where
  pub whole : List ℕ
  pub line : List ℕ
  pub is : came ≡ whole ++ line
  pub ends : HasNoEnd line
  pub kept : is_whole ≡ true → begun ≡ line
  pub logged : IsLoggedAs whole (logged_by queue) queue.lost

-- All of these octets are kept after the beginning of a line of which all was kept.
abbrev pub KeepsMore : (is_whole : Bool) → (octets : List ℕ) → (old new : List ℕ) → Type 0
KeepsMore is_whole octets old new = (is_whole ≡ true) × (new ≡ old ++ octets)

-- what clauses see of the log: the octets that came, and what was written and waits
pub record LossyState : Type 0 where
  pub came : List ℕ
  pub queue : QueueState

-- What was written and what waits are the lines that came, in their order, except for lines that
-- are lost and counted, and with the lines that say how many were; the beginning of one may follow.
pub record HasLogged (state : LossyState) : Type 0 where
  pub whole : List ℕ
  pub line : List ℕ
  pub is : state.came ≡ whole ++ line
  pub ends : HasNoEnd line
  pub logged : IsLoggedAs whole (logged_by state.queue) state.queue.lost
