-- How files leave a spool, by what the system did with them.
use Rattle.std.specs.Prelude.{◌≡◌, ◌⊎◌, ℕ, Bool, true, List, [], ◌∷◌, ◌++◌, Option, Some, None, Contains, codes, filter_map, IsSome}
use Rattle.cfdp_store.specs.declared.name_rule.NameRule.{NameRule}
use Rattle.cfdp_spool.specs.declared.folder_spool.place.Place.{Place}
use Rattle.cfdp_spool.specs.declared.folder_spool.place.Place.TheVariants.{Spool, Leaving, Left}
use Rattle.cfdp_spool.specs.declared.folder_spool.place.Way.{Way}
use Rattle.cfdp_spool.specs.declared.folder_spool.place.Way.TheVariants.{Sent, Failed}
use Rattle.cfdp_spool.specs.declared.folder_spool.stamp.FileStamp.{FileStamp}
use Rattle.cfdp_spool.specs.declared.folder_spool.notes.Told.{Told}
use Rattle.cfdp_spool.specs.declared.folder_spool.notes.Done.{Done}
use Rattle.cfdp_spool.specs.declared.folder_spool.notes.Done.TheVariants.{Saw, Free, Stands, Moved, Removed, Refused}
use Rattle.cfdp_spool.specs.declared.folder_spool.queue.Staying.{Staying}

-- The path of a spool's folder; which names its files may have; if files that were sent are
-- removed; the files that must leave, and what the system did with files or showed of them, each
-- list from the first on.
pub record SpoolState : Type 0 where
  pub path : List ℕ
  pub names : NameRule
  pub removes : Bool
  pub told : List Told
  pub done : List Done

-- ---- paths

-- the path of the folder of a place
abbrev pub folder_path : List ℕ → Place → List ℕ
folder_path path Spool = path
folder_path path Leaving = path ++ codes "/.leaving"
folder_path path (Left Sent) = path ++ codes "/.sent"
folder_path path (Left Failed) = path ++ codes "/.failed"

-- the path of a file
abbrev pub file_path : List ℕ → Place → List ℕ → List ℕ
file_path path place name = folder_path path place ++ (codes "/" ++ name)

-- ---- what was asked

abbrev pub name_if : Way → Way → List ℕ → Option (List ℕ)
name_if Sent Sent name = Some name
name_if Failed Failed name = Some name
name_if _ _ name = None

-- the names of the files that must leave this way
abbrev pub names_told : Way → List Told → List (List ℕ)
names_told way told = filter_map (λ t. name_if way t.way t.name) told

-- The file of this name must leave this way, as what it was when it was given.
abbrev pub IsTold : SpoolState → List ℕ → Way → FileStamp → Type 0
IsTold s name way stamp = Contains s.told (record { name = name; way = way; stamp = Some stamp })

-- All these, which the system refused to move, must leave.
abbrev pub AreTold : List Told → List Staying → Type 0
AreTold told [] = Unit {0}
AreTold told (x ∷ xs) =
    Contains told (record { name = x.name.items; way = x.way; stamp = Some x.stamp })
    × AreTold told xs

-- ---- what was done

-- This was done last.
abbrev pub IsLast : List Done → Done → Type 0
IsLast done e = (before : List Done) × (done ≡ before ++ e ∷ [])

abbrev pub name_of : Done → List ℕ
name_of (Saw name place found) = name
name_of (Free name) = name
name_of (Stands name) = name
name_of (Moved name from to) = name
name_of (Removed name) = name
name_of (Refused name) = name

-- What was done last was done with this file.
abbrev pub EndsWith : List ℕ → SpoolState → Type 0
EndsWith name s = (e : Done) × IsLast s.done e × (name_of e ≡ name)

-- The last look showed, among the files that leave, the very file that must leave this way, with
-- the same octets.
pub record Shows (s : SpoolState) (name : List ℕ) (way : Way) : Type 0 where
  pub stamp : FileStamp
  pub found : FileStamp
  pub told : IsTold s name way stamp
  pub same : found.content ≡ stamp.content
  pub last : IsLast s.done (Saw name Leaving (Some found))

-- When the system may be asked for this. A file is taken out of the spool if it must leave, and the
-- last look showed it as it was when it was given. It goes on, each way, if it must leave that way
-- and the last look showed the very file; or else back, if its name is free. It is removed if the
-- spool has the name again, or if it was sent and such files are removed.
abbrev pub May : SpoolState → Done → Type 0
May s (Moved name Spool Leaving) = (way : Way) × (stamp : FileStamp) × IsTold s name way stamp
    × IsLast s.done (Saw name Spool (Some stamp))
May s (Moved name Leaving (Left way)) = Shows s name way
May s (Moved name Leaving Spool) = IsLast s.done (Free name)
May s (Moved name _ _) = ⊥
May s (Removed name) = IsLast s.done (Stands name) ⊎ ((s.removes ≡ true) × Shows s name Sent)
May s _ = Unit {0}

abbrev pub noted : Done → SpoolState → SpoolState
noted e s = record s { done = s.done ++ e ∷ [] }

-- Each of these was done when it was allowed, after what was done before.
abbrev pub MightBe : SpoolState → List Done → Type 0
MightBe s [] = Unit {0}
MightBe s (e ∷ es) = May s e × MightBe (noted e s) es

-- Each thing that the system did was asked of it when that was allowed.
abbrev pub IsRight : SpoolState → Type 0
IsRight s = MightBe (record s { done = [] }) s.done

-- Something may have been done, and nothing was asked to leave.
abbrev pub OnlyDoes : (old new : SpoolState) → Type 0
OnlyDoes old new = new ≡ record old { done = new.done }

-- A file of this name was seen in the spool last.
abbrev pub GivenAs : List ℕ → SpoolState → Type 0
GivenAs name s = (stamp : FileStamp) × IsLast s.done (Saw name Spool (Some stamp))

-- A file was asked to leave this way. If it was given, what was done last was done with it.
pub record ToldToLeave (name : List ℕ) (way : Way) (old new : SpoolState) : Type 0 where
  pub stamp : Option FileStamp
  pub now : new ≡ record old {
    told = old.told ++ (record { name = name; way = way; stamp = stamp }) ∷ [];
    done = new.done;
  }
  pub ends : IsSome stamp → EndsWith name new
