-- What a step does doesn't depend on the files that were published before it.
use Rattle.std.specs.Prelude.{◌≡◌, ℕ, List, [], ◌∷◌}
use Rattle.std.specs.FinMap as map
use Rattle.cfdp_header.specs.Files.{FileMap}
use Rattle.cfdp_receiver.specs.Steps.{ReceiverAfter}

-- the files once these documents were published, one after another: each is a name and its octets
abbrev pub with_documents : List (List ℕ × List ℕ) → FileMap → FileMap
with_documents [] files = files
with_documents (d ∷ rest) files = with_documents rest (map.insert files d.0 d.1)

-- The same step was made twice, once after these files were published, and once after others
-- were: both times it published the same documents, and left all else the same.
pub record PublishesAlike (files other : FileMap) (a b : ReceiverAfter) : Type 0 where
  pub documents : List (List ℕ × List ℕ)
  pub publishes : a.files ≡ with_documents documents files
  pub alike : b ≡ record a { files = with_documents documents other }
