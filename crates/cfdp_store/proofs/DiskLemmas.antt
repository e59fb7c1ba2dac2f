-- What one more thing that the system did changes of a folder.
use Rattle.std.proofs.Common.{◌≡◌, ℕ, ◌-◌, ◌<◌, Bool, List, [], ◌∷◌, ◌++◌, length, get_or, Option, Some, None, IsSome, unwrap_or, if◌then◌else◌, refl, sym, ap, ◌∙◌, arith}
use Rattle.std.specs.Option.{option_map}
use Rattle.std.proofs.lemmas.List.{same_lists}
use Rattle.std.specs.FinMap.{empty, insert}
use Rattle.cfdp_header.proofs.Ids.{same_id-itself, other_id}
use Rattle.cfdp_header.specs.Ids.{same_id}
use Rattle.cfdp_header.specs.declared.value.TransactionId.{TransactionId}
use Rattle.cfdp_store.proofs.Octets.{get-written_within, length-front, get_or-front}
use Rattle.cfdp_store.specs.Disk.{Part, made, found, part_with, cut_to, Disk, no_files, with_file, disk_after, disk_from, disk_of, published_by, staged_by}
use Rattle.cfdp_store.specs.Staged.{OctetMap, OthersKeep, written, front}
use Rattle.cfdp_store.specs.declared.parts.Done.{Done}
use Rattle.cfdp_store.specs.declared.parts.Done.TheVariants.{Made, Found, Wrote, Read, Cut, Named, Lost}

disk_from-append : (d : Disk) (es : List Done) (e : Done) → disk_from d (es ++ e ∷ []) ≡ disk_after (disk_from d es) e
unfolding disk_from
disk_from-append d [] e = refl
disk_from-append d (x ∷ es) e = disk_from-append (disk_after d x) es e

pub none-yet : published_by [] ≡ empty
unfolding disk_from
none-yet = refl

-- one list has one thing more than another
pub record Adds (old : List Done) (e : Done) (new : List Done) : Type 0 where
  pub is : new ≡ old ++ e ∷ []

-- one thing noted after a call that noted nothing
pub noted : {old mid new : List Done} (e : Done) → mid ≡ old → new ≡ mid ++ e ∷ [] → Adds old e new
noted e same next = record { is = next ∙ ap (λ es. es ++ e ∷ []) same }

-- whose part file it is
abbrev pub part_of : Done → TransactionId
part_of (Made id) = id
part_of (Found id end) = id
part_of (Wrote id at octets) = id
part_of (Read id at octets) = id
part_of (Cut id size) = id
part_of (Named id name) = id
part_of (Lost id) = id

-- what the part file then is
abbrev part_after : Option Part → Done → Option Part
part_after p (Made id) = Some made
part_after p (Found id end) = Some (found end)
part_after p (Wrote id at octets) = option_map (λ q. part_with q at octets) p
part_after p (Read id at octets) = option_map (λ q. part_with q at octets) p
part_after p (Cut id size) = option_map (cut_to size) p
part_after p (Named id name) = None
part_after p (Lost id) = None

parts_after : (d : Disk) (e : Done) (other : TransactionId) → (disk_after d e).parts other ≡ (if same_id (part_of e) other then part_after (d.parts (part_of e)) e else d.parts other)
parts_after d (Made id) other = refl
parts_after d (Found id end) other = refl
parts_after d (Wrote id at octets) other = refl
parts_after d (Read id at octets) other = refl
parts_after d (Cut id size) other = refl
parts_after d (Named id name) other = refl
parts_after d (Lost id) other = refl

abbrev pub octets_of : Option Part → Option OctetMap
octets_of p = option_map (λ q. q.octets) p

abbrev pick : Option Part → Option Part → Bool → Option Part
pick p q = λ b. if b then p else q

module _ {old new : List Done} {e : Done} (next : Adds old e new) where
  now : disk_of new ≡ disk_after (disk_of old) e
  now = ap (disk_from no_files) next.is ∙ disk_from-append no_files old e

  pub part_next : (disk_of new).parts (part_of e) ≡ part_after ((disk_of old).parts (part_of e)) e
  part_next =
      ap (λ d. d.parts (part_of e)) now
      ∙ parts_after (disk_of old) e (part_of e)
      ∙ ap (pick (part_after ((disk_of old).parts (part_of e)) e) ((disk_of old).parts (part_of e))) (same_id-itself (part_of e))

  -- what is staged for its transaction
  pub staged_next : staged_by new (part_of e) ≡ octets_of (part_after ((disk_of old).parts (part_of e)) e)
  staged_next = ap octets_of part_next

  -- the others keep theirs
  pub others_keep : OthersKeep (part_of e) (staged_by old) (staged_by new)
  others_keep other ne =
      ap octets_of (
      ap (λ d. d.parts other) now
      ∙ parts_after (disk_of old) e other
      ∙ ap (pick (part_after ((disk_of old).parts (part_of e)) e) ((disk_of old).parts other)) (other_id (part_of e) other ne))

  pub files_next : published_by new ≡ (disk_after (disk_of old) e).files
  files_next = ap (λ d. d.files) now

-- if octets are written over what is staged
pub staged-with : (p : Option Part) (at : ℕ) (xs : List ℕ) → IsSome (octets_of p) → octets_of (option_map (λ q. part_with q at xs) p) ≡ Some (written (unwrap_or (octets_of p) empty) at xs)
staged-with None at xs h = absurd (cc)
staged-with (Some p) at xs h = refl

-- a file that was cut has what stood before
pub front-cut : (m : OctetMap) (size : ℕ) → front (written empty 0 (front m size)) size ≡ front m size
front-cut m size =
    let long : length (front m size) ≡ size = length-front m size in
    let cut : OctetMap = written empty 0 (front m size) in
    let len : length (front cut size) ≡ size = length-front cut size in
    same_lists (front cut size) (front m size) (len ∙ sym long) (λ k d h.
    let inside : k < size = omega arith in
    let same_place : k - 0 ≡ k = omega arith in
    get_or-front cut size k d inside
    ∙ ap (λ o. unwrap_or o 0) (get-written_within empty 0 (front m size) k d (omega arith) (omega arith))
    ∙ ap (λ j. get_or (front m size) j d) same_place)

pub file-cut : (files : _) (name : List ℕ) (p : Option Part) (size : ℕ) → IsSome (octets_of p) → with_file name (option_map (cut_to size) p) files ≡ insert files name (front (unwrap_or (octets_of p) empty) size)
file-cut files name None size h = absurd (cc)
file-cut files name (Some p) size h = ap (insert files name) (front-cut p.octets size)
