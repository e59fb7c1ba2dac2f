-- What a map from names does, seen as a `FinMap`: as files, if octets stand under each name.
use Rattle.std.proofs.Common.{◌≡◌, ℕ, Bool, true, false, cond, List, [], ◌∷◌, Option, Some, None, refl, sym, ap, ◌∙◌}
use Rattle.std.proofs.lemmas.Bool.{false≢true}
use Rattle.std.specs.Prelude.{map, Vec}
use Rattle.std.specs.Option.{option_map}
use Rattle.std.specs.Map.{lookup, remove_entry}
use Rattle.std.specs.Ordering.{nat_cmp, is_eq, eq_by_cmp, match_ordering}
use Rattle.std.specs.declared.cmp.Ordering.{Ordering}
use Rattle.std.specs.declared.cmp.Ordering.TheVariants.{Less, Equal, Greater}
use Rattle.std.specs.Cmp.Lexicographic.{slice_cmp, nat_list_cmp_total}
use Rattle.std.specs.BTreeMap.{insert_entry}
use Rattle.std.specs.FinMap.{get, insert, remove, find, put, same_map, slice_cmp-IsAntisymmetric, nat_cmp-IsAntisymmetric, get-from_entries, get-insert, get-remove}
use Rattle.std.specs.FinMap.Entries.{by_order, find-put}
use Rattle.cfdp_store.specs.Files.{files_of, listed}

abbrev R : List ℕ → List ℕ → Ordering
R = slice_cmp nat_cmp

abbrev by_items : {Y : Type 0} → Vec ℕ Y → Vec ℕ Y → Ordering
by_items a b = slice_cmp nat_cmp a.items b.items

shown_value : {V W : Type 0} (f : V → W) (b : Bool) (v : V) (o : Option V) (p : Option W) → p ≡ option_map f o → cond b (Some (f v)) p ≡ option_map f (cond b (Some v) o)
shown_value f Bool.true v o p e = refl
shown_value f Bool.false v o p e = e

compares : (o : Ordering) → is_eq o ≡ true → o ≡ Equal
compares Less e = absurd (false≢true e)
compares Equal e = refl
compares Greater e = absurd (false≢true e)

-- names that compare equal are the same
pub same-items : (a b : List ℕ) → eq_by_cmp R a b ≡ true → a ≡ b
same-items a b e = slice_cmp-IsAntisymmetric nat_cmp-IsAntisymmetric a b (compares (R a b) e)

-- an entry taken out by a test leaves what a look-up finds by another
others-stay : {Y V : Type 0} (test other : Vec ℕ Y → Bool) → ((k : Vec ℕ Y) → test k ≡ true → other k ≡ false) → (es : List (Vec ℕ Y × V)) → lookup other (remove_entry test es) ≡ lookup other es
others-stay test other apart [] = refl
others-stay test other apart (e ∷ es) =
    elim (test e.0) as (λ b. test e.0 ≡ b → lookup other (cond b es (e ∷ remove_entry test es)) ≡ cond (other e.0) (Some e.1) (lookup other es)) [
      | true ↦ λ is. ap (λ b. cond b (Some e.1) (lookup other es)) (sym (apart e.0 is))
      | false ↦ λ is. ap (cond (other e.0) (Some e.1)) (others-stay test other apart es)
    ] refl

module _ {Y V W : Type 0} (f : V → W) where
  abbrev show : Vec ℕ Y × V → List ℕ × W
  show e = (e.0.items, f e.1)

  find-shown : (es : List (Vec ℕ Y × V)) (name : List ℕ) → find R name (map show es) ≡ option_map f (lookup (λ (k : Vec ℕ Y). is_eq (slice_cmp nat_cmp name k.items)) es)
  find-shown [] name = refl
  find-shown (e ∷ es) name = shown_value f (is_eq (slice_cmp nat_cmp name e.0.items)) e.1 _ _ (find-shown es name)

  -- a look-up in the map is one in what it lists
  pub get-listed : (es : List (Vec ℕ Y × V)) (name : List ℕ) → get (listed f es) name ≡ option_map f (lookup (λ (k : Vec ℕ Y). is_eq (slice_cmp nat_cmp name k.items)) es)
  get-listed es name = get-from_entries nat_list_cmp_total (map show es) name ∙ find-shown es name

  shown-insert_entry : (es : List (Vec ℕ Y × V)) (k : Vec ℕ Y) (v : V) → map show (insert_entry by_items es k v) ≡ put R k.items (f v) (map show es)
  shown-insert_entry [] k v = refl
  shown-insert_entry (e ∷ es) k v =
      elim (slice_cmp nat_cmp k.items e.0.items) as (λ o. map show (match_ordering o ((k, v) ∷ e ∷ es) ((e.0, v) ∷ es) (e ∷ insert_entry by_items es k v))
      ≡ by_order o ((k.items, f v) ∷ show e ∷ map show es) ((e.0.items, f v) ∷ map show es) (show e ∷ put R k.items (f v) (map show es))) [
        | Less ↦ refl
        | Equal ↦ refl
        | Greater ↦ ap (λ fs. show e ∷ fs) (shown-insert_entry es k v)
      ]

  -- an entry put into the map is one put into what it lists
  pub listed-insert : (es : List (Vec ℕ Y × V)) (k : Vec ℕ Y) (v : V) → listed f (insert_entry by_items es k v) ≡ insert (listed f es) k.items (f v)
  listed-insert es k v = same_map nat_list_cmp_total (slice_cmp-IsAntisymmetric nat_cmp-IsAntisymmetric) _ _ (λ q.
      get-from_entries nat_list_cmp_total _ q
      ∙ ap (find R q) (shown-insert_entry es k v)
      ∙ find-put R nat_list_cmp_total q k.items (f v) (map show es)
      ∙ ap (cond (eq_by_cmp R q k.items) (Some (f v))) (sym (get-from_entries nat_list_cmp_total (map show es) q))
      ∙ sym (get-insert nat_list_cmp_total (listed f es) k.items (f v) q))

  -- an entry taken out of the map is one taken out of what it lists
  pub listed-remove : (old new : List (Vec ℕ Y × V)) (name : List ℕ) → new ≡ remove_entry (λ k. eq_by_cmp R name k.items) old → lookup (λ k. eq_by_cmp R name k.items) new ≡ None → listed f new ≡ remove (listed f old) name
  listed-remove old new name entries none = same_map nat_list_cmp_total (slice_cmp-IsAntisymmetric nat_cmp-IsAntisymmetric) _ _ (λ q.
      get-listed new q
      ∙ elim (eq_by_cmp R q name) as (λ b. eq_by_cmp R q name ≡ b → option_map f (lookup (λ (k : Vec ℕ Y). eq_by_cmp R q k.items) new) ≡ cond b None (get (listed f old) q)) [
        | true ↦ λ is. ap (λ n. option_map f (lookup (λ (k : Vec ℕ Y). eq_by_cmp R n k.items) new)) (same-items q name is)
            ∙ ap (option_map f) none
        | false ↦ λ is. ap (λ es. option_map f (lookup (λ (k : Vec ℕ Y). eq_by_cmp R q k.items) es)) entries
            ∙ ap (option_map f) (others-stay _ (λ k. eq_by_cmp R q k.items) (λ k at. ap (eq_by_cmp R q) (sym (same-items name k.items at)) ∙ is) old)
            ∙ sym (get-listed old q)
      ] refl
      ∙ sym (get-remove nat_list_cmp_total (listed f old) name q))

-- the octets that a look-up found
abbrev pub octets_at : {Z : Type 0} → Option (Vec ℕ Z) → Option (List ℕ)
octets_at o = option_map (λ v. v.items) o

module _ {Y Z : Type 0} where
  pub get-files_of : (es : List (Vec ℕ Y × Vec ℕ Z)) (name : List ℕ) → get (files_of es) name ≡ octets_at (lookup (λ (k : Vec ℕ Y). is_eq (slice_cmp nat_cmp name k.items)) es)
  get-files_of es name = get-listed (λ (v : Vec ℕ Z). v.items) es name

  pub files_of-insert : (es : List (Vec ℕ Y × Vec ℕ Z)) (k : Vec ℕ Y) (v : Vec ℕ Z) → files_of (insert_entry by_items es k v) ≡ insert (files_of es) k.items v.items
  files_of-insert es k v = listed-insert (λ (v : Vec ℕ Z). v.items) es k v

  pub files_of-remove : (old new : List (Vec ℕ Y × Vec ℕ Z)) (name : List ℕ) → new ≡ remove_entry (λ k. eq_by_cmp R name k.items) old → lookup (λ k. eq_by_cmp R name k.items) new ≡ None → files_of new ≡ remove (files_of old) name
  files_of-remove old new name entries none = listed-remove (λ (v : Vec ℕ Z). v.items) old new name entries none
