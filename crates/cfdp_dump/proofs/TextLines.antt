-- Lines that are written, one for each of what is shown.
use Rattle.std.proofs.Common.{◌≡◌, ◌∙◌, ap, ℕ, List, [], ◌∷◌, ◌++◌, Option, Result, Ok, Err, sym, subst}
use Rattle.std.proofs.lemmas.List.{append_assoc}
use Rattle.std.specs.List.{AllZip, flat_map}
use Rattle.std.specs.Result.{OnOk}
use Rattle.std.specs.Io.KnownBytes.{Appends, Keeps}
use Rattle.std.proofs.KnownBytes.{Appends-kept, Appends-nil, Appends-trans}
use Rattle.std.proofs.lemmas.Grind.{flat_map-append}
use Rattle.std.proofs.lemmas.List.{flat_map_more}
use Rattle.cfdp_dump.specs.Spelled.Lines.{as_line, WritesLine, WritesLines}

-- ---- one line for each
module _ {A : Type 0} (P : A → List ℕ → Type 0) where
  -- nothing is written yet
  pub lines-none : (out : Option (List ℕ)) → WritesLines P [] out out
  lines-none out = record { texts = []; each = tt; written = Appends-nil out }

  -- one more pair
  AllZip-more : (xs : List A) (ys : List (List ℕ)) (x : A) (y : List ℕ) → AllZip P xs ys → P x y → AllZip P (xs ++ x ∷ []) (ys ++ y ∷ [])
  AllZip-more [] [] x y all one = (one, tt)
  AllZip-more [] (b ∷ ys) x y all one = absurd all
  AllZip-more (a ∷ xs) [] x y all one = absurd all
  AllZip-more (a ∷ xs) (b ∷ ys) x y all one = (all.0, AllZip-more xs ys x y all.1 one)

  -- one more line is written
  pub lines-more : (xs : List A) (x : A) (old mid new : Option (List ℕ)) → WritesLines P xs old mid → WritesLine (P x) mid new → WritesLines P (xs ++ x ∷ []) old new
  lines-more xs x old mid new before one = record {
    texts = before.texts ++ one.text ∷ [];
    each = AllZip-more xs before.texts x one.text before.each one.such;
    written = subst (Appends old new) (flat_map_more as_line [] before.texts one.text)
        (Appends-trans old mid new (flat_map as_line before.texts) (as_line one.text) before.written one.written);
  }

  pub AllZip-joined : (xs zs : List A) (ys ws : List (List ℕ)) → AllZip P xs ys → AllZip P zs ws → AllZip P (xs ++ zs) (ys ++ ws)
  AllZip-joined [] zs [] ws all more = more
  AllZip-joined [] zs (b ∷ ys) ws all more = absurd all
  AllZip-joined (a ∷ xs) zs [] ws all more = absurd all
  AllZip-joined (a ∷ xs) zs (b ∷ ys) ws all more = (all.0, AllZip-joined xs zs ys ws all.1 more)

  -- after lines that were written others are
  pub lines_joined : (xs zs : List A) (old mid new : Option (List ℕ)) → WritesLines P xs old mid → WritesLines P zs mid new → WritesLines P (xs ++ zs) old new
  lines_joined xs zs old mid new before more = record {
    texts = before.texts ++ more.texts;
    each = AllZip-joined xs zs before.texts more.texts before.each more.each;
    written = subst (Appends old new) (sym (flat_map-append as_line before.texts more.texts))
        (Appends-trans old mid new (flat_map as_line before.texts) (flat_map as_line more.texts) before.written more.written);
  }

  -- lines that were written stay so if what the writer holds is kept
  pub lines_kept : (xs : List A) (old mid new : Option (List ℕ)) → WritesLines P xs old mid → Keeps mid new → WritesLines P xs old new
  lines_kept xs old mid new all kept = record {
    texts = all.texts;
    each = all.each;
    written = Appends-kept old mid new (flat_map as_line all.texts) all.written kept;
  }

-- ---- one line
-- what is written is one line
pub line_is_written : {E : Type 0} (P : List ℕ → Type 0) (r : Result (Unit {0}) E) (text : List ℕ) (old new : Option (List ℕ)) → P text → OnOk r (Appends old new (as_line text)) →
    OnOk r (WritesLine P old new)
line_is_written P (Ok x) text old new such written = record { text = text; such = such; written = written }
line_is_written P (Err e) text old new such written = tt

-- the same if an end stands after the text
pub line_with_end : {E : Type 0} (P : List ℕ → Type 0) (r : Result (Unit {0}) E) (text end said : List ℕ) (old new : Option (List ℕ))
    → P (text ++ end) → said ≡ end → OnOk r (Appends old new (text ++ (said ++ 10 ∷ []))) → OnOk r (WritesLine P old new)
line_with_end P (Ok x) text end said old new such same written = record {
  text = text ++ end;
  such = such;
  written = subst (Appends old new) (ap (λ e. text ++ (e ++ 10 ∷ [])) same ∙ sym (append_assoc text end (10 ∷ []))) written;
}
line_with_end P (Err e) text end said old new such same written = tt

-- a line whose front was written before
pub line_behind : {E : Type 0} (P : List ℕ → Type 0) (Q : List ℕ → Type 0) (r : Result (Unit {0}) E) (front : List ℕ) (old mid new : Option (List ℕ))
    → ((words : List ℕ) → P words → Q (front ++ words)) → Appends old mid front → OnOk r (WritesLine P mid new) → OnOk r (WritesLine Q old new)
line_behind P Q (Ok x) front old mid new such before line = record {
  text = front ++ line.text;
  such = such line.text line.such;
  written = subst (Appends old new) (sym (append_assoc front line.text (10 ∷ []))) (Appends-trans old mid new front (as_line line.text) before line.written);
}
line_behind P Q (Err e) front old mid new such before line = tt

-- what a call writes stands after what was written before
pub appends_behind : {E : Type 0} (r : Result (Unit {0}) E) (a b c : Option (List ℕ)) (bs cs : List ℕ) → Appends a b bs → OnOk r (Appends b c cs) → OnOk r (Appends a c (bs ++ cs))
appends_behind (Ok x) a b c bs cs p q = Appends-trans a b c bs cs p q
appends_behind (Err e) a b c bs cs p q = tt

-- what was written stays so if what the writer holds is kept
pub appends_flushed : {E : Type 0} (r : Result (Unit {0}) E) (a b c : Option (List ℕ)) (bs : List ℕ) → Appends a b bs → Keeps b c → OnOk r (Appends a c bs)
appends_flushed (Ok x) a b c bs wrote kept = Appends-kept a b c bs wrote kept
appends_flushed (Err e) a b c bs wrote kept = tt
