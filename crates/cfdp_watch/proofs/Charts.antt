-- The lines of a chart, and a chart that goes on to its end.
use Rattle.std.proofs.Common.{◌≡◌, ◌+◌, ◌-◌, ◌^◌, ℕ, zero, suc, min, List, [], ◌∷◌, ◌++◌, Option, Some, Result, Ok, Err, codes, decimal, length, length-append, take, ap, append-nil, append_assoc, arith, refl, subst, sym, ◌∙◌}
use Rattle.std.proofs.KnownBytes.{Appends-kept, Appends-trans}
use Rattle.std.proofs.lemmas.Grind.{flat_map-append}
use Rattle.std.specs.Io.KnownBytes.{Appends, Keeps}
use Rattle.std.specs.List.{AllZip, flat_map}
use Rattle.std.specs.Result.{OnOk}
use Rattle.cfdp_watch.specs.Chart.{ChartsSighting, ChartsSoFar, EndsChart, arrow, counted, drawn_octet, head_text, most_lines, rest_text}
use Rattle.cfdp_watch.specs.Continues.{Continues}
use Rattle.cfdp_dump.specs.Spelled.Lines.{WritesLine, WritesLines, as_line}
use Rattle.cfdp_watch.specs.Trace.{TellsDeed}
use Rattle.cfdp_dump.specs.declared.spelled.shape.FrameShapes.{FrameShapes}
use Rattle.cfdp_watch.specs.declared.chart.ChartWriter.{ChartWriter}
use Rattle.cfdp_watch.specs.declared.sighting.Sighting.{Sighting}
use Rattle.cfdp_dump.proofs.TextLines.{AllZip-joined}

-- what stands before what a sighting shows
abbrev pub front_of : Sighting → List ℕ
front_of s = arrow s.station s.deed ++ decimal s.step ++ codes "." ++ decimal s.event ++ codes " "

-- five parts in a row, grouped from the front
grouped : (a b c d e : List ℕ) → a ++ b ++ c ++ d ++ e ≡ a ++ (b ++ (c ++ (d ++ e)))
grouped a b c d e = append_assoc (a ++ b ++ c) d e ∙ append_assoc (a ++ b) c (d ++ e) ∙ append_assoc a b (c ++ (d ++ e))

-- with the word for its arrow it is written
pub front_drawn : (s : Sighting) (old mid : Option (List ℕ)) (drawn : List ℕ) → drawn ≡ arrow s.station s.deed
    → Appends old mid (drawn ++ (decimal s.step ++ (codes "." ++ (decimal s.event ++ codes " ")))) → Appends old mid (front_of s)
front_drawn s old mid drawn is written =
    subst (λ a. Appends old mid (a ++ decimal s.step ++ codes "." ++ decimal s.event ++ codes " ")) is
    (subst (Appends old mid) (sym (grouped drawn (decimal s.step) (codes ".") (decimal s.event) (codes " "))) written)

-- a line is drawn octet by octet, and its end stays
drawn_line : (text : List ℕ) → flat_map drawn_octet (as_line text) ≡ as_line (flat_map drawn_octet text)
drawn_line text = flat_map-append drawn_octet text (10 ∷ [])

-- with its front and what it shows the line is written
pub arrow_written : {E : Type 0} (r : Result (Unit {0}) E) (shapes : FrameShapes) (s : Sighting) (old mid new : Option (List ℕ)) (line : List ℕ)
    → WritesLine (TellsDeed shapes s) (Some []) (Some line) → Appends old mid (front_of s) → OnOk r (Appends mid new (flat_map drawn_octet line))
    → OnOk r (WritesLine (ChartsSighting shapes s) old new)
arrow_written (Ok x) shapes s old mid new line told front drawn =
    let deed = told.text in
    let octets : flat_map drawn_octet line ≡ as_line (flat_map drawn_octet deed) = ap (λ l. flat_map drawn_octet l) told.written ∙ drawn_line deed in
    record {
      text = front_of s ++ flat_map drawn_octet deed;
      such = record { deed = deed; tells = told.such; whole = refl };
      written = subst (Appends old new) (sym (append_assoc (front_of s) (flat_map drawn_octet deed) (10 ∷ [])))
          (Appends-trans old mid new (front_of s) (as_line (flat_map drawn_octet deed)) front (subst (Appends mid new) octets drawn));
    }
arrow_written (Err e) shapes s old mid new line told front drawn = tt

-- before the first line there is the head alone
pub chart_begun : {E : Type 0} (r : Result (Unit {0}) E) (writer : ChartWriter) (old mid new : Option (List ℕ))
    → writer.lines ≡ 0 → Appends old mid head_text → Keeps mid new → OnOk r (ChartsSoFar writer [] old new)
chart_begun (Ok x) writer old mid new none head kept = record {
  count = none;
  texts = [];
  each = tt;
  written = subst (Appends old new) (sym (append-nil head_text)) (Appends-kept old mid new head_text head kept);
}
chart_begun (Err e) writer old mid new none head kept = tt

-- the first of two lists, one after the other
take-joined : {A : Type 0} (n : ℕ) (xs ys : List A) → take n (xs ++ ys) ≡ take n xs ++ take (n - length xs) ys
take-joined zero [] ys = refl
take-joined zero (x ∷ xs) ys =
    let none : 0 ≡ 0 - length (x ∷ xs) = omega arith in
    ap (λ n. take n ys) none
take-joined (suc n) [] ys =
    let all : suc n ≡ suc n - 0 = omega arith in
    ap (λ k. take k ys) all
take-joined (suc n) (x ∷ xs) ys =
    let less : n - length xs ≡ suc n - suc (length xs) = omega arith in
    ap (λ rest. x ∷ rest) (take-joined n xs ys ∙ ap (λ k. take n xs ++ take k ys) less)

-- after the lines of what was seen before stand those of the first of these
pub chart_goes_on : {E : Type 0} (r : Result (Unit {0}) E) (was is : ChartWriter) (room : ℕ) (more first : List Sighting) (old mid new : Option (List ℕ))
    → is.shapes ≡ was.shapes → room ≡ most_lines - was.lines → is.lines ≡ min (was.lines + length more) (2 ^ 64 - 1) → first ≡ take room more
    → WritesLines (ChartsSighting was.shapes) first old mid → Keeps mid new → OnOk r (Continues (ChartsSoFar was) (ChartsSoFar is) more old new)
chart_goes_on (Ok x) was is room more first old mid new zone has_room count firsts wrote kept = λ seen start before.
    let room_is : room ≡ most_lines - length seen = (let counted_is = before.count in omega (arith, has_room, counted_is)) in
    let shown : take most_lines seen ++ first ≡ take most_lines (seen ++ more) =
    ap (λ l. take most_lines seen ++ l) (firsts ∙ ap (λ n. take n more) room_is) ∙ sym (take-joined most_lines seen more) in
    record {
      count = (let counted_is = before.count in let both = length-append seen more in omega (arith, count, counted_is, both));
      texts = before.texts ++ wrote.texts;
      each = subst (λ z. AllZip (ChartsSighting z) (take most_lines (seen ++ more)) (before.texts ++ wrote.texts)) (sym zone)
          (subst (λ xs. AllZip (ChartsSighting was.shapes) xs (before.texts ++ wrote.texts)) shown
          (AllZip-joined (ChartsSighting was.shapes) (take most_lines seen) first before.texts wrote.texts before.each wrote.each));
      written = subst (Appends start new) (append_assoc head_text (flat_map as_line before.texts) (flat_map as_line wrote.texts) ∙ sym (ap (λ t. head_text ++ t) (flat_map-append as_line before.texts wrote.texts)))
          (Appends-trans start old new (head_text ++ flat_map as_line before.texts) (flat_map as_line wrote.texts) before.written (Appends-kept old mid new (flat_map as_line wrote.texts) wrote.written kept));
    }
chart_goes_on (Err e) was is room more first old mid new zone has_room count firsts wrote kept = tt

-- with how many are left out the chart is whole
pub chart_ended : {E : Type 0} (r : Result (Unit {0}) E) (writer : ChartWriter) (old mid new : Option (List ℕ))
    → Appends old mid (rest_text writer.lines) → Keeps mid new → OnOk r (EndsChart writer old new)
chart_ended (Ok x) writer old mid new rest kept = λ seen start before. record {
  texts = before.texts;
  each = before.each;
  written = Appends-trans start old new (head_text ++ flat_map as_line before.texts) (rest_text (counted seen)) before.written
      (subst (λ n. Appends old new (rest_text n)) before.count (Appends-kept old mid new (rest_text writer.lines) rest kept));
}
chart_ended (Err e) writer old mid new rest kept = tt
