-- How lines of a log are made up and written.
use Rattle.std.proofs.Common.{◌≡◌, ◌+◌, ◌-◌, ℕ, List, [], ◌∷◌, ◌++◌, Option, None, Some, false, Result, Ok, Err, ap, append-nil, append_assoc, arith, length, length-append, take, sym, subst, ◌∙◌}
use Rattle.std.proofs.lemmas.List.{take_at}
use Rattle.std.specs.Io.KnownBytes.{Appends, Keeps}
use Rattle.std.proofs.KnownBytes.{Appends-kept}
use Rattle.std.specs.Result.{OnOk}
use Rattle.cfdp_report.specs.Report.Lines.{count_line}
use Rattle.cfdp_log.specs.declared.station_log.style.Style.{Style}
use Rattle.cfdp_log.specs.declared.station_log.style.Style.TheVariants.{Plain, Text, Json}
use Rattle.cfdp_log.specs.Log.Lines.{Entry, Answers, Tells, Completes, Notes, IsDressed, WritesAs, WritesDressed, count_body}
use Rattle.cfdp_log.specs.Log.Written.{JournalState, Logs}

-- ---- results
pub ok-map : {A E : Type 0} (r : Result A E) (P Q : Type 0) → (P → Q) → OnOk r P → OnOk r Q
ok-map (Ok x) P Q follows holds = follows holds
ok-map (Err e) P Q follows holds = tt

pub ok-always : {A E : Type 0} (r : Result A E) (P : Type 0) → P → OnOk r P
ok-always (Ok x) P holds = holds
ok-always (Err e) P holds = tt

-- ---- the ends of a line
-- all but the last of a list
pub front_taken : (whole front : List ℕ) → whole ≡ front ++ 10 ∷ [] → take (length whole - 1) whole ≡ front
front_taken whole front is =
    let long : length (front ++ 10 ∷ []) ≡ length front + 1 = length-append front (10 ∷ []) in
    subst (λ w. take (length w - 1) w ≡ front) (sym is)
    (take_at front (10 ∷ []) (length (front ++ 10 ∷ []) - 1) (omega (arith, long)))

-- a line after something, to which something is added before its end
pub line_dressed : (old whole body made behind : List ℕ) → whole ≡ old ++ (body ++ 10 ∷ []) → made ≡ take (length whole - 1) whole ++ behind ++ 10 ∷ [] → IsDressed body made
line_dressed old whole body made behind is made_is = record {
  front = old;
  behind = behind;
  is = made_is ∙ ap (λ w. w ++ behind ++ 10 ∷ []) (front_taken whole (old ++ body) (is ∙ sym (append_assoc old body (10 ∷ []))));
}

-- a line after something
pub line_ends : (old body made : List ℕ) → made ≡ old ++ (body ++ 10 ∷ []) → IsDressed body made
line_ends old body made is = record {
  front = old;
  behind = [];
  is = is ∙ sym (append_assoc old body (10 ∷ [])) ∙ ap (λ w. w ++ 10 ∷ []) (sym (append-nil (old ++ body)));
}

-- the last line of a log in text
pub end_told : {E : Type 0} (r : Result (Unit {0}) E) (style : Style) (own complete asked : ℕ) (front line : List ℕ) (old new : Option (List ℕ))
    → style ≡ Text → line ≡ front ++ count_line complete asked → OnOk r (Appends old new line) → OnOk r (WritesAs own style (Completes complete asked) old new)
end_told r style own complete asked front line old new is made written =
    subst (λ s. OnOk r (WritesAs own s (Completes complete asked) old new)) (sym is)
    (ok-map r (Appends old new line) (WritesDressed (count_body complete asked) old new)
    (λ w. record { line = line; dressed = line_ends front (count_body complete asked) line made; written = w })
    written)

-- ---- what is written out
-- what was written stays so
pub written_kept : (own : ℕ) (style : Style) (entry : Entry) (old mid new : Option (List ℕ)) → WritesAs own style entry old mid → Keeps mid new → WritesAs own style entry old new
written_kept own Plain entry old mid new written kept = Appends-kept _ _ _ _ written kept
written_kept own Text (Answers number None) old mid new written kept = tt
written_kept own Text (Answers number (Some answer)) old mid new written kept = record { line = written.line; dressed = written.dressed; written = Appends-kept _ _ _ _ written.written kept }
written_kept own Text (Tells indication) old mid new written kept = record { line = written.line; dressed = written.dressed; written = Appends-kept _ _ _ _ written.written kept }
written_kept own Text (Completes complete asked) old mid new written kept = record { line = written.line; dressed = written.dressed; written = Appends-kept _ _ _ _ written.written kept }
written_kept own Text Notes old mid new written kept = tt
written_kept own (Json has_time) entry old mid new written kept = tt

pub logs_kept : (entry : Entry) (old mid new : JournalState) → Logs entry old mid → new.own ≡ mid.own → new.style ≡ mid.style → Keeps mid.written new.written → (new.has_failed ≡ false → mid.has_failed ≡ false) → Logs entry old new
logs_kept entry old mid new logs own style kept before = record {
  own = own ∙ logs.own;
  style = style ∙ logs.style;
  before = λ no. logs.before (before no);
  written = λ no. written_kept old.own old.style entry old.written mid.written new.written (logs.written (before no)) kept;
}
