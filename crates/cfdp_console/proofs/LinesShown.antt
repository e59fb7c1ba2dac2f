-- The last lines of a log are lines that came.
use Rattle.std.proofs.Common.{◌≡◌, ◌≢◌, ◌∙◌, ◌<◌, ◌≤◌, ◌+◌, ◌^◌, ◌==◌, ◌∷◌, ◌++◌, ℕ, Bool, true, List, [], All, ap, sym, refl, subst, inl, inr, suc, zero, arith, append_assoc, append-nil, length, length-append, take, length-take, min, cond}
use Rattle.std.specs.Prelude.{string_bytes, IsTrue}
use Rattle.std.proofs.lemmas.Bool.Decides.{nat_tests}
use Rattle.std.proofs.lemmas.List.{take_all, take_at}
use Rattle.std.proofs.lemmas.List.Elements.{All-append, All-cons, All-head, All-nil, All-tail, All-weaker}
use Rattle.std.proofs.lemmas.List.Quantifiers.{all_pairs_push}
use Rattle.std.proofs.lemmas.List.Sums.{count_by-le-length, sum_by-append, sum_by-cons}
use Rattle.cfdp_console.specs.declared.log_lines.LogLine.{LogLine}
use Rattle.cfdp_console.specs.LastLines.{HasBegun, HasNoEnd, IsEarlier, IsLine, IsTold, KeepsOctet, LastState, ShowsLine, ShowsLines, ShowsNext, ShowsOrLeaves, ends_in, kept_of}

take-front : (n : ℕ) (xs ys : List ℕ) → take n (take n xs ++ ys) ≡ take n (xs ++ ys)
take-front zero xs ys = refl
take-front (suc n) [] ys = refl
take-front (suc n) (x ∷ xs) ys = ap (λ l. x ∷ l) (take-front n xs ys)

-- ---- the line that is begun

-- a line that is too long, and one that isn't
pub full_kept : (line : List ℕ) (octet : ℕ) → 4096 ≤ length line → length line ≤ 4096 → line ≡ kept_of (line ++ octet ∷ [])
full_kept line octet long short = sym (take_at line (octet ∷ []) 4096 (omega (arith, long, short)))

pub short_kept : (line now : List ℕ) (octet : ℕ) → length line < 4096 → now ≡ line ++ octet ∷ [] → now ≡ kept_of (line ++ octet ∷ [])
short_kept line now octet short is =
    let long = length-append line (octet ∷ []) in is ∙ sym (take_all 4096 (line ++ octet ∷ []) (omega (arith, long, short)))

kept_more : (line begun now : List ℕ) (octet : ℕ) → begun ≡ kept_of line
    → (length begun ≤ 4096 → now ≡ kept_of (begun ++ octet ∷ [])) → now ≡ kept_of (line ++ octet ∷ [])
kept_more line begun now octet is grown =
    let long = ap length is ∙ length-take 4096 line in
    let short : length begun ≤ 4096 = omega (arith, long) in
    grown short ∙ ap (λ l. kept_of (l ++ octet ∷ [])) is ∙ take-front 4096 line (octet ∷ [])

begins_more : (came : List ℕ) (count : ℕ) (has_all kept : Bool) (begun now : List ℕ) (octet : ℕ)
    → octet ≢ 10 → (IsTrue kept → KeepsOctet octet has_all begun now)
    → HasBegun came count has_all begun → HasBegun (came ++ octet ∷ []) count kept now
begins_more came count has_all kept begun now octet other keeps was = record {
  whole = was.whole;
  line = was.line ++ octet ∷ [];
  is = ap (λ l. l ++ octet ∷ []) was.is ∙ append_assoc was.whole was.line (octet ∷ []);
  lines = was.lines;
  starts = was.starts;
  ends = All-append (λ o. o ≢ 10) was.line (octet ∷ []) was.ends (All-cons (λ o. o ≢ 10) octet [] other (All-nil (λ o. o ≢ 10)));
  kept = λ yes. kept_more was.line begun now octet (was.kept (keeps yes).0) (keeps yes).1;
}

none_ends : (line : List ℕ) → HasNoEnd line → ends_in line ≡ 0
none_ends [] none = refl
none_ends (o ∷ line) none =
    let rest = none_ends line (All-tail (λ octet. octet ≢ 10) o line none) in
    let here : ◌≡◌ {A = ℕ} (cond (o == 10) 1 0) 0 = let other = All-head (λ octet. octet ≢ 10) o line none in grind (arith, nat_tests) in
    sum_by-cons (λ octet. cond (octet == 10) 1 0) o line ∙ omega (arith, rest, here)

ended : (whole line : List ℕ) → HasNoEnd line → ends_in (whole ++ line ++ 10 ∷ []) ≡ ends_in whole + 1
ended whole line none =
    let one : ends_in (10 ∷ []) ≡ 1 = refl in
    let rest = none_ends line none in
    let front = sum_by-append (λ octet. cond (octet == 10) 1 0) whole line in
    sum_by-append (λ octet. cond (octet == 10) 1 0) (whole ++ line) (10 ∷ []) ∙ omega (arith, one, rest, front)

begins_anew : (came : List ℕ) (count : ℕ) (has_all : Bool) (begun now : List ℕ)
    → now ≡ [] → HasBegun came count has_all begun → HasBegun (came ++ 10 ∷ []) (count + 1) true now
begins_anew came count has_all begun now none was = record {
  whole = was.whole ++ was.line ++ 10 ∷ [];
  line = [];
  is = ap (λ l. l ++ 10 ∷ []) was.is ∙ sym (append-nil _);
  lines = ap (λ n. n + 1) was.lines ∙ sym (ended was.whole was.line was.ends);
  starts = inr (was.whole ++ was.line, refl);
  ends = All-nil (λ o. o ≢ 10);
  kept = λ _. none;
}

-- ---- the lines that are shown

line_stays : (came more : List ℕ) (number : ℕ) (line : List ℕ) → IsLine came number line → IsLine (came ++ more) number line
line_stays came more number line is = record {
  before = is.before;
  after = is.after ++ more;
  is = ap (λ l. l ++ more) is.is ∙ append_assoc (is.before ++ line) (10 ∷ is.after) more;
  counted = is.counted;
  starts = is.starts;
  ends = is.ends;
}

all_stay : (came more : List ℕ) (shown : List LogLine) → All (ShowsLine came) shown → All (ShowsLine (came ++ more)) shown
all_stay came more shown all =
    All-weaker (ShowsLine came) (ShowsLine (came ++ more)) (λ it was. (was.0, line_stays came more it.number was.0 was.1, was.2)) shown all

shows_more : (came more : List ℕ) (count : ℕ) (shown : List LogLine) (left_out : List ℕ)
    → ShowsLines came count shown left_out → ShowsLines (came ++ more) count shown left_out
shows_more came more count shown left_out was = record {
  as_they_came = all_stay came more shown was.as_they_came;
  in_order = was.in_order;
  counted = was.counted;
  all = was.all;
}

-- a line is left out
leaves : (came : List ℕ) (count : ℕ) (shown : List LogLine) (left_out : List ℕ)
    → ShowsLines came count shown left_out → ShowsLines (came ++ 10 ∷ []) (count + 1) shown (left_out ++ (count + 1) ∷ [])
leaves came count shown left_out was = record {
  as_they_came = all_stay came (10 ∷ []) shown was.as_they_came;
  in_order = was.in_order;
  counted = λ k d within. let low = was.counted k d within in omega arith;
  all = let before = was.all in grind (arith, length-append);
}

-- the line that has ended
line_ended : (came : List ℕ) (count : ℕ) (has_all : Bool) (begun : List ℕ) → (was : HasBegun came count has_all begun)
    → IsLine (came ++ 10 ∷ []) (count + 1) was.line
line_ended came count has_all begun was = record {
  before = was.whole;
  after = [];
  is = ap (λ l. l ++ 10 ∷ []) was.is;
  counted = ap (λ n. n + 1) was.lines;
  starts = was.starts;
  ends = was.ends;
}

-- it is shown
shows : (came : List ℕ) (count : ℕ) (begun : List ℕ) (old new : List LogLine) (left_out : List ℕ)
    → HasBegun came count true begun → ShowsLines came count old left_out → ShowsNext (count + 1) begun old new
    → ShowsLines (came ++ 10 ∷ []) (count + 1) new left_out
shows came count begun old new left_out has was next =
    let it = next.line in
    let numbered = next.numbered in
    let shown : ShowsLine (came ++ 10 ∷ []) it = (has.line, subst (λ n. IsLine (came ++ 10 ∷ []) n has.line) (sym numbered) (line_ended came count true begun has), subst (λ l. IsTold l (string_bytes it.text)) (has.kept refl) next.text) in
    let after : ShowsLines (came ++ 10 ∷ []) (count + 1) (old ++ it ∷ []) left_out = record {
      as_they_came = All-append (ShowsLine (came ++ 10 ∷ [])) old (it ∷ []) (all_stay came (10 ∷ []) old was.as_they_came) (All-cons (ShowsLine (came ++ 10 ∷ [])) it [] shown (All-nil (ShowsLine (came ++ 10 ∷ []))));
      in_order = all_pairs_push IsEarlier old it was.in_order (λ k d within. let low = was.counted k d within in omega arith);
      counted = All-append (λ line. line.number ≤ count + 1) old (it ∷ []) (λ k d within. let low = was.counted k d within in omega arith) (All-cons (λ line. line.number ≤ count + 1) it [] (omega arith) (All-nil (λ line. line.number ≤ count + 1)));
      all = let before = was.all in grind (arith, length-append);
    } in
    subst (λ l. ShowsLines (came ++ 10 ∷ []) (count + 1) l left_out) (sym next.is) after

-- ---- what is true of the whole list

abbrev pub IsTrueOf : List ℕ → ℕ → Bool → List ℕ → LastState → Type 0
IsTrueOf came count has_all begun last = length came < 2 ^ 64
    → HasBegun came count has_all begun × ShowsLines came count last.shown last.left_out

pub after_octet : (came new : List ℕ) (count : ℕ) (has_all kept : Bool) (begun now : List ℕ) (octet : ℕ) (last : LastState)
    → IsTrueOf came count has_all begun last → new ≡ came ++ octet ∷ [] → octet ≢ 10
    → (IsTrue kept → KeepsOctet octet has_all begun now) → IsTrueOf new count kept now last
after_octet came new count has_all kept begun now octet last was is other keeps =
    subst (λ l. IsTrueOf l count kept now last) (sym is) (λ few.
    let before = was (let e = length-append came (octet ∷ []) in omega (arith, few, e)) in
    (begins_more came count has_all kept begun now octet other keeps before.0, shows_more came (octet ∷ []) count last.shown last.left_out before.1))

shown_or_left : (came : List ℕ) (count : ℕ) (has_all : Bool) (begun : List ℕ) (old new : LastState)
    → HasBegun came count has_all begun → ShowsLines came count old.shown old.left_out
    → ShowsOrLeaves (count + 1) begun has_all old new
    → ShowsLines (came ++ 10 ∷ []) (count + 1) new.shown new.left_out
shown_or_left came count has_all begun old new has was (inl (every, next, same)) =
    subst (λ l. ShowsLines (came ++ 10 ∷ []) (count + 1) new.shown l) (sym same) (shows came count begun old.shown new.shown old.left_out (subst (λ b. HasBegun came count b begun) every has) was next)
shown_or_left came count has_all begun old new has was (inr (same, left)) =
    subst (λ l. ShowsLines (came ++ 10 ∷ []) (count + 1) l new.left_out) (sym same)
    (subst (λ l. ShowsLines (came ++ 10 ∷ []) (count + 1) old.shown l) (sym left) (leaves came count old.shown old.left_out was))

few_ends : (came whole line : List ℕ) (count : ℕ) → came ≡ whole ++ line → count ≡ ends_in whole → count ≤ length came
few_ends came whole line count is counted =
    let few = count_by-le-length (λ octet. octet == 10) whole in
    let e = ap length is ∙ length-append whole line in
    omega (arith, few, e, counted)

pub after_end : (came new : List ℕ) (count more : ℕ) (has_all : Bool) (begun now : List ℕ) (old last : LastState)
    → IsTrueOf came count has_all begun old → new ≡ came ++ 10 ∷ [] → more ≡ min (count + 1) 18446744073709551615 → now ≡ []
    → ShowsOrLeaves more begun has_all old last → IsTrueOf new more true now last
after_end came new count more has_all begun now old last was is grown none takes =
    subst (λ l. IsTrueOf l more true now last) (sym is) (λ few.
    let e = length-append came (10 ∷ []) in
    let before = was (omega (arith, few, e)) in
    let low = few_ends came before.0.whole before.0.line count before.0.is before.0.lines in
    let next : more ≡ count + 1 = omega (arith, grown, low, few, e) in (
      subst (λ n. HasBegun (came ++ 10 ∷ []) n true now) (sym next) (begins_anew came count has_all begun now none before.0),
      subst (λ n. ShowsLines (came ++ 10 ∷ []) n last.shown last.left_out) (sym next)
          (shown_or_left came count has_all begun old last before.0 before.1 (subst (λ n. ShowsOrLeaves n begun has_all old last) next takes)),
    ))
