-- Lines of a log are logged in their order, or lost and counted.
use Rattle.std.proofs.Common.{◌≡◌, ◌≢◌, ◌∙◌, ◌∷◌, ◌++◌, ℕ, Bool, true, false, List, [], Result, Ok, Err, ap, sym, refl, subst, inl, inr, append_assoc, append-nil}
use Rattle.std.specs.Prelude.{IsTrue, OnOk, is_ok}
use Rattle.std.proofs.lemmas.Bool.{false≢true}
use Rattle.std.proofs.lemmas.List.Elements.{All-append, All-nil}
use Rattle.cfdp_log.specs.Queue.{KeepsLine, KeepsOrLoses, LosesLine, QueueState, StaysLogged, TellsLost, WritesFirst, logged_by}
use Rattle.cfdp_console.specs.LastLines.{HasNoEnd}
use Rattle.cfdp_log.specs.Lossy.{HasLogged, IsLoggedAs, KeepsMore, LogsLines, LossyState, SaysLost, Keeps, Loses, Nothing, Says}

pub ok_holds : {A E : Type 0} (r : Result A E) (P : Type 0) → is_ok r ≡ true → OnOk r P → P
ok_holds (Ok x) P is holds = holds
ok_holds (Err e) P is holds = absurd (false≢true is)

-- this was written, or this in two parts
pub written_after : (front middle behind new : List ℕ) → new ≡ front ++ (middle ++ behind) → new ≡ front ++ middle ++ behind
written_after front middle behind new is = is ∙ sym (append_assoc front middle behind)

pub written_between : (old front middle behind mid new : List ℕ) → mid ≡ old ++ (front ++ middle) → new ≡ mid ++ behind
    → new ≡ old ++ front ++ middle ++ behind
written_between old front middle behind mid new first then =
    then ∙ ap (λ l. l ++ behind) (first ∙ sym (append_assoc old front middle))

pub nothing_came : (came : List ℕ) (queue : QueueState) (begun : List ℕ) → came ≡ [] → queue.written ≡ [] → queue.waits ≡ []
    → queue.lost ≡ 0 → begun ≡ [] → LogsLines came queue true begun
nothing_came came queue begun none written waits lost empty =
    let logged : logged_by queue ≡ [] = ap (λ w. w ++ queue.waits) written ∙ waits in
    record {
      whole = [];
      line = [];
      is = none;
      ends = All-nil (λ octet. octet ≢ 10);
      kept = λ _. empty;
      logged = subst (λ l. IsLoggedAs [] l queue.lost) (sym logged) (subst (λ n. IsLoggedAs [] [] n) (sym lost) Nothing);
    }

pub begins_more : (came new : List ℕ) (queue : QueueState) (is_whole kept : Bool) (begun now octets : List ℕ)
    → LogsLines came queue is_whole begun → new ≡ came ++ octets → HasNoEnd octets
    → (IsTrue kept → KeepsMore is_whole octets begun now) → LogsLines new queue kept now
begins_more came new queue is_whole kept begun now octets was is none keeps = record {
  whole = was.whole;
  line = was.line ++ octets;
  is = is ∙ ap (λ l. l ++ octets) was.is ∙ append_assoc was.whole was.line octets;
  ends = All-append (λ octet. octet ≢ 10) was.line octets was.ends none;
  kept = λ yes. (keeps yes).1 ∙ ap (λ l. l ++ octets) (was.kept (keeps yes).0);
  logged = was.logged;
}

-- more waits
waits_more : (old new : QueueState) (line : List ℕ) → new.written ≡ old.written → new.waits ≡ old.waits ++ line
    → logged_by new ≡ logged_by old ++ line
waits_more old new line written waits =
    ap (λ w. w ++ new.waits) written ∙ ap (λ l. old.written ++ l) waits ∙ sym (append_assoc old.written old.waits line)

same_logged : (whole : List ℕ) (old new : List ℕ) (lost now : ℕ) → new ≡ old → now ≡ lost → IsLoggedAs whole old lost → IsLoggedAs whole new now
same_logged whole old new lost now is counted logged =
    subst (λ l. IsLoggedAs whole l now) (sym is) (subst (λ n. IsLoggedAs whole old n) (sym counted) logged)

line_logged : (whole line begun now : List ℕ) (is_whole kept : Bool) (old new : QueueState)
    → IsLoggedAs whole (logged_by old) old.lost → HasNoEnd line → (is_whole ≡ true → begun ≡ line)
    → (IsTrue kept → KeepsMore is_whole (10 ∷ []) begun now) → KeepsOrLoses now kept old new
    → IsLoggedAs (whole ++ line ++ 10 ∷ []) (logged_by new) new.lost
line_logged whole line begun now is_whole kept old new logged none held keeps (inl (every, room, waits)) =
    let more = keeps every in
    let is : now ≡ line ++ 10 ∷ [] = more.1 ∙ ap (λ l. l ++ 10 ∷ []) (held more.0) in
    let before : IsLoggedAs whole (logged_by old) 0 = subst (λ n. IsLoggedAs whole (logged_by old) n) room.0 logged in
    let told = waits_more old new now waits.written waits.waits ∙ ap (λ l. logged_by old ++ l) is ∙ sym (append_assoc (logged_by old) line (10 ∷ [])) in
    same_logged _ _ _ _ _ told (waits.lost ∙ room.0) (Keeps whole (logged_by old) line before none)
line_logged whole line begun now is_whole kept old new logged none held keeps (inr (not, loses)) =
    let same = ap (λ w. w ++ new.waits) loses.written ∙ ap (λ l. old.written ++ l) loses.waits in
    same_logged _ _ _ _ _ same loses.lost (Loses whole (logged_by old) line old.lost logged none)

pub ends_line : (came new : List ℕ) (old queue : QueueState) (is_whole kept : Bool) (begun now cleared : List ℕ)
    → LogsLines came old is_whole begun → new ≡ came ++ 10 ∷ [] → (IsTrue kept → KeepsMore is_whole (10 ∷ []) begun now)
    → KeepsOrLoses now kept old queue → cleared ≡ [] → LogsLines new queue true cleared
ends_line came new old queue is_whole kept begun now cleared was is keeps takes empty = record {
  whole = was.whole ++ was.line ++ 10 ∷ [];
  line = [];
  is = is ∙ ap (λ l. l ++ 10 ∷ []) was.is ∙ sym (append-nil _);
  ends = All-nil (λ octet. octet ≢ 10);
  kept = λ _. empty;
  logged = line_logged was.whole was.line begun now is_whole kept old queue was.logged was.ends was.kept keeps takes;
}

pub tells_lost : (came : List ℕ) (old new : QueueState) (is_whole : Bool) (begun line : List ℕ)
    → LogsLines came old is_whole begun → TellsLost line old new → old.lost ≢ 0 → SaysLost old.lost line
    → LogsLines came new is_whole begun
tells_lost came old new is_whole begun line was tells some says = record {
  whole = was.whole;
  line = was.line;
  is = was.is;
  ends = was.ends;
  kept = was.kept;
  logged = same_logged was.whole _ _ 0 _ (waits_more old new line tells.written tells.waits) tells.lost (Says was.whole (logged_by old) line old.lost was.logged some says);
}

pub stays_logged : (came : List ℕ) (old new : QueueState) (is_whole : Bool) (begun : List ℕ)
    → LogsLines came old is_whole begun → StaysLogged old new → LogsLines came new is_whole begun
stays_logged came old new is_whole begun was stays = record {
  whole = was.whole;
  line = was.line;
  is = was.is;
  ends = was.ends;
  kept = was.kept;
  logged = same_logged was.whole _ _ old.lost _ stays.same stays.lost was.logged;
}

pub first_written : {before after : _} (old new : QueueState) → WritesFirst before after old new → StaysLogged old new
first_written old new writes = record {
  same = ap (λ w. w ++ new.waits) writes.noted ∙ append_assoc old.written writes.first new.waits ∙ ap (λ l. old.written ++ l) (sym writes.waited);
  lost = writes.lost;
}

pub has_logged : (came : List ℕ) (queue : QueueState) (is_whole : Bool) (begun : List ℕ)
    → LogsLines came queue is_whole begun → HasLogged (record { came = came; queue = queue })
has_logged came queue is_whole begun was = record {
  whole = was.whole;
  line = was.line;
  is = was.is;
  ends = was.ends;
  logged = was.logged;
}
