-- What a clerk knows of the files that left its spool as sent, call by call: each was put, and
-- indicated complete, as a transaction of its own.
use Rattle.std.proofs.Common.{◌≡◌, ℕ, ◌+◌, ◌<◌, ◌≤◌, Option, Some, None, Ok, List, [], ◌∷◌, ◌++◌, length, map, take, drop, refl, sym, ap, subst, ◌∙◌, inl, inr, arith, append-nil, append_assoc, ⊎_elim}
use Rattle.std.specs.Prelude.{Contains, count_by}
use Rattle.std.proofs.lemmas.List.{map-append, take-append-drop}
use Rattle.std.proofs.lemmas.List.Elements.{Contains-append_left, Contains-push, Contains-push_cases}
use Rattle.cfdp_header.specs.declared.value.TransactionId.{TransactionId}
use Rattle.cfdp_header.specs.Ids.{same_id}
use Rattle.cfdp_directives.specs.declared.pdu.codes.Delivery.TheVariants.{Complete}
use Rattle.cfdp_directives.specs.declared.pdu.codes.FileStatus.TheVariants.{Retained}
use Rattle.cfdp_directives.specs.declared.user.indication.Indication.{Indication}
use Rattle.cfdp_directives.specs.declared.user.indication.Indication.TheVariants.{Finished}
use Rattle.cfdp_directives.specs.Pdu.Codes.{no_error}
use Rattle.cfdp_directives.specs.User.Completions.{FinishedOnce, IsToldComplete, is_finished}
use Rattle.cfdp_directives.proofs.Puts.{count_by-append, finished-append}
use Rattle.cfdp_service.specs.Calls.{UserCall, Asks, Answered, Hears, Intends, Ends, Chain, heard_by}
use Rattle.cfdp_service.specs.Clerk.{ClerkState, ClerkSteps, IsAccepted, KeepsFiles, LeavesSent, WishesFile}
use Rattle.cfdp_service.specs.declared.clerk.OpenFile.{OpenFile}
use Rattle.cfdp_service.specs.declared.wish.Reply.{Reply}
use Rattle.cfdp_service.specs.declared.wish.Reply.TheVariants as replies
use Rattle.cfdp_service.specs.declared.wish.Wish.{Wish}
use Rattle.promises.proofs.Hearing.{heard_both}

-- A file that left, and the transaction of its put.
pub record Left : Type 0 where
  pub name : List ℕ
  pub id : TransactionId

abbrev pub names_of : List Left → List (List ℕ)
names_of left = map (λ (l : Left). l.name) left

abbrev pub of_id : TransactionId → List Left → ℕ
of_id id left = count_by (λ (l : Left). same_id l.id id) left

-- the last call wished for a put of this file
pub record EndsWishing (calls : List UserCall) (name : List ℕ) : Type 0 where
  pub front : List UserCall
  pub wish : Option Wish
  pub is : calls ≡ front ++ Asks wish ∷ []
  pub wishes : WishesFile name wish

-- By these calls it was put as this transaction, and indicated complete.
pub record WasSent (own : ℕ) (calls : List UserCall) (l : Left) : Type 0 where
  pub accepted : IsAccepted calls l.name l.id
  pub told : IsToldComplete own (heard_by calls) l.id

accepted_more : (calls more : List UserCall) (name : List ℕ) (id : TransactionId) → IsAccepted calls name id → IsAccepted (calls ++ more) name id
accepted_more calls more name id a = record {
  before = a.before;
  behind = a.behind ++ more;
  wish = a.wish;
  is = ap (λ l. l ++ more) a.is ∙ append_assoc a.before (Asks a.wish ∷ Answered (replies.Put (Ok id)) ∷ a.behind) more;
  wishes = a.wishes;
}

sent_more : (own : ℕ) (calls more : List UserCall) (l : Left) → WasSent own calls l → WasSent own (calls ++ more) l
sent_more own calls more l s = record {
  accepted = accepted_more calls more l.name l.id s.accepted;
  told = (
    s.told.0,
    subst (λ (is : List Indication). Contains is (Finished l.id no_error Complete Retained)) (sym (heard_both calls more))
        (Contains-append_left (heard_by calls) (heard_by more) (Finished l.id no_error Complete Retained) s.told.1),
  );
}

count_more : (id : TransactionId) (calls more : List UserCall) → count_by (is_finished id) (heard_by calls) ≤ count_by (is_finished id) (heard_by (calls ++ more))
count_more id calls more =
    let all : count_by (is_finished id) (heard_by (calls ++ more)) ≡ count_by (is_finished id) (heard_by calls) + count_by (is_finished id) (heard_by more) =
    ap (count_by (is_finished id)) (heard_both calls more) ∙ finished-append id (heard_by calls) (heard_by more) in
    omega (arith, all)

module _ {S : Type 0} (sent failed : S → List (List ℕ)) where
  -- What is known of a clerk after these calls, before which it was new.
  pub record Tracks (old : ClerkState S) (calls : List UserCall) (c : ClerkState S) : Type 0 where
    pub own : c.own ≡ old.own
    pub asked : (name : List ℕ) → c.asked ≡ Some name → EndsWishing calls name
    pub files : (file : OpenFile) → Contains c.files file → IsAccepted calls file.name.items file.id
    pub left : List Left
    pub gone : sent c.spool ≡ sent old.spool ++ names_of left
    pub each : (l : Left) → Contains left l → WasSent old.own calls l
    pub few : (id : TransactionId) → of_id id left ≤ count_by (is_finished id) (heard_by calls)

  none_asked : (calls : List UserCall) (asked : Option (List ℕ)) → asked ≡ None → (name : List ℕ) → asked ≡ Some name → EndsWishing calls name
  none_asked calls asked none name some = cc

  -- the file whose put is answered now
  now_accepted : (calls : List UserCall) (reply : Reply) (name : List ℕ) (id : TransactionId) → EndsWishing calls name → reply ≡ replies.Put (Ok id) → IsAccepted (calls ++ Answered reply ∷ []) name id
  now_accepted calls reply name id ends is = record {
    before = ends.front;
    behind = [];
    wish = ends.wish;
    is = ap (λ l. l ++ Answered reply ∷ []) ends.is ∙ append_assoc ends.front (Asks ends.wish ∷ []) (Answered reply ∷ []) ∙ ap (λ r. ends.front ++ Asks ends.wish ∷ Answered r ∷ []) is;
    wishes = ends.wishes;
  }

  -- a call by which none left
  keeps_left : (old : ClerkState S) (calls : List UserCall) (call : UserCall) (c d : ClerkState S) → Tracks old calls c → d.own ≡ c.own → KeepsFiles sent c d →
      ((name : List ℕ) → d.asked ≡ Some name → EndsWishing (calls ++ call ∷ []) name) →
      ((file : OpenFile) → Contains d.files file → IsAccepted (calls ++ call ∷ []) file.name.items file.id) → Tracks old (calls ++ call ∷ []) d
  keeps_left old calls call c d k own same asked files = record {
    own = own ∙ k.own;
    asked = asked;
    files = files;
    left = k.left;
    gone = same ∙ k.gone;
    each = λ l has. sent_more old.own calls (call ∷ []) l (k.each l has);
    few = λ id.
        let was : of_id id k.left ≤ count_by (is_finished id) (heard_by calls) = k.few id in
        let more : count_by (is_finished id) (heard_by calls) ≤ count_by (is_finished id) (heard_by (calls ++ call ∷ [])) = count_more id calls (call ∷ []) in
        omega (arith, was, more);
  }

  -- one by which a file left
  one_left : (old : ClerkState S) (calls : List UserCall) (indication : Indication) (c d : ClerkState S) → Tracks old calls c → d.own ≡ c.own → LeavesSent sent indication c d →
      ((name : List ℕ) → d.asked ≡ Some name → EndsWishing (calls ++ Hears indication ∷ []) name) →
      ((file : OpenFile) → Contains d.files file → IsAccepted (calls ++ Hears indication ∷ []) file.name.items file.id) → Tracks old (calls ++ Hears indication ∷ []) d
  one_left old calls indication c d k own leaves asked files =
      let more : List UserCall = Hears indication ∷ [] in
      let last : Left = record { name = leaves.file.name.items; id = leaves.file.id } in
      let is : indication ≡ Finished last.id no_error Complete Retained = leaves.told.1 in
      let all : heard_by (calls ++ more) ≡ heard_by calls ++ indication ∷ [] = heard_both calls more in
      let heard : Contains (heard_by calls ++ indication ∷ []) (Finished last.id no_error Complete Retained) =
      subst (λ (i : Indication). Contains (heard_by calls ++ indication ∷ []) i) is (Contains-push (heard_by calls) indication) in
      let now : WasSent old.own (calls ++ more) last = record {
        accepted = accepted_more calls more last.name last.id (k.files leaves.file leaves.was_open);
        told = (leaves.told.0 ∙ k.own, subst (λ (l : List Indication). Contains l (Finished last.id no_error Complete Retained)) (sym all) heard);
      } in
      record {
        own = own ∙ k.own;
        asked = asked;
        files = files;
        left = k.left ++ last ∷ [];
        gone =
            leaves.left ∙ ap (λ (l : List (List ℕ)). l ++ last.name ∷ []) k.gone ∙ append_assoc (sent old.spool) (names_of k.left) (last.name ∷ [])
            ∙ ap (λ (l : List (List ℕ)). sent old.spool ++ l) (sym (map-append (λ (l : Left). l.name) k.left (last ∷ [])));
        each = λ l has.
            ⊎_elim (λ was. sent_more old.own calls more l (k.each l was)) (λ same. subst (λ (x : Left). WasSent old.own (calls ++ more) x) same now) (Contains-push_cases k.left last l has);
        few = λ id.
            let was : of_id id k.left ≤ count_by (is_finished id) (heard_by calls) = k.few id in
            let one : of_id id (k.left ++ last ∷ []) ≡ of_id id k.left + of_id id (last ∷ []) = count_by-append (λ (l : Left). same_id l.id id) k.left (last ∷ []) in
            let told : count_by (is_finished id) (heard_by (calls ++ more)) ≡ count_by (is_finished id) (heard_by calls) + count_by (is_finished id) (indication ∷ []) =
            ap (count_by (is_finished id)) all ∙ finished-append id (heard_by calls) (indication ∷ []) in
            let both : count_by (is_finished id) (indication ∷ []) ≡ of_id id (last ∷ []) = ap (λ (i : Indication). count_by (is_finished id) (i ∷ [])) is in
            omega (arith, was, one, told, both);
      }

  -- ---- one call more
  tracks_more : (old : ClerkState S) (calls : List UserCall) (call : UserCall) (c d : ClerkState S) → Tracks old calls c → ClerkSteps sent failed c call d → Tracks old (calls ++ call ∷ []) d
  tracks_more old calls (Asks wish) c d k s =
      keeps_left old calls (Asks wish) c d k s.own s.does.0 (λ name is. record { front = calls; wish = wish; is = refl; wishes = s.does.2 name is })
      (λ file has. accepted_more calls _ _ _ (k.files file (s.does.1 file has)))
  tracks_more old calls (Answered reply) c d k s =
      keeps_left old calls (Answered reply) c d k s.own s.does.0 (none_asked _ d.asked s.does.1)
      (λ file has. ⊎_elim (λ was. accepted_more calls _ _ _ (k.files file was)) (λ now. now_accepted calls reply file.name.items file.id (k.asked file.name.items now.0) now.1) (s.does.2 file has))
  tracks_more old calls (Hears indication) c d k s = elim (s.does.2) [
    | inl same ↦
        keeps_left old calls (Hears indication) c d k s.own same (none_asked _ d.asked s.does.1) (λ file has. accepted_more calls _ _ _ (k.files file (s.does.0 file has)))
    | inr leaves ↦
        one_left old calls indication c d k s.own leaves (none_asked _ d.asked s.does.1) (λ file has. accepted_more calls _ _ _ (k.files file (s.does.0 file has)))
  ]
  tracks_more old calls (Intends intent) c d k s =
      keeps_left old calls (Intends intent) c d k s.own s.does.0 (none_asked _ d.asked s.does.2) (λ file has. accepted_more calls _ _ _ (k.files file (s.does.1 file has)))
  tracks_more old calls Ends c d k s =
      keeps_left old calls Ends c d k s.own s.does.0 (none_asked _ d.asked s.does.2) (λ file has. accepted_more calls _ _ _ (k.files file (s.does.1 file has)))

  -- ---- all of them
  tracks_chain : (old : ClerkState S) (before calls : List UserCall) (c d : ClerkState S) → Tracks old before c → Chain (ClerkSteps sent failed) calls c d → Tracks old (before ++ calls) d
  unfolding Chain
  tracks_chain old before [] c d k same = subst (λ l. Tracks old l d) (sym (append-nil before)) (subst (λ e. Tracks old before e) (sym same) k)
  tracks_chain old before (call ∷ calls) c d k (mid, (step, rest)) =
      subst (λ l. Tracks old l d) (append_assoc before (call ∷ []) calls) (tracks_chain old (before ++ call ∷ []) calls mid d (tracks_more old before call c mid k step) rest)

  none_held : (xs : List OpenFile) → xs ≡ [] → (file : OpenFile) → Contains xs file → IsAccepted [] file.name.items file.id
  none_held xs none file (k, few, is) = absurd (let many : k < length xs = few in let no : length xs ≡ 0 = ap length none in omega (arith, many, no))

  none_left : (own : ℕ) (l : Left) → Contains [] l → WasSent own [] l
  none_left own l (k, few, is) = absurd (omega (arith, few))

  pub tracks_all : (calls : List UserCall) (old new : ClerkState S) → Chain (ClerkSteps sent failed) calls old new → old.asked ≡ None → old.files ≡ [] → Tracks old calls new
  tracks_all calls old new chain asked files =
      let first : Tracks old [] old = record {
        own = refl;
        asked = none_asked [] old.asked asked;
        files = none_held old.files files;
        left = [];
        gone = sym (append-nil (sent old.spool));
        each = none_left old.own;
        few = λ id. omega arith;
      } in
      tracks_chain old [] calls old new first chain

-- What was finished once in all was finished once in the first of it.
pub once_first : (n : ℕ) (told : List Indication) → FinishedOnce told → (id : TransactionId) → count_by (is_finished id) (take n told) ≤ 1
once_first n told once id =
    let o : count_by (is_finished id) told ≤ 1 = once id in
    let all : count_by (is_finished id) told ≡ count_by (is_finished id) (take n told) + count_by (is_finished id) (drop n told) =
    ap (count_by (is_finished id)) (sym (take-append-drop n told)) ∙ finished-append id (take n told) (drop n told) in
    omega (arith, o, all)
