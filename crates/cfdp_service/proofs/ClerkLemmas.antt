-- What a clerk knows of the files of its spool, call by call.
use Rattle.std.proofs.Common.{◌≡◌, ◌⊎◌, ◌∙◌, ℕ, ◌<◌, List, [], ◌∷◌, ◌++◌, arith, cond, drop, length, take, Option, Some, None, Result, Ok, Err, IsTrue, inl, inr, refl, ap, subst, sym, ⊎_elim}
use Rattle.std.specs.Prelude.{◌+◌, Bool, true, false, not}
use Rattle.std.specs.List.{Contains}
use Rattle.std.proofs.lemmas.List.{append-nil, append_assoc, take-append-drop}
use Rattle.std.proofs.lemmas.List.Elements.{Contains-append_cases, Contains-append_left, Contains-append_right, Contains-push, Contains-push_cases}
use Rattle.std.proofs.lemmas.Grind.{flat_map-append}
use Rattle.cfdp_header.specs.declared.value.TransactionId.{TransactionId}
use Rattle.cfdp_directives.specs.declared.pdu.codes.Delivery.TheVariants.{Complete}
use Rattle.cfdp_directives.specs.declared.pdu.codes.FileStatus.TheVariants.{Retained}
use Rattle.cfdp_directives.specs.declared.user.indication.Indication.{Indication}
use Rattle.cfdp_directives.specs.declared.user.indication.Indication.TheVariants.{Finished}
use Rattle.cfdp_directives.specs.Pdu.Codes.{no_error}
use Rattle.cfdp_directives.specs.User.Completions.{IsToldComplete}
use Rattle.cfdp_service.specs.Calls.{UserCall, Asks, Answered, Hears, Intends, Ends, Chain, heard_by, heard_in}
use Rattle.cfdp_entity.specs.Table.{TableState}
use Rattle.cfdp_entity.specs.declared.error.PutError.{PutError}
use Rattle.cfdp_service.specs.Clerk.{ClerkState, ClerkSteps, EndsBy, FailsBy, KeepsFiles, Leaves, LeavesOpen, OpensNone, IsAccepted, IsDelivered, IsSentFile, Completes, LeavesSent, WishesAsked, WishesFile, asked_file}
use Rattle.cfdp_service.specs.Serving.{HearsGone}
use Rattle.cfdp_service.specs.declared.clerk.AskedPut.{AskedPut}
use Rattle.cfdp_service.specs.declared.clerk.OpenFile.{OpenFile}
use Rattle.cfdp_service.specs.declared.user.Intent.{Intent}
use Rattle.cfdp_service.specs.declared.wish.Reply.{Reply}
use Rattle.cfdp_service.specs.declared.wish.Reply.TheVariants as replies
use Rattle.cfdp_service.specs.declared.wish.Wish.{Wish}

-- ---- as more is called
pub accepted-more : (calls more : List UserCall) (name : List ℕ) (id : TransactionId) → IsAccepted calls name id → IsAccepted (calls ++ more) name id
accepted-more calls more name id a = record {
  before = a.before;
  behind = a.behind ++ more;
  wish = a.wish;
  is = ap (λ l. l ++ more) a.is ∙ append_assoc a.before (Asks a.wish ∷ Answered (replies.Put (Ok id)) ∷ a.behind) more;
  wishes = a.wishes;
}

heard-more : (own : ℕ) (calls more : List UserCall) (id : TransactionId) → IsToldComplete own (heard_by calls) id → IsToldComplete own (heard_by (calls ++ more)) id
heard-more own calls more id told = (
  told.0,
  subst (λ l. Contains l (Finished id no_error Complete Retained)) (sym (flat_map-append heard_in calls more)) (Contains-append_left (heard_by calls) (heard_by more) (Finished id no_error Complete Retained) told.1),
)

delivered-more : (own : ℕ) (calls more : List UserCall) (name : List ℕ) → IsDelivered own calls name → IsDelivered own (calls ++ more) name
delivered-more own calls more name d = record {
  id = d.id;
  accepted = accepted-more calls more name d.id d.accepted;
  told = heard-more own calls more d.id d.told;
}

-- ---- what is known
-- the last call wished for a put of this file
record EndsWishing (calls : List UserCall) (name : List ℕ) : Type 0 where
  pub front : List UserCall
  pub wish : Option Wish
  pub is : calls ≡ front ++ Asks wish ∷ []
  pub wishes : WishesFile name wish

module _ {S : Type 0} (sent failed : S → List (List ℕ)) where
  record Knows (old : ClerkState S) (calls : List UserCall) (c : ClerkState S) : Type 0 where
    pub own : c.own ≡ old.own
    pub asked : (name : List ℕ) → c.asked ≡ Some name → EndsWishing calls name
    pub files : (file : OpenFile) → Contains c.files file → IsAccepted calls file.name.items file.id
    pub left : (name : List ℕ) → Contains (sent c.spool) name → Contains (sent old.spool) name ⊎ IsDelivered old.own calls name

  -- what had left before
  left-more : (old : ClerkState S) (calls more : List UserCall) (c d : ClerkState S) → Knows old calls c → sent d.spool ≡ sent c.spool
      → (name : List ℕ) → Contains (sent d.spool) name → Contains (sent old.spool) name ⊎ IsDelivered old.own (calls ++ more) name
  left-more old calls more c d k same name has =
      ⊎_elim (λ before. inl before) (λ late. inr (delivered-more old.own calls more name late)) (k.left name (subst (λ l. Contains l name) same has))

  none-asked : (calls : List UserCall) (asked : Option (List ℕ)) → asked ≡ None → (name : List ℕ) → asked ≡ Some name → EndsWishing calls name
  none-asked calls asked none name some = cc

  -- the file whose put is answered now
  now-accepted : (calls : List UserCall) (reply : Reply) (name : List ℕ) (id : TransactionId) → EndsWishing calls name → reply ≡ replies.Put (Ok id)
      → IsAccepted (calls ++ Answered reply ∷ []) name id
  now-accepted calls reply name id ends is = record {
    before = ends.front;
    behind = [];
    wish = ends.wish;
    is = ap (λ l. l ++ Answered reply ∷ []) ends.is ∙ append_assoc ends.front (Asks ends.wish ∷ []) (Answered reply ∷ []) ∙ ap (λ r. ends.front ++ Asks ends.wish ∷ Answered r ∷ []) is;
    wishes = ends.wishes;
  }

  -- the file that leaves now
  now-left : (old : ClerkState S) (calls : List UserCall) (indication : Indication) (c d : ClerkState S) → Knows old calls c → LeavesSent sent indication c d
      → (name : List ℕ) → Contains (sent d.spool) name → Contains (sent old.spool) name ⊎ IsDelivered old.own (calls ++ Hears indication ∷ []) name
  now-left old calls indication c d k leaves name has =
      let more = Hears indication ∷ [] in
      let accepted = accepted-more calls more leaves.file.name.items leaves.file.id (k.files leaves.file leaves.was_open) in
      let heard = subst (λ i. Contains (heard_by calls ++ indication ∷ []) i) leaves.told.1 (Contains-push (heard_by calls) indication) in
      let told : IsToldComplete old.own (heard_by (calls ++ more)) leaves.file.id =
      (leaves.told.0 ∙ k.own, subst (λ l. Contains l (Finished leaves.file.id no_error Complete Retained)) (sym (flat_map-append heard_in calls more)) heard) in
      let delivered : IsDelivered old.own (calls ++ more) leaves.file.name.items = record { id = leaves.file.id; accepted = accepted; told = told } in
      ⊎_elim
      (λ before. ⊎_elim (λ b. inl b) (λ late. inr (delivered-more old.own calls more name late)) (k.left name before))
      (λ same. inr (subst (λ n. IsDelivered old.own (calls ++ more) n) same delivered))
      (Contains-push_cases (sent c.spool) leaves.file.name.items name (subst (λ l. Contains l name) leaves.left has))

  -- ---- one call more
  knows-more : (old : ClerkState S) (calls : List UserCall) (call : UserCall) (c d : ClerkState S) → Knows old calls c → ClerkSteps sent failed c call d → Knows old (calls ++ call ∷ []) d
  knows-more old calls (Asks wish) c d k s = record {
    own = s.own ∙ k.own;
    asked = λ name is. record { front = calls; wish = wish; is = refl; wishes = s.does.2 name is };
    files = λ file has. accepted-more calls _ _ _ (k.files file (s.does.1 file has));
    left = left-more old calls _ c d k s.does.0;
  }
  knows-more old calls (Answered reply) c d k s = record {
    own = s.own ∙ k.own;
    asked = none-asked _ d.asked s.does.1;
    files = λ file has. ⊎_elim (λ was. accepted-more calls _ _ _ (k.files file was)) (λ now. now-accepted calls reply file.name.items file.id (k.asked file.name.items now.0) now.1) (s.does.2 file has);
    left = left-more old calls _ c d k s.does.0;
  }
  knows-more old calls (Hears indication) c d k s = record {
    own = s.own ∙ k.own;
    asked = none-asked _ d.asked s.does.1;
    files = λ file has. accepted-more calls _ _ _ (k.files file (s.does.0 file has));
    left = λ name has. ⊎_elim (λ same. left-more old calls _ c d k same name has) (λ leaves. now-left old calls indication c d k leaves name has) s.does.2;
  }
  knows-more old calls (Intends intent) c d k s = record {
    own = s.own ∙ k.own;
    asked = none-asked _ d.asked s.does.2;
    files = λ file has. accepted-more calls _ _ _ (k.files file (s.does.1 file has));
    left = left-more old calls _ c d k s.does.0;
  }
  knows-more old calls Ends c d k s = record {
    own = s.own ∙ k.own;
    asked = none-asked _ d.asked s.does.2;
    files = λ file has. accepted-more calls _ _ _ (k.files file (s.does.1 file has));
    left = left-more old calls _ c d k s.does.0;
  }

  -- ---- all of them
  knows-chain : (old : ClerkState S) (before calls : List UserCall) (c d : ClerkState S) → Knows old before c → Chain (ClerkSteps sent failed) calls c d → Knows old (before ++ calls) d
  unfolding Chain
  knows-chain old before [] c d k same = subst (λ l. Knows old l d) (sym (append-nil before)) (subst (λ e. Knows old before e) (sym same) k)
  knows-chain old before (call ∷ calls) c d k (mid, (step, rest)) =
      subst (λ l. Knows old l d) (append_assoc before (call ∷ []) calls) (knows-chain old (before ++ call ∷ []) calls mid d (knows-more old before call c mid k step) rest)

  none-held : (xs : List OpenFile) → xs ≡ [] → (file : OpenFile) → Contains xs file → IsAccepted [] file.name.items file.id
  none-held xs none file (k, few, is) = absurd (let many : k < length xs = few in let no : length xs ≡ 0 = ap length none in omega (arith, many, no))

  pub what-left : (calls : List UserCall) (old new : ClerkState S) → Chain (ClerkSteps sent failed) calls old new → old.asked ≡ None → old.files ≡ []
      → (name : List ℕ) → Contains (sent new.spool) name → Contains (sent old.spool) name ⊎ IsDelivered old.own calls name
  what-left calls old new chain asked files =
      let first : Knows old [] old = record {
        own = refl;
        asked = none-asked [] old.asked asked;
        files = none-held old.files files;
        left = λ name has. inl has;
      } in
      (knows-chain old [] calls old new first chain).left

-- ---- what the station indicated
pub told-gone : (own : ℕ) (calls : List UserCall) (table : TableState) (id : TransactionId) → HearsGone calls table → IsToldComplete own (heard_by calls) id → IsToldComplete own table.told id
told-gone own calls table id hears told = (
  told.0,
  subst (λ l. Contains l (Finished id no_error Complete Retained)) (take-append-drop table.gone table.told)
      (Contains-append_left (take table.gone table.told) (drop table.gone table.told) (Finished id no_error Complete Retained) (subst (λ l. Contains l (Finished id no_error Complete Retained)) hears.heard told.1)),
)

pub sent-told : {S : Type 0} (sent failed : S → List (List ℕ)) (calls : List UserCall) (old new : ClerkState S) (table : TableState) → HearsGone calls table
    → Chain (ClerkSteps sent failed) calls old new → old.asked ≡ None → old.files ≡ []
    → (name : List ℕ) → Contains (sent new.spool) name → Contains (sent old.spool) name ⊎ IsSentFile old.own calls table.told name
sent-told sent failed calls old new table hears chain asked files name has =
    ⊎_elim (λ before. inl before) (λ (d : IsDelivered old.own calls name). inr (record { id = d.id; accepted = d.accepted; complete = told-gone old.own calls table d.id hears d.told }))
    (what-left sent failed calls old new chain asked files name has)

-- ---- steps
-- nothing is done with files
pub rests-steps : {S : Type 0} (sent failed : S → List (List ℕ)) (old new : ClerkState S) (intent : Intent) → new ≡ record old { asked = None }
    → ClerkSteps sent failed old (Intends intent) new
rests-steps sent failed old new intent same = record {
  does = (ap (λ (c : ClerkState _). sent c.spool) same, (λ file has. subst (λ (c : ClerkState _). Contains c.files file) same has), ap (λ (c : ClerkState _). c.asked) same);
  fails = ap (λ (c : ClerkState _). failed c.spool) same;
  own = ap (λ (c : ClerkState _). c.own) same;
}

pub ends-steps : {S : Type 0} (sent failed : S → List (List ℕ)) (old new : ClerkState S) → new ≡ record old { asked = None } → ClerkSteps sent failed old Ends new
ends-steps sent failed old new same = record {
  does = (ap (λ (c : ClerkState _). sent c.spool) same, (λ file has. subst (λ (c : ClerkState _). Contains c.files file) same has), ap (λ (c : ClerkState _). c.asked) same);
  fails = ap (λ (c : ClerkState _). failed c.spool) same;
  own = ap (λ (c : ClerkState _). c.own) same;
}

-- ---- lists
-- a file that was added, or not
pub added : (b : Bool) (xs ys : List OpenFile) (x file : OpenFile) → ys ≡ cond b (xs ++ x ∷ []) xs → Contains ys file → Contains xs file ⊎ (x ≡ file)
added true xs ys x file is has = Contains-push_cases xs x file (subst (λ l. Contains l file) is has)
added false xs ys x file is has = inl (subst (λ l. Contains l file) is has)

-- what is left once one was taken
pub left-was : (xs ys : List OpenFile) (i : ℕ) (file : OpenFile) → ys ≡ take i xs ++ drop (i + 1) xs → Contains ys file → Contains xs file
left-was xs ys i file is has =
    ⊎_elim
    (λ front. subst (λ l. Contains l file) (take-append-drop i xs) (Contains-append_left (take i xs) (drop i xs) file front))
    (λ behind. subst (λ l. Contains l file) (take-append-drop (i + 1) xs) (Contains-append_right (take (i + 1) xs) (drop (i + 1) xs) file behind))
    (Contains-append_cases (take i xs) (drop (i + 1) xs) file (subst (λ l. Contains l file) is has))

-- ---- calls of a clerk, from what its own functions do
file-asked : (asked : Option AskedPut) (put : AskedPut) (name : List ℕ) → asked ≡ Some put → put.is_file ≡ true → put.names.source.items ≡ name → asked_file asked ≡ Some name
file-asked asked put name is file source =
    ap asked_file is ∙ ap (λ (b : Bool). cond b (Some put.names.source.items) None) file ∙ ap (λ l. Some l) source

not-both : (b : Bool) → IsTrue b → IsTrue (not b) → ⊥
not-both true is isnt = cc
not-both false is isnt = cc

module _ {S : Type 0} (sent failed : S → List (List ℕ)) where
  -- what was there before it forgot its last wish
  was-gone : (gone : S → List (List ℕ)) (old mid : ClerkState S) → mid ≡ record old { asked = None } → gone mid.spool ≡ gone old.spool
  was-gone gone old mid same = ap (λ (c : ClerkState S). gone c.spool) same

  was-open : (old mid : ClerkState S) (file : OpenFile) → mid ≡ record old { asked = None } → Contains mid.files file → Contains old.files file
  was-open old mid file same has = subst (λ (c : ClerkState S). Contains c.files file) same has

  pub asks-steps : (old mid new : ClerkState S) (wish : Option Wish) → mid ≡ record old { asked = None } → new.own ≡ mid.own → new.files ≡ mid.files
      → KeepsFiles sent mid new → KeepsFiles failed mid new → WishesAsked new.asked wish → ClerkSteps sent failed old (Asks wish) new
  asks-steps old mid new wish same own files left kept asked = record {
    does = (left ∙ was-gone sent old mid same, (λ file has. was-open old mid file same (subst (λ l. Contains l file) files has)), asked);
    fails = kept ∙ was-gone failed old mid same;
    own = own ∙ ap (λ (c : ClerkState S). c.own) same;
  }

  -- another wish, or none
  pub asks-none : (old new : ClerkState S) (wish : Option Wish) → new ≡ record old { asked = None } → ClerkSteps sent failed old (Asks wish) new
  asks-none old new wish same = asks-steps old new new wish same refl refl refl refl (λ name is. let none : new.asked ≡ None = ap (λ (c : ClerkState S). c.asked) same in cc)

  -- an answer by which no put of a file is opened
  pub answered-none : (old mid new : ClerkState S) (reply : Reply) → mid ≡ record old { asked = None } → new.own ≡ mid.own → new.asked ≡ mid.asked → new.files ≡ mid.files
      → KeepsFiles sent mid new → FailsBy failed old (Answered reply) new → ClerkSteps sent failed old (Answered reply) new
  answered-none old mid new reply same own asked files left fails = record {
    does = (left ∙ was-gone sent old mid same, asked ∙ ap (λ (c : ClerkState S). c.asked) same, (λ file has. inl (was-open old mid file same (subst (λ l. Contains l file) files has))));
    fails = fails;
    own = own ∙ ap (λ (c : ClerkState S). c.own) same;
  }

  -- nothing left
  pub fails-none : (old mid new : ClerkState S) (reply : Reply) → mid ≡ record old { asked = None } → KeepsFiles failed mid new → FailsBy failed old (Answered reply) new
  fails-none old mid new reply same kept = inl (kept ∙ was-gone failed old mid same)

  -- the file whose put was refused left, if there was one
  pub fails-refused : (old mid new : ClerkState S) (asked : Option AskedPut) (put : AskedPut) (answer : Result TransactionId PutError) (reply : Reply) (by : PutError)
      → mid ≡ record old { asked = None } → old.asked ≡ asked_file asked → asked ≡ Some put → reply ≡ replies.Put answer → answer ≡ Err by
      → KeepsFiles failed mid new ⊎ (IsTrue put.is_file × Leaves failed put.names.source.items mid new) → FailsBy failed old (Answered reply) new
  fails-refused old mid new asked put answer reply by same was is said refused left =
      let name = put.names.source.items in
      ⊎_elim (λ kept. inl (kept ∙ was-gone failed old mid same))
      (λ gone. inr (record {
        name = name;
        by = by;
        asked = was ∙ file-asked asked put name is gone.0 refl;
        refused = said ∙ ap (λ a. replies.Put a) refused;
        leaves = gone.1 ∙ ap (λ l. l ++ (name ∷ [])) (was-gone failed old mid same);
      })) left

  -- a put was accepted
  pub answered-file : (old mid new : ClerkState S) (asked : Option AskedPut) (put : AskedPut) (answer : Result TransactionId PutError) (reply : Reply) (id : TransactionId)
      → mid ≡ record old { asked = None } → old.asked ≡ asked_file asked → asked ≡ Some put → reply ≡ replies.Put answer → answer ≡ Ok id
      → new.own ≡ mid.own → new.asked ≡ mid.asked → KeepsFiles sent mid new → KeepsFiles failed mid new
      → ((file : OpenFile) → Contains new.files file → Contains mid.files file ⊎ (IsTrue put.is_file × (put.names.source.items ≡ file.name.items) × (file.id ≡ id)))
      → ClerkSteps sent failed old (Answered reply) new
  answered-file old mid new asked put answer reply id same was is said ok own none left kept files = record {
    does = (
      left ∙ was-gone sent old mid same,
      none ∙ ap (λ (c : ClerkState S). c.asked) same,
      λ file has. ⊎_elim (λ before. inl (was-open old mid file same before))
          (λ now. inr (was ∙ file-asked asked put file.name.items is now.0 now.1, said ∙ ap (λ a. replies.Put a) ok ∙ ap (λ i. replies.Put (Ok i)) (sym now.2)))
          (files file has),
    );
    fails = inl (kept ∙ was-gone failed old mid same);
    own = own ∙ ap (λ (c : ClerkState S). c.own) same;
  }

  -- an indication that ends nothing
  pub hears-none : (old new : ClerkState S) (indication : Indication) → new ≡ record old { asked = None } → ClerkSteps sent failed old (Hears indication) new
  hears-none old new indication same = record {
    does = ((λ file has. was-open old new file same has), ap (λ (c : ClerkState S). c.asked) same, inl (was-gone sent old new same));
    fails = inl (was-gone failed old new same);
    own = ap (λ (c : ClerkState S). c.own) same;
  }

  -- one by which a transaction is over
  pub hears-over : (old mid new : ClerkState S) (indication : Indication) (id : TransactionId) (complete : Bool) → EndsBy id indication
      → mid ≡ record old { asked = None } → new.own ≡ mid.own → new.asked ≡ mid.asked → OpensNone sent mid new
      → KeepsFiles sent mid new ⊎ (IsTrue complete × LeavesOpen sent id mid new)
      → KeepsFiles failed mid new ⊎ (IsTrue (not complete) × LeavesOpen failed id mid new)
      → (IsTrue complete → Completes mid.own id indication) → (Completes mid.own id indication → IsTrue complete)
      → ClerkSteps sent failed old (Hears indication) new
  hears-over old mid new indication id complete ends same own asked opens left failing completes all = record {
    does = (
      (λ file has. was-open old mid file same (opens file has)),
      asked ∙ ap (λ (c : ClerkState S). c.asked) same,
      ⊎_elim (λ keeps. inl (keeps ∙ was-gone sent old mid same))
          (λ over. inr (leaves over.1.0 over.0 over.1.1 over.1.2 over.1.3)) left,
    );
    fails = ⊎_elim (λ keeps. inl (keeps ∙ was-gone failed old mid same)) (λ over. inr (record {
      id = id;
      over = ends;
      fails = λ told. not-both complete (all (told.0 ∙ sym mine, told.1)) over.0;
      leaves = (over.1.0, was-open old mid over.1.0 same over.1.1, over.1.2, over.1.3 ∙ ap (λ l. l ++ (over.1.0.name.items ∷ [])) (was-gone failed old mid same));
    })) failing;
    own = own ∙ mine;
  }
    where
      mine : mid.own ≡ old.own
      mine = ap (λ (c : ClerkState S). c.own) same

      leaves : (file : OpenFile) → IsTrue complete → Contains mid.files file → file.id ≡ id → sent new.spool ≡ sent mid.spool ++ (file.name.items ∷ []) → LeavesSent sent indication old new
      leaves file so has is gone =
          let told = completes so in
          record {
            file = file;
            was_open = was-open old mid file same has;
            told = (ap (λ (i : TransactionId). i.source) is ∙ told.0 ∙ mine, told.1 ∙ ap (λ (i : TransactionId). Finished i no_error Complete Retained) (sym is));
            left = gone ∙ ap (λ l. l ++ (file.name.items ∷ [])) (was-gone sent old mid same);
          }
