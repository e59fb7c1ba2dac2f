-- A file that left its spool as sent lies in the inbox of the other station.
use Rattle.std.proofs.Common.{◌≡◌, Bool, ℕ, zero, suc, ◌+◌, ◌<◌, ◌≤◌, true, cond, Option, Some, None, List, [], ◌∷◌, ◌++◌, length, map, refl, sym, ap, ap₂, subst, ◌∙◌, inl, inr, arith, append-nil, append_assoc}
use Rattle.std.specs.Prelude.{Contains, count_by}
use Rattle.std.specs.FinMap.{get, insert, get-insert, slice_cmp-IsAntisymmetric, nat_cmp-IsAntisymmetric}
use Rattle.std.specs.Ordering.{nat_cmp, is_eq, eq_by_cmp}
use Rattle.std.specs.declared.cmp.Ordering.{Ordering}
use Rattle.std.specs.declared.cmp.Ordering.TheVariants.{Less, Equal, Greater}
use Rattle.std.proofs.lemmas.Bool.{false≢true}
use Rattle.std.specs.Cmp.Lexicographic.{slice_cmp}
use Rattle.std.proofs.lemmas.Bool.{cases_Bool}
use Rattle.std.proofs.lemmas.Cmp.{eq_by_cmp_equiv, nat_list_cmp_total}
use Rattle.std.proofs.lemmas.List.Elements.{Contains-append_left, Contains-append_right}
use Rattle.cfdp_header.specs.declared.value.TransactionId.{TransactionId}
use Rattle.cfdp_header.specs.Files.{FileMap}
use Rattle.cfdp_header.specs.Ids.{same_id}
use Rattle.cfdp_directives.specs.declared.user.indication.Indication.{Indication}
use Rattle.cfdp_directives.specs.User.Completions.{FinishedOnce, IsToldComplete, completions, is_finished}
use Rattle.cfdp_directives.specs.User.Put.{Put, inbox_after, overwritten}
use Rattle.cfdp_directives.proofs.Puts.{count_by-append, inbox_after-append}
use Rattle.cfdp_entity.specs.Sound.{FindsById}
use Rattle.cfdp_entity.specs.Table.{TableState}
use Rattle.cfdp_station.specs.Station.{StationState}
use Rattle.cfdp_station.specs.Transmitting.{Times}
use Rattle.any_order.specs.Calls.{AreJoined, Setup, Side, at, other, setup_of}
use Rattle.any_order.specs.Kept.{IsOf}
use Rattle.any_order.specs.Promise.{found}
use Rattle.any_order.proofs.Puts.{finds_by_id}
use Rattle.cfdp_port.specs.Calls.{WireCall}
use Rattle.cfdp_port.specs.Port.{table_of}
use Rattle.cfdp_service.specs.Calls.{Asks, Chain, heard_by}
use Rattle.cfdp_service.specs.Clerk.{ClerkState, ClerkSteps, IsAccepted}
use Rattle.promises.specs.Promise.{AreDelivered, IsSent, Lies, completed_by, own_of, told_by}
use Rattle.promises.specs.Serving.{InboxLife, Stations, inboxes, served_at}
use Rattle.promises.proofs.Standing.{Goes, HaveServed, KeepPromise}
use Rattle.promises.proofs.Calling.{IsPut, accepts_put}
use Rattle.promises.proofs.Doing.{AllLaws}
use Rattle.promises.proofs.Inboxing.{all_told, in_one}
use Rattle.promises.proofs.Knowing.{AreKnown, Known, delivered, served_known, went_known, went_sent}
use Rattle.promises.proofs.Promising.{AreHeld, folded_so, held_at, held_keeps, inboxed_so, own_so}
use Rattle.promises.proofs.Sending.{Left, Tracks, WasSent, names_of, of_id, once_first, tracks_all}

-- ---- lists
split : {X : Type 0} (xs : List X) (x : X) → Contains xs x → (before : List X) × (behind : List X) × (xs ≡ before ++ x ∷ behind)
split [] x (k, low, e) = absurd (omega (arith, low))
split (y ∷ xs) x (zero, low, e) = ([], xs, ap (λ z. z ∷ xs) e)
split (y ∷ xs) x (suc k, low, e) = let r = split xs x (k, omega (arith, low), e) in (y ∷ r.0, r.1, ap (λ l. y ∷ l) r.2)

here : {X : Type 0} (xs : List X) (x : X) → Contains (xs ++ x ∷ []) x
here xs x = Contains-append_right xs (x ∷ []) x (0, omega arith, refl)

-- ---- names
compares : (o : Ordering) → is_eq o ≡ true → o ≡ Equal
compares Less e = absurd (false≢true e)
compares Equal e = refl
compares Greater e = absurd (false≢true e)

same_name : (a b : List ℕ) → eq_by_cmp (slice_cmp nat_cmp) a b ≡ true → a ≡ b
same_name a b e = slice_cmp-IsAntisymmetric nat_cmp-IsAntisymmetric a b (compares (slice_cmp nat_cmp a b) e)

-- ---- an inbox, as more is completed
get_same : (files : FileMap) (name octets : List ℕ) → get (insert files name octets) name ≡ Some octets
get_same files name octets = get-insert nat_list_cmp_total files name octets name
    ∙ ap (λ b. cond b (Some octets) (get files name)) ((eq_by_cmp_equiv nat_list_cmp_total).refl name)

module _ (p : TransactionId → Option Put) (by_id : FindsById p) (name : List ℕ) where
  -- Under a name lies the file of one of these puts, which has that name.
  record HasFile (files : FileMap) (ids : List TransactionId) : Type 0 where
    pub last : Put
    pub among : Contains ids last.id
    pub is_put : p last.id ≡ Some last
    pub name_is : last.destination ≡ name
    pub file : get files name ≡ Some last.octets

  has_more : (files now : FileMap) (ids more : List TransactionId) → get now name ≡ get files name → HasFile files ids → HasFile now (ids ++ more)
  has_more files now ids more same h = record { last = h.last; among = Contains-append_left ids more h.last.id h.among; is_put = h.is_put; name_is = h.name_is; file = same ∙ h.file }

  over_put : (files : FileMap) (ids : List TransactionId) (id : TransactionId) (q : Put) → p id ≡ Some q → HasFile files ids → HasFile (insert files q.destination q.octets) (ids ++ id ∷ [])
  over_put files ids id q is h = elim (cases_Bool (eq_by_cmp (slice_cmp nat_cmp) name q.destination)) [
    | inl same ↦
        let its : q.destination ≡ name = sym (same_name name q.destination same) in
        record {
          last = q;
          among = subst (λ (i : TransactionId). Contains (ids ++ id ∷ []) i) (sym (by_id id q is)) (here ids id);
          is_put = ap p (by_id id q is) ∙ is;
          name_is = its;
          file = ap (λ n. get (insert files q.destination q.octets) n) (sym its) ∙ get_same files q.destination q.octets;
        }
    | inr apart ↦
        has_more files (insert files q.destination q.octets) ids (id ∷ [])
        (get-insert nat_list_cmp_total files q.destination q.octets name ∙ ap (λ b. cond b (Some q.octets) (get files name)) apart) h
  ]

  over_one : (files : FileMap) (ids : List TransactionId) (id : TransactionId) → HasFile files ids → HasFile (overwritten files (p id)) (ids ++ id ∷ [])
  over_one files ids id h = by (p id) refl
    where
      by : (o : Option Put) → p id ≡ o → HasFile (overwritten files o) (ids ++ id ∷ [])
      by None is = has_more files files ids (id ∷ []) refl h
      by (Some q) is = over_put files ids id q is h

  over_all : (behind : List TransactionId) (files : FileMap) (ids : List TransactionId) → HasFile files ids → HasFile (inbox_after p files behind) (ids ++ behind)
  over_all [] files ids h = subst (λ (l : List TransactionId). HasFile files l) (sym (append-nil ids)) h
  over_all (id ∷ behind) files ids h =
      subst (λ (l : List TransactionId). HasFile (inbox_after p (overwritten files (p id)) behind) l) (append_assoc ids (id ∷ []) behind)
      (over_all behind (overwritten files (p id)) (ids ++ id ∷ []) (over_one files ids id h))

-- the file of a put that was completed lies there, or a later one of its name
lies_so : (p : TransactionId → Option Put) (by_id : FindsById p) (first : FileMap) (before behind : List TransactionId) (put : Put) → p put.id ≡ Some put →
    HasFile p by_id put.destination (inbox_after p first (before ++ put.id ∷ behind)) (put.id ∷ behind)
lies_so p by_id first before behind put is =
    let mid : FileMap = inbox_after p first before in
    let now : HasFile p by_id put.destination (overwritten mid (p put.id)) (put.id ∷ []) = record {
      last = put;
      among = (0, omega arith, refl);
      is_put = is;
      name_is = refl;
      file = ap (λ o. get (overwritten mid o) put.destination) is ∙ get_same mid put.destination put.octets;
    } in
    subst (λ (f : FileMap). HasFile p by_id put.destination f (put.id ∷ behind)) (sym (inbox_after-append p first before (put.id ∷ behind)))
    (over_all p by_id put.destination behind (overwritten mid (p put.id)) (put.id ∷ []) now)

-- ---- what was sent lies there
-- What a station indicated complete as a sender, the other one has completed.
pub sent_done : (all : AllLaws) (c : Setup) (joined : AreJoined c) (w : Stations) (h : AreHeld c w) (files : Side → FileMap) (s : Side) (id : TransactionId) → IsToldComplete (own_of (served_at s w)) (told_by (served_at s w)) id →
    Contains (completed_by (served_at (other s) w)) id
sent_done all c joined w h files s id is_told =
    let k : KeepPromise c files w = held_keeps all c joined w h files in
    let mine : IsOf (served_at s w).kept (at s k.now) = k.is s in
    let its : IsOf (served_at (other s) w).kept (at (other s) k.now) = k.is (other s) in
    let told = subst (λ (x : StationState × List Indication). (id.source ≡ x.0.entity.state.config.entity) × Contains (x.1 ++ x.0.entity.state.table.told) (delivered id))
    (λ i. (sym mine.station i, sym mine.told i)) is_told in
    let done = (k.told s id told).completed in
    subst (λ (x : StationState × List Indication). Contains (completions x.0.entity.state.config.entity (x.1 ++ x.0.entity.state.table.told)) id) (λ i. (its.station i, its.told i)) done

-- The file of a put that a station completed lies in its inbox, as `Lies` says.
pub done_lies : (all : AllLaws) (c : Setup) (joined : AreJoined c) (w : Stations) (h : AreHeld c w) (s : Side) (put : Put) → found w.puts put.id ≡ Some put → Contains (completed_by (served_at s w)) put.id → Lies s put w
done_lies all c joined w h s put is_put there =
    let own : ℕ = own_of (served_at s w) in
    let all_lives = all_told own w.puts (served_at s w) (inboxed_so all c joined w h s) in
    let one = in_one own (inboxes (served_at s w)) put.id (subst (λ (l : List Indication). Contains (completions own l) put.id) (sym all_lives) there) in
    let l : InboxLife = one.0 in
    let parts = split (completions own l.told) put.id one.2 in
    let has : HasFile (found w.puts) (finds_by_id w.puts) put.destination (inbox_after (found w.puts) l.begun (parts.0 ++ put.id ∷ parts.1)) (put.id ∷ parts.1) =
    lies_so (found w.puts) (finds_by_id w.puts) l.begun parts.0 parts.1 put is_put in
    record {
      life = l;
      one_of = one.1;
      before = parts.0;
      behind = parts.1;
      is = parts.2;
      last = has.last;
      among = has.among;
      is_put = has.is_put;
      name = has.name_is;
      file = ap (λ (f : FileMap). get f put.destination) (folded_so all c joined w h s l one.1 ∙ ap (λ (ids : List TransactionId). inbox_after (found w.puts) l.begun ids) parts.2) ∙ has.file;
    }

sent_lies : (all : AllLaws) (c : Setup) (joined : AreJoined c) (w : Stations) (h : AreHeld c w) (files : Side → FileMap) (s : Side) (name : List ℕ) (put : Put) → IsSent s name put w → Lies (other s) put w
sent_lies all c joined w h files s name put sent = done_lies all c joined w h (other s) put sent.is_put (sent_done all c joined w h files s put.id sent.told)

-- ---- what left the spool
-- Puts of what left, in order, each of its transaction, for which this holds.
pub record PutsOf (P : Put → Type 0) (left : List Left) : Type 0 where
  pub puts : List Put
  pub named : map (λ (put : Put). put.source) puts ≡ names_of left
  pub counted : (id : TransactionId) → count_by (λ (put : Put). same_id put.id id) puts ≡ of_id id left
  pub each : (put : Put) → Contains puts put → P put

-- A put of one that left.
pub record PutOf (P : Put → Type 0) (l : Left) : Type 0 where
  pub put : Put
  pub source : put.source ≡ l.name
  pub its_id : put.id ≡ l.id
  pub holds : P put

count_first : {X : Type 0} (p : X → Bool) (x : X) (xs : List X) → count_by p (x ∷ xs) ≡ cond (p x) 1 0 + count_by p xs
count_first p x xs = count_by-append p (x ∷ []) xs ∙ omega arith

pub all_puts : (P : Put → Type 0) (left : List Left) → ((l : Left) → Contains left l → PutOf P l) → PutsOf P left
all_puts P [] each = record { puts = []; named = refl; counted = λ id. refl; each = λ put has. absurd (none put has) }
  where
    none : (put : Put) → Contains [] put → ⊥
    none put (k, low, e) = omega (arith, low)
all_puts P (l ∷ left) each =
    let one : PutOf P l = each l (0, omega arith, refl) in
    let rest : PutsOf P left = all_puts P left (λ x has. each x (suc has.0, (let k = has.0 in let low : k < length left = has.1 in omega (arith, low)), has.2)) in
    record {
      puts = one.put ∷ rest.puts;
      named = ap₂ (λ (n : List ℕ) (ns : List (List ℕ)). n ∷ ns) one.source rest.named;
      counted = λ id.
          count_first (λ (put : Put). same_id put.id id) one.put rest.puts ∙ ap₂ (λ (i : TransactionId) (n : ℕ). cond (same_id i id) 1 0 + n) one.its_id (rest.counted id)
          ∙ sym (count_first (λ (x : Left). same_id x.id id) l left);
      each = either one rest;
    }
  where
    either : (one : PutOf P l) (rest : PutsOf P left) (put : Put) → Contains (one.put ∷ rest.puts) put → P put
    either one rest put (zero, low, e) = subst P e one.holds
    either one rest put (suc k, low, e) = rest.each put (k, omega (arith, low), e)

module _ {W : Type 0} (Steps : W → WireCall → W → Type 0) (all : AllLaws) (c : Setup) (joined : AreJoined c) where
  -- a put that was wished and accepted in this life, and indicated complete
  abbrev SentBy : Stations → Side → Put → Type 0
  SentBy mid s put = IsSent s put.source put mid × IsAccepted (served_at s mid).calls put.source put.id

  was_sent : (mid : Stations) (s : Side) (own : ℕ) (l : Left) → AreKnown c mid → WasSent own (served_at s mid).calls l → PutOf (SentBy mid s) l
  was_sent mid s own l k d =
      let a = d.accepted in
      let names = a.wishes.names in
      let known : Known (setup_of s c).entity.entity mid.puts (served_at s mid) = k.known s in
      let it : IsPut (setup_of s c).entity.entity mid.puts names l.id =
      known.are a.before a.behind names l.id (a.is ∙ ap (λ w. a.before ++ Asks w ∷ accepts_put l.id ∷ a.behind) a.wishes.is) in
      record {
        put = it.put;
        source = it.source ∙ a.wishes.source;
        its_id = it.its_id;
        holds = (
          record {
            is_put = ap (λ i. found mid.puts i) it.its_id ∙ it.is_put;
            source = refl;
            destination = it.destination ∙ a.wishes.destination ∙ sym (it.source ∙ a.wishes.source);
            told = (
              ap (λ i. i.source) it.its_id ∙ it.of_own ∙ sym (own_so c s mid k.held),
              subst (λ (i : TransactionId). Contains (told_by (served_at s mid)) (delivered i)) (sym it.its_id) (known.told (delivered l.id) d.told.1),
            );
          },
          subst (λ (n : List ℕ). IsAccepted (served_at s mid).calls n it.put.id) (sym (it.source ∙ a.wishes.source))
              (subst (λ (i : TransactionId). IsAccepted (served_at s mid).calls l.name i) (sym it.its_id) a),
        );
      }

  -- no transaction was heard finished twice in this life
  heard_once : (mid : Stations) (s : Side) → AreKnown c mid → (id : TransactionId) → count_by (is_finished id) (heard_by (served_at s mid).calls) ≤ 1
  heard_once mid s k id =
      let t : TableState = table_of (served_at s mid).kept.station in
      let from = held_at c mid s k.held in
      let once : FinishedOnce t.told = subst (λ (x : StationState). FinishedOnce (table_of x).told) from.of_mine.station (λ i. let o = from.kept_mine.entity.once.once i in omega (arith, o)) in
      subst (λ (l : List Indication). count_by (is_finished id) l ≤ 1) (sym (k.known s).gone.heard) (once_first t.gone t.told once id)

  pub spooled : {S : Type 0} (sent failed : S → List (List ℕ)) (files : Side → FileMap) (mid now : Stations) (more : ℕ) → HaveServed Steps c files mid →
      Times (Goes Steps c) more mid now → (s : Side) (old new : ClerkState S) → Chain (ClerkSteps sent failed) (served_at s mid).calls old new → old.asked ≡ None → old.files ≡ [] →
      (left : List (List ℕ)) × (sent new.spool ≡ sent old.spool ++ left) × AreDelivered s (served_at s mid).calls left now
  spooled sent failed files mid now more served went s old new chain asked none =
      let k : AreKnown c mid = served_known Steps all c joined files mid served in
      let then : AreKnown c now = went_known Steps all c joined more mid now went k in
      let t : Tracks sent failed old (served_at s mid).calls new = tracks_all sent failed (served_at s mid).calls old new chain asked none in
      let puts : PutsOf (SentBy mid s) t.left = all_puts (SentBy mid s) t.left (λ l has. was_sent mid s old.own l k (t.each l has)) in
      let still : (put : Put) → Contains puts.puts put → IsSent s put.source put now =
      (λ (put : Put) (has : Contains puts.puts put). went_sent Steps all c joined s put.source put more mid now went k.held (puts.each put has).0) in (
        names_of t.left,
        t.gone,
        record {
          puts = puts.puts;
          named = puts.named;
          apart = λ id.
              let same : count_by (λ (put : Put). same_id put.id id) puts.puts ≡ of_id id t.left = puts.counted id in
              let few : of_id id t.left ≤ count_by (is_finished id) (heard_by (served_at s mid).calls) = t.few id in
              let once : count_by (is_finished id) (heard_by (served_at s mid).calls) ≤ 1 = heard_once mid s k id in
              omega (arith, same, few, once);
          accepted = λ put has. (puts.each put has).1;
          sent = still;
          lie = λ put has. sent_lies all c joined now then.held files s put.source put (still put has);
        },
      )
