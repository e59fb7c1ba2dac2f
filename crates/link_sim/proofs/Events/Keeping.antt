-- What every event keeps of two stations, and the promises that follow: from the laws of an entity,
-- and from what the steps do to the two directions.
use Rattle.std.proofs.Common.{◌≡◌, ℕ, zero, suc, ◌<◌, ◌≤◌, List, [], ◌∷◌, ◌++◌, ◌⊎◌, length, Option, refl, sym, ap, subst, ◌∙◌, inl, inr, arith}
use Rattle.std.specs.Prelude.{Contains, count_by}
use Rattle.cfdp_header.specs.declared.value.Header.{Header}
use Rattle.cfdp_header.specs.declared.value.TransactionId.{TransactionId}
use Rattle.cfdp_header.specs.Files.{FileMap}
use Rattle.cfdp_directives.specs.declared.user.indication.Indication.{Indication}
use Rattle.cfdp_directives.specs.User.Completions.{completions, is_finished, IsToldComplete}
use Rattle.cfdp_directives.specs.Pdu.Content.{Content, FileData, Metadata, Eof, Finished, Ack, Nak, Prompt, KeepAlive}
use Rattle.cfdp_directives.specs.Pdu.Grammar.{SpellsPdu}
use Rattle.cfdp_directives.specs.User.Put.{Put, SaysTruth, IsOfPut, SaysComplete, SomePdu, HeardInFull, inbox_after}
use Rattle.cfdp_directives.proofs.Puts.{completions-append, inbox_after-append, Contains-append_left, Contains-append_right}
use Rattle.mpdu.specs.Parts.{IsPartOf}
use Rattle.cfdp_entity.specs.Entity.{EntityState}
use Rattle.cfdp_entity.specs.Sound.{IsSound as IsSoundEntity, FindsMore, ComesTrue, SaysDelivered, GoesOn}
use Rattle.station_pair.specs.declared.side.Side.{Side}
use Rattle.station_pair.specs.declared.side.Side.TheVariants.{One, Two}
use Rattle.link_sim.specs.declared.event.AcceptedPut.{AcceptedPut}
use Rattle.station_pair.specs.Stations.{other}
use Rattle.link_sim.specs.Runs.{IsSwapped}
use Rattle.link_sim.specs.World.State.{WorldState, AreWays, delivered_from, entity_at, sent_from}
use Rattle.link_sim.specs.Theorem.{at, put_of, completions_at, FoldsAt, CausedAt, ToldAt, TruthAt, HoldsAt}
use Rattle.link_sim.specs.Observed.{seen}
use Rattle.link_sim.specs.Sound.{SentTruly, IsSound}
use Rattle.link_sim.specs.Work.{AreWithin, most_offset}
use Rattle.link_sim.proofs.Lanes.Heard.{delivered-sent}
use Rattle.link_sim.proofs.Lanes.Joined.{swapped-among, swapped-back}

-- ---- two sides
pub both : (P : Side → Type 0) (s : Side) → P s → P (other s) → (t : Side) → P t
both P One this that One = this
both P One this that Two = that
both P Two this that One = that
both P Two this that Two = this

pub each : (P : Side → Type 0) → P One → P Two → (s : Side) → P s
each P one two One = one
each P one two Two = two

pub other-other : (s : Side) → other (other s) ≡ s
other-other One = refl
other-other Two = refl

at-entity : (s : Side) (w : WorldState) → (at s (seen w)).entity ≡ (entity_at s w).config.entity
at-entity One w = refl
at-entity Two w = refl

pub at-inbox : (s : Side) (w : WorldState) → (at s (seen w)).inbox ≡ (entity_at s w).table.files
at-inbox One w = refl
at-inbox Two w = refl

at-told : (s : Side) (w : WorldState) → (at s (seen w)).told ≡ (entity_at s w).table.told
at-told One w = refl
at-told Two w = refl

at-sent : (s : Side) (w : WorldState) → (at s (seen w)).sent ≡ sent_from s w
at-sent One w = refl
at-sent Two w = refl

at-delivered : (s : Side) (w : WorldState) → (at s (seen w)).delivered ≡ delivered_from (other s) w
at-delivered One w = refl
at-delivered Two w = refl

-- the completions of a side
abbrev pub done : Side → WorldState → List TransactionId
done s w = completions (entity_at s w).config.entity (entity_at s w).table.told

pub at-done : (s : Side) (w : WorldState) → completions_at s (seen w) ≡ done s w
at-done One w = refl
at-done Two w = refl

-- ---- what was said stays true
of-more : (own : ℕ) (p q : TransactionId → Option Put) (id : TransactionId) (v : Content) → FindsMore p q → IsOfPut own p id v → IsOfPut own q id v
of-more own p q id v more t = (t.0, (t.1.0, more id t.0 t.1.1, t.1.2))

truth-more : (own : ℕ) (p q : TransactionId → Option Put) (id : TransactionId) (v : Content) → FindsMore p q → SaysTruth own p id v → SaysTruth own q id v
truth-more own p q id (FileData offset bytes) more t = of-more own p q id (FileData offset bytes) more t
truth-more own p q id (Metadata kind size source destination options) more t = of-more own p q id (Metadata kind size source destination options) more t
truth-more own p q id (Eof condition checksum size tlvs) more t = of-more own p q id (Eof condition checksum size tlvs) more t
truth-more own p q id (Finished condition delivery status tlvs) more t = tt
truth-more own p q id (Ack of condition status) more t = tt
truth-more own p q id (Nak start end pairs) more t = tt
truth-more own p q id (Prompt keep_alive) more t = tt
truth-more own p q id (KeepAlive progress) more t = tt

delivered-more : (own : ℕ) (told gained : List Indication) (id : TransactionId) (v : Content) → SaysDelivered own told id v → SaysDelivered own (told ++ gained) id v
delivered-more own told gained id v says tlvs e =
    subst (λ (ids : List TransactionId). Contains ids id) (sym (completions-append own told gained)) (Contains-append_left (completions own told) (completions own gained) id (says tlvs e))

-- an item of two lists joined
pub in-either : {X : Type 0} (xs ys : List X) (x : X) → Contains (xs ++ ys) x → Contains xs x ⊎ Contains ys x
in-either [] ys x c = inr c
in-either (z ∷ xs) ys x (zero, low, e) = inl (0, omega arith, e)
in-either (z ∷ xs) ys x (suc k, low, e) = behind z xs ys x (in-either xs ys x (k, omega (arith, low), e))
  where
    behind : {X : Type 0} (z : X) (xs ys : List X) (x : X) → Contains xs x ⊎ Contains ys x → Contains (z ∷ xs) x ⊎ Contains ys x
    behind z xs ys x (inl c) = inl (suc c.0, (let n = c.0 in let h : n < length xs = c.1 in omega arith), c.2)
    behind z xs ys x (inr c) = inr c

-- The law of parts, and what an entity keeps if more is put and heard, in whatever order.
pub record Grounds : Type 0 where
  pub in_whole : (whole part : List (List ℕ)) (x : List ℕ) → IsPartOf part whole → Contains part x → Contains whole x
  pub more : (p q : TransactionId → Option Put) (heard more : List (List ℕ)) (first : FileMap) (e : EntityState) → FindsMore p q → IsSoundEntity p heard first e →
      IsSoundEntity q (heard ++ more) first e
  pub among : (p : TransactionId → Option Put) (heard others : List (List ℕ)) (first : FileMap) (e : EntityState) → ((text : List ℕ) → Contains heard text → Contains others text) →
      IsSoundEntity p heard first e → IsSoundEntity p others first e

-- What an event does to one side: to its entity, to what it sent, and to what it heard. The
-- entity stays sound if what it hears is true, and what it sends is true.
pub record SideMoves (t u : Side) (old new : WorldState) : Type 0 where
  pub goes : GoesOn (entity_at t old) (entity_at t new)
  pub ways : AreWays t new
  pub texts : List (List ℕ)
  pub sent : IsSwapped (sent_from t old ++ texts) (sent_from t new)
  pub says : (p : TransactionId → Option Put) (heard : List (List ℕ)) (first : FileMap) → IsSoundEntity p heard first (entity_at t old) → (x : List ℕ) → Contains texts x → (h : Header) (v : Content) →
      SpellsPdu h v x →
      SaysTruth (entity_at t old).config.entity p h.id v × SaysDelivered (entity_at t old).config.entity (entity_at t old).table.told h.id v
  pub more : List (List ℕ)
  pub delivered : IsSwapped (delivered_from u old ++ more) (delivered_from u new)
  pub kept : (heard : List (List ℕ)) (first : FileMap) → ((x : List ℕ) → Contains more x → ComesTrue (entity_at t old).config.peer (put_of (seen new)) heard x) →
      IsSoundEntity (put_of (seen new)) heard first (entity_at t old) → IsSoundEntity (put_of (seen new)) heard first (entity_at t new)

-- The puts are those of before and perhaps one more, and numbers are below the next.
pub record PutsMove (old new : WorldState) : Type 0 where
  pub finds : FindsMore (put_of (seen old)) (put_of (seen new))
  pub numbers : (t : Side) (p : AcceptedPut) → Contains new.puts p → p.id.source ≡ (entity_at t new).config.entity → p.id.number < (entity_at t new).next

module _ (grounds : Grounds) where
  -- ---- one event
  module _ (old new : WorldState) (sound : IsSound old) (moves : (t : Side) → SideMoves t (other t) old new) (puts : PutsMove old new) where
    -- all that was sent is true
    sent-truly : (t : Side) (x : List ℕ) → Contains (sent_from t new) x → SentTruly t new x
    sent-truly t x c h v spelled =
        let m = moves t in
        let o = sound t in
        let lift : SaysTruth (entity_at t old).config.entity (put_of (seen old)) h.id v × SaysDelivered (entity_at t old).config.entity (entity_at t old).table.told h.id v →
        SaysTruth (entity_at t new).config.entity (put_of (seen new)) h.id v × SaysDelivered (entity_at t new).config.entity (entity_at t new).table.told h.id v =
        (λ (says : SaysTruth (entity_at t old).config.entity (put_of (seen old)) h.id v × SaysDelivered (entity_at t old).config.entity (entity_at t old).table.told h.id v).
        let own : (entity_at t new).config.entity ≡ (entity_at t old).config.entity = ap (λ c. c.entity) m.goes.config in
        let truth = truth-more (entity_at t old).config.entity (put_of (seen old)) (put_of (seen new)) h.id v puts.finds says.0 in
        let told = delivered-more (entity_at t old).config.entity (entity_at t old).table.told m.goes.gained h.id v says.1 in (
          subst (λ (n : ℕ). SaysTruth n (put_of (seen new)) h.id v) (sym own) truth,
          subst (λ (n : ℕ). SaysDelivered n (entity_at t new).table.told h.id v) (sym own)
              (subst (λ (l : List Indication). SaysDelivered (entity_at t old).config.entity l h.id v) (sym m.goes.told) told),
        )) in
        let among : Contains (sent_from t old ++ m.texts) x = swapped-among (sent_from t new) (sent_from t old ++ m.texts) (swapped-back (sent_from t old ++ m.texts) (sent_from t new) m.sent) x c in
        let where_ : Contains (sent_from t old) x ⊎ Contains m.texts x = in-either (sent_from t old) m.texts x among in
        elim where_ [
          | inl before ↦ lift (o.sent x before h v spelled)
          | inr now ↦ lift (m.says (put_of (seen old)) (delivered_from (other t) old) o.first o.entity x now h v spelled)
        ]

    -- what a side heard is true
    pub heard-true : (t : Side) (x : List ℕ) → Contains (delivered_from (other t) old ++ (moves t).more) x →
        ComesTrue (entity_at t old).config.peer (put_of (seen new)) (delivered_from (other t) old ++ (moves t).more) x
    heard-true t x c =
        let m = moves t in
        let there : Contains (delivered_from (other t) new) x = swapped-among (delivered_from (other t) old ++ m.more) (delivered_from (other t) new) m.delivered x c in
        let sent : Contains (sent_from (other t) new) x = delivered-sent grounds.in_whole (other t) new x there in
        let peer : (entity_at (other t) new).config.entity ≡ (entity_at t old).config.peer = ap (λ c. c.entity) (moves (other t)).goes.config ∙ sym (sound t).peer in
        record {
          among = c;
          says = λ h v spelled. subst (λ (n : ℕ). SaysTruth n (put_of (seen new)) h.id v) peer (sent-truly (other t) x sent h v spelled).0;
        }

    -- what comes to it is
    pub comes-true : (t : Side) (x : List ℕ) → Contains (moves t).more x → ComesTrue (entity_at t old).config.peer (put_of (seen new)) (delivered_from (other t) old ++ (moves t).more) x
    comes-true t x c = heard-true t x (Contains-append_right (delivered_from (other t) old) (moves t).more x c)

    -- the entity of a side, if more was put and heard but nothing was done
    pub entity-then : (t : Side) → IsSoundEntity (put_of (seen new)) (delivered_from (other t) old ++ (moves t).more) (sound t).first (entity_at t old)
    entity-then t = grounds.more (put_of (seen old)) (put_of (seen new)) (delivered_from (other t) old) (moves t).more (sound t).first (entity_at t old) puts.finds (sound t).entity

    entity-now : (t : Side) → IsSoundEntity (put_of (seen new)) (delivered_from (other t) old ++ (moves t).more) (sound t).first (entity_at t new)
    entity-now t = (moves t).kept (delivered_from (other t) old ++ (moves t).more) (sound t).first (comes-true t) (entity-then t)

    pub sound-next : ((t : Side) → AreWithin most_offset (entity_at t new).table.records) → IsSound new
    sound-next within t = record {
      ways = (moves t).ways;
      first = (sound t).first;
      all_kept = (moves t).goes.gone ∙ (sound t).all_kept;
      entity = grounds.among (put_of (seen new)) (delivered_from (other t) old ++ (moves t).more) (delivered_from (other t) new) (sound t).first (entity_at t new)
          (swapped-among (delivered_from (other t) old ++ (moves t).more) (delivered_from (other t) new) (moves t).delivered) (entity-now t);
      sent = sent-truly t;
      peer = ap (λ c. c.peer) (moves t).goes.config ∙ (sound t).peer ∙ sym (ap (λ c. c.entity) (moves (other t)).goes.config);
      within = within t;
      numbers = puts.numbers t;
    }

    pub folds-next : (t : Side) → FoldsAt t (seen old) (seen new)
    folds-next t =
        let g = (moves t).goes in
        let own : ℕ = (entity_at t old).config.entity in
        let gained : List TransactionId = completions own g.gained in
        let same : (entity_at t new).config.entity ≡ own = ap (λ c. c.entity) g.config in
        let all : done t new ≡ done t old ++ gained =
        ap (λ (n : ℕ). completions n (entity_at t new).table.told) same ∙ ap (completions own) g.told ∙ completions-append own (entity_at t old).table.told g.gained in
        let before : (entity_at t old).table.files ≡ inbox_after (put_of (seen new)) (sound t).first (done t old) = (entity-then t).knows.inbox in
        let now : (entity_at t new).table.files ≡ inbox_after (put_of (seen new)) (sound t).first (done t new) = (entity-now t).knows.inbox in
        let files : (entity_at t new).table.files ≡ inbox_after (put_of (seen new)) (entity_at t old).table.files gained =
        now ∙ ap (inbox_after (put_of (seen new)) (sound t).first) all
        ∙ inbox_after-append (put_of (seen new)) (sound t).first (done t old) gained
        ∙ ap (λ (f : FileMap). inbox_after (put_of (seen new)) f gained) (sym before) in
        record {
          gained = gained;
          completions = at-done t new ∙ all ∙ ap (λ (l : List TransactionId). l ++ gained) (sym (at-done t old));
          inbox = at-inbox t new ∙ files ∙ ap (λ (f : FileMap). inbox_after (put_of (seen new)) f gained) (sym (at-inbox t old));
        }

  -- ---- every world
  module _ (w : WorldState) (sound : IsSound w) where
    caused : (s : Side) → CausedAt s (seen w)
    caused s id c =
        let here : Contains (done s w) id = subst (λ (l : List TransactionId). Contains l id) (at-done s w) c in
        let k = (sound s).entity.knows.caused id here in
        (k.0, (k.1.0, subst (λ (l : List (List ℕ)). HeardInFull k.0 l) (sym (at-delivered s w)) k.1.1))

    truth : (s : Side) → TruthAt s (seen w)
    truth s text c h v spelled =
        let here : Contains (sent_from s w) text = subst (λ (l : List (List ℕ)). Contains l text) (at-sent s w) c in
        subst (λ (n : ℕ). SaysTruth n (put_of (seen w)) h.id v) (sym (at-entity s w)) ((sound s).sent text here h v spelled).0

    -- a Finished that was heard was sent by the other station, which completed the transaction
    completed : (s : Side) (id : TransactionId) → SomePdu (SaysComplete id) (delivered_from (other s) w) → Contains (done (other s) w) id
    completed s id heard =
        let k = heard.0 in
        let text : List ℕ = heard.1 in
        let there : Contains (delivered_from (other s) w) text = (k, heard.2, heard.3) in
        let sent : Contains (sent_from (other s) w) text = delivered-sent grounds.in_whole (other s) w text there in
        let said = heard.4 in
        let h : Header = said.0 in
        let v : Content = said.1.0 in
        let spelled : SpellsPdu h v text = said.1.1.0 in
        let is = said.1.1.1 in
        let told = ((sound (other s)).sent text sent h v spelled).1 in
        subst (λ (x : TransactionId). Contains (done (other s) w) x) is.0 (told is.1.0 is.1.1)

    told : (s : Side) → ToldAt s (seen w)
    told s id t =
        let own = subst (λ (n : ℕ). IsToldComplete n (at s (seen w)).told id) (at-entity s w) t in
        let here : IsToldComplete (entity_at s w).config.entity (entity_at s w).table.told id = subst (λ (l : List Indication). IsToldComplete (entity_at s w).config.entity l id) (at-told s w) own in
        let heard : SomePdu (SaysComplete id) (delivered_from (other s) w) = (sound s).entity.tells.told id here in
        record {
          heard = subst (λ (l : List (List ℕ)). SomePdu (SaysComplete id) l) (sym (at-delivered s w)) heard;
          completed = subst (λ (l : List TransactionId). Contains l id) (sym (at-done (other s) w)) (completed s id heard);
        }

    pub holds : (s : Side) → HoldsAt s (seen w)
    holds s = record {
      once = λ id. (let o = (sound s).entity.once.once id in
          let same = at-told s w in subst (λ (l : List Indication). count_by (is_finished id) l ≤ 1) (sym same) (omega (arith, o)));
      caused = caused s;
      told = told s;
      truth = truth s;
    }
