-- A list has the same members after two of its parts changed places: so a course, and all else that
-- is known of the PDUs on their way, stays if one lane overtakes the other.
use Rattle.std.proofs.Common.{◌≡◌, inl, inr, ℕ, Bool, true, false, List, [], ◌∷◌, ◌++◌, ◌||◌, Option, refl, sym, ap, subst, ◌∙◌}
use Rattle.std.proofs.lemmas.List.Folds.{list_any-append}
use Rattle.cfdp_header.specs.declared.value.TransactionId.{TransactionId}
use Rattle.cfdp_directives.specs.Pdu.Content.{Content}
use Rattle.cfdp_directives.specs.User.Put.{Put}
use Rattle.cfdp_sender.specs.State.{SenderState}
use Rattle.cfdp_receiver.specs.State.{ReceiverState}
use Rattle.cfdp_entity.specs.Entity.{EntityState}
use Rattle.link_sim.specs.Between.{Pdu, of_id, IsOnCourse, StaysOnCourse, AreSpelled}
use Rattle.link_sim.specs.Course.{IsTrueBetween, EofComes, Comes, AsksFirst, AsksFrom, owes_metadata, owes_octet, FileComes, AckComes, EndComes, IsCourse}
use Rattle.link_sim.specs.Exchange.{is_metadata, is_eof, is_finished, is_ack_of_finished, is_ack_of_eof, brings, names, names_metadata, one_says, AllTrue, IsTrueForth, IsTrueBack, knows_metadata, holds}
use Rattle.link_sim.specs.Known.{AreKnown, IsDirected}
use Rattle.link_sim.specs.Runs.{IsSwapped}
use Rattle.link_sim.proofs.EveryPut.Views.{of_id-append}
use Rattle.link_sim.proofs.EveryPut.Known.{all-append, all-front, all-behind, known-with}
use Rattle.link_sim.proofs.EveryPut.Pdus.{InTwo, spelled-append, spelled-split}
use Rattle.link_sim.proofs.EveryPut.Kept.{Kept}
pub use Rattle.link_sim.proofs.Lanes.Joined.{swapped-none, swapped-back, swapped-front, swapped-put}

-- ---- lists
pub swapped-all : {X : Type 0} (Is : X → Type 0) (xs ys : List X) → IsSwapped xs ys → AllTrue Is xs → AllTrue Is ys
swapped-all Is xs ys s h =
    let all : AllTrue Is (s.before ++ (s.first ++ (s.second ++ s.behind))) = subst (AllTrue Is) s.was h in
    let rest : AllTrue Is (s.first ++ (s.second ++ s.behind)) = all-behind Is s.before _ all in
    let last : AllTrue Is (s.second ++ s.behind) = all-behind Is s.first _ rest in
    subst (AllTrue Is) (sym s.is)
    (all-append Is s.before _ (all-front Is s.before _ all)
    (all-append Is s.second _ (all-front Is s.second s.behind last)
    (all-append Is s.first s.behind (all-front Is s.first _ rest) (all-behind Is s.second s.behind last))))

pub swapped-says : (test : Content → Bool) (xs ys : List Content) → IsSwapped xs ys → one_says test ys ≡ one_says test xs
swapped-says test xs ys s =
    ap (one_says test) s.is ∙ parts s.second s.first ∙ turn (one_says test s.before) (one_says test s.second) (one_says test s.first) (one_says test s.behind)
    ∙ sym (parts s.first s.second) ∙ ap (one_says test) (sym s.was)
  where
    parts : (a b : List Content) → one_says test (s.before ++ (a ++ (b ++ s.behind))) ≡ (one_says test s.before || (one_says test a || (one_says test b || one_says test s.behind)))
    parts a b = list_any-append test s.before (a ++ (b ++ s.behind))
        ∙ ap (λ t. one_says test s.before || t) (list_any-append test a (b ++ s.behind) ∙ ap (λ t. one_says test a || t) (list_any-append test b s.behind))

    turn : (a b c d : Bool) → (a || (b || (c || d))) ≡ (a || (c || (b || d)))
    turn true b c d = refl
    turn false true true d = refl
    turn false true false d = refl
    turn false false c d = refl

pub swapped-nil : {X : Type 0} (ys : List X) → IsSwapped [] ys → ys ≡ []
swapped-nil {X} ys s = none ys (swapped-all (λ (x : X). ⊥) [] ys s tt)
  where
    none : (ys : List X) → AllTrue (λ (x : X). ⊥) ys → ys ≡ []
    none [] h = refl
    none (y ∷ ys) h = absurd h.0

-- of a transaction
pub swapped-of : (id : TransactionId) (xs ys : List Pdu) → IsSwapped xs ys → IsSwapped (of_id id xs) (of_id id ys)
swapped-of id xs ys s = record {
  before = of_id id s.before;
  first = of_id id s.first;
  second = of_id id s.second;
  behind = of_id id s.behind;
  was = ap (of_id id) s.was ∙ parts s.first s.second;
  is = ap (of_id id) s.is ∙ parts s.second s.first;
}
  where
    parts : (a b : List Pdu) → of_id id (s.before ++ (a ++ (b ++ s.behind))) ≡ of_id id s.before ++ (of_id id a ++ (of_id id b ++ of_id id s.behind))
    parts a b = of_id-append id s.before (a ++ (b ++ s.behind))
        ∙ ap (λ l. of_id id s.before ++ l) (of_id-append id a (b ++ s.behind) ∙ ap (λ l. of_id id a ++ l) (of_id-append id b s.behind))

-- The PDUs of texts that changed places.
pub record SwapsPdus (texts : List (List ℕ)) (pdus : List Pdu) : Type 0 where
  pub swapped : List Pdu
  pub are : IsSwapped pdus swapped
  pub spelled : AreSpelled texts swapped

pub swapped-spelled : (texts texts1 : List (List ℕ)) (pdus : List Pdu) → IsSwapped texts texts1 → AreSpelled texts pdus → SwapsPdus texts1 pdus
swapped-spelled texts texts1 pdus s h =
    let a : InTwo s.before (s.first ++ (s.second ++ s.behind)) pdus = spelled-split s.before _ pdus (subst (λ l. AreSpelled l pdus) s.was h) in
    let b : InTwo s.first (s.second ++ s.behind) a.rest = spelled-split s.first _ a.rest a.spelled_rest in
    let c : InTwo s.second s.behind b.rest = spelled-split s.second s.behind b.rest b.spelled_rest in
    record {
      swapped = a.first ++ (c.first ++ (b.first ++ c.rest));
      are = record {
        before = a.first;
        first = b.first;
        second = c.first;
        behind = c.rest;
        was = a.joined ∙ ap (λ l. a.first ++ l) (b.joined ∙ ap (λ l. b.first ++ l) c.joined);
        is = refl;
      };
      spelled = subst (λ l. AreSpelled l (a.first ++ (c.first ++ (b.first ++ c.rest)))) (sym s.is)
          (spelled-append s.before _ a.first _ a.spelled
          (spelled-append s.second _ c.first _ c.spelled (spelled-append s.first s.behind b.first c.rest b.spelled c.spelled_rest)));
    }

-- ---- the course of a put
module _ (put : Put) (x : SenderState) (o : Option ReceiverState) (forth forth1 back back1 : List Content) (b c : Bool) (f : IsSwapped forth forth1) (k : IsSwapped back back1) where
  forth-says : (test : Content → Bool) → one_says test forth1 ≡ one_says test forth
  forth-says test = swapped-says test forth forth1 f

  back-says : (test : Content → Bool) → one_says test back1 ≡ one_says test back
  back-says test = swapped-says test back back1 k

  swapped-truth : IsTrueBetween put x o forth back b c → IsTrueBetween put x o forth1 back1 b c
  swapped-truth t = record {
    not_cancelled = t.not_cancelled;
    all_sent = t.all_sent;
    receiver = t.receiver;
    true_forth = swapped-all (IsTrueForth put) forth forth1 f t.true_forth;
    true_back = swapped-all IsTrueBack back back1 k t.true_back;
    eof_forth = λ h. t.eof_forth (sym (forth-says is_eof) ∙ h);
    heard = t.heard;
    eof_ack_due = t.eof_ack_due;
    eof_ack_back = λ h. t.eof_ack_back (sym (back-says is_ack_of_eof) ∙ h);
    acknowledged = t.acknowledged;
    finished_back = λ h. t.finished_back (sym (back-says is_finished) ∙ h);
    over = t.over;
    ack_due = t.ack_due;
    ack_forth = λ h. t.ack_forth (sym (forth-says is_ack_of_finished) ∙ h);
    closed = t.closed;
    sender_told = t.sender_told;
    receiver_told = t.receiver_told;
  }

  swapped-eof : EofComes x o forth back → EofComes x o forth1 back1
  swapped-eof (inl not_taken) = inl not_taken
  swapped-eof (inr (inl w)) = inr (inl (forth-says is_eof ∙ w))
  swapped-eof (inr (inr g)) = inr (inr (record { due = g.due; none_due = g.none_due; none_back = back-says is_ack_of_eof ∙ g.none_back }))

  swapped-thing : (due : SenderState → Bool) (brought : Content → Bool) (known : ReceiverState → Bool) (named : Content → Bool) (Asks : ReceiverState → Type 0)
      → Comes due brought known named Asks x o forth back → Comes due brought known named Asks x o forth1 back1
  swapped-thing due brought known named Asks (inl e) = inl (swapped-eof e)
  swapped-thing due brought known named Asks (inr (inl d)) = inr (inl d)
  swapped-thing due brought known named Asks (inr (inr (inl w))) = inr (inr (inl (forth-says brought ∙ w)))
  swapped-thing due brought known named Asks (inr (inr (inr (inl h)))) = inr (inr (inr (inl h)))
  swapped-thing due brought known named Asks (inr (inr (inr (inr (inl w))))) = inr (inr (inr (inr (inl (back-says named ∙ w)))))
  swapped-thing due brought known named Asks (inr (inr (inr (inr (inr a))))) = inr (inr (inr (inr (inr a))))

  swapped-file : FileComes put x o forth back → FileComes put x o forth1 back1
  swapped-file h = record {
    metadata = swapped-thing owes_metadata is_metadata knows_metadata names_metadata AsksFirst h.metadata;
    octets = λ n below. swapped-thing (owes_octet n) (brings n) (holds n) (names n) (AsksFrom n) (h.octets n below);
    ending = elim h.ending [ inl e ↦ inl (swapped-eof e) | inr known ↦ inr known ];
  }

  swapped-ack : AckComes x o forth back → AckComes x o forth1 back1
  swapped-ack h is = elim (h is) [
    | inl a ↦ inl a
    | inr rest ↦ elim rest [
      | inl e ↦ inr (inl (swapped-eof e))
      | inr rest ↦ elim rest [ inl d ↦ inr (inr (inl d)) | inr w ↦ inr (inr (inr (back-says is_ack_of_eof ∙ w))) ]
    ]
  ]

  swapped-end : EndComes x o forth back → EndComes x o forth1 back1
  swapped-end h is = elim (h is) [
    | inl d ↦ inl d
    | inr rest ↦ elim rest [
      | inl w ↦ inr (inl (back-says is_finished ∙ w))
      | inr rest ↦ elim rest [ inl d ↦ inr (inr (inl d)) | inr w ↦ inr (inr (inr (forth-says is_ack_of_finished ∙ w))) ]
    ]
  ]

  pub swapped-course : (awake acks files ends : Bool) → IsCourse put awake acks files ends x o forth back b c → IsCourse put awake acks files ends x o forth1 back1 b c
  swapped-course awake acks files ends h = record {
    truth = swapped-truth h.truth;
    active = h.active;
    ack_comes = λ g. swapped-ack (h.ack_comes g);
    file_comes = λ g. swapped-file (h.file_comes g);
    end_comes = λ g. swapped-end (h.end_comes g);
  }

-- ---- two entities
module _ (forth forth1 back back1 : List Pdu) (f : IsSwapped forth forth1) (k : IsSwapped back back1) where
  pub swapped-stays : (lossless : Bool) (put : Put) (mine theirs : EntityState) → StaysOnCourse lossless put mine theirs forth back → StaysOnCourse lossless put mine theirs forth1 back1
  swapped-stays lossless put mine theirs stays u =
      let c : IsOnCourse lossless put mine theirs forth back = stays u in
      record {
        sender = c.sender;
        is_sender = c.is_sender;
        receiver = c.receiver;
        is_receiver = c.is_receiver;
        course = swapped-course put c.sender c.receiver (of_id put.id forth) (of_id put.id forth1) (of_id put.id back) (of_id put.id back1) _ _ (swapped-of put.id forth forth1 f)
            (swapped-of put.id back back1 k)
            lossless lossless lossless lossless c.course;
      }

  pub swapped-known : (put_of : TransactionId → Option Put) (mine theirs : EntityState) → AreKnown put_of mine theirs forth back → AreKnown put_of mine theirs forth1 back1
  swapped-known put_of mine theirs h = (
    known-with put_of mine theirs forth forth1 (swapped-all (IsDirected put_of theirs) forth forth1 f h.0.directed) h.0,
    known-with put_of theirs mine back back1 (swapped-all (IsDirected put_of mine) back back1 k h.1.directed) h.1,
  )

-- what is kept of all puts, if one lane from the first entity overtakes the other
pub swapped-kept : (P : TransactionId → Option Put) (NoneLost : Type 0) (mine theirs : EntityState) (texts texts1 back : List (List ℕ)) → IsSwapped texts texts1 →
    Kept P NoneLost mine theirs texts back → Kept P NoneLost mine theirs texts1 back
swapped-kept P NoneLost mine theirs texts texts1 back s c =
    let w : SwapsPdus texts1 c.forth = swapped-spelled texts texts1 c.forth s c.spelled in
    let same : IsSwapped c.back c.back = swapped-none c.back in
    record {
      forth = w.swapped;
      back = c.back;
      spelled = w.spelled;
      spelled_back = c.spelled_back;
      known = swapped-known c.forth w.swapped c.back c.back w.are same P mine theirs c.known;
      kinds = c.kinds;
      kinds_there = c.kinds_there;
      of_mine = λ put found own lossless none. swapped-stays c.forth w.swapped c.back c.back w.are same lossless put mine theirs (c.of_mine put found own lossless none);
      of_theirs = λ put found own lossless none. swapped-stays c.back c.back c.forth w.swapped same w.are lossless put theirs mine (c.of_theirs put found own lossless none);
    }
