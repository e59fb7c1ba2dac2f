-- What will arrive over two lanes: of each lane all that is on its way, or all but the first, if
-- the front of its packet was lost. So two PDUs may be missing, one of each lane.
use Rattle.std.proofs.Common.{◌≡◌, ◌⊎◌, inl, inr, false, Bool, List, [], ◌∷◌, ◌++◌, Option, subst}
use Rattle.cfdp_header.specs.declared.value.TransactionId.{TransactionId}
use Rattle.cfdp_directives.specs.Pdu.Content.{Content}
use Rattle.cfdp_directives.specs.User.Put.{Put}
use Rattle.cfdp_sender.specs.State.{SenderState}
use Rattle.cfdp_receiver.specs.State.{ReceiverState}
use Rattle.cfdp_entity.specs.Entity.{EntityState}
use Rattle.link_sim.specs.Between.{Pdu}
use Rattle.link_sim.specs.Course.{IsCourse}
use Rattle.link_sim.specs.Known.{AreKnown}
use Rattle.link_sim.proofs.Course.Laws.{CourseLaws}
use Rattle.link_sim.proofs.EveryPut.Known.{lost-known}

-- All of them, or all but the first.
abbrev pub LacksFirst : {X : Type 0} → (xs some : List X) → Type 0
LacksFirst {X} xs some = (xs ≡ some) ⊎ ((x : X) × (xs ≡ x ∷ some))

-- What stays if any one is lost stays if the first of either lane is, or of both.
pub lanes-lack : {X : Type 0} (P : List X → Type 0) → ((before : List X) (x : X) (after : List X) → P (before ++ x ∷ after) → P (before ++ after))
    → (dirs dirs1 data_pdus data1 : List X) → LacksFirst dirs dirs1 → LacksFirst data_pdus data1 → P (dirs ++ data_pdus) → P (dirs1 ++ data1)
lanes-lack {X} P lose dirs dirs1 data_pdus data1 d e h = second e (first d)
  where
    first : LacksFirst dirs dirs1 → P (dirs1 ++ data_pdus)
    first (inl is) = subst (λ l. P (l ++ data_pdus)) is h
    first (inr x) = lose [] x.0 (dirs1 ++ data_pdus) (subst (λ l. P (l ++ data_pdus)) x.1 h)

    second : LacksFirst data_pdus data1 → P (dirs1 ++ data_pdus) → P (dirs1 ++ data1)
    second (inl is) k = subst (λ l. P (dirs1 ++ l)) is k
    second (inr x) k = lose dirs1 x.0 data1 (subst (λ l. P (dirs1 ++ l)) x.1 k)

-- for ExchangesFound, in the place of `known-some`, `course-forth` and `course-back`
pub known-lanes : (put_of : TransactionId → Option Put) (mine theirs : EntityState) (back dirs dirs1 data_pdus data1 : List Pdu) → LacksFirst dirs dirs1 → LacksFirst data_pdus data1
    → AreKnown put_of mine theirs (dirs ++ data_pdus) back → AreKnown put_of mine theirs (dirs1 ++ data1) back
known-lanes put_of mine theirs back dirs dirs1 data_pdus data1 d e k =
    lanes-lack (λ l. AreKnown put_of mine theirs l back) (λ before p after. lost-known put_of mine theirs before p after back) dirs dirs1 data_pdus data1 d e k

module _ (laws : CourseLaws) (put : Put) (x : SenderState) (o : Option ReceiverState) (b c : Bool) (dirs dirs1 data_pdus data1 : List Content) (d : LacksFirst dirs dirs1)
    (e : LacksFirst data_pdus data1) where
  pub course-forth-lanes : (back : List Content) → IsCourse put false false false false x o (dirs ++ data_pdus) back b c → IsCourse put false false false false x o (dirs1 ++ data1) back b c
  course-forth-lanes back h = lanes-lack (λ l. IsCourse put false false false false x o l back b c) (λ before v after. laws.lost_forth put x o before after back v b c) dirs dirs1 data_pdus data1 d e h

  pub course-back-lanes : (forth : List Content) → IsCourse put false false false false x o forth (dirs ++ data_pdus) b c → IsCourse put false false false false x o forth (dirs1 ++ data1) b c
  course-back-lanes forth h = lanes-lack (λ l. IsCourse put false false false false x o forth l b c)
      (λ before v after. laws.lost_back put x o forth before after v b c) dirs dirs1 data_pdus data1 d e h
