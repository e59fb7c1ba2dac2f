-- If a receiver knows no EOF, and none comes, a run leaves it so; and if one comes, all debts are
-- paid.
use Rattle.std.proofs.Common.{◌≡◌, ◌≢◌, ◌⊎◌, inl, inr, ℕ, zero, suc, ◌+◌, ◌≤◌, ◌==◌, ◌&&◌, ◌||◌, not, min, nat_lt, Bool, true, false, List, [], ◌∷◌, length, Option, Some, None, is_some, refl, sym, ap, subst, ◌∙◌, if◌then◌else◌}
use Rattle.std.specs.FinMap as map
use Rattle.std.specs.FinSet as set
use Rattle.std.proofs.lemmas.Bool.{false≢true, true≢false, both_ways, cond_both, or_from, or_parts, false_from_ne_true, cases_Bool}
use Rattle.std.proofs.lemmas.List.Folds.{list_any-append}
use Rattle.cfdp_directives.specs.declared.pdu.codes.Acknowledged.TheVariants as acknowledged
use Rattle.cfdp_directives.specs.declared.user.indication.Indication.{Indication}
use Rattle.cfdp_directives.specs.Pdu.Codes.{no_error}
use Rattle.cfdp_directives.specs.Pdu.Content.{Content, FileData, Metadata, Eof, Finished, Ack, Nak, Prompt, KeepAlive}
use Rattle.cfdp_directives.specs.User.Policy.{finished_told}
use Rattle.cfdp_directives.specs.User.Put.{Put}
use Rattle.cfdp_extents.specs.Offsets.{range}
use Rattle.cfdp_extents.specs.Terms.{front_of}
use Rattle.cfdp_store.specs.declared.stored.Stored.TheVariants.{Done}
use Rattle.cfdp_sender.specs.declared.due.SenderDue.{SenderDue}
use Rattle.cfdp_sender.specs.declared.due.SenderDue.TheVariants as dues
use Rattle.cfdp_sender.specs.declared.phase.SenderPhase.{SenderPhase}
use Rattle.cfdp_sender.specs.declared.phase.SenderPhase.TheVariants as sending
use Rattle.cfdp_sender.specs.Due.{sender_due, sender_says, rest_due, data_due, prompt_first, phase_due, ack_first}
use Rattle.cfdp_sender.specs.State.{SenderState}
use Rattle.cfdp_sender.specs.Steps.{SenderAfter, sender_sends, hears_ack, asks, asks_all, asks_in}
use Rattle.cfdp_sender.specs.Steps as sender
use Rattle.cfdp_receiver.specs.declared.due.Due.{Due}
use Rattle.cfdp_receiver.specs.declared.due.Due.TheVariants as due
use Rattle.cfdp_receiver.specs.declared.state.ReceiverPhase.{ReceiverPhase}
use Rattle.cfdp_receiver.specs.declared.state.ReceiverPhase.TheVariants as receiving
use Rattle.cfdp_receiver.specs.Due.{receiver_taken}
use Rattle.cfdp_receiver.specs.Sound.{receiver_hears}
use Rattle.cfdp_receiver.specs.State.{ReceiverState, opened_receiver, is_finishing}
use Rattle.cfdp_receiver.specs.Steps.{ReceiverAfter}
use Rattle.cfdp_entity.specs.Steps.{sender_after}
use Rattle.link_sim.specs.Course.{IsReceiverTrue, IsMaybeTrue, IsTrueBetween, EofComes}
use Rattle.link_sim.specs.Exchange.{is_eof, is_ack_of_eof, one_says, IsTrueForth, AllTrue, once_ended, knows_ending, finishes, owes_ack, maybe}
use Rattle.link_sim.specs.Runs.{Exchange, ReceiverHears, ReceiverOpens, Settles, Runs}
use Rattle.link_sim.specs.Stages.{IsAtRest, IsActiveCourse, IsCompleteExchange}
use Rattle.link_sim.specs.Waiting.{spoils, one_tells}
use Rattle.link_sim.proofs.Course.Heard.{hears-advances}
use Rattle.link_sim.proofs.Course.Receives.{after-is}
use Rattle.link_sim.proofs.Course.Steps.{Advances}
use Rattle.link_sim.proofs.Course.Truth.{as-opened}
use Rattle.link_sim.proofs.Clean.NotBad.{tells-well}
use Rattle.link_sim.proofs.Stages.Ends.{course-completes}
use Rattle.link_sim.proofs.Stages.Keep.{ExchangeKeeps, runs-keep}
use Rattle.link_sim.proofs.Lanes.Swapping.{swapped-says}
use Rattle.link_sim.proofs.Stages.Runs.{CourseIn, heard-good, opened-by, OpensWell, opened-well, runs-course}

-- ---- an EOF comes, or none does
pub record NoEof (x : SenderState) (forth : List Content) : Type 0 where
  pub taken : x.eof_taken ≡ true
  pub undue : x.eof_due ≡ false
  pub none_forth : one_says is_eof forth ≡ false

pub eof-or-none : (put : Put) (x : SenderState) (o : Option ReceiverState) (forth back : List Content) (b c : Bool) → IsTrueBetween put x o forth back b c → maybe knows_ending o ≡ false
    → EofComes x o forth back ⊎ NoEof x forth
eof-or-none put x o forth back b c t unknown = elim (cases_Bool x.eof_taken) [
  | inr not_taken ↦ inl (inl not_taken)
  | inl taken ↦ elim (cases_Bool (one_says is_eof forth)) [
    | inl comes ↦ inl (inr (inl comes))
    | inr none ↦ elim (cases_Bool x.eof_due) [
      | inl is_due ↦ inl (inr (inr (record { due = is_due; none_due = never (maybe owes_ack o) t.eof_ack_due; none_back = never (one_says is_ack_of_eof back) t.eof_ack_back })))
      | inr not_due ↦ inr (record { taken = taken; undue = not_due; none_forth = none })
    ]
  ]
]
  where
    never : (d : Bool) → (d ≡ true → maybe knows_ending o ≡ true) → d ≡ false
    never d h = false_from_ne_true d (λ is. both_ways (maybe knows_ending o) unknown (h is))

-- an EOF that comes brings all, if the receiver isn't finishing yet
pub eof-brings-all : (put : Put) (ends : Bool) (a : Exchange) → IsActiveCourse put a → EofComes a.sender a.receiver a.forth a.back
    → (ends ≡ true → maybe finishes a.receiver ≡ false) → CourseIn put true true true ends a
eof-brings-all put ends a c e receives = record {
  truth = c.truth;
  active = c.active;
  ack_comes = λ _ _. inr (inl e);
  file_comes = λ _. record { metadata = inl e; octets = λ n _. inl e; ending = inl e };
  end_comes = λ f h. absurd (both_ways (maybe finishes a.receiver) (receives f) h);
}

-- ---- a sender whose EOF was taken, and isn't due again, sends none
module _ (x : SenderState) (taken : x.eof_taken ≡ true) (undue : x.eof_due ≡ false) (not_cancelled : x.phase ≡ sending.Cancelling → ⊥) where
  abbrev Never : Option SenderDue → Type 0
  Never o = o ≡ Some dues.Eof → ⊥

  rest-never : Never (rest_due x)
  rest-never = cond_both (nat_lt x.sent x.size) (Some (dues.NewData x.sent (min x.size (x.sent + x.segment)))) (if x.eof_due || not x.eof_taken then Some dues.Eof else None) Never
      (λ _ e. cc)
      (λ _. cond_both (x.eof_due || not x.eof_taken) (Some dues.Eof) None Never
      (λ b. absurd (both_ways (x.eof_due || not x.eof_taken) (or_from x.eof_due (not x.eof_taken) undue (ap not taken)) b)) (λ _ e. cc))

  data-never : (front : Option (ℕ × ℕ)) → Never (data_due front x)
  data-never None e = rest-never e
  data-never (Some r) e = cc

  prompt-never : (prompt : Option Bool) → Never (prompt_first prompt x)
  prompt-never (Some keep_alive) e = cc
  prompt-never None e = cond_both x.metadata_due (Some dues.Metadata) (data_due (front_of x.asked x.segment) x) Never (λ _ e. cc) (λ _. data-never (front_of x.asked x.segment)) e

  phase-never : (phase : SenderPhase) → x.phase ≡ phase → Never (phase_due phase x)
  phase-never sending.Sending is e = prompt-never x.prompt_due e
  phase-never sending.Cancelling is e = absurd (not_cancelled is)
  phase-never sending.Closed is e = cc

  ack-never : (ack : Option ℕ) → Never (ack_first ack x)
  ack-never (Some condition) e = cc
  ack-never None e = phase-never x.phase refl e

  pub sends-none : sender_due x ≡ Some dues.Eof → ⊥
  sends-none e = cond_both x.suspended None (ack_first x.ack_due x) Never (λ _ e. cc) (λ _. ack-never x.ack_due) e

-- ---- what the steps of a sender leave of it
record StillNone (x y : SenderState) : Type 0 where
  pub taken : y.eof_taken ≡ x.eof_taken
  pub undue : x.eof_due ≡ false → y.eof_due ≡ false

still : (x : SenderState) → StillNone x x
still x = record { taken = refl; undue = λ h. h }

sends-still : (file : List ℕ) (x : SenderState) (d : SenderDue) → d ≢ dues.Eof → StillNone x (sender_sends Done file x d).sender × (is_eof (sender_says file x d) ≡ false)
sends-still file x (dues.AckOfFinished condition) other = (record { taken = refl; undue = λ h. h }, refl)
sends-still file x (dues.Prompt keep_alive) other = (record { taken = refl; undue = λ h. h }, refl)
sends-still file x dues.Metadata other = (record { taken = refl; undue = λ h. h }, refl)
sends-still file x (dues.AskedData start end) other = (record { taken = refl; undue = λ h. h }, refl)
sends-still file x (dues.NewData start end) other = (record { taken = refl; undue = λ h. h }, refl)
sends-still file x dues.Eof other = absurd (other refl)

pair-still : (p : ℕ × ℕ) (x : SenderState) → StillNone x (asks p x)
pair-still p x = cond_both ((p.0 == 0) && (p.1 == 0)) (record x { metadata_due = true })
    (if nat_lt p.0 (min p.1 x.sent) then record x { asked = set.union x.asked (range p.0 (min p.1 x.sent)) } else x) (StillNone x)
    (λ _. record { taken = refl; undue = λ h. h })
    (λ _. cond_both (nat_lt p.0 (min p.1 x.sent)) (record x { asked = set.union x.asked (range p.0 (min p.1 x.sent)) }) x (StillNone x)
    (λ _. record { taken = refl; undue = λ h. h }) (λ _. still x))

pairs-still : (ps : List (ℕ × ℕ)) (x : SenderState) → StillNone x (asks_all ps x)
pairs-still [] x = still x
pairs-still (p ∷ ps) x =
    let a = pair-still p x in
    let b = pairs-still ps (asks p x) in
    record { taken = b.taken ∙ a.taken; undue = λ h. b.undue (a.undue h) }

nak-still : (phase : SenderPhase) (ps : List (ℕ × ℕ)) (x : SenderState) → StillNone x (asks_in phase ps x)
nak-still sending.Sending ps x = pairs-still ps x
nak-still sending.Cancelling ps x = still x
nak-still sending.Closed ps x = still x

ack-still : (phase : SenderPhase) (condition : ℕ) (x : SenderState) → StillNone x (hears_ack phase condition x).sender
ack-still sending.Sending condition x = cond_both (x.eof_taken && (condition == no_error)) (record x { acknowledged = true; eof_due = false }) x (StillNone x)
    (λ _. record { taken = refl; undue = λ _. refl }) (λ _. still x)
ack-still sending.Cancelling condition x =
    cond_both (condition == x.condition) (sender.hearing (finished_told x.addressing.id (sender.cancelled x) ∷ []) (sender.closed x)) (sender.hearing [] x) (λ (a : SenderAfter). StillNone x a.sender)
    (λ _. record { taken = refl; undue = λ h. h }) (λ _. still x)
ack-still sending.Closed condition x = still x

after-still : (x : SenderState) (a b : SenderAfter) → Some a ≡ Some b → StillNone x a.sender → StillNone x b.sender
after-still x a b e k = subst (λ (c : SenderAfter). StillNone x c.sender) (let same : a ≡ b = cc in same) k

hears-still : (v : Content) (x : SenderState) (a : SenderAfter) → sender_after v x ≡ Some a → StillNone x a.sender
hears-still (Ack acknowledged.Eof condition status) x a e = after-still x _ a e (ack-still x.phase condition x)
hears-still (Nak start end pairs) x a e = after-still x _ a e (nak-still x.phase pairs x)
hears-still (Finished condition delivery status tlvs) x a e = after-still x _ a e (record { taken = refl; undue = λ h. h })
hears-still (KeepAlive progress) x a e = after-still x _ a e (still x)
hears-still (Ack acknowledged.Finished condition status) x a e = absurd cc
hears-still (FileData offset bytes) x a e = absurd cc
hears-still (Metadata kind size source destination options) x a e = absurd cc
hears-still (Eof condition checksum size tlvs) x a e = absurd cc
hears-still (Prompt keep_alive) x a e = absurd cc

-- ---- and of a receiver
taken-still : (r : ReceiverState) (d : Due) → knows_ending (receiver_taken d r) ≡ knows_ending r
taken-still r (due.AckOfEof condition) = refl
taken-still r (due.Nak cursor) = refl
taken-still r due.KeepAlive = refl
taken-still r (due.Finished o) = refl

advances-unknown : (put : Put) (v : Content) (r s : ReceiverState) (told : List Indication) → Advances put v r s told → is_eof v ≡ false → knows_ending r ≡ false → knows_ending s ≡ false
advances-unknown put v r s told a other unknown = false_from_ne_true (knows_ending s) (λ h. elim (a.heard h) [
  | inl was ↦ both_ways (knows_ending r) unknown was
  | inr here ↦ both_ways (is_eof v) other here
])

-- ---- a run
pub record Unheard (e : Exchange) : Type 0 where
  pub eof : NoEof e.sender e.forth
  pub unknown : maybe knows_ending e.receiver ≡ false

module _ (put : Put) (a b : Exchange) (c : CourseIn put false false false false a) (u : Unheard a) where
  -- with another sender, and with fewer PDUs
  still-eof : (x : SenderState) → StillNone a.sender x → NoEof x a.forth
  still-eof x s = record { taken = s.taken ∙ u.eof.taken; undue = s.undue u.eof.undue; none_forth = u.eof.none_forth }

  parts : (rest : List Content) (v : Content) → a.forth ≡ v ∷ rest → (is_eof v ≡ false) × (one_says is_eof rest ≡ false)
  parts rest v e = or_parts (is_eof v) (one_says is_eof rest) (ap (one_says is_eof) (sym e) ∙ u.eof.none_forth)

  rest-eof : (rest : List Content) (v : Content) → a.forth ≡ v ∷ rest → NoEof a.sender rest
  rest-eof rest v e = record { taken = u.eof.taken; undue = u.eof.undue; none_forth = (parts rest v e).1 }

  is-true-of : (rest : List Content) (v : Content) → a.forth ≡ v ∷ rest → IsTrueForth put v
  is-true-of rest v e = (subst (AllTrue (IsTrueForth put)) e c.truth.true_forth).0

  unknown-at : (r : ReceiverState) → a.receiver ≡ Some r → knows_ending r ≡ false
  unknown-at r is = sym (ap (maybe knows_ending) is) ∙ u.unknown

  hears-unknown : (s : ReceiverHears put a b) → knows_ending s.after.receiver ≡ false
  hears-unknown s =
      let t : IsTrueForth put s.heard = is-true-of s.rest s.heard s.front in
      let h : ReceiverAfter = receiver_hears Done s.large s.heard s.octets s.files s.receiver in
      let is : s.after ≡ h = after-is Done s.large s.heard s.octets s.files s.receiver s.after s.is_after in
      let good : one_tells (spoils put.id) h.told ≡ false = ap (λ (d : ReceiverAfter). one_tells (spoils put.id) d.told) (sym is) ∙ (tells-well put false s.after.told (heard-good put a b s t)).good in
      let true_ : IsReceiverTrue put s.receiver = subst (IsMaybeTrue put) s.is_receiver c.truth.receiver in
      ap (λ (d : ReceiverAfter). knows_ending d.receiver) is
      ∙ advances-unknown put s.heard s.receiver h.receiver h.told (hears-advances put Done s.large s.octets s.files s.receiver true_ s.own s.heard t good) (parts s.rest s.heard s.front).0
      (unknown-at s.receiver s.is_receiver)

  opens-unknown : (s : ReceiverOpens put a b) → knows_ending s.receiver ≡ false
  opens-unknown s =
      let t : IsTrueForth put s.heard = is-true-of s.rest s.heard s.front in
      let w : OpensWell put a b s = opened-well put a b s t in
      let h : ReceiverAfter = opened-by put a b s in
      let r : ReceiverState = opened_receiver s.addressing in
      let truth : IsTrueBetween put a.sender (Some r) a.forth a.back a.told a.told_there = as-opened put s.addressing a.sender a.forth a.back a.told a.told_there
      (subst (λ o. IsTrueBetween put a.sender o a.forth a.back a.told a.told_there) s.none c.truth) in
      ap knows_ending w.receiver
      ∙ advances-unknown put s.heard r h.receiver h.told (hears-advances put Done s.large map.empty s.files r truth.receiver s.own s.heard t (tells-well put false h.told w.good).good)
      (parts s.rest s.heard s.front).0 refl

  settles-unheard : Settles put a b → Unheard b
  settles-unheard (inl s) =
      let other : s.due ≢ dues.Eof = (λ e. sends-none a.sender u.eof.taken u.eof.undue c.truth.not_cancelled (s.is_due ∙ ap Some e)) in
      let k = sends-still put.octets a.sender s.due other in
      subst Unheard (sym s.is) (record {
        eof = record {
          taken = k.0.taken ∙ u.eof.taken;
          undue = k.0.undue u.eof.undue;
          none_forth = list_any-append is_eof a.forth (sender_says put.octets a.sender s.due ∷ [])
              ∙ or_from (one_says is_eof a.forth) _ u.eof.none_forth (or_from (is_eof (sender_says put.octets a.sender s.due)) false k.1 refl);
        };
        unknown = u.unknown;
      })
  settles-unheard (inr (inl s)) = subst Unheard (sym s.is) (record { eof = still-eof s.after.sender (hears-still s.heard a.sender s.after s.is_after); unknown = u.unknown })
  settles-unheard (inr (inr (inl s))) = subst Unheard (sym s.is) (record { eof = u.eof; unknown = u.unknown })
  settles-unheard (inr (inr (inr (inl s)))) = subst Unheard (sym s.is) (record { eof = u.eof; unknown = taken-still s.receiver s.due ∙ unknown-at s.receiver s.is_receiver })
  settles-unheard (inr (inr (inr (inr (inl s))))) = subst Unheard (sym s.is) (record { eof = rest-eof s.rest s.heard s.front; unknown = hears-unknown s })
  settles-unheard (inr (inr (inr (inr (inr (inl s)))))) = subst Unheard (sym s.is) (record { eof = rest-eof s.rest s.heard s.front; unknown = u.unknown })
  settles-unheard (inr (inr (inr (inr (inr (inr (inl s))))))) = subst Unheard (sym s.is) (record { eof = rest-eof s.rest s.heard s.front; unknown = opens-unknown s })
  settles-unheard (inr (inr (inr (inr (inr (inr (inr (inl s)))))))) = subst Unheard (sym s.is) (record { eof = rest-eof s.rest s.heard s.front; unknown = u.unknown })
  settles-unheard (inr (inr (inr (inr (inr (inr (inr (inr (inl s))))))))) = subst Unheard (sym s.is) (record {
    eof = record { taken = u.eof.taken; undue = u.eof.undue; none_forth = swapped-says is_eof a.forth s.forth s.swaps ∙ u.eof.none_forth };
    unknown = u.unknown;
  })
  settles-unheard (inr (inr (inr (inr (inr (inr (inr (inr (inr s))))))))) = subst Unheard (sym s.is) (record { eof = u.eof; unknown = u.unknown })

runs-unheard : (n : ℕ) (put : Put) (a b : Exchange) → a.sender.size ≡ length put.octets → CourseIn put false false false false a → Unheard a → Runs n put a b → Unheard b
unfolding Runs
runs-unheard zero put a b size c u runs = subst Unheard (sym runs) u
runs-unheard (suc n) put a b size c u runs =
    settles-unheard put runs.0 b (runs-course n put false false false false a runs.0 size c runs.1.0) (runs-unheard n put a runs.0 size c u runs.1.0) runs.1.1

not-finishing : (o : Option ReceiverState) → maybe knows_ending o ≡ false → maybe finishes o ≡ false
not-finishing None h = refl
not-finishing (Some r) h = from r.phase h
  where
    from : (phase : ReceiverPhase) → once_ended phase (is_some r.ending) ≡ false → is_finishing phase ≡ false
    from receiving.Receiving h = refl
    from receiving.Finishing h = absurd (true≢false h)
    from receiving.Closed h = refl

alone : (put : Put) (a : Exchange) → IsActiveCourse put a → CourseIn put false false false false a
alone put a c = record { truth = c.truth; active = λ f. absurd (false≢true f); ack_comes = c.ack_comes; file_comes = c.file_comes; end_comes = c.end_comes }

-- A run to rest in which the receiver knows no EOF, or there is none: it is complete, or no EOF is
-- known still.
pub first-settle : (n : ℕ) (put : Put) (a b : Exchange) → a.sender.size ≡ length put.octets → 1 ≤ a.sender.segment → IsActiveCourse put a → maybe knows_ending a.receiver ≡ false → Runs n put a b →
    IsAtRest b
    → IsCompleteExchange b ⊎ (maybe knows_ending b.receiver ≡ false)
first-settle n put a b size some c unknown runs rests =
    let keeps : ExchangeKeeps a b = runs-keep n put a b runs in
    elim (eof-or-none put a.sender a.receiver a.forth a.back a.told a.told_there c.truth unknown) [
      | inl comes ↦ inl (course-completes put true true true b (subst (λ s. 1 ≤ s) (sym keeps.sender.segment) some)
          (runs-course n put true true true true a b size (eof-brings-all put true a c comes (λ _. not-finishing a.receiver unknown)) runs) rests refl refl)
      | inr none ↦ inr (runs-unheard n put a b size (alone put a c) (record { eof = none; unknown = unknown }) runs).unknown
    ]
