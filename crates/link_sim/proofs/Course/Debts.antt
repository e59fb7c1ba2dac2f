-- As long as nothing is lost, each step keeps each debt of a put.
use Rattle.std.proofs.Common.{◌≡◌, ◌⊎◌, inl, inr, ℕ, ◌<◌, Bool, true, false, List, [], ◌∷◌, ◌++◌, length, Option, Some, None, is_some, refl, sym, ap, ◌∙◌}
use Rattle.std.proofs.lemmas.List.Folds.{list_any-append}
use Rattle.std.proofs.lemmas.Bool.{false≢true, both_ways, or_from, cases_Bool}
use Rattle.cfdp_directives.specs.declared.pdu.addressing.Addressing.{Addressing}
use Rattle.cfdp_directives.specs.declared.user.indication.Indication.{Indication}
use Rattle.cfdp_directives.specs.Pdu.Content.{Content}
use Rattle.cfdp_directives.specs.User.Put.{Put}
use Rattle.cfdp_sender.specs.declared.phase.SenderPhase.TheVariants as sending
use Rattle.cfdp_sender.specs.State.{SenderState}
use Rattle.cfdp_receiver.specs.declared.state.ReceiverPhase.{ReceiverPhase}
use Rattle.cfdp_receiver.specs.declared.state.ReceiverPhase.TheVariants as receiving
use Rattle.cfdp_receiver.specs.State.{ReceiverState, opened_receiver, is_finishing}
use Rattle.link_sim.specs.Course.{EofAgain, EofComes, Comes, AsksFirst, AsksFrom, owes_metadata, owes_octet, MetadataComes, OctetComes, FileComes, AckComes, EndComes}
use Rattle.link_sim.specs.Exchange.{is_metadata, is_eof, is_finished, is_ack_of_finished, is_ack_of_eof, brings, names, names_metadata, one_says, knows_metadata, knows_ending, holds, has_finished, finishes, is_closed_in, finished_is_due, owes_ack}
use Rattle.link_sim.proofs.Course.Lists.{waits-comes, waits-stays, waits-sent, waits-new, waits-old, waits-more}
use Rattle.link_sim.proofs.Course.SenderSteps.{Sends, Stays}
use Rattle.link_sim.proofs.Course.Steps.{Advances}

-- Metadata is known, or asked for
abbrev pub OwesMetadata : ReceiverState → Type 0
OwesMetadata r = (knows_metadata r ≡ true) ⊎ AsksFirst r

-- an octet is held, or asked for
abbrev pub OwesOctet : ℕ → ReceiverState → Type 0
OwesOctet n r = (holds n r ≡ true) ⊎ AsksFrom n r

not-then : (b c : Bool) → (b ≡ true → c ≡ true) → c ≡ false → b ≡ false
not-then true c h e = absurd (both_ways c e (h refl))
not-then false c h e = refl

-- ---- an EOF that comes
eof-hears : (x : SenderState) (r r1 : ReceiverState) (before after back : List Content) (v : Content) → (owes_ack r1 ≡ true → (owes_ack r ≡ true) ⊎ (is_eof v ≡ true))
    → EofComes x (Some r) (before ++ v ∷ after) back → EofComes x (Some r1) (before ++ after) back ⊎ (is_eof v ≡ true)
eof-hears x r r1 before after back v acks (inl not_taken) = inl (inl not_taken)
eof-hears x r r1 before after back v acks (inr (inl w)) = elim (waits-comes is_eof before after v w) [ inl here ↦ inr here | inr still ↦ inl (inr (inl still)) ]
eof-hears x r r1 before after back v acks (inr (inr again)) = elim (cases_Bool (is_eof v)) [
  | inl here ↦ inr here
  | inr other ↦ inl (inr (inr (record {
    due = again.due;
    none_back = again.none_back;
    none_due = not-then (owes_ack r1) (owes_ack r) (λ h. elim (acks h) [ inl was ↦ was | inr here ↦ absurd (both_ways (is_eof v) other here) ]) again.none_due;
  })))
]

eof-opened : (addressing : Addressing) (x : SenderState) (forth back : List Content) → EofComes x None forth back → EofComes x (Some (opened_receiver addressing)) forth back
eof-opened addressing x forth back (inl not_taken) = inl not_taken
eof-opened addressing x forth back (inr (inl w)) = inr (inl w)
eof-opened addressing x forth back (inr (inr again)) = inr (inr (record { due = again.due; none_due = refl; none_back = again.none_back }))

eof-none : (x : SenderState) (o : Option ReceiverState) (before after back : List Content) (v : Content) → is_eof v ≡ false → EofComes x o (before ++ v ∷ after) back →
    EofComes x o (before ++ after) back
eof-none x o before after back v other (inl not_taken) = inl not_taken
eof-none x o before after back v other (inr (inl w)) = elim (waits-comes is_eof before after v w) [ inl here ↦ absurd (both_ways (is_eof v) other here) | inr still ↦ inr (inl still) ]
eof-none x o before after back v other (inr (inr again)) = inr (inr again)

eof-sends : (x x1 : SenderState) (o : Option ReceiverState) (forth back : List Content) (v : Content) → (x.eof_taken ≡ false → (x1.eof_taken ≡ false) ⊎ (is_eof v ≡ true)) →
    (x.eof_due ≡ true → (x1.eof_due ≡ true) ⊎ (is_eof v ≡ true))
    → EofComes x o forth back → EofComes x1 o (forth ++ v ∷ []) back
eof-sends x x1 o forth back v first again (inl not_taken) = elim (first not_taken) [ inl still ↦ inl still | inr here ↦ inr (inl (waits-new is_eof forth v here)) ]
eof-sends x x1 o forth back v first again (inr (inl w)) = inr (inl (waits-sent is_eof forth v w))
eof-sends x x1 o forth back v first again (inr (inr a)) = elim (again a.due) [
  | inl still ↦ inr (inr (record { due = still; none_due = a.none_due; none_back = a.none_back }))
  | inr here ↦ inr (inl (waits-new is_eof forth v here))
]

eof-stays : (x x1 : SenderState) (o : Option ReceiverState) (forth back : List Content) → x1.eof_taken ≡ x.eof_taken → (EofAgain x o back → x1.eof_due ≡ true) → EofComes x o forth back →
    EofComes x1 o forth back
eof-stays x x1 o forth back same again (inl not_taken) = inl (same ∙ not_taken)
eof-stays x x1 o forth back same again (inr (inl w)) = inr (inl w)
eof-stays x x1 o forth back same again (inr (inr a)) = inr (inr (record { due = again a; none_due = a.none_due; none_back = a.none_back }))

eof-drops : (x : SenderState) (o : Option ReceiverState) (forth before after : List Content) (v : Content) → EofComes x o forth (before ++ v ∷ after) → EofComes x o forth (before ++ after)
eof-drops x o forth before after v (inl not_taken) = inl not_taken
eof-drops x o forth before after v (inr (inl w)) = inr (inl w)
eof-drops x o forth before after v (inr (inr a)) = inr (inr (record {
  due = a.due;
  none_due = a.none_due;
  none_back =
      not-then (one_says is_ack_of_eof (before ++ after)) (one_says is_ack_of_eof (before ++ v ∷ after)) (waits-stays is_ack_of_eof before after v) a.none_back;
}))

eof-does : (x : SenderState) (r r1 : ReceiverState) (forth back more : List Content) → (owes_ack r1 ≡ true → owes_ack r ≡ true) → (one_says is_ack_of_eof more ≡ true → owes_ack r ≡ true) →
    EofComes x (Some r) forth back → EofComes x (Some r1) forth (back ++ more)
eof-does x r r1 forth back more due acks (inl not_taken) = inl not_taken
eof-does x r r1 forth back more due acks (inr (inl w)) = inr (inl w)
eof-does x r r1 forth back more due acks (inr (inr a)) = inr (inr (record {
  due = a.due;
  none_due = not-then (owes_ack r1) (owes_ack r) due a.none_due;
  none_back = list_any-append is_ack_of_eof back more ∙ or_from (one_says is_ack_of_eof back) (one_says is_ack_of_eof more) a.none_back
      (not-then (one_says is_ack_of_eof more) (owes_ack r) acks a.none_due);
}))

-- ---- a wanted thing
module _ (due : SenderState → Bool) (brings : Content → Bool) (known : ReceiverState → Bool) (named : Content → Bool) (Asks : ReceiverState → Type 0) where
  abbrev Thing : SenderState → Option ReceiverState → List Content → List Content → Type 0
  Thing x o forth back = Comes due brings known named Asks x o forth back

  pub thing-hears : (x : SenderState) (r r1 : ReceiverState) (before after back : List Content) (v : Content) → (owes_ack r1 ≡ true → (owes_ack r ≡ true) ⊎ (is_eof v ≡ true))
      → ((known r ≡ true) ⊎ (brings v ≡ true) → known r1 ≡ true) → (Asks r → (known r1 ≡ true) ⊎ Asks r1) → (is_eof v ≡ true → (known r1 ≡ true) ⊎ Asks r1)
      → Thing x (Some r) (before ++ v ∷ after) back → Thing x (Some r1) (before ++ after) back
  thing-hears x r r1 before after back v acks knows asks first (inl e) = elim (eof-hears x r r1 before after back v acks e) [
    | inl still ↦ inl still
    | inr here ↦ elim (first here) [ inl k ↦ inr (inr (inr (inl k))) | inr a ↦ inr (inr (inr (inr (inr a)))) ]
  ]
  thing-hears x r r1 before after back v acks knows asks first (inr (inl d)) = inr (inl d)
  thing-hears x r r1 before after back v acks knows asks first (inr (inr (inl w))) =
      elim (waits-comes brings before after v w) [ inl here ↦ inr (inr (inr (inl (knows (inr here))))) | inr still ↦ inr (inr (inl still)) ]
  thing-hears x r r1 before after back v acks knows asks first (inr (inr (inr (inl k)))) = inr (inr (inr (inl (knows (inl k)))))
  thing-hears x r r1 before after back v acks knows asks first (inr (inr (inr (inr (inl n))))) = inr (inr (inr (inr (inl n))))
  thing-hears x r r1 before after back v acks knows asks first (inr (inr (inr (inr (inr a))))) = elim (asks a) [ inl k ↦ inr (inr (inr (inl k))) | inr a1 ↦ inr (inr (inr (inr (inr a1)))) ]

  pub thing-opened : (addressing : Addressing) (x : SenderState) (forth back : List Content) → Thing x None forth back → Thing x (Some (opened_receiver addressing)) forth back
  thing-opened addressing x forth back (inl e) = inl (eof-opened addressing x forth back e)
  thing-opened addressing x forth back (inr (inl d)) = inr (inl d)
  thing-opened addressing x forth back (inr (inr (inl w))) = inr (inr (inl w))
  thing-opened addressing x forth back (inr (inr (inr (inl k)))) = absurd (false≢true k)
  thing-opened addressing x forth back (inr (inr (inr (inr (inl n))))) = inr (inr (inr (inr (inl n))))
  thing-opened addressing x forth back (inr (inr (inr (inr (inr a))))) = absurd a

  pub thing-none : (x : SenderState) (o : Option ReceiverState) (before after back : List Content) (v : Content) → is_eof v ≡ false → brings v ≡ false → Thing x o (before ++ v ∷ after) back →
      Thing x o (before ++ after) back
  thing-none x o before after back v other useless (inl e) = inl (eof-none x o before after back v other e)
  thing-none x o before after back v other useless (inr (inl d)) = inr (inl d)
  thing-none x o before after back v other useless (inr (inr (inl w))) =
      elim (waits-comes brings before after v w) [ inl here ↦ absurd (both_ways (brings v) useless here) | inr still ↦ inr (inr (inl still)) ]
  thing-none x o before after back v other useless (inr (inr (inr rest))) = inr (inr (inr rest))

  pub thing-sends : (x x1 : SenderState) (o : Option ReceiverState) (forth back : List Content) (v : Content) → (x.eof_taken ≡ false → (x1.eof_taken ≡ false) ⊎ (is_eof v ≡ true)) →
      (x.eof_due ≡ true → (x1.eof_due ≡ true) ⊎ (is_eof v ≡ true))
      → (due x ≡ true → (due x1 ≡ true) ⊎ (brings v ≡ true)) → Thing x o forth back → Thing x1 o (forth ++ v ∷ []) back
  thing-sends x x1 o forth back v first again owes (inl e) = inl (eof-sends x x1 o forth back v first again e)
  thing-sends x x1 o forth back v first again owes (inr (inl d)) = elim (owes d) [ inl still ↦ inr (inl still) | inr here ↦ inr (inr (inl (waits-new brings forth v here))) ]
  thing-sends x x1 o forth back v first again owes (inr (inr (inl w))) = inr (inr (inl (waits-sent brings forth v w)))
  thing-sends x x1 o forth back v first again owes (inr (inr (inr rest))) = inr (inr (inr rest))

  pub thing-stays : (x x1 : SenderState) (o : Option ReceiverState) (forth back : List Content) → x1.eof_taken ≡ x.eof_taken → (EofAgain x o back → x1.eof_due ≡ true) →
      (due x ≡ true → due x1 ≡ true) → Thing x o forth back → Thing x1 o forth back
  thing-stays x x1 o forth back same again owes (inl e) = inl (eof-stays x x1 o forth back same again e)
  thing-stays x x1 o forth back same again owes (inr (inl d)) = inr (inl (owes d))
  thing-stays x x1 o forth back same again owes (inr (inr rest)) = inr (inr rest)

  pub thing-drops : (x : SenderState) (o : Option ReceiverState) (forth before after : List Content) (v : Content) → (named v ≡ true → Thing x o forth (before ++ after)) →
      Thing x o forth (before ++ v ∷ after) → Thing x o forth (before ++ after)
  thing-drops x o forth before after v heard (inl e) = inl (eof-drops x o forth before after v e)
  thing-drops x o forth before after v heard (inr (inl d)) = inr (inl d)
  thing-drops x o forth before after v heard (inr (inr (inl w))) = inr (inr (inl w))
  thing-drops x o forth before after v heard (inr (inr (inr (inl k)))) = inr (inr (inr (inl k)))
  thing-drops x o forth before after v heard (inr (inr (inr (inr (inl n))))) = elim (waits-comes named before after v n) [ inl here ↦ heard here | inr still ↦ inr (inr (inr (inr (inl still)))) ]
  thing-drops x o forth before after v heard (inr (inr (inr (inr (inr a))))) = inr (inr (inr (inr (inr a))))

  pub thing-does : (x : SenderState) (r r1 : ReceiverState) (forth back more : List Content) → (owes_ack r1 ≡ true → owes_ack r ≡ true) → (one_says is_ack_of_eof more ≡ true → owes_ack r ≡ true)
      → (known r ≡ true → known r1 ≡ true) → (Asks r → (one_says named more ≡ true) ⊎ ((known r1 ≡ true) ⊎ Asks r1)) → Thing x (Some r) forth back → Thing x (Some r1) forth (back ++ more)
  thing-does x r r1 forth back more still acks knows asks (inl e) = inl (eof-does x r r1 forth back more still acks e)
  thing-does x r r1 forth back more still acks knows asks (inr (inl d)) = inr (inl d)
  thing-does x r r1 forth back more still acks knows asks (inr (inr (inl w))) = inr (inr (inl w))
  thing-does x r r1 forth back more still acks knows asks (inr (inr (inr (inl k)))) = inr (inr (inr (inl (knows k))))
  thing-does x r r1 forth back more still acks knows asks (inr (inr (inr (inr (inl n))))) = inr (inr (inr (inr (inl (waits-old named back more n)))))
  thing-does x r r1 forth back more still acks knows asks (inr (inr (inr (inr (inr a))))) = elim (asks a) [
    | inl here ↦ inr (inr (inr (inr (inl (waits-more named back more here)))))
    | inr rest ↦ elim rest [ inl k ↦ inr (inr (inr (inl k))) | inr a1 ↦ inr (inr (inr (inr (inr a1)))) ]
  ]

-- ---- the receiver hears
-- what it asks for it still asks for, and an EOF makes it ask for all
pub record StillAsks (n : ℕ) (v : Content) (r r1 : ReceiverState) : Type 0 where
  pub metadata : AsksFirst r → OwesMetadata r1
  pub octets : (k : ℕ) → k < n → AsksFrom k r → OwesOctet k r1
  pub eof_metadata : is_eof v ≡ true → OwesMetadata r1
  pub eof_octets : (k : ℕ) → k < n → is_eof v ≡ true → OwesOctet k r1

module _ (put : Put) where
  pub hears-file : (x : SenderState) (r r1 : ReceiverState) (before after back : List Content) (v : Content) (told : List Indication) → Advances put v r r1 told → StillAsks (length put.octets) v r r1
      → FileComes put x (Some r) (before ++ v ∷ after) back → FileComes put x (Some r1) (before ++ after) back
  hears-file x r r1 before after back v told a s c = record {
    metadata = thing-hears owes_metadata is_metadata knows_metadata names_metadata AsksFirst x r r1 before after back v a.ack_new a.metadata s.metadata s.eof_metadata c.metadata;
    octets = λ k below. thing-hears (owes_octet k) (brings k) (holds k) (names k) (AsksFrom k) x r r1 before after back v a.ack_new (a.held k) (s.octets k below) (s.eof_octets k below)
        (c.octets k below);
    ending = elim c.ending [
      | inl e ↦ elim (eof-hears x r r1 before after back v a.ack_new e) [ inl still ↦ inl still | inr here ↦ inr (a.ending (inr here)) ]
      | inr known ↦ inr (a.ending (inl known))
    ];
  }

  pub hears-ack : (x : SenderState) (r r1 : ReceiverState) (before after back : List Content) (v : Content) (told : List Indication) → Advances put v r r1 told
      → AckComes x (Some r) (before ++ v ∷ after) back → AckComes x (Some r1) (before ++ after) back
  hears-ack x r r1 before after back v told a c is = elim (c is) [
    | inl acknowledged ↦ inl acknowledged
    | inr rest ↦ elim rest [
      | inl e ↦ elim (eof-hears x r r1 before after back v a.ack_new e) [ inl still ↦ inr (inl still) | inr here ↦ inr (inr (inl (a.acks (inr here)))) ]
      | inr later ↦ elim later [ inl owes ↦ inr (inr (inl (a.acks (inl owes)))) | inr w ↦ inr (inr (inr w)) ]
    ]
  ]

  pub hears-end : (x : SenderState) (r r1 : ReceiverState) (before after back : List Content) (v : Content) (told : List Indication) → Advances put v r r1 told →
      (is_ack_of_finished v ≡ true → has_finished r ≡ true)
      → EndComes x (Some r) (before ++ v ∷ after) back → EndComes x (Some r1) (before ++ after) back
  hears-end x r r1 before after back v told a over c h = elim (a.due h) [
    | inl due ↦ inl due
    | inr was ↦ elim (c was.0) [
      | inl due ↦ inl (was.1 ∙ due)
      | inr rest ↦ elim rest [
        | inl w ↦ inr (inl w)
        | inr later ↦ elim later [
          | inl due ↦ inr (inr (inl due))
          | inr w ↦ elim (waits-comes is_ack_of_finished before after v w) [ inl here ↦ absurd (never r1.phase h (a.closed (inr (here, over here)))) | inr still ↦ inr (inr (inr still)) ]
        ]
      ]
    ]
  ]
    where
      never : (phase : ReceiverPhase) → is_finishing phase ≡ true → is_closed_in phase ≡ true → ⊥
      never receiving.Receiving f c = false≢true f
      never receiving.Finishing f c = false≢true c
      never receiving.Closed f c = false≢true f

-- ---- there is no receiver
module _ (put : Put) where
  pub opened-file : (addressing : Addressing) (x : SenderState) (forth back : List Content) → FileComes put x None forth back → FileComes put x (Some (opened_receiver addressing)) forth back
  opened-file addressing x forth back c = record {
    metadata = thing-opened owes_metadata is_metadata knows_metadata names_metadata AsksFirst addressing x forth back c.metadata;
    octets = λ k below. thing-opened (owes_octet k) (brings k) (holds k) (names k) (AsksFrom k) addressing x forth back (c.octets k below);
    ending = elim c.ending [ inl e ↦ inl (eof-opened addressing x forth back e) | inr known ↦ absurd (false≢true known) ];
  }

  pub none-file : (x : SenderState) (o : Option ReceiverState) (before after back : List Content) (v : Content) → is_metadata v ≡ false → is_eof v ≡ false → ((k : ℕ) → brings k v ≡ false) →
      FileComes put x o (before ++ v ∷ after) back → FileComes put x o (before ++ after) back
  none-file x o before after back v m e d c = record {
    metadata = thing-none owes_metadata is_metadata knows_metadata names_metadata AsksFirst x o before after back v e m c.metadata;
    octets = λ k below. thing-none (owes_octet k) (brings k) (holds k) (names k) (AsksFrom k) x o before after back v e (d k) (c.octets k below);
    ending = elim c.ending [ inl comes ↦ inl (eof-none x o before after back v e comes) | inr known ↦ inr known ];
  }

  pub opened-ack : (addressing : Addressing) (x : SenderState) (forth back : List Content) → AckComes x None forth back → AckComes x (Some (opened_receiver addressing)) forth back
  opened-ack addressing x forth back c is = elim (c is) [
    | inl acknowledged ↦ inl acknowledged
    | inr rest ↦ elim rest [ inl e ↦ inr (inl (eof-opened addressing x forth back e)) | inr later ↦ inr (inr later) ]
  ]

  pub none-ack : (x : SenderState) (o : Option ReceiverState) (before after back : List Content) (v : Content) → is_eof v ≡ false → AckComes x o (before ++ v ∷ after) back →
      AckComes x o (before ++ after) back
  none-ack x o before after back v e c is = elim (c is) [
    | inl acknowledged ↦ inl acknowledged
    | inr rest ↦ elim rest [ inl comes ↦ inr (inl (eof-none x o before after back v e comes)) | inr later ↦ inr (inr later) ]
  ]

  pub opened-end : (addressing : Addressing) (x : SenderState) (forth back : List Content) → EndComes x (Some (opened_receiver addressing)) forth back
  opened-end addressing x forth back h = absurd (false≢true h)

  pub none-end : (x : SenderState) (forth back : List Content) → EndComes x None forth back
  none-end x forth back h = absurd (false≢true h)

-- ---- the sender sends
module _ (put : Put) where
  pub sends-file : (x x1 : SenderState) (o : Option ReceiverState) (forth back : List Content) (v : Content) → Sends put v x x1 → FileComes put x o forth back →
      FileComes put x1 o (forth ++ v ∷ []) back
  sends-file x x1 o forth back v s c = record {
    metadata = thing-sends owes_metadata is_metadata knows_metadata names_metadata AsksFirst x x1 o forth back v s.eof s.eof_due s.metadata c.metadata;
    octets = λ k below. thing-sends (owes_octet k) (brings k) (holds k) (names k) (AsksFrom k) x x1 o forth back v s.eof s.eof_due (s.octets k) (c.octets k below);
    ending = elim c.ending [ inl comes ↦ inl (eof-sends x x1 o forth back v s.eof s.eof_due comes) | inr known ↦ inr known ];
  }

  pub sends-ack : (x x1 : SenderState) (o : Option ReceiverState) (forth back : List Content) (v : Content) → Sends put v x x1 → AckComes x o forth back → AckComes x1 o (forth ++ v ∷ []) back
  sends-ack x x1 o forth back v s c is = elim (c (sym s.phase ∙ is)) [
    | inl acknowledged ↦ inl (s.acknowledged ∙ acknowledged)
    | inr rest ↦ elim rest [ inl comes ↦ inr (inl (eof-sends x x1 o forth back v s.eof s.eof_due comes)) | inr later ↦ inr (inr later) ]
  ]

  pub sends-end : (x x1 : SenderState) (o : Option ReceiverState) (forth back : List Content) (v : Content) → Sends put v x x1 → EndComes x o forth back → EndComes x1 o (forth ++ v ∷ []) back
  sends-end x x1 o forth back v s c h = elim (c h) [
    | inl due ↦ inl due
    | inr rest ↦ elim rest [
      | inl w ↦ inr (inl w)
      | inr later ↦ elim later [
        | inl due ↦ elim (s.ack due) [ inl still ↦ inr (inr (inl still)) | inr here ↦ inr (inr (inr (waits-new is_ack_of_finished forth v here))) ]
        | inr w ↦ inr (inr (inr (waits-sent is_ack_of_finished forth v w)))
      ]
    ]
  ]

  -- ---- what else it does; an EOF that is due again stays so, if no ACK can have come
  pub stays-file : (x x1 : SenderState) (o : Option ReceiverState) (forth back : List Content) → Stays x x1 → (EofAgain x o back → x1.eof_due ≡ true) → FileComes put x o forth back →
      FileComes put x1 o forth back
  stays-file x x1 o forth back s again c = record {
    metadata = thing-stays owes_metadata is_metadata knows_metadata names_metadata AsksFirst x x1 o forth back s.eof again s.metadata c.metadata;
    octets = λ k below. thing-stays (owes_octet k) (brings k) (holds k) (names k) (AsksFrom k) x x1 o forth back s.eof again (s.octets k) (c.octets k below);
    ending = elim c.ending [ inl comes ↦ inl (eof-stays x x1 o forth back s.eof again comes) | inr known ↦ inr known ];
  }

  pub stays-ack : (x x1 : SenderState) (o : Option ReceiverState) (forth back : List Content) → Stays x x1 → (EofAgain x o back → x1.eof_due ≡ true) → AckComes x o forth back →
      AckComes x1 o forth back
  stays-ack x x1 o forth back s again c is = elim (c (sym s.phase ∙ is)) [
    | inl acknowledged ↦ inl (s.acknowledged acknowledged)
    | inr rest ↦ elim rest [ inl comes ↦ inr (inl (eof-stays x x1 o forth back s.eof again comes)) | inr later ↦ inr (inr later) ]
  ]

  pub stays-end : (x x1 : SenderState) (o : Option ReceiverState) (forth back : List Content) → Stays x x1 → EndComes x o forth back → EndComes x1 o forth back
  stays-end x x1 o forth back s c h = elim (c h) [
    | inl due ↦ inl due
    | inr rest ↦ elim rest [ inl w ↦ inr (inl w) | inr later ↦ elim later [ inl due ↦ inr (inr (inl (ap is_some s.ack ∙ due))) | inr w ↦ inr (inr (inr w)) ] ]
  ]

  -- ---- a PDU that came is no longer on its way
  pub drops-file : (x : SenderState) (o : Option ReceiverState) (forth before after : List Content) (v : Content) → (names_metadata v ≡ true → MetadataComes x o forth (before ++ after)) →
      ((k : ℕ) → k < length put.octets → names k v ≡ true → OctetComes k x o forth (before ++ after))
      → FileComes put x o forth (before ++ v ∷ after) → FileComes put x o forth (before ++ after)
  drops-file x o forth before after v m d c = record {
    metadata = thing-drops owes_metadata is_metadata knows_metadata names_metadata AsksFirst x o forth before after v m c.metadata;
    octets = λ k below. thing-drops (owes_octet k) (brings k) (holds k) (names k) (AsksFrom k) x o forth before after v (d k below) (c.octets k below);
    ending = elim c.ending [ inl comes ↦ inl (eof-drops x o forth before after v comes) | inr known ↦ inr known ];
  }

  pub drops-ack : (x : SenderState) (o : Option ReceiverState) (forth before after : List Content) (v : Content) → (is_ack_of_eof v ≡ true → x.phase ≡ sending.Sending → x.acknowledged ≡ true) →
      AckComes x o forth (before ++ v ∷ after) → AckComes x o forth (before ++ after)
  drops-ack x o forth before after v acks c is = elim (c is) [
    | inl acknowledged ↦ inl acknowledged
    | inr rest ↦ elim rest [
      | inl comes ↦ inr (inl (eof-drops x o forth before after v comes))
      | inr later ↦ elim later [
        | inl owes ↦ inr (inr (inl owes))
        | inr w ↦ elim (waits-comes is_ack_of_eof before after v w) [ inl here ↦ inl (acks here is) | inr still ↦ inr (inr (inr still)) ]
      ]
    ]
  ]

  pub drops-end : (x : SenderState) (o : Option ReceiverState) (forth before after : List Content) (v : Content) → (is_finished v ≡ true → is_some x.ack_due ≡ true) →
      EndComes x o forth (before ++ v ∷ after) → EndComes x o forth (before ++ after)
  drops-end x o forth before after v due c h = elim (c h) [
    | inl owes ↦ inl owes
    | inr rest ↦ elim rest [
      | inl w ↦ elim (waits-comes is_finished before after v w) [ inl here ↦ inr (inr (inl (due here))) | inr still ↦ inr (inl still) ]
      | inr later ↦ inr (inr later)
    ]
  ]

  -- ---- the receiver sends, or a timer of it expires
  pub does-file : (x : SenderState) (r r1 : ReceiverState) (forth back more : List Content) → (owes_ack r1 ≡ true → owes_ack r ≡ true) → (one_says is_ack_of_eof more ≡ true → owes_ack r ≡ true)
      → (knows_metadata r ≡ true → knows_metadata r1 ≡ true) → ((k : ℕ) → holds k r ≡ true → holds k r1 ≡ true) → (knows_ending r ≡ true → knows_ending r1 ≡ true)
      → (AsksFirst r → (one_says names_metadata more ≡ true) ⊎ OwesMetadata r1) →
      ((k : ℕ) → k < length put.octets → AsksFrom k r → (one_says (names k) more ≡ true) ⊎ ((holds k r1 ≡ true) ⊎ AsksFrom k r1))
      → FileComes put x (Some r) forth back → FileComes put x (Some r1) forth (back ++ more)
  does-file x r r1 forth back more still acks m h e asks_metadata asks c = record {
    metadata = thing-does owes_metadata is_metadata knows_metadata names_metadata AsksFirst x r r1 forth back more still acks m asks_metadata c.metadata;
    octets = λ k below. thing-does (owes_octet k) (brings k) (holds k) (names k) (AsksFrom k) x r r1 forth back more still acks (h k) (asks k below) (c.octets k below);
    ending = elim c.ending [ inl comes ↦ inl (eof-does x r r1 forth back more still acks comes) | inr known ↦ inr (e known) ];
  }

  pub does-ack : (x : SenderState) (r r1 : ReceiverState) (forth back more : List Content) → (owes_ack r1 ≡ true → owes_ack r ≡ true) → (one_says is_ack_of_eof more ≡ true → owes_ack r ≡ true) →
      (owes_ack r ≡ true → (owes_ack r1 ≡ true) ⊎ (one_says is_ack_of_eof more ≡ true))
      → AckComes x (Some r) forth back → AckComes x (Some r1) forth (back ++ more)
  does-ack x r r1 forth back more still acks owes c is = elim (c is) [
    | inl acknowledged ↦ inl acknowledged
    | inr rest ↦ elim rest [
      | inl comes ↦ inr (inl (eof-does x r r1 forth back more still acks comes))
      | inr later ↦ elim later [
        | inl was ↦ elim (owes was) [ inl due ↦ inr (inr (inl due)) | inr here ↦ inr (inr (inr (waits-more is_ack_of_eof back more here))) ]
        | inr w ↦ inr (inr (inr (waits-old is_ack_of_eof back more w)))
      ]
    ]
  ]

  pub does-end : (x : SenderState) (r r1 : ReceiverState) (forth back more : List Content) → (finishes r1 ≡ true → finishes r ≡ true) →
      (finished_is_due r ≡ true → (finished_is_due r1 ≡ true) ⊎ (one_says is_finished more ≡ true))
      → EndComes x (Some r) forth back → EndComes x (Some r1) forth (back ++ more)
  does-end x r r1 forth back more phase owes c h = elim (c (phase h)) [
    | inl was ↦ elim (owes was) [ inl now ↦ inl now | inr here ↦ inr (inl (waits-more is_finished back more here)) ]
    | inr rest ↦ elim rest [ inl w ↦ inr (inl (waits-old is_finished back more w)) | inr later ↦ inr (inr later) ]
  ]
