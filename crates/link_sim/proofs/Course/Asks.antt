-- What a NAK asks for, what a sender must do that hears it, and that a receiver goes on asking for
-- what it misses: an EOF, and an expiry of Nak, make it ask for all.
use Rattle.std.proofs.Common.{◌≡◌, ◌⊎◌, inl, inr, ℕ, zero, suc, ◌+◌, ◌-◌, ◌<◌, ◌≤◌, min, Bool, true, false, not, ◌==◌, ◌&&◌, nat_lt, nat_le, List, [], ◌∷◌, ◌++◌, length, take, Option, Some, None, is_none, is_some, refl, sym, ap, subst, ◌∙◌, arith, if◌then◌else◌}
use Rattle.std.specs.Prelude.{IfSome}
use Rattle.std.specs.List.{list_any}
use Rattle.std.specs.FinSet as set
use Rattle.std.specs.Cmp.{nat_cmp_total}
use Rattle.std.proofs.lemmas.Bool.{false≢true, true≢false, both_ways, cond_both, and_parts, and_from, or_left, or_right, or_cases, le-leb, lt-ltb, leb-true, ltb-true, ltb-false, cases_lt, cases_eq, eqb-true, cases_Bool, not_from_false}
use Rattle.cfdp_header.specs.Files.{FileMap}
use Rattle.cfdp_directives.specs.declared.pdu.codes.Acknowledged.TheVariants as acknowledged
use Rattle.cfdp_directives.specs.declared.user.indication.Indication.TheVariants as indication
use Rattle.cfdp_directives.specs.Pdu.Codes.{no_error, file_checksum_failure, file_size_error, unsupported_checksum_type}
use Rattle.cfdp_directives.specs.Pdu.Content.{Content, FileData, Metadata, Eof, Finished, Ack, Nak, Prompt, KeepAlive}
use Rattle.cfdp_directives.specs.User.Put.{Put}
use Rattle.cfdp_extents.specs.Offsets.{Offsets, range, is_within, AreApart, StartBehind}
use Rattle.cfdp_extents.specs.Terms.{joined, ranges_in, gaps_of, end_of}
use Rattle.cfdp_extents.proofs.Members.{InRanges}
use Rattle.cfdp_extents.proofs.CallerLemmas.{contains-range, ranges-apart, gaps-are, end-all_before, end-within}
use Rattle.cfdp_store.specs.declared.stored.Stored.{Stored}
use Rattle.cfdp_store.specs.declared.stored.Stored.TheVariants.{Done, Refused}
use Rattle.cfdp_store.specs.Staged.{OctetMap}
use Rattle.cfdp_sender.specs.State.{SenderState}
use Rattle.cfdp_sender.specs.Steps.{asks, asks_all}
use Rattle.cfdp_receiver.specs.declared.due.Due.TheVariants as due
use Rattle.cfdp_receiver.specs.declared.state.ReceiverPhase.{ReceiverPhase}
use Rattle.cfdp_receiver.specs.declared.state.ReceiverPhase.TheVariants.{Receiving, Finishing, Closed}
use Rattle.cfdp_receiver.specs.declared.state.FileInfo.{FileInfo}
use Rattle.cfdp_receiver.specs.declared.state.Ending.{Ending}
use Rattle.cfdp_receiver.specs.Due.{receiver_says, receiver_taken}
use Rattle.cfdp_receiver.specs.Missing.{limit_by, scope_limit, missing_pairs, is_empty, most_pairs, last_end, next_cursor, cursor_by, tidied}
use Rattle.cfdp_receiver.specs.Pieces.{new_pieces, staged_with}
use Rattle.cfdp_receiver.specs.Sound.{hears_content, receiver_hears}
use Rattle.cfdp_receiver.specs.State.{ReceiverState, flagged, is_receiving, is_finishing}
use Rattle.cfdp_receiver.specs.Steps.{ReceiverAfter, leaving, telling, closed, faulted, agrees, published_by, completed_by, completed, is_supported, receives_metadata, exceeds, with_data, receives_new, receives_data, contradicts, first_eof, cancelled_by, receives_eof, prompted_for}
use Rattle.link_sim.specs.Course.{AsksFirst, AsksFrom, owes_metadata, owes_octet}
use Rattle.link_sim.specs.Exchange.{is_eof, names, names_metadata, IsTrueForth, once_ended, has_ended}
use Rattle.link_sim.proofs.Course.Debts.{OwesMetadata, OwesOctet, StillAsks}

-- ---- the end of a NAK
joined-here : (at : ℕ) (rs : List (ℕ × ℕ)) (k : ℕ) → k ≡ at → AreApart rs → InRanges (joined at rs) k
joined-here at [] k e a = inl (omega arith, omega arith)
joined-here at (r ∷ rs) k e a =
    let some : r.0 < r.1 = a.0 in
    cond_both (r.0 == at + 1) ((at, r.1) ∷ rs) ((at, at + 1) ∷ r ∷ rs) (λ l. InRanges l k)
    (λ touches. let t : r.0 ≡ at + 1 = eqb-true r.0 (at + 1) touches in inl (omega arith, omega arith))
    (λ _. inl (omega arith, omega arith))

joined-later : (at : ℕ) (rs : List (ℕ × ℕ)) (k : ℕ) → InRanges rs k → InRanges (joined at rs) k
joined-later at [] k w = absurd w
joined-later at (r ∷ rs) k w = cond_both (r.0 == at + 1) ((at, r.1) ∷ rs) ((at, at + 1) ∷ r ∷ rs) (λ l. InRanges l k)
    (λ touches. let t : r.0 ≡ at + 1 = eqb-true r.0 (at + 1) touches in elim w [ inl here ↦ inl (wider here.0 here.1 t) | inr later ↦ inr later ])
    (λ _. inr w)
  where
    wider : r.0 ≤ k → k < r.1 → r.0 ≡ at + 1 → (at ≤ k) × (k < r.1)
    wider low high t = (omega arith, high)

passes-in : (passes : ℕ → Bool) (at n k : ℕ) → at ≤ k → k < at + n → passes k ≡ true → InRanges (ranges_in passes at n) k
unfolding ranges_in
passes-in passes at zero k low high p = absurd (omega arith)
passes-in passes at (suc n) k low high p =
    cond_both (passes at) (joined at (ranges_in passes (at + 1) n)) (ranges_in passes (at + 1) n) (λ l. InRanges l k)
    (λ here. elim (cases_eq k at) [
      | inl e ↦ joined-here at (ranges_in passes (at + 1) n) k e (ranges-apart passes (at + 1) n)
      | inr ne ↦ joined-later at (ranges_in passes (at + 1) n) k (passes-in passes (at + 1) n k (above k low ne) (omega arith) p)
    ])
    (λ isnt. elim (cases_eq k at) [
      | inl e ↦ absurd (both_ways (passes at) isnt (ap passes (sym e) ∙ p))
      | inr ne ↦ passes-in passes (at + 1) n k (above k low ne) (omega arith) p
    ])
  where
    above : (k : ℕ) → at ≤ k → (k ≡ at → ⊥) → at + 1 ≤ k
    above k low ne = omega (arith, ne)

-- what isn't held is in a gap
gap-in : (held : Offsets) (at limit k : ℕ) → at ≤ k → k < limit → set.contains held k ≡ false → InRanges (gaps_of held at limit) k
unfolding gaps_of
gap-in held at limit k low below isnt = passes-in (λ n. not (set.contains held n)) at (limit - at) k low (omega arith) (not_from_false (set.contains held k) isnt)

-- what is in ranges is in the first of them, or after their end
abbrev StartsFrom : ℕ → List (ℕ × ℕ) → Type 0
StartsFrom e [] = Unit {0}
StartsFrom e (r ∷ rs) = e ≤ r.0

next-starts : (e : ℕ) (rs : List (ℕ × ℕ)) → StartBehind e rs → StartsFrom e rs
next-starts e [] b = tt
next-starts e (q ∷ rs) b = let l : e < q.0 = b in omega arith

in-some : (e k : ℕ) (rs : List (ℕ × ℕ)) → AreApart rs → StartsFrom e rs → InRanges rs k → (0 < length rs) × (e ≤ k)
in-some e k [] a s w = absurd w
in-some e k (r ∷ rs) a s w =
    let first : e ≤ r.0 = s in
    let some : r.0 < r.1 = a.0 in
    elim w [
      | inl here ↦ (omega arith, (let low : r.0 ≤ k = here.0 in omega arith))
      | inr later ↦ (let p = in-some (r.1) k rs a.2 (next-starts r.1 rs a.1) later in let low : r.1 ≤ k = p.1 in (omega arith, omega arith))
    ]

first-or-behind : (n e k : ℕ) (rs : List (ℕ × ℕ)) → AreApart rs → StartsFrom e rs → InRanges rs k → InRanges (take n rs) k ⊎ ((n < length rs) × (last_end e (take n rs) ≤ k))
first-or-behind zero e k rs a s w = inr (in-some e k rs a s w)
first-or-behind (suc n) e k [] a s w = absurd w
first-or-behind (suc n) e k (r ∷ rs) a s (inl here) = inl (inl here)
first-or-behind (suc n) e k (r ∷ rs) a s (inr later) = elim (first-or-behind n r.1 k rs a.2 (next-starts r.1 rs a.1) later) [
  | inl now ↦ inl (inr now)
  | inr more ↦ inr ((let m : n < length rs = more.0 in omega arith), more.1)
]

starts-low : (rs : List (ℕ × ℕ)) → StartsFrom 0 rs
starts-low [] = tt
starts-low (r ∷ rs) = omega arith

-- a NAK asks for k, or goes on from an offset that isn't after it
record GoesOnBy (k : ℕ) (next : Option ℕ) : Type 0 where
  pub cursor : ℕ
  pub is_next : next ≡ Some cursor
  pub not_behind : cursor ≤ k

goes-on : (k : ℕ) (pairs : List (ℕ × ℕ)) → 32 < length pairs → last_end 0 (take most_pairs pairs) ≤ k → GoesOnBy k (next_cursor pairs)
goes-on k pairs more low = record {
  cursor = last_end 0 (take most_pairs pairs);
  is_next = ap (λ b. if b then Some (last_end 0 (take most_pairs pairs)) else None) (lt-ltb 32 (length pairs) more);
  not_behind = low;
}

module _ (r : ReceiverState) (at k : ℕ) (low : at ≤ k) (below : k < scope_limit r) (isnt : set.contains r.held k ≡ false) where
  abbrev all_gaps : List (ℕ × ℕ)
  all_gaps = gaps_of r.held at (scope_limit r)

  abbrev AsksFor : List (ℕ × ℕ) → Type 0
  AsksFor pairs = InRanges (take most_pairs pairs) k ⊎ GoesOnBy k (next_cursor pairs)

  nak-asks : AsksFor (missing_pairs at r)
  nak-asks =
      let within : InRanges all_gaps k = gap-in r.held at (scope_limit r) k low below isnt in
      let apart : AreApart all_gaps = (gaps-are r.held at (scope_limit r)).apart in
      cond_both (is_none r.metadata && (at == 0)) ((0, 0) ∷ []) [] (λ l. AsksFor (l ++ all_gaps))
      (λ _. elim (first-or-behind 31 0 k all_gaps apart (starts-low all_gaps) within) [
        | inl now ↦ inl (inr now)
        | inr more ↦ inr (goes-on k ((0, 0) ∷ all_gaps) (let m : 31 < length all_gaps = more.0 in omega arith) more.1)
      ])
      (λ _. elim (first-or-behind 32 0 k all_gaps apart (starts-low all_gaps) within) [
        | inl now ↦ inl now
        | inr more ↦ inr (goes-on k all_gaps more.0 more.1)
      ])

  pub some-missing : is_empty (missing_pairs at r) ≡ false
  some-missing = cond_both (is_none r.metadata && (at == 0)) ((0, 0) ∷ []) [] (λ l. is_empty (l ++ all_gaps) ≡ false)
      (λ _. refl)
      (λ _. from all_gaps (gap-in r.held at (scope_limit r) k low below isnt))
    where
      from : (l : List (ℕ × ℕ)) → InRanges l k → is_empty l ≡ false
      from [] w = absurd w
      from (p ∷ ps) w = refl

named : (k : ℕ) (pairs : List (ℕ × ℕ)) → InRanges pairs k → list_any (λ p. is_within p.0 p.1 k) pairs ≡ true
named k [] w = absurd w
named k (p ∷ ps) (inl here) = or_left (is_within p.0 p.1 k) _ (and_from (nat_le p.0 k) (nat_lt k p.1) (le-leb p.0 k here.0) (lt-ltb k p.1 here.1))
named k (p ∷ ps) (inr later) = or_right (is_within p.0 p.1 k) _ (named k ps later)

-- what has ended knows all
pub ended-knows : (phase : ReceiverPhase) (b : Bool) → once_ended phase false ≡ true → once_ended phase b ≡ true
ended-knows Receiving b h = absurd (false≢true h)
ended-knows Finishing b h = refl
ended-knows Closed b h = refl

some-since : {X : Type 0} (o : Option X) → is_none o ≡ false → is_some o ≡ true
some-since (Some e) h = refl
some-since None h = absurd (true≢false h)

-- ---- a receiver that sends a NAK
-- it names k, or goes on before it
pub nak-sends-owed : (k : ℕ) (r : ReceiverState) (at : ℕ) → r.phase ≡ Receiving → at ≤ k → k < scope_limit r
    → (names k (receiver_says r (due.Nak at)) ≡ true) ⊎ OwesOctet k (receiver_taken (due.Nak at) r)
nak-sends-owed k r at is low below = elim (cases_Bool (set.contains r.held k)) [
  | inl held ↦ inr (inl (ap (λ p. once_ended p (set.contains r.held k)) is ∙ held))
  | inr isnt ↦ elim (nak-asks r at k low below isnt) [
    | inl now ↦ inl (named k (take most_pairs (missing_pairs at r)) now)
    | inr on ↦ inr (inr (record { phase = is; cursor = on.cursor; is_cursor = on.is_next; low = on.not_behind; below = below }))
  ]
]

-- it asks for Metadata if its cursor is 0
pub nak-sends-metadata : (r : ReceiverState) (at : ℕ) → AsksFirst r → r.nak_cursor ≡ Some at → (names_metadata (receiver_says r (due.Nak at)) ≡ true) ⊎ OwesMetadata (receiver_taken (due.Nak at) r)
nak-sends-metadata r at a is = from at (some_is 0 at (sym a.cursor ∙ is))
  where
    some_is : (x y : ℕ) → Some x ≡ Some y → y ≡ x
    some_is x y e = cc

    from : (at : ℕ) → at ≡ 0 → (names_metadata (receiver_says r (due.Nak at)) ≡ true) ⊎ OwesMetadata (receiver_taken (due.Nak at) r)
    from zero e = elim (cases_Bool (is_none r.metadata)) [
      | inl none ↦ inl (ap (λ b. list_any (λ p. (p.0 == 0) && (p.1 == 0)) (take most_pairs ((if b && (0 == 0) then (0, 0) ∷ [] else []) ++ gaps_of r.held 0 (scope_limit r)))) none)
      | inr some ↦ inr (inl (ap (λ p. once_ended p (is_some r.metadata)) a.phase ∙ some-since r.metadata some))
    ]
    from (suc at) e = absurd (let z : suc at ≡ 0 = e in omega arith)

-- ---- a sender that hears it
abbrev asked_here : ℕ × ℕ → SenderState → SenderState
asked_here p x =
    if nat_lt p.0 (min p.1 x.sent) then record x { asked = set.union x.asked (range p.0 (min p.1 x.sent)) } else x

abbrev metadata_again : SenderState → SenderState
metadata_again x = record x { metadata_due = true }

keeps-asked : (p : ℕ × ℕ) (x : SenderState) (k : ℕ) → owes_octet k x ≡ true → owes_octet k (asks p x) ≡ true
keeps-asked p x k h = cond_both ((p.0 == 0) && (p.1 == 0)) (metadata_again x) (asked_here p x) (λ (y : SenderState). owes_octet k y ≡ true)
    (λ _. h)
    (λ _. cond_both (nat_lt p.0 (min p.1 x.sent)) (record x { asked = set.union x.asked (range p.0 (min p.1 x.sent)) }) x (λ (y : SenderState). owes_octet k y ≡ true)
    (λ _. set.contains-union nat_cmp_total x.asked (range p.0 (min p.1 x.sent)) k ∙ or_left (set.contains x.asked k) _ h)
    (λ _. h))

keeps-all-asked : (ps : List (ℕ × ℕ)) (x : SenderState) (k : ℕ) → owes_octet k x ≡ true → owes_octet k (asks_all ps x) ≡ true
keeps-all-asked [] x k h = h
keeps-all-asked (p ∷ ps) x k h = keeps-all-asked ps (asks p x) k (keeps-asked p x k h)

in_range : (start end n : ℕ) → start ≤ n → n < end → set.contains (range start end) n ≡ true
in_range start end n low high = contains-range start end n ∙ and_from (nat_le start n) (nat_lt n end) (le-leb start n low) (lt-ltb n end high)

asks-here : (p : ℕ × ℕ) (x : SenderState) (k : ℕ) → p.0 ≤ k → k < p.1 → k < x.sent → owes_octet k (asks p x) ≡ true
asks-here p x k low high sent = cond_both ((p.0 == 0) && (p.1 == 0)) (metadata_again x) (asked_here p x) (λ (y : SenderState). owes_octet k y ≡ true)
    (λ zero_pair. absurd (let z : p.1 ≡ 0 = eqb-true p.1 0 (and_parts (p.0 == 0) (p.1 == 0) zero_pair).1 in omega arith))
    (λ _. cond_both (nat_lt p.0 (min p.1 x.sent)) (record x { asked = set.union x.asked (range p.0 (min p.1 x.sent)) }) x (λ (y : SenderState). owes_octet k y ≡ true)
    (λ _. set.contains-union nat_cmp_total x.asked (range p.0 (min p.1 x.sent)) k ∙ or_right (set.contains x.asked k) _ (in_range p.0 (min p.1 x.sent) k low (omega arith)))
    (λ none. absurd (let n : min p.1 x.sent ≤ p.0 = ltb-false p.0 (min p.1 x.sent) none in omega arith)))

same-sent : (p : ℕ × ℕ) (x : SenderState) → (asks p x).sent ≡ x.sent
same-sent p x = cond_both ((p.0 == 0) && (p.1 == 0)) (metadata_again x) (asked_here p x) (λ (y : SenderState). y.sent ≡ x.sent)
    (λ _. refl)
    (λ _. cond_both (nat_lt p.0 (min p.1 x.sent)) (record x { asked = set.union x.asked (range p.0 (min p.1 x.sent)) }) x (λ (y : SenderState). y.sent ≡ x.sent) (λ _. refl) (λ _. refl))

nak-heard : (ps : List (ℕ × ℕ)) (x : SenderState) (k : ℕ) → InRanges ps k → k < x.sent → owes_octet k (asks_all ps x) ≡ true
nak-heard [] x k w sent = absurd w
nak-heard (p ∷ ps) x k (inl here) sent = keeps-all-asked ps (asks p x) k (asks-here p x k here.0 here.1 sent)
nak-heard (p ∷ ps) x k (inr later) sent = nak-heard ps (asks p x) k later (subst (λ n. k < n) (sym (same-sent p x)) sent)

in-pairs : (k : ℕ) (pairs : List (ℕ × ℕ)) → list_any (λ p. is_within p.0 p.1 k) pairs ≡ true → InRanges pairs k
in-pairs k [] h = absurd (false≢true h)
in-pairs k (p ∷ ps) h = elim (or_cases (is_within p.0 p.1 k) (list_any (λ p. is_within p.0 p.1 k) ps) h) [
  | inl here ↦ (let b = and_parts (nat_le p.0 k) (nat_lt k p.1) here in inl (leb-true p.0 k b.0, ltb-true k p.1 b.1))
  | inr later ↦ inr (in-pairs k ps later)
]

-- an offset that a pair names and that was sent is asked for
pub nak-comes-owed : (k : ℕ) (x : SenderState) (start end : ℕ) (pairs : List (ℕ × ℕ)) → names k (Nak start end pairs) ≡ true → (x.sent ≤ k) ⊎ (owes_octet k (asks_all pairs x) ≡ true)
nak-comes-owed k x start end pairs h = elim (cases_lt k x.sent) [ inl sent ↦ inr (nak-heard pairs x k (in-pairs k pairs h) sent) | inr not_yet ↦ inl not_yet ]

keeps-metadata : (p : ℕ × ℕ) (x : SenderState) → owes_metadata x ≡ true → owes_metadata (asks p x) ≡ true
keeps-metadata p x h = cond_both ((p.0 == 0) && (p.1 == 0)) (metadata_again x) (asked_here p x) (λ (y : SenderState). owes_metadata y ≡ true)
    (λ _. refl)
    (λ _. cond_both (nat_lt p.0 (min p.1 x.sent)) (record x { asked = set.union x.asked (range p.0 (min p.1 x.sent)) }) x (λ (y : SenderState). owes_metadata y ≡ true) (λ _. h) (λ _. h))

pub nak-keeps-metadata : (ps : List (ℕ × ℕ)) (x : SenderState) → owes_metadata x ≡ true → owes_metadata (asks_all ps x) ≡ true
nak-keeps-metadata [] x h = h
nak-keeps-metadata (p ∷ ps) x h = nak-keeps-metadata ps (asks p x) (keeps-metadata p x h)

pub nak-comes-metadata : (ps : List (ℕ × ℕ)) (x : SenderState) → list_any (λ p. (p.0 == 0) && (p.1 == 0)) ps ≡ true → owes_metadata (asks_all ps x) ≡ true
nak-comes-metadata [] x h = absurd (false≢true h)
nak-comes-metadata (p ∷ ps) x h = elim (or_cases ((p.0 == 0) && (p.1 == 0)) (list_any (λ p. (p.0 == 0) && (p.1 == 0)) ps) h) [
  | inl here ↦ nak-keeps-metadata ps (asks p x) (ap (λ b. owes_metadata (if b then metadata_again x else asked_here p x)) here)
  | inr later ↦ nak-comes-metadata ps (asks p x) later
]

-- ---- a NAK that is due stays so while it has something to ask for
pub tidied-owes : (k : ℕ) (r : ReceiverState) → OwesOctet k r → OwesOctet k (tidied r)
tidied-owes k r (inl held) = inl held
tidied-owes k r (inr a) = elim (cases_Bool (set.contains r.held k)) [
  | inl held ↦ inl (ap (λ p. once_ended p (set.contains r.held k)) a.phase ∙ held)
  | inr isnt ↦ inr (record {
    phase = a.phase;
    cursor = a.cursor;
    is_cursor = ap (λ c. cursor_by c r) a.is_cursor ∙ ap (λ b. if b then None else Some a.cursor) (some-missing r a.cursor k a.low a.below isnt);
    low = a.low;
    below = a.below;
  })
]

pub tidied-metadata : (r : ReceiverState) → OwesMetadata r → OwesMetadata (tidied r)
tidied-metadata r (inl h) = inl h
tidied-metadata r (inr a) = elim (cases_Bool (is_none r.metadata)) [
  | inl none ↦ inr (record {
    phase = a.phase;
    cursor = ap (λ c. cursor_by c r) a.cursor
        ∙ ap (λ b. if is_empty ((if b && (0 == 0) then (0, 0) ∷ [] else []) ++ gaps_of r.held 0 (scope_limit r)) then None else Some 0) none;
  })
  | inr some ↦ inl (ap (λ p. once_ended p (is_some r.metadata)) a.phase ∙ some-since r.metadata some)
]

-- ---- all of a file
-- a NAK is due from 0 on, with each offset below n in its scope
pub record AsksAll (n : ℕ) (r : ReceiverState) : Type 0 where
  pub phase : r.phase ≡ Receiving
  pub cursor : r.nak_cursor ≡ Some 0
  pub limit : n ≤ scope_limit r

abbrev pub OwesAll : ℕ → ReceiverState → Type 0
OwesAll n r = (has_ended r ≡ true) ⊎ AsksAll n r

pub all-metadata : (n : ℕ) (r : ReceiverState) → OwesAll n r → OwesMetadata (tidied r)
all-metadata n r (inl ended) = inl (ended-knows r.phase (is_some r.metadata) ended)
all-metadata n r (inr a) = tidied-metadata r (inr (record { phase = a.phase; cursor = a.cursor }))

pub all-octets : (n k : ℕ) (r : ReceiverState) → k < n → OwesAll n r → OwesOctet k (tidied r)
all-octets n k r below (inl ended) = inl (ended-knows r.phase (set.contains r.held k) ended)
all-octets n k r below (inr a) = tidied-owes k r (inr (record { phase = a.phase; cursor = 0; is_cursor = a.cursor; low = omega arith; below = (let l : n ≤ scope_limit r = a.limit in omega arith) }))

-- if the EOF is known, the scope of a NAK is the whole file
pub limit-is : (put : Put) (ending : Option Ending) (held : Offsets) → is_none ending ≡ false → IfSome ending (λ e. e.size ≡ length put.octets) → length put.octets ≤ limit_by ending held
limit-is put (Some ending) held some e = let s : ending.size ≡ length put.octets = e in omega arith
limit-is put None held some e = absurd (true≢false some)

-- ---- a receiver that hears
end-grows : (s t : Offsets) → ((k : ℕ) → set.contains s k ≡ true → set.contains t k ≡ true) → end_of s ≤ end_of t
end-grows s t h = end-within s (end_of t) (λ k in_s. end-all_before t k (h k in_s))

limit-grows : (ending : Option Ending) (s t : Offsets) → ((k : ℕ) → set.contains s k ≡ true → set.contains t k ≡ true) → limit_by ending s ≤ limit_by ending t
limit-grows (Some ending) s t h = omega arith
limit-grows None s t h = end-grows s t h

-- What holds once it receives no more, and stays so by what a PDU adds while it receives; `n` is the
-- file's size.
record StandsMore (P : ReceiverState → Type 0) (n : ℕ) (r : ReceiverState) : Type 0 where
  pub over : (r1 : ReceiverState) → has_ended r1 ≡ true → P r1
  pub self : P r
  pub named : (info : FileInfo) → P (record r { metadata = Some info; nak_count = 0 })
  pub filled : (offset : ℕ) (bytes : List ℕ) → P (with_data offset bytes r)
  pub closed : (checksum : ℕ) → P (record r { ending = Some (record { checksum = checksum; size = n }); ack_due = Some no_error; nak_cursor = Some 0 })
  pub again : P (record r { ack_due = Some no_error; nak_cursor = Some 0 })
  pub prompted : (keep_alive : Bool) → P (prompted_for keep_alive r)

module _ (P : ReceiverState → Type 0) (over : (r : ReceiverState) → has_ended r ≡ true → P r) (stored : Stored) (files : FileMap) where
  abbrev After : ReceiverAfter → Type 0
  After a = P a.receiver

  published-keeps : (stored1 : Stored) (info : FileInfo) (ending : Ending) (m : OctetMap) (r : ReceiverState) → After (published_by stored1 info ending m files r)
  published-keeps Done info ending m r = over _ refl
  published-keeps Refused info ending m r = over _ refl

  completed-keeps : (stored1 : Stored) (info : Option FileInfo) (ending : Option Ending) (m : OctetMap) (r : ReceiverState) → P r → After (completed_by stored1 info ending m files r)
  completed-keeps stored1 (Some info) (Some ending) m r h =
      cond_both (set.is_subset (range 0 ending.size) r.held) (if agrees info ending r.sums then published_by stored1 info ending m files r else faulted file_checksum_failure m files r)
      (leaving m files r) After
      (λ _. cond_both (agrees info ending r.sums) (published_by stored1 info ending m files r) (faulted file_checksum_failure m files r) After
      (λ _. published-keeps stored1 info ending m r)
      (λ _. over _ refl))
      (λ _. h)
  completed-keeps stored1 (Some info) None m r h = h
  completed-keeps stored1 None ending m r h = h

-- the receivers after such a step, and the one it hears it in
module _ (P : ReceiverState → Type 0) (put : Put) (stored : Stored) (m : OctetMap) (files : FileMap) (r : ReceiverState) (s : StandsMore P (length put.octets) r) where
  abbrev Later : ReceiverAfter → Type 0
  Later a = P a.receiver

  metadata-keeps : (kind size : ℕ) (source destination : List ℕ) → Later (receives_metadata stored kind size source destination m files r)
  metadata-keeps kind size source destination =
      let info : FileInfo = record { checksum_kind = kind; destination = destination } in
      let r1 : ReceiverState = record r { metadata = Some info; nak_count = 0 } in
      cond_both (is_some r.metadata) (leaving m files r) (telling (indication.MetadataRecv r.addressing.id source destination size ∷ [])
      (if is_supported kind then completed stored m files r1 else faulted unsupported_checksum_type m files r1)) Later
      (λ _. s.self)
      (λ _. cond_both (is_supported kind) (completed stored m files r1) (faulted unsupported_checksum_type m files r1) Later
      (λ _. completed-keeps P s.over stored files stored r1.metadata r1.ending m r1 (s.named info))
      (λ _. s.over _ refl))

  new-keeps : (stored1 : Stored) (offset : ℕ) (bytes : List ℕ) → Later (receives_new stored1 offset bytes m files r)
  new-keeps Done offset bytes = completed-keeps P s.over stored files Done r.metadata r.ending (staged_with m (new_pieces r.held offset bytes)) (with_data offset bytes r) (s.filled offset bytes)
  new-keeps Refused offset bytes = s.over _ refl

  data-keeps : (large : Bool) (offset : ℕ) (bytes : List ℕ) → Later (receives_data stored large offset bytes m files r)
  data-keeps large offset bytes =
      let end : ℕ = offset + length bytes in
      cond_both (exceeds large r.ending end) (faulted file_size_error m files r)
      (if set.is_subset (range offset end) r.held then completed stored m files r else receives_new stored offset bytes m files r) Later
      (λ _. s.over _ refl)
      (λ _. cond_both (set.is_subset (range offset end) r.held) (completed stored m files r) (receives_new stored offset bytes m files r) Later
      (λ _. completed-keeps P s.over stored files stored r.metadata r.ending m r s.self)
      (λ _. new-keeps stored offset bytes))

-- by an EOF, whatever was true before
module _ (P : ReceiverState → Type 0) (over : (r : ReceiverState) → has_ended r ≡ true → P r) (stored : Stored) (m : OctetMap) (files : FileMap) (r : ReceiverState) where
  eof-keeps : (large : Bool) (condition checksum size : ℕ) → P (record r { ending = Some (record { checksum = checksum; size = size }); ack_due = Some no_error; nak_cursor = Some 0 })
      → (is_none r.ending ≡ false → P (record r { ack_due = Some no_error; nak_cursor = Some 0 })) → P (receives_eof stored large condition checksum size m files r).receiver
  eof-keeps large condition checksum size closes again =
      let r1 : ReceiverState = record r { ending = Some (record { checksum = checksum; size = size }); ack_due = Some no_error; nak_cursor = Some 0 } in
      cond_both (not (condition == no_error)) (cancelled_by condition m files r)
      (if is_none r.ending then first_eof stored large checksum size m files r else leaving m files (record r { ack_due = Some no_error; nak_cursor = Some 0 }))
      (λ (a : ReceiverAfter). P a.receiver)
      (λ _. over _ refl)
      (λ _. cond_both (is_none r.ending) (first_eof stored large checksum size m files r) (leaving m files (record r { ack_due = Some no_error; nak_cursor = Some 0 }))
      (λ (a : ReceiverAfter). P a.receiver)
      (λ _. cond_both (contradicts large size r) (faulted file_size_error m files r1) (completed stored m files r1) (λ (a : ReceiverAfter). P a.receiver)
      (λ _. over _ refl)
      (λ _. completed-keeps P over stored files stored r1.metadata r1.ending m r1 closes))
      again)

-- by any PDU
module _ (P : ReceiverState → Type 0) (put : Put) (stored : Stored) (m : OctetMap) (files : FileMap) (r : ReceiverState) (is : r.phase ≡ Receiving) (s : StandsMore P (length put.octets) r)
    (tidies : (r1 : ReceiverState) → P r1 → P (tidied r1)) (large : Bool) where
  while-receiving : (a b : ReceiverAfter) → P a.receiver → P (if is_receiving r.phase then a else b).receiver
  while-receiving a b h = subst (λ p. P (if is_receiving p then a else b).receiver) (sym is) h

  receiver-keeps : (v : Content) → IsTrueForth put v → P (hears_content stored large v m files r).receiver
  receiver-keeps (Metadata kind size source destination options) t =
      tidies _ (while-receiving (receives_metadata stored kind size source destination m files r) (leaving m files r) (metadata-keeps P put stored m files r s kind size source destination))
  receiver-keeps (FileData offset bytes) t =
      tidies _ (while-receiving (receives_data stored large offset bytes m files r) (leaving m files r) (data-keeps P put stored m files r s large offset bytes))
  receiver-keeps (Eof condition checksum size tlvs) t =
      tidies _ (while-receiving (receives_eof stored large condition checksum size m files r) (leaving m files (record r { ack_due = Some condition }))
      (eof-keeps P s.over stored m files r large condition checksum size
      (subst (λ n. P (record r { ending = Some (record { checksum = checksum; size = n }); ack_due = Some no_error; nak_cursor = Some 0 })) (sym t.1) (s.closed checksum))
      (λ _. s.again)))
  receiver-keeps (Ack acknowledged.Finished condition status) t =
      tidies _ (subst (λ p. P (if is_finishing p && r.finished_taken then closed r else r)) (sym is) s.self)
  receiver-keeps (Prompt keep_alive) t =
      tidies _ (subst (λ p. P (if is_receiving p then prompted_for keep_alive r else r)) (sym is) (s.prompted keep_alive))
  receiver-keeps (Ack acknowledged.Eof condition status) t = absurd t
  receiver-keeps (Finished condition delivery status tlvs) t = absurd t
  receiver-keeps (Nak start end pairs) t = absurd t
  receiver-keeps (KeepAlive progress) t = absurd t

owes-over : (k : ℕ) (r : ReceiverState) → has_ended r ≡ true → OwesOctet k r
owes-over k r h = inl (ended-knows r.phase (set.contains r.held k) h)

metadata-over : (r : ReceiverState) → has_ended r ≡ true → OwesMetadata r
metadata-over r h = inl (ended-knows r.phase (is_some r.metadata) h)

-- an octet that is asked for stays so, or is held
owes-more : (k n : ℕ) (r : ReceiverState) → k < n → AsksFrom k r → StandsMore (OwesOctet k) n r
owes-more k n r below a = record {
  over = owes-over k;
  self = inr a;
  named = λ info. inr (record { phase = a.phase; cursor = a.cursor; is_cursor = a.is_cursor; low = a.low; below = a.below });
  filled = λ offset bytes.
      let grows : scope_limit r ≤ scope_limit (with_data offset bytes r) = limit-grows r.ending r.held (with_data offset bytes r).held
      (λ j h. set.contains-union nat_cmp_total r.held (range offset (offset + length bytes)) j ∙ or_left (set.contains r.held j) _ h) in
      let b : k < scope_limit r = a.below in
      inr (record { phase = a.phase; cursor = a.cursor; is_cursor = a.is_cursor; low = a.low; below = omega arith });
  closed = λ checksum. inr (record { phase = a.phase; cursor = 0; is_cursor = refl; low = omega arith; below = below });
  again = inr (record { phase = a.phase; cursor = 0; is_cursor = refl; low = omega arith; below = a.below });
  prompted = by;
}
  where
    by : (keep_alive : Bool) → OwesOctet k (prompted_for keep_alive r)
    by true = inr (record { phase = a.phase; cursor = a.cursor; is_cursor = a.is_cursor; low = a.low; below = a.below })
    by false = inr (record { phase = a.phase; cursor = 0; is_cursor = refl; low = omega arith; below = a.below })

metadata-more : (n : ℕ) (r : ReceiverState) → AsksFirst r → StandsMore OwesMetadata n r
metadata-more n r a = record {
  over = metadata-over;
  self = inr a;
  named = λ info. inr (record { phase = a.phase; cursor = a.cursor });
  filled = λ offset bytes. inr (record { phase = a.phase; cursor = a.cursor });
  closed = λ checksum. inr (record { phase = a.phase; cursor = refl });
  again = inr (record { phase = a.phase; cursor = refl });
  prompted = by;
}
  where
    by : (keep_alive : Bool) → OwesMetadata (prompted_for keep_alive r)
    by true = inr (record { phase = a.phase; cursor = a.cursor })
    by false = inr (record { phase = a.phase; cursor = refl })

module _ (put : Put) (stored : Stored) (large : Bool) (m : OctetMap) (files : FileMap) (r : ReceiverState) where
  -- a true EOF makes a receiver ask for all that it misses
  eof-in : (phase : ReceiverPhase) (condition checksum size : ℕ) → r.phase ≡ phase → (r.phase ≡ Receiving → IfSome r.ending (λ e. e.size ≡ length put.octets)) → size ≡ length put.octets
      → OwesAll (length put.octets) (if is_receiving phase then receives_eof stored large condition checksum size m files r else leaving m files (record r { ack_due = Some condition })).receiver
  eof-in Receiving condition checksum size is ending same = eof-keeps (OwesAll (length put.octets)) (λ r1 h. inl h) stored m files r large condition checksum size
      (inr (record { phase = is; cursor = refl; limit = omega arith }))
      (λ some. inr (record { phase = is; cursor = refl; limit = limit-is put r.ending r.held some (ending is) }))
  eof-in Finishing condition checksum size is ending same = inl (ap (λ p. once_ended p false) is)
  eof-in Closed condition checksum size is ending same = inl (ap (λ p. once_ended p false) is)

-- a large file flag changes nothing of what is asked for
flag-first : (large : Bool) (r : ReceiverState) → AsksFirst r → AsksFirst (flagged large r)
flag-first large r a = record { phase = a.phase; cursor = a.cursor }

flag-from : (k : ℕ) (large : Bool) (r : ReceiverState) → AsksFrom k r → AsksFrom k (flagged large r)
flag-from k large r a = record { phase = a.phase; cursor = a.cursor; is_cursor = a.is_cursor; low = a.low; below = a.below }

module _ (put : Put) (stored : Stored) (large : Bool) (m : OctetMap) (files : FileMap) (r : ReceiverState) where
  -- what a receiver asks for it still asks for, or holds, once it heard a PDU
  pub hears-owes : (k : ℕ) → k < length put.octets → AsksFrom k r → (v : Content) → IsTrueForth put v → OwesOctet k (receiver_hears stored large v m files r).receiver
  hears-owes k below a v t =
      let s : StandsMore (OwesOctet k) (length put.octets) (flagged large r) = owes-more k (length put.octets) (flagged large r) below (flag-from k large r a) in
      receiver-keeps (OwesOctet k) put stored m files (flagged large r) a.phase s (tidied-owes k) large v t

  pub hears-metadata : AsksFirst r → (v : Content) → IsTrueForth put v → OwesMetadata (receiver_hears stored large v m files r).receiver
  hears-metadata a v t =
      let s : StandsMore OwesMetadata (length put.octets) (flagged large r) = metadata-more (length put.octets) (flagged large r) (flag-first large r a) in
      receiver-keeps OwesMetadata put stored m files (flagged large r) a.phase s tidied-metadata large v t

  -- the receiver that heard one, before its NAK is tidied
  pub record AsksForAll (r1 : ReceiverState) : Type 0 where
    pub before : ReceiverState
    pub owes : OwesAll (length put.octets) before
    pub tidies : r1 ≡ tidied before

  pub eof-asks : (r.phase ≡ Receiving → IfSome r.ending (λ e. e.size ≡ length put.octets)) → (v : Content) → IsTrueForth put v → is_eof v ≡ true →
      AsksForAll (receiver_hears stored large v m files r).receiver
  eof-asks ending (Eof condition checksum size tlvs) t e = record {
    before = (let r1 : ReceiverState = flagged large r in
        if is_receiving r.phase then receives_eof stored large condition checksum size m files r1 else leaving m files (record r1 { ack_due = Some condition })).receiver;
    owes = eof-in put stored large m files (flagged large r) r.phase condition checksum size refl ending t.1;
    tidies = refl;
  }
  eof-asks ending (Metadata kind size source destination options) t e = absurd (false≢true e)
  eof-asks ending (FileData offset bytes) t e = absurd (false≢true e)
  eof-asks ending (Ack acknowledged.Finished condition status) t e = absurd (false≢true e)
  eof-asks ending (Ack acknowledged.Eof condition status) t e = absurd (false≢true e)
  eof-asks ending (Prompt keep_alive) t e = absurd (false≢true e)
  eof-asks ending (Finished condition delivery status tlvs) t e = absurd (false≢true e)
  eof-asks ending (Nak start end pairs) t e = absurd (false≢true e)
  eof-asks ending (KeepAlive progress) t e = absurd (false≢true e)

  -- all of this, as the debts take it
  pub still-asks : (r.phase ≡ Receiving → IfSome r.ending (λ e. e.size ≡ length put.octets)) → (v : Content) → IsTrueForth put v →
      StillAsks (length put.octets) v r (receiver_hears stored large v m files r).receiver
  still-asks ending v t = record {
    metadata = λ a. hears-metadata a v t;
    octets = λ k below a. hears-owes k below a v t;
    eof_metadata = λ e. let all = eof-asks ending v t e in subst OwesMetadata (sym all.tidies) (all-metadata (length put.octets) all.before all.owes);
    eof_octets = λ k below e. let all = eof-asks ending v t e in subst (OwesOctet k) (sym all.tidies) (all-octets (length put.octets) k all.before below all.owes);
  }
