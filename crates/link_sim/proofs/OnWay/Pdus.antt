-- The PDUs on their way in a direction, and the octets and frames that it has left, after each kind of step.
use Rattle.std.proofs.Common.{◌≡◌, ℕ, ◌+◌, ◌-◌, ◌*◌, ◌%◌, ◌≤◌, Bool, true, false, not, ◌==◌, List, [], ◌∷◌, ◌++◌, length, drop, refl, sym, ap, subst, ◌∙◌, inl, inr, arith, length-append}
use Rattle.std.specs.List.{list_any}
use Rattle.std.proofs.lemmas.Bool.{cases_Bool, eqb-true}
use Rattle.std.proofs.lemmas.List.{append-nil, map-append}
use Rattle.std.proofs.Math.Nat.{mod-eq_of_lt}
use Rattle.mpdu.specs.Stream.{stream, survivors, ArePackets}
use Rattle.mpdu.specs.Packets.{busy}
use Rattle.mpdu.specs.Parts.{IsPartOf}
use Rattle.mpdu.specs.Packing.{flush_of, idle_packet, idle_len}
use Rattle.mpdu.proofs.Parts.{part-map, part-part}
use Rattle.link_stack.specs.Frames.{pdus_in}
use Rattle.link_stack.specs.Drops.{count_of}
use Rattle.link_stack.specs.Downward.{packing}
use Rattle.link_sim.specs.OneWay.{OneWayState, packets_sent, pdus_sent, pdus_delivered, behind, on_way, IsOneWay, IsRested, SendsMore, HearsMore}
use Rattle.link_sim.proofs.Ways.Sending.{taken_inside, pdus_more}
use Rattle.link_sim.proofs.OnWay.Rests.{same-link, sent-octets}
use Rattle.link_sim.proofs.OnWay.Lists.{behind-append, behind-none, behind-ended, ended, Ends, ends, all_ended}

pub stripped : (xs ys zs : List (List ℕ)) → xs ++ ys ≡ xs ++ zs → ys ≡ zs
stripped [] ys zs e = e
stripped (x ∷ xs) ys zs e = stripped xs ys zs (let f : x ∷ (xs ++ ys) ≡ x ∷ (xs ++ zs) = e in cc)

pub packets-behind : (ps qs : List (List ℕ)) → ArePackets (ps ++ qs) → ArePackets qs
packets-behind [] qs h = h
packets-behind (p ∷ ps) qs h = packets-behind ps qs h.1

-- the octets up to which frames were taken
abbrev taken_to : OneWayState → ℕ
taken_to w = length w.marks * w.down.link.zone

-- ---- what is sent
-- what is sent, is on its way after all that is
pub on-way-sends : (old new : OneWayState) (qs texts : List (List ℕ)) → IsOneWay old → SendsMore old new qs texts → new.up ≡ old.up → new.marks ≡ old.marks → on_way new ≡ on_way old ++ texts
on-way-sends old new qs texts is more up marks =
    let ps : List (List ℕ) = packets_sent old in
    let limit : ℕ = taken_to old in
    let link : new.down.link ≡ old.down.link = same-link old new is more.way up in
    let whole : ArePackets (ps ++ qs) = subst ArePackets more.packets more.way.sent.made.packed.packets_whole in
    let carry : texts ≡ pdus_in (busy qs) = stripped (pdus_sent old) texts (pdus_in (busy qs)) (sym more.pdus ∙ ap (λ l. pdus_in (busy l)) more.packets ∙ pdus_more ps qs) in
    let inside : limit ≤ length (stream ps) = taken_inside old ps is.sent (length old.marks) is.sent.taken in
    let to : taken_to new ≡ limit = ap (λ m. length m * new.down.link.zone) marks ∙ ap (λ k. length old.marks * k.zone) link in
    ap (λ n. pdus_in (busy (behind n 0 (packets_sent new)))) to
    ∙ ap (λ l. pdus_in (busy (behind limit 0 l))) more.packets
    ∙ ap (λ l. pdus_in (busy l)) (behind-append limit 0 ps qs (packets-behind ps qs whole) (omega (arith, inside)))
    ∙ pdus_more (behind limit 0 ps) qs ∙ ap (λ l. on_way old ++ l) (sym carry)

-- a flush sends no PDU
pub on-way-flushes : (old new : OneWayState) (qs : List (List ℕ)) → IsOneWay old → SendsMore old new qs [] → new.up ≡ old.up → new.marks ≡ old.marks → on_way new ≡ on_way old
on-way-flushes old new qs is more up marks = on-way-sends old new qs [] is more up marks ∙ append-nil (on_way old)

-- ---- what is taken
-- the PDUs whose last octet is in the next frame to be taken
abbrev pub pdus_ended : OneWayState → List (List ℕ)
pdus_ended w = pdus_in (busy (ended (taken_to w) (taken_to w + w.down.link.zone) 0 (packets_sent w)))

next-limit : (old new : OneWayState) (mark : Bool) → new.down.link ≡ old.down.link → new.marks ≡ old.marks ++ mark ∷ [] → taken_to new ≡ taken_to old + old.down.link.zone
next-limit old new mark link marks =
    let z : ℕ = old.down.link.zone in
    let more : length new.marks ≡ length old.marks + 1 = ap length marks ∙ length-append old.marks (mark ∷ []) in
    let one : (length old.marks + 1) * z ≡ length old.marks * z + z = omega arith in
    ap (λ n. n * new.down.link.zone) more ∙ ap (λ k. (length old.marks + 1) * k.zone) link ∙ one

-- of a frame that is taken, those PDUs that end in it aren't on their way any more
pub on-way-takes : (old new : OneWayState) (mark : Bool) → IsOneWay old → packets_sent new ≡ packets_sent old → new.down.link ≡ old.down.link → new.marks ≡ old.marks ++ mark ∷ [] →
    on_way old ≡ pdus_ended old ++ on_way new
on-way-takes old new mark is packets link marks =
    let ps : List (List ℕ) = packets_sent old in
    let limit : ℕ = taken_to old in
    let next : ℕ = limit + old.down.link.zone in
    let after : on_way new ≡ pdus_in (busy (behind next 0 ps)) =
    ap (λ n. pdus_in (busy (behind n 0 (packets_sent new)))) (next-limit old new mark link marks) ∙ ap (λ l. pdus_in (busy (behind next 0 l))) packets in
    ap (λ l. pdus_in (busy l)) (behind-ended limit next 0 ps is.sent.made.packed.packets_whole (omega arith))
    ∙ pdus_more (ended limit next 0 ps) (behind next 0 ps) ∙ ap (λ l. pdus_ended old ++ l) (sym after)

-- What the new direction delivers, in terms of the old one.
delivers-now : (old new : OneWayState) (given : List (List ℕ)) → HearsMore old new given → new.down.link ≡ old.down.link → new.marks ≡ old.marks ++ true ∷ [] →
    pdus_delivered new ≡ pdus_in (survivors old.down.link.zone (old.marks ++ true ∷ []) 0 (packets_sent old))
delivers-now old new given hears link marks =
    ap (λ l. pdus_in (survivors new.up.link.zone new.marks 0 l)) hears.packets
    ∙ ap (λ m. pdus_in (survivors new.up.link.zone m 0 (packets_sent old))) marks
    ∙ ap (λ k. pdus_in (survivors k.zone (old.marks ++ true ∷ []) 0 (packets_sent old))) (hears.way.same_link ∙ link)

delivered-then : (old : OneWayState) → IsOneWay old → pdus_delivered old ≡ pdus_in (survivors old.down.link.zone old.marks 0 (packets_sent old))
delivered-then old is = ap (λ k. pdus_in (survivors k.zone old.marks 0 (packets_sent old))) is.same_link

-- what a frame delivered adds to what was
more-is : (old new : OneWayState) (given : List (List ℕ)) → IsOneWay old → (hears : HearsMore old new given) → new.down.link ≡ old.down.link → new.marks ≡ old.marks ++ true ∷ [] →
    (done : List (List ℕ)) → survivors old.down.link.zone (old.marks ++ true ∷ []) 0 (packets_sent old) ≡ survivors old.down.link.zone old.marks 0 (packets_sent old) ++ done → hears.more
    ≡ pdus_in done
more-is old new given is hears link marks done e =
    let was : List (List ℕ) = survivors old.down.link.zone old.marks 0 (packets_sent old) in
    let joined : pdus_in (was ++ done) ≡ pdus_in was ++ pdus_in done = map-append (λ p. drop 6 p) was done in
    stripped (pdus_in was) hears.more (pdus_in done)
    (ap (λ l. l ++ hears.more) (sym (delivered-then old is)) ∙ sym hears.delivered ∙ delivers-now old new given hears link marks ∙ ap pdus_in e ∙ joined)

-- What was heard of a frame are PDUs that end in it, in order.
pub on-way-hears : (old new : OneWayState) (given : List (List ℕ)) → IsOneWay old → HearsMore old new given → new.down.link ≡ old.down.link → new.marks ≡ old.marks ++ true ∷ [] →
    IsPartOf given (pdus_ended old)
on-way-hears old new given is hears link marks =
    let z : ℕ = old.down.link.zone in
    let ps : List (List ℕ) = packets_sent old in
    let limit : ℕ = taken_to old in
    let e : Ends z old.marks limit (limit + z) 0 ps = ends z old.marks limit (limit + z) 0 ps is.sent.made.packed.packets_whole refl refl in
    let same : hears.more ≡ pdus_in e.done = more-is old new given is hears link marks e.done e.completed in
    let part : IsPartOf (pdus_in e.done) (pdus_ended old) = part-map (λ p. drop 6 p) e.done (busy (ended limit (limit + z) 0 ps)) e.part in
    part-part given hears.more (pdus_ended old) hears.part (subst (λ l. IsPartOf l (pdus_ended old)) (sym same) part)

-- They are all of them, if no frame was lost, and no drop counted for lack of memory.
pub on-way-all : (old new : OneWayState) (given : List (List ℕ)) → IsOneWay old → HearsMore old new given → new.down.link ≡ old.down.link → new.marks ≡ old.marks ++ true ∷ [] →
    list_any not new.marks ≡ false → count_of new.up.drops 11 ≡ 0 → given ≡ pdus_ended old
on-way-all old new given is hears link marks all memory =
    let z : ℕ = old.down.link.zone in
    let ps : List (List ℕ) = packets_sent old in
    let limit : ℕ = taken_to old in
    let kept : list_any not (old.marks ++ true ∷ []) ≡ false = ap (list_any not) (sym marks) ∙ all in
    let e : survivors z (old.marks ++ true ∷ []) 0 ps ≡ survivors z old.marks 0 ps ++ busy (ended limit (limit + z) 0 ps) =
    all_ended z old.marks limit (limit + z) 0 ps is.sent.made.packed.packets_whole refl refl kept in
    hears.all memory ∙ more-is old new given is hears link marks (busy (ended limit (limit + z) 0 ps)) e

-- ---- how many octets there are
-- In a world that has settled, no PDU is on its way.
pub on-way-settled : (w : OneWayState) → IsOneWay w → IsRested w → flush_of (packing w.down) ≡ [] → length w.frames ≤ length w.marks → on_way w ≡ []
on-way-settled w is rests none none_waits =
    let z : ℕ = w.down.link.zone in
    let n : ℕ = length w.down.waiting in
    let ps : List (List ℕ) = packets_sent w in
    let count : length w.marks ≡ length w.frames = omega (arith, is.sent.taken, none_waits) in
    let to : taken_to w ≡ length w.frames * z = ap (λ k. k * z) count in
    let all_taken : n ≡ 0 → on_way w ≡ [] = λ (e : n ≡ 0). ap (λ l. pdus_in (busy l)) (behind-none (taken_to w) 0 ps (omega (arith, e, to, sent-octets w is))) in
    let flushed : w.down.flushed ≡ true → on_way w ≡ [] = λ (e : w.down.flushed ≡ true). ap pdus_in (ap (λ k. busy (behind k 0 ps)) to ∙ rests.filled e) in
    let unflushed : w.down.flushed ≡ false → on_way w ≡ [] = λ (e : w.down.flushed ≡ false).
    let rest : n % z ≡ n = mod-eq_of_lt rests.none_waits in
    elim (cases_Bool (n % z == 0)) [
      | inl t ↦ all_taken (sym rest ∙ eqb-true (n % z) 0 t)
      | inr t ↦ absurd (let bad : idle_packet (idle_len (z - n % z)) ∷ [] ≡ [] = rw (e, t) at none in cc)
    ] in
    elim (cases_Bool w.down.flushed) [ inl e ↦ flushed e | inr e ↦ unflushed e ]
