-- The receiving end of a lane: a frame is delivered or struck.
use Rattle.std.proofs.Common.{◌≡◌, ℕ, zero, suc, ◌+◌, ◌-◌, ◌*◌, ◌^◌, ◌≢◌, ◌<◌, ◌≤◌, ◌==◌, ◌&&◌, not, Bool, true, false, List, [], ◌∷◌, ◌++◌, ◌⊎◌, length, take, drop, replicate, get_or, refl, sym, ap, subst, ◌∙◌, inl, inr, arith, length-append, get_or-set_same}
use Rattle.std.specs.List.{list_any}
use Rattle.std.proofs.lemmas.List.{map-append, append-nil, append_assoc, take-append-drop}
use Rattle.mpdu.specs.Packets.{busy}
use Rattle.mpdu.specs.Stream.{survivors, begun}
use Rattle.mpdu.proofs.Struck.{begun-struck, survivors-struck}
use Rattle.link_stack.specs.Frames.{IsSealed, pdus_in}
use Rattle.mpdu.specs.Reading.{held_at, is_some}
use Rattle.cfd_bits.specs.Counting.{raised}
use Rattle.link_stack.specs.Drops.{count_of, all_counted}
use Rattle.link_stack.specs.Drops as link_drops
use Rattle.link_stack.specs.declared.drops.LinkDrop.TheVariants.{NoMemory}
use Rattle.link_stack.specs.Upward.{LinkReceiverState, IsUp, IsNextFrame, TakesNext, TakesNextFront, zone_drops}
use Rattle.link_stack.proofs.Grown.{struck_is_missed}
use Rattle.mpdu.specs.Parts.{IsPartOf, CompletesMore}
use Rattle.link_sim.specs.FrameLink.{most_struck}
use Rattle.link_sim.specs.OneWay.{OneWayState, packets_sent, unbroken, IsReceived, IsOneWayOf, IsOneWay, HearsMore, SendsNone, EndsStruck}
use Rattle.link_sim.proofs.OnWay.Arriving.{Lands, lands}
use Rattle.mpdu.proofs.Parts.{among-length, among-push, part-map, part-take, part-part}
use Rattle.mpdu.proofs.Fewer.{next_completes}
use Rattle.link_sim.proofs.Ways.Sending.{frame_inside, way_is}

pdus-append : (ps qs : List (List ℕ)) → pdus_in (ps ++ qs) ≡ pdus_in ps ++ pdus_in qs
pdus-append ps qs = map-append (λ p. drop 6 p) ps qs

-- a frame that is delivered ends a run of losses, and one that is struck is one more
ends_delivered : (marks : List Bool) → EndsStruck (marks ++ true ∷ []) 0
ends_delivered marks = record { before = marks ++ true ∷ []; joined = sym (append-nil (marks ++ true ∷ [])); end = inr (marks, refl) }

one_more_false : (n : ℕ) → replicate n false ++ false ∷ [] ≡ replicate (n + 1) false
one_more_false zero = refl
one_more_false (suc n) = ap (λ l. false ∷ l) (one_more_false n) ∙ ap (λ k. replicate k false) (let e : suc (n + 1) ≡ suc n + 1 = omega arith in e)

ends_struck : (marks : List Bool) (run : ℕ) → EndsStruck marks run → EndsStruck (marks ++ false ∷ []) (run + 1)
ends_struck marks run h = record {
  before = h.before;
  joined = ap (λ l. l ++ false ∷ []) h.joined ∙ append_assoc h.before (replicate run false) (false ∷ []) ∙ ap (λ l. h.before ++ l) (one_more_false run);
  end = h.end;
}

-- a drop that was counted for lack of memory would show
counted-shows : (counts new : List ℕ) → length counts ≡ 12 → new ≡ link_drops.counted counts NoMemory → count_of new 11 ≡ count_of counts 11 → count_of new 11 < 2 ^ 64 - 1 → ⊥
unfolding link_drops.counted
counted-shows counts new long is same low =
    let n : ℕ = get_or counts 10 0 in
    let room : 10 < length counts = omega (arith, long) in
    let now : count_of new 11 ≡ raised n = ap (λ l. count_of l 11) is ∙ get_or-set_same counts 10 (raised n) 0 room in
    let then : count_of counts 11 ≡ n = refl in
    omega (arith, now, then, same, low)

-- what will arrive at an end, after these marks
abbrev arrives : LinkReceiverState → List (List ℕ) → List Bool → ℕ → List (List ℕ)
arrives up ps marks run = pdus_in (busy (unbroken (length marks * up.link.zone) 0 (held_at (run == 0) up.begun) ps))

-- What comes of a frame that is taken.
record Hears (up new : LinkReceiverState) (ps : List (List ℕ)) (marks : List Bool) (run : ℕ) (old out : List (List ℕ)) : Type 0 where
  pub received : IsReceived new ps (marks ++ true ∷ []) 0
  pub more : List (List ℕ)
  pub delivered : pdus_in (survivors new.link.zone (marks ++ true ∷ []) 0 ps) ≡ pdus_in (survivors up.link.zone marks 0 ps) ++ more
  pub given : List (List ℕ)
  pub added : out ≡ old ++ given
  pub part : IsPartOf given more
  pub all : count_of new.drops 11 ≡ 0 → given ≡ more
  pub lands : count_of new.drops 11 ≡ count_of up.drops 11 → count_of new.drops 11 < 2 ^ 64 - 1 → arrives up ps marks run ≡ given ++ arrives new ps (marks ++ true ∷ []) 0
  pub rest : List (List ℕ)
  pub front : arrives up ps marks run ≡ given ++ rest
  pub let_go : count_of new.drops 11 ≢ count_of up.drops 11 → new.begun ≡ []
  pub clear : list_any not marks ≡ false → count_of new.drops 11 ≡ 0 → new.drops ≡ up.drops
  pub memory : count_of new.drops 11 ≡ 0 → count_of up.drops 11 ≡ 0

-- if no frame was struck, none was of late
false-behind : (before : List Bool) (n : ℕ) → list_any not (before ++ replicate n false) ≡ false → n ≡ 0
false-behind [] zero none = refl
false-behind [] (suc n) none = absurd cc
false-behind (true ∷ before) n none = false-behind before n none
false-behind (false ∷ before) n none = absurd cc

none-struck : (marks : List Bool) (run : ℕ) → EndsStruck marks run → list_any not marks ≡ false → run ≡ 0
none-struck marks run h none = false-behind h.before run (ap (list_any not) (sym h.joined) ∙ none)

stripped : (xs ys zs : List (List ℕ)) → xs ++ ys ≡ xs ++ zs → ys ≡ zs
stripped [] ys zs e = e
stripped (x ∷ xs) ys zs e = stripped xs ys zs (let f : x ∷ (xs ++ ys) ≡ x ∷ (xs ++ zs) = e in cc)

grown : (up new : LinkReceiverState) (ps : List (List ℕ)) (marks : List Bool) (added : List (List ℕ)) → new.link ≡ up.link → (m : CompletesMore up.link.zone marks ps added) →
    pdus_in (survivors new.link.zone (marks ++ true ∷ []) 0 ps) ≡ pdus_in (survivors up.link.zone marks 0 ps) ++ pdus_in m.more
grown up new ps marks added link m =
    ap (λ k. pdus_in (survivors k.zone (marks ++ true ∷ []) 0 ps)) link ∙ ap pdus_in m.completed ∙ pdus-append (survivors up.link.zone marks 0 ps) m.more

-- The PDUs of the packets that it completes are the first of those that were expected.
next-lands : (up new : LinkReceiverState) (ps : List (List ℕ)) (marks : List Bool) (run : ℕ) (old out : List (List ℕ)) → 0 < up.link.zone →
    (r : IsReceived up ps marks run) → (t : TakesNext up new ps r.read run old out) → arrives up ps marks run ≡ pdus_in t.added ++ arrives new ps (marks ++ true ∷ []) 0
next-lands up new ps marks run old out pos r t =
    let z : ℕ = up.link.zone in
    let read1 : List Bool = r.read ++ true ∷ [] in
    let l : Lands z r.read 0 ps = lands z r.read 0 ps pos r.end.packets_whole in
    let long : length r.read ≡ length marks = among-length r.read marks r.among in
    let long_then : length read1 ≡ length (marks ++ true ∷ []) = length-append r.read (true ∷ []) ∙ ap (λ n. n + 1) long ∙ sym (length-append marks (true ∷ [])) in
    let zone : new.link.zone ≡ z = ap (λ k. k.zone) t.link in
    let done : l.done ≡ t.added = stripped (survivors z r.read 0 ps) l.done t.added (sym l.completed ∙ t.completed) in
    let before : arrives up ps marks run ≡ pdus_in (busy (unbroken (length r.read * z) 0 (begun z r.read 0 ps) ps)) =
    ap (λ n. pdus_in (busy (unbroken (n * z) 0 (held_at (run == 0) up.begun) ps))) (sym long) ∙ ap (λ h. pdus_in (busy (unbroken (length r.read * z) 0 h ps))) r.end.as_left in
    let after : arrives new ps (marks ++ true ∷ []) 0 ≡ pdus_in (busy (unbroken (length read1 * z) 0 (begun z read1 0 ps) ps)) =
    ap (λ n. pdus_in (busy (unbroken (n * new.link.zone) 0 (held_at (0 == 0) new.begun) ps))) (sym long_then)
    ∙ ap (λ h. pdus_in (busy (unbroken (length read1 * new.link.zone) 0 h ps))) t.after.as_left
    ∙ ap (λ k. pdus_in (busy (unbroken (length read1 * k) 0 (begun k read1 0 ps) ps))) zone in
    before ∙ ap pdus_in l.lands ∙ pdus-append l.done (busy (unbroken (length read1 * z) 0 (begun z read1 0 ps) ps))
    ∙ ap (λ d. pdus_in d ++ pdus_in (busy (unbroken (length read1 * z) 0 (begun z read1 0 ps) ps))) done ∙ ap (λ x. pdus_in t.added ++ x) (sym after)

heard_next : (up new : LinkReceiverState) (ps : List (List ℕ)) (marks : List Bool) (run : ℕ) (old out : List (List ℕ)) → 0 < up.link.zone →
    (r : IsReceived up ps marks run) → TakesNext up new ps r.read run old out → Hears up new ps marks run old out
heard_next up new ps marks run old out pos r t =
    let z : ℕ = up.link.zone in
    let m : CompletesMore z marks ps t.added = next_completes z r.read marks ps t.added r.end.packets_whole r.among t.completed in
    let kept : count_of new.drops 11 ≡ count_of up.drops 11 = t.memory in
    let same : count_of new.drops 11 ≡ 0 → t.added ≡ m.more = λ (e : count_of new.drops 11 ≡ 0).
    let all : r.read ≡ marks = r.all_read (sym kept ∙ e) in
    let done : survivors z (marks ++ true ∷ []) 0 ps ≡ survivors z marks 0 ps ++ t.added = subst (λ l. survivors z (l ++ true ∷ []) 0 ps ≡ survivors z l 0 ps ++ t.added) all t.completed in
    stripped (survivors z marks 0 ps) t.added m.more (sym done ∙ m.completed) in
    record {
      received = record {
        read = r.read ++ true ∷ [];
        end = t.after;
        among = among-push r.read marks true true r.among (λ e. e);
        all_read = λ e. ap (λ l. l ++ true ∷ []) (r.all_read (sym kept ∙ e));
        struck = ends_delivered marks;
      };
      more = pdus_in m.more;
      delivered = grown up new ps marks t.added t.link m;
      given = pdus_in t.added;
      added = t.pdus;
      part = part-map (λ p. drop 6 p) t.added m.more m.part;
      all = λ e. ap pdus_in (same e);
      lands = λ _ _. next-lands up new ps marks run old out pos r t;
      rest = arrives new ps (marks ++ true ∷ []) 0;
      front = next-lands up new ps marks run old out pos r t;
      let_go = λ differs. absurd (differs kept);
      clear = λ none e. t.drops ∙ ap (λ n. all_counted up.drops (zone_drops (not (n == 0) && is_some up.begun) 0)) (none-struck marks run r.struck none);
      memory = λ e. sym kept ∙ e;
    }

-- The PDUs of the packets that the next frame completes are the first of those that will arrive.
first-lands : (up : LinkReceiverState) (ps : List (List ℕ)) (marks : List Bool) (run : ℕ) (added : List (List ℕ)) → 0 < up.link.zone → (r : IsReceived up ps marks run) →
    survivors up.link.zone (r.read ++ true ∷ []) 0 ps ≡ survivors up.link.zone r.read 0 ps ++ added → (rest : List (List ℕ)) × (arrives up ps marks run ≡ pdus_in added ++ rest)
first-lands up ps marks run added pos r completed =
    let z : ℕ = up.link.zone in
    let l : Lands z r.read 0 ps = lands z r.read 0 ps pos r.end.packets_whole in
    let long : length r.read ≡ length marks = among-length r.read marks r.among in
    let done : l.done ≡ added = stripped (survivors z r.read 0 ps) l.done added (sym l.completed ∙ completed) in
    let before : arrives up ps marks run ≡ pdus_in (busy (unbroken (length r.read * z) 0 (begun z r.read 0 ps) ps)) =
    ap (λ n. pdus_in (busy (unbroken (n * z) 0 (held_at (run == 0) up.begun) ps))) (sym long) ∙ ap (λ h. pdus_in (busy (unbroken (length r.read * z) 0 h ps))) r.end.as_left in
    let then_all : List (List ℕ) = busy (unbroken (length (r.read ++ true ∷ []) * z) 0 (begun z (r.read ++ true ∷ []) 0 ps) ps) in (
      pdus_in then_all,
      before ∙ ap pdus_in l.lands ∙ pdus-append l.done then_all ∙ ap (λ d. pdus_in d ++ pdus_in then_all) done,
    )

heard_front : (up new : LinkReceiverState) (ps : List (List ℕ)) (marks : List Bool) (run : ℕ) (old out : List (List ℕ)) → 0 < up.link.zone →
    (r : IsReceived up ps marks run) → TakesNextFront up new ps r.read old out → Hears up new ps marks run old out
heard_front up new ps marks run old out pos r t =
    let z : ℕ = up.link.zone in
    let m : CompletesMore z marks ps t.added = next_completes z r.read marks ps t.added r.end.packets_whole r.among t.completed in
    let told : count_of new.drops 11 ≡ 0 → ⊥ = λ (e : count_of new.drops 11 ≡ 0). omega (arith, e, t.memory) in
    let first : (rest : List (List ℕ)) × (arrives up ps marks run ≡ pdus_in t.added ++ rest) = first-lands up ps marks run t.added pos r t.completed in
    let parts : pdus_in t.added ≡ pdus_in (take t.count t.added) ++ pdus_in (drop t.count t.added) = ap pdus_in (sym (take-append-drop t.count t.added))
    ∙ pdus-append (take t.count t.added) (drop t.count t.added) in
    let few : IsPartOf (take t.count t.added) m.more = part-part (take t.count t.added) t.added m.more (part-take t.count t.added) m.part in
    record {
      received = record {
        read = r.read ++ false ∷ [];
        end = t.after;
        among = among-push r.read marks false true r.among (λ e. refl);
        all_read = λ e. absurd (told e);
        struck = ends_delivered marks;
      };
      more = pdus_in m.more;
      delivered = grown up new ps marks t.added t.link m;
      given = pdus_in (take t.count t.added);
      added = t.pdus;
      part = part-map (λ p. drop 6 p) (take t.count t.added) m.more few;
      all = λ e. absurd (told e);
      lands = λ e low. absurd (counted-shows up.drops new.drops r.end.counts t.drops e low);
      rest = pdus_in (drop t.count t.added) ++ first.0;
      front = first.1 ∙ ap (λ l. l ++ first.0) parts ∙ append_assoc (pdus_in (take t.count t.added)) (pdus_in (drop t.count t.added)) first.0;
      let_go = λ _. t.after.as_left ∙ ap (λ k. begun k.zone (r.read ++ false ∷ []) 0 ps) t.link ∙ begun-struck z r.read 0 ps pos;
      clear = λ none e. absurd (told e);
      memory = λ e. absurd (told e);
    }

pub next_frame : (l : OneWayState) (frame : List ℕ) → (is : IsOneWay l) → length l.marks < length l.frames → frame ≡ get_or l.frames (length l.marks) [] →
    IsNextFrame l.up.link (packets_sent l) is.received.read frame
next_frame l frame is there e =
    let n : ℕ = length l.marks in
    let ps : List (List ℕ) = packets_sent l in
    let few : length is.received.read ≡ n = among-length is.received.read l.marks is.received.among in
    let at : IsNextFrame l.down.link ps l.marks frame = record { inside = frame_inside l ps is.sent n there; sealed = record { control = l.down.control; fits = is.sent.fits; octets = e ∙ is.sent.frames n there } } in
    let up : IsNextFrame l.up.link ps l.marks frame = subst (λ k. IsNextFrame k ps l.marks frame) (sym is.same_link) at in
    record {
      inside = omega (arith, up.inside, ap (λ k. k * l.up.link.zone) few);
      sealed = subst (λ (k : ℕ). IsSealed l.up.link ps k frame) (sym few) up.sealed;
    }

-- A frame was delivered.
pub delivers : (l : OneWayState) (new : LinkReceiverState) (old out : List (List ℕ)) → (is : IsOneWay l) → length l.marks < length l.frames →
    (TakesNext l.up new (packets_sent l) is.received.read l.run old out ⊎ TakesNextFront l.up new (packets_sent l) is.received.read old out) →
    (given : List (List ℕ)) × (out ≡ old ++ given) × HearsMore l (record l { up = new; marks = l.marks ++ true ∷ []; run = 0 }) given
delivers l new old out is there taken =
    let ps : List (List ℕ) = packets_sent l in
    let after : OneWayState = record l { up = new; marks = l.marks ++ true ∷ []; run = 0 } in
    let link : new.link ≡ l.up.link = elim taken [ inl t ↦ t.link | inr t ↦ t.link ] in
    let pos : 0 < l.up.link.zone = omega (arith, ap (λ x. x.zone) is.same_link, is.sent.valid.least_zone) in
    let h : Hears l.up new ps l.marks l.run old out = elim taken [
      | inl t ↦ heard_next l.up new ps l.marks l.run old out pos is.received t
      | inr t ↦ heard_front l.up new ps l.marks l.run old out pos is.received t
    ] in
    let room : length (l.marks ++ true ∷ []) ≤ length l.frames = omega (arith, length-append l.marks (true ∷ [])) in
    let way : IsOneWayOf after ps = record {
      same_link = link ∙ is.same_link;
      sent = record { valid = is.sent.valid; made = is.sent.made; frames = is.sent.frames; fits = is.sent.fits; octets = is.sent.octets; taken = room };
      received = h.received;
    } in
    let zone : l.up.link.zone ≡ l.down.link.zone = ap (λ x. x.zone) is.same_link in
    let zone_then : new.link.zone ≡ l.down.link.zone = ap (λ x. x.zone) link ∙ zone in
    let hears : HearsMore l after h.given = record {
      way = way_is after ps way;
      packets = refl;
      more = h.more;
      delivered = h.delivered;
      part = h.part;
      all = h.all;
      rest = h.rest;
      front = ap (λ z. pdus_in (busy (unbroken (length l.marks * z) 0 (held_at (l.run == 0) l.up.begun) ps))) (sym zone) ∙ h.front;
      let_go = h.let_go;
      lands = λ same low. ap (λ z. pdus_in (busy (unbroken (length l.marks * z) 0 (held_at (l.run == 0) l.up.begun) ps))) (sym zone) ∙ h.lands same low
          ∙ ap (λ z. h.given ++ pdus_in (busy (unbroken (length (l.marks ++ true ∷ []) * z) 0 (held_at (0 == 0) new.begun) ps))) zone_then;
      clear = h.clear;
      memory = h.memory;
    } in
    (h.given, h.added, hears)

-- A frame was struck.
pub strikes : (l : OneWayState) → IsOneWay l → length l.marks < length l.frames → l.run < most_struck → SendsNone l (record l { marks = l.marks ++ false ∷ []; run = l.run + 1 })
strikes l is there few =
    let ps : List (List ℕ) = packets_sent l in
    let r = is.received in
    let z : ℕ = l.up.link.zone in
    let after : OneWayState = record l { marks = l.marks ++ false ∷ []; run = l.run + 1 } in
    let pos : 0 < z = omega (arith, ap (λ x. x.zone) is.same_link, is.sent.valid.least_zone) in
    let same : survivors z (l.marks ++ false ∷ []) 0 ps ≡ survivors z l.marks 0 ps = survivors-struck z l.marks 0 ps pos r.end.packets_whole in
    let missed : IsUp l.up ps (r.read ++ false ∷ []) (l.run + 1) = struck_is_missed l.up ps r.read l.run pos (omega (arith, few)) r.end in
    let room : length (l.marks ++ false ∷ []) ≤ length l.frames = omega (arith, length-append l.marks (false ∷ [])) in
    let way : IsOneWayOf after ps = record {
      same_link = is.same_link;
      sent = record { valid = is.sent.valid; made = is.sent.made; frames = is.sent.frames; fits = is.sent.fits; octets = is.sent.octets; taken = room };
      received = record {
        read = r.read ++ false ∷ [];
        end = missed;
        among = among-push r.read l.marks false false r.among (λ x. x);
        all_read = λ x. ap (λ l. l ++ false ∷ []) (r.all_read x);
        struck = ends_struck l.marks l.run r.struck;
      };
    } in
    record { way = way_is after ps way; packets = refl; delivered = ap pdus_in same }
