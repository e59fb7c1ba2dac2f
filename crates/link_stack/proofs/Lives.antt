-- From the calls of sending ends that are made again and again to what comes up at the other end.
use Rattle.std.proofs.Common.{◌≡◌, ℕ, zero, suc, ◌+◌, ◌<◌, true, Option, Some, None, IfSome, List, [], ◌∷◌, ◌⊎◌, length, map, slice_index_or, refl, sym, ap, subst, ◌∙◌, inl, inr, arith}
use Rattle.std.specs.List.{Contains}
use Rattle.std.proofs.lemmas.Bool.{cases_lt}
use Rattle.std.proofs.lemmas.List.{get_or_past}
use Rattle.aos_frame.specs.Frame.{IsLink}
use Rattle.aos_frame.specs.declared.config.LinkConfig.{LinkConfig}
use Rattle.aos_frame.specs.declared.config.Lane.{Lane}
use Rattle.aos_frame.specs.declared.config.Lane.TheVariants.{Directives, Data}
use Rattle.mpdu.specs.Packets.{busy}
use Rattle.link_stack.specs.Downward.{both_counted_from, first_down}
use Rattle.link_stack.specs.Frames.{pdus_in}
use Rattle.link_stack.specs.Upward.{UpState, first_up}
use Rattle.link_stack.specs.AnyOrder.{Delivery, IsWithinCounts, CountsTell, CountsTellAll, Arrival, OfStream, Stray, octets_in, AreArrivals, no_last, now_last, ReceivesAll, ComesOf}
use Rattle.link_stack.specs.EndToEnd.{AreNear, puts_of}
use Rattle.link_stack.specs.Lives.{Life, life_at, made_in, IsLife, AreApart, ComingOf, CopyOf, NoiseOf, octets_coming, AreComingOf, numbers_of, WerePutIn}
use Rattle.link_stack.proofs.AnyLanes.{of_both, tell_less, all_were_sent}
use Rattle.link_stack.proofs.EndToEnd.{AreStreams, are_streams, ends_so}
use Rattle.link_stack.proofs.Numbers.{numbers_tell}

-- ---- each of them, and what is beyond the last
no_life : (link : LinkConfig) (capacity : ℕ) → IsLife link capacity (record { first = 0; calls = [] })
no_life link capacity = record { now = both_counted_from 0 (first_down link capacity); does = refl }

any_life : (link : LinkConfig) (capacity : ℕ) (lives : List Life) → ((k : ℕ) → k < length lives → IsLife link capacity (life_at lives k)) → (k : ℕ) → IsLife link capacity (life_at lives k)
any_life link capacity lives are k = elim (cases_lt k (length lives)) [
  | inl low ↦ are k low
  | inr past ↦ subst (λ (l : Life). IsLife link capacity l) (sym (get_or_past lives k (record { first = 0; calls = [] }) past)) (no_life link capacity)
]

-- The streams of each of them: of each lane its packets.
abbrev Streams : Type 0
Streams = ℕ → Lane → List (List ℕ)

abbrev AreAll : LinkConfig → List Life → Streams → Type 0
AreAll link lives streams = (k : ℕ) → AreStreams link (life_at lives k).first (life_at lives k).calls (streams k)

-- ---- what comes
abbrev copy : List Life → Streams → ℕ → Lane → ℕ → Delivery
copy lives streams life lane place =
    record { lane = lane; packets = streams life lane; number = (life_at lives life).first + place; octets = slice_index_or (made_in lane (life_at lives life)) place [] }

abbrev arrival : List Life → Streams → ComingOf → Arrival
arrival lives streams (CopyOf life lane place) = OfStream (copy lives streams life lane place)
arrival lives streams (NoiseOf octets) = Stray octets

same_octets : (lives : List Life) (streams : Streams) (came : List ComingOf) → map octets_in (map (arrival lives streams) came) ≡ map (octets_coming lives) came
same_octets lives streams [] = refl
same_octets lives streams (CopyOf life lane place ∷ came) = ap (λ l. slice_index_or (made_in lane (life_at lives life)) place [] ∷ l) (same_octets lives streams came)
same_octets lives streams (NoiseOf octets ∷ came) = ap (λ l. octets ∷ l) (same_octets lives streams came)

are_arrivals : (link : LinkConfig) (lives : List Life) (streams : Streams) (came : List ComingOf) → AreAll link lives streams → AreComingOf link lives came →
    AreArrivals link (map (arrival lives streams) came)
are_arrivals link lives streams [] s are = tt
are_arrivals link lives streams (CopyOf life lane place ∷ came) s are =
    let m = (s life).made lane place are.1 in (
      record { packets_whole = (s life).packets_whole lane; of_link = m.sound; zoned = m.zoned },
      are_arrivals link lives streams came s are.2,
    )
are_arrivals link lives streams (NoiseOf octets ∷ came) s are = (are.0, are_arrivals link lives streams came s are.1)

-- a frame that was made: which of them made it, and at which index
record Made (lives : List Life) (lane : Lane) (life place : ℕ) : Type 0 where
  pub one : life < length lives
  pub there : place < length (made_in lane (life_at lives life))

-- one with the next number is of the same sending end
same_life : (lives : List Life) (lane : Lane) (j m k n : ℕ) → AreApart lives → Made lives lane j m → Made lives lane k n → (life_at lives k).first + n ≡ (life_at lives j).first + m + 1 → k ≡ j
same_life lives lane j m k n apart before after next = elim (cases_lt j k) [
  | inl low ↦
      let gap : (life_at lives j).first + length (made_in lane (life_at lives j)) < (life_at lives k).first = apart lane j k low after.one in
      let place : m < length (made_in lane (life_at lives j)) = before.there in
      absurd (omega (arith, gap, place, next))
  | inr over ↦ elim (cases_lt k j) [
    | inl low ↦
        let gap : (life_at lives k).first + length (made_in lane (life_at lives k)) < (life_at lives j).first = apart lane k j low before.one in
        let place : n < length (made_in lane (life_at lives k)) = after.there in
        absurd (omega (arith, gap, place, next))
    | inr under ↦ omega (arith, over, under)
  ]
]

-- the counts show of two copies that are near whether one follows the other
copies_tell : (link : LinkConfig) (lives : List Life) (streams : Streams) (lane : Lane) (j m k n : ℕ) → AreAll link lives streams → AreApart lives → Made lives lane j m → Made lives lane k n →
    IsWithinCounts true ((life_at lives j).first + m) ((life_at lives k).first + n) → CountsTell (copy lives streams j lane m) (copy lives streams k lane n)
copies_tell link lives streams lane j m k n s apart before after near =
    numbers_tell true (copy lives streams j lane m) (copy lives streams k lane n) (record {
      first = ((s j).made lane m before.there).counted;
      second = ((s k).made lane n after.there).counted;
      within = near;
      apart = λ next. ap (λ i. streams i lane) (same_life lives lane j m k n apart before after next);
    })

-- the last one of a lane: which of them made it, and at which index
abbrev Last : Type 0
Last = Option (ℕ × ℕ)

abbrev WasMade : List Life → Lane → Last → Type 0
WasMade lives lane last = IfSome last (λ l. Made lives lane l.0 l.1)

abbrev number_of : List Life → Last → Option ℕ
number_of lives None = None
number_of lives (Some l) = Some ((life_at lives l.0).first + l.1)

abbrev last_copy : List Life → Streams → Lane → Last → Option Delivery
last_copy lives streams lane None = None
last_copy lives streams lane (Some l) = Some (copy lives streams l.0 lane l.1)

next_tells : (link : LinkConfig) (lives : List Life) (streams : Streams) (lane : Lane) (last : Last) (k n : ℕ) (ns : List ℕ) → AreAll link lives streams → AreApart lives → Made lives lane k n →
    WasMade lives lane last → AreNear (number_of lives last) (((life_at lives k).first + n) ∷ ns) →
    IfSome (last_copy lives streams lane last) (λ b. CountsTell b (copy lives streams k lane n)) × AreNear (Some ((life_at lives k).first + n)) ns
next_tells link lives streams lane None k n ns s apart this before near = (tt, near)
next_tells link lives streams lane (Some l) k n ns s apart this before near = (copies_tell link lives streams lane l.0 l.1 k n s apart before this near.0, near.1)

-- the last ones of both lanes
abbrev last_place : Last → Last → Lane → Last
last_place a b Directives = a
last_place a b Data = b

abbrev last_copies : List Life → Streams → Last → Last → Lane → Option Delivery
last_copies lives streams a b lane = last_copy lives streams lane (last_place a b lane)

all_tell : (link : LinkConfig) (lives : List Life) (streams : Streams) (a b : Last) (came : List ComingOf) → AreAll link lives streams → AreApart lives → AreComingOf link lives came →
    WasMade lives Directives a → WasMade lives Data b → AreNear (number_of lives a) (numbers_of Directives lives came) → AreNear (number_of lives b) (numbers_of Data lives came) →
    CountsTellAll (last_copies lives streams a b) (map (arrival lives streams) came)
all_tell link lives streams a b [] s apart are ha hb na nb = tt
all_tell link lives streams a b (NoiseOf octets ∷ came) s apart are ha hb na nb = all_tell link lives streams a b came s apart are.1 ha hb na nb
all_tell link lives streams a b (CopyOf k Directives n ∷ came) s apart are ha hb na nb =
    let this : Made lives Directives k n = record { one = are.0; there = are.1 } in
    let t = next_tells link lives streams Directives a k n (numbers_of Directives lives came) s apart this ha na in
    let d : Delivery = copy lives streams k Directives n in
    let last : Lane → Option Delivery = last_copies lives streams a b in
    let now : Lane → Option Delivery = last_copies lives streams (Some (k, n)) b in
    let rest : CountsTellAll now (map (arrival lives streams) came) = all_tell link lives streams (Some (k, n)) b came s apart are.2 this hb t.1 nb in
    let same : (lane : Lane) → (now_last d last lane ≡ now lane) ⊎ (now_last d last lane ≡ None) = of_both (λ lane. (now_last d last lane ≡ now lane) ⊎ (now_last d last lane ≡ None)) Directives (inl refl) (inl refl) in
    (t.0, tell_less (now_last d last) now (map (arrival lives streams) came) same rest)
all_tell link lives streams a b (CopyOf k Data n ∷ came) s apart are ha hb na nb =
    let this : Made lives Data k n = record { one = are.0; there = are.1 } in
    let t = next_tells link lives streams Data b k n (numbers_of Data lives came) s apart this hb nb in
    let d : Delivery = copy lives streams k Data n in
    let last : Lane → Option Delivery = last_copies lives streams a b in
    let now : Lane → Option Delivery = last_copies lives streams a (Some (k, n)) in
    let rest : CountsTellAll now (map (arrival lives streams) came) = all_tell link lives streams a (Some (k, n)) came s apart are.2 ha this na t.1 in
    let same : (lane : Lane) → (now_last d last lane ≡ now lane) ⊎ (now_last d last lane ≡ None) = of_both (λ lane. (now_last d last lane ≡ now lane) ⊎ (now_last d last lane ≡ None)) Data (inl refl) (inl refl) in
    (t.0, tell_less (now_last d last) now (map (arrival lives streams) came) same rest)

-- of which stream it is
abbrev packets_in : Arrival → List (List ℕ)
packets_in (OfStream d) = d.packets
packets_in (Stray octets) = []

its_stream : (link : LinkConfig) (lives : List Life) (streams : Streams) (came : List ComingOf) (d : Delivery) → AreComingOf link lives came → Contains (map (arrival lives streams) came) (OfStream d) →
    (k : ℕ) × ((k < length lives) × ((lane : Lane) × (streams k lane ≡ d.packets)))
its_stream link lives streams [] d are (k, lt, is) = absurd (omega (arith, lt))
its_stream link lives streams (CopyOf life lane place ∷ came) d are (zero, lt, is) = (life, (are.0, (lane, ap packets_in is)))
its_stream link lives streams (NoiseOf octets ∷ came) d are (zero, lt, is) = absurd cc
its_stream link lives streams (CopyOf life lane place ∷ came) d are (suc k, lt, is) = its_stream link lives streams came d are.2 (k, omega (arith, lt), is)
its_stream link lives streams (NoiseOf octets ∷ came) d are (suc k, lt, is) = its_stream link lives streams came d are.1 (k, omega (arith, lt), is)

pub all_were_put_in : (link : LinkConfig) (capacity : ℕ) (lives : List Life) (came : List ComingOf) (up new : UpState) (before after : List (List ℕ)) → IsLink link → link.spacecraft < 256 →
    ((k : ℕ) → k < length lives → IsLife link capacity (life_at lives k)) → AreApart lives → AreComingOf link lives came → ((lane : Lane) → AreNear None (numbers_of lane lives came)) → up ≡ first_up link →
    ReceivesAll (map (octets_coming lives) came) up new before after → WerePutIn lives before after
all_were_put_in link capacity lives came up new before after valid byte are apart coming near fresh r =
    let each : (k : ℕ) → IsLife link capacity (life_at lives k) = any_life link capacity lives are in
    let some = λ (k : ℕ) (lane : Lane).
    ends_so link capacity (life_at lives k).first (life_at lives k).calls (both_counted_from (life_at lives k).first (first_down link capacity)) (each k).now lane valid refl (each k).does in
    let streams : Streams = λ k lane. (some k lane).packets in
    let s : AreAll link lives streams = λ k. are_streams link (life_at lives k).first (life_at lives k).calls (each k).now valid byte (some k) in
    let taken : ReceivesAll (map octets_in (map (arrival lives streams) came)) up new before after =
    subst (λ l. ReceivesAll l up new before after) (sym (same_octets lives streams came)) r in
    let told : CountsTellAll no_last (map (arrival lives streams) came) =
    tell_less no_last (last_copies lives streams None None) (map (arrival lives streams) came) (λ lane. inr refl)
    (all_tell link lives streams None None came s apart coming tt tt (near Directives) (near Data)) in
    let c : ComesOf (map (arrival lives streams) came) before after =
    all_were_sent link (map (arrival lives streams) came) up new before after valid (are_arrivals link lives streams came s coming) fresh
    told taken in
    record {
      given = c.given;
      appended = c.appended;
      put = λ (pdu : List ℕ) (there : Contains c.given pdu).
          let sent = c.sent pdu there in
          let its = its_stream link lives streams came sent.0 coming sent.1 in
          let lane : Lane = its.1.1.0 in
          let same : pdus_in (busy (sent.0).packets) ≡ puts_of lane (life_at lives its.0).calls = ap (λ l. pdus_in (busy l)) (sym its.1.1.1) ∙ (s its.0).pdus lane in
          (its.0, (its.1.0, (lane, subst (λ l. Contains l pdu) same sent.2)));
    }
