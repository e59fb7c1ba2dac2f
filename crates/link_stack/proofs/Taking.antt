-- One frame taken.
use Rattle.std.proofs.Common.{◌≡◌, ℕ, zero, suc, ◌≤◌, Bool, true, false, not, nat_lt, List, [], ◌∷◌, ◌++◌, length, take, drop, Result, Ok, Err, OnOk, OnErr, is_ok, sym, ap, subst, ◌∙◌, arith, inl, inr, length-take}
use Rattle.std.proofs.lemmas.Bool.{cases_Bool, ltb-false}
use Rattle.std.proofs.lemmas.List.{take_at, drop_at}
use Rattle.mpdu.specs.Stream.{keep, header_len, header_ok, is_idle}
use Rattle.mpdu.specs.Reading.{scan}
use Rattle.link_stack.specs.declared.drops.LinkDrop.TheVariants.{NoMemory}
use Rattle.link_stack.specs.Drops.{counted, all_counted}
use Rattle.link_stack.specs.Upward.{LinkReceiverState, AreLong, pdus_of, drops_of, FrameRead, Takes, TakesFront}

header_len-long : (xs : List ℕ) → 7 ≤ header_len xs
unfolding header_len
header_len-long xs = omega arith

long-keep : (b : Bool) (p : List ℕ) (ps : List (List ℕ)) → 6 ≤ length p → AreLong ps → AreLong (keep b p ps)
long-keep true p ps h all = (h, all)
long-keep false p ps h all = all

-- what a zone gives has headers
pub scan_long : (n : ℕ) (xs : List ℕ) → AreLong (scan n xs).out
scan_long zero xs = tt
scan_long (suc n) xs =
    let P : Type 0 = AreLong (scan (suc n) xs).out in
    let short : nat_lt (length xs) 6 ≡ true → P = λ (e : nat_lt (length xs) 6 ≡ true). rw e tt in
    let bad : nat_lt (length xs) 6 ≡ false → header_ok xs ≡ false → P = λ (e : nat_lt (length xs) 6 ≡ false) (f : header_ok xs ≡ false). rw (e, f) tt in
    let cut : nat_lt (length xs) 6 ≡ false → header_ok xs ≡ true → nat_lt (length xs) (header_len xs) ≡ true → P =
    λ (e : nat_lt (length xs) 6 ≡ false) (f : header_ok xs ≡ true) (g : nat_lt (length xs) (header_len xs) ≡ true). rw (e, f, g) tt in
    let whole : nat_lt (length xs) 6 ≡ false → header_ok xs ≡ true → nat_lt (length xs) (header_len xs) ≡ false → P =
    λ (e : nat_lt (length xs) 6 ≡ false) (f : header_ok xs ≡ true) (g : nat_lt (length xs) (header_len xs) ≡ false).
    let p : List ℕ = take (header_len xs) xs in
    let room : header_len xs ≤ length xs = ltb-false (length xs) (header_len xs) g in
    let long : 6 ≤ length p = omega (arith, length-take (header_len xs) xs, header_len-long xs) in
    rw (e, f, g) (long-keep (not (is_idle p)) p (scan n (drop (header_len xs) xs)).out long (scan_long n (drop (header_len xs) xs))) in
    elim (cases_Bool (nat_lt (length xs) 6)) [
      | inl e ↦ short e
      | inr e ↦ elim (cases_Bool (header_ok xs)) [
        | inl f ↦ elim (cases_Bool (nat_lt (length xs) (header_len xs))) [ inl g ↦ cut e f g | inr g ↦ whole e f g ]
        | inr f ↦ bad e f
      ]
    ]

long-take : (n : ℕ) (ps : List (List ℕ)) → AreLong ps → AreLong (take n ps)
long-take zero ps all = tt
long-take (suc n) [] all = tt
long-take (suc n) (p ∷ ps) all = (all.0, long-take n ps all.1)

-- what was appended has headers
pub fed_long : {A E : Type 0} (fed : Result A E) (first : ℕ) (old new packets : List (List ℕ)) → first ≡ length old → AreLong packets → OnOk fed (new ≡ old ++ packets) →
    OnErr fed ((n : ℕ) × (new ≡ old ++ take n packets)) →
    AreLong (drop first new)
fed_long (Ok x) first old new packets e all all_of front = subst AreLong (sym (ap (λ l. drop first l) all_of ∙ drop_at old packets first (sym e))) all
fed_long (Err x) first old new packets e all all_of front = subst AreLong (sym (ap (λ l. drop first l) front.1 ∙ drop_at old (take front.0 packets) first (sym e))) (long-take front.0 packets all)

-- a zone that found no memory
pub takes_front : {A E : Type 0} (fed : Result A E) (up new : LinkReceiverState) (first : ℕ) (old mid out : List (List ℕ)) (read : FrameRead) (noted : List ℕ) → new.link ≡ up.link → new.last
    ≡ read.last → is_ok fed ≡ false → first ≡ length old →
    OnErr fed ((n : ℕ) × (mid ≡ old ++ take n read.packets)) → OnErr fed (1 ≤ length read.packets) → OnErr fed (new.begun ≡ []) → OnErr fed (noted ≡ counted up.drops NoMemory) →
    new.drops ≡ all_counted noted (drops_of up.link (drop first mid)) → out ≡ take first mid ++ pdus_of up.link (drop first mid) → TakesFront read up new old out
takes_front (Ok x) up new first old mid out read noted link last none e front some begun told drops pdus = absurd cc
takes_front (Err x) up new first old mid out read noted link last none e front some begun told drops pdus =
    let n : ℕ = front.0 in
    let behind : drop first mid ≡ take n read.packets = ap (λ l. drop first l) front.1 ∙ drop_at old (take n read.packets) first (sym e) in
    let before : take first mid ≡ old = ap (λ l. take first l) front.1 ∙ take_at old (take n read.packets) first (sym e) in
    record {
      link = link;
      last = last;
      count = n;
      begun = begun;
      some = some;
      drops = drops ∙ ap (λ l. all_counted l (drops_of up.link (drop first mid))) told ∙ ap (λ l. all_counted (counted up.drops NoMemory) (drops_of up.link l)) behind;
      pdus = pdus ∙ ap (λ l. l ++ pdus_of up.link (drop first mid)) before ∙ ap (λ l. old ++ pdus_of up.link l) behind;
    }

-- the same, of another end that has the same link and counts
pub front_again : (read same : FrameRead) (up mid new : LinkReceiverState) (old out : List (List ℕ)) → read ≡ same → mid.link ≡ up.link → mid.drops ≡ up.drops → TakesFront read mid new old out →
    TakesFront same up new old out
front_again read same up mid new old out e link drops t =
    subst (λ (r : FrameRead). TakesFront r up new old out) e (record {
      link = t.link ∙ link;
      last = t.last;
      begun = t.begun;
      some = t.some;
      count = t.count;
      drops = t.drops ∙ ap (λ l. all_counted (counted l NoMemory) (drops_of mid.link (take t.count read.packets))) drops
          ∙ ap (λ l. all_counted (counted up.drops NoMemory) (drops_of l (take t.count read.packets))) link;
      pdus = t.pdus ∙ ap (λ l. old ++ pdus_of l (take t.count read.packets)) link;
    })

pub all_again : (read same : FrameRead) (up mid new : LinkReceiverState) (old out : List (List ℕ)) → read ≡ same → mid.link ≡ up.link → mid.drops ≡ up.drops → Takes read mid new old out →
    Takes same up new old out
all_again read same up mid new old out e link drops t =
    subst (λ (r : FrameRead). Takes r up new old out) e (record {
      link = t.link ∙ link;
      last = t.last;
      begun = t.begun;
      drops = t.drops ∙ ap (λ l. all_counted (all_counted l read.told) (drops_of mid.link read.packets)) drops
          ∙ ap (λ l. all_counted (all_counted up.drops read.told) (drops_of l read.packets)) link;
      pdus = t.pdus ∙ ap (λ l. old ++ pdus_of l read.packets) link;
    })
