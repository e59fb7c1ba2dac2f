-- What a station seals goes on to be its frames, in their order.
use Rattle.std.proofs.Common.{◌≡◌, ◌⊎◌, inl, inr, ℕ, zero, suc, ◌+◌, ◌<◌, ◌≤◌, ◌^◌, Result, List, [], ◌∷◌, ◌++◌, length, slice_index_or, refl, sym, ap, subst, ◌∙◌, arith, append_assoc, append-nil, length-append}
use Rattle.std.specs.List.{Contains}
use Rattle.std.proofs.lemmas.List.{get_or_append_left, get_or_at}
use Rattle.std.proofs.lemmas.List.Elements.{Contains-append_cases, Contains-append_left, Contains-append_right}
use Rattle.aos_frame.specs.declared.config.Lane.{Lane}
use Rattle.aos_frame.specs.declared.config.Lane.TheVariants.{Directives, Data}
use Rattle.promises.specs.Passing.{with_sent}
use Rattle.promises.specs.Serving.{Served, StartsAnew, life_from}
use Rattle.any_order.specs.Kept.{EndKept, LifeKept, frames_in, with_frame}
use Rattle.cfdp_station.specs.Transmitting.{Times}
use Rattle.cfdp_station.specs.declared.config.StationConfig.{StationConfig}
use Rattle.frame_security.proofs.Taken.{contains_cases}
use Rattle.cfdp_port.specs.Calls.{WireCall, Sent}
use Rattle.cfdp_port.specs.PeerTurn.{SendsNext}
use Rattle.cfdp_port.specs.Port.{PortState}
use Rattle.cfdp_port.specs.declared.wire.WireFault.{WireFault}
use Rattle.secured_link.specs.Copies.{AreKept, AreKeptIn, IsMade, Numbered, next_in, numbered_from}
use Rattle.secured_link.specs.Serving.{sealed_of}
use Rattle.secured_wire.specs.Keeping.{KeeperCall}
use Rattle.secured_wire.specs.Passing.{sealed_by_call}
use Rattle.secured_wire.specs.Secured.{Secures, SecuredState}

-- ---- a life with one frame more
abbrev Fits : Numbered → LifeKept → ℕ → Type 0
Fits x life place = (place < length (frames_in x.sealed.lane life)) × (x.sealed.frame.bare ≡ slice_index_or (frames_in x.sealed.lane life) place []) × (x.number ≡ life.first + place)

first_same : (its : Lane) (frame : List ℕ) (l : LifeKept) → (with_frame its frame l).first ≡ l.first
first_same Directives frame l = refl
first_same Data frame l = refl

grown : (its lane : Lane) (frame : List ℕ) (l : LifeKept) (place : ℕ) → place < length (frames_in lane l) →
    (place < length (frames_in lane (with_frame its frame l))) × (slice_index_or (frames_in lane (with_frame its frame l)) place [] ≡ slice_index_or (frames_in lane l) place [])
grown Directives Directives frame l place lt = (omega (arith, lt, length-append l.directives (frame ∷ [])), get_or_append_left l.directives (frame ∷ []) [] place lt)
grown Directives Data frame l place lt = (lt, refl)
grown Data Directives frame l place lt = (lt, refl)
grown Data Data frame l place lt = (omega (arith, lt, length-append l.file_data (frame ∷ [])), get_or_append_left l.file_data (frame ∷ []) [] place lt)

next_grows : (its lane : Lane) (frame : List ℕ) (l : LifeKept) → next_in lane l ≤ next_in lane (with_frame its frame l)
next_grows Directives Directives frame l = omega (arith, length-append l.directives (frame ∷ []))
next_grows Directives Data frame l = omega arith
next_grows Data Directives frame l = omega arith
next_grows Data Data frame l = omega (arith, length-append l.file_data (frame ∷ []))

next_up : (its : Lane) (frame : List ℕ) (l : LifeKept) → next_in its (with_frame its frame l) ≡ next_in its l + 1
next_up Directives frame l = omega (arith, length-append l.directives (frame ∷ []))
next_up Data frame l = omega (arith, length-append l.file_data (frame ∷ []))

-- the frame itself
own_place : (its : Lane) (frame : List ℕ) (l : LifeKept) → (length (frames_in its l) < length (frames_in its (with_frame its frame l)))
    × (frame ≡ slice_index_or (frames_in its (with_frame its frame l)) (length (frames_in its l)) [])
own_place Directives frame l = (omega (arith, length-append l.directives (frame ∷ [])), sym (get_or_at l.directives frame [] [] (length l.directives) refl))
own_place Data frame l = (omega (arith, length-append l.file_data (frame ∷ [])), sym (get_or_at l.file_data frame [] [] (length l.file_data) refl))

fits_grown : (its : Lane) (frame : List ℕ) (l : LifeKept) (x : Numbered) (place : ℕ) → Fits x l place → Fits x (with_frame its frame l) place
fits_grown its frame l x place (lt, is, counted) =
    let g = grown its x.sealed.lane frame l place lt in
    (g.0, is ∙ sym g.1, counted ∙ ap (λ n. n + place) (sym (first_same its frame l)))

made_grown : (its : Lane) (frame : List ℕ) (before : List LifeKept) (latest : LifeKept) (x : Numbered) → IsMade x (before ++ latest ∷ []) → IsMade x (before ++ with_frame its frame latest ∷ [])
made_grown its frame before latest x m = by (Contains-append_cases before (latest ∷ []) m.life m.among) where
  last : (latest ≡ m.life) ⊎ Contains [] m.life → IsMade x (before ++ with_frame its frame latest ∷ [])
  last (inl is) =
      let f = fits_grown its frame latest x m.place (subst (λ l. Fits x l m.place) (sym is) (m.within, m.is, m.counted)) in
      record {
        life = with_frame its frame latest;
        among = Contains-append_right before (with_frame its frame latest ∷ []) (with_frame its frame latest) (0, omega arith, refl);
        place = m.place;
        within = f.0;
        is = f.1;
        counted = f.2;
      }
  last (inr (k, lt, is)) = absurd (omega (arith, lt))

  by : Contains before m.life ⊎ Contains (latest ∷ []) m.life → IsMade x (before ++ with_frame its frame latest ∷ [])
  by (inl in_before) = record {
    life = m.life;
    among = Contains-append_left before (with_frame its frame latest ∷ []) m.life in_before;
    place = m.place;
    within = m.within;
    is = m.is;
    counted = m.counted;
  }
  by (inr at_end) = last (contains_cases latest [] m.life at_end)

-- ---- a frame leaves
module _ (all : List Numbered) (next : ℕ) (before : List LifeKept) (latest : LifeKept) (kept : AreKeptIn all next before latest) (its : Lane) (frame : List ℕ) where
  -- it is lost
  pub with_lost : AreKeptIn (all ++ []) next before (with_frame its frame latest)
  with_lost = subst (λ l. AreKeptIn l next before (with_frame its frame latest)) (sym (append-nil all)) (record {
    each = λ x at. made_grown its frame before latest x (kept.each x at);
    fits = kept.fits;
    rise = kept.rise;
    sequence = kept.sequence;
    numbers = λ x at. let low = kept.numbers x at in let up = next_grows its x.sealed.lane frame latest in omega (arith, low, up);
  })

  -- it is sealed
  module _ (x : Numbered) (lane : x.sealed.lane ≡ its) (counted : x.number ≡ next_in its latest) (is : x.sealed.frame.bare ≡ frame) (numbered : x.sealed.frame.number ≡ next) (small : next < 2 ^ 64) (header : 6 ≤ length frame) where
    abbrev Old : Numbered → Type 0
    Old y = Contains all y ⊎ (x ≡ y)

    cases : (y : Numbered) → Contains (all ++ x ∷ []) y → Old y
    cases y at = by (Contains-append_cases all (x ∷ []) y at) where
      last : (x ≡ y) ⊎ Contains [] y → Old y
      last (inl same) = inr same
      last (inr (k, lt, is)) = absurd (omega (arith, lt))

      by : Contains all y ⊎ Contains (x ∷ []) y → Old y
      by (inl old) = inl old
      by (inr end) = last (contains_cases x [] y end)

    own : IsMade x (before ++ with_frame its frame latest ∷ [])
    own =
        let p = own_place its frame latest in
        record {
          life = with_frame its frame latest;
          among = Contains-append_right before (with_frame its frame latest ∷ []) (with_frame its frame latest) (0, omega arith, refl);
          place = length (frames_in its latest);
          within = subst (λ l. length (frames_in its latest) < length (frames_in l (with_frame its frame latest))) (sym lane) p.0;
          is = is ∙ p.1 ∙ ap (λ l. slice_index_or (frames_in l (with_frame its frame latest)) (length (frames_in its latest)) []) (sym lane);
          counted = counted ∙ ap (λ n. n + length (frames_in its latest)) (sym (first_same its frame latest));
        }

    each_by : (y : Numbered) → Old y → IsMade y (before ++ with_frame its frame latest ∷ [])
    each_by y (inl old) = made_grown its frame before latest y (kept.each y old)
    each_by y (inr same) = subst (λ z. IsMade z (before ++ with_frame its frame latest ∷ [])) same own

    fits_by : (y : Numbered) → Old y → (y.sealed.frame.number < 2 ^ 64) × (6 ≤ length y.sealed.frame.bare)
    fits_by y (inl old) = kept.fits y old
    fits_by y (inr same) = subst (λ (z : Numbered). (z.sealed.frame.number < 2 ^ 64) × (6 ≤ length z.sealed.frame.bare)) same
        (subst (λ n. n < 2 ^ 64) (sym numbered) small, subst (λ (l : List ℕ). 6 ≤ length l) (sym is) header)

    sequence_by : (y : Numbered) → Old y → y.sealed.frame.number < next + 1
    sequence_by y (inl old) = let low = kept.sequence y old in omega (arith, low)
    sequence_by y (inr same) = let e : x.sealed.frame.number ≡ y.sealed.frame.number = ap (λ (z : Numbered). z.sealed.frame.number) same in omega (arith, e, numbered)

    numbers_by : (y : Numbered) → Old y → y.number < next_in y.sealed.lane (with_frame its frame latest)
    numbers_by y (inl old) = let low = kept.numbers y old in let up = next_grows its y.sealed.lane frame latest in omega (arith, low, up)
    numbers_by y (inr same) =
        let n : x.number ≡ y.number = ap (λ (z : Numbered). z.number) same in
        let l : next_in its (with_frame its frame latest) ≡ next_in y.sealed.lane (with_frame its frame latest) =
        ap (λ a. next_in a (with_frame its frame latest)) (sym lane ∙ ap (λ (z : Numbered). z.sealed.lane) same) in
        let up = next_up its frame latest in
        omega (arith, n, l, up, counted)

    rise_by : (y z : Numbered) → Old y → Old z → y.sealed.lane ≡ z.sealed.lane → y.sealed.frame.number < z.sealed.frame.number → y.number < z.number
    rise_by y z (inl a) (inl b) same up = kept.rise y z a b same up
    rise_by y z (inl a) (inr b) same up =
        let low = kept.numbers y a in
        let n : x.number ≡ z.number = ap (λ (z : Numbered). z.number) b in
        let l : next_in y.sealed.lane latest ≡ next_in its latest = ap (λ a. next_in a latest) (same ∙ sym (ap (λ (z : Numbered). z.sealed.lane) b) ∙ lane) in
        omega (arith, low, n, l, counted)
    rise_by y z (inr a) (inl b) same up =
        let low = kept.sequence z b in
        let e : x.sealed.frame.number ≡ y.sealed.frame.number = ap (λ (z : Numbered). z.sealed.frame.number) a in
        absurd (omega (arith, low, e, numbered, up))
    rise_by y z (inr a) (inr b) same up =
        let e : x.sealed.frame.number ≡ y.sealed.frame.number = ap (λ (z : Numbered). z.sealed.frame.number) a in
        let f : x.sealed.frame.number ≡ z.sealed.frame.number = ap (λ (z : Numbered). z.sealed.frame.number) b in
        absurd (omega (arith, e, f, up))

    pub with_sealed : AreKeptIn (all ++ x ∷ []) (next + 1) before (with_frame its frame latest)
    with_sealed = record {
      each = λ y at. each_by y (cases y at);
      fits = λ y at. fits_by y (cases y at);
      rise = λ y z at_y at_z same up. rise_by y z (cases y at_y) (cases z at_z) same up;
      sequence = λ y at. sequence_by y (cases y at);
      numbers = λ y at. numbers_by y (cases y at);
    }

-- ---- a start
starts_lane : (lane : Lane) (first : ℕ) → next_in lane (life_from first) ≡ first
starts_lane Directives first = omega arith
starts_lane Data first = omega arith

pub started : (all : List Numbered) (next now first : ℕ) (before : List LifeKept) (latest : LifeKept) → AreKeptIn all next before latest → next ≤ now → ((lane : Lane) → latest.first + length (frames_in lane latest) < first) →
    AreKeptIn all now (before ++ latest ∷ []) (life_from first)
started all next now first before latest kept up apart = record {
  each = λ x at. let m = kept.each x at in
      record {
        life = m.life;
        among = Contains-append_left (before ++ latest ∷ []) (life_from first ∷ []) m.life m.among;
        place = m.place;
        within = m.within;
        is = m.is;
        counted = m.counted;
      };
  fits = kept.fits;
  rise = kept.rise;
  sequence = λ x at. let low = kept.sequence x at in omega (arith, low, up);
  numbers = λ x at. let low = kept.numbers x at in let far = apart x.sealed.lane in let e = starts_lane x.sealed.lane first in omega (arith, low, far, e);
}

pub starts : (all : List Numbered) (next now first number : ℕ) (c : StationConfig) (old new : Served) → StartsAnew first number c old new → AreKept all next old.kept → next ≤ now → AreKept all now new.kept
starts all next now first number c old new anew kept up =
    subst (λ (k : EndKept). AreKept all now k) (sym anew.kept) (started all next now first old.kept.before old.kept.latest kept up anew.apart)

-- ---- all frames that leave
module _ {W : Type 0} (Steps : W → WireCall → W → Type 0) (Calls : KeeperCall → Type 0) where
  one_sent : (lane : Lane) (frame : List ℕ) (answer : Result (Unit {0}) WireFault) (old new : SecuredState W) (sent : Secures Steps Calls old (Sent frame answer) new) (all : List Numbered) (before : List LifeKept) (latest : LifeKept) →
      AreKeptIn all old.sealer.next before latest → AreKeptIn (all ++ numbered_from (next_in lane latest) (sealed_by_call Steps Calls lane frame answer old new sent)) new.sealer.next before (with_frame lane frame latest)
  one_sent lane frame answer old new (inl sends) all before latest kept =
      let x : Numbered = record {
        number = next_in lane latest;
        sealed = record { lane = lane; frame = record { spi = old.sealer.spi; key = old.sealer.key; number = old.sealer.next; bare = frame } };
      } in
      subst (λ n. AreKeptIn (all ++ x ∷ []) n before (with_frame lane frame latest)) (sym (ap (λ s. s.next) sends.sealer))
      (with_sealed all old.sealer.next before latest kept lane frame x refl refl refl refl (let m = sends.number in omega (arith, m)) sends.header)
  one_sent lane frame answer old new (inr lost) all before latest kept =
      subst (λ (s : SecuredState W). AreKeptIn (all ++ []) s.sealer.next before (with_frame lane frame latest)) (sym lost.same) (with_lost all old.sealer.next before latest kept lane frame)

  pub all_sent : (count : ℕ) (old new : PortState (SecuredState W)) (sent : Times (SendsNext (Secures Steps Calls)) count old new) (all : List Numbered) (before : List LifeKept) (latest : LifeKept) →
      AreKeptIn all old.wire.sealer.next before latest → AreKeptIn (all ++ sealed_of Steps Calls count old new sent latest) new.wire.sealer.next before (with_sent (Secures Steps Calls) count old new sent latest)
  all_sent zero old new same all before latest kept =
      subst (λ l. AreKeptIn l new.wire.sealer.next before latest) (sym (append-nil all)) (subst (λ (p : PortState (SecuredState W)). AreKeptIn all p.wire.sealer.next before latest) (sym same) kept)
  all_sent (suc count) old new (mid, earlier, step) all before latest kept =
      let sends = step.sends in
      let life : LifeKept = with_sent (Secures Steps Calls) count old mid earlier latest in
      let xs : List Numbered = sealed_of Steps Calls count old mid earlier latest in
      let ys : List Numbered = numbered_from (next_in sends.lane life) (sealed_by_call Steps Calls sends.lane sends.frame sends.answer step.ready new.wire sends.sent) in
      let b = all_sent count old mid earlier all before latest kept in
      let ready : AreKeptIn (all ++ xs) step.ready.sealer.next before life = subst (λ s. AreKeptIn (all ++ xs) s.next before life) (sym step.asked.sealer) b in
      subst (λ l. AreKeptIn l new.wire.sealer.next before (with_frame sends.lane sends.frame life)) (append_assoc all xs ys)
      (one_sent sends.lane sends.frame sends.answer step.ready new.wire sends.sent (all ++ xs) before life ready)
