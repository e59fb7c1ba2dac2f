-- Octets none of which was forged are accepted, and so is what was sealed.
use Rattle.std.proofs.Common.{◌≡◌, ◌⊎◌, inl, inr, ℕ, ◌+◌, ◌<◌, ◌≤◌, ◌^◌, Bool, true, false, Option, Some, None, IfSome, List, [], ◌∷◌, ◌++◌, length, take, drop, map, refl, sym, ap, ap₂, subst, ◌∙◌, arith, length-append}
use Rattle.std.specs.List.{Contains}
use Rattle.std.proofs.lemmas.List.{length-take-le, take-append-drop}
use Rattle.aos_frame.specs.Counts.{frame_counts}
use Rattle.aos_frame.specs.declared.config.Lane.{Lane}
use Rattle.any_order.specs.Kept.{EndKept, last_at, with_last}
use Rattle.aos_frame.specs.LinkFields.{bare_in}
use Rattle.aos_frame.proofs.RoundTrip.{opens_sealed}
use Rattle.frame_security.specs.declared.config.Security.{Security}
use Rattle.frame_security.specs.declared.opening.FrameRefusal.{FrameRefusal}
use Rattle.frame_security.specs.Frames as frames
use Rattle.frame_security.specs.Frames.{IsSecurity, secured}
use Rattle.frame_security.specs.Lives.{IsAuthenticAt}
use Rattle.frame_security.specs.Opening.{OpenerState, after, after_by, key_of, refusal}
use Rattle.frame_security.specs.Sealing.{SealerState, secured_frame}
use Rattle.frame_security.proofs.RoundTrip.{number_of_secured, opened}
use Rattle.frame_security.proofs.Taken.{accepted, contains_cases, contains_more}
use Rattle.secured_link.specs.Copies.{Accepts, AcceptsBy, AreKept, AreNear, IsAccepted, Numbered, TookLast}
use Rattle.secured_link.proofs.Copies.{keeps_size, last_cases, took_later, took_then}
use Rattle.secured_wire.specs.Direction.{Arrival, NoneForgedOf, SealedIn}

few_by : (last : Option ℕ) (n : ℕ) → ((before : ℕ) → last ≡ Some before → n ≤ before + frame_counts) → IfSome last (λ before. n ≤ before + frame_counts)
few_by None n h = tt
few_by (Some before) n h = h before refl

-- the frame that these octets are of
numbered_of : (all : List Numbered) (x : SealedIn) → Contains (map (λ (y : Numbered). y.sealed) all) x → (y : Numbered) × Contains all y × (y.sealed ≡ x)
numbered_of [] x (k, lt, is) = absurd (omega (arith, lt))
numbered_of (z ∷ all) x at = by (λ more. numbered_of all x more) (contains_cases z.sealed (map (λ (y : Numbered). y.sealed) all) x at) where
  by : (Contains (map (λ (y : Numbered). y.sealed) all) x → (y : Numbered) × Contains all y × (y.sealed ≡ x)) → (z.sealed ≡ x) ⊎ Contains (map (λ (y : Numbered). y.sealed) all) x → (y : Numbered) × Contains (z ∷ all) y × (y.sealed ≡ x)
  by rest (inl same) = (z, (0, omega arith, refl), same)
  by rest (inr more) = let y = rest more in (y.0, contains_more z all y.0 y.1, y.2)

module _ (theirs : EndKept) (all : List Numbered) (next : ℕ) (kept : AreKept all next theirs) where
  -- what is near a frame that is accepted
  near_then : (last : ℕ) (old : EndKept) (y : Numbered) → Contains all y → last < y.sealed.frame.number → AreNear all last old → AreNear all y.sealed.frame.number (with_last y.sealed.lane y.number old)
  near_then last old y at fresh close = λ x z in_x in_z same above which. by x z in_x in_z same above which where
    last_by : (x z : Numbered) → Contains all x → Contains all z → x.sealed.lane ≡ z.sealed.lane → y.sealed.frame.number < z.sealed.frame.number →
        ((y.sealed.lane ≡ x.sealed.lane) × (y.number ≡ x.number)) ⊎ (last_at x.sealed.lane old ≡ Some x.number) → z.number ≤ x.number + frame_counts
    last_by x z in_x in_z same above (inl (lane, num)) =
        let m : z.number ≤ y.number + frame_counts = close y z at in_z (lane ∙ same) (omega (arith, fresh, above)) (inl fresh) in
        omega (arith, m, num)
    last_by x z in_x in_z same above (inr e) = close x z in_x in_z same (omega (arith, fresh, above)) (inr e)

    by : (x z : Numbered) → Contains all x → Contains all z → x.sealed.lane ≡ z.sealed.lane → y.sealed.frame.number < z.sealed.frame.number →
        (y.sealed.frame.number < x.sealed.frame.number) ⊎ (last_at x.sealed.lane (with_last y.sealed.lane y.number old) ≡ Some x.number) → z.number ≤ x.number + frame_counts
    by x z in_x in_z same above (inl up) = close x z in_x in_z same (omega (arith, fresh, above)) (inl (omega (arith, fresh, up)))
    by x z in_x in_z same above (inr e) = last_by x z in_x in_z same above (last_cases y.sealed.lane x.sealed.lane y.number x.number old e)

  still_near : (old : EndKept) (last high : ℕ) → last ≤ high → AreNear all last old → AreNear all high old
  still_near old last high le close = λ x y in_x in_y same above which. close x y in_x in_y same (omega (arith, le, above)) (by x which) where
    by : (x : Numbered) → (high < x.sealed.frame.number) ⊎ (last_at x.sealed.lane old ≡ Some x.number) → (last < x.sealed.frame.number) ⊎ (last_at x.sealed.lane old ≡ Some x.number)
    by x (inl up) = inl (omega (arith, le, up))
    by x (inr e) = inr e

  -- What must be shown of octets that arrived.
  record Takes (o : OpenerState) (a : Arrival) (r : Option FrameRefusal) (old : EndKept) : Type 0 where
    new : EndKept
    accepts : AcceptsBy all o a.octets r a.handed_on old new
    took : TookLast all (after_by r (frames.number_in (bare_in o.security.fields a.octets)) o).last new
    near : AreNear all (after_by r (frames.number_in (bare_in o.security.fields a.octets)) o).last new

  step : (o : OpenerState) (octets : List ℕ) (handed_on : Bool) (old : EndKept) → o.security.mac_len ≤ 32 → TookLast all o.last old → AreNear all o.last old →
      (IsAuthenticAt o octets → (x : SealedIn) × Contains (map (λ (y : Numbered). y.sealed) all) x
      × (bare_in o.security.fields octets ≡ secured o.security x.frame.key x.frame.spi x.frame.number x.frame.bare)) →
      (r : Option FrameRefusal) → refusal o octets ≡ r → Takes o (record { octets = octets; handed_on = handed_on }) r old
  step o octets true old most took close none (Some cause) e = record { new = old; accepts = refl; took = took; near = close }
  step o octets false old most took close none (Some cause) e = record { new = old; accepts = refl; took = took; near = close }
  step o octets false old most took close none None e =
      let n : ℕ = frames.number_in (bare_in o.security.fields octets) in
      let h = (accepted o octets e).1 in
      record { new = old; accepts = refl; took = took_later all old o.last n (omega (arith, h)) took; near = still_near old o.last n (omega (arith, h)) close }
  step o octets true old most took close none None e =
      let bare : List ℕ = bare_in o.security.fields octets in
      let is_taken = accepted o octets e in
      let was = none is_taken.0 in
      let found = numbered_of all was.0 was.1 in
      let y : Numbered = found.0 in
      let can = kept.fits y found.1 in
      let unforged : bare ≡ secured o.security y.sealed.frame.key y.sealed.frame.spi y.sealed.frame.number y.sealed.frame.bare =
      was.2 ∙ sym (ap (λ (x : SealedIn). secured o.security x.frame.key x.frame.spi x.frame.number x.frame.bare) found.2) in
      let count : frames.number_in bare ≡ y.sealed.frame.number =
      ap frames.number_in unforged ∙ number_of_secured o.security y.sealed.frame.key y.sealed.frame.spi y.sealed.frame.number y.sealed.frame.bare can.1 can.0 in
      let up : o.last < frames.number_in bare = is_taken.1 in
      let late : o.last < y.sealed.frame.number = omega (arith, count, up) in
      let one : IsAccepted all o octets old (with_last y.sealed.lane y.number old) = record {
        one = y;
        sealed = found.1;
        unforged = unforged;
        few_lost = few_by (last_at y.sealed.lane old) y.number (λ before e. few y found.1 late before e (took y.sealed.lane before e));
        last = refl;
      } in
      record {
        new = with_last y.sealed.lane y.number old;
        accepts = one;
        took = took_then theirs all next kept o octets old (with_last y.sealed.lane y.number old) took e one;
        near = subst (λ n. AreNear all n (with_last y.sealed.lane y.number old)) (sym count) (near_then o.last old y found.1 late close);
      } where
        few : (y : Numbered) → Contains all y → o.last < y.sealed.frame.number → (before : ℕ) → last_at y.sealed.lane old ≡ Some before →
            (x : Numbered) × Contains all x × (x.sealed.lane ≡ y.sealed.lane) × (x.number ≡ before) × (x.sealed.frame.number ≤ o.last) → y.number ≤ before + frame_counts
        few y at late before e (x, in_all, same, num, low) =
            let last_x : last_at x.sealed.lane old ≡ Some x.number = subst (λ (l : Lane). last_at l old ≡ Some x.number) (sym same) (subst (λ k. last_at y.sealed.lane old ≡ Some k) (sym num) e) in
            let high : y.number ≤ x.number + frame_counts = close x y in_all at same late (inr last_x) in
            omega (arith, high, num)

  keeps : (r : Option FrameRefusal) (n : ℕ) (o : OpenerState) (a : Arrival) (came : List Arrival) → NoneForgedOf o (map (λ (y : Numbered). y.sealed) all) (a ∷ came) → NoneForgedOf (after_by r n o) (map (λ (y : Numbered). y.sealed) all) came
  keeps None n o a came none = λ b at. none b (contains_more a came b at)
  keeps (Some cause) n o a came none = λ b at. none b (contains_more a came b at)

  pub arrive : (o : OpenerState) (came : List Arrival) (old : EndKept) → o.security.mac_len ≤ 32 → TookLast all o.last old → AreNear all o.last old → NoneForgedOf o (map (λ (y : Numbered). y.sealed) all) came →
      (new : EndKept) × Accepts all o came old new
  arrive o [] old most took close none = (old, refl)
  arrive o (a ∷ came) old most took close none =
      let n : ℕ = frames.number_in (bare_in o.security.fields a.octets) in
      let one = step o a.octets a.handed_on old most took close (none a (0, omega arith, refl)) (refusal o a.octets) refl in
      let more = arrive (after o a.octets) came one.new (keeps_size (refusal o a.octets) n o most) one.took one.near (keeps (refusal o a.octets) n o a came none) in
      (more.0, (one.new, one.accepts, more.1))

-- ---- a frame that was sealed arrives
seals_long : (s : Security) (key : List ℕ) (spi number : ℕ) (bare : List ℕ) → 6 ≤ length bare → 6 ≤ length (secured s key spi number bare)
seals_long s key spi number bare six =
    let text : List ℕ = frames.text_of spi number bare in
    let all = length-append text (frames.mac_of s key text) in
    let whole = length-append (take 6 bare ++ frames.security_header spi number) (drop 6 bare) in
    let front = length-append (take 6 bare) (frames.security_header spi number) in
    let six_of = length-take-le 6 bare six in
    omega (arith, all, whole, front, six_of)

pub sealed_arrives : (s : SealerState) (o : OpenerState) (control : ℕ) (all : List Numbered) (x : Numbered) (old : EndKept) → IsSecurity s.security → o.security ≡ s.security → s.spi < 2 ^ 16 → s.next < 2 ^ 64 →
    key_of o s.spi ≡ Some s.key → o.last < s.next → 6 ≤ length x.sealed.frame.bare → control < 2 ^ 32 → Contains all x → x.sealed.frame.spi ≡ s.spi → x.sealed.frame.key ≡ s.key → x.sealed.frame.number ≡ s.next →
    IfSome (last_at x.sealed.lane old) (λ before. x.number ≤ before + frame_counts) →
    Accepts all o (record { octets = secured_frame s x.sealed.frame.bare control; handed_on = true } ∷ []) old (with_last x.sealed.lane x.number old)
sealed_arrives s o control all x old valid same spi number known fresh six fits at its_spi its_key its_number few =
    let bare : List ℕ = x.sealed.frame.bare in
    let frame : List ℕ = secured_frame s bare control in
    let inner : List ℕ = secured s.security s.key s.spi s.next bare in
    let parts = opens_sealed s.security.fields inner control (seals_long s.security s.key s.spi s.next bare six) fits in
    let stands : bare_in o.security.fields frame ≡ inner =
    ap (λ (y : Security). bare_in y.fields frame) same ∙ ap₂ (λ (y z : List ℕ). y ++ z) parts.1 parts.3 ∙ take-append-drop 6 inner in
    let its : inner ≡ secured o.security x.sealed.frame.key x.sealed.frame.spi x.sealed.frame.number bare =
    ap (λ (y : Security). secured y s.key s.spi s.next bare) (sym same) ∙ ap (λ k. secured o.security k s.spi s.next bare) (sym its_key)
    ∙ ap (λ k. secured o.security x.sealed.frame.key k s.next bare) (sym its_spi) ∙ ap (λ k. secured o.security x.sealed.frame.key x.sealed.frame.spi k bare) (sym its_number) in
    let one : IsAccepted all o frame old (with_last x.sealed.lane x.number old) = record { one = x; sealed = at; unforged = stands ∙ its; few_lost = few; last = refl } in
    let fault = (opened s o bare control valid same spi number known fresh six fits).0 in
    (with_last x.sealed.lane x.number old, subst (λ r. AcceptsBy all o frame r true old (with_last x.sealed.lane x.number old)) (sym fault) one, refl)
