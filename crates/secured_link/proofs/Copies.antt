-- What is accepted over a secured wire are copies of frames that the other station made.
use Rattle.std.proofs.Common.{◌≡◌, ◌⊎◌, inl, inr, ℕ, ◌+◌, ◌<◌, ◌≤◌, Bool, true, false, Option, Some, None, IfSome, List, [], ◌∷◌, ◌++◌, refl, sym, ap, subst, ◌∙◌, arith}
use Rattle.std.specs.List.{Contains}
use Rattle.std.proofs.lemmas.Option.{slice_get_read}
use Rattle.aos_frame.specs.Counts.{frame_counts}
use Rattle.aos_frame.specs.declared.config.Lane.{Lane}
use Rattle.aos_frame.specs.declared.config.Lane.TheVariants.{Directives, Data}
use Rattle.aos_frame.specs.declared.config.LinkConfig.{LinkConfig}
use Rattle.promises.specs.Passing.{Comes, ComesOne}
use Rattle.any_order.specs.Kept.{EndKept, all_kept, last_at, with_last}
use Rattle.any_order.specs.Refusing.{IsNearLast}
use Rattle.cfdp_station.specs.Transmitting.{Times}
use Rattle.aos_frame.specs.LinkFields.{bare_in}
use Rattle.frame_security.specs.declared.opening.FrameRefusal.{FrameRefusal}
use Rattle.frame_security.specs.Frames as frames
use Rattle.frame_security.specs.Frames.{frame_in}
use Rattle.frame_security.specs.Opening.{OpenerState, after, after_by, refusal}
use Rattle.frame_security.proofs.RoundTrip.{frame_of_secured, number_of_secured}
use Rattle.frame_security.proofs.Taken.{accepted}
use Rattle.cfdp_port.specs.Calls.{WireCall}
use Rattle.cfdp_port.specs.Passing.{frames_came}
use Rattle.cfdp_port.specs.Port.{PortState}
use Rattle.cfdp_port.specs.Turn.{AsksOn}
use Rattle.secured_link.specs.Copies.{Accepts, AcceptsBy, AreKept, IsAccepted, Numbered, TookLast}
use Rattle.secured_wire.specs.Keeping.{KeeperCall}
use Rattle.secured_wire.specs.Passing.{arrivals}
use Rattle.secured_wire.specs.Direction.{Arrival, frames_of_all, frames_by, opener_then}
use Rattle.secured_wire.specs.Secured.{Secures, SecuredState}
use Rattle.secured_link.proofs.Arriving.{heard_by_all}

-- ---- the last number of a lane
same_some : (a b : ℕ) → Some a ≡ Some b → a ≡ b
same_some a b e = cc

pub took_later : (all : List Numbered) (old : EndKept) (last high : ℕ) → last ≤ high → TookLast all last old → TookLast all high old
took_later all old last high le took = λ lane before e. let x = took lane before e in (x.0, x.1, x.2, x.3, omega (arith, x.4, le))

-- with a later frame of this lane
pub last_cases : (its lane : Lane) (n before : ℕ) (k : EndKept) → last_at lane (with_last its n k) ≡ Some before → ((its ≡ lane) × (n ≡ before)) ⊎ (last_at lane k ≡ Some before)
last_cases Directives Directives n before k e = inl (refl, same_some n before e)
last_cases Directives Data n before k e = inr e
last_cases Data Directives n before k e = inr e
last_cases Data Data n before k e = inl (refl, same_some n before e)

near_by : (last : Option ℕ) (n : ℕ) → IfSome last (λ before. n ≤ before + frame_counts) → ((before : ℕ) → last ≡ Some before → before < n) → IsNearLast last n
near_by None n few up = tt
near_by (Some before) n few up =
    let m = up before refl in
    let low : before < n = m in
    let high : n ≤ before + frame_counts = few in
    record { in_front = high; behind = omega (arith, low) }

pub keeps_size : (r : Option FrameRefusal) (n : ℕ) (o : OpenerState) → o.security.mac_len ≤ 32 → (after_by r n o).security.mac_len ≤ 32
keeps_size None n o most = most
keeps_size (Some cause) n o most = most

module _ (theirs : EndKept) (all : List Numbered) (next : ℕ) (kept : AreKept all next theirs) where
  -- a frame is accepted
  number_is : (o : OpenerState) (octets : List ℕ) (old new : EndKept) (is : IsAccepted all o octets old new) → frames.number_in (bare_in o.security.fields octets) ≡ is.one.sealed.frame.number
  number_is o octets old new is =
      let y : Numbered = is.one in
      let can = kept.fits y is.sealed in
      ap frames.number_in is.unforged ∙ number_of_secured o.security y.sealed.frame.key y.sealed.frame.spi y.sealed.frame.number y.sealed.frame.bare can.1 can.0

  pub took_then : (o : OpenerState) (octets : List ℕ) (old new : EndKept) → TookLast all o.last old → refusal o octets ≡ None → IsAccepted all o octets old new → TookLast all (frames.number_in (bare_in o.security.fields octets)) new
  took_then o octets old new took fresh is =
      let up = (accepted o octets fresh).1 in
      let count = number_is o octets old new is in
      λ lane before e. by count up lane before (last_cases is.one.sealed.lane lane is.one.number before old (subst (λ (k : EndKept). last_at lane k ≡ Some before) is.last e)) where
        by : frames.number_in (bare_in o.security.fields octets) ≡ is.one.sealed.frame.number → o.last < frames.number_in (bare_in o.security.fields octets) → (lane : Lane) (before : ℕ) →
            ((is.one.sealed.lane ≡ lane) × (is.one.number ≡ before)) ⊎ (last_at lane old ≡ Some before) →
            (x : Numbered) × Contains all x × (x.sealed.lane ≡ lane) × (x.number ≡ before) × (x.sealed.frame.number ≤ frames.number_in (bare_in o.security.fields octets))
        by count up lane before (inl (same, num)) = (is.one, is.sealed, same, num, omega (arith, count))
        by count up lane before (inr e) = let x = took lane before e in (x.0, x.1, x.2, x.3, omega (arith, x.4, up))

  comes_one : (link : LinkConfig) (o : OpenerState) (octets : List ℕ) (old new : EndKept) → o.security.mac_len ≤ 32 → TookLast all o.last old → refusal o octets ≡ None → IsAccepted all o octets old new →
      ComesOne link (frame_in o.security (bare_in o.security.fields octets)) theirs old new
  comes_one link o octets old new most took fresh is =
      let bare : List ℕ = bare_in o.security.fields octets in
      let y : Numbered = is.one in
      let can = kept.fits y is.sealed in
      let made = kept.each y is.sealed in
      let count : frames.number_in bare ≡ y.sealed.frame.number = number_is o octets old new is in
      let frame : frame_in o.security bare ≡ y.sealed.frame.bare =
      ap (frame_in o.security) is.unforged ∙ frame_of_secured o.security y.sealed.frame.key y.sealed.frame.spi y.sealed.frame.number y.sealed.frame.bare can.1 most in
      let up : o.last < frames.number_in bare = (accepted o octets fresh).1 in
      let late : o.last < y.sealed.frame.number = omega (arith, count, up) in
      let rises : (before : ℕ) → last_at y.sealed.lane old ≡ Some before → before < y.number =
      λ before e. above late before (took y.sealed.lane before e) in
      let near : IsNearLast (last_at y.sealed.lane old) y.number = near_by (last_at y.sealed.lane old) y.number is.few_lost rises in
      inl (record {
        frame = record { life = made.among.0; lane = y.sealed.lane; place = made.place };
        life = made.life;
        made = (slice_get_read (all_kept theirs) _ made.among.0 made.life refl made.among.1 (sym made.among.2), made.within);
        is = frame ∙ made.is;
        near = subst (IsNearLast (last_at y.sealed.lane old)) made.counted near;
        last = is.last ∙ ap (λ n. with_last y.sealed.lane n old) made.counted;
      }) where
        above : o.last < is.one.sealed.frame.number → (before : ℕ) → (x : Numbered) × Contains all x × (x.sealed.lane ≡ is.one.sealed.lane) × (x.number ≡ before) × (x.sealed.frame.number ≤ o.last) → before < is.one.number
        above late before (x, in_all, lane, num, low) =
            let up : x.number < is.one.number = kept.rise x is.one in_all is.sealed lane (omega (arith, low, late)) in
            omega (arith, up, num)

  -- octets that came
  step : (link : LinkConfig) (o : OpenerState) (a : Arrival) (old new : EndKept) → o.security.mac_len ≤ 32 → TookLast all o.last old → (r : Option FrameRefusal) (handed_on : Bool) → refusal o a.octets ≡ r → AcceptsBy all o a.octets r handed_on old new →
      ((more : List (List ℕ)) (end : EndKept) → Comes link more theirs new end
      → Comes link (frames_by handed_on r (frame_in o.security (bare_in o.security.fields a.octets)) ++ more) theirs old end)
      × TookLast all (after_by r (frames.number_in (bare_in o.security.fields a.octets)) o).last new
  step link o a old new most took (Some cause) true e same = (λ more end h. subst (λ (k : EndKept). Comes link more theirs k end) same h, subst (TookLast all o.last) (sym same) took)
  step link o a old new most took (Some cause) false e same = (λ more end h. subst (λ (k : EndKept). Comes link more theirs k end) same h, subst (TookLast all o.last) (sym same) took)
  step link o a old new most took None false e same =
      let n : ℕ = frames.number_in (bare_in o.security.fields a.octets) in
      let h = (accepted o a.octets e).1 in
      (λ more end h. subst (λ (k : EndKept). Comes link more theirs k end) same h, subst (TookLast all n) (sym same) (took_later all old o.last n (omega (arith, h)) took))
  step link o a old new most took None true e is =
      let one = comes_one link o a.octets old new most took e is in
      (λ more end h. (new, one, h), took_then o a.octets old new took e is)

  arrive : (link : LinkConfig) (o : OpenerState) (came : List Arrival) (old new : EndKept) → o.security.mac_len ≤ 32 → TookLast all o.last old → Accepts all o came old new →
      Comes link (frames_of_all o came) theirs old new × TookLast all (opener_then o came).last new
  arrive link o [] old new most took same = (same, subst (TookLast all o.last) (sym same) took)
  arrive link o (a ∷ came) old new most took (mid, one, more) =
      let n : ℕ = frames.number_in (bare_in o.security.fields a.octets) in
      let first = step link o a old mid most took (refusal o a.octets) a.handed_on refl one in
      let rest = arrive link (after o a.octets) came mid new (keeps_size (refusal o a.octets) n o most) first.1 more in
      (first.0 (frames_of_all (after o a.octets) came) new rest.0, rest.1)

pub copies : {W : Type 0} (Steps : W → WireCall → W → Type 0) (Calls : KeeperCall → Type 0) (link : LinkConfig) (theirs old new : EndKept) (all : List Numbered) (next : ℕ) (count : ℕ) (before later : PortState (SecuredState W))
    (heard : Times (AsksOn (Secures Steps Calls)) count before later) → AreKept all next theirs → before.wire.opener.security.mac_len ≤ 32 → TookLast all before.wire.opener.last old →
    Accepts all before.wire.opener (arrivals Steps Calls count before later heard) old new →
    Comes link (frames_came (Secures Steps Calls) count before later heard) theirs old new × TookLast all later.wire.opener.last new
copies Steps Calls link theirs old new all next count before later heard kept most took accepts =
    let h = heard_by_all Steps Calls count before later heard in
    let t = arrive theirs all next kept link before.wire.opener (arrivals Steps Calls count before later heard) old new most took accepts in (
      subst (λ l. Comes link l theirs old new) (sym h.frames) t.0,
      subst (λ (o : OpenerState). TookLast all o.last new) (sym h.opener) t.1,
    )
