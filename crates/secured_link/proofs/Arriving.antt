-- Exported: what comes over a secured wire is what its opener accepts of what arrived.
use Rattle.std.proofs.Common.{◌≡◌, ◌≢◌, ◌⊎◌, inl, inr, ℕ, zero, suc, ◌<◌, true, Option, Some, None, Ok, Err, List, [], ◌∷◌, ◌++◌, refl, sym, ap, ap₂, ◌∙◌, append_assoc}
use Rattle.cfdp_station.specs.Transmitting.{Times}
use Rattle.aos_frame.specs.LinkFields.{bare_in}
use Rattle.frame_security.specs.declared.opening.FrameRefusal.{FrameRefusal}
use Rattle.frame_security.specs.Frames.{frame_in, number_in}
use Rattle.frame_security.specs.Opening.{OpenerState, after, after_by, refusal}
use Rattle.cfdp_port.specs.Calls.{WireCall}
use Rattle.cfdp_port.specs.Passing.{frames_came, what_came}
use Rattle.cfdp_port.specs.Port.{PortState}
use Rattle.cfdp_port.specs.Turn.{AsksOn, Asks}
use Rattle.secured_wire.specs.Keeping.{KeeperCall}
use Rattle.secured_wire.specs.Passing.{arrival_of, arrivals}
use Rattle.secured_wire.specs.Direction.{Arrival, frames_of_all, frames_by, opener_then}
use Rattle.secured_wire.specs.Secured.{Came, Opens, Secures, SecuredState, opened_by}

-- ---- arrivals, one after another
frames_of_all-append : (o : OpenerState) (xs ys : List Arrival) → frames_of_all o (xs ++ ys) ≡ frames_of_all o xs ++ frames_of_all (opener_then o xs) ys
frames_of_all-append o [] ys = refl
frames_of_all-append o (a ∷ xs) ys =
    let f = frames_by a.handed_on (refusal o a.octets) (frame_in o.security (bare_in o.security.fields a.octets)) in
    ap (λ l. f ++ l) (frames_of_all-append (after o a.octets) xs ys) ∙ sym (append_assoc f (frames_of_all (after o a.octets) xs) (frames_of_all (opener_then (after o a.octets) xs) ys))

opener-append : (o : OpenerState) (xs ys : List Arrival) → opener_then o (xs ++ ys) ≡ opener_then (opener_then o xs) ys
opener-append o [] ys = refl
opener-append o (a ∷ xs) ys = opener-append (after o a.octets) xs ys

-- ---- what an answer brings
answer_is : (r : Option FrameRefusal) (bare : List ℕ) → what_came (opened_by r bare) ≡ frames_by true r bare ++ []
answer_is None bare = refl
answer_is (Some cause) bare = refl

one_brings : (Calls : KeeperCall → Type 0) (room : ℕ) (behind came : Came) (old new : OpenerState) (opens : Opens Calls room behind came old new) →
    (what_came came ≡ frames_of_all old (arrival_of Calls room behind came old new opens)) × (new ≡ opener_then old (arrival_of Calls room behind came old new opens))
one_brings Calls room (Ok (Some octets)) came old new (is, inl (answer, met)) = (ap what_came answer ∙ answer_is (refusal old octets) (frame_in old.security (bare_in old.security.fields octets)), is)
one_brings Calls room (Ok (Some octets)) came old new (is, inr (lost, cause)) = (ap what_came lost, is)
one_brings Calls room (Ok None) came old new (none, same) = (ap what_came none, same)
one_brings Calls room (Err fault) came old new (lost, same) = (ap what_came lost, same)

-- nothing that comes changes no opener
opened_some : (r : Option FrameRefusal) (bare : List ℕ) → opened_by r bare ≢ Ok None
opened_some None bare e = absurd cc
opened_some (Some cause) bare e = absurd cc

pub nothing_brings : (Calls : KeeperCall → Type 0) (room : ℕ) (behind : Came) (old new : OpenerState) → Opens Calls room behind (Ok None) old new → new ≡ old
nothing_brings Calls room (Ok (Some octets)) old new (is, inl (answer, met)) = absurd (opened_some (refusal old octets) (frame_in old.security (bare_in old.security.fields octets)) (sym answer))
nothing_brings Calls room (Ok (Some octets)) old new (is, inr (lost, cause)) = absurd cc
nothing_brings Calls room (Ok None) old new (none, same) = same
nothing_brings Calls room (Err fault) old new (lost, same) = same

-- no octets change how frames are secured
pub after_security : (r : Option FrameRefusal) (n : ℕ) (o : OpenerState) → (after_by r n o).security ≡ o.security
after_security None n o = refl
after_security (Some cause) n o = refl

pub then_security : (o : OpenerState) (came : List Arrival) → (opener_then o came).security ≡ o.security
then_security o [] = refl
then_security o (a ∷ came) =
    then_security (after o a.octets) came ∙ after_security (refusal o a.octets) (number_in (bare_in o.security.fields a.octets)) o

module _ {W : Type 0} (Steps : W → WireCall → W → Type 0) (Calls : KeeperCall → Type 0) where
  -- ---- what comes in a turn
  pub record Hears (old new : PortState (SecuredState W)) (came : List (List ℕ)) (arrived : List Arrival) : Type 0 where
    pub frames : came ≡ frames_of_all old.wire.opener arrived
    pub opener : new.wire.opener ≡ opener_then old.wire.opener arrived
    pub sealer : new.wire.sealer ≡ old.wire.sealer

  pub heard_by_all : (count : ℕ) (old new : PortState (SecuredState W)) (steps : Times (AsksOn (Secures Steps Calls)) count old new) →
      Hears old new (frames_came (Secures Steps Calls) count old new steps) (arrivals Steps Calls count old new steps)
  heard_by_all zero old new same = record { frames = refl; opener = ap (λ (p : PortState (SecuredState W)). p.wire.opener) same; sealer = ap (λ (p : PortState (SecuredState W)). p.wire.sealer) same }
  heard_by_all (suc count) old new (mid, before, step) =
      let h = heard_by_all count old mid before in
      let room : ℕ = step.2.asked.0 in
      let asked = step.2.asked.1 in
      let one = one_brings Calls room asked.behind step.0 mid.wire.opener new.wire.opener asked.opens in
      let xs : List Arrival = arrivals Steps Calls count old mid before in
      let ys : List Arrival = arrival_of Calls room asked.behind step.0 mid.wire.opener new.wire.opener asked.opens in
      record {
        frames = ap₂ (λ (x y : List (List ℕ)). x ++ y) h.frames (one.0 ∙ ap (λ o. frames_of_all o ys) h.opener) ∙ sym (frames_of_all-append old.wire.opener xs ys);
        opener = one.1 ∙ ap (λ o. opener_then o ys) h.opener ∙ sym (opener-append old.wire.opener xs ys);
        sealer = asked.sealer ∙ h.sealer;
      }

  -- how the turn's questions end
  pub ended : (count : ℕ) (last new : PortState (SecuredState W)) → ((count < 4096) × Asks (Secures Steps Calls) (Ok None) last new) ⊎ ((count ≡ 4096) × (new ≡ last)) →
      (new.wire.opener ≡ last.wire.opener) × (new.wire.sealer ≡ last.wire.sealer)
  ended count last new (inl (few, asks)) = (nothing_brings Calls asks.asked.0 asks.asked.1.behind last.wire.opener new.wire.opener asks.asked.1.opens, asks.asked.1.sealer)
  ended count last new (inr (all, same)) = (ap (λ (p : PortState (SecuredState W)). p.wire.opener) same, ap (λ (p : PortState (SecuredState W)). p.wire.sealer) same)
