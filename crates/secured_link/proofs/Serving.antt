-- Two stations in service over secured wires are two stations in service over any link.
use Rattle.std.proofs.Common.{◌≡◌, ◌≢◌, ◌⊎◌, inl, inr, ℕ, zero, suc, ◌<◌, ◌≤◌, Bool, true, false, Option, Some, None, Ok, Result, List, [], ◌∷◌, ◌++◌, refl, sym, ap, subst, ◌∙◌, arith}
use Rattle.std.specs.List.{Contains}
use Rattle.std.proofs.lemmas.List.Elements.{Contains-append_left}
use Rattle.aos_frame.specs.declared.config.Lane.{Lane}
use Rattle.aos_frame.specs.declared.config.Lane.TheVariants.{Directives, Data}
use Rattle.aos_frame.specs.declared.config.LinkConfig.{LinkConfig}
use Rattle.cfdp_header.specs.Files.{FileMap}
use Rattle.cfdp_directives.specs.User.Put.{Put}
use Rattle.promises.specs.Passing as passing
use Rattle.promises.specs.Passing.{with_sent}
use Rattle.promises.specs.Serving.{Deed, DoesDeed, Goes, HaveServed, Served}
use Rattle.promises.specs.Serving.{Wishes, Says, Tells, LetsGo, Turns, Stops, Starts}
use Rattle.any_order.specs.Calls.{Setup, Side, One, Two, other, setup_of}
use Rattle.any_order.specs.Kept.{EndKept, with_last}
use Rattle.cfdp_station.specs.Station.{StationState}
use Rattle.cfdp_station.specs.Transmitting.{Times}
use Rattle.cfdp_station.specs.declared.config.StationConfig.{StationConfig}
use Rattle.frame_security.specs.declared.config.Security.{Security}
use Rattle.frame_security.specs.declared.keys.LinkKeys.{LinkKeys}
use Rattle.frame_security.specs.declared.opening.FrameRefusal.{FrameRefusal}
use Rattle.frame_security.specs.Opening.{OpenerState, after, refusal}
use Rattle.frame_security.specs.Sealing.{SealerState}
use Rattle.cfdp_port.specs.Calls.{WireCall, Asked, Readied, Sent, Timed}
use Rattle.cfdp_port.specs.Passing.{frames_came}
use Rattle.cfdp_port.specs.PeerTurn.{SendsNext, SendsNone, SendsSomeInPart, TakesInPart}
use Rattle.cfdp_port.specs.Port.{PortState, port_state}
use Rattle.cfdp_port.specs.Turn.{Asks, AsksOn, TellsTime}
use Rattle.cfdp_port.specs.declared.wire.WireFault.{WireFault}
use Rattle.secured_link.specs.Copies.{Accepts, AcceptsBy, AreKept, AreKeptIn, Numbered, TookLast}
use Rattle.secured_link.specs.Serving.{DoesSecured, EndsQuietly, FallsQuiet, EndsSecuredEarly, FitsMac, GoesSecured, HaveServedSecured, Rests, SecuredEnd, SecuredPair, SendsSecured, TakesSecuredTurn, end_at, sealed_of, stations_of}
use Rattle.secured_link.proofs.Arriving.{ended, heard_by_all, nothing_brings, then_security}
use Rattle.secured_link.proofs.Copies.{copies}
use Rattle.secured_link.proofs.Keeping.{all_sent, starts}
use Rattle.secured_wire.specs.Direction.{Arrival}
use Rattle.secured_wire.specs.Keeping.{KeeperCall}
use Rattle.secured_wire.specs.Passing.{arrivals}
use Rattle.secured_wire.specs.Secured.{Secures, SecuredState, opener_after, sealer_after}

-- ---- the last numbers
took_same : (all : List Numbered) (last : ℕ) (k now : EndKept) → now.last_directives ≡ k.last_directives → now.last_data ≡ k.last_data → TookLast all last k → TookLast all last now
took_same all last k now directives file_data took = by where
  by : TookLast all last now
  by Directives before e = took Directives before (sym directives ∙ e)
  by Data before e = took Data before (sym file_data ∙ e)

took_none : (all : List Numbered) (last : ℕ) (k : EndKept) → k.last_directives ≡ None → k.last_data ≡ None → TookLast all last k
took_none all last k directives file_data = by where
  some_none : (n : ℕ) → Some n ≢ None
  some_none n e = absurd cc

  by : TookLast all last k
  by Directives before e = absurd (some_none before (sym e ∙ directives))
  by Data before e = absurd (some_none before (sym e ∙ file_data))

took_grows : (all more : List Numbered) (last : ℕ) (k : EndKept) → ((x : Numbered) → Contains all x → Contains more x) → TookLast all last k → TookLast more last k
took_grows all more last k grows took = λ lane before e. let x = took lane before e in (x.0, grows x.0 x.1, x.2, x.3, x.4)

-- ---- what is accepted changes no frames that were made
last_before : (lane : Lane) (n : ℕ) (k : EndKept) → ((with_last lane n k).before ≡ k.before) × ((with_last lane n k).latest ≡ k.latest)
last_before Directives n k = (refl, refl)
last_before Data n k = (refl, refl)

accepts_one : (all : List Numbered) (o : OpenerState) (octets : List ℕ) (r : Option FrameRefusal) (handed_on : Bool) (old new : EndKept) → AcceptsBy all o octets r handed_on old new → (new.before ≡ old.before) × (new.latest ≡ old.latest)
accepts_one all o octets None true old new is =
    let l = last_before is.one.sealed.lane is.one.number old in
    (ap (λ (k : EndKept). k.before) is.last ∙ l.0, ap (λ (k : EndKept). k.latest) is.last ∙ l.1)
accepts_one all o octets None false old new same = (ap (λ (k : EndKept). k.before) same, ap (λ (k : EndKept). k.latest) same)
accepts_one all o octets (Some cause) true old new same = (ap (λ (k : EndKept). k.before) same, ap (λ (k : EndKept). k.latest) same)
accepts_one all o octets (Some cause) false old new same = (ap (λ (k : EndKept). k.before) same, ap (λ (k : EndKept). k.latest) same)

accepts_all : (all : List Numbered) (o : OpenerState) (came : List Arrival) (old new : EndKept) → Accepts all o came old new → (new.before ≡ old.before) × (new.latest ≡ old.latest)
accepts_all all o [] old new same = (ap (λ (k : EndKept). k.before) same, ap (λ (k : EndKept). k.latest) same)
accepts_all all o (a ∷ came) old new (mid, one, more) =
    let first = accepts_one all o a.octets (refusal o a.octets) a.handed_on old mid one in
    let rest = accepts_all all (after o a.octets) came mid new more in
    (rest.0 ∙ first.0, rest.1 ∙ first.1)

-- ---- keys
keys_next : (keys : Option LinkKeys) (s : SealerState) → (sealer_after keys s).next ≡ s.next
keys_next None s = refl
keys_next (Some keys) s = refl

keys_last : (keys : Option LinkKeys) (o : OpenerState) → ((opener_after keys o).last ≡ o.last) × ((opener_after keys o).security ≡ o.security)
keys_last None o = (refl, refl)
keys_last (Some keys) o = (refl, refl)

module _ {W : Type 0} (Steps : W → WireCall → W → Type 0) (Calls : KeeperCall → Type 0) where
  -- ---- the wire goes on
  record GoesOn (old new : SecuredState W) : Type 0 where
    next : new.sealer.next ≡ old.sealer.next
    last : new.opener.last ≡ old.opener.last
    security : new.opener.security ≡ old.opener.security

  stays : (old new : SecuredState W) → new.sealer ≡ old.sealer → new.opener ≡ old.opener → GoesOn old new
  stays old new sealer opener = record {
    next = ap (λ (s : SealerState). s.next) sealer;
    last = ap (λ (o : OpenerState). o.last) opener;
    security = ap (λ (o : OpenerState). o.security) opener;
  }

  is_same : (old new : SecuredState W) → new ≡ old → GoesOn old new
  is_same old new same = stays old new (ap (λ (s : SecuredState W). s.sealer) same) (ap (λ (s : SecuredState W). s.opener) same)

  joined : (old mid new : SecuredState W) → GoesOn old mid → GoesOn mid new → GoesOn old new
  joined old mid new a b = record { next = b.next ∙ a.next; last = b.last ∙ a.last; security = b.security ∙ a.security }

  timed_on : (now : ℕ) (old new : SecuredState W) → Secures Steps Calls old (Timed now) new → GoesOn old new
  timed_on now old new c =
      let k = keys_last c.keys old.opener in
      record {
        next = ap (λ (s : SealerState). s.next) c.sealer ∙ keys_next c.keys old.sealer;
        last = ap (λ (o : OpenerState). o.last) c.opener ∙ k.0;
        security = ap (λ (o : OpenerState). o.security) c.opener ∙ k.1;
      }

  quiet_on : (old new : SecuredState W) → (new ≡ old) ⊎ Secures Steps Calls old (Asked (Ok None)) new → GoesOn old new
  quiet_on old new (inl same) = is_same old new same
  quiet_on old new (inr asks) = stays old new asks.1.sealer (nothing_brings Calls asks.0 asks.1.behind old.opener new.opener asks.1.opens)

  end_on : (old new : SecuredState W) → EndsQuietly Steps Calls old new → GoesOn old new
  end_on old new (inl quiet) = quiet_on old new quiet
  end_on old new (inr (asked, now, quiet, times)) = joined old asked new (quiet_on old asked quiet) (timed_on now asked new times)

  none_by : {A B : Type 0} {old new : SecuredState W} → (A × (new ≡ old)) ⊎ (B × Secures Steps Calls old (Readied false) new) → GoesOn old new
  none_by {A} {B} {old} {new} (inl (none, same)) = is_same old new same
  none_by {A} {B} {old} {new} (inr (some, asked)) = stays old new asked.sealer asked.opener

  none_on : (old new : PortState (SecuredState W)) → SendsNone (Secures Steps Calls) old new → GoesOn old.wire new.wire
  none_on old new n = none_by n.ends

  ends_on : (count : ℕ) (last new : PortState (SecuredState W)) → ((count < 64) × SendsNone (Secures Steps Calls) last new) ⊎ ((count ≡ 64) × (new ≡ last)) → GoesOn last.wire new.wire
  ends_on count last new (inl (few, none)) = none_on last new none
  ends_on count last new (inr (all, same)) = is_same last.wire new.wire (ap (λ (p : PortState (SecuredState W)). p.wire) same)

  sent_opener : (frame : List ℕ) (answer : Result (Unit {0}) WireFault) (old new : SecuredState W) → Secures Steps Calls old (Sent frame answer) new → new.opener ≡ old.opener
  sent_opener frame answer old new (inl sends) = sends.opener
  sent_opener frame answer old new (inr lost) = ap (λ (s : SecuredState W). s.opener) lost.same

  all_opener : (count : ℕ) (old new : PortState (SecuredState W)) → Times (SendsNext (Secures Steps Calls)) count old new → new.wire.opener ≡ old.wire.opener
  all_opener zero old new same = ap (λ (p : PortState (SecuredState W)). p.wire.opener) same
  all_opener (suc count) old new (mid, before, step) =
      sent_opener step.sends.frame step.sends.answer step.ready new.wire step.sends.sent ∙ step.asked.opener ∙ all_opener count old mid before

  -- ---- what a deed leaves
  record Moves (theirs old new : SecuredEnd W) : Type 0 where
    kept : AreKept new.sealed new.wire.sealer.next new.served.kept
    took : TookLast theirs.sealed new.wire.opener.last new.served.kept
    mac : FitsMac new.wire
    grows : (x : Numbered) → Contains old.sealed x → Contains new.sealed x

  -- what holds of a station before
  record Stands (theirs old : SecuredEnd W) : Type 0 where
    theirs_kept : AreKept theirs.sealed theirs.wire.sealer.next theirs.served.kept
    kept : AreKept old.sealed old.wire.sealer.next old.served.kept
    took : TookLast theirs.sealed old.wire.opener.last old.served.kept
    mac : FitsMac old.wire

  same_sealed : (old new : SecuredEnd W) → new.sealed ≡ old.sealed → (x : Numbered) → Contains old.sealed x → Contains new.sealed x
  same_sealed old new same x at = subst (λ (l : List Numbered). Contains l x) (sym same) at

  still : (theirs old new : SecuredEnd W) (served : Served) → Stands theirs old → new.served ≡ served → served.kept.before ≡ old.served.kept.before → served.kept.latest ≡ old.served.kept.latest →
      served.kept.last_directives ≡ old.served.kept.last_directives → served.kept.last_data ≡ old.served.kept.last_data → new.wire ≡ old.wire → new.sealed ≡ old.sealed → Moves theirs old new
  still theirs old new served s is before latest directives file_data wire sealed =
      let on = is_same old.wire new.wire wire in
      let k : new.served.kept ≡ served.kept = ap (λ (s : Served). s.kept) is in
      record {
        kept = subst (λ l. AreKeptIn l new.wire.sealer.next new.served.kept.before new.served.kept.latest) (sym sealed)
            (subst (λ n. AreKeptIn old.sealed n new.served.kept.before new.served.kept.latest) (sym on.next)
            (subst (λ b. AreKeptIn old.sealed old.wire.sealer.next b new.served.kept.latest) (sym (ap (λ (k : EndKept). k.before) k ∙ before))
            (subst (λ l. AreKeptIn old.sealed old.wire.sealer.next old.served.kept.before l) (sym (ap (λ (k : EndKept). k.latest) k ∙ latest)) s.kept)));
        took = took_same theirs.sealed new.wire.opener.last old.served.kept new.served.kept (ap (λ (k : EndKept). k.last_directives) k ∙ directives) (ap (λ (k : EndKept). k.last_data) k ∙ file_data)
            (subst (λ n. TookLast theirs.sealed n old.served.kept) (sym on.last) s.took);
        mac = subst (λ (c : Security). c.mac_len ≤ 32) (sym on.security) s.mac;
        grows = same_sealed old new sealed;
      }

  -- ---- what arrives
  -- what holds if a station heard what arrived
  record Heard (link : LinkConfig) (theirs old : SecuredEnd W) (mid : SecuredState W) (heard : EndKept) (came : List (List ℕ)) : Type 0 where
    comes : passing.Comes link came theirs.served.kept old.served.kept heard
    kept : AreKeptIn old.sealed mid.sealer.next heard.before heard.latest
    took : TookLast theirs.sealed mid.opener.last heard
    mac : FitsMac mid

  hear : (link : LinkConfig) (theirs old : SecuredEnd W) (count : ℕ) (mid : PortState (SecuredState W)) (heard : EndKept) (hears : Times (AsksOn (Secures Steps Calls)) count (port_state old.served.kept.station old.wire) mid) →
      Stands theirs old → Accepts theirs.sealed old.wire.opener (arrivals Steps Calls count (port_state old.served.kept.station old.wire) mid hears) old.served.kept heard →
      Heard link theirs old mid.wire heard (frames_came (Secures Steps Calls) count (port_state old.served.kept.station old.wire) mid hears)
  hear link theirs old count mid heard hears s accepts =
      let start : PortState (SecuredState W) = port_state old.served.kept.station old.wire in
      let came : List Arrival = arrivals Steps Calls count start mid hears in
      let h = heard_by_all Steps Calls count start mid hears in
      let t = copies Steps Calls link theirs.served.kept old.served.kept heard theirs.sealed theirs.wire.sealer.next count start mid hears s.theirs_kept s.mac s.took accepts in
      let a = accepts_all theirs.sealed old.wire.opener came old.served.kept heard accepts in
      record {
        comes = t.0;
        kept = subst (λ (x : SealerState). AreKeptIn old.sealed x.next heard.before heard.latest) (sym h.sealer)
            (subst (λ b. AreKeptIn old.sealed old.wire.sealer.next b heard.latest) (sym a.0)
            (subst (λ l. AreKeptIn old.sealed old.wire.sealer.next old.served.kept.before l) (sym a.1) s.kept));
        took = t.1;
        mac = subst (λ (c : Security). c.mac_len ≤ 32) (sym (ap (λ (o : OpenerState). o.security) h.opener ∙ then_security old.wire.opener came)) s.mac;
      }

  on_heard : (link : LinkConfig) (theirs old : SecuredEnd W) (mid later : SecuredState W) (heard : EndKept) (came : List (List ℕ)) → Heard link theirs old mid heard came → GoesOn mid later → Heard link theirs old later heard came
  on_heard link theirs old mid later heard came h on = record {
    comes = h.comes;
    kept = subst (λ n. AreKeptIn old.sealed n heard.before heard.latest) (sym on.next) h.kept;
    took = subst (λ n. TookLast theirs.sealed n heard) (sym on.last) h.took;
    mac = subst (λ (c : Security). c.mac_len ≤ 32) (sym on.security) h.mac;
  }

  -- ---- what leaves after that
  sends_on : (link : LinkConfig) (theirs old new : SecuredEnd W) (heard : EndKept) (came : List (List ℕ)) (count : ℕ) (from last : PortState (SecuredState W)) (sent : Times (SendsNext (Secures Steps Calls)) count from last) (later : SecuredState W) (station : StationState) →
      Heard link theirs old from.wire heard came → GoesOn last.wire later →
      new.served.kept ≡ record heard { station = station; latest = with_sent (Secures Steps Calls) count from last sent heard.latest } → new.wire ≡ later → new.sealed ≡ old.sealed ++ sealed_of Steps Calls count from last sent heard.latest → Moves theirs old new
  sends_on link theirs old new heard came count from last sent later station h on kept wire sealed =
      let more : List Numbered = sealed_of Steps Calls count from last sent heard.latest in
      let all = all_sent Steps Calls count from last sent old.sealed heard.before heard.latest h.kept in
      let opener : last.wire.opener ≡ from.wire.opener = all_opener count from last sent in
      let to = joined last.wire later new.wire on (is_same later new.wire wire) in
      record {
        kept = subst (λ (k : EndKept). AreKeptIn new.sealed new.wire.sealer.next k.before k.latest) (sym kept)
            (subst (λ l. AreKeptIn l new.wire.sealer.next heard.before (with_sent (Secures Steps Calls) count from last sent heard.latest)) (sym sealed)
            (subst (λ n. AreKeptIn (old.sealed ++ more) n heard.before (with_sent (Secures Steps Calls) count from last sent heard.latest)) (sym to.next) all));
        took = took_same theirs.sealed new.wire.opener.last heard new.served.kept (ap (λ (k : EndKept). k.last_directives) kept) (ap (λ (k : EndKept). k.last_data) kept)
            (subst (λ n. TookLast theirs.sealed n heard) (sym (to.last ∙ ap (λ (o : OpenerState). o.last) opener)) h.took);
        mac = subst (λ (c : Security). c.mac_len ≤ 32) (sym (to.security ∙ ap (λ (o : OpenerState). o.security) opener)) h.mac;
        grows = λ x at. subst (λ (l : List Numbered). Contains l x) (sym sealed) (Contains-append_left old.sealed more x at);
      }

  -- ---- turns
  -- a station whose wire has rested
  rested : (theirs old : SecuredEnd W) (wire : SecuredState W) → Stands theirs old → Rests old.wire wire → Stands theirs (record old { wire = wire })
  rested theirs old wire s r =
      let on = stays old.wire wire r.sealer r.opener in
      record {
        theirs_kept = s.theirs_kept;
        kept = subst (λ n. AreKept old.sealed n old.served.kept) (sym on.next) s.kept;
        took = subst (λ n. TookLast theirs.sealed n old.served.kept) (sym on.last) s.took;
        mac = subst (λ (c : Security). c.mac_len ≤ 32) (sym on.security) s.mac;
      }

  -- what was left is so of it before it rested, too
  unrested : (theirs old new : SecuredEnd W) (wire : SecuredState W) → Moves theirs (record old { wire = wire }) new → Moves theirs old new
  unrested theirs old new wire m = record { kept = m.kept; took = m.took; mac = m.mac; grows = m.grows }

  turn_moves : (link : LinkConfig) (files : FileMap) (theirs old new : SecuredEnd W) → Stands theirs old → TakesSecuredTurn Steps Calls files theirs.sealed old new →
      passing.TakesTurn (Secures Steps Calls) link files theirs.served.kept old.served.kept new.served.kept × Moves theirs old new
  turn_moves link files theirs old new s t =
      let turn = t.turn in
      let start : PortState (SecuredState W) = port_state old.served.kept.station t.wire in
      let there : SecuredEnd W = record old { wire = t.wire } in
      let heard = hear link theirs there turn.hears.count turn.hears.last t.heard turn.hears.heard (rested theirs old t.wire s t.rests) t.accepts in
      let end = ended Steps Calls turn.hears.count turn.hears.last turn.heard turn.hears.ends in
      let on = joined turn.hears.last.wire turn.heard.wire turn.timed (stays turn.hears.last.wire turn.heard.wire end.1 end.0) (timed_on turn.now turn.heard.wire turn.timed turn.times) in
      let came : List (List ℕ) = frames_came (Secures Steps Calls) turn.hears.count start turn.hears.last turn.hears.heard in
      let ready = on_heard link theirs there turn.hears.last.wire turn.timed t.heard came heard on in (
        record { wire = t.wire; last = t.last; turn = turn; heard = t.heard; came = heard.comes; reads = t.reads; kept = t.kept },
        unrested theirs old new t.wire (sends_on link theirs there new t.heard came turn.sends.count (port_state turn.told turn.timed) turn.sends.last turn.sends.sent t.last.wire t.last.station ready
            (ends_on turn.sends.count turn.sends.last t.last turn.sends.ends) t.kept t.wire_then t.sealed),
      )

  early_moves : (link : LinkConfig) (files : FileMap) (theirs old new : SecuredEnd W) → Stands theirs old → EndsSecuredEarly Steps Calls files theirs.sealed old new →
      passing.EndsEarly (Secures Steps Calls) link files theirs.served.kept old.served.kept new.served.kept × Moves theirs old new
  early_moves link files theirs old new s t = by t.ends where
    start : PortState (SecuredState W)
    start = port_state old.served.kept.station t.wire

    there : SecuredEnd W
    there = record old { wire = t.wire }

    came : List (List ℕ)
    came = frames_came (Secures Steps Calls) t.count start t.mid t.hears

    heard : Heard link theirs there t.mid.wire t.heard came
    heard = hear link theirs there t.count t.mid t.heard t.hears (rested theirs old t.wire s t.rests) t.accepts

    by : ((new.served.kept ≡ record t.heard { station = t.mid.station }) × EndsQuietly Steps Calls t.mid.wire new.wire × (new.sealed ≡ old.sealed)) ⊎ SendsSecured Steps Calls files t.mid t.heard old.sealed new →
        passing.EndsEarly (Secures Steps Calls) link files theirs.served.kept old.served.kept new.served.kept × Moves theirs old new
    by (inl (kept, wire, sealed)) =
        let on = end_on t.mid.wire new.wire wire in (
          record { wire = t.wire; count = t.count; mid = t.mid; hears = t.hears; heard = t.heard; came = heard.comes; ends = inl kept },
          record {
            kept = subst (λ (k : EndKept). AreKeptIn new.sealed new.wire.sealer.next k.before k.latest) (sym kept)
                (subst (λ l. AreKeptIn l new.wire.sealer.next t.heard.before t.heard.latest) (sym sealed)
                (subst (λ n. AreKeptIn old.sealed n t.heard.before t.heard.latest) (sym on.next) heard.kept));
            took = took_same theirs.sealed new.wire.opener.last t.heard new.served.kept (ap (λ (k : EndKept). k.last_directives) kept) (ap (λ (k : EndKept). k.last_data) kept)
                (subst (λ n. TookLast theirs.sealed n t.heard) (sym on.last) heard.took);
            mac = subst (λ (c : Security). c.mac_len ≤ 32) (sym on.security) heard.mac;
            grows = same_sealed old new sealed;
          },
        )
    by (inr e) =
        let on = joined t.mid.wire e.asked e.timed (quiet_on t.mid.wire e.asked e.quiet) (timed_on e.now e.asked e.timed e.times) in
        let ready = on_heard link theirs there t.mid.wire e.timed t.heard came heard on in (
          record {
            wire = t.wire;
            count = t.count;
            mid = t.mid;
            hears = t.hears;
            heard = t.heard;
            came = heard.comes;
            ends = inr (record { now = e.now; timed = e.timed; told = e.told; last = e.last; tells = e.tells; some = e.some; reads = e.reads; kept = e.kept });
          },
          unrested theirs old new t.wire (sends_on link theirs there new t.heard came e.some.count (port_state e.told e.timed) e.some.last e.some.sent e.last.wire e.last.station ready
              (is_same e.some.last.wire e.last.wire e.some.wire) e.kept e.wire_then e.sealed_then),
        )

  -- a turn for which memory ran out
  pub part_ends : (files : FileMap) (theirs : List Numbered) (old : SecuredEnd W) (heard : EndKept) (last : PortState (SecuredState W)) (start : SecuredState W) → Rests old.wire start →
      (turn : TakesInPart (Secures Steps Calls) (port_state old.served.kept.station start) last) →
      Accepts theirs start.opener (arrivals Steps Calls turn.hears.count (port_state old.served.kept.station start) turn.hears.last turn.hears.heard) old.served.kept heard →
      passing.EndRead (Secures Steps Calls) files turn.now turn.heard turn.timed last turn.ends →
      (new : SecuredEnd W) × EndsSecuredEarly Steps Calls files theirs old new × (new.served.kept.station ≡ last.station) × (new.wire ≡ last.wire)
      × (new.served.calls ≡ old.served.calls) × (new.served.has ≡ old.served.has)
  part_ends files theirs old heard last start rests turn accepts reads = by turn.ends reads where
    falls : (count : ℕ) (mid then_ : PortState (SecuredState W)) → ((count < 4096) × Asks (Secures Steps Calls) (Ok None) mid then_) ⊎ ((count ≡ 4096) × (then_ ≡ mid)) → FallsQuiet Steps Calls mid.wire then_.wire
    falls count mid then_ (inl (few, asks)) = inr asks.asked
    falls count mid then_ (inr (all, same)) = inl (ap (λ (p : PortState (SecuredState W)). p.wire) same)

    station_same : (count : ℕ) (mid then_ : PortState (SecuredState W)) → ((count < 4096) × Asks (Secures Steps Calls) (Ok None) mid then_) ⊎ ((count ≡ 4096) × (then_ ≡ mid)) → then_.station ≡ mid.station
    station_same count mid then_ (inl (few, asks)) = asks.takes
    station_same count mid then_ (inr (all, same)) = ap (λ (p : PortState (SecuredState W)). p.station) same

    quiet : FallsQuiet Steps Calls turn.hears.last.wire turn.heard.wire
    quiet = falls turn.hears.count turn.hears.last turn.heard turn.hears.ends

    still_there : turn.heard.station ≡ turn.hears.last.station
    still_there = station_same turn.hears.count turn.hears.last turn.heard turn.hears.ends

    by : (ends : (last ≡ record turn.heard { wire = turn.timed }) ⊎ ((told : StationState) × TellsTime turn.now turn.heard.station told × SendsSomeInPart (Secures Steps Calls) (port_state told turn.timed) last)) →
        passing.EndRead (Secures Steps Calls) files turn.now turn.heard turn.timed last ends →
        (new : SecuredEnd W) × EndsSecuredEarly Steps Calls files theirs old new × (new.served.kept.station ≡ last.station) × (new.wire ≡ last.wire)
        × (new.served.calls ≡ old.served.calls) × (new.served.has ≡ old.served.has)
    by (inl same) reads =
        let station : turn.hears.last.station ≡ last.station = sym (ap (λ (p : PortState (SecuredState W)). p.station) same ∙ still_there) in
        let wire : turn.timed ≡ last.wire = sym (ap (λ (p : PortState (SecuredState W)). p.wire) same) in (
          record { served = record old.served { kept = record heard { station = turn.hears.last.station } }; wire = turn.timed; sealed = old.sealed },
          record {
            wire = start;
            rests = rests;
            count = turn.hears.count;
            mid = turn.hears.last;
            hears = turn.hears.heard;
            heard = heard;
            accepts = accepts;
            ends = inl (refl, inr (turn.heard.wire, turn.now, quiet, turn.times), refl);
          },
          station,
          wire,
          refl,
          refl,
        )
    by (inr (told, tells, some)) reads =
        let life = with_sent (Secures Steps Calls) some.count (port_state told turn.timed) some.last some.sent heard.latest in (
          record {
            served = record old.served { kept = record heard { station = last.station; latest = life } };
            wire = last.wire;
            sealed = old.sealed ++ sealed_of Steps Calls some.count (port_state told turn.timed) some.last some.sent heard.latest;
          },
          record {
            wire = start;
            rests = rests;
            count = turn.hears.count;
            mid = turn.hears.last;
            hears = turn.hears.heard;
            heard = heard;
            accepts = accepts;
            ends = inr (record {
              asked = turn.heard.wire;
              quiet = quiet;
              now = turn.now;
              timed = turn.timed;
              times = turn.times;
              told = told;
              last = last;
              tells = subst (λ (st : StationState). TellsTime turn.now st told) still_there tells;
              some = some;
              reads = reads;
              kept = refl;
              wire_then = refl;
              sealed_then = refl;
            });
          },
          refl,
          refl,
          refl,
          refl,
        )

  -- ---- deeds
  deed_moves : (deed : Deed) (c : StationConfig) (theirs old new : SecuredEnd W) (puts puts_then : List Put) → Stands theirs old → DoesSecured Steps Calls deed c theirs old new puts puts_then →
      DoesDeed (Secures Steps Calls) deed c theirs.served.kept old.served new.served puts puts_then × Moves theirs old new
  deed_moves (Wishes wish reply) c theirs old new puts puts_then s (does, wire, sealed) =
      let (station, now, added, fulfils, is, all) = does in
      (does, still theirs old new _ s is refl refl refl refl wire sealed)
  deed_moves (Says call) c theirs old new puts puts_then s (does, wire, sealed) =
      let (said, is, all) = does in
      (does, still theirs old new _ s is refl refl refl refl wire sealed)
  deed_moves Tells c theirs old new puts puts_then s (does, wire, sealed) =
      let (is, all) = does in
      (does, still theirs old new _ s is refl refl refl refl wire sealed)
  deed_moves LetsGo c theirs old new puts puts_then s (does, wire, sealed) =
      let (station, lets, is, all) = does in
      (does, still theirs old new _ s is refl refl refl refl wire sealed)
  deed_moves Turns c theirs old new puts puts_then s (turn, same, all) =
      let t = turn_moves c.receives old.served.has theirs old new s turn in
      ((t.0, same, all), t.1)
  deed_moves Stops c theirs old new puts puts_then s (ends, same, all) =
      let t = early_moves c.receives old.served.has theirs old new s ends in
      ((t.0, same, all), t.1)
  deed_moves (Starts first number) c theirs old new puts puts_then s (st, all) =
      let anew = st.starts in (
        (anew, all),
        record {
          kept = subst (λ l. AreKept l new.wire.sealer.next new.served.kept) (sym st.sealed)
              (starts old.sealed old.wire.sealer.next new.wire.sealer.next first number c old.served new.served anew s.kept st.numbers);
          took = took_none theirs.sealed new.wire.opener.last new.served.kept (ap (λ (k : EndKept). k.last_directives) anew.kept) (ap (λ (k : EndKept). k.last_data) anew.kept);
          mac = st.mac;
          grows = same_sealed old new st.sealed;
        },
      )

  -- ---- both stations
  pub record Holds (w : SecuredPair W) : Type 0 where
    one_kept : AreKept w.one.sealed w.one.wire.sealer.next w.one.served.kept
    two_kept : AreKept w.two.sealed w.two.wire.sealer.next w.two.served.kept
    one_took : TookLast w.two.sealed w.one.wire.opener.last w.one.served.kept
    two_took : TookLast w.one.sealed w.two.wire.opener.last w.two.served.kept
    one_mac : FitsMac w.one.wire
    two_mac : FitsMac w.two.wire

  -- the other station, if nothing was done at it
  kept_there : (old new : SecuredEnd W) → new ≡ old → AreKept old.sealed old.wire.sealer.next old.served.kept → AreKept new.sealed new.wire.sealer.next new.served.kept
  kept_there old new same h = subst (λ (e : SecuredEnd W). AreKept e.sealed e.wire.sealer.next e.served.kept) (sym same) h

  took_here : (theirs now : SecuredEnd W) (mine : SecuredEnd W) → now ≡ theirs → TookLast theirs.sealed mine.wire.opener.last mine.served.kept → TookLast now.sealed mine.wire.opener.last mine.served.kept
  took_here theirs now mine same h = subst (λ (e : SecuredEnd W). TookLast e.sealed mine.wire.opener.last mine.served.kept) (sym same) h

  took_there : (old new : SecuredEnd W) (mine now : SecuredEnd W) → new ≡ old → ((x : Numbered) → Contains mine.sealed x → Contains now.sealed x) → TookLast mine.sealed old.wire.opener.last old.served.kept → TookLast now.sealed new.wire.opener.last new.served.kept
  took_there old new mine now same grows h = subst (λ (e : SecuredEnd W). TookLast now.sealed e.wire.opener.last e.served.kept) (sym same) (took_grows mine.sealed now.sealed old.wire.opener.last old.served.kept grows h)

  mac_there : (old new : SecuredEnd W) → new ≡ old → FitsMac old.wire → FitsMac new.wire
  mac_there old new same h = subst (λ (e : SecuredEnd W). FitsMac e.wire) (sym same) h

  goes_by : (c : Setup) (old new : SecuredPair W) (side : Side) (deed : Deed) → Holds old →
      DoesSecured Steps Calls deed (setup_of side c) (end_at (other side) old) (end_at side old) (end_at side new) old.puts new.puts → end_at (other side) new ≡ end_at (other side) old →
      Goes (Secures Steps Calls) c (stations_of old) (stations_of new) × Holds new
  goes_by c old new One deed h does others =
      let m = deed_moves deed c.one old.two old.one new.one old.puts new.puts (record { theirs_kept = h.two_kept; kept = h.one_kept; took = h.one_took; mac = h.one_mac }) does in (
        record { side = One; deed = deed; does = m.0; others = ap (λ (e : SecuredEnd W). e.served) others },
        record {
          one_kept = m.1.kept;
          two_kept = kept_there old.two new.two others h.two_kept;
          one_took = took_here old.two new.two new.one others m.1.took;
          two_took = took_there old.two new.two old.one new.one others m.1.grows h.two_took;
          one_mac = m.1.mac;
          two_mac = mac_there old.two new.two others h.two_mac;
        },
      )
  goes_by c old new Two deed h does others =
      let m = deed_moves deed c.two old.one old.two new.two old.puts new.puts (record { theirs_kept = h.one_kept; kept = h.two_kept; took = h.two_took; mac = h.two_mac }) does in (
        record { side = Two; deed = deed; does = m.0; others = ap (λ (e : SecuredEnd W). e.served) others },
        record {
          one_kept = kept_there old.one new.one others h.one_kept;
          two_kept = m.1.kept;
          one_took = took_there old.one new.one old.two new.two others m.1.grows h.one_took;
          two_took = took_here old.one new.one new.two others m.1.took;
          one_mac = mac_there old.one new.one others h.one_mac;
          two_mac = m.1.mac;
        },
      )

  pub goes : (c : Setup) (count : ℕ) (first now : SecuredPair W) → Holds first → Times (GoesSecured Steps Calls c) count first now →
      Times (Goes (Secures Steps Calls) c) count (stations_of first) (stations_of now) × Holds now
  goes c zero first now h same = (ap (λ (w : SecuredPair W). stations_of w) same, subst (λ (w : SecuredPair W). Holds w) (sym same) h)
  goes c (suc count) first now h (mid, before, step) =
      let b = goes c count first mid h before in
      let one = goes_by c mid now step.side step.deed b.1 step.does step.others in
      ((stations_of mid, b.0, one.0), one.1)

  none_sealed : (e : SecuredEnd W) → e.sealed ≡ [] → AreKept e.sealed e.wire.sealer.next e.served.kept
  none_sealed e none = subst (λ l. AreKept l e.wire.sealer.next e.served.kept) (sym none) (record {
    each = λ x at. absurd (nothing x at);
    fits = λ x at. absurd (nothing x at);
    rise = λ x y at_x at_y same up. absurd (nothing x at_x);
    sequence = λ x at. absurd (nothing x at);
    numbers = λ x at. absurd (nothing x at);
  }) where
    nothing : (x : Numbered) → Contains [] x → ⊥
    nothing x (k, lt, is) = omega (arith, lt)

  -- at the beginning, and then
  pub served : (c : Setup) (files : Side → FileMap) (now : SecuredPair W) → HaveServedSecured Steps Calls c files now →
      HaveServed (Secures Steps Calls) c files (stations_of now) × Holds now
  served c files now s =
      let one = s.begins.each One in
      let two = s.begins.each Two in
      let first : Holds s.first = record {
        one_kept = none_sealed s.first.one (s.sealed One);
        two_kept = none_sealed s.first.two (s.sealed Two);
        one_took = took_none s.first.two.sealed s.first.one.wire.opener.last s.first.one.served.kept (ap (λ (k : EndKept). k.last_directives) one.kept) (ap (λ (k : EndKept). k.last_data) one.kept);
        two_took = took_none s.first.one.sealed s.first.two.wire.opener.last s.first.two.served.kept (ap (λ (k : EndKept). k.last_directives) two.kept) (ap (λ (k : EndKept). k.last_data) two.kept);
        one_mac = s.macs One;
        two_mac = s.macs Two;
      } in
      let all = goes c s.count s.first now first s.went in
      (record { counts = s.counts; sources = s.sources; first = stations_of s.first; begins = s.begins; count = s.count; went = all.0 }, all.1)
