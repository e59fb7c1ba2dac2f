-- A turn that found no memory is one that ended early.
use Rattle.std.proofs.Common.{◌≡◌, ◌⊎◌, refl, sym, ap, subst, ◌∙◌, inl, inr}
use Rattle.aos_frame.specs.declared.config.LinkConfig.{LinkConfig}
use Rattle.cfdp_header.specs.Files.{FileMap}
use Rattle.cfdp_station.specs.Station.{StationState}
use Rattle.cfdp_port.specs.Calls.{WireCall}
use Rattle.cfdp_port.specs.Passing.{frames_came}
use Rattle.cfdp_port.specs.PeerTurn.{SendsSomeInPart, TakesInPart}
use Rattle.cfdp_port.specs.Port.{PortState, port_state}
use Rattle.cfdp_port.specs.Turn.{TellsTime}
use Rattle.any_order.specs.Kept.{EndKept}
use Rattle.promises.specs.Passing.{Comes, EndRead, EndsEarly, SendsThen, with_sent}
use Rattle.promises.proofs.Turning.{heard_end}

module _ {W : Type 0} (Steps : W → WireCall → W → Type 0) (link : LinkConfig) (files : FileMap) (theirs old heard : EndKept) (wire : W) (last : PortState W)
    (t : TakesInPart Steps (port_state old.station wire) last) (came : Comes link (frames_came Steps t.hears.count _ _ t.hears.heard) theirs old heard) where
  -- what is kept then
  abbrev pub Ended : Type 0
  Ended = (new : EndKept) × EndsEarly Steps link files theirs old new × (new.station ≡ last.station)

  end : t.heard.station ≡ t.hears.last.station
  end = heard_end Steps _ t.heard t.hears

  pub ends_early : (ends : (last ≡ record t.heard { wire = t.timed }) ⊎ ((told : StationState) × TellsTime t.now t.heard.station told × SendsSomeInPart Steps (port_state told t.timed) last)) →
      EndRead Steps files t.now t.heard t.timed last ends → Ended
  ends_early (inl same) read = (
    record heard { station = t.hears.last.station },
    record { wire = wire; count = t.hears.count; mid = t.hears.last; hears = t.hears.heard; heard = heard; came = came; ends = inl refl },
    sym (ap (λ (x : PortState W). x.station) same ∙ end),
  )
  ends_early (inr (told, tells, some)) read =
      let new : EndKept = record heard { station = last.station; latest = with_sent Steps some.count _ _ some.sent heard.latest } in
      let sends : SendsThen Steps files t.hears.last heard new = record {
        now = t.now;
        timed = t.timed;
        told = told;
        last = last;
        tells = subst (λ (s : StationState). TellsTime t.now s told) end tells;
        some = some;
        reads = read;
        kept = refl;
      } in
      (new, record { wire = wire; count = t.hears.count; mid = t.hears.last; hears = t.hears.heard; heard = heard; came = came; ends = inr sends }, refl)
