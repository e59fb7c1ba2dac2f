use Rattle.std.proofs.Common.{◌≡◌, ℕ, List, Ok, Option, Some, None, Err, length, take, drop, subst, refl, ◌∙◌}
use Rattle.std.proofs.lemmas.List.{take_at}
use Rattle.cfdp_port.specs.Calls.{Asked, brought}
use Rattle.secured_wire.specs.Secured.{AsksBehind, Opens, SecuredState}
use Rattle.secured_wire.proofs.secured_wire.SecuredWire.receive_frame.Goals as goal

pub returns-in-Ok-Some-clause-asked : goal.returns-in-Ok-Some-clause-asked
returns-in-Ok-Some-clause-asked g c =
    let i = c.self.inside in
    let buffer : List ℕ = c.receive.new.buffer in
    let came = brought c.open_into.result c.open_into.new.buffer in
    let same : c.deref.result.now ≡ buffer =
    c.deref.ensures.value ∙ take_at buffer (drop (length buffer) i.came.items) i.came.len (c.receive.auto.buffer ∙ c.deref_mut.ensures.len) in
    subst (λ (old : SecuredState g.row.W.Denot). AsksBehind g.W.Wire.steps g.K.Keeper.calls (length c.args.buffer.now) came old (record { wire = c.receive.new.self; sealer = i.sealer; opener = c.open_into.new.opener; most = i.most })) c.self.view_is
    (record {
      behind = Ok (Some (take c.in-Ok-Some.len buffer));
      asked = subst (λ (found : Option ℕ). g.W.Wire.steps i.wire (Asked (brought (Ok found) buffer)) c.receive.new.self) c.in-Ok-Some.field-0-is c.in-Ok-Some.ensures.steps;
      opens = subst (λ (octets : List ℕ). Opens g.K.Keeper.calls (length c.args.buffer.now) (Ok (Some (take c.in-Ok-Some.len octets))) came i.opener c.open_into.new.opener) same c.open_into.ensures.opens;
      sealer = refl;
      most = refl;
    })

pub returns-in-Ok-None-clause-asked : goal.returns-in-Ok-None-clause-asked
returns-in-Ok-None-clause-asked g c =
    let i = c.self.inside in
    subst (λ (old : SecuredState g.row.W.Denot). AsksBehind g.W.Wire.steps g.K.Keeper.calls (length c.args.buffer.now) (Ok None) old (record { wire = c.receive.new.self; sealer = i.sealer; opener = i.opener; most = i.most })) c.self.view_is
    (record { behind = Ok None; asked = subst (λ (found : Option ℕ). g.W.Wire.steps i.wire (Asked (brought (Ok found) c.receive.new.buffer)) c.receive.new.self) c.in-Ok-None.field-0-is c.in-Ok-None.ensures.steps; opens = (refl, refl); sealer = refl; most = refl })

pub returns-in-Err-clause-asked : goal.returns-in-Err-clause-asked
returns-in-Err-clause-asked g c =
    let i = c.self.inside in
    subst (λ (old : SecuredState g.row.W.Denot). AsksBehind g.W.Wire.steps g.K.Keeper.calls (length c.args.buffer.now) (Err c.in-Err.fault) old (record { wire = c.receive.new.self; sealer = i.sealer; opener = i.opener; most = i.most })) c.self.view_is
    (record { behind = Err c.in-Err.fault; asked = c.in-Err.ensures.steps; opens = (refl, refl); sealer = refl; most = refl })
