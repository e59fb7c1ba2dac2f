use Rattle.std.proofs.Common.{sym, ap, subst, ◌∙◌}
use Rattle.cfdp_entity.specs.Entity.{EntityState}
use Rattle.cfdp_entity.specs.Exchanging.{told_by}
use Rattle.cfdp_station.specs.Station.{StationState}
use Rattle.any_order.specs.Restoring.{ComesBackFrom}
use Rattle.any_order.proofs.world.resume_at.Goals as goal

pub returns-clause-resumes : goal.returns-clause-resumes
returns-clause-resumes g c done =
    let e = c.in-Ok.ensures in
    let r = c.in_ok-resume.ensures in
    let new : EntityState = c.resume.new.self.station.entity.state in
    record {
      entity = subst (λ (s : StationState). ComesBackFrom c.args.number c.args.config.entity s.entity.state new) c.station.ensures
          (e.back new (r.state ∙ ap (λ (s : StationState). told_by s.entity.state c.in-Ok.station.entity.state) (sym c.station.ensures)));
      down = r.down ∙ e.down;
      up = r.up ∙ e.up;
      directives = c.ends_before.ensures.directives c.if-not-ends_before.false;
      file_data = c.ends_before.ensures.file_data c.if-not-ends_before.false;
      same = r.ok;
    }
