use Rattle.std.proofs.Common.{refl, ap, subst, ◌∙◌}
use Rattle.station_pair.specs.declared.side.Side.{Side}
use Rattle.station_pair.specs.Stations.{station_of}
use Rattle.cfdp_station.specs.declared.config.StationConfig.{StationConfig}
use Rattle.any_order.specs.Restoring.{ResumesKept}
use Rattle.any_order.proofs.world.TwoEnds.resume.Goals as goal

pub returns-in-One-clause-resumes : goal.returns-in-One-clause-resumes
returns-in-One-clause-resumes g c done =
    let i = c.self.inside in
    rw (c.in-One.is, ← c.self.view_is) (record {
      same = refl;
      kept = subst (λ (k : StationConfig). ResumesKept c.args.first c.args.number k i.one c.resume_at.new.end) (c.station-config.ensures ∙ ap (λ (s : Side). station_of s i.config) c.in-One.is)
          (c.resume_at.ensures.resumes done);
    })

pub returns-in-Two-clause-resumes : goal.returns-in-Two-clause-resumes
returns-in-Two-clause-resumes g c done =
    let i = c.self.inside in
    rw (c.in-Two.is, ← c.self.view_is) (record {
      same = refl;
      kept = subst (λ (k : StationConfig). ResumesKept c.args.first c.args.number k i.two c.resume_at-in-Two.new.end) (c.station-config.ensures ∙ ap (λ (s : Side). station_of s i.config) c.in-Two.is)
          (c.resume_at-in-Two.ensures.resumes done);
    })
