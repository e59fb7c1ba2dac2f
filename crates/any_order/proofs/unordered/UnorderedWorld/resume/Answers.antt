use Rattle.any_order.specs.World.{ResumesBy, side_of}
use Rattle.any_order.proofs.Happening.{resumes_by, runs_by}
use Rattle.any_order.proofs.unordered.UnorderedWorld.resume.Goals as goal

pub returns-clause-happened : goal.returns-clause-happened
returns-clause-happened g c = rw (← c.self.view_is)
    (resumes_by (side_of c.args.side) c.args.first_frame c.args.first_number c.resume.result c.self.inside.ends c.resume.new.self
    (λ done. c.a_world_resumes.ensures (side_of c.args.side) c.args.first_frame c.args.first_number c.self.inside.ends c.resume.new.self c.self.invariant (c.resume.ensures.resumes done)) c.resume.ensures.answers)

pub invariant_of-self : goal.invariant_of-self
invariant_of-self g c =
    let by : ResumesBy c.resume.result (side_of c.args.side) c.args.first_frame c.args.first_number c.self.inside.ends c.resume.new.self =
    resumes_by (side_of c.args.side) c.args.first_frame c.args.first_number c.resume.result c.self.inside.ends c.resume.new.self
    (λ done. c.a_world_resumes.ensures (side_of c.args.side) c.args.first_frame c.args.first_number c.self.inside.ends c.resume.new.self c.self.invariant (c.resume.ensures.resumes done)) c.resume.ensures.answers in
    runs_by (side_of c.args.side) c.args.first_frame c.args.first_number c.resume.result c.self.inside.ends c.resume.new.self by c.self.invariant
