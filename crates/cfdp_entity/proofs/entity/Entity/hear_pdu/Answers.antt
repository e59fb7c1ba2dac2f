use Rattle.std.proofs.Common.{rules, arith, sym, ap, subst, ◌∙◌}
use Rattle.std.proofs.lemmas.Grind.{common_steps}
use Rattle.cfdp_directives.specs.declared.pdu.addressing.Addressing.{Addressing}
use Rattle.cfdp_directives.specs.Pdu.Addressing.{FitsAddressing}
use Rattle.cfdp_directives.specs.Pdu.Content.{view}
use Rattle.cfdp_entity.specs.Entity.{is_forgotten}
use Rattle.cfdp_entity.proofs.Routes.{opens-peer, opens-unforgotten}
use Rattle.cfdp_entity.proofs.entity.Entity.hear_pdu.Goals as goal

pub hear_first-requires : goal.hear_first-requires
hear_first-requires g c = record {
  fits = subst FitsAddressing (sym c.of.ensures) c.requires;
  from_peer = ap (λ (a : Addressing). a.id.source) c.of.ensures ∙ opens-peer c.args.header.now (view c.args.pdu.now) c.args.self.now.state (sym c.in-Opens.ensures);
  absent = search rules;
  unforgotten = ap (λ (a : Addressing). is_forgotten c.args.self.now.state a.id) c.of.ensures ∙ opens-unforgotten c.args.header.now (view c.args.pdu.now) c.args.self.now.state (sym c.in-Opens.ensures);
  not_full = first_of (search rules, grind (arith, common_steps));
}
