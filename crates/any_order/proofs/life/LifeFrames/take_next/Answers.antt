use Rattle.std.proofs.Common.{ap, ◌∙◌}
use Rattle.aos_frame.specs.declared.config.Lane.TheVariants.{Directives, Data}
use Rattle.mpdu.specs.Feeding.{octets_of_each}
use Rattle.any_order.specs.Kept.{with_frame}
use Rattle.any_order.proofs.life.LifeFrames.take_next.Goals as goal

pub returns-in_ok-take_into-in-Some-Directives-clause-some : goal.returns-in_ok-take_into-in-Some-Directives-clause-some
returns-in_ok-take_into-in-Some-Directives-clause-some g c _ =
    let e = c.in_ok-take_into-in-Some-Directives.ensures.ok in (
      record { lane = Directives; octets = e.0 },
      e.1,
      ap (λ l. record { first = c.self.inside.first; directives = l; file_data = octets_of_each c.self.inside.file_data.items }) e.2
          ∙ ap (with_frame Directives e.0) c.self.view_is,
    )

pub returns-in_ok-take_into-in-Some-Data-clause-some : goal.returns-in_ok-take_into-in-Some-Data-clause-some
returns-in_ok-take_into-in-Some-Data-clause-some g c _ =
    let e = c.in_ok-take_into-in-Some-Data.ensures.ok in (
      record { lane = Data; octets = e.0 },
      e.1,
      ap (λ l. record { first = c.self.inside.first; directives = octets_of_each c.self.inside.directives.items; file_data = l }) e.2
          ∙ ap (with_frame Data e.0) c.self.view_is,
    )
