-- What is done about a fault, by number.
use Rattle.std.specs.Prelude.{ℕ}
use Rattle.cfdp_directives.specs.declared.user.handler.Handler.{Handler}
use Rattle.cfdp_directives.specs.declared.user.handler.Handler.TheVariants.{Cancel, Suspend, Ignore, Abandon}
use Rattle.cfdp_directives.specs.declared.user.handler.Handlers.{Handlers}

abbrev pub handler_number : Handler → ℕ
handler_number Cancel = 0
handler_number Suspend = 1
handler_number Ignore = 2
handler_number Abandon = 3

-- each of the three faults cancels the transaction
abbrev pub default_handlers : Handlers
default_handlers = record { ack = Cancel; nak = Cancel; inactivity = Cancel }
