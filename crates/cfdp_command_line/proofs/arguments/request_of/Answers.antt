use Rattle.clap.specs.Values.{kind_of}
use Rattle.cfdp_command_line.proofs.arguments.request_of.Goals as goal

pub returns-in-Err-clause-refused : goal.returns-in-Err-clause-refused
returns-in-Err-clause-refused c = record { kind = kind_of c.in-Err.error; among = c.in-Err.ensures.refused; ends = c.refused.ensures.kind }
