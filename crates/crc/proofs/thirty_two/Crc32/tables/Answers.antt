use Rattle.crc.proofs.Tables32.{proximity_tables, castagnoli_tables, ieee_tables}
use Rattle.crc.proofs.thirty_two.Crc32.tables.Goals as goal

pub returns-in-Proximity1 : goal.returns-in-Proximity1
returns-in-Proximity1 c = proximity_tables c.args.self c.in-Proximity1.is

pub returns-in-Castagnoli : goal.returns-in-Castagnoli
returns-in-Castagnoli c = castagnoli_tables c.args.self c.in-Castagnoli.is

pub returns-in-Ieee : goal.returns-in-Ieee
returns-in-Ieee c = ieee_tables c.args.self c.in-Ieee.is
