-- The numbers and names of refusals in reports.
use Rattle.std.specs.Prelude.{ℕ, List, codes, Option, Some, None}
use Rattle.cfdp_directives.specs.declared.pdu.error.PduError.{PduError}
use Rattle.cfdp_directives.specs.Pdu.Faults.{pdu_refusal_number, pdu_refusal_name}
use Rattle.cfdp_entity.specs.declared.error.EntityDrop.{EntityDrop}
use Rattle.cfdp_entity.specs.declared.error.EntityDrop.TheVariants as drops
use Rattle.cfdp_entity.specs.declared.error.PutError.{PutError}
use Rattle.cfdp_entity.specs.declared.error.PutError.TheVariants as puts
use Rattle.cfdp_entity.specs.declared.error.RequestError.{RequestError}
use Rattle.cfdp_entity.specs.declared.error.RequestError.TheVariants as calls

abbrev pub drop_number : EntityDrop → ℕ
drop_number (drops.Pdu e) = pdu_refusal_number e
drop_number drops.WrongDirection = 12
drop_number drops.NotForUs = 13
drop_number drops.Unknown = 14
drop_number drops.TableFull = 15
drop_number drops.NoMemory = 16
drop_number drops.NoFile = 17

abbrev pub drop_name : EntityDrop → List ℕ
drop_name (drops.Pdu e) = pdu_refusal_name e
drop_name drops.WrongDirection = codes "WrongDirection"
drop_name drops.NotForUs = codes "NotForUs"
drop_name drops.Unknown = codes "Unknown"
drop_name drops.TableFull = codes "TableFull"
drop_name drops.NoMemory = codes "NoMemory"
drop_name drops.NoFile = codes "NoFile"

-- why octets are no PDU, if they were dropped for that
abbrev pub drop_source : EntityDrop → Option PduError
drop_source (drops.Pdu e) = Some e
drop_source _ = None

abbrev pub put_number : PutError → ℕ
put_number puts.NoSuchFile = 1
put_number puts.Name = 2
put_number puts.TooLarge = 3
put_number puts.TableFull = 4
put_number puts.NumbersSpent = 5
put_number puts.SourceFault = 6
put_number puts.NoMemory = 7

abbrev pub put_name : PutError → List ℕ
put_name puts.NoSuchFile = codes "NoSuchFile"
put_name puts.Name = codes "Name"
put_name puts.TooLarge = codes "TooLarge"
put_name puts.TableFull = codes "TableFull"
put_name puts.NumbersSpent = codes "NumbersSpent"
put_name puts.SourceFault = codes "SourceFault"
put_name puts.NoMemory = codes "NoMemory"

abbrev pub call_number : RequestError → ℕ
call_number calls.Unknown = 1
call_number calls.AlreadyClosed = 2
call_number calls.WrongSide = 3
call_number calls.AlreadySo = 4
call_number calls.NoMemory = 5

abbrev pub call_name : RequestError → List ℕ
call_name calls.Unknown = codes "Unknown"
call_name calls.AlreadyClosed = codes "AlreadyClosed"
call_name calls.WrongSide = codes "WrongSide"
call_name calls.AlreadySo = codes "AlreadySo"
call_name calls.NoMemory = codes "NoMemory"
