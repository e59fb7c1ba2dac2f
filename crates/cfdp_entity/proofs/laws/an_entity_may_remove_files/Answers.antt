use Rattle.std.proofs.Common.{[], refl, sym, subst, arith, append-nil}
use Rattle.cfdp_directives.specs.Pdu.Grammar.{SpellsPdu}
use Rattle.cfdp_directives.specs.Pdu.Faults.{pdu_fault}
use Rattle.cfdp_entity.specs.Entity.{EntityState, with_table}
use Rattle.cfdp_entity.specs.Polling.{turn, served}
use Rattle.cfdp_entity.specs.Sound.{IsSound}
use Rattle.cfdp_entity.proofs.Removing.{ReceivesAlike}
use Rattle.cfdp_entity.proofs.StillSound.{with_inbox, sound-still, sound-without, spells-with, turn-octets, conclude, put-alike, forgets-alike, some-alike, called-alike, ticked-alike, served-alike, heard-alike, dropped-alike}
use Rattle.cfdp_entity.proofs.laws.an_entity_may_remove_files.Goals as goal

pub returns-clause-sound : goal.returns-clause-sound
returns-clause-sound c = sound-still

pub returns-clause-removed : goal.returns-clause-removed
returns-clause-removed c = sound-without

pub returns-clause-goes_on : goal.returns-clause-goes_on
returns-clause-goes_on c name e = record { gained = []; told = sym (append-nil e.table.told); gone = refl; sources = refl; stands = refl; config = refl; next = omega arith }

pub returns-clause-sends : goal.returns-clause-sends
returns-clause-sends c put_of heard first removed e h v k spells says =
    c.an_entity_sends_the_truth.ensures put_of heard first (with_inbox k.all e) h v k.sound (spells-with k.all e spells)
    (subst (SpellsPdu h v) (turn-octets k.all (turn e) e) says)

pub returns-clause-more : goal.returns-clause-more
returns-clause-more c put_of puts_then heard more first removed e finds k =
    record { all = k.all; sound = c.an_entity_keeps_the_truth.ensures.more put_of puts_then heard more first (with_inbox k.all e) finds k.sound; left = k.left; among = k.among }

pub returns-clause-among : goal.returns-clause-among
returns-clause-among c put_of heard others first removed e among k =
    record { all = k.all; sound = c.an_entity_keeps_the_truth.ensures.among put_of heard others first (with_inbox k.all e) among k.sound; left = k.left; among = k.among }

pub returns-clause-put : goal.returns-clause-put
returns-clause-put c put_of heard first removed source destination id old new a finds k =
    let h = put-alike k.all old new source destination id a in
    conclude put_of heard first removed _ old new k h
    (c.an_entity_keeps_the_truth.ensures.put put_of heard first source destination id (with_inbox k.all old) (with_table new h.other) h.so finds k.sound)

pub returns-clause-called : goal.returns-clause-called
returns-clause-called c put_of heard first removed call id old new is k =
    let law = c.published_files_change_no_step.ensures in
    let laws : ReceivesAlike = record { step = law.step; opened = law.opened } in
    let h = called-alike laws k.all old new call id is in
    conclude put_of heard first removed _ old new k h
    (c.an_entity_keeps_the_truth.ensures.called put_of heard first call id (with_inbox k.all old) (with_table new h.other) h.so k.sound)

pub returns-clause-ticked : goal.returns-clause-ticked
returns-clause-ticked c put_of heard first removed now old new t same k =
    let law = c.published_files_change_no_step.ensures in
    let laws : ReceivesAlike = record { step = law.step; opened = law.opened } in
    let h = ticked-alike laws k.all old new now t same in
    conclude put_of heard first removed _ old new k h
    (c.an_entity_keeps_the_truth.ensures.ticked put_of heard first now (with_inbox k.all old) (with_table new h.other) h.so.0 h.so.1 k.sound)

pub returns-clause-heard : goal.returns-clause-heard
returns-clause-heard c put_of heard first removed pdu old new by_id comes is k =
    let law = c.published_files_change_no_step.ensures in
    let laws : ReceivesAlike = record { step = law.step; opened = law.opened } in
    let h = heard-alike laws k.all old new pdu is in
    conclude put_of heard first removed _ old.state new.state k h
    (c.an_entity_keeps_the_truth.ensures.heard put_of heard first pdu (record old { state = with_inbox k.all old.state }) (record new { state = with_table new.state h.other }) by_id
    (record { among = comes.among; says = comes.says }) h.so k.sound)

pub returns-clause-dropped : goal.returns-clause-dropped
returns-clause-dropped c put_of heard first removed pdu by old new is k =
    let law = c.published_files_change_no_step.ensures in
    let laws : ReceivesAlike = record { step = law.step; opened = law.opened } in
    let h = dropped-alike laws k.all old new (pdu_fault pdu) pdu by is in
    conclude put_of heard first removed _ old.state new.state k h
    (c.an_entity_keeps_the_truth.ensures.dropped put_of heard first pdu by (record old { state = with_inbox k.all old.state }) (record new { state = with_table new.state h.other }) h.so k.sound)

pub returns-clause-served : goal.returns-clause-served
returns-clause-served c put_of heard first removed stored e k =
    let law = c.published_files_change_no_step.ensures in
    let laws : ReceivesAlike = record { step = law.step; opened = law.opened } in
    let h = served-alike laws k.all stored (turn e) e in
    conclude put_of heard first removed _ e (served stored (turn e) e) k h
    (subst (λ (x : EntityState). IsSound put_of heard first x) h.so (c.an_entity_keeps_the_truth.ensures.served put_of heard first stored (with_inbox k.all e) k.sound))

pub returns-clause-forgot : goal.returns-clause-forgot
returns-clause-forgot c put_of heard first removed id old new f k =
    let h = forgets-alike k.all old new id f in
    conclude put_of heard first removed _ old new k h (c.an_entity_may_forget.ensures.sound put_of heard first id (with_inbox k.all old) (with_table new h.other) h.so k.sound)

pub returns-clause-some : goal.returns-clause-some
returns-clause-some c put_of heard first removed old new f k =
    let h = some-alike k.all old new f in
    conclude put_of heard first removed _ old new k h (c.an_entity_may_forget.ensures.some put_of heard first (with_inbox k.all old) (with_table new h.other) h.so k.sound)

pub returns-clause-told : goal.returns-clause-told
returns-clause-told c put_of heard first removed count e k =
    record { all = k.all; sound = c.an_entity_may_forget.ensures.told put_of heard first count (with_inbox k.all e) k.sound; left = k.left; among = k.among }
