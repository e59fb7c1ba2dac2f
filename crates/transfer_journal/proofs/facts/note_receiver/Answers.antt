use Rattle.transfer_journal.proofs.Noting.{heard_again, heard_first, noted_other}
use Rattle.transfer_journal.proofs.facts.note_receiver.Goals as goal

pub returns-in_ok-receiver_facts-in-Some-Receives : goal.returns-in_ok-receiver_facts-in-Some-Receives
returns-in_ok-receiver_facts-in-Some-Receives c =
    let ok = c.in_ok-receiver_facts-in-Some-Receives in
    heard_again c.args.id c.args.receiver.now c.in-Some-Receives.noted ok.field-0 c.args.noted c.args.out.now.items c.receiver_facts.new.out.items (cc) ok.ensures.appended ok.ensures.noted

pub returns-in-Some-Sends : goal.returns-in-Some-Sends
returns-in-Some-Sends c = noted_other c.args.id _ _ c.args.noted c.args.out.now.items (cc) (λ h. h)

pub returns-in-Some-Unnamed : goal.returns-in-Some-Unnamed
returns-in-Some-Unnamed c = noted_other c.args.id _ _ c.args.noted c.args.out.now.items (cc) (λ h. h)

pub returns-in-Some-Gone : goal.returns-in-Some-Gone
returns-in-Some-Gone c = noted_other c.args.id _ _ c.args.noted c.args.out.now.items (cc) (λ h. h)

pub returns-in_ok-receiver_facts-in-None : goal.returns-in_ok-receiver_facts-in-None
returns-in_ok-receiver_facts-in-None c =
    let ok = c.in_ok-receiver_facts-in-None in
    heard_first c.args.id c.args.receiver.now c.addressing.result c.is_large-is_large.result ok.field-0 c.opened-noted.result c.args.noted c.args.out.now.items c.push.new.self.items c.receiver_facts-in-None.new.out.items c.in-None.is
    c.addressing.ensures c.is_large-is_large.ensures c.in_ok-push-in-None.ensures.items c.opened-noted.ensures ok.ensures.appended ok.ensures.noted
