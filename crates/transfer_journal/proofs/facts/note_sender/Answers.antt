use Rattle.std.proofs.Common.{true≢false, is_some, refl, sym, ap, ◌∙◌}
use Rattle.transfer_journal.specs.Noted.{put_noted}
use Rattle.transfer_journal.proofs.Noting.{noted_again, noted_first, noted_other, noted_unnamed}
use Rattle.transfer_journal.proofs.facts.note_sender.Goals as goal

pub returns-in_default : goal.returns-in_default
returns-in_default c =
    noted_unnamed c.args.id c.args.sender.now c.args.noted c.args.out.now.items c.in-None.is
    (λ s. true≢false (sym (c.in_ok-transfer-in-None.ensures.some s) ∙ ap is_some c.in_default.is))

pub returns-in_ok-sender_facts-in-Some-Sends : goal.returns-in_ok-sender_facts-in-Some-Sends
returns-in_ok-sender_facts-in-Some-Sends c =
    let ok = c.in_ok-sender_facts-in-Some-Sends in
    noted_again c.args.id c.args.sender.now _ ok.field-0 c.args.noted c.args.out.now.items c.sender_facts.new.out.items (cc) ok.ensures.appended ok.ensures.noted

pub returns-in-Some-Receives : goal.returns-in-Some-Receives
returns-in-Some-Receives c = noted_other c.args.id _ _ c.args.noted c.args.out.now.items (cc) (λ h. h)

pub returns-in-Some-Unnamed : goal.returns-in-Some-Unnamed
returns-in-Some-Unnamed c = noted_other c.args.id _ _ c.args.noted c.args.out.now.items (cc) (λ h. h)

pub returns-in-Some-Gone : goal.returns-in-Some-Gone
returns-in-Some-Gone c = noted_other c.args.id _ _ c.args.noted c.args.out.now.items (cc) (λ h. h)

pub returns-in_ok-sender_facts-in-None : goal.returns-in_ok-sender_facts-in-None
returns-in_ok-sender_facts-in-None c =
    let ok = c.in_ok-sender_facts-in-None in
    noted_first c.args.id c.args.sender.now c.in-Some.transfer ok.field-0 put_noted c.args.noted c.args.out.now.items c.push.new.self.items c.sender_facts-in-None.new.out.items c.in-None.is
    (rw c.in-Some.is at c.in_ok-transfer-in-None.ensures.is) c.in_ok-push-in-None.ensures.items refl ok.ensures.appended ok.ensures.noted
