use Rattle.std.proofs.Common.{◌≡◌, ℕ, List, ◌++◌, take, replicate, ap, sym, ◌∙◌}
use Rattle.std.proofs.lemmas.List.{take-replicate}
use Rattle.hmac.specs.Hmac.{MacState, hmac}
use Rattle.frame_security.proofs.Parts.{masked_apart}
use Rattle.frame_security.proofs.sealing.mac_of.Goals as goal

pub returns : goal.returns
returns c =
    let h : List ℕ = c.args.header.now in
    let b : List ℕ = c.args.behind.now in
    let zeros : take c.from.result (replicate 64 0) ≡ replicate c.args.insert_zone 0 =
    ap (λ (k : ℕ). take k (replicate 64 0)) c.from.ensures ∙ take-replicate c.args.insert_zone 64 0 c.requires.zone in
    let one : c.update.new.self ≡ record { key = c.args.key.now; message = h } =
    c.update.ensures ∙ ap (λ (m : MacState). record { key = m.key; message = m.message ++ h }) c.begin-mac.ensures in
    let two : c.update-2.new.self ≡ record { key = c.args.key.now; message = h ++ replicate c.args.insert_zone 0 } =
    c.update-2.ensures ∙ ap (λ (m : MacState). record { key = m.key; message = m.message ++ take c.from.result (replicate 64 0) }) one
    ∙ ap (λ z. record { key = c.args.key.now; message = h ++ z }) zeros in
    let three : c.update-3.new.self ≡ record { key = c.args.key.now; message = h ++ replicate c.args.insert_zone 0 ++ b } =
    c.update-3.ensures ∙ ap (λ (m : MacState). record { key = m.key; message = m.message ++ b }) two in
    c.finish.ensures ∙ ap (λ (m : MacState). hmac m.key m.message) three
    ∙ sym (ap (hmac c.args.key.now) (masked_apart c.args.insert_zone h b c.requires.header))
