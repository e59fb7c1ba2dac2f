use Rattle.std.proofs.Common.{◌≡◌, ◌+◌, length, ap, ◌∙◌, arith}
use Rattle.aos_frame.specs.LinkFields.{extra}
use Rattle.frame_security.specs.declared.config.Security.{Security}
use Rattle.frame_security.specs.Sealing.{SealerState}
use Rattle.frame_security.proofs.Parts.{bare_placed}
use Rattle.frame_security.proofs.sealing.Sealer.put_secured.Goals as goal

pub returns-clause-secured : goal.returns-clause-secured
returns-clause-secured c =
    let s : SealerState = c.args.self.now in
    let ours : c.get-security.result ≡ s.security = c.get-security.ensures.is ∙ ap (λ (x : SealerState). x.security) c.self.view_is in
    let zone : c.get-security.result.fields.insert_zone ≡ s.security.fields.insert_zone = ap (λ (x : Security). x.fields.insert_zone) ours in
    let mac : c.get-security.result.mac_len ≡ s.security.mac_len = ap (λ (x : Security). x.mac_len) ours in
    let six : length c.write.new.header ≡ 6 = omega (arith, c.write.auto.header, c.split_at_mut-header.ensures.front_len) in
    let gap : length c.split_at_mut-insert.result.0.now ≡ s.security.fields.insert_zone = omega (arith, c.split_at_mut-insert.ensures.front_len, c.from-2.ensures, zone) in
    let rest : length c.split_at_mut-body.result.1.now + s.security.fields.insert_zone ≡ extra s.security.fields =
    omega (arith, c.split_at_mut-body.ensures.back_len, c.split_at_mut-insert.ensures.back_len, c.split_at_mut-header.ensures.back_len, c.from.ensures, c.from-2.ensures, zone, mac, c.requires.room, c.requires.header) in
    bare_placed s.security.fields c.write.new.header c.split_at_mut-insert.result.0.now c.write.new.body c.split_at_mut-body.result.1.now six gap rest
    ∙ c.write.ensures
