use Rattle.std.proofs.Common.{◌≡◌, ◌∙◌, ◌++◌, ℕ, List, ap}
use Rattle.sha2.specs.Sha256.{sha256}
use Rattle.hmac.specs.Hmac.{MacState, hmac, inner_block, outer_block}
use Rattle.hmac.proofs.mac.Mac.finish.Goals as goal

pub returns : goal.returns
unfolding hmac
returns c =
    let key : List ℕ = c.self.inside.key.value in
    let digest : c.finalize-digest.result ≡ sha256 (inner_block key ++ c.self.inside.message) =
    c.finalize-digest.ensures (inner_block key ++ c.self.inside.message) c.self.invariant.inner in
    c.finalize.ensures (outer_block key ++ c.finalize-digest.result) (c.update.ensures (outer_block key) c.self.invariant.outer)
    ∙ ap (λ text. sha256 (outer_block key ++ text)) digest
    ∙ ap (λ (m : MacState). hmac m.key m.message) c.self.view_is
