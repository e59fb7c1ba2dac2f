use Rattle.std.proofs.Common.{◌≡◌, ◌++◌, ◌∷◌, [], ℕ, List, false, sym, subst}
use Rattle.mpdu.specs.Packing.{PackerState, IsAt}
use Rattle.std.proofs.lemmas.Result.{on_ok_weaker}
use Rattle.mpdu.proofs.Packed.{pushed}
use Rattle.mpdu.proofs.packer.Packer.push_pieces.Goals as goal

pub returns-clause-stream : goal.returns-clause-stream
returns-clause-stream c ps taken is =
    let packet : List ℕ = c.args.front.now ++ c.args.behind.now in
    on_ok_weaker c.append_pieces.result
    (λ (same : c.append_pieces.new.self ≡ record c.args.self.now { waiting = c.args.self.now.waiting ++ packet; flushed = false }).
    subst (λ (p : PackerState). IsAt p (ps ++ packet ∷ []) taken) (sym same) (pushed c.args.self.now ps taken packet c.requires is false))
    c.append_pieces.ensures.ok
