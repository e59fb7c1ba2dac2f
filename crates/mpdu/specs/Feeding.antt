-- A reassembler that is fed the zones of a stream.
use Rattle.std.specs.Prelude.{◌≡◌, ℕ, ◌+◌, ◌*◌, ◌≤◌, Bool, true, List, [], ◌∷◌, ◌++◌, length, take, Vec, map}
use Rattle.std.specs.declared.alloc.Global.{Global}
use Rattle.mpdu.specs.Stream.{ArePackets, stream, zone, first_header_pointer, begun, survivors}

-- the octets of each
abbrev pub octets_of_each : List (Vec ℕ Global) → List (List ℕ)
octets_of_each vs = map (λ v. v.items) vs

-- This zone is the one after the marked ones of the stream, and the reassembler is as the delivered
-- ones of them left it.
pub record IsNext (ps : List (List ℕ)) (marks : List Bool) (held : List ℕ) (at : ℕ)
    (octets : List ℕ) : Type 0 where
  pub packets_whole : ArePackets ps
  pub as_left : held ≡ begun (length octets) marks 0 ps
  pub inside : length marks * length octets + length octets ≤ length (stream ps)
  pub pointed : at ≡ first_header_pointer (length octets) (length marks * length octets) 0 ps
  pub cut_out : octets ≡ zone (length octets) (length marks * length octets) (stream ps)

-- It is as all of them leave it, and the survivors that this zone completes were appended.
pub record IsTaken (ps : List (List ℕ)) (marks : List Bool) (z : ℕ) (held : List ℕ)
    (old new : List (List ℕ)) : Type 0 where
  pub as_left : held ≡ begun z (marks ++ true ∷ []) 0 ps
  pub added : List (List ℕ)
  pub completed : survivors z (marks ++ true ∷ []) 0 ps ≡ survivors z marks 0 ps ++ added
  pub appended : new ≡ old ++ added

-- A front of the survivors that this zone completes was appended.
pub record IsFrontTaken (ps : List (List ℕ)) (marks : List Bool) (z : ℕ)
    (old new : List (List ℕ)) : Type 0 where
  pub added : List (List ℕ)
  pub completed : survivors z (marks ++ true ∷ []) 0 ps ≡ survivors z marks 0 ps ++ added
  pub count : ℕ
  pub appended : new ≡ old ++ take count added
