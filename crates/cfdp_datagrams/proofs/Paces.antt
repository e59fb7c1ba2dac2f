-- Frames that leave keep their rate.
use Rattle.std.proofs.Common.{◌≤◌, ◌+◌, ◌*◌, ℕ, List, [], ◌∷◌, ◌++◌, length, arith, subst, sym}
use Rattle.cfdp_datagrams.specs.declared.pacer.Pacer.{Pacer}
use Rattle.cfdp_datagrams.specs.Pacer.{AllLeave, KeepsRate}

-- what is due from here on is later by a frame's time for each frame that leaves
pub later : (between : List ℕ) (last least : ℕ) (old new : Pacer) → least ≤ old.due → AllLeave (between ++ last ∷ []) old new
    → least + length between * old.frame_time ≤ last + old.slack
later [] last least old new below (mid, leaves, rest) = (let may = leaves.may in omega (arith, below, may))
later (time ∷ between) last least old new below (mid, leaves, rest) =
    let due = leaves.due in
    let frame_time = leaves.frame_time in
    let slack = leaves.slack in
    let behind : least + old.frame_time ≤ mid.due = omega (arith, below, due) in
    let more = later between last (least + old.frame_time) mid new behind rest in
    rw (sym frame_time, sym slack) (omega (arith, more, frame_time))

pub keeps-rate : KeepsRate
keeps-rate first last between old new (mid, leaves, rest) =
    let due = leaves.due in
    let behind : first + old.frame_time ≤ mid.due = omega (arith, due) in
    let more = later between last (first + old.frame_time) mid new behind rest in
    let slack = subst (λ n. first + old.frame_time + length between * mid.frame_time ≤ last + n) leaves.slack more in
    subst (λ n. first + old.frame_time + length between * n ≤ last + old.slack) leaves.frame_time slack
