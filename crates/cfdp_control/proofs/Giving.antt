-- What is given of what was taken of a source of lines.
use Rattle.std.specs.Prelude.{◌≡◌, ◌≢◌, List, [], ℕ, Some, Result, Ok, Err, String, string_bytes, ◌++◌, ◌∷◌}
use Rattle.std.proofs.Common.{inl, inr, refl, subst, sym}
use Rattle.std.specs.declared.alloc.Global.{Global}
use Rattle.cfdp_control.specs.Lines.{Gives, GoesWith, IsFirst, IsRefused, IsTextOf, Takes, came_to, waiting_in}
use Rattle.cfdp_control.specs.declared.line.LineFault.{LineFault}
use Rattle.cfdp_control.specs.declared.line.LineFault.TheVariants as fault
use Rattle.cfdp_control.specs.declared.line_buffer.LineBuffer.{LineBuffer}
use Rattle.cfdp_control.specs.declared.line_buffer.Taken.{Taken}
use Rattle.cfdp_control.specs.declared.line_buffer.Taken.TheVariants.{Line, TooLong}

pub gives_text : (a b : LineBuffer) (taken : Taken) (given : Result (String Global) LineFault)
    → Takes (waiting_in a) (Some taken) (waiting_in b) → GoesWith a.gone (Some taken) b.gone
    → came_to b ≡ came_to a → IsTextOf taken given → Gives a (Some given) b
gives_text a b (Line line) (Ok text) takes gone all same = (
  subst (λ (l : List ℕ). IsFirst (waiting_in a) l (waiting_in b)) (sym same) takes,
  subst (λ (l : List ℕ). b.gone ≡ a.gone ++ l ++ 10 ∷ []) (sym same) gone,
)
gives_text a b (Line line) (Err fault.NotText) takes gone all why = ((line.items, takes, why), all)
gives_text a b (Line line) (Err fault.OfWeb) takes gone all why =
    ((line.items, waiting_in b, takes, inl refl), all)
gives_text a b (Line line) (Err fault.TooLong) takes gone all why = absurd why
gives_text a b (Line line) (Err fault.NoEnd) takes gone all why = absurd why
gives_text a b (Line line) (Err fault.NoMemory) takes gone all why = absurd why
gives_text a b TooLong (Ok text) takes gone all why = absurd why
gives_text a b TooLong (Err why) takes gone all same =
    (subst (λ (w : LineFault). IsRefused (waiting_in a) w (waiting_in b)) (sym same) takes, all)

-- nothing is left after a line that is refused
pub refused_all : (before after : List ℕ) (why : LineFault) → why ≢ fault.NotText
    → IsRefused before why after → IsRefused before why []
refused_all before after fault.TooLong other is = (refl, is.1, is.2)
refused_all before after fault.NotText other is = absurd (other refl)
refused_all before after fault.OfWeb other (line, rest, first, left) = (line, rest, first, inr refl)
refused_all before after fault.NoEnd other is = (refl, is.1, is.2)
refused_all before after fault.NoMemory other is = refl
