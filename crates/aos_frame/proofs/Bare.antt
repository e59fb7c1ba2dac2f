-- If a link has none of the fields, its frames are bare.
use Rattle.std.proofs.Common.{◌≡◌, ℕ, ◌-◌, ◌≤◌, None, List, ◌++◌, length, take, drop, refl, ap, ◌∙◌, arith, append_assoc, append-nil, length-drop}
use Rattle.std.proofs.lemmas.Bool.{le-leb}
use Rattle.std.proofs.lemmas.List.{take_all, take-append-drop}
use Rattle.aos_frame.specs.LinkFields.{fields_fault, mpdu_in, no_fields, sealed}

pub sealed_bare : (bare : List ℕ) (control : ℕ) → sealed no_fields bare control ≡ bare
sealed_bare bare control =
    let flat : sealed no_fields bare control ≡ take 6 bare ++ drop 6 bare = simp append_assoc (ap (λ l. take 6 bare ++ l) (append-nil (drop 6 bare))) in
    flat ∙ take-append-drop 6 bare

pub bare_taken : (frame : List ℕ) → 6 ≤ length frame → (fields_fault no_fields frame ≡ None) × (mpdu_in no_fields frame ≡ drop 6 frame)
bare_taken frame long = (
  rw (le-leb 6 (length frame) long) refl,
  take_all (length frame - 6 - 0) (drop 6 frame) (omega (arith, length-drop 6 frame)),
)
