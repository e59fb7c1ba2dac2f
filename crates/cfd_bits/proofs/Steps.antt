-- One more bit, and one more octet.
use Rattle.std.proofs.Common.{◌≡◌, ℕ, suc, ◌+◌, ◌-◌, ◌*◌, ◌/◌, ◌%◌, ◌^◌, ◌<◌, ◌≤◌, List, [], ◌∷◌, ◌++◌, length, get_or, set, drop, refl, append_assoc, add-one, arith}
use Rattle.std.proofs.lemmas.List.{drop-set}
use Rattle.std.proofs.Math.Pow.{pow_mono}
use Rattle.std.proofs.lemmas.Grind.{pow_more}
use Rattle.cfd_bits.specs.Field.{bit, field, octets}

pub field_more : (o : List ℕ) (at w : ℕ) → field o at (w + 1) ≡ 2 * field o at w + get_or o ((at + w) / 8) 0 / 2 ^ (7 - (at + w) % 8) % 2
unfolding field bit
field_more o at w = rw add-one refl

pub field_none : (o : List ℕ) (at : ℕ) → field o at 0 ≡ 0
unfolding field
field_none o at = refl

pub octets_none : (n : ℕ) → octets 0 n ≡ []
unfolding octets
octets_none n = refl

pub octets_more : (i left : ℕ) (out : List ℕ) → i < length out → octets (i + 1) left ++ drop (i + 1) out ≡ octets i (left / 256) ++ drop i (set out i (left % 256))
unfolding octets
octets_more i left out h = rw (drop-set out i (left % 256) h) (rw add-one (append_assoc (octets i (left / 256)) (left % 256 ∷ []) (drop (suc i) out)))
