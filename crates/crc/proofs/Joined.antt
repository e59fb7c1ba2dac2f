-- The check of octets begins with the check of the octets before them.
use Rattle.std.proofs.Common.{◌≡◌, ℕ, zero, suc, ◌+◌, ◌*◌, ◌^◌, ◌<◌, ◌≤◌, List, ◌++◌, length, get_or, take, refl, sym, ap, ◌∙◌, arith, add-one, length-append}
use Rattle.std.specs.Int.Bits.{bit_xor}
use Rattle.std.proofs.lemmas.List.{take_all, get_or-append-add}
use Rattle.std.proofs.Math.Nat.{add-zero}
use Rattle.std.proofs.Math.Seq.{take-append_seam, take-length}
use Rattle.crc.specs.Division.{moved}
use Rattle.crc.specs.Checks.{check_from}
use Rattle.crc.proofs.Octets.{check_none, check_more, check_below}

-- octets are below 256
abbrev pub AreOctets : List ℕ → Type 0
AreOctets o = (i : ℕ) → i < length o → get_or o i 0 < 256

module _ (e g : ℕ) (least : 2 ^ (e + 8) ≤ g) (most : g < 2 ^ (e + 8 + 1)) where
  joined_front : (s : ℕ) (a b : List ℕ) (n : ℕ) → s < 2 ^ (e + 8) → AreOctets b → n ≤ length b
      → check_from (e + 8) g (check_from (e + 8) g s a) (take n b) ≡ check_from (e + 8) g s (take (length a + n) (a ++ b))
  joined_front s a b zero fits bytes h =
      check_none e g least most (check_from (e + 8) g s a) (check_below e g least most s a)
      ∙ ap (check_from (e + 8) g s) (sym (ap (λ k. take k (a ++ b)) (add-zero (length a)) ∙ take-append_seam a b))
  joined_front s a b (suc n) fits bytes h =
      let x : ℕ = get_or b n 0 in
      let h' : n < length b = omega arith in
      let there : get_or (a ++ b) (length a + n) 0 ≡ x = get_or-append-add a b n 0 in
      let inside : length a + n < length (a ++ b) = omega (arith, length-append a b) in
      let ih = joined_front s a b n fits bytes (omega arith) in
      ap (λ k. check_from (e + 8) g (check_from (e + 8) g s a) (take k b)) (sym (add-one n))
      ∙ check_more e g least most (check_from (e + 8) g s a) b n x (omega arith) refl (bytes n h')
      ∙ ap (λ m. moved (e + 8) g 8 (bit_xor m (x * 2 ^ e))) ih
      ∙ sym (check_more e g least most s (a ++ b) (length a + n) x inside there (bytes n h'))
      ∙ ap (λ k. check_from (e + 8) g s (take k (a ++ b))) (omega arith)

  pub joined : (s : ℕ) (a b : List ℕ) → s < 2 ^ (e + 8) → AreOctets b → check_from (e + 8) g (check_from (e + 8) g s a) b ≡ check_from (e + 8) g s (a ++ b)
  joined s a b fits bytes =
      ap (check_from (e + 8) g (check_from (e + 8) g s a)) (sym (take-length b))
      ∙ joined_front s a b (length b) fits bytes (omega arith)
      ∙ ap (check_from (e + 8) g s) (take_all (length a + length b) (a ++ b) (omega (arith, length-append a b)))
