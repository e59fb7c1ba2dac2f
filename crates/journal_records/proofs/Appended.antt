-- Octets that were appended one after another.
use Rattle.std.proofs.Common.{◌≡◌, List, ◌++◌, ℕ, Result, Ok, Err, ap, ◌∙◌, append_assoc}
use Rattle.std.specs.Prelude.{OnOk}

-- first a, and then b
pub after : (a b old mid new : List ℕ) → mid ≡ old ++ a → new ≡ mid ++ b → new ≡ old ++ (a ++ b)
after a b old mid new one two = two ∙ ap (λ (l : List ℕ). l ++ b) one ∙ append_assoc old a b

-- what was written of a value that is this one
pub written-of : {A : Type 0} (write : A → List ℕ) (x y : A) (old new : List ℕ) → x ≡ y → new ≡ old ++ write x → new ≡ old ++ write y
written-of {A} write x y old new same is = is ∙ ap (λ (v : A). old ++ write v) same

pub on-ok : {A E : Type 0} {P Q : Type 0} (r : Result A E) → (P → Q) → OnOk r P → OnOk r Q
on-ok (Ok x) f p = f p
on-ok (Err e) f p = tt
