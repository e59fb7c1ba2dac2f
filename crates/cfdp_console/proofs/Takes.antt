-- Octets that a connection reads, a part at a time.
use Rattle.std.proofs.Common.{◌≡◌, ◌≢◌, ℕ, suc, ◌+◌, ◌≤◌, ◌<◌, ◌⊎◌, Bool, true, false, List, [], ◌∷◌, ◌++◌, length, IsFalse, ap, arith, rules, refl, sym, subst, ◌∙◌, inl, inr, ⊎_elim, append_assoc, length-append}
use Rattle.std.proofs.lemmas.Bool.Decides.{nat_tests}
use Rattle.std.proofs.lemmas.List.{append-nil}
use Rattle.http_server.specs.History.{History, after_read}

-- what came is read, up to what is left of it
pub record Flows (old now : History) (octets left : List ℕ) (part : ℕ) : Type 0 where
  pub all : now.received ++ left ≡ old.received ++ octets
  pub flowing : IsFalse now.ended ⊎ (left ≡ [])
  pub few : length left + part ≤ length octets

pub record Taking (old now : History) (octets left : List ℕ) (part : ℕ) : Type 0 where
  pub calls : now.calls ≡ old.calls
  pub flows : IsFalse old.ended → Flows old now octets left part

-- a read of none is the end of what came
ends : (before after : History) (more rest : List ℕ) → IsFalse before.ended
    → after ≡ after_read before more → (length more ≡ 0 → rest ≡ [])
    → IsFalse after.ended ⊎ (rest ≡ [])
ends before after [] rest flowing is end = inr (end refl)
ends before after (x ∷ more) rest flowing is end =
    inl (rw (is, flowing) (first_of (grind (arith, nat_tests), search rules)))

joins : (old before after : History) (octets left rest more : List ℕ)
    → before.received ++ left ≡ old.received ++ octets → left ≡ more ++ rest
    → after ≡ after_read before more → after.received ++ rest ≡ old.received ++ octets
joins old before after octets left rest more all split is =
    ap (λ (h : History). h.received ++ rest) is
    ∙ (append_assoc before.received more rest ∙ (ap (λ (l : List ℕ). before.received ++ l) (sym split) ∙ all))

shrinks : (left rest more : List ℕ) → left ≢ [] → left ≡ more ++ rest
    → (length more ≡ 0 → rest ≡ []) → length rest < length left
shrinks left rest [] some split end = absurd (some (split ∙ end refl))
shrinks left rest (x ∷ more) some split end =
    let len : length left ≡ suc (length more) + length rest
    = ap length split ∙ length-append (x ∷ more) rest in
    omega arith

pub step : (old before after : History) (octets left rest more : List ℕ) (part next : ℕ)
    → Taking old before octets left part → left ≢ [] → left ≡ more ++ rest
    → after ≡ after_read before more
    → (length more ≡ 0 → IsFalse before.ended → rest ≡ []) → next ≡ part + 1
    → Taking old after octets rest next
step old before after octets left rest more part next t some split is end counts = record {
  calls = ap (λ (h : History). h.calls) is ∙ t.calls;
  flows = λ o.
      let f = t.flows o in
      let flowing : IsFalse before.ended = ⊎_elim (λ flowing. flowing) (λ none. absurd (some none)) f.flowing in
      let over : length more ≡ 0 → rest ≡ [] = λ none. end none flowing in
      let less = shrinks left rest more some split over in
      let few = f.few in
      record {
        all = joins old before after octets left rest more f.all split is;
        flowing = ends before after more rest flowing is over;
        few = omega arith;
      };
}

pub first : (old after : History) (octets rest more : List ℕ) → octets ≡ more ++ rest
    → after ≡ after_read old more
    → (length more ≡ 0 → IsFalse old.ended → rest ≡ [])
    → Taking old after octets rest 0
first old after octets rest more split is end = record {
  calls = ap (λ (h : History). h.calls) is;
  flows = λ o.
      let len : length octets ≡ length more + length rest
      = ap length split ∙ length-append more rest in
      record {
        all = joins old old after octets octets rest more refl split is;
        flowing = ends old after more rest o is (λ none. end none o);
        few = omega arith;
      };
}

-- nothing is left once as many parts were taken as there are octets
pub over : (old now : History) (octets left : List ℕ) (part : ℕ)
    → Taking old now octets left part → length octets ≤ part → IsFalse old.ended
    → now.received ≡ old.received ++ octets
over old now octets [] part t many o = sym (append-nil now.received) ∙ (t.flows o).all
over old now octets (x ∷ left) part t many o = let few = (t.flows o).few in absurd (omega arith)

-- nor if nothing is left
pub done : (old now : History) (octets left : List ℕ) (part : ℕ)
    → Taking old now octets left part → left ≡ [] → IsFalse old.ended
    → now.received ≡ old.received ++ octets
done old now octets left part t none o =
    sym (append-nil now.received) ∙ (ap (λ (l : List ℕ). now.received ++ l) (sym none)
    ∙ (t.flows o).all)
