-- What is read of octets is what was written, and what was written is read again: parts of records.
use Rattle.std.proofs.Common.{◌≡◌, ℕ, zero, suc, ◌+◌, ◌-◌, ◌^◌, ◌<◌, ◌≤◌, Bool, true, false, cond, ltb, List, [], ◌∷◌, ◌++◌, length, get_or, take, drop, slice_get, Option, Some, None, Result, Ok, Err, refl, sym, ap, subst, ◌∙◌, append_assoc, arith, inl, inr}
use Rattle.std.specs.List.{flat_map, AllByRecursion}
use Rattle.std.specs.Int.{Width, w16, w32, w64, byte_len, from_be_bytes, to_be_bytes}
use Rattle.std.proofs.lemmas.Bool.{cases_lt, ltb-false, le-ltb}
use Rattle.std.proofs.lemmas.List.{take_at, drop_at, take-append-drop, length-append, length-take, get_or-drop, get_or-take, get_or_past, append-nil}
use Rattle.std.proofs.lemmas.Nat.{be_bytes_2, be_bytes_4, be_bytes_8, from_be_bytes-to_be_bytes_2, from_be_bytes-to_be_bytes_4, from_be_bytes-to_be_bytes_8}
use Rattle.journal_records.specs.declared.fault.BatchFault.{BatchFault}
use Rattle.journal_records.specs.declared.fault.BatchFault.TheVariants.{Short, Unknown}
use Rattle.journal_records.specs.Writing.{list_octets, name_octets, octet, FitsName}
use Rattle.journal_records.specs.declared.fault.ReadError.{ReadError}
use Rattle.journal_records.specs.declared.fault.ReadError.TheVariants as errors
use Rattle.journal_records.specs.Reading.{◌>>=◌, Fails, Read, both, choice_at, known, made, many_at, name_at, number_at, octet_at, tested_at}

abbrev pub IsBytes : List ℕ → Type 0
IsBytes bytes = (i : ℕ) → get_or bytes i 0 < 256

IsBytes-drop : (n : ℕ) (bytes : List ℕ) → IsBytes bytes → IsBytes (drop n bytes)
IsBytes-drop n bytes h i = rw get_or-drop (h (n + i))

IsBytes-take : (n : ℕ) (bytes : List ℕ) → IsBytes bytes → IsBytes (take n bytes)
IsBytes-take n bytes h i =
    elim (cases_lt i n) [
      | inl lt ↦ rw (get_or-take n bytes i 0 lt) (h i)
      | inr le ↦ rw (get_or_past (take n bytes) i 0 (omega (arith, length-take n bytes))) (omega arith)
    ]

IsBytes-rest : (b : ℕ) (bytes : List ℕ) → IsBytes (b ∷ bytes) → IsBytes bytes
IsBytes-rest b bytes h i = h (suc i)

-- the value of a step that did not fail
pub bind_ok : {A B : Type 0} (r : Result A BatchFault) (f : A → Result B BatchFault) (y : B) → (r >>= f) ≡ Ok y → (x : A) × (r ≡ Ok x) × (f x ≡ Ok y)
bind_ok (Ok x) f y e = (x, refl, e)
bind_ok (Err d) f y e = absurd cc

-- a test that did not fail
guard_ok : {A : Type 0} (b : Bool) (d : BatchFault) (x y : A) → cond b (Err d) (Ok x) ≡ Ok y → (b ≡ false) × (x ≡ y)
guard_ok true d x y e = absurd cc
guard_ok false d x y e = (refl, cc)

test_ok : {A : Type 0} (b : Bool) (d : BatchFault) (x y : A) → cond b (Ok x) (Err d) ≡ Ok y → (b ≡ true) × (x ≡ y)
test_ok true d x y e = (refl, cc)
test_ok false d x y e = absurd cc

abbrev done : {A : Type 0} → A → Result A BatchFault
done x = Ok x

pub ok_is : {A : Type 0} (x y : A) → done x ≡ done y → x ≡ y
ok_is x y e = cc

-- what was taken off the front
pub record Takes (bytes text rest : List ℕ) : Type 0 where
  pub parts : bytes ≡ text ++ rest
  pub rest_fits : IsBytes rest

pub Takes-then : (a x b y c : List ℕ) → Takes a x b → Takes b y c → Takes a (x ++ y) c
Takes-then a x b y c p q = record { parts = p.parts ∙ ap (λ (t : List ℕ). x ++ t) q.parts ∙ sym (append_assoc x y c); rest_fits = q.rest_fits }

-- a value that was read, and what was taken off for it
pub record Taken {A : Type 0} (Fits : A → Type 0) (write : A → List ℕ) (bytes : List ℕ) (x : A × List ℕ) : Type 0 where
  pub takes : Takes bytes (write x.0) x.1
  pub fits : Fits x.0

-- How a value is written and read: what is read was written so, and what was written is read again.
pub record IsForm {A : Type 0} (Fits : A → Type 0) (write : A → List ℕ) (read : List ℕ → Read A) : Type 0 where
  pub taken : (bytes : List ℕ) (x : A × List ℕ) → IsBytes bytes → read bytes ≡ Ok x → Taken Fits write bytes x
  pub again : (a : A) (rest : List ℕ) → Fits a → read (write a ++ rest) ≡ Ok (a, rest)

-- ---- parts
-- one and then another
both-taken : {A B : Type 0} (FA : A → Type 0) (FB : B → Type 0) (wa : A → List ℕ) (wb : B → List ℕ) (ra : List ℕ → Read A) (rb : List ℕ → Read B) → IsForm FA wa ra → IsForm FB wb rb →
    (bytes : List ℕ) (x : (A × B) × List ℕ) → IsBytes bytes → both ra rb bytes ≡ Ok x → Taken (λ p. FA p.0 × FB p.1) (λ p. wa p.0 ++ wb p.1) bytes x
both-taken {A} {B} FA FB wa wb ra rb fa fb bytes x are e =
    let f = λ (p : A × List ℕ). rb p.1 >>= λ y. Ok ((p.0, y.0), y.1) in
    let a = bind_ok (ra bytes) f x e in
    let g = λ (y : B × List ℕ). done ((a.0.0, y.0), y.1) in
    let b = bind_ok (rb a.0.1) g x a.2 in
    let ta = fa.taken bytes a.0 are a.1 in
    let tb = fb.taken a.0.1 b.0 ta.takes.rest_fits b.1 in
    let pair : (A × B) × List ℕ = ((a.0.0, b.0.0), b.0.1) in
    let is : Taken (λ p. FA p.0 × FB p.1) (λ p. wa p.0 ++ wb p.1) bytes pair =
    record { takes = Takes-then bytes (wa a.0.0) a.0.1 (wb b.0.0) b.0.1 ta.takes tb.takes; fits = (ta.fits, tb.fits) } in
    subst (λ y. Taken (λ p. FA p.0 × FB p.1) (λ p. wa p.0 ++ wb p.1) bytes y) (ok_is pair x b.2) is

both-again : {A B : Type 0} (ra : List ℕ → Read A) (rb : List ℕ → Read B) (a : A) (b : B) (bytes mid rest : List ℕ) → ra bytes ≡ Ok (a, mid) → rb mid ≡ Ok (b, rest) → both ra rb bytes ≡ Ok ((a, b), rest)
both-again ra rb a b bytes mid rest one two = rw (one, two) refl

pub both-form : {A B : Type 0} {FA : A → Type 0} {FB : B → Type 0} {wa : A → List ℕ} {wb : B → List ℕ} {ra : List ℕ → Read A} {rb : List ℕ → Read B} → IsForm FA wa ra → IsForm FB wb rb →
    IsForm (λ (p : A × B). FA p.0 × FB p.1) (λ (p : A × B). wa p.0 ++ wb p.1) (both ra rb)
both-form {FA = FA} {FB = FB} {wa = wa} {wb = wb} {ra = ra} {rb = rb} fa fb = record {
  taken = both-taken FA FB wa wb ra rb fa fb;
  again = λ p rest fits.
      both-again ra rb p.0 p.1 ((wa p.0 ++ wb p.1) ++ rest) (wb p.1 ++ rest) rest
      (ap ra (append_assoc (wa p.0) (wb p.1) rest) ∙ fa.again p.0 (wb p.1 ++ rest) fits.0) (fb.again p.1 rest fits.1);
}

-- What is made of it.
made-taken : {A B : Type 0} (F : A → Type 0) (G : B → Type 0) (w : A → List ℕ) (v : B → List ℕ) (r : List ℕ → Read A) (make : A → B) → ((a : A) → (v (make a) ≡ w a) × (F a → G (make a))) → IsForm F w r →
    (bytes : List ℕ) (x : B × List ℕ) → IsBytes bytes → made make r bytes ≡ Ok x → Taken G v bytes x
made-taken {A} {B} F G w v r make same form bytes x are e =
    let a = bind_ok (r bytes) (λ (p : A × List ℕ). done (make p.0, p.1)) x e in
    let t = form.taken bytes a.0 are a.1 in
    let value : B × List ℕ = (make a.0.0, a.0.1) in
    let is : Taken G v bytes value =
    record { takes = subst (λ (l : List ℕ). Takes bytes l a.0.1) (sym (same a.0.0).0) t.takes; fits = (same a.0.0).1 t.fits } in
    subst (λ y. Taken G v bytes y) (ok_is value x a.2) is

pub made-again : {A B : Type 0} (r : List ℕ → Read A) (make : A → B) (a : A) (bytes rest : List ℕ) → r bytes ≡ Ok (a, rest) → made make r bytes ≡ Ok (make a, rest)
made-again r make a bytes rest one = rw one refl

pub made-form : {A B : Type 0} {F : A → Type 0} {G : B → Type 0} {w : A → List ℕ} {v : B → List ℕ} {r : List ℕ → Read A} (make : A → B) (back : B → A) →
    ((a : A) → (v (make a) ≡ w a) × (F a → G (make a))) → ((b : B) → (make (back b) ≡ b) × (v b ≡ w (back b)) × (G b → F (back b))) → IsForm F w r → IsForm G v (made make r)
made-form {B = B} {F = F} {G = G} {w = w} {v = v} {r = r} make back same other form = record {
  taken = made-taken F G w v r make same form;
  again = λ b rest fits.
      made-again r make (back b) (v b ++ rest) rest (ap (λ (l : List ℕ). r (l ++ rest)) (other b).1 ∙ form.again (back b) rest ((other b).2 fits))
      ∙ ap (λ (y : B). done (y, rest)) (other b).0;
}

-- ---- numbers
pub record IsWide (w : Width) (limit : ℕ) : Type 0 where
  pub len : (n : ℕ) → length (to_be_bytes w n) ≡ byte_len w
  pub back : (bytes : List ℕ) → length bytes ≡ byte_len w → IsBytes bytes → to_be_bytes w (from_be_bytes w bytes) ≡ bytes
  pub again : (n : ℕ) → n < limit → from_be_bytes w (to_be_bytes w n) ≡ n
  pub below : (bytes : List ℕ) → IsBytes bytes → from_be_bytes w bytes < limit

wide16 : IsWide w16 (2 ^ 16)
wide16 = record {
  len = λ n. refl;
  back = λ bytes len fits. be_bytes_2 bytes _ len fits refl;
  again = λ n lt. from_be_bytes-to_be_bytes_2 n lt;
  below = λ bytes fits. omega (arith, fits 0, fits 1);
}

wide32 : IsWide w32 (2 ^ 32)
wide32 = record {
  len = λ n. refl;
  back = λ bytes len fits. be_bytes_4 bytes _ len fits refl;
  again = λ n lt. from_be_bytes-to_be_bytes_4 n lt;
  below = λ bytes fits. omega (arith, fits 0, fits 1, fits 2, fits 3);
}

wide64 : IsWide w64 (2 ^ 64)
wide64 = record {
  len = λ n. refl;
  back = λ bytes len fits. be_bytes_8 bytes _ len fits refl;
  again = λ n lt. from_be_bytes-to_be_bytes_8 n lt;
  below = λ bytes fits. omega (arith, fits 0, fits 1, fits 2, fits 3, fits 4, fits 5, fits 6, fits 7);
}

number-taken : (w : Width) (limit : ℕ) (wide : IsWide w limit) (bytes : List ℕ) (x : ℕ × List ℕ) → IsBytes bytes → number_at w bytes ≡ Ok x → Taken (λ n. n < limit) (λ n. to_be_bytes w n) bytes x
unfolding number_at
number-taken w limit wide bytes x fits e =
    let g = guard_ok (ltb (length bytes) (byte_len w)) Short (from_be_bytes w (take (byte_len w) bytes), drop (byte_len w) bytes) x e in
    let long : byte_len w ≤ length bytes = ltb-false _ _ g.0 in
    let front : List ℕ = take (byte_len w) bytes in
    let fine : IsBytes front = IsBytes-take (byte_len w) bytes fits in
    let n : ℕ = from_be_bytes w front in
    let same : to_be_bytes w n ≡ front = wide.back front (omega (arith, length-take (byte_len w) bytes)) fine in
    let is : Taken (λ n. n < limit) (λ n. to_be_bytes w n) bytes (n, drop (byte_len w) bytes) = record {
      takes = record { parts = sym (ap (λ (l : List ℕ). l ++ drop (byte_len w) bytes) same ∙ take-append-drop (byte_len w) bytes); rest_fits = IsBytes-drop (byte_len w) bytes fits };
      fits = wide.below front fine;
    } in
    subst (λ y. Taken (λ n. n < limit) (λ n. to_be_bytes w n) bytes y) g.1 is

number-again : (w : Width) (limit : ℕ) (wide : IsWide w limit) (n : ℕ) (rest : List ℕ) → n < limit → number_at w (to_be_bytes w n ++ rest) ≡ Ok (n, rest)
unfolding number_at
number-again w limit wide n rest lt =
    let len = wide.len n in
    let long : ltb (length (to_be_bytes w n ++ rest)) (byte_len w) ≡ false = le-ltb _ _ (omega (arith, length-append (to_be_bytes w n) rest)) in
    rw (long, take_at (to_be_bytes w n) rest (byte_len w) len, drop_at (to_be_bytes w n) rest (byte_len w) len, wide.again n lt) refl

number-form : (w : Width) (limit : ℕ) → IsWide w limit → IsForm (λ n. n < limit) (λ n. to_be_bytes w n) (number_at w)
number-form w limit wide = record { taken = number-taken w limit wide; again = number-again w limit wide }

pub form16 : IsForm (λ n. n < 2 ^ 16) (λ n. to_be_bytes w16 n) (number_at w16)
form16 = number-form w16 (2 ^ 16) wide16

pub form32 : IsForm (λ n. n < 2 ^ 32) (λ n. to_be_bytes w32 n) (number_at w32)
form32 = number-form w32 (2 ^ 32) wide32

pub form64 : IsForm (λ n. n < 2 ^ 64) (λ n. to_be_bytes w64 n) (number_at w64)
form64 = number-form w64 (2 ^ 64) wide64

-- ---- octets
octet-taken : (bytes : List ℕ) (x : ℕ × List ℕ) → IsBytes bytes → octet_at bytes ≡ Ok x → Taken (λ n. n < 2 ^ 8) octet bytes x
unfolding octet_at
octet-taken [] x fits e = absurd cc
octet-taken (n ∷ rest) x fits e =
    let is : Taken (λ n. n < 2 ^ 8) octet (n ∷ rest) (n, rest) = record { takes = record { parts = refl; rest_fits = IsBytes-rest n rest fits }; fits = fits 0 } in
    subst (λ y. Taken (λ n. n < 2 ^ 8) octet (n ∷ rest) y) (ok_is (n, rest) x e) is

pub octet-form : IsForm (λ n. n < 2 ^ 8) octet octet_at
unfolding octet_at
octet-form = record { taken = octet-taken; again = λ n rest fits. refl }

tested-taken : (test : ℕ → Bool) (F : ℕ → Type 0) → ((n : ℕ) → test n ≡ true → F n) → (bytes : List ℕ) (x : ℕ × List ℕ) → IsBytes bytes → tested_at test bytes ≡ Ok x → Taken F octet bytes x
unfolding tested_at
tested-taken test F means bytes x fits e =
    let o = bind_ok (octet_at bytes) (λ (n : ℕ × List ℕ). cond (test n.0) (Ok n) (Err Unknown)) x e in
    let t = test_ok (test o.0.0) Unknown o.0 x o.2 in
    let is : Taken F octet bytes o.0 = record { takes = (octet-taken bytes o.0 fits o.1).takes; fits = means o.0.0 t.0 } in
    subst (λ y. Taken F octet bytes y) t.1 is

tested-again : (test : ℕ → Bool) (n : ℕ) (rest : List ℕ) → test n ≡ true → tested_at test (octet n ++ rest) ≡ Ok (n, rest)
unfolding tested_at octet_at
tested-again test n rest is = rw is refl

pub tested-form : (test : ℕ → Bool) (F : ℕ → Type 0) → ((n : ℕ) → test n ≡ true → F n) → ((n : ℕ) → F n → test n ≡ true) → IsForm F octet (tested_at test)
tested-form test F means is = record { taken = tested-taken test F means; again = λ n rest fits. tested-again test n rest (is n fits) }

-- one of these, whose codes are their indices
pub record AreCoded {A : Type 0} (all : List A) (code : A → ℕ) : Type 0 where
  pub there : (a : A) → slice_get all (code a) ≡ Some a
  pub only : (n : ℕ) (a : A) → slice_get all n ≡ Some a → code a ≡ n

known_ok : {A : Type 0} (o : Option A) (rest : List ℕ) (x : A × List ℕ) → known o rest ≡ Ok x → (o ≡ Some x.0) × (rest ≡ x.1)
known_ok None rest x e = absurd cc
known_ok (Some a) rest x e = let p : (a, rest) ≡ x = ok_is (a, rest) x e in (ap (λ (q : _). Some q.0) p, ap (λ (q : _). q.1) p)

choice-taken : {A : Type 0} (all : List A) (code : A → ℕ) → AreCoded all code → (bytes : List ℕ) (x : A × List ℕ) → IsBytes bytes → choice_at all bytes ≡ Ok x → Taken (λ a. Unit {0}) (λ a. octet (code a)) bytes x
unfolding choice_at
choice-taken all code coded bytes x fits e =
    let o = bind_ok (octet_at bytes) (λ (n : ℕ × List ℕ). known (slice_get all n.0) n.1) x e in
    let k = known_ok (slice_get all o.0.0) o.0.1 x o.2 in
    let t : Takes bytes (octet o.0.0) o.0.1 = (octet-taken bytes o.0 fits o.1).takes in
    record { takes = subst (λ (l : List ℕ). Takes bytes (octet (code x.0)) l) k.1 (subst (λ (n : ℕ). Takes bytes (octet n) o.0.1) (sym (coded.only o.0.0 x.0 k.0)) t); fits = tt }

choice-again : {A : Type 0} (all : List A) (code : A → ℕ) → AreCoded all code → (a : A) (rest : List ℕ) → choice_at all (octet (code a) ++ rest) ≡ Ok (a, rest)
unfolding choice_at octet_at
choice-again all code coded a rest = ap (λ (o : Option _). known o rest) (coded.there a)

pub choice-form : {A : Type 0} (all : List A) (code : A → ℕ) → AreCoded all code → IsForm (λ a. Unit {0}) (λ a. octet (code a)) (choice_at all)
choice-form all code coded = record { taken = choice-taken all code coded; again = λ a rest fits. choice-again all code coded a rest }

-- ---- names
name-taken : (bytes : List ℕ) (x : List ℕ × List ℕ) → IsBytes bytes → name_at bytes ≡ Ok x → Taken FitsName name_octets bytes x
unfolding name_at
name-taken bytes x fits e =
    let b = bind_ok (number_at w64 bytes) (λ (n : ℕ × List ℕ). cond (ltb (length n.1) n.0) (Err Short) (Ok (take n.0 n.1, drop n.0 n.1))) x e in
    let n = b.0 in
    let t = form64.taken bytes n fits b.1 in
    let g = guard_ok (ltb (length n.1) n.0) Short (take n.0 n.1, drop n.0 n.1) x b.2 in
    let long : n.0 ≤ length n.1 = ltb-false _ _ g.0 in
    let len : length (take n.0 n.1) ≡ n.0 = omega (arith, length-take n.0 n.1) in
    let second : Takes n.1 (take n.0 n.1) (drop n.0 n.1) = record { parts = sym (take-append-drop n.0 n.1); rest_fits = IsBytes-drop n.0 n.1 t.takes.rest_fits } in
    let two = Takes-then bytes (to_be_bytes w64 n.0) n.1 (take n.0 n.1) (drop n.0 n.1) t.takes second in
    let whole : Takes bytes (name_octets (take n.0 n.1)) (drop n.0 n.1) = subst (λ (k : ℕ). Takes bytes (to_be_bytes w64 k ++ take n.0 n.1) (drop n.0 n.1)) (sym len) two in
    let is : Taken FitsName name_octets bytes (take n.0 n.1, drop n.0 n.1) = record { takes = whole; fits = omega (arith, t.fits) } in
    subst (λ y. Taken FitsName name_octets bytes y) g.1 is

name-again : (name rest : List ℕ) → FitsName name → name_at (name_octets name ++ rest) ≡ Ok (name, rest)
unfolding name_at
name-again name rest lt =
    let long : ltb (length (name ++ rest)) (length name) ≡ false = le-ltb _ _ (omega (arith, length-append name rest)) in
    rw (ap (number_at w64) (append_assoc (to_be_bytes w64 (length name)) name rest) ∙ number-again w64 (2 ^ 64) wide64 (length name) (name ++ rest) lt, long, take_at name rest (length name) refl, drop_at name rest (length name) refl) refl

pub name-form : IsForm FitsName name_octets name_at
name-form = record { taken = name-taken; again = name-again }

-- ---- lists
many-taken : {A : Type 0} (F : A → Type 0) (w : A → List ℕ) (r : List ℕ → Read A) → IsForm F w r → (n : ℕ) (bytes : List ℕ) (x : List A × List ℕ) → IsBytes bytes → many_at r n bytes ≡ Ok x →
    Taken (λ xs. (length xs ≡ n) × AllByRecursion F xs) (λ xs. flat_map w xs) bytes x
unfolding many_at
many-taken F w r form zero bytes x fits e =
    let is : Taken (λ xs. (length xs ≡ 0) × AllByRecursion F xs) (λ xs. flat_map w xs) bytes ([], bytes) = record { takes = record { parts = refl; rest_fits = fits }; fits = (refl, tt) } in
    subst (λ y. Taken (λ xs. (length xs ≡ 0) × AllByRecursion F xs) (λ xs. flat_map w xs) bytes y) (ok_is ([], bytes) x e) is
many-taken {A} F w r form (suc n) bytes x fits e =
    let a = bind_ok (r bytes) (λ (p : A × List ℕ). many_at r n p.1 >>= λ xs. Ok (p.0 ∷ xs.0, xs.1)) x e in
    let ta = form.taken bytes a.0 fits a.1 in
    let b = bind_ok (many_at r n a.0.1) (λ (xs : List A × List ℕ). done (a.0.0 ∷ xs.0, xs.1)) x a.2 in
    let tb = many-taken F w r form n a.0.1 b.0 ta.takes.rest_fits b.1 in
    let made_of : List A × List ℕ = (a.0.0 ∷ b.0.0, b.0.1) in
    let is : Taken (λ xs. (length xs ≡ suc n) × AllByRecursion F xs) (λ xs. flat_map w xs) bytes made_of = record {
      takes = Takes-then bytes (w a.0.0) a.0.1 (flat_map w b.0.0) b.0.1 ta.takes tb.takes;
      fits = (ap suc tb.fits.0, (ta.fits, tb.fits.1));
    } in
    subst (λ y. Taken (λ xs. (length xs ≡ suc n) × AllByRecursion F xs) (λ xs. flat_map w xs) bytes y) (ok_is made_of x b.2) is

many-again : {A : Type 0} (F : A → Type 0) (w : A → List ℕ) (r : List ℕ → Read A) → IsForm F w r → (xs : List A) (rest : List ℕ) → AllByRecursion F xs → many_at r (length xs) (flat_map w xs ++ rest) ≡ Ok (xs, rest)
unfolding many_at
many-again F w r form [] rest fits = refl
many-again F w r form (x ∷ xs) rest fits =
    let one = ap r (append_assoc (w x) (flat_map w xs) rest) ∙ form.again x (flat_map w xs ++ rest) fits.0 in
    rw (one, many-again F w r form xs rest fits.1) refl

pub list-taken : {A : Type 0} (F : A → Type 0) (w : A → List ℕ) (r : List ℕ → Read A) → IsForm F w r → (bytes : List ℕ) (x : List A × List ℕ) → IsBytes bytes → (number_at w64 bytes >>= λ n. many_at r n.0 n.1) ≡ Ok x →
    Taken (λ xs. (length xs < 2 ^ 64) × AllByRecursion F xs) (list_octets w) bytes x
list-taken F w r form bytes x fits e =
    let b = bind_ok (number_at w64 bytes) (λ (n : ℕ × List ℕ). many_at r n.0 n.1) x e in
    let t = form64.taken bytes b.0 fits b.1 in
    let m = many-taken F w r form b.0.0 b.0.1 x t.takes.rest_fits b.2 in
    let two = Takes-then bytes (to_be_bytes w64 b.0.0) b.0.1 (flat_map w x.0) x.1 t.takes m.takes in
    record { takes = subst (λ (k : ℕ). Takes bytes (to_be_bytes w64 k ++ flat_map w x.0) x.1) (sym m.fits.0) two; fits = (omega (arith, t.fits, m.fits.0), m.fits.1) }

pub list-again : {A : Type 0} (F : A → Type 0) (w : A → List ℕ) (r : List ℕ → Read A) → IsForm F w r → (xs : List A) (rest : List ℕ) → (length xs < 2 ^ 64) × AllByRecursion F xs → (number_at w64 (list_octets w xs ++ rest) >>= λ n. many_at r n.0 n.1) ≡ Ok (xs, rest)
list-again F w r form xs rest fits =
    let one = ap (number_at w64) (append_assoc (to_be_bytes w64 (length xs)) (flat_map w xs) rest) ∙ number-again w64 (2 ^ 64) wide64 (length xs) (flat_map w xs ++ rest) fits.0 in
    rw one (many-again F w r form xs rest fits.1)

-- ---- reading one after another, as a loop does
-- what was read before, and what is still read
abbrev pub with_front : {A : Type 0} → List A → Read (List A) → Read (List A)
with_front front read = read >>= λ x. Ok (front ++ x.0, x.1)

regroup : {A : Type 0} (front : List A) (a : A) (read : Read (List A)) → with_front front (read >>= λ x. Ok (a ∷ x.0, x.1)) ≡ with_front (front ++ a ∷ []) read
regroup {A} front a (Ok x) = ap (λ (xs : List A). done (xs, x.1)) (simp append_assoc)
regroup front a (Err f) = refl

pub goes_on : {A : Type 0} (r : List ℕ → Read A) (front : List A) (count i : ℕ) (bytes : List ℕ) (a : A) (after : List ℕ) (total : Read (List A)) → i < count → r bytes ≡ Ok (a, after) →
    with_front front (many_at r (count - i) bytes) ≡ total → with_front (front ++ a ∷ []) (many_at r (count - (i + 1)) after) ≡ total
unfolding many_at
goes_on r front count i bytes a after total lt h so_far =
    let k : count - i ≡ suc (count - (i + 1)) = omega arith in
    let one : with_front front (many_at r (count - i) bytes) ≡ with_front (front ++ a ∷ []) (many_at r (count - (i + 1)) after) = rw (k, h) (regroup front a (many_at r (count - (i + 1)) after)) in
    sym one ∙ so_far

pub ends : {A : Type 0} (r : List ℕ → Read A) (e : ReadError) (front : List A) (count i : ℕ) (bytes : List ℕ) (total : Read (List A)) → i < count → Fails e (r bytes) →
    with_front front (many_at r (count - i) bytes) ≡ total → Fails e total
unfolding many_at
ends r errors.Memory front count i bytes total lt h so_far = tt
ends {A} r (errors.Fault f) front count i bytes total lt h so_far =
    let k : count - i ≡ suc (count - (i + 1)) = omega arith in
    let failed : Read (List A) = Err f in
    let one : with_front front (many_at r (count - i) bytes) ≡ failed = rw (k, h) refl in
    sym so_far ∙ one

pub is_done : {A : Type 0} (r : List ℕ → Read A) (front : List A) (count i : ℕ) (bytes : List ℕ) (total : Read (List A)) → count ≤ i → with_front front (many_at r (count - i) bytes) ≡ total → total ≡ Ok (front, bytes)
unfolding many_at
is_done {A} r front count i bytes total le so_far =
    let k : count - i ≡ 0 = omega arith in
    let one : with_front front (many_at r (count - i) bytes) ≡ done (front, bytes) = rw k (ap (λ (xs : List A). done (xs, bytes)) (append-nil front)) in
    sym so_far ∙ one
