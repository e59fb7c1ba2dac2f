-- Calls and frames that more come after.
use Rattle.std.proofs.Common.{◌≡◌, ℕ, List, [], ◌∷◌, ◌++◌, refl, sym, ap, subst, ◌∙◌, append_assoc}
use Rattle.aos_frame.specs.declared.config.Lane.{Lane}
use Rattle.link_stack.specs.AnyOrder.{ReceivesAll}
use Rattle.link_stack.specs.Downward.{DownState}
use Rattle.link_stack.specs.EndToEnd.{DoesAll, DownCall, made_by, made_of, put_by, puts_of}
use Rattle.link_stack.specs.Upward.{UpState}

pub does_append : (a b : List DownCall) (x y z : DownState) → DoesAll a x y → DoesAll b y z → DoesAll (a ++ b) x z
does_append [] b x y z same all = subst (λ (d : DownState). DoesAll b d z) same all
does_append (call ∷ a) b x y z (mid, one, rest) all = (mid, one, does_append a b mid y z rest all)

pub receives_append : (a b : List (List ℕ)) (x y z : UpState) (p q r : List (List ℕ)) → ReceivesAll a x y p q → ReceivesAll b y z q r → ReceivesAll (a ++ b) x z p r
receives_append [] b x y z p q r (same, none) all = subst (λ (u : UpState). ReceivesAll b u z p r) same (subst (λ (l : List (List ℕ)). ReceivesAll b y z l r) none all)
receives_append (frame ∷ a) b x y z p q r (mid, between, one, rest) all = (mid, between, one, receives_append a b mid y z between q r rest all)

pub puts_append : (lane : Lane) (a b : List DownCall) → puts_of lane (a ++ b) ≡ puts_of lane a ++ puts_of lane b
puts_append lane [] b = refl
puts_append lane (call ∷ a) b = ap (λ l. put_by lane call ++ l) (puts_append lane a b) ∙ sym (append_assoc (put_by lane call) (puts_of lane a) (puts_of lane b))

pub made_append : (lane : Lane) (a b : List DownCall) → made_of lane (a ++ b) ≡ made_of lane a ++ made_of lane b
made_append lane [] b = refl
made_append lane (call ∷ a) b = ap (λ l. made_by lane call ++ l) (made_append lane a b) ∙ sym (append_assoc (made_by lane call) (made_of lane a) (made_of lane b))
