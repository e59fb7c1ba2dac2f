-- Octets that are refused change nothing of what is given of others.
use Rattle.std.proofs.Common.{◌≡◌, ◌≢◌, ℕ, Option, Some, None, List, [], ◌∷◌, ◌++◌, refl, sym, ap, ◌∙◌}
use Rattle.aos_frame.specs.LinkFields.{bare_in}
use Rattle.frame_security.specs.declared.opening.FrameRefusal.{FrameRefusal}
use Rattle.frame_security.specs.declared.opening.Refused.{Refused}
use Rattle.frame_security.specs.Frames.{frame_in, number_in}
use Rattle.frame_security.specs.Opening.{OpenerState, after, after_by, counted, refusal}
use Rattle.frame_security.specs.Lives.{after_all, given, given_by}

-- what is given doesn't hang on counts
counts_change_nothing : (o : OpenerState) (counts : Refused) (came : List (List ℕ)) → given (record o { refused = counts }) came ≡ given o came
counts_change_nothing o counts [] = refl
counts_change_nothing o counts (frame ∷ came) =
    ap (λ l. given_by (refusal o frame) (frame_in o.security (bare_in o.security.fields frame)) ++ l) (by (λ p c. counts_change_nothing p c came) (refusal o frame)) where
      by : ((p : OpenerState) (c : Refused) → given (record p { refused = c }) came ≡ given p came) → (r : Option FrameRefusal) →
          given (after_by r (number_in (bare_in o.security.fields frame)) (record o { refused = counts })) came ≡ given (after_by r (number_in (bare_in o.security.fields frame)) o) came
      by same None = same (record o { last = number_in (bare_in o.security.fields frame) }) counts
      by same (Some cause) = same o (counted cause counts) ∙ sym (same o (counted cause o.refused))

pub refused_change_nothing : (o : OpenerState) (before behind : List (List ℕ)) (frame : List ℕ) → refusal (after_all o before) frame ≢ None →
    given o (before ++ frame ∷ behind) ≡ given o (before ++ behind)
refused_change_nothing o [] behind frame refused = by (refusal o frame) refl where
  by : (r : Option FrameRefusal) → refusal o frame ≡ r →
      given_by r (frame_in o.security (bare_in o.security.fields frame)) ++ given (after_by r (number_in (bare_in o.security.fields frame)) o) behind ≡ given o behind
  by None e = absurd (refused e)
  by (Some cause) e = counts_change_nothing o (counted cause o.refused) behind
refused_change_nothing o (one ∷ before) behind frame refused =
    ap (λ l. given_by (refusal o one) (frame_in o.security (bare_in o.security.fields one)) ++ l) (refused_change_nothing (after o one) before behind frame refused)
