-- Why something is denied.
use Rattle.std.proofs.Common.{◌≡◌, ℕ, List, Result, Ok, Err, Some, IfErr, sym, subst, ◌∙◌, inl}
use Rattle.serde_json.specs.Data.{Data}
use Rattle.serde_json.specs.Read.{read}
use Rattle.http.specs.declared.request.Request.{Request}
use Rattle.http.specs.Request.{body_of}
use Rattle.cfdp_console.specs.Asking.{IsPost, PutOf, Puts, path_in}
use Rattle.cfdp_console.specs.Denying.{IsDenied, IsNoCommand, IsNoPut, IsNotOf, SaysNoPut}
use Rattle.cfdp_console.specs.declared.deed.Deed.{Deed}
use Rattle.cfdp_console.specs.declared.deed.Deed.TheVariants as deed
use Rattle.cfdp_console.specs.declared.denial.Denial.{Denial}
use Rattle.cfdp_console.specs.declared.denial.Denial.TheVariants as denial
use Rattle.cfdp_console.specs.declared.guard.Guard.{Guard}

-- a path that is none of each deed's
pub of_none : (path : List ℕ) → IsNotOf deed.Put path → IsNotOf deed.Cancel path
    → IsNotOf deed.Suspend path → IsNotOf deed.Resume path → IsNotOf deed.Freeze path
    → IsNotOf deed.Thaw path → (it : Deed) → IsNotOf it path
of_none path a b c d e f deed.Put = a
of_none path a b c d e f deed.Cancel = b
of_none path a b c d e f deed.Suspend = c
of_none path a b c d e f deed.Resume = d
of_none path a b c d e f deed.Freeze = e
of_none path a b c d e f deed.Thaw = f

some_is : {X : Type 0} {a b : X} → Some a ≡ Some b → a ≡ b
some_is same = cc

-- what was read of a body says what it puts
no_put : (body : List ℕ) (wanted : Data) → read body ≡ Some wanted → (why : Denial)
    → SaysNoPut wanted why → IsNoPut body why
no_put body wanted is denial.BadBody says = λ line p.
    says line (subst (λ w. PutOf w line) (some_is (sym p.2 ∙ is)) p.3)
no_put body wanted is denial.NoMemory says = tt
no_put body wanted is denial.NotFound says = says
no_put body wanted is denial.WrongMethod says = says
no_put body wanted is denial.Foreign says = says
no_put body wanted is denial.NoToken says = says

pub err_put : {X : Type 0} (body : List ℕ) (wanted : Data) → read body ≡ Some wanted
    → (r : Result X Denial) → IfErr r (SaysNoPut wanted) → IfErr r (IsNoPut body)
err_put body wanted is (Ok x) h = tt
err_put body wanted is (Err why) h = no_put body wanted is why h

-- what is no command is denied as one
pub denied : (guard : Guard) (request : Request (List ℕ)) (path body : List ℕ) (why : Denial)
    → path ≡ path_in request → body ≡ body_of request → IsPost request
    → IsNoCommand path body why → IsDenied guard request why
denied guard request path body denial.NotFound p b post none =
    inl (post, λ it. subst (λ (q : List ℕ). IsNotOf it q) p (none it))
denied guard request path body denial.BadBody p b post none =
    (post, (sym p ∙ none.0, λ line. subst (λ (o : List ℕ). Puts o line → ⊥) b (none.1 line)))
denied guard request path body denial.NoMemory p b post none = tt
denied guard request path body denial.WrongMethod p b post none = absurd none
denied guard request path body denial.Foreign p b post none = absurd none
denied guard request path body denial.NoToken p b post none = absurd none
