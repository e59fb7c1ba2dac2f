-- Worked rows: what some lines ask.
use Rattle.std.proofs.Common.{◌≡◌, ℕ, List, [], ◌∷◌, true, false, refl, Some, None}
use Rattle.std.specs.Prelude.{codes}
use Rattle.cfdp_entity.specs.declared.request.Request.TheVariants as request
use Rattle.percent_encoding.specs.Percent.{percent_decode}
use Rattle.cfdp_report.specs.Words.{onto_first, parts}
use Rattle.cfdp_control.specs.Asking.{Sends, Changes, Stops, StopsNow, Freezes, Lists, Rekeys, asked_by, named_by}

put : asked_by (codes "put a.txt b.txt") ≡ Some (Sends false (codes "a.txt") (codes "b.txt"))
unfolding parts onto_first
put = refl

put_first : asked_by (codes "put --first a b") ≡ Some (Sends true (codes "a") (codes "b"))
unfolding parts onto_first
put_first = refl

-- A space is written as the report prints it; a `%` without two digits after it stands for itself.
spelled : named_by (codes "a%20b%%3D%2") ≡ codes "a b%=%2"
unfolding percent_decode
spelled = refl

-- The file `--first` itself is named after the option.
named_first : asked_by (codes "put --first --first b") ≡ Some (Sends true (codes "--first") (codes "b"))
unfolding parts onto_first
named_first = refl

put_nothing : asked_by (codes "put --first a") ≡ None
unfolding parts onto_first
put_nothing = refl

two_spaces : asked_by (codes "put a  b") ≡ None
unfolding parts onto_first
two_spaces = refl

cancel : asked_by (codes "cancel 1:07") ≡ Some (Changes (record { source = 1; number = 7 }) request.Cancel)
unfolding parts onto_first
cancel = refl

prompt : asked_by (codes "prompt 1:7 keep") ≡ Some (Changes (record { source = 1; number = 7 }) (request.Prompt true))
unfolding parts onto_first
prompt = refl

no_prompt : asked_by (codes "prompt 1:7 both") ≡ None
unfolding parts onto_first
no_prompt = refl

stop : asked_by (codes "stop") ≡ Some Stops
unfolding parts onto_first
stop = refl

stop_now : asked_by (codes "stop now") ≡ Some StopsNow
unfolding parts onto_first
stop_now = refl

stop_later : asked_by (codes "stop later") ≡ None
unfolding parts onto_first
stop_later = refl

freeze : asked_by (codes "freeze") ≡ Some Freezes
unfolding parts onto_first
freeze = refl

too_many : asked_by (codes "list all") ≡ None
unfolding parts onto_first
too_many = refl

lists : asked_by (codes "list") ≡ Some Lists
unfolding parts onto_first
lists = refl

rekey : asked_by (codes "rekey") ≡ Some Rekeys
unfolding parts onto_first
rekey = refl

unknown : asked_by (codes "pause 1:7") ≡ None
unfolding parts onto_first
unknown = refl

nothing : asked_by [] ≡ None
unfolding parts onto_first
nothing = refl
