-- Worked rows: what some lines and scripts mean.
use Rattle.std.proofs.Common.{◌≡◌, ℕ, List, [], ◌∷◌, ◌++◌, true, refl, Some, None}
use Rattle.std.specs.Prelude.{codes}
use Rattle.aos_frame.specs.declared.config.Lane.TheVariants.{Directives, Data}
use Rattle.station_pair.specs.declared.side.Side.TheVariants.{One, Two}
use Rattle.link_sim.specs.declared.event.Event.TheVariants as event
use Rattle.cfdp_script.specs.declared.script.command.Line.TheVariants as line
use Rattle.cfdp_script.specs.declared.script.command.Contents.TheVariants.{Text, Fill}
use Rattle.cfdp_script.specs.declared.script.command.Command.TheVariants.{Once, Repeat, First, Damage, Settle}
use Rattle.cfdp_script.specs.declared.script.command.Fate.TheVariants.{Arrives, IsLost}
use Rattle.cfdp_report.specs.declared.settings.table.Setting.TheVariants as key
use Rattle.cfdp_report.specs.Words.{onto_first, parts}
use Rattle.cfdp_script.specs.Script.Lines.{line_of, steps_of, settings_of, last_set, first_misread}

put : line_of (codes "put 1 a.txt b.txt") ≡ Some (line.Command (Once (event.Put One (codes "a.txt") (codes "b.txt"))))
unfolding parts onto_first
put = refl

no_name : line_of (codes "put 1  b.txt") ≡ None
unfolding parts onto_first
no_name = refl

keep : line_of (codes "prompt 2 1:07 keep") ≡ Some (line.Command (Once (event.Prompt Two (record { source = 1; number = 7 }) true)))
unfolding parts onto_first
keep = refl

tick : line_of (codes "tick 2 10") ≡ Some (line.Command (Once (event.Tick Two 10)))
unfolding parts onto_first
tick = refl

once : line_of (codes "deliver 1") ≡ Some (line.Command (First Arrives One 1))
unfolding parts onto_first
once = refl

ten : line_of (codes "strike 2 10") ≡ Some (line.Command (First IsLost Two 10))
unfolding parts onto_first
ten = refl

once_of_lane : line_of (codes "strike 1 dir") ≡ Some (line.Command (Repeat (event.Strike One Directives) 1))
unfolding parts onto_first
once_of_lane = refl

ten_of_lane : line_of (codes "deliver 2 data 10") ≡ Some (line.Command (Repeat (event.Deliver Two Data) 10))
unfolding parts onto_first
ten_of_lane = refl

lane_last : line_of (codes "deliver 2 10 data") ≡ None
unfolding parts onto_first
lane_last = refl

other_lane : line_of (codes "deliver 1 dirs") ≡ None
unfolding parts onto_first
other_lane = refl

damaged : line_of (codes "damage 1 10 fF") ≡ Some (line.Command (Damage One None (record { at = 10; octet = 255 })))
unfolding parts onto_first
damaged = refl

damaged_of_lane : line_of (codes "damage 2 data 0 00") ≡ Some (line.Command (Damage Two (Some Data) (record { at = 0; octet = 0 })))
unfolding parts onto_first
damaged_of_lane = refl

not_damaged : line_of (codes "damage 2 data 00") ≡ None
unfolding parts onto_first
not_damaged = refl

settle : line_of (codes "settle") ≡ Some (line.Command Settle)
unfolding parts onto_first
settle = refl

space : line_of (codes "settle ") ≡ None
unfolding parts onto_first
space = refl

file : line_of (codes "file 2 a b  #c ") ≡ Some (line.File (record { at = Two; name = codes "a"; contents = Text (codes "b  #c ") }))
unfolding parts onto_first
file = refl

no_text : line_of (codes "file 1 a ") ≡ None
unfolding parts onto_first
no_text = refl

fill : line_of (codes "fill 1 a 1048576 aF") ≡ Some (line.File (record { at = One; name = codes "a"; contents = Fill 1048576 175 }))
unfolding parts onto_first
fill = refl

too_long : line_of (codes "fill 1 a 1048577 00") ≡ None
unfolding parts onto_first
too_long = refl

set : line_of (codes "set nak_time 18446744073709551615") ≡ Some (line.Set key.NakTime 18446744073709551615)
unfolding parts onto_first
set = refl

too_great : line_of (codes "set nak_time 18446744073709551616") ≡ None
unfolding parts onto_first
too_great = refl

station : line_of (codes "poll 3") ≡ None
unfolding parts onto_first
station = refl

id : line_of (codes "cancel 1 1:1:1") ≡ None
unfolding parts onto_first
id = refl

-- a comment, an empty line, a `set`, two commands and a `set` that comes too late
abbrev text : List ℕ
text = codes "# settle" ++ 10 ∷ 10 ∷ codes "set zone 99" ++ 10 ∷ codes "poll 1" ++ 10 ∷ codes "settle" ++ 10 ∷ codes "set zone 1"

steps : steps_of text ≡ record { line = 4; command = Once (event.Poll One) } ∷ record { line = 5; command = Settle } ∷ []
unfolding steps_of parts onto_first
steps = refl

zone : (settings_of text).zone ≡ 99
unfolding settings_of parts onto_first
zone = refl

segment : (settings_of text).segment ≡ 1024
unfolding settings_of parts onto_first
segment = refl

last : last_set text ≡ 3
unfolding last_set parts onto_first
last = refl

bad : first_misread text ≡ Some 6
unfolding first_misread parts onto_first
bad = refl
