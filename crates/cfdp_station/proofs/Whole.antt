-- The lane whose frame leaves next: a whole zone waits in it; if there is none, in neither lane.
use Rattle.std.proofs.Common.{◌≡◌, ℕ, ◌<◌, ◌≤◌, Bool, true, false, if◌then◌else◌, nat_le, Option, Some, None, length, refl, sym, ◌∙◌, inl, inr}
use Rattle.std.proofs.lemmas.Bool.{cases_Bool, cases_lt, le-leb, lt-leb}
use Rattle.aos_frame.specs.declared.config.Lane.{Lane}
use Rattle.aos_frame.specs.declared.config.Lane.TheVariants.{Directives, Data}
use Rattle.link_stack.specs.Downward.{DownState, frame_lane, has_whole, lane_down}
use Rattle.cfdp_station.specs.Link.{IsNotWhole}

second : (d : DownState) → has_whole d.directives ≡ false → frame_lane d ≡ (if has_whole d.file_data then Some Data else None)
second d none = rw none refl

first : (d : DownState) → has_whole d.directives ≡ true → frame_lane d ≡ Some Directives
first d some = rw some refl

one_of : (b : Bool) → (if b then Some Data else None) ≡ Some Directives → ⊥
one_of true e = absurd cc
one_of false e = absurd cc

other_of : (b : Bool) → (if b then Some Data else None) ≡ Some Data → b ≡ true
other_of true e = refl
other_of false e = absurd cc

none_of : (b : Bool) → (if b then Some Data else None) ≡ (let none : Option Lane = None in none) → b ≡ false
none_of true e = absurd cc
none_of false e = refl

is_whole : (zone waiting : ℕ) → nat_le zone waiting ≡ true → zone ≤ waiting
is_whole zone waiting e = elim (cases_lt waiting zone) [ inl c ↦ absurd (let bad : true ≡ false = sym e ∙ lt-leb zone waiting c in cc) | inr c ↦ c ]

is_not : (zone waiting : ℕ) → nat_le zone waiting ≡ false → waiting < zone
is_not zone waiting e = elim (cases_lt waiting zone) [ inl c ↦ c | inr c ↦ absurd (let bad : false ≡ true = sym e ∙ le-leb zone waiting c in cc) ]

-- a whole zone waits in it
pub next-is_whole : (d : DownState) (l : Lane) → frame_lane d ≡ Some l → (lane_down l d).link.zone ≤ length (lane_down l d).waiting
next-is_whole d Directives is = elim (cases_Bool (has_whole d.directives)) [
  | inl e ↦ is_whole d.directives.link.zone (length d.directives.waiting) e
  | inr e ↦ absurd (one_of (has_whole d.file_data) (sym (second d e) ∙ is))
]
next-is_whole d Data is = elim (cases_Bool (has_whole d.directives)) [
  | inl e ↦ absurd (let bad : Some Directives ≡ Some Data = sym (first d e) ∙ is in cc)
  | inr e ↦ is_whole d.file_data.link.zone (length d.file_data.waiting) (other_of (has_whole d.file_data) (sym (second d e) ∙ is))
]

-- if there is none, no whole zone waits in either
pub none-is_whole : (d : DownState) → frame_lane d ≡ None → (l : Lane) → IsNotWhole (lane_down l d)
none-is_whole d is Directives = elim (cases_Bool (has_whole d.directives)) [
  | inl e ↦ absurd (let bad : Some Directives ≡ None = sym (first d e) ∙ is in cc)
  | inr e ↦ is_not d.directives.link.zone (length d.directives.waiting) e
]
none-is_whole d is Data = elim (cases_Bool (has_whole d.directives)) [
  | inl e ↦ absurd (let bad : Some Directives ≡ None = sym (first d e) ∙ is in cc)
  | inr e ↦ is_not d.file_data.link.zone (length d.file_data.waiting) (none_of (has_whole d.file_data) (sym (second d e) ∙ is))
]
