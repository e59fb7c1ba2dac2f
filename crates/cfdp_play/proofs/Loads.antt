-- What the lines of a script ask for, one by one.
use Rattle.std.proofs.Common.{◌≡◌, ◌+◌, ◌*◌, ◌<◌, ◌≤◌, ℕ, List, [], ◌∷◌, length, arith, refl}
use Rattle.std.proofs.lemmas.List.Sums.{sum_by-cons}
use Rattle.cfdp_play.specs.Load.{AreTooMany, Exceeds, IsWithin, Takes, octets_by, octets_in, puts_by, puts_in}
use Rattle.cfdp_play.specs.declared.load.Load.{Load}
use Rattle.cfdp_play.specs.declared.load.TooMuch.{TooMuch}
use Rattle.cfdp_play.specs.declared.load.TooMuch.TheVariants.{Lines, Octets, Puts, Sent}

-- what was asked for so far, and what the lines that are left ask for, is what all lines ask for
pub record Leaves (load : Load) (left all : List (List ℕ)) : Type 0 where
  pub lines : load.lines + length left ≡ length all
  pub octets : load.octets + octets_in left ≡ octets_in all
  pub puts : load.puts + puts_in left ≡ puts_in all
  pub within : IsWithin load

octets-more : (line : List ℕ) (left : List (List ℕ)) → octets_in (line ∷ left) ≡ octets_by line + octets_in left
octets-more line left = sum_by-cons octets_by line left

puts-more : (line : List ℕ) (left : List (List ℕ)) → puts_in (line ∷ left) ≡ puts_by line + puts_in left
puts-more line left = sum_by-cons puts_by line left

pub leaves-rest : (old new : Load) (line : List ℕ) (left all : List (List ℕ)) → Leaves old (line ∷ left) all → Takes old line new → IsWithin new → Leaves new left all
leaves-rest old new line left all leaves takes within = record {
  lines = omega (arith, leaves.lines, takes.lines);
  octets = omega (arith, leaves.octets, takes.octets, octets-more line left);
  puts = omega (arith, leaves.puts, takes.puts, puts-more line left);
  within = within;
}

pub too-many : (why : TooMuch) (load : Load) (line : List ℕ) (left all : List (List ℕ)) → Leaves load (line ∷ left) all → Exceeds why load line → AreTooMany why all
too-many Lines load line left all leaves over = omega (arith, leaves.lines, over)
too-many Octets load line left all leaves over = omega (arith, leaves.octets, over, octets-more line left)
too-many Puts load line left all leaves over = omega (arith, leaves.puts, over, puts-more line left)
too-many Sent load line left all leaves over = absurd over

-- if no line is left
pub octets-are : (load : Load) (all : List (List ℕ)) → Leaves load [] all → load.octets ≡ octets_in all
octets-are load all leaves = omega (arith, leaves.octets)

pub puts-are : (load : Load) (all : List (List ℕ)) → Leaves load [] all → load.puts ≡ puts_in all
puts-are load all leaves = omega (arith, leaves.puts)

pub sent-too-many : (load : Load) (all : List (List ℕ)) → Leaves load [] all → 1048576 < load.octets * load.puts → AreTooMany Sent all
sent-too-many load all leaves over = rw (octets-are load all leaves, puts-are load all leaves) at over

pub not-too-many : (load : Load) (all : List (List ℕ)) → Leaves load [] all → load.octets * load.puts ≤ 1048576 → (why : TooMuch) → ¬ AreTooMany why all
not-too-many load all leaves few Lines many = omega (arith, leaves.lines, leaves.within.lines, many)
not-too-many load all leaves few Octets many = omega (arith, leaves.octets, leaves.within.octets, many)
not-too-many load all leaves few Puts many = omega (arith, leaves.puts, leaves.within.puts, many)
not-too-many load all leaves few Sent many =
    let few_of_all : octets_in all * puts_in all ≤ 1048576 = rw (octets-are load all leaves, puts-are load all leaves) at few in
    omega (arith, few_of_all, many)
