use Rattle.std.proofs.Common.{◌≡◌, ◌∙◌, ℕ, List, ap}
use Rattle.crc.specs.FileChecks.{crc32_of}
use Rattle.crc.specs.declared.thirty_two.Crc32.TheVariants.{Ieee}
use Rattle.cfdp_files.specs.StateText.{lines_text}
use Rattle.cfdp_files.proofs.state_text.text_of.Goals as goal

pub returns : goal.returns
returns c =
    let lines : c.as_str-lines.result.now ≡ lines_text c.args.reserved = c.as_str-lines.ensures.value ∙ c.in_ok-lines.ensures in
    let sum : c.of.result ≡ crc32_of Ieee (lines_text c.args.reserved) =
    c.of.ensures ∙ ap (λ (l : List ℕ). crc32_of Ieee l) (c.as_bytes.ensures.value ∙ c.in_ok-lines.ensures) in
    rw (lines, sum) at c.format.ensures.ok
