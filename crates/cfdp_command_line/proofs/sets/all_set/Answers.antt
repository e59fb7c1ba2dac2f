use Rattle.std.proofs.Common.{◌≡◌, ◌∙◌, ap₂, sym, Some, None}
use Rattle.cfdp_command_line.specs.Sets.{set_by}
use Rattle.cfdp_command_line.proofs.SetLemmas.{few_set_nothing, none_of, pair_first}
use Rattle.cfdp_command_line.proofs.sets.all_set.Goals as goal

pub returns-in_err-settings : goal.returns-in_err-settings
returns-in_err-settings c =
    let sets = ap₂ (λ k v. set_by k v c.loop-rest.settings) (sym c.as_str.ensures.value) (sym c.as_str-in-len2-up.ensures.value) ∙ sym c.in_err-settings.ensures in
    let first = pair_first c.loop-rest.rest.now c.loop-rest.settings c.key-item.result c.value-item.result None
    c.in-len2-up.len_at_least c.key-item.is c.value-item.is sets in
    sym (none_of c.from_residual.result c.from_residual.ensures.0) ∙ sym first ∙ c.loop-rest.invariant

pub loop-rest-preserved : goal.loop-rest-preserved
loop-rest-preserved c =
    let sets = ap₂ (λ k v. set_by k v c.loop-rest.settings) (sym c.as_str.ensures.value) (sym c.as_str-in-len2-up.ensures.value) ∙ sym c.in_ok-settings.ensures in
    let first = pair_first c.loop-rest.rest.now c.loop-rest.settings c.key-item.result c.value-item.result (Some c.in_ok-settings.settings)
    c.in-len2-up.len_at_least c.key-item.is c.value-item.is sets in
    sym first ∙ c.loop-rest.invariant

pub returns : goal.returns
returns c = sym (few_set_nothing c.loop-rest.rest.now c.loop-rest.settings c.in_default.len_below) ∙ c.loop-rest.invariant
