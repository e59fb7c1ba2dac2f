use Rattle.std.proofs.Common.{◌∙◌, ap₂, sym, Some, None}
use Rattle.cfdp_setup.specs.Sets.{set_pair}
use Rattle.cfdp_setup.proofs.SetLemmas.{few_set_nothing, none_of, pair_first}
use Rattle.cfdp_setup.proofs.sets.all_set.Goals as goal

pub returns-in_err-setup : goal.returns-in_err-setup
returns-in_err-setup c =
    let sets = ap₂ (λ k v. set_pair k v c.loop-rest.setup) (sym c.as_str.ensures.value) (sym c.as_str-in-len2-up.ensures.value) ∙ sym c.in_err-setup.ensures in
    let first = pair_first c.loop-rest.rest.now c.loop-rest.setup c.key-item.result c.value-item.result None
    c.in-len2-up.len_at_least c.key-item.is c.value-item.is sets in
    sym (none_of c.from_residual.result c.from_residual.ensures.0) ∙ sym first ∙ c.loop-rest.invariant

pub loop-rest-preserved : goal.loop-rest-preserved
loop-rest-preserved c =
    let sets = ap₂ (λ k v. set_pair k v c.loop-rest.setup) (sym c.as_str.ensures.value) (sym c.as_str-in-len2-up.ensures.value) ∙ sym c.in_ok-setup.ensures in
    let first = pair_first c.loop-rest.rest.now c.loop-rest.setup c.key-item.result c.value-item.result (Some c.in_ok-setup.setup)
    c.in-len2-up.len_at_least c.key-item.is c.value-item.is sets in
    sym first ∙ c.loop-rest.invariant

pub returns : goal.returns
returns c = sym (few_set_nothing c.loop-rest.rest.now c.loop-rest.setup c.in_default.len_below) ∙ c.loop-rest.invariant
