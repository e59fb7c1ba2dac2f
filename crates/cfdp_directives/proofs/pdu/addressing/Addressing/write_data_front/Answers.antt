use Rattle.std.proofs.Common.{◌≡◌, ◌+◌, ℕ, List, drop, sym, ap, ◌∙◌}
use Rattle.std.proofs.lemmas.List.{drop-drop}
use Rattle.cfdp_directives.specs.Pdu.Codes.{file_size_octets}
use Rattle.cfdp_directives.proofs.pdu.addressing.Addressing.write_data_front.Goals as goal

-- octets that stayed after an offset also stay after a later one
stays : (old middle new : List ℕ) (at n end : ℕ) → end ≡ at + n → drop at middle ≡ drop at old → drop end new ≡ drop end middle → drop end new ≡ drop end old
stays old middle new at n end is first second =
    let cut : drop (at + n) middle ≡ drop (at + n) old = sym (drop-drop n at middle) ∙ ap (λ (t : List ℕ). drop n t) first ∙ drop-drop n at old in
    second ∙ rw is cut

pub returns-clause-behind : goal.returns-clause-behind
returns-clause-behind c = stays c.args.out.now c.encode-at.new.out c.put_file_size.new.out c.encode-at.result
    (file_size_octets c.args.large) c.put_file_size.result c.put_file_size.ensures.end c.encode-at.ensures.behind c.put_file_size.ensures.behind
