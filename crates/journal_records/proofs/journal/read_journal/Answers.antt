use Rattle.std.proofs.Common.{◌≡◌, ◌+◌, ◌-◌, ◌++◌, ℕ, List, length, take, drop, refl, subst, ◌∙◌, arith}
use Rattle.std.specs.Prelude.{IsSomeAnd}
use Rattle.std.proofs.lemmas.List.{length-drop, take_all}
use Rattle.std.proofs.lemmas.Result.{err_from_is_err_and}
use Rattle.batches.specs.Batch.{batch}
use Rattle.journal_records.specs.declared.fault.ReadError.TheVariants.{Fault}
use Rattle.journal_records.specs.Reading.{Fails, records_in}
use Rattle.journal_records.proofs.Journals.{reads-end, reads-fault, reads-more}
use Rattle.journal_records.proofs.journal.read_journal.Goals as goal

pub loop-text-preserved : goal.loop-text-preserved
loop-text-preserved c =
    let bytes = c.args.bytes.now in
    let end : ℕ = c.loop-text.end in
    let text = c.in-Some.text.now in
    let rest : List ℕ = drop end bytes in
    let whole : take (length bytes - end) rest ≡ rest = take_all (length bytes - end) rest (omega (arith, length-drop end bytes)) in
    let found = c.in-Some.ensures.found in
    let read = c.in_ok-more.ensures.found in
    reads-more bytes c.loop-text.records.items c.append.new.self.items end (end + (12 + length text)) text c.in_ok-more.more.items c.loop-text.invariant
    (subst (λ (l : List ℕ). l ≡ batch text ++ drop (12 + length text) l) whole found.1) found.0 read.0 read.1 c.in_ok-append.ensures.items refl

pub returns-clause-found : goal.returns-clause-found
returns-clause-found c =
    let bytes = c.args.bytes.now in
    let end : ℕ = c.loop-text.end in
    let rest : List ℕ = drop end bytes in
    let whole : take (length bytes - end) rest ≡ rest = take_all (length bytes - end) rest (omega (arith, length-drop end bytes)) in
    reads-end bytes c.loop-text.records.items end c.loop-text.invariant
    (λ text more fits is. subst (λ o. IsSomeAnd o (λ found. found.now ≡ text)) c.in_default.is (c.first_batch.ensures.only text more fits (whole ∙ is)))

pub returns-in_err-more-clause-refused : goal.returns-in_err-more-clause-refused
returns-in_err-more-clause-refused c fault is =
    let bytes = c.args.bytes.now in
    let end : ℕ = c.loop-text.end in
    let text = c.in-Some.text.now in
    let rest : List ℕ = drop end bytes in
    let whole : take (length bytes - end) rest ≡ rest = take_all (length bytes - end) rest (omega (arith, length-drop end bytes)) in
    let found = c.in-Some.ensures.found in
    let p = err_from_is_err_and c.from_residual.result c.from_residual.ensures.1 in
    let same : c.in_err-more.field-0.0 ≡ Fault fault = cc (p.1, p.2) in
    reads-fault bytes c.loop-text.records.items end text fault c.loop-text.invariant (subst (λ (l : List ℕ). l ≡ batch text ++ drop (12 + length text) l) whole found.1) found.0
    (subst (λ e. Fails e (records_in text)) same c.in_err-more.ensures.refused)
