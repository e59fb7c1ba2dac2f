use Rattle.std.proofs.Common.{List, ℕ, [], ◌∷◌, sym, subst, ap, ◌∙◌}
use Rattle.std.proofs.lemmas.List.{map-append}
use Rattle.std.specs.Borrow.{Bor}
use Rattle.std.specs.Str.Iter.{lines_rest}
use Rattle.std.proofs.lemmas.Iterator.Consumers.{YieldsList-end}
use Rattle.std.proofs.lemmas.Iterator.Splits.{YieldsList-from_lines}
use Rattle.std.proofs.lemmas.Result.{IfOk-weaker}
use Rattle.key_file.proofs.Entries.{HasKeys, keys-added, whole-file}
use Rattle.key_file.proofs.lines.parse.Goals as goal

pub loop-words-preserved : goal.loop-words-preserved
loop-words-preserved c =
    let invariant = c.loop-words.invariant in
    let added = c.in_default.ensures.adds in (
      c.in_default.ensures.apart invariant.0,
      subst (λ l. HasKeys l c.add_line.new.draft)
          (sym (map-append (λ (x : Bor (List ℕ)). x.now) c.loop-words.yielded
          (c.in-Some.words ∷ [])))
          (keys-added c.in-Some.words.now invariant.1 added),
      tt,
      tt,
    )

pub returns-clause-says : goal.returns-clause-says
returns-clause-says c =
    let rest = ap lines_rest c.into_iter-words-iterator.ensures.into_iter_gives
    ∙ c.lines-words-items.ensures.rest in
    let run = YieldsList-from_lines c.args.text.now rest in
    let all = YieldsList-end run c.loop-words.yielded _ c.loop-words.yielded_by _ _ c.in-None.is
    c.next.ensures.steps in
    IfOk-weaker c.keys.result _ _
    (λ k is. whole-file c.args.text.now all.0 c.loop-words.invariant.1 is.0 is.1 is.2)
    c.keys.ensures.keys
