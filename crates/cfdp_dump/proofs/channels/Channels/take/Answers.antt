use Rattle.std.proofs.Common.{◌≡◌, ◌∙◌, sym, subst, rules, ◌<◌, length, take, List, true, false, slice_index_or, ap, inr, Result, Ok, Err, OnErr}
use Rattle.std.specs.List.{All}
use Rattle.cfdp_dump.specs.declared.channel.Channel.{Channel}
use Rattle.cfdp_dump.specs.Carrying.{Carries, carried_text, channel_of, fresh, is_of, seen_only, with_channel}
use Rattle.cfdp_dump.proofs.Places.{first_is, first_with}
use Rattle.cfdp_dump.proofs.channels.Channels.take.Goals as goal

on_err : {A E : Type 0} (r : Result A E) (P : Type 0) → P → OnErr r P
on_err (Ok x) P holds = tt
on_err (Err e) P holds = holds

pub returns-in_ok-carried-in-Some-clause-ok : goal.returns-in_ok-carried-in-Some-clause-ok
returns-in_ok-carried-in-Some-clause-ok c =
    let h = c.args.header in
    let items = c.self.inside.channels.items in
    let place = c.in-Some.place in
    let same : c.deref.result.now ≡ items = search rules in
    let view : items ≡ c.args.self.now = c.self.view_is in
    let before : All (λ x. is_of h x ≡ false) (take place items) = subst (λ l. All (λ x. is_of h x ≡ false) (take place l)) same c.in-Some.ensures.before in
    let there = subst (λ l. (place < length l) × (is_of h (slice_index_or l place (fresh h)) ≡ true)) same c.in-Some.ensures.there in
    let one = first_is h items place (fresh h) c.index_mut.result.now there.0 before there.1 in
    let found : c.index_mut.result.now ≡ channel_of h c.args.self.now = c.index_mut.ensures.value ∙ sym one ∙ ap (λ l. channel_of h l) view in
    record {
      channel = c.take.new.self;
      carries = subst (λ ch. Carries ch h c.args.mpdu.now (carried_text c.in_ok-carried-in-Some.carried) c.take.new.self) found c.in_ok-carried-in-Some.ensures.ok;
      others = sym (first_with h c.take.new.self items place (fresh h) there.0 before there.1) ∙ ap (λ l. with_channel h c.take.new.self l) view;
    }

pub returns-in_err-carried-in-Some-clause-err : goal.returns-in_err-carried-in-Some-clause-err
returns-in_err-carried-in-Some-clause-err c =
    let h = c.args.header in
    let items = c.self.inside.channels.items in
    let place = c.in-Some.place in
    let same : c.deref.result.now ≡ items = search rules in
    let view : items ≡ c.args.self.now = c.self.view_is in
    let before : All (λ x. is_of h x ≡ false) (take place items) = subst (λ l. All (λ x. is_of h x ≡ false) (take place l)) same c.in-Some.ensures.before in
    let there = subst (λ l. (place < length l) × (is_of h (slice_index_or l place (fresh h)) ≡ true)) same c.in-Some.ensures.there in
    let one = first_is h items place (fresh h) c.index_mut.result.now there.0 before there.1 in
    let found : c.index_mut.result.now ≡ channel_of h c.args.self.now = c.index_mut.ensures.value ∙ sym one ∙ ap (λ l. channel_of h l) view in
    let seen : c.take.new.self ≡ seen_only h (channel_of h c.args.self.now) = c.in_err-carried-in-Some.ensures.err ∙ ap (λ x. seen_only h x) found in
    on_err c.from_residual.result _ (inr (sym (first_with h c.take.new.self items place (fresh h) there.0 before there.1) ∙ ap (λ l. with_channel h c.take.new.self l) view
    ∙ ap (λ x. with_channel h x c.args.self.now) seen))
