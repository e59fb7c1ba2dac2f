-- What follows of more events, in the words of what is seen.
use Rattle.std.proofs.Common.{◌≡◌, suc, ◌<◌, List, [], ◌∷◌, ◌++◌, length, Option, refl, sym, ap, subst, ◌∙◌, arith, append-nil, append_assoc}
use Rattle.std.specs.Prelude.{Contains}
use Rattle.cfdp_header.specs.declared.value.TransactionId.{TransactionId}
use Rattle.cfdp_header.specs.Files.{FileMap}
use Rattle.cfdp_directives.specs.User.Put.{Put, overwritten, inbox_after}
use Rattle.cfdp_directives.proofs.Puts.{inbox_after-append, Contains-append_right}
use Rattle.cfdp_entity.specs.Sound.{FindsMore}
use Rattle.station_pair.specs.declared.side.Side.{Side}
use Rattle.link_sim.specs.Calls.{Upholds}
use Rattle.link_sim.specs.Observed.{seen}
use Rattle.link_sim.specs.World.State.{WorldState}
use Rattle.link_sim.specs.Theorem.{WorldSeen, at, put_of, completions_at, FoldsAt, Follows, HoldsAt}
use Rattle.link_sim.specs.Settling.{LeadsTo}

-- ids that name the same puts
pub inbox_after-same : (p q : TransactionId → Option Put) (first : FileMap) (ids : List TransactionId) → ((id : TransactionId) → Contains ids id → p id ≡ q id) → inbox_after p first ids
    ≡ inbox_after q first ids
inbox_after-same p q first [] same = refl
inbox_after-same p q first (id ∷ ids) same =
    ap (λ put. inbox_after p (overwritten first put) ids) (same id (0, omega arith, refl))
    ∙ inbox_after-same p q (overwritten first (q id)) ids (λ other c. same other (suc c.0, (let k = c.0 in let low : k < length ids = c.1 in omega arith), c.2))

-- what a station completed names the same puts once more were accepted
same-puts : (s : Side) (a b : WorldSeen) → HoldsAt s a → FindsMore (put_of a) (put_of b) → (ids : List TransactionId) → ((id : TransactionId) → Contains ids id → Contains (completions_at s a) id) →
    (first : FileMap) →
    inbox_after (put_of a) first ids ≡ inbox_after (put_of b) first ids
same-puts s a b holds finds ids among first = inbox_after-same (put_of a) (put_of b) first ids (λ id c. let k = holds.caused id (among id c) in k.1.0 ∙ sym (finds id k.0 k.1.0))

-- each inbox stays what the completions make of its first files
pub inbox-follows : (first : FileMap) (s : Side) (a b : WorldSeen) → HoldsAt s a → Follows a b → (at s a).inbox ≡ inbox_after (put_of a) first (completions_at s a) → (at s b).inbox
    ≡ inbox_after (put_of b) first (completions_at s b)
inbox-follows first s a b holds follows was =
    let f = follows.folds s in
    f.inbox
    ∙ ap (λ (files : FileMap). inbox_after (put_of b) files f.gained) (was ∙ same-puts s a b holds follows.puts (completions_at s a) (λ id c. c) first)
    ∙ sym (inbox_after-append (put_of b) first (completions_at s a) f.gained)
    ∙ ap (inbox_after (put_of b) first) (sym f.completions)

-- ---- nothing, and more after more
pub follows-none : (w : WorldSeen) → Follows w w
follows-none w = record {
  puts = λ id put e. e;
  folds = λ s. record { gained = []; completions = sym (append-nil (completions_at s w)); inbox = refl };
}

folds-both : (s : Side) (a b c : WorldSeen) → HoldsAt s b → Follows a b → Follows b c → FoldsAt s a c
folds-both s a b c holds one two =
    let f = one.folds s in
    let g = two.folds s in
    let among : (id : TransactionId) → Contains f.gained id → Contains (completions_at s b) id =
    (λ id k. subst (λ (l : List TransactionId). Contains l id) (sym f.completions) (Contains-append_right (completions_at s a) f.gained id k)) in
    record {
      gained = f.gained ++ g.gained;
      completions = g.completions ∙ ap (λ (l : List TransactionId). l ++ g.gained) f.completions ∙ append_assoc (completions_at s a) f.gained g.gained;
      inbox = g.inbox
          ∙ ap (λ (files : FileMap). inbox_after (put_of c) files g.gained) (f.inbox ∙ same-puts s b c holds two.puts f.gained among (at s a).inbox)
          ∙ sym (inbox_after-append (put_of c) (at s a).inbox f.gained g.gained);
    }

pub follows-both : (a b c : WorldSeen) → ((s : Side) → HoldsAt s b) → Follows a b → Follows b c → Follows a c
follows-both a b c holds one two = record {
  puts = λ id put e. two.puts id put (one.puts id put e);
  folds = λ s. folds-both s a b c (holds s) one two;
}

pub leads-none : (w : WorldSeen) → LeadsTo w w
leads-none w = record { follows = λ h. follows-none w; holds = λ h. h }

pub leads-both : (a b c : WorldSeen) → LeadsTo a b → LeadsTo b c → LeadsTo a c
leads-both a b c one two = record {
  follows = λ h. follows-both a b c (one.holds h) (one.follows h) (two.follows (one.holds h));
  holds = λ h. two.holds (one.holds h);
}

-- if the promises hold, what leads on upholds them; and what upholds them leads on
pub leads-upholds : (a b : WorldState) → ((s : Side) → HoldsAt s (seen a)) → LeadsTo (seen a) (seen b) → Upholds a b
leads-upholds a b h leads = record { follows = leads.follows h; holds = leads.holds h }

pub upholds-leads : (a b : WorldState) → Upholds a b → LeadsTo (seen a) (seen b)
upholds-leads a b u = record { follows = λ _. u.follows; holds = λ _. u.holds }
