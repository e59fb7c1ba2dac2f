-- An accepted put is one more of those found by their transactions, and all other events find the
-- same puts.
use Rattle.std.proofs.Common.{◌≡◌, true, false, List, [], ◌∷◌, ◌++◌, append-nil, Option, Some, None, ◌⊎◌, inl, inr, refl, sym, ap, subst, ◌∙◌}
use Rattle.std.specs.Prelude.{IsSome, if◌then◌else◌}
use Rattle.cfdp_header.specs.declared.value.TransactionId.{TransactionId}
use Rattle.cfdp_header.specs.Ids.{same_id}
use Rattle.cfdp_header.proofs.Ids.{same_id-is}
use Rattle.cfdp_directives.specs.User.Put.{Put}
use Rattle.cfdp_entity.specs.Sound.{FindsMore}
use Rattle.link_sim.specs.declared.event.AcceptedPut.{AcceptedPut}
use Rattle.station_pair.specs.declared.side.Side.{Side}
use Rattle.station_pair.specs.declared.side.Side.TheVariants.{One, Two}
use Rattle.link_sim.specs.Known.{AddsPut}
use Rattle.link_sim.specs.Theorem.{WorldSeen, at, side_of, accepted_as, put_at, put_by, put_of}
use Rattle.link_sim.proofs.Found.Puts.{SendsSame, puts-more}

-- the puts before the last one, as the world finds them now
accepted-last : (ps : List AcceptedPut) (p : AcceptedPut) (id : TransactionId) → (p.id ≡ id) ⊎ (accepted_as (ps ++ p ∷ []) id ≡ accepted_as ps id)
accepted-last [] p id =
    elim (same_id p.id id) as (λ b. same_id p.id id ≡ b → (p.id ≡ id) ⊎ ((if b then Some p else None) ≡ None)) [
      | true ↦ λ is. inl (same_id-is p.id id is)
      | false ↦ λ is. inr refl
    ] refl
accepted-last (q ∷ ps) p id =
    elim (same_id q.id id) as (λ b. (p.id ≡ id) ⊎ ((if b then Some q else accepted_as (ps ++ p ∷ []) id) ≡ (if b then Some q else accepted_as ps id))) [
      | true ↦ inr refl
      | false ↦ accepted-last ps p id
    ]

back-same : (old new : WorldSeen) → SendsSame old.one new.one → SendsSame old.two new.two → (ps : List AcceptedPut) → ps ≡ old.puts → FindsMore (put_of (record new { puts = ps })) (put_of old)
back-same old new one two ps is = puts-more (record new { puts = ps }) old []
    (record { entity = sym one.entity; kind = sym one.kind; sources = sym one.sources }) (record { entity = sym two.entity; kind = sym two.kind; sources = sym two.sources })
    (sym is ∙ sym (append-nil ps))

pub adds-put : (old new : WorldSeen) (p : AcceptedPut) → SendsSame old.one new.one → SendsSame old.two new.two → new.puts ≡ old.puts ++ p ∷ [] → AddsPut p.id (put_of old) (put_of new)
adds-put old new p one two puts = record {
  more = puts-more old new (p ∷ []) one two puts;
  only = λ q some. by q some (accepted-last old.puts p q);
}
  where
    mid : WorldSeen
    mid = record new { puts = old.puts }

    some-old : (q : TransactionId) (o : Option Put) → put_of mid q ≡ o → IsSome o → IsSome (put_of old q)
    some-old q None is h = absurd cc
    some-old q (Some put) is h = subst IsSome (sym (back-same old new one two old.puts refl q put is)) refl

    by : (q : TransactionId) → IsSome (put_of new q) → (p.id ≡ q) ⊎ (accepted_as (old.puts ++ p ∷ []) q ≡ accepted_as old.puts q) → (q ≡ p.id) ⊎ IsSome (put_of old q)
    by q some (inl is) = inl (sym is)
    by q some (inr same) =
        let there : accepted_as new.puts q ≡ accepted_as old.puts q = ap (λ (ps : List AcceptedPut). accepted_as ps q) puts ∙ same in
        let found : IsSome (put_by new (accepted_as old.puts q)) = subst (λ o. IsSome (put_by new o)) there some in
        inr (some-old q (put_of mid q) refl (subst IsSome (mid-same (accepted_as old.puts q)) found))
      where
        mid-same : (o : Option AcceptedPut) → put_by new o ≡ put_by mid o
        mid-same None = refl
        mid-same (Some a) = at-side (side_of a.id.source new)
          where
            at-side : (s : Side) → put_at (at s new) a ≡ put_at (at s mid) a
            at-side One = refl
            at-side Two = refl

-- if no put was accepted
pub same-puts : (old new : WorldSeen) → SendsSame old.one new.one → SendsSame old.two new.two → new.puts ≡ old.puts → FindsMore (put_of old) (put_of new) × FindsMore (put_of new) (put_of old)
same-puts old new one two puts = (puts-more old new [] one two (puts ∙ sym (append-nil old.puts)), back-same old new one two new.puts puts)
