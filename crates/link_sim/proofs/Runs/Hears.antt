-- The run of its own that a put makes if one of the two entities hears a PDU, and nothing is short
-- there.
use Rattle.std.proofs.Common.{◌≡◌, ◌≢◌, ℕ, ◌-◌, ◌^◌, ◌<◌, ◌≤◌, ◌==◌, Bool, true, false, List, [], ◌∷◌, ◌++◌, append-nil, length, get_or, Option, Some, None, ◌⊎◌, inl, inr, refl, sym, ap, subst, ◌∙◌, arith, get_or-set_same, get_or-set_other}
use Rattle.std.specs.Prelude.{slice_get}
use Rattle.std.specs.List.{list_any}
use Rattle.std.specs.FinMap as map
use Rattle.std.proofs.lemmas.Bool.{cases_Bool, eqb-true, eqb-false}
use Rattle.std.proofs.lemmas.List.{length-set}
use Rattle.cfdp_header.specs.declared.value.Header.{Header}
use Rattle.cfdp_header.specs.declared.value.TransactionId.{TransactionId}
use Rattle.cfdp_header.specs.Files.{FileMap}
use Rattle.cfdp_header.specs.Ids.{same_id}
use Rattle.cfdp_directives.specs.declared.pdu.addressing.Addressing.{Addressing}
use Rattle.cfdp_directives.specs.declared.user.limits.Times.{Times}
use Rattle.cfdp_directives.specs.Pdu.Addressing.{addressing_of as addressing_in}
use Rattle.cfdp_directives.specs.Pdu.Codes.{size_limit}
use Rattle.cfdp_directives.specs.Pdu.Content.{Content}
use Rattle.cfdp_directives.specs.User.Put.{Put}
use Rattle.cfdp_store.specs.declared.stored.Stored.TheVariants.{Done}
use Rattle.cfdp_store.specs.Staged.{OctetMap}
use Rattle.cfdp_receiver.specs.Sound.{Hears, Sound, receiver_hears, is_file_fault, IsReceivable}
use Rattle.cfdp_receiver.specs.State.{ReceiverState, opened_receiver}
use Rattle.cfdp_receiver.specs.Steps.{ReceiverAfter}
use Rattle.cfdp_entity.specs.declared.error.EntityDrop.{EntityDrop}
use Rattle.cfdp_entity.specs.declared.error.EntityDrop.TheVariants as drops
use Rattle.cfd_bits.specs.Counting.{raised}
use Rattle.cfdp_entity.specs.Entity.{EntityState, Counted, counted}
use Rattle.cfdp_entity.specs.Errors.{drop_number}
use Rattle.cfdp_entity.specs.Opening.{opens, opens_by}
use Rattle.cfdp_entity.specs.Seen.{Seen, Sends, Receives}
use Rattle.cfdp_entity.specs.Steps.{After, receiver_after, if_receiver, hears}
use Rattle.cfdp_entity.specs.Table.{Entry, TableState, place_of, record_of, step_of}
use Rattle.cfdp_entity.specs.Truth.{KnowsTruth, KnowsPut, IsTrueOf}
use Rattle.cfdp_entity.proofs.CallerLemmas.{same_id-true, push-own, push-other}
use Rattle.cfdp_entity.proofs.Entries.{same_id-itself}
use Rattle.cfdp_entity.proofs.Histories.{no-record}
use Rattle.link_sim.specs.Between.{Pdu, of_id}
use Rattle.link_sim.specs.Exchange.{IsTrueForth}
use Rattle.link_sim.specs.Runs.{Settles}
use Rattle.link_sim.specs.Work.{opening_work}
use Rattle.link_sim.proofs.Clean.Hears.{HearingLaws, forth-some, begins-within, closing-none, was-done, counts-grow}
use Rattle.link_sim.proofs.EveryPut.Hears.{key-there, no-place, differs-too}
use Rattle.link_sim.proofs.EveryPut.Steps.{IsInOrder, SendsIt, sends-it}
use Rattle.link_sim.proofs.EveryPut.Views.{some-same, head-own, head-other}
use Rattle.link_sim.proofs.EveryPut.Routes.{HeardSo, StepsRecord, OpensRecord, DropsNew, SpoilsRecord}
use Rattle.link_sim.proofs.Runs.Places.{Goes, SenderTo, MineTo, ReceiverTo, TheirsTo, OpensTo, made, stays-same, mine-steps, theirs-steps, receiver-opens, goes-unheard}
use Rattle.link_sim.proofs.Runs.Records.{sender-hears, receiver-hears, receiver-opened, goes-by-unheard}

-- ---- nothing was short
-- What an entity was short of, and its failures, as counts that only grow: memory, room in the
-- table, and the inbox.
pub record Shorter (old new : Counted) : Type 0 where
  pub memory : get_or old.state.drops 16 0 ≤ get_or new.state.drops 16 0
  pub table : get_or old.state.drops 15 0 ≤ get_or new.state.drops 15 0
  pub inbox : old.inbox_failures ≤ new.inbox_failures
  pub kinds : length new.state.drops ≡ length old.state.drops

-- None of them rose, and had one, it would show.
pub record Spared (old new : Counted) : Type 0 where
  pub memory : get_or new.state.drops 16 0 ≡ get_or old.state.drops 16 0
  pub memory_low : get_or new.state.drops 16 0 < 2 ^ 64 - 1
  pub table : get_or new.state.drops 15 0 ≡ get_or old.state.drops 15 0
  pub table_low : get_or new.state.drops 15 0 < 2 ^ 64 - 1
  pub inbox : new.inbox_failures ≡ old.inbox_failures
  pub inbox_low : new.inbox_failures < 2 ^ 64 - 1

pub shorter-both : (a b c : Counted) → Shorter a b → Shorter b c → Shorter a c
shorter-both a b c p q = record {
  memory = (let i = p.memory in let j = q.memory in omega (arith, i, j));
  table = (let i = p.table in let j = q.table in omega (arith, i, j));
  inbox = (let i = p.inbox in let j = q.inbox in omega (arith, i, j));
  kinds = q.kinds ∙ p.kinds;
}

-- in two parts
pub spared-first : (a b c : Counted) → Shorter a b → Shorter b c → Spared a c → Spared a b
spared-first a b c p q s =
    let m = p.memory in let m1 = q.memory in let m2 = s.memory in let m3 = s.memory_low in
    let t = p.table in let t1 = q.table in let t2 = s.table in let t3 = s.table_low in
    let i = p.inbox in let i1 = q.inbox in let i2 = s.inbox in let i3 = s.inbox_low in
    record {
      memory = omega (arith, m, m1, m2);
      memory_low = omega (arith, m, m1, m2, m3);
      table = omega (arith, t, t1, t2);
      table_low = omega (arith, t, t1, t2, t3);
      inbox = omega (arith, i, i1, i2);
      inbox_low = omega (arith, i, i1, i2, i3);
    }

pub spared-rest : (a b c : Counted) → Shorter a b → Shorter b c → Spared a c → Spared b c
spared-rest a b c p q s =
    let m = p.memory in let m1 = q.memory in let m2 = s.memory in
    let t = p.table in let t1 = q.table in let t2 = s.table in
    let i = p.inbox in let i1 = q.inbox in let i2 = s.inbox in
    record {
      memory = omega (arith, m, m1, m2);
      memory_low = s.memory_low;
      table = omega (arith, t, t1, t2);
      table_low = s.table_low;
      inbox = omega (arith, i, i1, i2);
      inbox_low = s.inbox_low;
    }

-- ---- what is heard raises counts at most
raised-more : (n : ℕ) → n ≤ raised n
raised-more n = omega arith

counted-more : (by : EntityDrop) (xs : List ℕ) (n : ℕ) → drop_number by < length xs → get_or xs n 0 ≤ get_or (counted by xs) n 0
counted-more by xs n low = elim (cases_Bool (n == drop_number by)) [
  | inl is ↦ (let e : n ≡ drop_number by = eqb-true n (drop_number by) is in
      let now : get_or (counted by xs) (drop_number by) 0 ≡ raised (get_or xs (drop_number by) 0) = get_or-set_same xs (drop_number by) (raised (get_or xs (drop_number by) 0)) 0 low in
      subst (λ k. get_or xs k 0 ≤ get_or (counted by xs) k 0) (sym e) (subst (λ k. get_or xs (drop_number by) 0 ≤ k) (sym now) (raised-more (get_or xs (drop_number by) 0))))
  | inr not_ ↦ (let ne : n ≢ drop_number by = eqb-false n (drop_number by) not_ in
      let same : get_or (counted by xs) n 0 ≡ get_or xs n 0 = get_or-set_other xs (drop_number by) n (raised (get_or xs (drop_number by) 0)) 0 ne in
      omega (arith, same))
]

kinds-same : (by : EntityDrop) (xs : List ℕ) → length (counted by xs) ≡ length xs
kinds-same by xs = length-set xs (drop_number by) (raised (get_or xs (drop_number by) 0))

drops-more : (by : EntityDrop) (old new : Counted) → drop_number by < 18 → length old.state.drops ≡ 18 → new.state.drops ≡ counted by old.state.drops → old.inbox_failures ≤ new.inbox_failures →
    Shorter old new
drops-more by old new low kinds is inbox =
    let within : drop_number by < length old.state.drops = subst (λ n. drop_number by < n) (sym kinds) low in
    record {
      memory = subst (λ l. get_or old.state.drops 16 0 ≤ get_or l 16 0) (sym is) (counted-more by old.state.drops 16 within);
      table = subst (λ l. get_or old.state.drops 15 0 ≤ get_or l 15 0) (sym is) (counted-more by old.state.drops 15 within);
      inbox = inbox;
      kinds = ap length is ∙ kinds-same by old.state.drops;
    }

keeps-drops : (old new : Counted) → new.state.drops ≡ old.state.drops → old.inbox_failures ≤ new.inbox_failures → Shorter old new
keeps-drops old new is inbox =
    let m : get_or new.state.drops 16 0 ≡ get_or old.state.drops 16 0 = ap (λ l. get_or l 16 0) is in
    let t : get_or new.state.drops 15 0 ≡ get_or old.state.drops 15 0 = ap (λ l. get_or l 15 0) is in
    record { memory = omega (arith, m); table = omega (arith, t); inbox = inbox; kinds = ap length is }

pub heard-shorter : (h : Header) (v : Content) (old new : Counted) → length old.state.drops ≡ 18 → HeardSo h v old new → Shorter old new
heard-shorter h v old new kinds (inl s) = keeps-drops old new (ap (λ (e : EntityState). e.drops) s.steps.steps) (counts-grow s.steps.stored old.inbox_failures new.inbox_failures s.steps.counts)
heard-shorter h v old new kinds (inr (inl o)) = keeps-drops old new (ap (λ (e : EntityState). e.drops) o.opens.opens) (counts-grow o.opens.begun old.inbox_failures new.inbox_failures o.opens.counts.0)
heard-shorter h v old new kinds (inr (inr (inl d))) = drops-more d.by old new d.low kinds (ap (λ (e : EntityState). e.drops) d.is) d.grows
heard-shorter h v old new kinds (inr (inr (inr s))) = drops-more drops.NoMemory old new (omega arith) kinds (ap (λ (e : EntityState). e.drops) s.finds.counted)
    (let same = s.finds.inbox in omega (arith, same))

-- ---- if none rose
raised-shows : (n : ℕ) → n < 2 ^ 64 - 1 → n < raised n
raised-shows n low = omega (arith, low)

-- a count that rose would show
counted-shows : (by : EntityDrop) (xs : List ℕ) → drop_number by < length xs → get_or (counted by xs) (drop_number by) 0 ≡ get_or xs (drop_number by) 0 → get_or (counted by xs) (drop_number by) 0
    < 2 ^ 64 - 1 → ⊥
counted-shows by xs low same small =
    let n : ℕ = get_or xs (drop_number by) 0 in
    let now : get_or (counted by xs) (drop_number by) 0 ≡ raised n = get_or-set_same xs (drop_number by) (raised n) 0 low in
    let less : n < 2 ^ 64 - 1 = subst (λ k. k < 2 ^ 64 - 1) same small in
    let more : n < raised n = raised-shows n less in
    let is : raised n ≡ n = sym now ∙ same in
    omega (arith, more, is)

module _ (by : EntityDrop) (old new : Counted) (s : Spared old new) (low : drop_number by < 18) (kinds : length old.state.drops ≡ 18) (is : new.state.drops ≡ counted by old.state.drops) where
  within : drop_number by < length old.state.drops
  within = subst (λ n. drop_number by < n) (sym kinds) low

  shows : (k : ℕ) → drop_number by ≡ k → get_or new.state.drops k 0 ≡ get_or old.state.drops k 0 → get_or new.state.drops k 0 < 2 ^ 64 - 1 → ⊥
  shows k e same small =
      let there : get_or (counted by old.state.drops) (drop_number by) 0 ≡ get_or new.state.drops k 0 = ap (λ l. get_or l (drop_number by) 0) (sym is) ∙ ap (λ i. get_or new.state.drops i 0) e in
      counted-shows by old.state.drops within (there ∙ same ∙ ap (λ i. get_or old.state.drops i 0) (sym e)) (subst (λ n. n < 2 ^ 64 - 1) (sym there) small)

  -- so what is dropped is of cause 14
  only-unknown : (drop_number by ≡ 14) ⊎ ((drop_number by ≡ 15) ⊎ (drop_number by ≡ 16)) → drop_number by ≡ 14
  only-unknown (inl is14) = is14
  only-unknown (inr (inl is15)) = absurd (shows 15 is15 s.table s.table_low)
  only-unknown (inr (inr is16)) = absurd (shows 16 is16 s.memory s.memory_low)

-- ---- what a put's receiver indicates of a PDU
module _ (laws : HearingLaws) (put : Put) (fits : IsReceivable put) (put_of : TransactionId → Option Put) (found : put_of put.id ≡ Some put) (heard : List (List ℕ)) (large : Bool) (v : Content)
    (allowed : IsTrueForth put v → length put.octets ≤ size_limit large) (true_of : IsTrueOf put_of heard put.id v) where
  faultless : (m : OctetMap) (files : FileMap) (r : ReceiverState) → Sound put heard r m → IsTrueForth put v →
      list_any is_file_fault (receiver_hears Done large v m files r).told ≡ false
  faultless m files r sound t = laws.faultless put heard Done (Hears large v) m files r fits (true_of put found) (begins-within put large v (allowed t) t) sound

  faultless-heard : (m : OctetMap) (files : FileMap) (r : ReceiverState) → Sound put heard r m → (a : ReceiverAfter) → receiver_after Done large v m files r ≡ Some a → IsTrueForth put v →
      list_any is_file_fault a.told ≡ false
  faultless-heard m files r sound a is t =
      let same : receiver_hears Done large v m files r ≡ a = some-same (sym (forth-some put large v m files r t) ∙ is) in
      subst (λ (b : ReceiverAfter). list_any is_file_fault b.told ≡ false) same (faultless m files r sound t)

  faultless-opened : (times : Times) (files : FileMap) (a : Addressing) → IsTrueForth put v → list_any is_file_fault (opens Done Done times files large v a).told ≡ false
  faultless-opened times files a t =
      subst (λ (o : Option ℕ). list_any is_file_fault (opens_by o Done Done times files large v a).told ≡ false) (sym (closing-none put v t))
      (subst (λ (o : Option ReceiverAfter). list_any is_file_fault (if_receiver times files (opened_receiver a) map.empty o).told ≡ false)
      (sym (forth-some put large v map.empty files (opened_receiver a) t))
      (faultless map.empty files (opened_receiver a) (laws.opened put heard Done large files a) t))

-- ---- one PDU
module _ (put : Put) (put_of : TransactionId → Option Put) (found : put_of put.id ≡ Some put) (h : Header) (v : Content) (old new : Counted) (order : IsInOrder put_of old.state.table)
    (kinds : length old.state.drops ≡ 18) (spared : Spared old new) where
  abbrev p : Pdu
  p = (h, v)

  abbrev st : TableState
  st = old.state.table

  is-own : (xs : List Pdu) → h.id ≡ put.id → v ∷ of_id put.id xs ≡ of_id put.id (p ∷ xs)
  is-own xs same = sym (head-own put.id p xs (same_id-itself put.id h.id (sym same)))

  is-other : (xs : List Pdu) → same_id put.id h.id ≡ false → of_id put.id xs ≡ of_id put.id (p ∷ xs)
  is-other xs differs = sym (head-other put.id p xs differs)

  is-there : (place : ℕ) (e : Entry) → place_of h.id st.records ≡ Some place → slice_get st.records place ≡ Some e → h.id ≡ e.0
  is-there place e is at = key-there h.id st.records place e is at

  none-there : h.id ≡ put.id → place_of h.id st.records ≡ None → record_of put.id st.records ≡ None
  none-there same none = ap (λ q. record_of q st.records) (sym same) ∙ (no-record st.records h.id none).0

  inbox-low : old.inbox_failures < 2 ^ 64 - 1
  inbox-low = subst (λ n. n < 2 ^ 64 - 1) spared.inbox spared.inbox_low

  stepped-done : (k : StepsRecord h v old new) → k.steps.stored ≡ Done
  stepped-done k = was-done k.steps.stored old.inbox_failures new.inbox_failures k.steps.counts spared.inbox inbox-low

  never-spoiled : SpoilsRecord h v old new → ⊥
  never-spoiled k = shows drops.NoMemory old new spared (omega arith) kinds (ap (λ (e : EntityState). e.drops) k.finds.counted) 16 refl spared.memory spared.memory_low

  none-short : (k : DropsNew h v old new) → opening_work v ≡ 0
  none-short k = by k.opening
    where
      is14 : drop_number k.by ≡ 14
      is14 = only-unknown k.by old new spared k.low kinds (ap (λ (e : EntityState). e.drops) k.is) k.kinds

      by : (opening_work v ≡ 0) ⊎ (drop_number k.by ≢ 14) → opening_work v ≡ 0
      by (inl none) = none
      by (inr apart) = absurd (apart is14)

  -- what the record leaves that was opened
  abbrev left : Addressing → After
  left a = opens Done Done st.policy.times st.files h.large v a

  opened-left : (k : OpensRecord h v old new) → opens k.opens.begun k.opens.stored st.policy.times st.files h.large v (addressing_in h) ≡ left (addressing_in h)
  opened-left k =
      let begun : k.opens.begun ≡ Done = was-done k.opens.begun old.inbox_failures new.inbox_failures k.opens.counts.0 spared.inbox inbox-low in
      let done : k.opens.stored ≡ Done = was-done k.opens.stored old.inbox_failures new.inbox_failures k.opens.counts.1 spared.inbox inbox-low in
      ap (λ b. opens b k.opens.stored st.policy.times st.files h.large v (addressing_in h)) begun ∙ ap (λ s. opens Done s st.policy.times st.files h.large v (addressing_in h)) done

  opened-told : (k : OpensRecord h v old new) → new.state.table.told ≡ st.told ++ (left (addressing_in h)).told
  opened-told k = ap (λ (e : EntityState). e.table.told) k.opens.opens ∙ ap (λ (a : After). st.told ++ a.told) (opened-left k)

  opened-other : (k : OpensRecord h v old new) → same_id put.id h.id ≡ false → record_of put.id new.state.table.records ≡ record_of put.id st.records
  opened-other k differs = ap (λ (e : EntityState). record_of put.id e.table.records) k.opens.opens
      ∙ push-other st.records h.id put.id (opens k.opens.begun k.opens.stored st.policy.times st.files h.large v (addressing_in h)).seen differs

  opened-own : (k : OpensRecord h v old new) → h.id ≡ put.id → record_of put.id new.state.table.records ≡ Some (left (addressing_in h)).seen
  opened-own k same =
      let none : record_of put.id st.records ≡ None = none-there same k.none in
      let a : After = opens k.opens.begun k.opens.stored st.policy.times st.files h.large v (addressing_in h) in
      ap (λ (e : EntityState). record_of put.id e.table.records) k.opens.opens ∙ ap (λ q. record_of put.id (st.records ++ (q, a.seen) ∷ [])) same ∙ push-own st.records put.id a.seen none
      ∙ ap (λ (x : After). Some x.seen) (opened-left k)

  -- ---- the put's entity hears the PDU at the front of its way back
  module _ (theirs : EntityState) (forth rest : List Pdu) where
    abbrev MineGoes : Type 0
    MineGoes = Goes put old.state theirs forth (p ∷ rest) new.state theirs forth rest

    mine-stepped : StepsRecord h v old new → MineGoes
    mine-stepped k = by (slice_get st.records k.place) refl (ap (λ (e : EntityState). e.table) k.steps.steps)
      where
        g : Seen → After
        g s = hears k.steps.stored st.policy.times st.files h.large v s

        by : (o : Option Entry) → slice_get st.records k.place ≡ o → new.state.table ≡ step_of (λ e. hears k.steps.stored st.policy.times st.files h.large v e.1) k.place o st → MineGoes
        by None none is = absurd (no-place h.id st.records k.place k.at none)
        by (Some e) at is = mine-steps put old.state new.state theirs forth forth (p ∷ rest) rest k.place e (hears k.steps.stored st.policy.times st.files h.large v e.1) order.distinct at
            (ap (λ (t : TableState). t.records) is) (ap (λ (t : TableState). t.told) is) (λ _. refl) (λ differs. is-other rest (differs-too put.id h.id e.0 (is-there k.place e k.at at) differs))
            (λ same. own e.1 same (at ∙ ap (λ i. Some (i, e.1)) (sym same)))
          where
            own : (s : Seen) → put.id ≡ e.0 → slice_get st.records k.place ≡ Some (put.id, s) →
                MineTo put s (hears k.steps.stored st.policy.times st.files h.large v s) (of_id put.id forth) (of_id put.id forth) (of_id put.id (p ∷ rest)) (of_id put.id rest)
            own (Receives r m) same there = tt
            own (Sends x) same there =
                let i : SendsIt put st.sources x = sends-it put put_of found st.sources put.id x refl (order.own k.place (put.id, Sends x) there).1 in
                subst (λ l. SenderTo put x (hears k.steps.stored st.policy.times st.files h.large v (Sends x)) (of_id put.id forth) (of_id put.id forth) l (of_id put.id rest))
                (is-own rest (is-there k.place (put.id, Sends x) k.at there))
                (sender-hears put x (record { is_sender = i.is_sender; in_file = i.in_file }) st.policy.times st.files k.steps.stored (of_id put.id forth) (of_id put.id rest) h.large v)

    -- if it has no record there is no exchange
    none-mine : h.id ≡ put.id → place_of h.id st.records ≡ None → MineGoes
    none-mine same none e x = absurd (let no : None ≡ Some (Sends e.sender) = sym (none-there same none) ∙ x.is_sender in cc)

    mine-opened : OpensRecord h v old new → MineGoes
    mine-opened k = elim (same_id put.id h.id) as (λ b. same_id put.id h.id ≡ b → MineGoes) [
      | true ↦ λ is. none-mine (sym (same_id-true put.id h.id is)) k.none
      | false ↦ λ differs. stays-same put old.state theirs forth (p ∷ rest) new.state theirs forth rest (left (addressing_in h)).told [] (opened-told k) (sym (append-nil theirs.table.told))
          (opened-other k differs) refl refl (is-other rest differs)
    ] refl

    mine-dropped : DropsNew h v old new → MineGoes
    mine-dropped k = elim (same_id put.id h.id) as (λ b. same_id put.id h.id ≡ b → MineGoes) [
      | true ↦ λ is. none-mine (sym (same_id-true put.id h.id is)) k.none
      | false ↦ λ differs. stays-same put old.state theirs forth (p ∷ rest) new.state theirs forth rest [] [] (ap (λ (e : EntityState). e.table.told) k.is ∙ sym (append-nil st.told))
          (sym (append-nil theirs.table.told))
          (ap (λ (e : EntityState). record_of put.id e.table.records) k.is) refl refl (is-other rest differs)
    ] refl

    pub heard-mine : HeardSo h v old new → MineGoes
    heard-mine (inl k) = mine-stepped k
    heard-mine (inr (inl k)) = mine-opened k
    heard-mine (inr (inr (inl k))) = mine-dropped k
    heard-mine (inr (inr (inr k))) = absurd (never-spoiled k)

  -- ---- the other entity hears the PDU at the front of its way
  module _ (laws : HearingLaws) (fits : IsReceivable put) (allowed : h.id ≡ put.id → IsTrueForth put v → length put.octets ≤ size_limit h.large) (heard : List (List ℕ))
      (true_of : IsTrueOf put_of heard h.id v) (own : ℕ)
      (knows : (place : ℕ) (e : Entry) → slice_get st.records place ≡ Some e → KnowsTruth own put_of heard e.0 e.1)
      (mine : EntityState) (rest back : List Pdu) where
    abbrev TheirsGoes : Type 0
    TheirsGoes = Goes put mine old.state (p ∷ rest) back mine new.state rest back

    of-put : h.id ≡ put.id → IsTrueOf put_of heard put.id v
    of-put same = subst (λ i. IsTrueOf put_of heard i v) same true_of

    theirs-stepped : StepsRecord h v old new → TheirsGoes
    theirs-stepped k = by (slice_get st.records k.place) refl (ap (λ (e : EntityState). e.table) k.steps.steps)
      where
        by : (o : Option Entry) → slice_get st.records k.place ≡ o → new.state.table ≡ step_of (λ e. hears k.steps.stored st.policy.times st.files h.large v e.1) k.place o st → TheirsGoes
        by None none is = absurd (no-place h.id st.records k.place k.at none)
        by (Some e) at is = theirs-steps put mine old.state new.state (p ∷ rest) rest back back k.place e (hears k.steps.stored st.policy.times st.files h.large v e.1) order.distinct at
            (ap (λ (t : TableState). t.records) is) (ap (λ (t : TableState). t.told) is) (λ differs. is-other rest (differs-too put.id h.id e.0 (is-there k.place e k.at at) differs)) (λ _. refl)
            (λ same. its e.1 same (at ∙ ap (λ i. Some (i, e.1)) (sym same)))
          where
            its : (s : Seen) → put.id ≡ e.0 → slice_get st.records k.place ≡ Some (put.id, s) →
                TheirsTo put s (hears k.steps.stored st.policy.times st.files h.large v s) (of_id put.id (p ∷ rest)) (of_id put.id rest) (of_id put.id back) (of_id put.id back)
            its (Sends x) same there = tt
            its (Receives r m) same there =
                let key : h.id ≡ put.id = is-there k.place (put.id, Receives r m) k.at there in
                let it : KnowsPut own put_of heard put.id r m = knows k.place (put.id, Receives r m) there in
                let sound : Sound put heard r m = subst (λ (q : Put). Sound q heard r m) (some-same (sym it.is_put ∙ found)) it.sound in
                subst (λ l. ReceiverTo put r (hears k.steps.stored st.policy.times st.files h.large v (Receives r m)) l (of_id put.id rest) (of_id put.id back) (of_id put.id back)) (is-own rest key)
                (subst (λ s. ReceiverTo put r (hears s st.policy.times st.files h.large v (Receives r m)) (v ∷ of_id put.id rest) (of_id put.id rest) (of_id put.id back) (of_id put.id back))
                (sym (stepped-done k))
                (receiver-hears put r m it.same_id st.policy.times st.files (of_id put.id rest) (of_id put.id back) h.large v
                (faultless-heard laws put fits put_of found heard h.large v (allowed key) (of-put key) m st.files r sound)))

    theirs-opened : OpensRecord h v old new → TheirsGoes
    theirs-opened k = elim (same_id put.id h.id) as (λ b. same_id put.id h.id ≡ b → TheirsGoes) [
      | true ↦ λ is. (let key : h.id ≡ put.id = sym (same_id-true put.id h.id is) in
          receiver-opens put mine old.state new.state (p ∷ rest) rest back back (left (addressing_in h)) (opened-told k) (none-there key k.none) (opened-own k key) refl
          (subst (λ l. OpensTo put (left (addressing_in h)) l (of_id put.id rest) (of_id put.id back)) (is-own rest key)
          (receiver-opened st.policy.times st.files h.large (addressing_in h) put key (of_id put.id rest) (of_id put.id back) v k.opening
          (faultless-opened laws put fits put_of found heard h.large v (allowed key) (of-put key) st.policy.times st.files (addressing_in h)))))
      | false ↦ λ differs. stays-same put mine old.state (p ∷ rest) back mine new.state rest back [] (left (addressing_in h)).told (sym (append-nil mine.table.told)) (opened-told k) refl
          (opened-other k differs) (is-other rest differs) refl
    ] refl

    theirs-dropped : DropsNew h v old new → TheirsGoes
    theirs-dropped k = elim (same_id put.id h.id) as (λ b. same_id put.id h.id ≡ b → TheirsGoes) [
      | true ↦ λ is. (let key : h.id ≡ put.id = sym (same_id-true put.id h.id is) in
          goes-unheard put mine old.state new.state (p ∷ rest) rest back back (ap (λ (e : EntityState). e.table) k.is) (none-there key k.none) refl
          (λ x b c. subst (λ l. Settles put (made x None l (of_id put.id back) b c) (made x None (of_id put.id rest) (of_id put.id back) b c)) (is-own rest key)
          (goes-by-unheard put x b c (of_id put.id rest) (of_id put.id back) v (none-short k))))
      | false ↦ λ differs. stays-same put mine old.state (p ∷ rest) back mine new.state rest back [] [] (sym (append-nil mine.table.told))
          (ap (λ (e : EntityState). e.table.told) k.is ∙ sym (append-nil st.told))
          refl (ap (λ (e : EntityState). record_of put.id e.table.records) k.is) (is-other rest differs) refl
    ] refl

    pub heard-theirs : HeardSo h v old new → TheirsGoes
    heard-theirs (inl k) = theirs-stepped k
    heard-theirs (inr (inl k)) = theirs-opened k
    heard-theirs (inr (inr (inl k))) = theirs-dropped k
    heard-theirs (inr (inr (inr k))) = absurd (never-spoiled k)
