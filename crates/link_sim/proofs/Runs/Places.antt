-- The run of its own that a put makes if one of the two entities makes a step of the record at a
-- place.
use Rattle.std.proofs.Common.{◌≡◌, ℕ, zero, suc, Bool, true, false, List, [], ◌++◌, append-nil, Option, Some, None, inl, inr, refl, sym, ap, subst, ◌∙◌}
use Rattle.std.specs.List.{IsDistinct}
use Rattle.std.specs.Map.{keys_of}
use Rattle.std.specs.Prelude.{slice_get}
use Rattle.std.proofs.lemmas.Bool.{or_left}
use Rattle.cfdp_header.specs.Ids.{same_id}
use Rattle.cfdp_directives.specs.declared.user.indication.Indication.{Indication}
use Rattle.cfdp_directives.specs.Pdu.Content.{Content}
use Rattle.cfdp_directives.specs.User.Put.{Put}
use Rattle.cfdp_store.specs.Staged.{OctetMap}
use Rattle.cfdp_sender.specs.State.{SenderState}
use Rattle.cfdp_receiver.specs.State.{ReceiverState}
use Rattle.cfdp_entity.specs.Entity.{EntityState}
use Rattle.cfdp_entity.specs.Seen.{Seen, Sends, Receives}
use Rattle.cfdp_entity.specs.Steps.{After}
use Rattle.cfdp_entity.specs.Table.{Entry, record_of, stepped}
use Rattle.cfdp_entity.proofs.CallerLemmas.{same_id-true, step-own, step-other}
use Rattle.cfdp_entity.proofs.Histories.{key-at}
use Rattle.link_sim.specs.Between.{Pdu, of_id, IsReceiverIn}
use Rattle.link_sim.specs.Exchange.{tells_complete}
use Rattle.link_sim.specs.Found.{IsExchange}
use Rattle.link_sim.specs.Runs.{Exchange, Runs, Settles, TellsMore, told_then, IsSwapped}
use Rattle.link_sim.proofs.EveryPut.Goes.{at-own}
use Rattle.link_sim.proofs.EveryPut.Views.{some-same, told-more}
use Rattle.link_sim.specs.Waiting.{one_tells}
use Rattle.link_sim.proofs.Lanes.Swapping.{swapped-of}

-- ---- runs, one after the other
pub runs-both : (n m : ℕ) (put : Put) (a b c : Exchange) → Runs n put a b → Runs m put b c → (k : ℕ) × Runs k put a c
unfolding Runs
runs-both n zero put a b c p q = (n, subst (λ (x : Exchange). Runs n put a x) (sym q) p)
runs-both n (suc m) put a b c p q =
    let r : (k : ℕ) × Runs k put a q.0 = runs-both n m put a b q.0 p q.1.0 in
    (suc r.0, (q.0, (r.1, q.1.1)))

-- ---- what an exchange of these two entities comes to
pub record RunsInto (put : Put) (mine theirs : EntityState) (forth back : List Pdu) (old : Exchange) : Type 0 where
  pub steps : ℕ
  pub end : Exchange
  pub is_end : IsExchange put mine theirs forth back end
  pub runs : Runs steps put old end

-- Whatever exchange of the put the two entities have, it runs into one that they have then.
abbrev pub Goes : Put → (mine theirs : EntityState) (forth back : List Pdu) (mine1 theirs1 : EntityState) (forth1 back1 : List Pdu) → Type 0
Goes put mine theirs forth back mine1 theirs1 forth1 back1 = (e : Exchange) → IsExchange put mine theirs forth back e → RunsInto put mine1 theirs1 forth1 back1 e

pub goes-none : (put : Put) (mine theirs : EntityState) (forth back : List Pdu) → Goes put mine theirs forth back mine theirs forth back
unfolding Runs
goes-none put mine theirs forth back e h = record { steps = zero; end = e; is_end = h; runs = refl }

pub goes-both : (put : Put) (m th : EntityState) (f k : List Pdu) (m1 th1 : EntityState) (f1 k1 : List Pdu) (m2 th2 : EntityState) (f2 k2 : List Pdu) → Goes put m th f k m1 th1 f1 k1 →
    Goes put m1 th1 f1 k1 m2 th2 f2 k2 → Goes put m th f k m2 th2 f2 k2
goes-both put m th f k m1 th1 f1 k1 m2 th2 f2 k2 p q e h =
    let a : RunsInto put m1 th1 f1 k1 e = p e h in
    let b : RunsInto put m2 th2 f2 k2 a.end = q a.end a.is_end in
    let r : (n : ℕ) × Runs n put e b.end = runs-both a.steps b.steps put e a.end b.end a.runs b.runs in
    record { steps = r.0; end = b.end; is_end = b.is_end; runs = r.1 }

-- ---- an exchange by its parts
abbrev pub made : SenderState → Option ReceiverState → (forth back : List Content) → (told told_there : Bool) → Exchange
made x o forth back b c = record { sender = x; receiver = o; forth = forth; back = back; told = b; told_there = c }

module _ (put : Put) where
  -- of the put in these two entities, whose records are so
  abbrev pub view : SenderState → Option ReceiverState → (mine theirs : EntityState) (forth back : List Pdu) → Exchange
  view x o mine theirs forth back = made x o (of_id put.id forth) (of_id put.id back) (one_tells (tells_complete put.id) mine.table.told) (one_tells (tells_complete put.id) theirs.table.told)

  view-is : (mine theirs : EntityState) (forth back : List Pdu) (e : Exchange) → IsExchange put mine theirs forth back e → view e.sender e.receiver mine theirs forth back ≡ e
  view-is mine theirs forth back e h =
      ap (λ l. made e.sender e.receiver l (of_id put.id back) (one_tells (tells_complete put.id) mine.table.told) (one_tells (tells_complete put.id) theirs.table.told)) h.is_forth
      ∙ ap (λ l. made e.sender e.receiver e.forth l (one_tells (tells_complete put.id) mine.table.told) (one_tells (tells_complete put.id) theirs.table.told)) h.is_back
      ∙ ap (λ t. made e.sender e.receiver e.forth e.back t (one_tells (tells_complete put.id) theirs.table.told)) h.is_told
      ∙ ap (λ t. made e.sender e.receiver e.forth e.back e.told t) h.is_told_there

  module _ (mine theirs : EntityState) (forth back : List Pdu) (mine1 theirs1 : EntityState) (forth1 back1 : List Pdu) where
    pub goes-by : ((x : SenderState) (o : Option ReceiverState) → record_of put.id mine.table.records ≡ Some (Sends x) → IsReceiverIn (record_of put.id theirs.table.records) o →
        RunsInto put mine1 theirs1 forth1 back1 (view x o mine theirs forth back))
        → Goes put mine theirs forth back mine1 theirs1 forth1 back1
    goes-by steps e h = subst (λ (q : Exchange). RunsInto put mine1 theirs1 forth1 back1 q) (view-is mine theirs forth back e h) (steps e.sender e.receiver h.is_sender h.is_receiver)

    -- one step
    pub one-step : (e end : Exchange) → IsExchange put mine1 theirs1 forth1 back1 end → Settles put e end → RunsInto put mine1 theirs1 forth1 back1 e
    unfolding Runs
    one-step e end is s = record { steps = suc zero; end = end; is_end = is; runs = (e, (refl, s)) }

    -- nothing changes of the put, but that more may be indicated
    pub stays-same : (gained gained_there : List Indication) → mine1.table.told ≡ mine.table.told ++ gained → theirs1.table.told ≡ theirs.table.told ++ gained_there
        → record_of put.id mine1.table.records ≡ record_of put.id mine.table.records → record_of put.id theirs1.table.records ≡ record_of put.id theirs.table.records → of_id put.id forth1
        ≡ of_id put.id forth → of_id put.id back1 ≡ of_id put.id back
        → Goes put mine theirs forth back mine1 theirs1 forth1 back1
    stays-same gained gained_there g t same same_there f k = goes-by (λ x o is there.
        let b : Bool = one_tells (tells_complete put.id) mine.table.told in
        let c : Bool = one_tells (tells_complete put.id) theirs.table.told in
        let b1 : Bool = one_tells (tells_complete put.id) mine1.table.told in
        let c1 : Bool = one_tells (tells_complete put.id) theirs1.table.told in
        let more : TellsMore (view x o mine theirs forth back) (made x o (of_id put.id forth) (of_id put.id back) b1 c1) = record {
          told = b1;
          told_there = c1;
          stays = λ h. sym (told-more (tells_complete put.id) mine.table.told gained mine1.table.told g) ∙ or_left _ _ h;
          stays_there = λ h. sym (told-more (tells_complete put.id) theirs.table.told gained_there theirs1.table.told t) ∙ or_left _ _ h;
          is = refl;
        } in
        one-step (view x o mine theirs forth back) (made x o (of_id put.id forth) (of_id put.id back) b1 c1)
        (record { is_sender = same ∙ is; is_receiver = subst (λ p. IsReceiverIn p o) (sym same_there) there; is_forth = f; is_back = k; is_told = refl; is_told_there = refl })
        (inr (inr (inr (inr (inr (inr (inr (inr (inr more))))))))))

-- one lane overtakes the other: each put makes that one step
pub goes-overtaken : (put : Put) (mine theirs : EntityState) (forth back forth1 back1 : List Pdu) → IsSwapped forth forth1 → IsSwapped back back1 →
    Goes put mine theirs forth back mine theirs forth1 back1
goes-overtaken put mine theirs forth back forth1 back1 f k = goes-by put mine theirs forth back mine theirs forth1 back1 (λ x o is there.
    let b : Bool = one_tells (tells_complete put.id) mine.table.told in
    let c : Bool = one_tells (tells_complete put.id) theirs.table.told in
    one-step put mine theirs forth back mine theirs forth1 back1 (view put x o mine theirs forth back) (made x o (of_id put.id forth1) (of_id put.id back1) b c)
    (record { is_sender = is; is_receiver = there; is_forth = refl; is_back = refl; is_told = refl; is_told_there = refl })
    (inr (inr (inr (inr (inr (inr (inr (inr (inl (record {
      forth = of_id put.id forth1;
      back = of_id put.id back1;
      swaps = swapped-of put.id forth forth1 f;
      swaps_back =
          swapped-of put.id back back1 k;
      is = refl;
    })))))))))))

-- ---- a step of a record, as far as the put is concerned
-- of its sender
pub record SenderTo (put : Put) (x : SenderState) (a : After) (forth forth1 back back1 : List Content) : Type 0 where
  pub sender : SenderState
  pub is_sender : a.seen ≡ Sends sender
  pub step : (o : Option ReceiverState) (b c : Bool) → Settles put (made x o forth back b c) (made sender o forth1 back1 (told_then put b a.told) c)

abbrev pub MineTo : Put → Seen → After → (forth forth1 back back1 : List Content) → Type 0
MineTo put (Sends x) a forth forth1 back back1 = SenderTo put x a forth forth1 back back1
MineTo put (Receives r m) a forth forth1 back back1 = Unit {0}

-- of its receiver
pub record ReceiverTo (put : Put) (r : ReceiverState) (a : After) (forth forth1 back back1 : List Content) : Type 0 where
  pub receiver : ReceiverState
  pub octets : OctetMap
  pub is_receiver : a.seen ≡ Receives receiver octets
  pub step : (x : SenderState) (b c : Bool) → Settles put (made x (Some r) forth back b c) (made x (Some receiver) forth1 back1 b (told_then put c a.told))

abbrev pub TheirsTo : Put → Seen → After → (forth forth1 back back1 : List Content) → Type 0
TheirsTo put (Receives r m) a forth forth1 back back1 = ReceiverTo put r a forth forth1 back back1
TheirsTo put (Sends x) a forth forth1 back back1 = Unit {0}

-- a receiver is opened
pub record OpensTo (put : Put) (a : After) (forth forth1 back : List Content) : Type 0 where
  pub receiver : ReceiverState
  pub octets : OctetMap
  pub is_receiver : a.seen ≡ Receives receiver octets
  pub step : (x : SenderState) (b c : Bool) → Settles put (made x None forth back b c) (made x (Some receiver) forth1 back b (told_then put c a.told))

module _ (put : Put) where
  -- ---- the put's entity went on
  module _ (mine mine1 theirs : EntityState) (forth forth1 back back1 : List Pdu) where
    sender-goes : (y : SenderState) (a : After) → mine1.table.told ≡ mine.table.told ++ a.told → record_of put.id mine.table.records ≡ Some (Sends y) → record_of put.id mine1.table.records
        ≡ Some a.seen
        → SenderTo put y a (of_id put.id forth) (of_id put.id forth1) (of_id put.id back) (of_id put.id back1) → Goes put mine theirs forth back mine1 theirs forth1 back1
    sender-goes y a g was now k = goes-by put mine theirs forth back mine1 theirs forth1 back1 (λ x o is there.
        let same_seen : Sends y ≡ Sends x = some-same (sym was ∙ is) in
        let same : y ≡ x = cc in
        let b : Bool = one_tells (tells_complete put.id) mine.table.told in
        let c : Bool = one_tells (tells_complete put.id) theirs.table.told in
        subst (λ (z : SenderState). RunsInto put mine1 theirs forth1 back1 (view put z o mine theirs forth back)) same
        (one-step put mine theirs forth back mine1 theirs forth1 back1 (view put y o mine theirs forth back) (made k.sender o (of_id put.id forth1) (of_id put.id back1) (told_then put b a.told) c)
        (record {
          is_sender = now ∙ ap Some k.is_sender;
          is_receiver = there;
          is_forth = refl;
          is_back = refl;
          is_told = sym (told-more (tells_complete put.id) mine.table.told a.told mine1.table.told g);
          is_told_there = refl;
        })
        (k.step o b c)))

    -- if it has no sender there is no exchange
    none-sends : (s : Seen) → record_of put.id mine.table.records ≡ Some s → ((x : SenderState) → s ≡ Sends x → ⊥) → (mine2 theirs2 : EntityState) (forth2 back2 : List Pdu) →
        Goes put mine theirs forth back mine2 theirs2 forth2 back2
    none-sends s was never mine2 theirs2 forth2 back2 e h = absurd (never e.sender (some-same (sym was ∙ h.is_sender)))

    -- it made a step of the record at a place, and said what is of that record's transaction
    pub mine-steps : (place : ℕ) (e : Entry) (a : After) → IsDistinct same_id (keys_of mine.table.records) → slice_get mine.table.records place ≡ Some e → mine1.table.records
        ≡ (stepped place e.0 a mine.table).records → mine1.table.told ≡ mine.table.told ++ a.told
        → (same_id put.id e.0 ≡ false → of_id put.id forth1 ≡ of_id put.id forth) → (same_id put.id e.0 ≡ false → of_id put.id back1 ≡ of_id put.id back)
        → (put.id ≡ e.0 → MineTo put e.1 a (of_id put.id forth) (of_id put.id forth1) (of_id put.id back) (of_id put.id back1)) → Goes put mine theirs forth back mine1 theirs forth1 back1
    mine-steps place e a apart at records g f k own = elim (same_id put.id e.0) as (λ b. same_id put.id e.0 ≡ b → Goes put mine theirs forth back mine1 theirs forth1 back1) [
      | true ↦ λ is. (let same : put.id ≡ e.0 = same_id-true put.id e.0 is in mine_own same e.1 refl (own same))
      | false ↦ λ differs. stays-same put mine theirs forth back mine1 theirs forth1 back1 a.told [] g (sym (append-nil theirs.table.told))
          (ap (record_of put.id) records ∙ step-other mine.table.records place e.0 put.id a.seen (key-at mine.table.records place e at) differs) refl (f differs) (k differs)
    ] refl
      where
        mine_own : (same : put.id ≡ e.0) (r : Seen) → e.1 ≡ r → MineTo put r a (of_id put.id forth) (of_id put.id forth1) (of_id put.id back) (of_id put.id back1) →
            Goes put mine theirs forth back mine1 theirs forth1 back1
        mine_own same r is goes =
            let was : record_of put.id mine.table.records ≡ Some r = ap (λ q. record_of q mine.table.records) same ∙ at-own mine.table.records place e apart at ∙ ap Some is in
            let now : record_of put.id mine1.table.records ≡ Some a.seen = ap (record_of put.id) records ∙ ap (λ q. record_of q (stepped place e.0 a mine.table).records) same
            ∙ step-own mine.table.records place e a.seen apart (key-at mine.table.records place e at) in
            by r was now goes
          where
            by : (r : Seen) → record_of put.id mine.table.records ≡ Some r → record_of put.id mine1.table.records ≡ Some a.seen →
                MineTo put r a (of_id put.id forth) (of_id put.id forth1) (of_id put.id back) (of_id put.id back1) → Goes put mine theirs forth back mine1 theirs forth1 back1
            by (Sends x) was now goes = sender-goes x a g was now goes
            by (Receives r m) was now goes = none-sends (Receives r m) was (λ x h. (let no : Receives r m ≡ Sends x = h in cc)) mine1 theirs forth1 back1

  -- ---- the other entity went on
  module _ (mine theirs theirs1 : EntityState) (forth forth1 back back1 : List Pdu) where
    receiver-goes : (r : ReceiverState) (m : OctetMap) (a : After) → theirs1.table.told ≡ theirs.table.told ++ a.told → record_of put.id theirs.table.records ≡ Some (Receives r m) →
        record_of put.id theirs1.table.records ≡ Some a.seen
        → ReceiverTo put r a (of_id put.id forth) (of_id put.id forth1) (of_id put.id back) (of_id put.id back1) → Goes put mine theirs forth back mine theirs1 forth1 back1
    receiver-goes r m a g was now k = goes-by put mine theirs forth back mine theirs1 forth1 back1 (λ x o is there. by x is o (subst (λ p. IsReceiverIn p o) was there))
      where
        by : (x : SenderState) → record_of put.id mine.table.records ≡ Some (Sends x) → (o : Option ReceiverState) → IsReceiverIn (Some (Receives r m)) o →
            RunsInto put mine theirs1 forth1 back1 (view put x o mine theirs forth back)
        by x is None h = absurd h
        by x is (Some s) h =
            let b : Bool = one_tells (tells_complete put.id) mine.table.told in
            let c : Bool = one_tells (tells_complete put.id) theirs.table.told in
            subst (λ (q : ReceiverState). RunsInto put mine theirs1 forth1 back1 (view put x (Some q) mine theirs forth back)) (sym h)
            (one-step put mine theirs forth back mine theirs1 forth1 back1 (view put x (Some r) mine theirs forth back)
            (made x (Some k.receiver) (of_id put.id forth1) (of_id put.id back1) b (told_then put c a.told))
            (record {
              is_sender = is;
              is_receiver = subst (λ p. IsReceiverIn p (Some k.receiver)) (sym (now ∙ ap Some k.is_receiver)) refl;
              is_forth = refl;
              is_back = refl;
              is_told = refl;
              is_told_there = sym (told-more (tells_complete put.id) theirs.table.told a.told theirs1.table.told g);
            })
            (k.step x b c))

    -- a record was opened
    pub receiver-opens : (a : After) → theirs1.table.told ≡ theirs.table.told ++ a.told → record_of put.id theirs.table.records ≡ None → record_of put.id theirs1.table.records ≡ Some a.seen →
        of_id put.id back1 ≡ of_id put.id back
        → OpensTo put a (of_id put.id forth) (of_id put.id forth1) (of_id put.id back) → Goes put mine theirs forth back mine theirs1 forth1 back1
    receiver-opens a g was now same k = goes-by put mine theirs forth back mine theirs1 forth1 back1 (λ x o is there. by x is o (subst (λ p. IsReceiverIn p o) was there))
      where
        by : (x : SenderState) → record_of put.id mine.table.records ≡ Some (Sends x) → (o : Option ReceiverState) → IsReceiverIn None o →
            RunsInto put mine theirs1 forth1 back1 (view put x o mine theirs forth back)
        by x is (Some s) h = absurd h
        by x is None h =
            let b : Bool = one_tells (tells_complete put.id) mine.table.told in
            let c : Bool = one_tells (tells_complete put.id) theirs.table.told in
            one-step put mine theirs forth back mine theirs1 forth1 back1 (view put x None mine theirs forth back)
            (made x (Some k.receiver) (of_id put.id forth1) (of_id put.id back) b (told_then put c a.told))
            (record {
              is_sender = is;
              is_receiver = subst (λ p. IsReceiverIn p (Some k.receiver)) (sym (now ∙ ap Some k.is_receiver)) refl;
              is_forth = refl;
              is_back = same;
              is_told = refl;
              is_told_there = sym (told-more (tells_complete put.id) theirs.table.told a.told theirs1.table.told g);
            })
            (k.step x b c)

    -- a PDU found no record, and opened none
    pub goes-unheard : theirs1.table ≡ theirs.table → record_of put.id theirs.table.records ≡ None → of_id put.id back1 ≡ of_id put.id back
        → ((x : SenderState) (b c : Bool) → Settles put (made x None (of_id put.id forth) (of_id put.id back) b c) (made x None (of_id put.id forth1) (of_id put.id back) b c)) →
        Goes put mine theirs forth back mine theirs1 forth1 back1
    goes-unheard table was same step = goes-by put mine theirs forth back mine theirs1 forth1 back1 (λ x o is there. by x is o (subst (λ p. IsReceiverIn p o) was there))
      where
        by : (x : SenderState) → record_of put.id mine.table.records ≡ Some (Sends x) → (o : Option ReceiverState) → IsReceiverIn None o →
            RunsInto put mine theirs1 forth1 back1 (view put x o mine theirs forth back)
        by x is (Some s) h = absurd h
        by x is None h =
            let b : Bool = one_tells (tells_complete put.id) mine.table.told in
            let c : Bool = one_tells (tells_complete put.id) theirs.table.told in
            one-step put mine theirs forth back mine theirs1 forth1 back1 (view put x None mine theirs forth back) (made x None (of_id put.id forth1) (of_id put.id back) b c)
            (record {
              is_sender = is;
              is_receiver = subst (λ p. IsReceiverIn p None) (sym (ap (λ t. record_of put.id t.records) table ∙ was)) tt;
              is_forth = refl;
              is_back = same;
              is_told = refl;
              is_told_there = ap (λ t. one_tells (tells_complete put.id) t.told) table;
            })
            (step x b c)

    -- it made a step of the record at a place, and said what is of that record's transaction
    pub theirs-steps : (place : ℕ) (e : Entry) (a : After) → IsDistinct same_id (keys_of theirs.table.records) → slice_get theirs.table.records place ≡ Some e → theirs1.table.records
        ≡ (stepped place e.0 a theirs.table).records → theirs1.table.told ≡ theirs.table.told ++ a.told
        → (same_id put.id e.0 ≡ false → of_id put.id forth1 ≡ of_id put.id forth) → (same_id put.id e.0 ≡ false → of_id put.id back1 ≡ of_id put.id back)
        → (put.id ≡ e.0 → TheirsTo put e.1 a (of_id put.id forth) (of_id put.id forth1) (of_id put.id back) (of_id put.id back1)) → Goes put mine theirs forth back mine theirs1 forth1 back1
    theirs-steps place e a apart at records g f k own = elim (same_id put.id e.0) as (λ b. same_id put.id e.0 ≡ b → Goes put mine theirs forth back mine theirs1 forth1 back1) [
      | true ↦ λ is. (let same : put.id ≡ e.0 = same_id-true put.id e.0 is in theirs_own same e.1 refl (own same))
      | false ↦ λ differs. stays-same put mine theirs forth back mine theirs1 forth1 back1 [] a.told (sym (append-nil mine.table.told)) g
          refl (ap (record_of put.id) records ∙ step-other theirs.table.records place e.0 put.id a.seen (key-at theirs.table.records place e at) differs) (f differs) (k differs)
    ] refl
      where
        theirs_own : (same : put.id ≡ e.0) (r : Seen) → e.1 ≡ r → TheirsTo put r a (of_id put.id forth) (of_id put.id forth1) (of_id put.id back) (of_id put.id back1) →
            Goes put mine theirs forth back mine theirs1 forth1 back1
        theirs_own same r is goes =
            let was : record_of put.id theirs.table.records ≡ Some r = ap (λ q. record_of q theirs.table.records) same ∙ at-own theirs.table.records place e apart at ∙ ap Some is in
            let now : record_of put.id theirs1.table.records ≡ Some a.seen = ap (record_of put.id) records ∙ ap (λ q. record_of q (stepped place e.0 a theirs.table).records) same
            ∙ step-own theirs.table.records place e a.seen apart (key-at theirs.table.records place e at) in
            by r was now goes
          where
            by : (r : Seen) → record_of put.id theirs.table.records ≡ Some r → record_of put.id theirs1.table.records ≡ Some a.seen →
                TheirsTo put r a (of_id put.id forth) (of_id put.id forth1) (of_id put.id back) (of_id put.id back1) → Goes put mine theirs forth back mine theirs1 forth1 back1
            by (Receives r m) was now goes = receiver-goes r m a g was now goes
            by (Sends x) was now goes = λ e h. absurd (none e.receiver (subst (λ o. IsReceiverIn o e.receiver) was h.is_receiver))
              where
                none : (o : Option ReceiverState) → IsReceiverIn (Some (Sends x)) o → ⊥
                none (Some r) h = h
                none None h = h
