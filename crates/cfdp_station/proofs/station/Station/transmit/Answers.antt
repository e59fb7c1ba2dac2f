-- The vector has the octets of a frame, and keeps them.
use Rattle.std.proofs.Common.{◌≡◌, ◌∙◌, ℕ, ◌++◌, List, Result, Ok, Err, OnOk, length, take, drop, length-take, length-append, length-drop, ap, arith}
use Rattle.aos_frame.specs.declared.config.Lane.TheVariants.{Directives}
use Rattle.cfdp_station.proofs.station.Station.transmit.Goals as goal

pub transmit_into-requires : goal.transmit_into-requires
transmit_into-requires g c = ap length c.as_mut_slice.ensures.value ∙ c.in_ok-fit.ensures ∙ c.frame_len.ensures Directives

-- what is written to all of a vector leaves its length
written : (len k : ℕ) (new items : List ℕ) → len ≡ length items → length new ≡ k → length items ≡ k → length (take len (new ++ drop (length new) items)) ≡ k
written len k new items same long all = simp (length-take, length-append, length-drop) (omega (arith, same, long, all))

on_ok : {A E : Type 0} (r : Result A E) (P : Type 0) → P → OnOk r P
on_ok (Ok x) P holds = holds
on_ok (Err e) P holds = tt

pub returns-clause-len : goal.returns-clause-len
returns-clause-len g c =
    let all = c.in_ok-fit.ensures ∙ c.frame_len.ensures Directives in
    let long = c.transmit_into.auto.frame ∙ ap length c.as_mut_slice.ensures.value ∙ all in
    on_ok c.transmit_into.result _ (written c.fit.new.frame.len _ c.transmit_into.new.frame c.fit.new.frame.items c.fit.new.frame.ok.0 long all)
