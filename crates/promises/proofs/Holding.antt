-- What is kept of two stations, with histories of both for which the promise holds, as calls are
-- made.
use Rattle.std.proofs.Common.{◌≡◌, ℕ, ◌+◌, ◌<◌, ◌≤◌, List, [], ◌∷◌, ◌++◌, length, map, refl, sym, ap, subst, ◌∙◌, inl, inr, arith, length-append}
use Rattle.std.proofs.lemmas.List.{length-map}
use Rattle.aos_frame.specs.declared.config.Lane.{Lane}
use Rattle.aos_frame.specs.declared.config.Lane.TheVariants.{Directives, Data}
use Rattle.link_stack.specs.AnyOrder.{ReceivesAll}
use Rattle.link_stack.specs.Downward.{DownState, both_counted_from, first_down}
use Rattle.link_stack.specs.EndToEnd.{DoesAll}
use Rattle.link_stack.specs.Lives.{octets_coming}
use Rattle.link_stack.specs.Upward.{UpState, first_up}
use Rattle.cfdp_header.specs.Files.{FileMap}
use Rattle.cfdp_directives.specs.declared.user.indication.Indication.{Indication}
use Rattle.cfdp_directives.specs.User.Put.{Put}
use Rattle.cfdp_entity.specs.declared.config.EntityConfig.{EntityConfig}
use Rattle.cfdp_entity.specs.Sound.{GoesOn, IsSound}
use Rattle.cfdp_station.specs.declared.config.StationConfig.{StationConfig}
use Rattle.cfdp_station.specs.Station.{StationState}
use Rattle.any_order.specs.Calls.{Call, DoesCall, End, entity_of, lives}
use Rattle.any_order.specs.Kept.{DoesCalls, EndKept, HasTaken, IsOf, Makes, kept_of, last_at, present}
use Rattle.any_order.proofs.Calls.{call_moves, goes_both, goes_same}
use Rattle.any_order.specs.Promise.{found}
use Rattle.any_order.proofs.Keeping.{calls_grow, taken_grown}
use Rattle.any_order.proofs.Kept.{IsJoinedTo, KeepsLife, SaysSo, kept_mine, kept_theirs}
use Rattle.any_order.proofs.Promise.{Laws}
use Rattle.promises.proofs.Sounds.{IsLike}

-- Histories of both stations that this is kept of, and for which the promise holds.
pub record Held (c t : StationConfig) (first there : FileMap) (puts : List Put) (mine theirs : EndKept) : Type 0 where
  pub m : End
  pub o : End
  pub of_mine : IsOf mine m
  pub of_theirs : IsOf theirs o
  pub taken_mine : HasTaken c.receives mine m o
  pub taken_theirs : HasTaken t.receives theirs o m
  pub kept_mine : KeepsLife c t first puts m o
  pub kept_theirs : KeepsLife t c there puts o m

pub held_other : (c t : StationConfig) (first there : FileMap) (puts : List Put) (mine theirs : EndKept) → Held c t first there puts mine theirs → Held t c there first puts theirs mine
held_other c t first there puts mine theirs h = record {
  m = h.o;
  o = h.m;
  of_mine = h.of_theirs;
  of_theirs = h.of_mine;
  taken_mine = h.taken_theirs;
  taken_theirs = h.taken_mine;
  kept_mine = h.kept_theirs;
  kept_theirs = h.kept_mine;
}

-- an end that sends, whose frames have this count next
abbrev pub at_count : ℕ → DownState → DownState
at_count n d = record d { directives = record d.directives { frame_count = n }; file_data = record d.file_data { frame_count = n } }

-- ---- calls, none of which is a start
-- Both keep their lives, and what one was goes on.
record BothLive (c t : StationConfig) (first there : FileMap) (puts : List Put) (old mine theirs : End) : Type 0 where
  pub mine_kept : KeepsLife c t first puts mine theirs
  pub theirs_kept : KeepsLife t c there puts theirs mine
  pub goes : GoesOn (entity_of old) (entity_of mine)

one_more : (e : End) → length (lives e) ≡ length e.lives_before + 1
one_more e = length-append e.lives_before (present e ∷ [])

call_live : Laws → (call : Call) (c t : StationConfig) (first there : FileMap) (puts puts_then : List Put) (old theirs new : End) → IsJoinedTo c t → c.receives ≡ t.sends → KeepsLife c t first puts old theirs →
    KeepsLife t c there puts theirs old → DoesCall call c old theirs new puts puts_then → length (lives new) ≤ length (lives old) → BothLive c t first there puts_then old new theirs
call_live laws call c t first there puts puts_then old theirs new joined link k o does few = elim (call_moves laws.entity laws.truth call c t first puts puts_then old theirs new link k does) [
  | inl m ↦ record {
    mine_kept = kept_mine laws.grounds c t first there puts puts_then old theirs new joined k o m;
    theirs_kept = kept_theirs laws.grounds c t first there puts puts_then old theirs new joined k o m;
    goes = m.goes;
  }
  | inr a ↦
      let more : length (lives new) ≡ length new.lives_before + 1 = one_more new in
      let before : length new.lives_before ≡ length (lives old) = ap length a.1.1.0.lives_before in
      absurd (omega (arith, few, more, before))
]

calls_live : Laws → (c t : StationConfig) (first there : FileMap) → IsJoinedTo c t → c.receives ≡ t.sends → (calls : List Call) (old theirs new : End) (puts puts_then : List Put) →
    DoesCalls calls c old theirs new puts puts_then → length (lives new) ≤ length (lives old) → KeepsLife c t first puts old theirs → KeepsLife t c there puts theirs old → BothLive c t first there puts_then old new theirs
calls_live laws c t first there joined link [] old theirs new puts puts_then (same, none) few k o =
    subst (λ (l : List Put). BothLive c t first there l old new theirs) (sym none)
    (subst (λ (e : End). BothLive c t first there puts old e theirs) (sym same) (record { mine_kept = k; theirs_kept = o; goes = goes_same (entity_of old) (entity_of old) refl }))
calls_live laws c t first there joined link (call ∷ calls) old theirs new puts puts_then (mid, between, one, rest) few k o =
    let up : length (lives old) ≤ length (lives mid) = (calls_grow (call ∷ []) c old theirs mid puts between (mid, between, one, (refl, refl))).many in
    let on : length (lives mid) ≤ length (lives new) = (calls_grow calls c mid theirs new between puts_then rest).many in
    let b : BothLive c t first there between old mid theirs = call_live laws call c t first there puts between old theirs mid joined link k o one (omega (arith, few, up, on)) in
    let last : BothLive c t first there puts_then mid new theirs = calls_live laws c t first there joined link calls mid theirs new between puts_then rest (omega (arith, few, up, on)) b.mine_kept b.theirs_kept in
    record { mine_kept = last.mine_kept; theirs_kept = last.theirs_kept; goes = goes_both (entity_of old) (entity_of mid) (entity_of new) b.goes last.goes }

-- how many lives there are, by what is kept
many_lives : (k : EndKept) (e : End) → IsOf k e → length (lives e) ≡ length k.before + 1
many_lives k e is =
    let more : length (lives e) ≡ length e.lives_before + 1 = one_more e in
    let before : length e.lives_before ≡ length k.before = sym (length-map e.lives_before kept_of) ∙ ap length is.before in
    omega (arith, more, before)

-- What follows from such calls: both hold, and what the entity was goes on.
record Follows (c t : StationConfig) (first there : FileMap) (puts_then : List Put) (old new theirs : EndKept) : Type 0 where
  pub held : Held c t first there puts_then new theirs
  pub goes : GoesOn old.station.entity.state new.station.entity.state

makes_follows : Laws → (c t : StationConfig) (first there : FileMap) → IsJoinedTo c t → c.receives ≡ t.sends → (calls : List Call) (old theirs new : EndKept) (puts puts_then : List Put) →
    Makes calls c old theirs new puts puts_then → new.before ≡ old.before → Held c t first there puts old theirs → Follows c t first there puts_then old new theirs
makes_follows laws c t first there joined link calls old theirs new puts puts_then makes same h =
    let f = makes.follow h.m h.o h.of_mine h.of_theirs h.taken_mine in
    let was : length (lives h.m) ≡ length old.before + 1 = many_lives old h.m h.of_mine in
    let is : length (lives f.0) ≡ length new.before + 1 = many_lives new f.0 f.2 in
    let long : length new.before ≡ length old.before = ap length same in
    let both : BothLive c t first there puts_then h.m f.0 h.o = calls_live laws c t first there joined link calls h.m h.o f.0 puts puts_then f.1 (omega (arith, was, is, long)) h.kept_mine h.kept_theirs in
    record {
      held = record {
        m = f.0;
        o = h.o;
        of_mine = f.2;
        of_theirs = h.of_theirs;
        taken_mine = f.3;
        taken_theirs = taken_grown t.receives theirs h.o h.m f.0 (calls_grow calls c h.m h.o f.0 puts puts_then f.1) h.taken_theirs;
        kept_mine = both.mine_kept;
        kept_theirs = both.theirs_kept;
      };
      goes = subst (λ (s : StationState). GoesOn old.station.entity.state s.entity.state) f.2.station
          (subst (λ (s : StationState). GoesOn s.entity.state (entity_of f.0)) h.of_mine.station both.goes);
    }

module _ (laws : Laws) (c t : StationConfig) (first there : FileMap) (joined : IsJoinedTo c t) (link : c.receives ≡ t.sends) (calls : List Call) (old theirs new : EndKept) (puts puts_then : List Put)
    (makes : Makes calls c old theirs new puts puts_then) (same : new.before ≡ old.before) (h : Held c t first there puts old theirs) where
  pub held_makes : Held c t first there puts_then new theirs
  held_makes = (makes_follows laws c t first there joined link calls old theirs new puts puts_then makes same h).held

  pub goes_makes : GoesOn old.station.entity.state new.station.entity.state
  goes_makes = (makes_follows laws c t first there joined link calls old theirs new puts puts_then makes same h).goes

-- ---- an entity that is other than before, but sound as it was
module _ (c t : StationConfig) (first there : FileMap) (puts : List Put) (old new theirs : EndKept) (same : new ≡ record old { station = new.station })
    (down : new.station.down ≡ old.station.down) (up : new.station.up ≡ old.station.up) (like : IsLike old.station.entity.state new.station.entity.state)
    (sound : (heard : List (List ℕ)) (begun : FileMap) → IsSound (found puts) heard begun old.station.entity.state → IsSound (found puts) heard begun new.station.entity.state)
    (h : Held c t first there puts old theirs) where
  -- the same history, of the other station
  e : End
  e = record h.m { station = new.station }

  is : h.m.station ≡ old.station
  is = h.of_mine.station

  of_it : IsOf new e
  unfolding e
  of_it = record {
    station = refl;
    before = h.of_mine.before ∙ ap (λ (k : EndKept). k.before) (sym same);
    latest = h.of_mine.latest ∙ ap (λ (k : EndKept). k.latest) (sym same);
    told = h.of_mine.told ∙ ap (λ (k : EndKept). k.told_before) (sym same);
  }

  last_same : (lane : Lane) → last_at lane old ≡ last_at lane new
  last_same Directives = ap (λ (k : EndKept). k.last_directives) (sym same)
  last_same Data = ap (λ (k : EndKept). k.last_data) (sym same)

  taken_it : HasTaken c.receives new e h.o
  unfolding e
  taken_it = record { coming = h.taken_mine.coming; near = h.taken_mine.near; last = λ lane. h.taken_mine.last lane ∙ last_same lane }

  taken_there : HasTaken t.receives theirs h.o e
  unfolding e
  taken_there = record { coming = h.taken_theirs.coming; near = h.taken_theirs.near; last = h.taken_theirs.last }

  -- what was indicated, and the rest of the entity, in the words of the history
  down_there : new.station.down ≡ h.m.station.down
  down_there = down ∙ ap (λ (s : StationState). s.down) (sym is)

  up_there : new.station.up ≡ h.m.station.up
  up_there = up ∙ ap (λ (s : StationState). s.up) (sym is)

  config_there : new.station.entity.state.config ≡ (entity_of h.m).config
  config_there = like.config ∙ ap (λ (s : StationState). s.entity.state.config) (sym is)

  told_there : new.station.entity.state.table.told ≡ (entity_of h.m).table.told
  told_there = like.told ∙ ap (λ (s : StationState). s.entity.state.table.told) (sym is)

  next_there : new.station.entity.state.next ≡ (entity_of h.m).next
  next_there = like.next ∙ ap (λ (s : StationState). s.entity.state.next) (sym is)

  kept_it : KeepsLife c t first puts e h.o
  unfolding e
  kept_it =
      let k : KeepsLife c t first puts h.m h.o = h.kept_mine in
      record {
        each = k.each;
        sending = subst (λ (d : DownState). DoesAll h.m.sent (both_counted_from h.m.first (first_down c.sends c.capacity)) d) (sym down_there) k.sending;
        apart = k.apart;
        coming = k.coming;
        near = k.near;
        received = subst (λ (u : UpState). ReceivesAll (map (octets_coming (lives h.o)) h.m.came) (first_up t.sends) u [] h.m.heard) (sym up_there) k.received;
        own = ap (λ (x : EntityConfig). x.entity) config_there ∙ k.own;
        peer = ap (λ (x : EntityConfig). x.peer) config_there ∙ k.peer;
        entity = sound (h.m.heard_before ++ h.m.heard) first (subst (λ (s : StationState). IsSound (found puts) (h.m.heard_before ++ h.m.heard) first s.entity.state) is k.entity);
        past = k.past;
        sent_before = k.sent_before;
        truth = λ pdu was. subst (λ (l : List Indication). SaysSo (found puts) c.entity.entity (h.m.told_before ++ l) pdu) (sym told_there) (k.truth pdu was);
        numbers = λ p among of_mine. subst (λ (n : ℕ). p.id.number < n) (sym next_there) (k.numbers p among of_mine);
      }

  kept_there : KeepsLife t c there puts h.o e
  unfolding e
  kept_there =
      let k : KeepsLife t c there puts h.o h.m = h.kept_theirs in
      record {
        each = k.each;
        sending = k.sending;
        apart = k.apart;
        coming = k.coming;
        near = k.near;
        received = k.received;
        own = k.own;
        peer = k.peer;
        entity = k.entity;
        past = k.past;
        sent_before = k.sent_before;
        truth = k.truth;
        numbers = k.numbers;
      }

  pub held_like : Held c t first there puts new theirs
  held_like = record {
    m = e;
    o = h.o;
    of_mine = of_it;
    of_theirs = h.of_theirs;
    taken_mine = taken_it;
    taken_theirs = taken_there;
    kept_mine = kept_it;
    kept_theirs = kept_there;
  }
