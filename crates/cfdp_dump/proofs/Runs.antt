-- What was written of units, one after the other.
use Rattle.std.proofs.Common.{◌≡◌, ◌∙◌, ℕ, ◌<◌, ◌+◌, ◌-◌, ◌==◌, arith, List, [], ◌∷◌, ◌++◌, length, Option, Some, None, Bool, true, false, Result, Ok, Err, Vec, refl, sym, ap, subst, append-nil, inl, inr}
use Rattle.std.proofs.lemmas.Bool.{cases_Bool, eqb-false, eqb-true}
use Rattle.std.proofs.lemmas.List.{append_assoc, flat_map_more}
use Rattle.std.specs.List.{flat_map}
use Rattle.std.specs.Option.{option_map}
use Rattle.std.specs.Result.{OnOk}
use Rattle.std.specs.declared.alloc.Global.{Global}
use Rattle.std.specs.Io.KnownBytes.{Appends}
use Rattle.captures.specs.Captures.{HasTaken, SpellsTo}
use Rattle.captures.specs.Packets.{CaptureState, Captured, Faulty, ItemText, PacketText}
use Rattle.captures.specs.declared.reader.PlacedFault.{PlacedFault}
use Rattle.captures.specs.Units.{unit_fault, unit_in}
use Rattle.captures.specs.declared.unit.SkipCause.{SkipCause}
use Rattle.captures.proofs.Spelling.{spells-more, spells-none}
use Rattle.aos_frame.specs.Frame.{SpellsFrame, frame_fault}
use Rattle.aos_frame.specs.declared.error.FrameError.{FrameError}
use Rattle.aos_frame.specs.declared.header.FrameHeader.{FrameHeader}
use Rattle.aos_frame.specs.LinkFields.{mpdu_in}
use Rattle.cfdp_dump.specs.Carrying.{CarriedText, FrameCarries, IsUnfollowed}
use Rattle.cfdp_dump.specs.declared.channel.Channel.{Channel}
use Rattle.cfdp_dump.specs.Spelled.Lines.{WritesLine, WritesLines, as_line}
use Rattle.cfdp_dump.proofs.TextLines.{lines-none, lines-more, lines_joined, lines_kept}
use Rattle.cfdp_dump.specs.Dump.{TellsPiece, WritesPieces, WritesText, lines}
use Rattle.cfdp_dump.specs.Dump.Rows.{Bad, Octets, Piece, Step, ended, pieces, step}
use Rattle.cfdp_dump.specs.Dump.Stepping.{ended_pieces}
use Rattle.cfdp_dump.specs.Spelled.Shape.{channel_in}
use Rattle.cfdp_dump.specs.Spelled.Refusal.{has_details, refusal_text}
use Rattle.cfdp_dump.specs.Spelled.Told.{TellsAsFrame, TellsAsPdu, end_of}
use Rattle.cfdp_dump.specs.declared.spelled.refusal.LineRefusal.TheVariants.{Hex}
use Rattle.cfdp_dump.specs.Dump.Told.{AsFrame, AsPdu, BadHex, IsSaidOf, Says, TellsTold, Told, carried_told, packet_remark, packet_told, pdu_in, place_text}
use Rattle.cfdp_dump.specs.declared.dump.DumpKind.{DumpKind}
use Rattle.cfdp_dump.specs.declared.dump.DumpKind.TheVariants.{Pdus, Frames}
use Rattle.cfdp_dump.specs.declared.dump.remark.Remark.{Remark}
use Rattle.cfdp_dump.specs.declared.dump.remark.Remark.TheVariants.{BadCapture, PassedBy, Unfollowed}
use Rattle.cfdp_dump.specs.Dump.Units.{TellsAs, TellsCarried, TellsDeep, TellsItem, TellsRun, TellsUnfollowed, TellsUnit, WritesMore, WritesRun, WritesUnit}
use Rattle.cfdp_dump.specs.declared.dump.DumpRequest.{DumpRequest}

-- ---- one thing is shown
pub one_told : (request : DumpRequest) (one : Told) (old new : Option (List ℕ)) → WritesLine (TellsTold request one) old new → WritesLines (TellsTold request) (one ∷ []) old new
one_told request one old new line = lines-more (TellsTold request) [] one old old new (lines-none (TellsTold request) old) line

pub told_line : {E : Type 0} (request : DumpRequest) (one : Told) (r : Result (Unit {0}) E) (old new : Option (List ℕ))
    → OnOk r (WritesLine (TellsTold request one) old new) → OnOk r (WritesLines (TellsTold request) (one ∷ []) old new)
told_line request one (Ok x) old new line = one_told request one old new line
told_line request one (Err e) old new line = tt

pub told_text : {E : Type 0} (request : DumpRequest) (one : Told) (text : List ℕ) (r : Result (Unit {0}) E) (old new : Option (List ℕ)) → TellsTold request one text
    → OnOk r (Appends old new (as_line text)) → OnOk r (WritesLines (TellsTold request) (one ∷ []) old new)
told_text request one text (Ok x) old new such written = one_told request one old new (record { text = text; such = such; written = written })
told_text request one text (Err e) old new such written = tt

pub told_none : (request : DumpRequest) (out : Option (List ℕ)) → WritesLines (TellsTold request) [] out out
told_none request out = lines-none (TellsTold request) out

-- then others
pub told_more : {E : Type 0} (request : DumpRequest) (before behind : List Told) (r : Result (Unit {0}) E) (old mid new : Option (List ℕ))
    → WritesLines (TellsTold request) before old mid → OnOk r (WritesLines (TellsTold request) behind mid new) → OnOk r (WritesLines (TellsTold request) (before ++ behind) old new)
told_more request before behind (Ok x) old mid new first more = lines_joined (TellsTold request) before behind old mid new first more
told_more request before behind (Err e) old mid new first more = tt

-- all of a unit
pub unit_told : {E : Type 0} (P : List Told → List Channel → Type 0) (request : DumpRequest) (tolds : List Told) (after : List Channel) (r : Result (Unit {0}) E) (old new : Option (List ℕ))
    → P tolds after → OnOk r (WritesLines (TellsTold request) tolds old new) → OnOk r (WritesUnit P request after old new)
unit_told P request tolds after (Ok x) old new such written = record { tolds = tolds; told = such; written = written }
unit_told P request tolds after (Err e) old new such written = tt

-- ---- unit after unit
module _ {A : Type 0} (P : List Channel → A → List Told → List Channel → Type 0) where
  run_more : (before : List Channel) (units : List A) (tolds : List Told) (mid : List Channel) (unit : A) (more : List Told) (after : List Channel)
      → TellsRun P before units tolds mid → P mid unit more after → TellsRun P before (units ++ unit ∷ []) (tolds ++ more) after
  run_more before [] tolds mid unit more after ran one =
      (more, after, [], subst (λ s. P s unit more after) ran.1 one, (refl, refl), ap (λ l. l ++ more) ran.0 ∙ sym (append-nil more))
  run_more before (u ∷ units) tolds mid unit more after ran one =
      (ran.0, ran.1, ran.2 ++ more, ran.3, run_more ran.1 units ran.2 mid unit more after ran.4 one, ap (λ l. l ++ more) ran.5 ∙ append_assoc ran.0 ran.2 more)

  pub writes-none : (request : DumpRequest) (out : Option (List ℕ)) → WritesRun P request [] [] out out
  writes-none request out = record { tolds = []; told = (refl, refl); written = lines-none (TellsTold request) out }

  pub writes-more : (request : DumpRequest) (units : List A) (mid : List Channel) (unit : A) (after : List Channel) (old between new : Option (List ℕ))
      → WritesRun P request units mid old between → WritesUnit (P mid unit) request after between new → WritesRun P request (units ++ unit ∷ []) after old new
  writes-more request units mid unit after old between new before one = record {
    tolds = before.tolds ++ one.tolds;
    told = run_more [] units before.tolds mid unit one.tolds after before.told one.told;
    written = lines_joined (TellsTold request) before.tolds one.tolds old between new before.written one.written;
  }

-- ---- units after others
module _ {A : Type 0} (P : List Channel → A → List Told → List Channel → Type 0) where
  run_joined : (before : List Channel) (xs ys : List A) (tolds : List Told) (mid : List Channel) (more : List Told) (after : List Channel)
      → TellsRun P before xs tolds mid → TellsRun P mid ys more after → TellsRun P before (xs ++ ys) (tolds ++ more) after
  run_joined before [] ys tolds mid more after ran behind =
      subst (λ l. TellsRun P before ys (l ++ more) after) (sym ran.0) (subst (λ s. TellsRun P s ys more after) ran.1 behind)
  run_joined before (x ∷ xs) ys tolds mid more after ran behind =
      (ran.0, ran.1, ran.2 ++ more, ran.3, run_joined ran.1 xs ys ran.2 mid more after ran.4 behind, ap (λ l. l ++ more) ran.5 ∙ append_assoc ran.0 ran.2 more)

  pub more-none : (request : DumpRequest) (channels : List Channel) (out : Option (List ℕ)) → WritesMore P request channels [] channels out out
  more-none request channels out = record { tolds = []; told = (refl, refl); written = lines-none (TellsTold request) out }

  pub more-one : (request : DumpRequest) (before : List Channel) (unit : A) (after : List Channel) (old new : Option (List ℕ))
      → WritesUnit (P before unit) request after old new → WritesMore P request before (unit ∷ []) after old new
  more-one request before unit after old new one = record {
    tolds = one.tolds;
    told = (one.tolds, after, [], one.told, (refl, refl), sym (append-nil one.tolds));
    written = one.written;
  }

  pub more-joined : (request : DumpRequest) (before : List Channel) (xs : List A) (mid : List Channel) (ys : List A) (after : List Channel) (old between new : Option (List ℕ))
      → WritesMore P request before xs mid old between → WritesMore P request mid ys after between new → WritesMore P request before (xs ++ ys) after old new
  more-joined request before xs mid ys after old between new first behind = record {
    tolds = first.tolds ++ behind.tolds;
    told = run_joined before xs ys first.tolds mid behind.tolds after first.told behind.told;
    written = lines_joined (TellsTold request) first.tolds behind.tolds old between new first.written behind.written;
  }

  pub run-more : (request : DumpRequest) (xs : List A) (mid : List Channel) (ys : List A) (after : List Channel) (old between new : Option (List ℕ))
      → WritesRun P request xs mid old between → WritesMore P request mid ys after between new → WritesRun P request (xs ++ ys) after old new
  run-more request xs mid ys after old between new first behind = record {
    tolds = first.tolds ++ behind.tolds;
    told = run_joined [] xs ys first.tolds mid behind.tolds after first.told behind.told;
    written = lines_joined (TellsTold request) first.tolds behind.tolds old between new first.written behind.written;
  }

-- ---- pieces
pub piece_unit : {E : Type 0} (request : DumpRequest) (channels : List Channel) (octets : List ℕ) (after : List Channel) (r : Result (Unit {0}) E) (old new : Option (List ℕ))
    → OnOk r (WritesUnit (TellsUnit request channels octets) request after old new) → OnOk r (WritesPieces request (Octets octets ∷ []) channels after old new)
piece_unit request channels octets after (Err e) old new wrote = tt
piece_unit request channels octets after (Ok x) old new wrote =
    more-one (TellsPiece request) request channels (Octets octets) after old new (record { tolds = wrote.tolds; told = wrote.told; written = wrote.written })

pub piece_bad : {E : Type 0} (request : DumpRequest) (channels : List Channel) (before : ℕ) (digits : List ℕ) (r : Result (Unit {0}) E) (old new : Option (List ℕ))
    → OnOk r (WritesLine (TellsTold request (BadHex before digits)) old new) → OnOk r (WritesPieces request (Bad before digits ∷ []) channels channels old new)
piece_bad request channels before digits (Err e) old new wrote = tt
piece_bad request channels before digits (Ok x) old new wrote =
    more-one (TellsPiece request) request channels (Bad before digits) channels old new (record {
      tolds = BadHex before digits ∷ [];
      told = (refl, refl);
      written = one_told request (BadHex before digits) old new wrote;
    })

-- ---- lines, front first
-- of the lines before what is left all pieces are shown that are whole
pub record LinesFront (request : DumpRequest) (text rest : List ℕ) (begun : Option (List ℕ)) (after : List Channel) (old new : Option (List ℕ)) : Type 0 where
  pub front : List Piece
  pub cut : pieces request.by_tools None (lines text) ≡ front ++ pieces request.by_tools begun (lines rest)
  pub told : WritesRun (TellsPiece request) request front after old new

pub lines-front : (request : DumpRequest) (text : List ℕ) (out : Option (List ℕ)) → LinesFront request text text None [] out out
lines-front request text out = record { front = []; cut = refl; told = writes-none (TellsPiece request) request out }

-- one line more
pieces-more : (by_tools : Bool) (begun : Option (List ℕ)) (all : List (List ℕ)) (line : List ℕ) (others : List (List ℕ)) (s : Step) → all ≡ line ∷ others
    → s ≡ step by_tools begun line → pieces by_tools begun all ≡ s.whole ++ pieces by_tools s.begun others
unfolding pieces
pieces-more by_tools begun all line others s cut is = rw (cut, is) refl

pub lines-behind : (request : DumpRequest) (text old_rest line rest : List ℕ) (begun : Option (List ℕ)) (s : Step) (mid after : List Channel) (old between new : Option (List ℕ))
    → lines old_rest ≡ line ∷ lines rest → s ≡ step request.by_tools begun line → LinesFront request text old_rest begun mid old between
    → WritesPieces request s.whole mid after between new → LinesFront request text rest s.begun after old new
lines-behind request text old_rest line rest begun s mid after old between new cut is before more = record {
  front = before.front ++ s.whole;
  cut = before.cut ∙ ap (λ l. before.front ++ l) (pieces-more request.by_tools begun (lines old_rest) line (lines rest) s cut is)
      ∙ sym (append_assoc before.front s.whole (pieces request.by_tools s.begun (lines rest)));
  told = run-more (TellsPiece request) request before.front mid s.whole after old between new before.told more;
}

-- the last one
pieces-end : (by_tools : Bool) (begun : Option (List ℕ)) → pieces by_tools begun [] ≡ ended begun
unfolding pieces
pieces-end by_tools begun = refl

-- a unit that is begun and ends
pub ended_told : {E : Type 0} (request : DumpRequest) (begun : Option (Vec ℕ Global)) (mid after : List Channel) (r : Result (Unit {0}) E) (old new : Option (List ℕ))
    → OnOk r (WritesPieces request (ended_pieces begun) mid after old new) → OnOk r (WritesPieces request (ended (option_map (λ octets. octets.items) begun)) mid after old new)
ended_told request None mid after r old new wrote = wrote
ended_told request (Some octets) mid after r old new wrote = wrote

pub lines-end : {E : Type 0} (request : DumpRequest) (text rest : List ℕ) (begun : Option (List ℕ)) (mid after : List Channel) (r : Result (Unit {0}) E) (old between new : Option (List ℕ))
    → lines rest ≡ [] → LinesFront request text rest begun mid old between → OnOk r (WritesPieces request (ended begun) mid after between new)
    → OnOk r (WritesText request text old new)
lines-end request text rest begun mid after (Err e) old between new none before more = tt
lines-end request text rest begun mid after (Ok x) old between new none before more =
    let whole = before.cut ∙ ap (λ l. before.front ++ l) (ap (pieces request.by_tools begun) none ∙ pieces-end request.by_tools begun) in
    record {
      after = after;
      written = subst (λ l. WritesRun (TellsPiece request) request l after old new) (sym whole)
          (run-more (TellsPiece request) request before.front mid (ended begun) after old between new before.told more);
    }

-- ---- the items of a capture, front first
pub record ItemsFront (request : DumpRequest) (start : CaptureState) (file : List ℕ) (last : CaptureState) (rest : List ℕ) (after : List Channel) (old new : Option (List ℕ)) : Type 0 where
  pub items : List ItemText
  pub spelled : SpellsTo start items file last rest
  pub told : WritesRun (TellsItem (length file) request) request items after old new

pub items-front : (request : DumpRequest) (start : CaptureState) (file : List ℕ) (out : Option (List ℕ)) → ItemsFront request start file start file [] out out
items-front request start file out = record { items = []; spelled = spells-none start file; told = writes-none (TellsItem (length file) request) request out }

pub items-behind : (request : DumpRequest) (start : CaptureState) (file : List ℕ) (last : CaptureState) (old_rest : List ℕ) (item : ItemText) (next : CaptureState) (rest : List ℕ)
    (mid after : List Channel) (old between new : Option (List ℕ)) → 0 < length old_rest → HasTaken last old_rest item next rest → ItemsFront request start file last old_rest mid old between
    → WritesUnit (TellsItem (length file) request mid item) request after between new → ItemsFront request start file next rest after old new
items-behind request start file last old_rest item next rest mid after old between new some taken before one = record {
  items = before.items ++ item ∷ [];
  spelled = spells-more start before.items file last old_rest item next rest before.spelled some taken;
  told = writes-more (TellsItem (length file) request) request before.items mid item after old between new before.told one;
}

-- ---- packets
-- one packet more
pub packets_told : (request : DumpRequest) (xs : List (List ℕ)) (x : List ℕ) (old mid new : Option (List ℕ)) → WritesLines (TellsTold request) (flat_map packet_told xs) old mid
    → WritesLines (TellsTold request) (packet_told x) mid new → WritesLines (TellsTold request) (flat_map packet_told (xs ++ x ∷ [])) old new
packets_told request xs x old mid new before one =
    subst (λ l. WritesLines (TellsTold request) l old new) (flat_map_more packet_told [] xs x) (lines_joined (TellsTold request) (flat_map packet_told xs) (packet_told x) old mid new before one)

-- ---- one packet, with its PDU or without one
pub packet_with : {E : Type 0} (request : DumpRequest) (packet pdu : List ℕ) (remark : Remark) (r : Result (Unit {0}) E) (old mid new : Option (List ℕ)) → Some pdu ≡ pdu_in packet
    → remark ≡ packet_remark packet → WritesLines (TellsTold request) (Says remark ∷ []) old mid → OnOk r (WritesLine (TellsAsPdu request.form pdu) mid new)
    → OnOk r (WritesLines (TellsTold request) (packet_told packet) old new)
packet_with request packet pdu remark r old mid new has same first line =
    rw (← has, ← same) (told_more request (Says remark ∷ []) (AsPdu pdu ∷ []) r old mid new first (told_line request (AsPdu pdu) r mid new line))

pub packet_alone : (request : DumpRequest) (packet : List ℕ) (remark : Remark) (old mid : Option (List ℕ)) → None ≡ pdu_in packet → remark ≡ packet_remark packet
    → WritesLines (TellsTold request) (Says remark ∷ []) old mid → WritesLines (TellsTold request) (packet_told packet) old mid
packet_alone request packet remark old mid has same first = rw (← has, ← same) first

-- ---- one unit
pub pdus_unit : (request : DumpRequest) (channels : List Channel) (octets : List ℕ) → request.kind ≡ Pdus → TellsUnit request channels octets (AsPdu octets ∷ []) channels
pdus_unit request channels octets kind =
    let P : DumpKind → Type 0 = λ k. TellsAs k request.deep request channels octets (AsPdu octets ∷ []) channels in
    subst P (sym kind) (refl, refl)

pub frames_unit : (request : DumpRequest) (channels : List Channel) (octets : List ℕ) → request.kind ≡ Frames → request.deep ≡ false → TellsUnit request channels octets (AsFrame octets ∷ []) channels
frames_unit request channels octets kind deep =
    let P : DumpKind → Bool → Type 0 = λ k d. TellsAs k d request channels octets (AsFrame octets ∷ []) channels in
    subst (λ k. P k request.deep) (sym kind) (subst (λ d. P Frames d) (sym deep) (refl, refl))

pub deep_unit : {E : Type 0} (request : DumpRequest) (channels : List Channel) (octets : List ℕ) (after : List Channel) (r : Result (Unit {0}) E) (old new : Option (List ℕ)) → request.kind ≡ Frames → request.deep ≡ true
    → OnOk r (WritesUnit (TellsDeep request channels octets) request after old new) → OnOk r (WritesUnit (TellsUnit request channels octets) request after old new)
deep_unit request channels octets after (Err e) old new kind deep wrote = tt
deep_unit request channels octets after (Ok x) old new kind deep wrote =
    let P : DumpKind → Bool → Type 0 = λ k d. TellsAs k d request channels octets wrote.tolds after in
    record {
      tolds = wrote.tolds;
      told = subst (λ k. P k request.deep) (sym kind) (subst (λ d. P Frames d) (sym deep) wrote.told);
      written = wrote.written;
    }

-- ---- a frame, and what it carries
pub deep_carried : {E : Type 0} (request : DumpRequest) (channels : List Channel) (octets mpdu : List ℕ) (header : FrameHeader) (carried : CarriedText) (after : List Channel)
    (r : Result (Unit {0}) E) (old mid new : Option (List ℕ)) → SpellsFrame (channel_in octets request.shape) header octets → mpdu ≡ mpdu_in request.shape.fields octets
    → FrameCarries channels header mpdu carried after → WritesLine (TellsAsFrame request.form request.shape octets) old mid
    → OnOk r (WritesLines (TellsTold request) (carried_told carried) mid new) → OnOk r (WritesUnit (TellsDeep request channels octets) request after old new)
deep_carried request channels octets mpdu header carried after r old mid new spelled same carries line more =
    let such : TellsCarried request channels octets (AsFrame octets ∷ carried_told carried) after = record {
      header = header;
      spelled = spelled;
      carried = carried;
      carries = subst (λ m. FrameCarries channels header m carried after) same carries;
      words = refl;
    } in
    unit_told (TellsDeep request channels octets) request (AsFrame octets ∷ carried_told carried) after r old new (inl such)
    (told_more request (AsFrame octets ∷ []) (carried_told carried) r old mid new (one_told request (AsFrame octets) old mid line) more)

pub deep_unfollowed : {E : Type 0} (request : DumpRequest) (channels : List Channel) (octets : List ℕ) (header : FrameHeader) (after : List Channel)
    (r : Result (Unit {0}) E) (old mid new : Option (List ℕ)) → SpellsFrame (channel_in octets request.shape) header octets → IsUnfollowed channels header after
    → WritesLine (TellsAsFrame request.form request.shape octets) old mid → OnOk r (WritesLines (TellsTold request) (Says Unfollowed ∷ []) mid new)
    → OnOk r (WritesUnit (TellsDeep request channels octets) request after old new)
deep_unfollowed request channels octets header after r old mid new spelled unfollowed line more =
    let such : TellsUnfollowed request channels octets (AsFrame octets ∷ Says Unfollowed ∷ []) after = record {
      header = header;
      spelled = spelled;
      unfollowed = unfollowed;
      words = refl;
    } in
    unit_told (TellsDeep request channels octets) request (AsFrame octets ∷ Says Unfollowed ∷ []) after r old new (inr (inl such))
    (told_more request (AsFrame octets ∷ []) (Says Unfollowed ∷ []) r old mid new (one_told request (AsFrame octets) old mid line) more)

pub deep_none : (request : DumpRequest) (channels : List Channel) (octets : List ℕ) (error : FrameError) (old mid : Option (List ℕ)) → frame_fault octets (channel_in octets request.shape) ≡ Some error
    → WritesLine (TellsAsFrame request.form request.shape octets) old mid → WritesUnit (TellsDeep request channels octets) request channels old mid
deep_none request channels octets error old mid fault line = record {
  tolds = AsFrame octets ∷ [];
  told = inr (inr (record { error = error; fault = fault; words = (refl, refl) }));
  written = one_told request (AsFrame octets) old mid line;
}

-- ---- one item of a capture
pub item_unit : {E : Type 0} (whole : ℕ) (request : DumpRequest) (channels : List Channel) (p : PacketText) (octets : List ℕ) (after : List Channel) (r : Result (Unit {0}) E) (old new : Option (List ℕ))
    → unit_fault p ≡ None → octets ≡ unit_in p → OnOk r (WritesUnit (TellsUnit request channels octets) request after old new)
    → OnOk r (WritesUnit (TellsItem whole request channels (Captured p)) request after old new)
item_unit whole request channels p octets after (Err e) old new none same wrote = tt
item_unit whole request channels p octets after (Ok x) old new none same wrote = record {
  tolds = wrote.tolds;
  told = rw none (subst (λ o. TellsUnit request channels o wrote.tolds after) same wrote.told);
  written = wrote.written;
}

pub item_passed : {E : Type 0} (whole : ℕ) (request : DumpRequest) (channels : List Channel) (p : PacketText) (passed : SkipCause) (r : Result (Unit {0}) E) (old new : Option (List ℕ))
    → unit_fault p ≡ Some passed → OnOk r (WritesLines (TellsTold request) (Says (PassedBy passed) ∷ []) old new)
    → OnOk r (WritesUnit (TellsItem whole request channels (Captured p)) request channels old new)
item_passed whole request channels p passed (Err e) old new fault wrote = tt
item_passed whole request channels p passed (Ok x) old new fault wrote = record { tolds = Says (PassedBy passed) ∷ []; told = rw fault (refl, refl); written = wrote }

-- ---- what is wrong with a line
-- all octets up to a place may stand, and so may the one there
pub places_more : (P : ℕ → Bool) (n : ℕ) → ((k : ℕ) → k < n → P k ≡ true) → P n ≡ true → (k : ℕ) → k < n + 1 → P k ≡ true
places_more P n before now k below = elim (cases_Bool (k == n)) [
  | inl same ↦ ap P (eqb-true k n same) ∙ now
  | inr other ↦ (let apart = eqb-false k n other in before k (omega (arith, below, apart)))
]

pub bad_line : {E : Type 0} (request : DumpRequest) (before : ℕ) (line : List ℕ) (column : Option ℕ) (told : Bool) (end : List ℕ) (r : Result (Unit {0}) E) (old new : Option (List ℕ)) → IsSaidOf request.by_tools before line column
    → told ≡ has_details request.form → end ≡ end_of request.form → OnOk r (Appends old new (refusal_text Hex ++ (place_text told column ++ (end ++ 10 ∷ []))))
    → OnOk r (WritesLine (TellsTold request (BadHex before line)) old new)
bad_line request before line column told end (Err e) old new said details same written = tt
bad_line request before line column told end (Ok x) old new said details same written = record {
  text = refusal_text Hex ++ (place_text told column ++ end);
  such = record { column = column; said = said; words = rw (details, same) refl };
  written = subst (λ l. Appends old new l)
      (sym (append_assoc (refusal_text Hex) (place_text told column ++ end) (10 ∷ []) ∙ ap (λ l. refusal_text Hex ++ l) (append_assoc (place_text told column) end (10 ∷ [])))) written;
}

-- ---- what can't be read of a capture
pub item_faulty : {E : Type 0} (whole : ℕ) (request : DumpRequest) (channels : List Channel) (fault : PlacedFault) (place : ℕ) (r : Result (Unit {0}) E) (old new : Option (List ℕ))
    → place ≡ whole - fault.left → OnOk r (WritesLines (TellsTold request) (Says (BadCapture fault.cause place) ∷ []) old new)
    → OnOk r (WritesUnit (TellsItem whole request channels (Faulty fault)) request channels old new)
item_faulty whole request channels fault place (Err e) old new same wrote = tt
item_faulty whole request channels fault place (Ok x) old new same wrote = record {
  tolds = Says (BadCapture fault.cause place) ∷ [];
  told = (ap (λ p. Says (BadCapture fault.cause p) ∷ []) same, refl);
  written = wrote;
}
