-- What the octets on their way say: each text is one PDU, and what is heard of it is that PDU.
use Rattle.std.proofs.Common.{◌≡◌, ℕ, ◌+◌, ◌-◌, ◌≤◌, eqb, true, false, Bool, List, [], ◌∷◌, ◌++◌, length, drop, Option, Some, None, Err, ◌⊎◌, inl, inr, refl, sym, ap, subst, ◌∙◌, arith}
use Rattle.std.specs.List.{fold}
use Rattle.std.proofs.lemmas.List.{append_assoc, length-take-le}
use Rattle.cfd_bits.specs.Field.{field, flag}
use Rattle.cfd_bits.proofs.BitFields.{field-take}
use Rattle.cfdp_header.specs.Crc.{before_crc}
use Rattle.cfdp_header.specs.declared.value.Header.{Header}
use Rattle.cfdp_header.specs.Header.{header_len, header_len_told}
use Rattle.cfdp_directives.specs.declared.pdu.error.PduError.{PduError}
use Rattle.cfdp_directives.specs.Pdu.Content.{Content, FileData, Metadata, Eof, Finished, Ack, Nak, Prompt, KeepAlive}
use Rattle.cfdp_directives.specs.Pdu.Faults.{pdu_fault}
use Rattle.cfdp_directives.specs.Pdu.Grammar.{SpellsPdu}
use Rattle.cfdp_directives.proofs.Only.{only}
use Rattle.cfdp_directives.proofs.Spelling.{one_form}
use Rattle.cfdp_entity.specs.declared.error.EntityDrop.{EntityDrop}
use Rattle.cfdp_entity.specs.Entity.{Counted}
use Rattle.cfdp_entity.specs.Hearing.{Takes, DropsBy, route, HearsOctets, DropsOctets, DropsPdu}
use Rattle.mpdu.specs.Parts.{IsPartOf}
use Rattle.cfdp_station.specs.Taking.{HearsPdu, HearsAll}
use Rattle.link_sim.specs.Between.{Pdu, AreSpelled}
use Rattle.link_sim.specs.Work.{text_work, content_work}

-- ---- lists of texts
pub spelled-append : (texts more : List (List ℕ)) (pdus others : List Pdu) → AreSpelled texts pdus → AreSpelled more others → AreSpelled (texts ++ more) (pdus ++ others)
spelled-append [] more [] others a b = b
spelled-append [] more (p ∷ pdus) others a b = absurd a
spelled-append (t ∷ texts) more [] others a b = absurd a
spelled-append (t ∷ texts) more (p ∷ pdus) others a b = (a.0, spelled-append texts more pdus others a.1 b)

-- The PDUs of two lists of texts, one after the other.
pub record InTwo (texts more : List (List ℕ)) (pdus : List Pdu) : Type 0 where
  pub first : List Pdu
  pub rest : List Pdu
  pub joined : pdus ≡ first ++ rest
  pub spelled : AreSpelled texts first
  pub spelled_rest : AreSpelled more rest

pub spelled-split : (texts more : List (List ℕ)) (pdus : List Pdu) → AreSpelled (texts ++ more) pdus → InTwo texts more pdus
spelled-split [] more pdus a = record { first = []; rest = pdus; joined = refl; spelled = tt; spelled_rest = a }
spelled-split (t ∷ texts) more [] a = absurd a
spelled-split (t ∷ texts) more (p ∷ pdus) a =
    let i = spelled-split texts more pdus a.1 in
    record { first = p ∷ i.first; rest = i.rest; joined = ap (λ l. p ∷ l) i.joined; spelled = (a.0, i.spelled); spelled_rest = i.spelled_rest }

-- The PDUs of some of the texts.
pub record PartSpelled (given : List (List ℕ)) (pdus : List Pdu) : Type 0 where
  pub part : List Pdu
  pub spelled : AreSpelled given part
  pub is : IsPartOf part pdus

part-more : {X : Type 0} (xs : List X) (y : X) (ys : List X) → IsPartOf xs ys → IsPartOf xs (y ∷ ys)
part-more [] y ys is = tt
part-more (x ∷ xs) y ys is = inr is

part-none : {X : Type 0} (ys : List X) → IsPartOf [] ys
part-none [] = refl
part-none (y ∷ ys) = tt

pub part-spelled : (given texts : List (List ℕ)) (pdus : List Pdu) → IsPartOf given texts → AreSpelled texts pdus → PartSpelled given pdus
part-spelled given [] [] is s = record { part = []; spelled = subst (λ l. AreSpelled l []) (sym is) tt; is = refl }
part-spelled given [] (p ∷ pdus) is s = absurd s
part-spelled given (t ∷ texts) [] is s = absurd s
part-spelled [] (t ∷ texts) (p ∷ pdus) is s = record { part = []; spelled = tt; is = tt }
part-spelled (g ∷ given) (t ∷ texts) (p ∷ pdus) (inl e) s =
    let r = part-spelled given texts pdus e.1 s.1 in
    record { part = p ∷ r.part; spelled = (subst (SpellsPdu p.0 p.1) (sym e.0) s.0, r.spelled); is = inl (refl, r.is) }
part-spelled (g ∷ given) (t ∷ texts) (p ∷ pdus) (inr e) s =
    let r = part-spelled (g ∷ given) texts pdus e s.1 in
    record { part = r.part; spelled = r.spelled; is = part-more r.part p pdus r.is }

-- What stays if one PDU is lost stays if all but a part of them are.
module _ {X : Type 0} (P : List X → Type 0) (lose : (before : List X) (x : X) (after : List X) → P (before ++ x ∷ after) → P (before ++ after)) where
  lost-behind : (before part whole rest : List X) → IsPartOf part whole → P (before ++ (whole ++ rest)) → P (before ++ (part ++ rest))
  lost-behind before part [] rest is h = subst (λ l. P (before ++ (l ++ rest))) (sym is) h
  lost-behind before [] (y ∷ whole) rest is h = lost-behind before [] whole rest (part-none whole) (lose before y (whole ++ rest) h)
  lost-behind before (x ∷ part) (y ∷ whole) rest (inl e) h =
      let there : P ((before ++ y ∷ []) ++ (whole ++ rest)) = subst P (sym (append_assoc before (y ∷ []) (whole ++ rest))) h in
      let left : P (before ++ (y ∷ part ++ rest)) = subst P (append_assoc before (y ∷ []) (part ++ rest)) (lost-behind (before ++ y ∷ []) part whole rest e.1 there) in
      subst (λ z. P (before ++ (z ∷ part ++ rest))) (sym e.0) left
  lost-behind before (x ∷ part) (y ∷ whole) rest (inr e) h = lost-behind before (x ∷ part) whole rest e (lose before y (whole ++ rest) h)

  pub all-lost : (part whole rest : List X) → IsPartOf part whole → P (whole ++ rest) → P (part ++ rest)
  all-lost part whole rest is h = lost-behind [] part whole rest is h

-- ---- a text is one PDU, and has no fault
pub one-pdu : (h k : Header) (v w : Content) (text : List ℕ) → SpellsPdu h v text → SpellsPdu k w text → (h ≡ k) × (v ≡ w)
one-pdu h k v w text a b = let is = one_form text text [] [] h k v w a b refl in (is.1, is.2)

pub no-fault : (h : Header) (v : Content) (text : List ℕ) → SpellsPdu h v text → pdu_fault text ≡ None
no-fault h v text a = by (pdu_fault text) refl
  where
    by : (o : Option PduError) → o ≡ pdu_fault text → pdu_fault text ≡ None
    by None is = sym is
    by (Some e) is = absurd (only (Err e) text tt is h v a)

-- ---- what is heard
-- A PDU is taken on its route, or dropped on it.
abbrev pub HearsOne : Header → Content → (old new : Counted) → Type 0
HearsOne h v old new = Takes (route h v old.state) h v old new ⊎ ((by : EntityDrop) × DropsBy (route h v old.state) by v old new)

-- These PDUs are heard in this order, and nothing else happens.
abbrev pub HearsEach : List Pdu → (old new : Counted) → Type 0
HearsEach [] old new = new ≡ old
HearsEach (p ∷ pdus) old new = (mid : Counted) × HearsOne p.0 p.1 old mid × HearsEach pdus mid new

module _ (h : Header) (v : Content) (text : List ℕ) (spells : SpellsPdu h v text) (old new : Counted) where
  takes-one : HearsOctets text old new → Takes (route h v old.state) h v old new
  takes-one o =
      let is = one-pdu o.header h o.content v text o.spells spells in
      subst (λ k. Takes (route k v old.state) k v old new) is.0 (subst (λ w. Takes (route o.header w old.state) o.header w old new) is.1 o.takes)

  drops-one : (by : EntityDrop) → DropsPdu text by old new → DropsBy (route h v old.state) by v old new
  drops-one by d =
      let is = one-pdu d.header h d.content v text d.spells spells in
      subst (λ k. DropsBy (route k v old.state) by v old new) is.0 (subst (λ w. DropsBy (route d.header w old.state) by w old new) is.1 d.drops)

  pub hears-one : HearsPdu text old new → HearsOne h v old new
  hears-one (inl o) = inl (takes-one o)
  hears-one (inr d) = inr (d.0, drops-one d.0 (subst (λ o. DropsOctets o text d.0 old new) (no-fault h v text spells) d.1))

pub hears-each : (texts : List (List ℕ)) (pdus : List Pdu) (old new : Counted) → AreSpelled texts pdus → HearsAll texts old new → HearsEach pdus old new
hears-each [] [] old new s h = h
hears-each [] (p ∷ pdus) old new s h = absurd s
hears-each (t ∷ texts) [] old new s h = absurd s
hears-each (t ∷ texts) (p ∷ pdus) old new s h = (h.0, hears-one p.0 p.1 t s.0 old h.0 h.1, hears-each texts pdus h.0 new s.1 h.2)

-- ---- the work of a PDU on its way
told : (b : Bool) → eqb (flag b) 1 ≡ b
told true = refl
told false = refl

told-len : (h : Header) (v : Content) (text : List ℕ) → SpellsPdu h v text → header_len_told text ≡ header_len h.id_width h.number_width
told-len h v text s = let q = s.header in rw (q.id_width, q.number_width) refl

-- the first octet of a data field is no part of a CRC after it
code-told : (h : Header) (v : Content) (text : List ℕ) (code : ℕ) → SpellsPdu h v text → 1 ≤ length (before_crc h.crc (drop (header_len h.id_width h.number_width) text)) →
    field (before_crc h.crc (drop (header_len h.id_width h.number_width) text)) 0 8 ≡ code → field (drop (header_len_told text) text) 0 8 ≡ code
code-told h v text code s some is = rw (told-len h v text s) (by h.crc (drop (header_len h.id_width h.number_width) text) some is)
  where
    by : (crc : Bool) (d : List ℕ) → 1 ≤ length (before_crc crc d) → field (before_crc crc d) 0 8 ≡ code → field d 0 8 ≡ code
    by true d some is =
        let len = length-take-le (length d - 2) d (omega arith) in
        sym (field-take (length d - 2) d 0 8 (omega (arith, some, len))) ∙ is
    by false d some is = is

pub text-work : (most : ℕ) (h : Header) (v : Content) (text : List ℕ) → SpellsPdu h v text → text_work most text ≡ content_work most v
unfolding text_work
text-work most h (FileData offset bytes) text s = rw (s.header.pdu_type, s.content.0) refl
text-work most h (Metadata kind size source destination options) text s =
    rw (s.header.pdu_type, s.content.0, code-told h (Metadata kind size source destination options) text 7 s (omega (arith, s.content.1.room)) s.content.1.code) refl
text-work most h (Eof condition checksum size tlvs) text s =
    rw (s.header.pdu_type, s.content.0, code-told h (Eof condition checksum size tlvs) text 4 s (omega (arith, s.content.1.room)) s.content.1.code) (omega arith)
text-work most h (Finished condition delivery status tlvs) text s =
    rw (s.header.pdu_type, s.content.0, code-told h (Finished condition delivery status tlvs) text 5 s (omega (arith, s.content.1.room)) s.content.1.code) refl
text-work most h (Ack of condition status) text s =
    rw (s.header.pdu_type, s.content.0, code-told h (Ack of condition status) text 6 s (omega (arith, s.content.1.size_octets)) s.content.1.code) refl
text-work most h (Nak start end pairs) text s =
    rw (s.header.pdu_type, s.content.0, code-told h (Nak start end pairs) text 8 s (omega (arith, s.content.1.room)) s.content.1.code) (omega arith)
text-work most h (Prompt keep_alive) text s =
    rw (s.header.pdu_type, s.content.0, code-told h (Prompt keep_alive) text 9 s (omega (arith, s.content.1.size_octets)) s.content.1.code) (omega arith)
text-work most h (KeepAlive progress) text s =
    rw (s.header.pdu_type, s.content.0, code-told h (KeepAlive progress) text 12 s (omega (arith, s.content.1.size_octets)) s.content.1.code) refl

folded : (most n : ℕ) (texts : List (List ℕ)) (pdus : List Pdu) → AreSpelled texts pdus → fold (λ a x. a + text_work most x) n texts ≡ fold (λ a (p : Pdu). a + content_work most p.1) n pdus
folded most n [] [] s = refl
folded most n [] (p ∷ pdus) s = absurd s
folded most n (t ∷ texts) [] s = absurd s
folded most n (t ∷ texts) (p ∷ pdus) s =
    ap (λ w. fold (λ a x. a + text_work most x) (n + w) texts) (text-work most p.0 p.1 t s.0) ∙ folded most (n + content_work most p.1) texts pdus s.1
