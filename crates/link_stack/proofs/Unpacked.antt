-- Packets made PDUs, one after another.
use Rattle.std.proofs.Common.{◌≡◌, ℕ, zero, suc, ◌+◌, ◌-◌, ◌<◌, ◌≤◌, Option, Some, None, List, [], ◌∷◌, ◌++◌, length, take, drop, slice_set, slice_index_or, replicate, refl, sym, ap, subst, ◌∙◌, arith}
use Rattle.std.proofs.lemmas.List.{append_assoc, append-nil}
use Rattle.std.specs.List.{remove}
use Rattle.aos_frame.specs.declared.config.ChannelConfig.{ChannelConfig}
use Rattle.link_stack.specs.declared.drops.LinkDrop.{LinkDrop}
use Rattle.link_stack.specs.declared.drops.LinkDrop.TheVariants.{BadPacket}
use Rattle.link_stack.specs.Frames.{packet_drop}
use Rattle.link_stack.specs.Drops.{counted, all_counted}
use Rattle.link_stack.specs.Upward.{AreLong, with_pdu, with_drop, pdus_of, drops_of}

-- what is done and what is left makes what there was to do
pub record IsUnpacked (link : ChannelConfig) (initial : List (List ℕ)) (first : ℕ) (counts : List ℕ) (packets : List (List ℕ)) (place : ℕ) (now : List ℕ) : Type 0 where
  pub within : place ≤ length packets
  pub long : AreLong (drop place packets)
  pub pdus : take place packets ++ pdus_of link (drop place packets) ≡ take first initial ++ pdus_of link (drop first initial)
  pub drops : all_counted now (drops_of link (drop place packets)) ≡ all_counted counts (drops_of link (drop first initial))

with_pdu-cons : (d : Option LinkDrop) (q : List ℕ) (pdus : List (List ℕ)) → with_pdu d q pdus ≡ with_pdu d q [] ++ pdus
with_pdu-cons None q pdus = refl
with_pdu-cons (Some d) q pdus = refl

with_drop-cons : (d : Option LinkDrop) (drops : List LinkDrop) (counts : List ℕ) → all_counted counts (with_drop d drops) ≡ all_counted (all_counted counts (with_drop d [])) drops
with_drop-cons None drops counts = refl
with_drop-cons (Some d) drops counts = refl

pub pdus_of-cons : (link : ChannelConfig) (q : List ℕ) (left : List (List ℕ)) → pdus_of link (q ∷ left) ≡ pdus_of link (q ∷ []) ++ pdus_of link left
pdus_of-cons link q left = with_pdu-cons (packet_drop link q) q (pdus_of link left)

pub drops_of-cons : (link : ChannelConfig) (q : List ℕ) (left : List (List ℕ)) (counts : List ℕ) → all_counted counts (drops_of link (q ∷ left))
    ≡ all_counted (all_counted counts (drops_of link (q ∷ []))) (drops_of link left)
drops_of-cons link q left counts = with_drop-cons (packet_drop link q) (drops_of link left) counts

-- one more is made its PDU, or taken out
pub unpacked_one : (link : ChannelConfig) (initial : List (List ℕ)) (first : ℕ) (counts : List ℕ) (packets next : List (List ℕ)) (place then : ℕ) (now after q : List ℕ) (left : List (List ℕ)) →
    IsUnpacked link initial first counts packets place now → drop place packets ≡ q ∷ left → then ≤ length next → drop then next ≡ left → take then next ≡ take place packets ++ pdus_of link (q ∷ []) →
    after ≡ all_counted now (drops_of link (q ∷ [])) → IsUnpacked link initial first counts next then after
unpacked_one link initial first counts packets next place then now after q left is here inside rest front more =
    let long : AreLong (q ∷ left) = subst AreLong here is.long in
    record {
      within = inside;
      long = subst AreLong (sym rest) long.1;
      pdus = ap (λ l. take then next ++ pdus_of link l) rest ∙ ap (λ l. l ++ pdus_of link left) front ∙ append_assoc (take place packets) (pdus_of link (q ∷ [])) (pdus_of link left)
          ∙ ap (λ l. take place packets ++ l) (sym (pdus_of-cons link q left)) ∙ ap (λ l. take place packets ++ pdus_of link l) (sym here) ∙ is.pdus;
      drops = ap (λ l. all_counted after (drops_of link l)) rest ∙ ap (λ l. all_counted l (drops_of link left)) more ∙ sym (drops_of-cons link q left now)
          ∙ ap (λ l. all_counted now (drops_of link l)) (sym here) ∙ is.drops;
    }

-- what stands at an index
pub found_at : {A : Type 0} (xs left : List A) (place : ℕ) (d q : A) → drop place xs ≡ q ∷ left → slice_index_or xs place d ≡ q
found_at [] left zero d q e = absurd cc
found_at [] left (suc place) d q e = absurd cc
found_at (x ∷ xs) left zero d q e = cc
found_at (x ∷ xs) left (suc place) d q e = found_at xs left place d q e

pub at_place : {A : Type 0} (xs : List A) (place : ℕ) (d : A) → place < length xs → drop place xs ≡ slice_index_or xs place d ∷ drop (suc place) xs
at_place [] place d h = absurd (omega arith)
at_place (x ∷ xs) zero d h = refl
at_place (x ∷ xs) (suc place) d h = at_place xs place d (omega arith)

-- it is taken out
pub removed : {A : Type 0} (xs left : List A) (place : ℕ) (q : A) → drop place xs ≡ q ∷ left → (drop place (remove xs place) ≡ left) × (take place (remove xs place) ≡ take place xs)
removed [] left zero q e = absurd cc
removed [] left (suc place) q e = absurd cc
removed (x ∷ xs) left zero q e = (cc, refl)
removed (x ∷ xs) left (suc place) q e = let r = removed xs left place q e in (r.0, ap (λ l. x ∷ l) r.1)

-- it is replaced
pub replaced : {A : Type 0} (xs left : List A) (place : ℕ) (q b : A) → drop place xs ≡ q ∷ left → (drop (suc place) (slice_set xs place b) ≡ left)
    × (take (suc place) (slice_set xs place b) ≡ take place xs ++ b ∷ [])
replaced [] left zero q b e = absurd cc
replaced [] left (suc place) q b e = absurd cc
replaced (x ∷ xs) left zero q b e = (cc, refl)
replaced (x ∷ xs) left (suc place) q b e = let r = replaced xs left place q b e in (r.0, ap (λ l. x ∷ l) r.1)

-- what stands at an index has a header
pub long_there : (packets : List (List ℕ)) (place : ℕ) (p : List ℕ) → place < length packets → AreLong (drop place packets) → p ≡ slice_index_or packets place [] → 6 ≤ length p
long_there packets place p h long same =
    let all : AreLong (slice_index_or packets place [] ∷ drop (suc place) packets) = subst AreLong (at_place packets place [] h) long in
    subst (λ (l : List ℕ). 6 ≤ length l) (sym same) all.0

-- it is the next of those left
pub head_is : (packets left : List (List ℕ)) (place : ℕ) (p q : List ℕ) → drop place packets ≡ q ∷ left → p ≡ slice_index_or packets place [] → p ≡ q
head_is packets left place p q here same = same ∙ found_at packets left place [] q here

-- what carries no PDU is taken out
pub taken_out : (link : ChannelConfig) (packets new : List (List ℕ)) (place : ℕ) (d : LinkDrop) (text q : List ℕ) (left : List (List ℕ)) (now after : List ℕ) → drop place packets ≡ q ∷ left →
    text ≡ q → Some d ≡ packet_drop link text → new ≡ remove packets place → after ≡ counted now d →
    (drop place new ≡ left) × (take place new ≡ take place packets ++ pdus_of link (q ∷ [])) × (after ≡ all_counted now (drops_of link (q ∷ [])))
taken_out link packets new place d text q left now after here same told out more =
    let because : packet_drop link q ≡ Some d = sym (told ∙ ap (λ l. packet_drop link l) same) in
    let r = removed packets left place q here in (
      ap (λ l. drop place l) out ∙ r.0,
      ap (λ l. take place l) out ∙ r.1 ∙ sym (append-nil (take place packets)) ∙ ap (λ o. take place packets ++ with_pdu o q []) (sym because),
      more ∙ ap (λ o. all_counted now (with_drop o [])) (sym because),
    )

-- what carries one is made that PDU
pub made_pdu : (link : ChannelConfig) (packets new : List (List ℕ)) (place then : ℕ) (text q : List ℕ) (left : List (List ℕ)) (now : List ℕ) → drop place packets ≡ q ∷ left →
    text ≡ q → None ≡ packet_drop link text → new ≡ slice_set packets place (drop 6 (slice_index_or packets place [])) → then ≡ suc place →
    (drop then new ≡ left) × (take then new ≡ take place packets ++ pdus_of link (q ∷ [])) × (now ≡ all_counted now (drops_of link (q ∷ [])))
made_pdu link packets new place then text q left now here same told made next =
    let because : packet_drop link q ≡ None = sym (told ∙ ap (λ l. packet_drop link l) same) in
    let is : new ≡ slice_set packets place (drop 6 q) = made ∙ ap (λ l. slice_set packets place (drop 6 l)) (found_at packets left place [] q here) in
    let r = replaced packets left place q (drop 6 q) here in (
      ap (λ l. drop then l) is ∙ ap (λ n. drop n (slice_set packets place (drop 6 q))) next ∙ r.0,
      ap (λ l. take then l) is ∙ ap (λ n. take n (slice_set packets place (drop 6 q))) next ∙ r.1 ∙ ap (λ o. take place packets ++ with_pdu o q []) (sym because),
      ap (λ o. all_counted now (with_drop o [])) (sym because),
    )

pub one_bad : (bad i : ℕ) (counts after : List ℕ) (total : List ℕ) → i < bad → all_counted counts (replicate (bad - i) BadPacket) ≡ total → after ≡ counted counts BadPacket →
    all_counted after (replicate (bad - (i + 1)) BadPacket) ≡ total
one_bad bad i counts after total h is more =
    let e : bad - i ≡ suc (bad - (i + 1)) = omega arith in
    ap (λ l. all_counted l (replicate (bad - (i + 1)) BadPacket)) more ∙ sym (ap (λ n. all_counted counts (replicate n BadPacket)) e) ∙ is
