-- What a sender says of its put is so.
use Rattle.std.proofs.Common.{◌≡◌, ℕ, ◌+◌, ◌-◌, ◌≤◌, ◌==◌, List, [], ◌∷◌, ◌++◌, length, take, drop, true, Option, Some, refl, sym, ap, ap₂, subst, ◌∙◌, arith}
use Rattle.std.proofs.lemmas.List.{take-append-drop, length-take, take_all}
use Rattle.std.proofs.lemmas.Bool.{eq-eqb}
use Rattle.std.proofs.Math.Seq.{take-append-add}
use Rattle.cfdp_directives.specs.Pdu.Codes.{no_error}
use Rattle.cfdp_directives.specs.Pdu.Content.{Eof}
use Rattle.cfdp_directives.specs.declared.pdu.sums.Checksums.{Checksums}
use Rattle.cfdp_directives.specs.Pdu.Checksum.{checksum_of}
use Rattle.cfdp_directives.specs.Pdu.Sums.{nothing_summed, wants, summed, sum_told}
use Rattle.cfdp_header.specs.declared.value.TransactionId.{TransactionId}
use Rattle.cfdp_directives.specs.Pdu.Tlv.{fault_location}
use Rattle.cfdp_directives.specs.User.Put.{Put, IsTruthful}
use Rattle.cfdp_sender.specs.declared.phase.SenderPhase.{SenderPhase}
use Rattle.cfdp_sender.specs.declared.phase.SenderPhase.TheVariants.{Sending, Cancelling, Closed}
use Rattle.cfdp_sender.specs.declared.due.SenderDue.{SenderDue}
use Rattle.cfdp_sender.specs.declared.due.SenderDue.TheVariants as due
use Rattle.cfdp_sender.specs.State.{SenderState, IsSender, IsCause}
use Rattle.cfdp_sender.specs.InFile.{IsInFile}
use Rattle.cfdp_sender.specs.Due.{sender_due, sender_says, eof_says, told_checksum}
use Rattle.cfdp_sender.specs.Inputs.{IsSenderOf, front_sums}
use Rattle.cfdp_sender.proofs.Dues.{IsSegment, IsDue, IsEofDue, due-is, extent-len}
use Rattle.cfdp_sender.proofs.InFile.{asked-in, new-in}

-- what the law of checksums says
pub record ChecksumsGoOn : Type 0 where
  pub none : (wanted : Option ℕ) → summed wanted nothing_summed (record { offset = 0; bytes = [] }) ≡ nothing_summed
  pub more : (wanted : Option ℕ) (front back : List ℕ) →
      summed wanted (summed wanted nothing_summed (record { offset = 0; bytes = front })) (record { offset = length front; bytes = back })
      ≡ summed wanted nothing_summed (record { offset = 0; bytes = front ++ back })
  pub whole : (wanted : Option ℕ) (kind : ℕ) (file : List ℕ) → wants wanted kind ≡ true →
      sum_told kind (summed wanted nothing_summed (record { offset = 0; bytes = file })) ≡ checksum_of kind file

-- the checksum that an EOF says is that of the front of the file
pub told-is : ChecksumsGoOn → (put : Put) (x : SenderState) → IsSenderOf put x → told_checksum x ≡ checksum_of put.checksum_kind (take x.sent put.octets)
told-is law put x of =
    ap (sum_told x.checksum_kind) of.front
    ∙ law.whole (Some x.checksum_kind) x.checksum_kind (take x.sent put.octets) (eq-eqb x.checksum_kind x.checksum_kind refl)
    ∙ ap (λ (k : ℕ). checksum_of k (take x.sent put.octets)) of.kind

-- and of the whole file if all was sent
pub told-whole : ChecksumsGoOn → (put : Put) (x : SenderState) → IsSenderOf put x → x.size ≤ x.sent → told_checksum x ≡ checksum_of put.checksum_kind put.octets
told-whole law put x of all =
    told-is law put x of ∙ ap (checksum_of put.checksum_kind) (take_all x.sent put.octets (omega (arith, all, of.size)))

data-truth : (put : Put) (x : SenderState) (start end : ℕ) → IsSenderOf put x → IsSegment x start end
    → take (end - start) (drop start put.octets) ≡ take (length (take (end - start) (drop start put.octets))) (drop start put.octets)
data-truth put x start end of part =
    let len : length (take (end - start) (drop start put.octets)) ≡ end - start =
    extent-len put.octets _ start (end - start) x.size refl (sym of.size) (omega (arith, part.some, part.within)) in
    ap (λ n. take n (drop start put.octets)) (sym len)

eof-truth : ChecksumsGoOn → (put : Put) (x : SenderState) (p : SenderPhase) → IsSenderOf put x → IsEofDue p x → IsCause p x.condition → IsTruthful put (eof_says p x)
eof-truth law put x Sending of is cause = λ _. (told-whole law put x of is, of.size)
eof-truth law put x Cancelling of is cause = λ none. absurd (omega (arith, none, cause))
eof-truth law put x Closed of is cause = absurd is

due-truth : ChecksumsGoOn → (put : Put) (x : SenderState) (d : SenderDue) → IsInFile x → IsSenderOf put x → IsDue x d → IsTruthful put (sender_says put.octets x d)
due-truth law put x (due.AckOfFinished condition) s of is = tt
due-truth law put x (due.Prompt keep_alive) s of is = tt
due-truth law put x due.Metadata s of is = (of.kind, of.size, of.source, of.destination)
due-truth law put x (due.AskedData start end) s of is = data-truth put x start end of (asked-in x start end s is)
due-truth law put x (due.NewData start end) s of is = data-truth put x start end of (subst (λ n. IsSegment x n end) (sym is.0) (new-in x end s is.1 is.2))
due-truth law put x due.Eof s of is = eof-truth law put x x.phase of is s.cause

pub truth : ChecksumsGoOn → (put : Put) (x : SenderState) (d : SenderDue) → IsInFile x → IsSenderOf put x → sender_due x ≡ Some d → IsTruthful put (sender_says put.octets x d)
truth law put x d s of is = due-truth law put x d s of (due-is x d is)

-- ---- the checksum of the front, as the front grows
pub front-more : ChecksumsGoOn → (kind : ℕ) (file : List ℕ) (sent end : ℕ) (sums : Checksums) → sent ≤ end → sent ≤ length file
    → sums ≡ front_sums kind (take sent file)
    → summed (Some kind) sums (record { offset = sent; bytes = take (end - sent) (drop sent file) }) ≡ front_sums kind (take end file)
front-more law kind file sent end sums le within is =
    let n : ℕ = end - sent in
    let front : List ℕ = take sent file in
    let back : List ℕ = take n (drop sent file) in
    let len : length front ≡ sent = omega (arith, length-take sent file) in
    let parts : front ++ back ≡ take end file =
    sym (take-append-add front (drop sent file) n)
    ∙ ap (λ (l : List ℕ). take (length front + n) l) (take-append-drop sent file)
    ∙ ap (λ (k : ℕ). take k file) (omega (arith, len)) in
    ap₂ (λ (s : Checksums) (k : ℕ). summed (Some kind) s (record { offset = k; bytes = back })) is (sym len)
    ∙ law.more (Some kind) front back
    ∙ ap (front_sums kind) parts

-- ---- what an EOF says
eof-in : (put : Put) (x : SenderState) (p : SenderPhase) → x.phase ≡ p → eof_says x.phase x ≡ eof_says p x
eof-in put x p is = ap (λ q. eof_says q x) is

pub eof-whole : ChecksumsGoOn → (put : Put) (x : SenderState) → IsSender x → IsSenderOf put x → x.phase ≡ Sending → sender_due x ≡ Some due.Eof
    → sender_says put.octets x due.Eof ≡ Eof no_error (checksum_of put.checksum_kind put.octets) (length put.octets) []
eof-whole law put x s of is e =
    let all : x.size ≤ x.sent = subst (λ q. IsEofDue q x) is (due-is x due.Eof e) in
    eof-in put x Sending is
    ∙ ap (λ (n : ℕ). Eof no_error n x.size []) (told-whole law put x of all)
    ∙ ap (λ (n : ℕ). Eof no_error (checksum_of put.checksum_kind put.octets) n []) of.size

pub eof-front : ChecksumsGoOn → (put : Put) (x : SenderState) → IsSenderOf put x → x.phase ≡ Cancelling
    → sender_says put.octets x due.Eof
    ≡ Eof x.condition (checksum_of put.checksum_kind (take x.sent put.octets)) x.sent (fault_location put.id.source x.addressing.id_width ∷ [])
eof-front law put x of is =
    eof-in put x Cancelling is
    ∙ ap (λ (n : ℕ). Eof x.condition n x.sent (fault_location x.addressing.id.source x.addressing.id_width ∷ [])) (told-is law put x of)
    ∙ ap (λ (id : TransactionId). Eof x.condition (checksum_of put.checksum_kind (take x.sent put.octets)) x.sent (fault_location id.source x.addressing.id_width ∷ [])) of.id
