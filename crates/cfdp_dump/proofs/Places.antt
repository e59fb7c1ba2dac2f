-- A channel among the channels whose frames were seen, by its index.
use Rattle.std.proofs.Common.{◌≡◌, ◌∙◌, ◌&&◌, ℕ, zero, suc, ◌+◌, ◌<◌, Bool, true, false, List, [], ◌∷◌, ◌++◌, length, take, sym, ap, refl, subst, arith, slice_index_or, slice_set}
use Rattle.std.specs.List.{All}
use Rattle.std.proofs.lemmas.List.Elements.{All-head, All-tail}
use Rattle.aos_frame.specs.declared.header.FrameHeader.{FrameHeader}
use Rattle.cfdp_dump.specs.declared.channel.Channel.{Channel}
use Rattle.cfdp_dump.specs.Carrying.{channel_of, fresh, is_of, with_channel}

-- none is of it
pub none_is : (h : FrameHeader) (cs : List Channel) → All (λ c. is_of h c ≡ false) cs → channel_of h cs ≡ fresh h
none_is h [] none = refl
none_is h (c ∷ cs) none = rw (All-head (λ x. is_of h x ≡ false) c cs none) (none_is h cs (All-tail (λ x. is_of h x ≡ false) c cs none))

pub none_with : (h : FrameHeader) (after : Channel) (cs : List Channel) → All (λ c. is_of h c ≡ false) cs → with_channel h after cs ≡ cs ++ after ∷ []
none_with h after [] none = refl
none_with h after (c ∷ cs) none = rw (All-head (λ x. is_of h x ≡ false) c cs none) (ap (λ l. c ∷ l) (none_with h after cs (All-tail (λ x. is_of h x ≡ false) c cs none)))

-- the first that is stands at an index
pub first_is : (h : FrameHeader) (cs : List Channel) (at : ℕ) (d e : Channel) → at < length cs → All (λ c. is_of h c ≡ false) (take at cs)
    → is_of h (slice_index_or cs at d) ≡ true → channel_of h cs ≡ slice_index_or cs at e
first_is h [] at d e there before one = absurd (omega (arith, there))
first_is h (c ∷ cs) zero d e there before one = rw one refl
first_is h (c ∷ cs) (suc at) d e there before one =
    rw (All-head (λ x. is_of h x ≡ false) c (take at cs) before) (first_is h cs at d e (omega (arith, there)) (All-tail (λ x. is_of h x ≡ false) c (take at cs) before) one)

pub first_with : (h : FrameHeader) (after : Channel) (cs : List Channel) (at : ℕ) (d : Channel) → at < length cs → All (λ c. is_of h c ≡ false) (take at cs)
    → is_of h (slice_index_or cs at d) ≡ true → with_channel h after cs ≡ slice_set cs at after
first_with h after [] at d there before one = absurd (omega (arith, there))
first_with h after (c ∷ cs) zero d there before one = rw one refl
first_with h after (c ∷ cs) (suc at) d there before one =
    rw (All-head (λ x. is_of h x ≡ false) c (take at cs) before)
    (ap (λ l. c ∷ l) (first_with h after cs at d (omega (arith, there)) (All-tail (λ x. is_of h x ≡ false) c (take at cs) before) one))
