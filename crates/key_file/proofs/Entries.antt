-- The keys of the lines so far, and the draft of them.
use Rattle.std.proofs.Common.{◌≡◌, ◌∙◌, ℕ, List, [], ◌∷◌, ◌++◌, Option, Some, None, IsSome, inl, inr, sym, ap, subst, refl, append-nil}
use Rattle.std.proofs.lemmas.List.Elements.{filter_map-append}
use Rattle.std.proofs.lemmas.Bool.{true≢false}
use Rattle.std.proofs.lemmas.Option.{none-some}
use Rattle.std.specs.Borrow.{Bor}
use Rattle.std.specs.List.{cons_option}
use Rattle.std.specs.Option.{option_to_list}
use Rattle.std.specs.Str.Lines.{lines}
use Rattle.frame_security.specs.declared.keys.LinkKeys.{LinkKeys}
use Rattle.frame_security.specs.declared.keys.NamedKey.{NamedKey}
use Rattle.key_file.specs.declared.draft.Draft.{Draft}
use Rattle.key_file.specs.declared.draft.Direction.{Direction}
use Rattle.key_file.specs.declared.draft.Direction.TheVariants.{Send, Receive}
use Rattle.key_file.specs.Apart.{Adds}
use Rattle.key_file.specs.Text.{AddsLine, AreWordsOf, Entry, HasWords, IsFileOf, SayKey, SayKeys, before_comment, key_for, keys_for}

-- what lines say, and lines after them
say-append : (lines more : List (List ℕ)) (entries rest : List Entry) → SayKeys lines entries
    → SayKeys more rest → SayKeys (lines ++ more) (entries ++ rest)
say-append [] more entries rest none says =
    subst (λ front. SayKeys more (front ++ rest)) (sym none) says
say-append (line ∷ lines) more entries rest (inl s) says =
    inl (s.0, say-append lines more entries rest s.1 says)
say-append (line ∷ lines) more entries rest (inr s) says =
    inr (s.0, s.1 ++ rest, ap (λ l. l ++ rest) s.2, s.3, say-append lines more s.1 rest s.4 says)

-- The draft has the keys of these lines.
pub record HasKeys (lines : List (List ℕ)) (d : Draft) : Type 0 where
  pub entries : List Entry
  pub say : SayKeys lines entries
  pub send : keys_for Send entries ≡ option_to_list d.send
  pub receive : keys_for Receive entries ≡ option_to_list d.receive ++ option_to_list d.former
  pub first : d.receive ≡ None → d.former ≡ None

pub none-yet : {d : Draft} → d.send ≡ None → d.receive ≡ None → d.former ≡ None → HasKeys [] d
none-yet {d} send receive former = record {
  entries = [];
  say = refl;
  send = sym (ap option_to_list send);
  receive = sym (ap (λ o. option_to_list o ++ option_to_list d.former) receive
      ∙ ap option_to_list former);
  first = λ _. former;
}

is-some : {A : Type 0} (o : Option A) → IsSome o → o ≡ None → ⊥
is-some None some none = absurd (true≢false (sym some))
is-some (Some x) some none = none-some x (sym none)

-- the keys for a direction with one more
keys-push : (direction : Direction) (entries : List Entry) (entry : Entry)
    → keys_for direction (entries ++ (entry ∷ []))
    ≡ keys_for direction entries ++ option_to_list (key_for direction entry.direction entry.key)
keys-push direction entries entry =
    filter_map-append (λ (e : Entry). key_for direction e.direction e.key) entries (entry ∷ [])
    ∙ ap (λ l. keys_for direction entries ++ l)
    (one (key_for direction entry.direction entry.key))
  where
    one : (o : Option NamedKey) → cons_option o [] ≡ option_to_list o
    one None = refl
    one (Some _) = refl

module _ (old new : Draft) (entries : List Entry)
    (send : keys_for Send entries ≡ option_to_list old.send)
    (receive : keys_for Receive entries ≡ option_to_list old.receive ++ option_to_list old.former)
    (first : old.receive ≡ None → old.former ≡ None) where
  -- the keys to send with, after one more key
  send-added : (direction : Direction) (key : NamedKey) → Adds direction key old new
      → keys_for Send entries ++ option_to_list (key_for Send direction key)
      ≡ option_to_list new.send
  send-added Send key a =
      ap (λ l. l ++ (key ∷ [])) (send ∙ ap option_to_list a.0)
      ∙ sym (ap (λ (d : Draft). option_to_list d.send) a.1)
  send-added Receive key (inl a) =
      append-nil (keys_for Send entries) ∙ send
      ∙ sym (ap (λ (d : Draft). option_to_list d.send) a.1)
  send-added Receive key (inr a) =
      append-nil (keys_for Send entries) ∙ send
      ∙ sym (ap (λ (d : Draft). option_to_list d.send) a.2)

  -- the keys to receive with
  receive-added : (direction : Direction) (key : NamedKey) → Adds direction key old new
      → keys_for Receive entries ++ option_to_list (key_for Receive direction key)
      ≡ option_to_list new.receive ++ option_to_list new.former
  receive-added Send key a =
      append-nil (keys_for Receive entries) ∙ receive
      ∙ sym (ap (λ (d : Draft). option_to_list d.receive ++ option_to_list d.former) a.1)
  receive-added Receive key (inl a) =
      ap (λ l. l ++ (key ∷ [])) (receive
      ∙ ap (λ o. option_to_list o ++ option_to_list old.former) a.0
      ∙ ap option_to_list (first a.0))
      ∙ sym (ap (λ (d : Draft). option_to_list d.receive ++ option_to_list d.former) a.1
      ∙ ap (λ o. (key ∷ []) ++ option_to_list o) (first a.0))
  receive-added Receive key (inr a) =
      ap (λ l. l ++ (key ∷ [])) (receive
      ∙ ap (λ o. option_to_list old.receive ++ option_to_list o) a.1
      ∙ append-nil (option_to_list old.receive))
      ∙ sym (ap (λ (d : Draft). option_to_list d.receive ++ option_to_list d.former) a.2)

  -- the latest of these comes first
  first-added : (direction : Direction) (key : NamedKey) → Adds direction key old new
      → new.receive ≡ None → new.former ≡ None
  first-added Send key a none =
      ap (λ (d : Draft). d.former) a.1 ∙ first (sym (ap (λ (d : Draft). d.receive) a.1) ∙ none)
  first-added Receive key (inl a) none = absurd (none-some key
      (sym none ∙ ap (λ (d : Draft). d.receive) a.1))
  first-added Receive key (inr a) none = absurd (is-some old.receive a.0
      (sym (ap (λ (d : Draft). d.receive) a.2) ∙ none))

-- One line more was added.
pub keys-added : {lines : List (List ℕ)} (line : List ℕ) {old new : Draft} → HasKeys lines old
    → AddsLine line old new → HasKeys (lines ++ (line ∷ [])) new
keys-added {lines} line {old} {new} has (inl a) = subst (HasKeys (lines ++ (line ∷ []))) (sym a.1)
    (record {
      entries = has.entries;
      say = subst (SayKeys (lines ++ (line ∷ []))) (append-nil has.entries)
          (say-append lines (line ∷ []) has.entries [] has.say (inl (a.0, refl)));
      send = has.send;
      receive = has.receive;
      first = has.first;
    })
keys-added {lines} line has (inr a) = record {
  entries = has.entries ++ (a.0 ∷ []);
  say = say-append lines (line ∷ []) has.entries (a.0 ∷ []) has.say
      (inr (a.0, [], refl, a.1, refl));
  send = keys-push Send has.entries a.0
      ∙ send-added _ _ has.entries has.send has.receive has.first a.0.direction a.0.key a.2;
  receive = keys-push Receive has.entries a.0
      ∙ receive-added _ _ has.entries has.send has.receive has.first a.0.direction a.0.key a.2;
  first = first-added _ _ has.entries has.send has.receive has.first a.0.direction a.0.key a.2;
}

-- The keys of all lines, if there is one for each direction.
pub whole-file : (text : List ℕ) {all : List (List ℕ)} → all ≡ lines text → {d : Draft}
    → HasKeys all d → {k : LinkKeys} → d.send ≡ Some k.send → d.receive ≡ Some k.receive
    → k.former ≡ d.former → IsFileOf text k
whole-file text is {d} has {k} send receive former = record {
  entries = has.entries;
  say = subst (λ l. SayKeys l has.entries) is has.say;
  send = has.send ∙ ap option_to_list send;
  receive = has.receive ∙ ap (λ o. option_to_list o ++ option_to_list d.former) receive
      ∙ ap (λ o. k.receive ∷ option_to_list o) (sym former);
}

-- The key that the words of a line say was added.
pub line-added : (line : List ℕ) {text : List ℕ} → text ≡ before_comment line
    → {found : Option (Bor (List ℕ) × Bor (List ℕ) × Bor (List ℕ))} → AreWordsOf text found
    → {spi word digits : Bor (List ℕ)} → found ≡ Some (spi, word, digits)
    → {direction : Direction} {key : NamedKey} → SayKey spi.now word.now digits.now direction key
    → {old new : Draft} → Adds direction key old new → AddsLine line old new
line-added line {text} is {found} words {spi} {word} {digits} some {direction} {key} say adds = inr (
  record { direction = direction; key = key },
  record {
    spi = spi.now;
    word = word.now;
    digits = digits.now;
    words = subst (λ t. HasWords (spi.now ∷ word.now ∷ digits.now ∷ []) t) is
        (subst (AreWordsOf text) some words);
    say = say;
  },
  adds,
)
