use Rattle.std.proofs.Common.{◌≡◌, ℕ, ◌-◌, ◌<◌, ◌≤◌, ◌++◌, true, false, List, length, take, drop, ap, ap₂, sym, ◌∙◌, arith}
use Rattle.cfd_bits.specs.Field.{field}
use Rattle.hmac.specs.Hmac.{hmac}
use Rattle.frame_security.specs.declared.config.Security.{Security}
use Rattle.frame_security.specs.Frames.{masked, number_in}
use Rattle.frame_security.specs.Opening.{OpenerState, is_authentic, key_fault}
use Rattle.frame_security.proofs.Parts.{frame_apart, number_apart}
use Rattle.frame_security.proofs.Faults.{compared, fault_apart, no_fault, used_number, wrong_mac}
use Rattle.frame_security.proofs.opening.Opener.look_behind.Goals as goal

pub returns-in_default-clause-refused : goal.returns-in_default-clause-refused
returns-in_default-clause-refused c =
    let o : OpenerState = c.args.self.now in
    let h : List ℕ = c.args.header.now in
    let b : List ℕ = c.args.behind.now in
    let ours : c.get-security.result ≡ o.security = c.get-security.ensures.is ∙ ap (λ (x : OpenerState). x.security) c.self.view_is in
    let is : c.from-mac_len.result ≡ o.security.mac_len = c.from-mac_len.ensures ∙ ap (λ (s : Security). s.mac_len) ours in
    let spi : c.read_uint-spi.result ≡ field (take (length b - c.from-mac_len.result) b) 0 16 =
    c.read_uint-spi.ensures.value ∙ ap (λ t. field t 0 16) c.split_at.ensures.front in
    sym (fault_apart o h b c.from-mac_len.result c.requires is c.if-behind-mac_len.false c.read_uint-spi.result spi
    ∙ ap (λ found. key_fault o.security found o.last (h ++ b)) (sym c.in_default.ensures))

pub returns-then-not-are_same-clause-refused : goal.returns-then-not-are_same-clause-refused
returns-then-not-are_same-clause-refused c =
    let o : OpenerState = c.args.self.now in
    let h : List ℕ = c.args.header.now in
    let b : List ℕ = c.args.behind.now in
    let m : ℕ = c.from-mac_len.result in
    let key : List ℕ = c.in-Some.key.now in
    let ours : c.get-security.result ≡ o.security = c.get-security.ensures.is ∙ ap (λ (x : OpenerState). x.security) c.self.view_is in
    let is : m ≡ o.security.mac_len = c.from-mac_len.ensures ∙ ap (λ (s : Security). s.mac_len) ours in
    let front : c.split_at.result.0.now ≡ take (length b - m) b = c.split_at.ensures.front in
    let back : c.split_at.result.1.now ≡ drop (length b - m) b = c.split_at.ensures.back in
    let spi : c.read_uint-spi.result ≡ field (take (length b - m) b) 0 16 = c.read_uint-spi.ensures.value ∙ ap (λ t. field t 0 16) front in
    let made : c.mac_of-whole.result ≡ hmac key (masked o.security.fields.insert_zone (h ++ take (length b - m) b)) =
    c.mac_of-whole.ensures ∙ ap₂ (λ (s : Security) t. hmac key (masked s.fields.insert_zone (h ++ t))) ours front in
    let right : is_authentic o.security key (h ++ b) ≡ false =
    compared o h b m c.requires is c.if-behind-mac_len.false key c.mac_of-whole.result c.are_same.result made
    (λ e. c.are_same.ensures.0 e ∙ back, λ e. c.are_same.ensures.1 (e ∙ sym back)) ∙ c.if-not-are_same.true in
    sym (fault_apart o h b m c.requires is c.if-behind-mac_len.false c.read_uint-spi.result spi
    ∙ ap (λ found. key_fault o.security found o.last (h ++ b)) (sym c.in-Some.ensures)
    ∙ wrong_mac o.security key o.last (h ++ b) right)

pub returns-then-number-self-clause-refused : goal.returns-then-number-self-clause-refused
returns-then-number-self-clause-refused c =
    let o : OpenerState = c.args.self.now in
    let h : List ℕ = c.args.header.now in
    let b : List ℕ = c.args.behind.now in
    let m : ℕ = c.from-mac_len.result in
    let key : List ℕ = c.in-Some.key.now in
    let ours : c.get-security.result ≡ o.security = c.get-security.ensures.is ∙ ap (λ (x : OpenerState). x.security) c.self.view_is in
    let is : m ≡ o.security.mac_len = c.from-mac_len.ensures ∙ ap (λ (s : Security). s.mac_len) ours in
    let front : c.split_at.result.0.now ≡ take (length b - m) b = c.split_at.ensures.front in
    let back : c.split_at.result.1.now ≡ drop (length b - m) b = c.split_at.ensures.back in
    let spi : c.read_uint-spi.result ≡ field (take (length b - m) b) 0 16 = c.read_uint-spi.ensures.value ∙ ap (λ t. field t 0 16) front in
    let made : c.mac_of-whole.result ≡ hmac key (masked o.security.fields.insert_zone (h ++ take (length b - m) b)) =
    c.mac_of-whole.ensures ∙ ap₂ (λ (s : Security) t. hmac key (masked s.fields.insert_zone (h ++ t))) ours front in
    let right : is_authentic o.security key (h ++ b) ≡ true =
    compared o h b m c.requires is c.if-behind-mac_len.false key c.mac_of-whole.result c.are_same.result made
    (λ e. c.are_same.ensures.0 e ∙ back, λ e. c.are_same.ensures.1 (e ∙ sym back)) ∙ c.if-not-are_same.false in
    let number : number_in (h ++ b) ≡ c.read_eight-number.result =
    number_apart h b (length b - m) c.requires (omega arith)
    ∙ sym (c.read_eight-number.ensures ∙ ap (λ t. field t 0 64) (c.split_at-2.ensures.back ∙ ap (drop 2) front)) in
    let last : c.self.inside.last ≡ o.last = ap (λ (x : OpenerState). x.last) c.self.view_is in
    let used : number_in (h ++ b) ≤ o.last = omega arith in
    sym (fault_apart o h b m c.requires is c.if-behind-mac_len.false c.read_uint-spi.result spi
    ∙ ap (λ found. key_fault o.security found o.last (h ++ b)) (sym c.in-Some.ensures)
    ∙ used_number o.security key o.last (h ++ b) right used)

pub returns-clause-mpdu : goal.returns-clause-mpdu
returns-clause-mpdu c =
    let o : OpenerState = c.args.self.now in
    let h : List ℕ = c.args.header.now in
    let b : List ℕ = c.args.behind.now in
    let m : ℕ = c.from-mac_len.result in
    let ours : c.get-security.result ≡ o.security = c.get-security.ensures.is ∙ ap (λ (x : OpenerState). x.security) c.self.view_is in
    let is : m ≡ o.security.mac_len = c.from-mac_len.ensures ∙ ap (λ (s : Security). s.mac_len) ours in
    ap (λ t. h ++ t) (c.split_at-3.ensures.back ∙ ap (drop 10) c.split_at.ensures.front)
    ∙ sym (frame_apart h b m c.requires (omega arith))
    ∙ ap (λ n. take 6 (h ++ b) ++ drop 16 (take (length (h ++ b) - n) (h ++ b))) is

pub returns-clause-number : goal.returns-clause-number
returns-clause-number c =
    let h : List ℕ = c.args.header.now in
    let b : List ℕ = c.args.behind.now in
    let m : ℕ = c.from-mac_len.result in
    c.read_eight-number.ensures ∙ ap (λ t. field t 0 64) (c.split_at-2.ensures.back ∙ ap (drop 2) c.split_at.ensures.front)
    ∙ sym (number_apart h b (length b - m) c.requires (omega arith))

pub returns-clause-refused : goal.returns-clause-refused
returns-clause-refused c =
    let o : OpenerState = c.args.self.now in
    let h : List ℕ = c.args.header.now in
    let b : List ℕ = c.args.behind.now in
    let m : ℕ = c.from-mac_len.result in
    let key : List ℕ = c.in-Some.key.now in
    let ours : c.get-security.result ≡ o.security = c.get-security.ensures.is ∙ ap (λ (x : OpenerState). x.security) c.self.view_is in
    let is : m ≡ o.security.mac_len = c.from-mac_len.ensures ∙ ap (λ (s : Security). s.mac_len) ours in
    let front : c.split_at.result.0.now ≡ take (length b - m) b = c.split_at.ensures.front in
    let back : c.split_at.result.1.now ≡ drop (length b - m) b = c.split_at.ensures.back in
    let spi : c.read_uint-spi.result ≡ field (take (length b - m) b) 0 16 = c.read_uint-spi.ensures.value ∙ ap (λ t. field t 0 16) front in
    let made : c.mac_of-whole.result ≡ hmac key (masked o.security.fields.insert_zone (h ++ take (length b - m) b)) =
    c.mac_of-whole.ensures ∙ ap₂ (λ (s : Security) t. hmac key (masked s.fields.insert_zone (h ++ t))) ours front in
    let right : is_authentic o.security key (h ++ b) ≡ true =
    compared o h b m c.requires is c.if-behind-mac_len.false key c.mac_of-whole.result c.are_same.result made
    (λ e. c.are_same.ensures.0 e ∙ back, λ e. c.are_same.ensures.1 (e ∙ sym back)) ∙ c.if-not-are_same.false in
    let number : number_in (h ++ b) ≡ c.read_eight-number.result =
    number_apart h b (length b - m) c.requires (omega arith)
    ∙ sym (c.read_eight-number.ensures ∙ ap (λ t. field t 0 64) (c.split_at-2.ensures.back ∙ ap (drop 2) front)) in
    let last : c.self.inside.last ≡ o.last = ap (λ (x : OpenerState). x.last) c.self.view_is in
    let fresh : o.last < number_in (h ++ b) = omega arith in
    sym (fault_apart o h b m c.requires is c.if-behind-mac_len.false c.read_uint-spi.result spi
    ∙ ap (λ found. key_fault o.security found o.last (h ++ b)) (sym c.in-Some.ensures)
    ∙ no_fault o.security key o.last (h ++ b) right fresh)
