-- The packets of an answer, end to end.
use Rattle.std.proofs.Common.{◌≡◌, ◌<◌, ◌≤◌, ℕ, zero, suc, ◌+◌, ◌-◌, ◌*◌, ◌/◌, ◌%◌, ◌==◌, nat_lt}
use Rattle.std.proofs.Common.{min, if◌then◌else◌, ◌&&◌, not, Bool, true, false, List, [], ◌++◌}
use Rattle.std.proofs.Common.{length, take, drop, length-drop, Option, None, Some, is_some}
use Rattle.std.proofs.Common.{unwrap_or, refl, ap, ◌∙◌, sym, arith}
use Rattle.std.proofs.lemmas.Bool.Decides.{nat_tests}
use Rattle.std.proofs.lemmas.Bool.{and_parts}
use Rattle.std.proofs.lemmas.List.{take_all, append-nil, length-take}
use Rattle.std.proofs.lemmas.Nat.{div-add-mod'}
use Rattle.std.proofs.Math.Nat.{mod-lt, mul-le-mul_right, suc-mul, zero-mul}
use Rattle.std.proofs.Math.Seq.{take-add}
use Rattle.usb_device.specs.{packet_count, packet_at, packets_joined}

-- one packet more, for numbers whose products are given
covered-by : (q r max wanted len k P Q : ℕ) → Q + r ≡ len → r < max → (q ≤ k → Q ≤ P)
    → (q + 1 ≤ k → Q + max ≤ P) → (b : Bool) → (r == 0 && not (nat_lt len wanted)) ≡ b
    → nat_lt k (q + (if b then 0 else 1)) ≡ false → len ≤ P
covered-by q r max wanted len k P Q sum small one two true e h = let parts =
    and_parts (r == 0) (not (nat_lt len wanted)) e in grind (arith, nat_tests, sum, parts.0, one, h)
covered-by q r max wanted len k P Q sum small one two false e h =
    grind (arith, nat_tests, sum, small, two, h)

pub packet_count-covers : (max wanted len k : ℕ) → 0 < max → nat_lt k (packet_count max wanted len)
    ≡ false → len ≤ k * max
packet_count-covers max wanted len k pos h =
    covered-by (len / max) (len % max) max wanted len k (k * max) (len / max * max)
    (div-add-mod' len max) (mod-lt len pos) (λ le. mul-le-mul_right max le) (λ le. let m =
    mul-le-mul_right max le in omega (arith, m)) (len % max == 0 && not (nat_lt len wanted))
    refl h

-- ---- a packet that there is, and one that there is not

some-parts : (c : Bool) (x b : List ℕ) → (if c then Some x else None) ≡ Some b → (c ≡ true)
    × (x ≡ b)
some-parts true x b h = (refl, cc)
some-parts false x b h = cc

none-parts : (c : Bool) (x : List ℕ) → ◌≡◌ {A = Option (List ℕ)} (if c then Some x else None) None
    → c ≡ false
none-parts true x h = cc
none-parts false x h = refl

-- ---- whether there is one, by the length of the answer

is_some-if : (c : Bool) (x : List ℕ) → is_some (if c then Some x else None) ≡ c
is_some-if true x = refl
is_some-if false x = refl

has_packet-length : (max wanted k : ℕ) (answer : List ℕ) → is_some (packet_at max wanted answer k)
    ≡ nat_lt k (packet_count max wanted (min wanted (length answer)))
has_packet-length max wanted k answer =
    let bytes = take wanted answer in
    is_some-if (nat_lt k (packet_count max wanted (length bytes))) (take max (drop (k * max) bytes))
    ∙ ap (λ n. nat_lt k (packet_count max wanted n)) (length-take wanted answer)

pub has_packet-of : (max wanted k len : ℕ) (answer : List ℕ) → length answer ≡ len
    → nat_lt k (packet_count max wanted (min wanted len)) ≡ is_some (packet_at max wanted answer k)
has_packet-of max wanted k len answer is =
    ap (λ n. nat_lt k (packet_count max wanted (min wanted n))) (sym is)
    ∙ sym (has_packet-length max wanted k answer)

pub ruleset has = (has_packet-of)

-- ---- end to end

packets_joined-step : (max wanted k : ℕ) (w : List ℕ) → 0 < max → (c : Bool)
    → nat_lt k (packet_count max wanted (length w)) ≡ c
    → take (k * max) w ++ unwrap_or (if c then Some (take max (drop (k * max) w)) else None) []
    ≡ take (suc k * max) w
packets_joined-step max wanted k w pos true h = sym (take-add (k * max) max w)
    ∙ ap (λ n. take n w) (sym (suc-mul k max))
packets_joined-step max wanted k w pos false h =
    let all = packet_count-covers max wanted (length w) k pos h in
    rw (
      append-nil,
      take_all (k * max) w all,
      take_all (suc k * max) w (omega (arith, all, suc-mul k max)),
    ) refl

pub packets_joined-is : (max wanted : ℕ) (answer : List ℕ) (k : ℕ) → 0 < max
    → packets_joined max wanted answer k ≡ take (k * max) (take wanted answer)
packets_joined-is max wanted answer zero pos = rw (zero-mul max) refl
packets_joined-is max wanted answer (suc k) pos =
    ap (λ bs. bs ++ unwrap_or (packet_at max wanted answer k) [])
    (packets_joined-is max wanted answer k pos)
    ∙ packets_joined-step max wanted k (take wanted answer) pos
    (nat_lt k (packet_count max wanted (length (take wanted answer)))) refl

pub packets_joined-whole : (max wanted : ℕ) (answer : List ℕ) (k : ℕ) → 0 < max
    → packet_at max wanted answer k ≡ None → packets_joined max wanted answer k ≡ take wanted answer
packets_joined-whole max wanted answer k pos h =
    let w = take wanted answer in
    let over = none-parts (nat_lt k (packet_count max wanted (length w)))
    (take max (drop (k * max) w)) h in
    packets_joined-is max wanted answer k pos
    ∙ take_all (k * max) w (packet_count-covers max wanted (length w) k pos over)

pub packet-fits : (max wanted : ℕ) (answer bytes : List ℕ) (k : ℕ) → packet_at max wanted answer k
    ≡ Some bytes → length bytes ≤ max
packet-fits max wanted answer bytes k h =
    let w = take wanted answer in
    let parts = some-parts (nat_lt k (packet_count max wanted (length w)))
    (take max (drop (k * max) w)) bytes h in
    let len = length-take max (drop (k * max) w) in
    rw (← parts.1, len) (omega arith)

-- ---- the last packet

further-by : (q r max wanted len k P Q : ℕ) → Q + r ≡ len → r < max → len ≤ wanted
    → (k + 1 ≤ q → P + max ≤ Q) → (k + 2 ≤ q → P + max + max ≤ Q) → (q ≤ k + 1 → Q ≤ P + max)
    → (q ≤ k → Q ≤ P)
    → (b : Bool) → (r == 0 && not (nat_lt len wanted)) ≡ b → nat_lt k (q + (if b then 0 else 1))
    ≡ true → nat_lt (k + 1) (q + (if b then 0 else 1))
    ≡ (min max (len - P) == max && nat_lt (min (P + max) len) wanted)
further-by q r max wanted len k P Q sum small most one two three four true e h = let parts =
    and_parts (r == 0) (not (nat_lt len wanted)) e in
    grind (arith, nat_tests, sum, parts.0, parts.1, most, one, two, three, h)
further-by q r max wanted len k P Q sum small most one two three four false e h =
    grind (arith, nat_tests, sum, small, most, e, one, two, three, four, h)

further-at : (max wanted len k : ℕ) → 0 < max → len ≤ wanted
    → nat_lt k (packet_count max wanted len) ≡ true → nat_lt (k + 1) (packet_count max wanted len)
    ≡ (min max (len - k * max) == max && nat_lt (min (k * max + max) len) wanted)
further-at max wanted len k pos most h =
    let q = len / max in
    further-by q (len % max) max wanted len k (k * max) (q * max) (div-add-mod' len max)
    (mod-lt len pos) most
    (λ le. let m = mul-le-mul_right max le in omega (arith, m))
    (λ le. let m = mul-le-mul_right max le in omega (arith, m))
    (λ le. let m = mul-le-mul_right max le in omega (arith, m))
    (λ le. mul-le-mul_right max le)
    (len % max == 0 && not (nat_lt len wanted)) refl h

pub packet-further : (max wanted : ℕ) (answer bytes : List ℕ) (k : ℕ) → 0 < max
    → packet_at max wanted answer k ≡ Some bytes → is_some (packet_at max wanted answer (k + 1))
    ≡ (length bytes == max && nat_lt (length (packets_joined max wanted answer (k + 1))) wanted)
packet-further max wanted answer bytes k pos h =
    let w = take wanted answer in
    let parts = some-parts (nat_lt k (packet_count max wanted (length w)))
    (take max (drop (k * max) w)) bytes h in
    let most : length w ≤ wanted = rw (length-take wanted answer) (omega arith) in
    let len : length bytes ≡ min max (length w - k * max) =
    rw (← parts.1) (length-take max (drop (k * max) w)
    ∙ ap (min max) (length-drop (k * max) w)) in
    let next : (k + 1) * max ≡ k * max + max = omega arith in
    let all : length (packets_joined max wanted answer (k + 1)) ≡ min (k * max + max) (length w) =
    ap length (packets_joined-is max wanted answer (k + 1) pos) ∙ length-take ((k + 1) * max) w
    ∙ ap (λ n. min n (length w)) next in
    rw (len, all) (is_some-if (nat_lt (k + 1) (packet_count max wanted (length w)))
    (take max (drop ((k + 1) * max) w)) ∙ further-at max wanted (length w) k pos most parts.0)

pub ruleset packets = (packets_joined-whole, packet-fits, packet-further)
