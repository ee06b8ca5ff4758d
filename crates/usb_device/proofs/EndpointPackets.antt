-- What an endpoint gives, packet by packet.
use Rattle.std.proofs.Common.{◌≡◌, ◌≤◌, ◌+◌, ◌++◌, ℕ, zero, suc, List, [], ◌∷◌, length, take}
use Rattle.std.proofs.Common.{drop, Some, refl, ap, sym, subst, ◌∙◌, arith, length-append}
use Rattle.std.proofs.Common.{length-drop}
use Rattle.std.proofs.lemmas.List.{length-take, drop-drop}
use Rattle.std.proofs.Math.Seq.{take-add}
use Rattle.std.specs.List.{concat}
use Rattle.usb_device.specs.{EndpointData, GivesOn, Source, advanced, if_some}
use Rattle.usb_device.specs.{place_behind}

if_some-is : (xs b : List ℕ) → if_some xs ≡ Some b → xs ≡ b
if_some-is [] b h = cc h
if_some-is (x ∷ xs) b h = cc h

-- a packet of a source goes as far as the place behind it
length_packet : (source b : List ℕ) (most got : ℕ) → take most (drop got source) ≡ b
    → advanced got most (length source) ≡ got + length b
length_packet source b most got h =
    let n : length (take most (drop got source)) ≡ length b = ap length h in
    omega (arith, n, length-take most (drop got source), length-drop got source)

-- a front is the front with its own length
take-own : (most : ℕ) (xs : List ℕ) → take (length (take most xs)) xs ≡ take most xs
take-own zero xs = refl
take-own (suc n) [] = refl
take-own (suc n) (x ∷ xs) = ap (λ more. x ∷ more) (take-own n xs)

front : (b xs : List ℕ) (most : ℕ) → take most xs ≡ b → take (length b) xs ≡ b
front b xs most is = ap (λ z. take (length z) xs) (sym is) ∙ take-own most xs ∙ is

pub place_of_joined : (source : List ℕ) (most got behind : ℕ) (packets : List (List ℕ))
    → 1 ≤ most → GivesOn (Source source) most got packets behind
    → behind ≡ got + length (concat packets)
place_of_joined source most got behind [] some gives = omega (arith, gives)
place_of_joined source most got behind (b ∷ packets) some gives =
    let is = if_some-is (take most (drop got source)) b gives.0 in
    let next = place_of_joined source most (advanced got most (length source)) behind packets some
    gives.1 in
    omega (arith, next, length_packet source b most got is, length-append b (concat packets))

pub joined_bytes : (source : List ℕ) (most got behind : ℕ) (packets : List (List ℕ)) → 1 ≤ most
    → GivesOn (Source source) most got packets behind
    → concat packets ≡ take (length (concat packets)) (drop got source)
joined_bytes source most got behind [] some gives = refl
joined_bytes source most got behind (b ∷ packets) some gives =
    let is = if_some-is (take most (drop got source)) b gives.0 in
    let next = joined_bytes source most (advanced got most (length source)) behind packets some
    gives.1 in
    let more = concat packets in
    ap (λ first. first ++ more) (sym (front b (drop got source) most is))
    ∙ ap (λ rest. take (length b) (drop got source) ++ rest)
    (next
    ∙ ap (λ place. take (length more) (drop place source)) (length_packet source b most got is)
    ∙ ap (take (length more)) (sym (drop-drop (length b) got source)))
    ∙ sym (take-add (length b) (length more) (drop got source))
    ∙ ap (λ n. take n (drop got source)) (sym (length-append b more))

pub ruleset packets_of_a_source = (joined_bytes, place_of_joined)

-- one row of packets after another
pub gives-append : (content : EndpointData) (most got mid behind : ℕ) (a b : List (List ℕ))
    → GivesOn content most got a mid → GivesOn content most mid b behind
    → GivesOn content most got (a ++ b) behind
gives-append content most got mid behind [] b x y =
    subst (λ place. GivesOn content most place b behind) x y
gives-append content most got mid behind (p ∷ a) b x y =
    (x.0, gives-append content most (place_behind content most got) mid behind a b x.1 y)
