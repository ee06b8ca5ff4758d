-- Sums of a run: what attempts cost, what is left to do, and what the events to come pay.
use Rattle.std.proofs.Common.{◌≡◌, ◌≤◌, ℕ, ◌+◌, ◌*◌, ap, min, arith}
use Rattle.std.proofs.Math.Nat.{mul-le-mul_left}
use Rattle.usb_hub.proofs.Interface.{within_bound}

-- what is left to do after so many events, where each adds seven looks and one change that asks for
-- none
pub debt_grown : (a c k l s h l' s' h' t t' : ℕ) → l' + 7 * t ≤ l + 7 * t' → s' + t ≤ s + t'
    → h' ≤ h → a * l' + c * s' + k * h' + (7 * a + c) * t ≤ a * l + c * s + k * h + (7 * a + c) * t'
debt_grown a c k l s h l' s' h' t t' looks strays hubs =
    let x = mul-le-mul_left a looks in
    let y = mul-le-mul_left c strays in
    let z = mul-le-mul_left k hubs in
    omega (arith, x, y, z)

-- where that is less than what an event pays, attempts and what is left to do are within the events
pub grown_pays : (e x y a d t a' d' t' more : ℕ) → e ≡ x + y → a' ≤ a + more
    → d' + x * t ≤ d + x * t' → t ≤ t' → a' + d' + e * t ≤ a + d + e * t' + more
grown_pays e x y a d t a' d' t' more is attempts debts later =
    let z = mul-le-mul_left y later in
    let before = ap (λ i. i * t) is in
    let behind = ap (λ i. i * t') is in
    omega (arith, attempts, debts, z, before, behind)

-- events that came are no longer to come: their polls are over
pub owed_after : (e z a d t n m a' d' t' n' m' k more : ℕ) → a' + d' + e * t ≤ a + d + e * t' + more
    → t' + n' ≡ t + n → n' + k ≤ n → m' ≤ m
    → a' + d' + (e + z) * n' + m' + z * k ≤ a + d + (e + z) * n + m + more
owed_after e z a d t n m a' d' t' n' m' k more pays events fewer moves =
    let x = ap (λ i. e * i) events in
    let y = mul-le-mul_left z fewer in
    omega (arith, pays, x, y, moves)

-- one event came: what it adds is less than what it pays, by its polls and what it asks
pub owed_behind : (e x y z a d t n m a' d' t' n' m' v : ℕ) → e ≡ x + y → a' ≤ a + 0
    → d' + x * t ≤ d + x * t' → t' ≡ t + 1 → n ≡ n' + 1 → m ≡ v + m'
    → a' + d' + (e + z) * n' + m' + (y + z + v) ≤ a + d + (e + z) * n + m
owed_behind e x y z a d t n m a' d' t' n' m' v is attempts debts one left moves =
    let w = ap (λ i. (e + z) * i) left in
    let later = ap (λ i. x * i) one in
    omega (arith, is, attempts, debts, later, w, moves)

-- attempts that were made, and those of one thing more that was cut off
pub stopped_within : (e z a d t n m a' t' most room : ℕ) → a' + e * t ≤ a + d + e * t' + e
    → t' ≤ t + n → a + d + (e + z) * n + m + room ≤ most → a' ≤ most + e
stopped_within e z a d t n m a' t' most room stops few owes =
    let x = mul-le-mul_left e few in
    omega (arith, stops, x, owes)

-- and those of a look that is paid for
pub looked_within : (e z a d t n m a' t' most room : ℕ) → a' + e * t ≤ a + d + e * t' + room
    → t' ≤ t + n → a + d + (e + z) * n + m + (z + room) ≤ most → a' ≤ most + e
looked_within e z a d t n m a' t' most room stops few owes =
    let x = mul-le-mul_left e few in
    omega (arith, stops, x, owes)

-- nothing is left to do yet
pub owed_first : (a c k l s h p q z : ℕ) → l ≡ 0 → s ≡ 0 → h ≡ 0
    → 0 + (a * l + c * s + k * h) + p + q + z ≤ p + q + z
owed_first a c k l s h p q z looks strays hubs =
    let x = ap (λ i. a * i) looks in
    let y = ap (λ i. c * i) strays in
    let w = ap (λ i. k * i) hubs in
    omega (arith, x, y, w)

-- all that is owed is within the bound, if an event is to come: what each look pays besides is as
-- much as that of an event without looks
pub within_enough : (v l w m a e x : ℕ) → 1 ≤ v → e ≡ 2992000 + 800 * w + 25 * (768 * v) → x ≤ e
    → a ≤ (e + 768 * v) * v + (1000 * m + x * v * l) + 768 * v + e
    → a + 2 ≤ 200 * (v * (1 + l)) * (30000 + 10 * w) + 50000 * (v * (1 + l)) * v + 1000 * m + 2
within_enough v l w m a e x some is less within =
    let each = ap (λ i. i * v) is in
    let bound = within_bound v w some in
    let one : e * v ≤ 200 * v * (30000 + 10 * w) + 50000 * v * v = omega (arith, bound, is, each) in
    let looks = mul-le-mul_left l one in
    let paid = mul-le-mul_left (v * l) less in
    omega (arith, bound, is, each, looks, paid, within)

-- if there is none, nothing is
pub none_enough : (v l w m a : ℕ) → a ≤ 0 → a + 2 ≤ 200 * (v * (1 + l)) * (30000 + 10 * w) + 50000 *
    (v * (1 + l)) * v + 1000 * m + 2
none_enough v l w m a none = omega (arith, none)

pub uncut : (x top limit : ℕ) → min x top ≤ limit → limit + 1 ≤ top → x ≤ limit
uncut x top limit below less = omega (arith, below, less)

-- Joins

pub pays_costs : (x y z : ℕ) → x + 0 + y ≤ z → x + y ≤ z + 0
pays_costs x y z h = omega (arith, h)

pub owed_worked : (x y z most : ℕ) → x + z * 0 ≤ y + 0 → y + z ≤ most → x + z ≤ most
owed_worked x y z most h owes = omega (arith, h, owes)

pub owed_came : (x y z most : ℕ) → x + z * 1 ≤ y + z → y + z ≤ most → x + z ≤ most
owed_came x y z most h owes = omega (arith, h, owes)

pub owed_settled : (x y z most : ℕ) → x + z * 0 ≤ y + z → y + z ≤ most → x + 0 ≤ most
owed_settled x y z most h owes = omega (arith, h, owes)

pub owed_moved : (x y z n most : ℕ) → x + z * 0 ≤ y + n → y + (z + n) ≤ most → x + z ≤ most
owed_moved x y z n most h owes = omega (arith, h, owes)

pub owed_due : (x y b z v r most : ℕ) → x + (b + z + v) ≤ y → r ≤ b + v → y + 0 ≤ most
    → x + (z + r) ≤ most
owed_due x y b z v r most h fits owes = omega (arith, h, fits, owes)

pub moved_within : (a' a d p q z n most e : ℕ) → a' ≤ a + n → a + d + p + q + (z + n) ≤ most
    → a' ≤ most + e
moved_within a' a d p q z n most e h owes = omega (arith, h, owes)

pub still_within : (a' a most : ℕ) → a' ≤ a + 0 → a ≤ most → a' ≤ most
still_within a' a most h few = omega (arith, h, few)

pub room_within : (x y r most : ℕ) → y ≤ r → x + r ≤ most → x + y ≤ most
room_within x y r most less owes = omega (arith, less, owes)
