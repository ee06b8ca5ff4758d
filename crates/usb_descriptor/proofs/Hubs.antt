-- What bytes that begin with a hub descriptor say.
use Rattle.std.proofs.Common.{◌≡◌, ◌≤◌, ◌==◌, ◌||◌, ◌&&◌, ℕ, nat_lt, nat_le, not, Bool, true, false}
use Rattle.std.proofs.Common.{if◌then◌else◌, List, length, slice_index, Result, Ok, Err, refl}
use Rattle.std.proofs.Common.{arith}
use Rattle.std.proofs.Common.{ap}
use Rattle.std.proofs.lemmas.Bool.{or_parts, leb-true}
use Rattle.std.proofs.lemmas.Bool.Decides.{nat_tests}
use Rattle.usb_request.specs.{HUB, HUB_LENGTH}
use Rattle.usb_descriptor.specs.{DescriptorFault, Length, Short, WrongType, hub_length, hub_spelled}
use Rattle.usb_descriptor.specs.{most_ports, port_count}

unless : (b : Bool) (fault : DescriptorFault) (r : Result (List ℕ) DescriptorFault) {v : List ℕ}
    → (if b then Err fault else r) ≡ Ok v → (b ≡ false) × (r ≡ Ok v)
unless true fault r h = absurd (cc h)
unless false fault r h = (refl, h)

-- the tests that a hub descriptor passes
record Passes (wide : Bool) (bytes v : List ℕ) : Type 0 where
  pub long : nat_lt (length bytes) HUB_LENGTH ≡ false
  pub typed : not (slice_index bytes 1 == HUB) ≡ false
  pub whole : nat_lt (slice_index bytes 0) (hub_length (port_count bytes)) ≡ false
  pub some : nat_le 1 (port_count bytes) ≡ true
  pub few : nat_le (port_count bytes) (most_ports wide) ≡ true
  pub same : bytes ≡ v

kept : (x y : Bool) → not (x && y) ≡ false → (x ≡ true) × (y ≡ true)
kept true true h = (refl, refl)
kept true false h = absurd (cc h)
kept false y h = absurd (cc h)

passes : (wide : Bool) (bytes : List ℕ) {v : List ℕ} → hub_spelled wide bytes ≡ Ok v
    → Passes wide bytes v
unfolding hub_spelled
passes wide bytes {v = v} h =
    let short = nat_lt (slice_index bytes 0) (hub_length (port_count bytes)) in
    let counted = nat_le 1 (port_count bytes) && nat_le (port_count bytes) (most_ports wide) in
    let last = if short || not counted then Err Length else Ok bytes in
    let next = if not (slice_index bytes 1 == HUB) then Err WrongType else last in
    let long = unless (nat_lt (length bytes) HUB_LENGTH) Short next h in
    let typed = unless (not (slice_index bytes 1 == HUB)) WrongType last long.1 in
    let counts = unless (short || not counted) Length (Ok bytes) typed.1 in
    let tests = or_parts short (not counted) counts.0 in
    let ports = kept (nat_le 1 (port_count bytes)) (nat_le (port_count bytes) (most_ports wide))
    tests.1 in
    record {
      long = long.0;
      typed = typed.0;
      whole = tests.0;
      some = ports.0;
      few = ports.1;
      same = cc counts.1;
    }

up_to_fifteen : (wide : Bool) (ports : ℕ) → nat_le ports (most_ports wide) ≡ true → ports ≤ 15
up_to_fifteen true ports h = leb-true ports 15 h
up_to_fifteen false ports h = let few = leb-true ports 7 h in omega (arith, few)

-- what a host reads that takes no wide hubs, one reads that does
pub hub_spelled-wide : (wide : Bool) (bytes : List ℕ) {v : List ℕ} → hub_spelled wide bytes ≡ Ok v
    → hub_spelled true bytes ≡ Ok v
unfolding hub_spelled
hub_spelled-wide wide bytes h =
    let p = passes wide bytes h in
    let few : nat_le (port_count bytes) 15 ≡ true =
    grind (arith, nat_tests, up_to_fifteen wide (port_count bytes) p.few) in
    rw (p.long, p.typed, p.whole, p.some, few) (ap Ok p.same)
