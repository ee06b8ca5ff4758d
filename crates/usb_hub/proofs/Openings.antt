-- The world of a plan before anything came: no device stands, so its tree is settled.
use Rattle.std.proofs.Common.{ℕ, zero, suc, refl, ap}
use Rattle.std.specs.Prelude.{⊤}
use Rattle.usb_device.specs.{all_forgotten, Ports, ended, vacant, taken, new_ports}
use Rattle.usb_world.specs.{IsSettled, PlanData, opening}

-- a row of ports on which no device stands
abbrev pub IsVacant : Ports → Type 0
IsVacant ended = ⊤
IsVacant (vacant b k) = IsVacant k
IsVacant (taken b s a k) = ⊥

pub vacant_settled : (k : Ports) → IsVacant k → IsSettled k
unfolding all_forgotten
vacant_settled ended h = refl
vacant_settled (vacant b k) h = ap (vacant b) (vacant_settled k h)
vacant_settled (taken b s a k) h = elim h [ ]

pub new_vacant : (n : ℕ) → IsVacant (new_ports n)
unfolding new_ports
new_vacant zero = tt
new_vacant (suc n) = new_vacant n

-- The world of a plan

pub opening_vacant : (plan : PlanData) → IsVacant (opening plan).roots
opening_vacant plan = new_vacant plan.roots

pub opening_settled : (plan : PlanData) → IsSettled (opening plan).roots
opening_settled plan = vacant_settled (new_ports plan.roots) (opening_vacant plan)
