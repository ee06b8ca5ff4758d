-- What is read of lines that name ports.
use Rattle.std.proofs.Common.{◌≡◌, ◌∙◌, ℕ, Bool, true, false, List, Option, Some, None, Result, Ok}
use Rattle.std.proofs.Common.{Err, IfOk, refl, ap, if◌then◌else◌}
use Rattle.usb_wire.specs.{Asked, Hubs, IsSaidLine, MaySay, MaySayTo, Said, WireFault, BadPath}
use Rattle.usb_wire.specs.{fault_in, line_fault, line_says, names_ports, port_fault}
use Rattle.usb_wire.specs.{said_path, said_to}
use Rattle.usb_wire.proofs.FaultLaws.{faults-line}

named_if : (b : Bool) (asked : Asked) (hubs : Hubs) (line : List ℕ) (said : Said)
    → names_ports hubs.wide (said_path said) ≡ b → MaySay asked hubs.roots said
    × IsSaidLine line said
    → IfOk {E = WireFault} (if b then Ok said else Err BadPath)
    (λ said. MaySayTo asked hubs said × IsSaidLine line said)
named_if true asked hubs line said named h = ((h.0, named), h.1)
named_if false asked hubs line said named h = tt

pub said_to-may : (asked : Asked) (hubs : Hubs) (line : List ℕ) (r : Result Said WireFault)
    → IfOk r (λ said. MaySay asked hubs.roots said × IsSaidLine line said)
    → IfOk (said_to hubs.wide r) (λ said. MaySayTo asked hubs said × IsSaidLine line said)
said_to-may asked hubs line (Ok said) h =
    named_if (names_ports hubs.wide (said_path said)) asked hubs line said refl h
said_to-may asked hubs line (Err fault) h = tt

pub said_to-only : (wide : Bool) (r : Result Said WireFault) (said : Said) → r ≡ Ok said
    → names_ports wide (said_path said) ≡ true → said_to wide r ≡ Ok said
said_to-only wide r said e named = ap (said_to wide) e ∙ rw named

faults_if : (b : Bool) (said : Said) → fault_in (if b then Ok said else Err BadPath)
    ≡ (if b then None else Some BadPath)
faults_if true said = refl
faults_if false said = refl

fault_after : (wide : Bool) (r : Result Said WireFault) → fault_in (said_to wide r)
    ≡ elim (fault_in r) [ Some fault ↦ Some fault | None ↦ port_fault wide r ]
fault_after wide (Ok said) = faults_if (names_ports wide (said_path said)) said
fault_after wide (Err fault) = refl

pub said_to-fault : (asked : Asked) (hubs : Hubs) (line : List ℕ)
    → fault_in (said_to hubs.wide (line_says asked hubs.roots line)) ≡ line_fault asked hubs line
said_to-fault asked hubs line =
    let r = line_says asked hubs.roots line in
    fault_after hubs.wide r
    ∙ ap (λ (o : Option WireFault).
    elim o [ Some fault ↦ Some fault | None ↦ port_fault hubs.wide r ])
    (faults-line asked hubs.roots line)
