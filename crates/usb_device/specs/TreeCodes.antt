-- How a tree of devices is told from another: its code, and its size.
use Rattle.std.specs.Prelude.{◌≡◌, ℕ, ◌+◌, List, [], ◌∷◌, Option, None, Some, refl}
use Rattle.std.proofs.Common.{ap, ◌∙◌}
use Rattle.std.specs.Coded.{Coded, code_by, coded×, coded_list, coded_option}
use Rattle.usb_port.specs.{PortState}
use Rattle.usb_port.specs.contracts.port.Port.{the_row as port_row}
use Rattle.usb_device.specs.Rows.{State}
use Rattle.usb_device.specs.Tree.{Ports, ended, vacant, taken, Plugged}

-- a mark for each port, and one for the end of a row
abbrev Mark : Type 0
Mark = Option (PortState × Option State)

-- given the code of a device's state
abbrev mark_code : Coded State → Coded Mark
mark_code c = coded_option (coded× port_row.coded (coded_option c))

-- a row of marks that spells the ports, before the marks `after`
abbrev spelled : Ports → List Mark → List Mark
spelled ended after = None ∷ after
spelled (vacant b k) after = Some (b, None) ∷ spelled k after
spelled (taken b s a k) after = Some (b, Some s) ∷ spelled a (spelled k after)

abbrev vacant_top : PortState → List Ports → List Ports
vacant_top b [] = []
vacant_top b (k ∷ ks) = vacant b k ∷ ks

abbrev taken_top : PortState → State → List Ports → List Ports
taken_top b s [] = []
taken_top b s (a ∷ []) = []
taken_top b s (a ∷ k ∷ ks) = taken b s a k ∷ ks

abbrev pushed_port : PortState → Option State → List Ports → List Ports
pushed_port b None ks = vacant_top b ks
pushed_port b (Some s) ks = taken_top b s ks

abbrev pushed : Mark → List Ports → List Ports
pushed None ks = ended ∷ ks
pushed (Some m) ks = pushed_port m.0 m.1 ks

abbrev read_back : List Mark → List Ports
read_back [] = []
read_back (m ∷ ms) = pushed m (read_back ms)

abbrev top : List Ports → Ports
top [] = ended
top (k ∷ ks) = k

pub read_back-spelled : (k : Ports) (after : List Mark) → read_back (spelled k after)
    ≡ k ∷ read_back after
read_back-spelled ended after = refl
read_back-spelled (vacant b k) after = ap (vacant_top b) (read_back-spelled k after)
read_back-spelled (taken b s a k) after =
    ap (taken_top b s) (read_back-spelled a (spelled k after)
    ∙ ap (λ ks. a ∷ ks) (read_back-spelled k after))

abbrev pub ports_code : Coded State → Coded Ports
ports_code c = code_by (List Mark) (coded_list (mark_code c)) (λ k. spelled k [])
    (λ ms. top (read_back ms)) (λ k. ap top (read_back-spelled k []))

abbrev pub plugged_code : Coded State → Coded Plugged
plugged_code c = code_by (State × Ports) (coded× c (ports_code c)) (λ t. (t.own, t.ports))
    (λ p. record { own = p.0; ports = p.1 }) (λ _. refl)

-- a device counts one more than its row of ports
abbrev pub weight : Ports → ℕ
weight ended = 0
weight (vacant b k) = weight k
weight (taken b s a k) = 2 + weight a + weight k

abbrev pub plugged_weight : Plugged → ℕ
plugged_weight t = 1 + weight t.ports
