use Rattle.std.proofs.Common.{◌≡◌, ◌<◌, List, ℕ, Some}
use Rattle.std.specs.List.{slice_get}
use Rattle.usb_host.specs.{known_in, number_in}
use Rattle.usb_host.proofs.host.Host.first_left.Given as goal

abbrev pub invariant-reported : goal.invariant-reported
invariant-reported g l = (i : ℕ) (other : List ℕ × ℕ) → i < l.place
    → slice_get l.self.reported i ≡ Some other → number_in other.0 (known_in l.self) ≡ Some other.1
