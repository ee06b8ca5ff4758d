-- What an interface's setting changes, and what it leaves.
use Rattle.std.proofs.Common.{◌≡◌, ◌||◌, ◌==◌, if◌then◌else◌, ℕ, Bool, true, false, List, None}
use Rattle.std.proofs.Common.{refl, ap, ap₂}
use Rattle.usb_descriptor.specs.{belongs_to, max_of_usable, names_in}
use Rattle.usb_descriptor.specs.{usable_under, with_setting}
use Rattle.usb_descriptor.proofs.Interface.{belongs_to-elsewhere, usable-elsewhere}
use Rattle.usb_device.specs.{Registers, Spec, State, begun_if, in_end, in_max}
use Rattle.usb_device.specs.{is_of_setting, no_in, no_out, out_end, out_max, rested_in}
use Rattle.usb_device.specs.{rested_out, served_at, set_to, takes_setting, text_of, with_endpoints}
use Rattle.usb_device.specs.{with_interface}
use Rattle.usb_device.proofs.RowsOfEnds.{at_numbered, begun_if-none}

-- each endpoint of the interface begins again, and no other

pub out_end-setting : (d : State) (interface setting e : ℕ)
    → out_end (with_endpoints d (takes_setting interface setting)) e
    ≡ begun_if (is_of_setting d.spec d.registers interface setting false e) rested_out (out_end d e)
out_end-setting d interface setting e =
    let begins : ℕ → Bool = is_of_setting d.spec d.registers interface setting false in
    at_numbered no_out (λ k. begun_if (begins k) rested_out)
    (λ k. begun_if-none rested_out no_out refl (begins k)) e d.outs

pub in_end-setting : (d : State) (interface setting e : ℕ)
    → in_end (with_endpoints d (takes_setting interface setting)) e
    ≡ begun_if (is_of_setting d.spec d.registers interface setting true e) rested_in (in_end d e)
in_end-setting d interface setting e =
    let begins : ℕ → Bool = is_of_setting d.spec d.registers interface setting true in
    at_numbered no_in (λ k. begun_if (begins k) rested_in)
    (λ k. begun_if-none rested_in no_in refl (begins k)) e d.ins

-- What is served

-- by what the text says of an address
none_or_same : {A : Type 0} (b : Bool) (none x y : A) → x ≡ y
    → (if b then none else x) ≡ (if b then none else y)
none_or_same true none x y h = refl
none_or_same false none x y h = h

-- at other settings with which the same is usable there
pub served_at-settings : (s : Spec) (g : Registers) (settings : List ℕ) (is_in : Bool) (e : ℕ)
    → usable_under settings s.low is_in e (text_of s g)
    ≡ usable_under g.settings s.low is_in e (text_of s g)
    → served_at s (record g { settings = settings }) is_in e ≡ served_at s g is_in e
served_at-settings s g settings is_in e h = none_or_same (g.configuration == 0) None _ _ h

-- at an address that the interface has not
module _ (s : Spec) (g : Registers) (interface setting : ℕ) (is_in : Bool) (e : ℕ)
    (elsewhere : names_in interface is_in e (text_of s g) ≡ false) where
  pub served_at-elsewhere : served_at s (with_interface interface setting g) is_in e
      ≡ served_at s g is_in e
  served_at-elsewhere = served_at-settings s g (with_setting interface setting g.settings) is_in e
      (usable-elsewhere interface setting g.settings s.low is_in e (text_of s g) elsewhere)

  owned-elsewhere : (settings : List ℕ)
      → belongs_to interface (served_at s (record g { settings = settings }) is_in e) ≡ false
  owned-elsewhere settings = by_configuration (g.configuration == 0)
    where
      by_configuration : (b : Bool) → belongs_to interface (if b then None
          else usable_under settings s.low is_in e (text_of s g)) ≡ false
      by_configuration true = refl
      by_configuration false =
          belongs_to-elsewhere interface settings s.low is_in e (text_of s g) elsewhere

  pub is_of_setting-elsewhere : is_of_setting s g interface setting is_in e ≡ false
  is_of_setting-elsewhere = ap₂ ◌||◌ (owned-elsewhere g.settings)
      (owned-elsewhere (with_setting interface setting g.settings))

pub out_max-elsewhere : (d : State) (interface setting e : ℕ)
    → names_in interface false e (text_of d.spec d.registers) ≡ false
    → out_max (set_to d interface setting) e ≡ out_max d e
out_max-elsewhere d interface setting e h =
    ap max_of_usable (served_at-elsewhere d.spec d.registers interface setting false e h)

pub in_max-elsewhere : (d : State) (interface setting e : ℕ)
    → names_in interface true e (text_of d.spec d.registers) ≡ false
    → in_max (set_to d interface setting) e ≡ in_max d e
in_max-elsewhere d interface setting e h =
    ap max_of_usable (served_at-elsewhere d.spec d.registers interface setting true e h)

-- A device that is plugged or reset has each setting 0
