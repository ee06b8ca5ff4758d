-- A request that a device accepts twice asks the same again, and is as if it came once.
use Rattle.std.proofs.Common.{◌≡◌, ◌⊎◌, inl, inr, ℕ, zero, suc, if◌then◌else◌, Bool, true}
use Rattle.std.proofs.Common.{false, ◌||◌, List, [], ◌∷◌, map, get_or}
use Rattle.std.proofs.Common.{refl, sym, ap, ap₂, ◌∙◌, arith}
use Rattle.usb_request.specs.{GET_STATUS, CLEAR_FEATURE, SET_FEATURE, SET_ADDRESS, GET_DESCRIPTOR}
use Rattle.usb_request.specs.{GET_CONFIGURATION, SET_CONFIGURATION, GET_INTERFACE, SET_INTERFACE}
use Rattle.usb_request.specs.{DEVICE_IN, DEVICE_OUT, INTERFACE_IN, INTERFACE_OUT, ENDPOINT_IN}
use Rattle.usb_request.specs.{ENDPOINT_OUT, HUB_IN, PORT_IN, PORT_OUT, Setup}
use Rattle.usb_descriptor.specs.{belongs_to, default_settings, with_setting}
use Rattle.usb_port.specs.{PortState}
use Rattle.usb_device.specs.{BulkIn, BulkOut, InEnd, Is, OutEnd, Outcome, Registers, Spec, State}
use Rattle.usb_device.specs.{begun, begun_if, halted, halts, ins_set}
use Rattle.usb_device.specs.{no_in, no_out, numbered_from, outcome, outs_set}
use Rattle.usb_device.specs.{registers_at_setup, rested_in, rested_out, served_at}
use Rattle.usb_device.specs.{takes_configuration, takes_setting, unhalts, with_at}
use Rattle.usb_device.specs.{with_interface}
use Rattle.usb_device.proofs.OwnOutcomes.{asked_own-any}
use Rattle.usb_device.proofs.RowsOfEnds.{begun_if-twice, numbered_from-twice}

-- What it asks

abbrev configures : Outcome → Bool
configures (takes_configuration c) = true
configures o = false

abbrev sets : Outcome → Bool
sets (takes_setting interface setting) = true
sets o = false

-- at other registers it asks the same, or what it asks is not of that kind
abbrev Again : (Outcome → Bool) → Outcome → Outcome → Type 0
Again kind x y = (y ≡ x) ⊎ (kind x ≡ false)

again_if : (kind : Outcome → Bool) (b : Bool) (x y u v : Outcome) → Again kind x u → Again kind y v
    → Again kind (if b then x else y) (if b then u else v)
again_if kind true x y u v h k = h
again_if kind false x y u v h k = k

-- SET_CONFIGURATION looks at the address, and at no other register (9.4.7)
configured-again : (s : Spec) (g : Registers) (r : Setup) (c : ℕ)
    → Again configures (outcome s g r)
    (outcome s (record g { configuration = c; settings = default_settings }) r)
unfolding outcome
configured-again s g r c =
    again_if configures (Is r DEVICE_IN GET_DESCRIPTOR) _ _ _ _ (inl refl)
    (again_if configures (Is r DEVICE_IN GET_STATUS) _ _ _ _ (inl refl)
    (again_if configures (Is r DEVICE_IN GET_CONFIGURATION) _ _ _ _ (inr refl)
    (again_if configures (Is r DEVICE_OUT SET_ADDRESS) _ _ _ _ (inl refl)
    (again_if configures (Is r DEVICE_OUT SET_CONFIGURATION) _ _ _ _ (inl refl)
    (again_if configures (Is r INTERFACE_IN GET_STATUS) _ _ _ _ (inr (grind arith))
    (again_if configures (Is r INTERFACE_IN GET_INTERFACE) _ _ _ _ (inr (grind arith))
    (again_if configures (Is r INTERFACE_OUT SET_INTERFACE) _ _ _ _ (inr (grind arith))
    (again_if configures (Is r ENDPOINT_IN GET_STATUS) _ _ _ _ (inr (grind arith))
    (again_if configures (Is r ENDPOINT_OUT CLEAR_FEATURE) _ _ _ _ (inr (grind arith))
    (again_if configures (Is r ENDPOINT_OUT SET_FEATURE) _ _ _ _ (inr (grind arith))
    (again_if configures (Is r HUB_IN GET_DESCRIPTOR) _ _ _ _ (inl refl)
    (again_if configures (Is r PORT_IN GET_STATUS) _ _ _ _ (inr (grind arith))
    (again_if configures (Is r PORT_OUT SET_FEATURE) _ _ _ _ (inr (grind arith))
    (again_if configures (Is r PORT_OUT CLEAR_FEATURE) _ _ _ _ (inr (grind arith))
    (inr (asked_own-any (λ o. configures o ≡ false) refl s.requests g r (λ bytes. refl) refl
    (λ kept. refl)))))))))))))))))

-- SET_INTERFACE looks at no setting (9.4.10)
set-again : (s : Spec) (g : Registers) (r : Setup) (interface setting : ℕ)
    → Again sets (outcome s g r) (outcome s (with_interface interface setting g) r)
unfolding outcome
set-again s g r interface setting =
    again_if sets (Is r DEVICE_IN GET_DESCRIPTOR) _ _ _ _ (inl refl)
    (again_if sets (Is r DEVICE_IN GET_STATUS) _ _ _ _ (inl refl)
    (again_if sets (Is r DEVICE_IN GET_CONFIGURATION) _ _ _ _ (inl refl)
    (again_if sets (Is r DEVICE_OUT SET_ADDRESS) _ _ _ _ (inl refl)
    (again_if sets (Is r DEVICE_OUT SET_CONFIGURATION) _ _ _ _ (inl refl)
    (again_if sets (Is r INTERFACE_IN GET_STATUS) _ _ _ _ (inl refl)
    (again_if sets (Is r INTERFACE_IN GET_INTERFACE) _ _ _ _ (inr (grind arith))
    (again_if sets (Is r INTERFACE_OUT SET_INTERFACE) _ _ _ _ (inl refl)
    (again_if sets (Is r ENDPOINT_IN GET_STATUS) _ _ _ _ (inr (grind arith))
    (again_if sets (Is r ENDPOINT_OUT CLEAR_FEATURE) _ _ _ _ (inr (grind arith))
    (again_if sets (Is r ENDPOINT_OUT SET_FEATURE) _ _ _ _ (inr (grind arith))
    (again_if sets (Is r HUB_IN GET_DESCRIPTOR) _ _ _ _ (inl refl)
    (again_if sets (Is r PORT_IN GET_STATUS) _ _ _ _ (inr (grind arith))
    (again_if sets (Is r PORT_OUT SET_FEATURE) _ _ _ _ (inr (grind arith))
    (again_if sets (Is r PORT_OUT CLEAR_FEATURE) _ _ _ _ (inr (grind arith))
    (inr (asked_own-any (λ o. sets o ≡ false) refl s.requests g r (λ bytes. refl) refl
    (λ kept. refl)))))))))))))))))

-- what a request asks once it was accepted
pub outcome-again : (s : Spec) (g : Registers) (r : Setup) (o : Outcome) → outcome s g r ≡ o
    → outcome s (registers_at_setup g o) r ≡ o
outcome-again s g r (takes_configuration c) e = elim (configured-again s g r c) [
  | inl h ↦ h ∙ e
  | inr h ↦ cc (sym h ∙ ap configures e)
]
outcome-again s g r (takes_setting interface setting) e = elim (set-again s g r interface setting) [
  | inl h ↦ h ∙ e
  | inr h ↦ cc (sym h ∙ ap sets e)
]
outcome-again s g r o e = e

-- What is done

-- the same is done to an endpoint, or to each of a row, again
module _ {A : Type 0} (none : A) (f : A → A) (same : (x : A) → f (f x) ≡ f x) where
  abbrev done_at : ℕ → List A → List A
  done_at n row = with_at none n (f (get_or row n none)) row

  at_twice : (n : ℕ) (row : List A) → done_at n (done_at n row) ≡ done_at n row
  unfolding with_at
  at_twice zero [] = ap (λ x. x ∷ []) (same none)
  at_twice zero (y ∷ row) = ap (λ x. x ∷ row) (same y)
  at_twice (suc n) [] = ap (λ row. none ∷ row) (at_twice n [])
  at_twice (suc n) (y ∷ row) = ap (λ more. y ∷ more) (at_twice n row)

  each_twice : (row : List A) → map f (map f row) ≡ map f row
  each_twice [] = refl
  each_twice (y ∷ row) = ap₂ (λ x more. x ∷ more) (same y) (each_twice row)

pub with_setting-twice : (interface setting : ℕ) (settings : List ℕ)
    → with_setting interface setting (with_setting interface setting settings)
    ≡ with_setting interface setting settings
with_setting-twice interface setting [] = refl
with_setting-twice zero setting (a ∷ settings) = refl
with_setting-twice (suc n) setting (a ∷ settings) =
    ap (λ more. a ∷ more) (with_setting-twice n setting settings)

pub with_interface-twice : (interface setting : ℕ) (g : Registers)
    → with_interface interface setting (with_interface interface setting g)
    ≡ with_interface interface setting g
with_interface-twice interface setting g =
    ap (λ (settings : List ℕ). record g { settings = settings })
    (with_setting-twice interface setting g.settings)

-- an interface takes a setting that it has
module _ (d : State) (first row : List PortState) (wanted interface setting : ℕ) where
  abbrev then_on : Registers
  then_on = with_interface interface setting d.registers

  abbrev owns : Registers → Bool → ℕ → Bool
  owns g is_in e = belongs_to interface (served_at d.spec g is_in e)

  -- the device with these registers after that
  abbrev set_again : Registers → State
  set_again g = record (begun d row wanted (takes_setting interface setting)) {
    registers = g;
    outs =
        numbered_from (λ e. begun_if (owns then_on false e || owns g false e) rested_out) 0
        (outs_set d interface setting);
    ins =
        numbered_from (λ e. begun_if (owns then_on true e || owns g true e) rested_in) 0
        (ins_set d interface setting);
  }

  setting_twice : begun (begun d first wanted (takes_setting interface setting)) row wanted
      (takes_setting interface setting) ≡ begun d row wanted (takes_setting interface setting)
  setting_twice =
      ap set_again (with_interface-twice interface setting d.registers)
      ∙ ap₂ (λ (outs : List OutEnd) (ins : List InEnd).
      record (begun d row wanted (takes_setting interface setting)) { outs = outs; ins = ins })
      (numbered_from-twice _ _ (λ e x. begun_if-twice rested_out (λ y. refl)
      (owns d.registers false e) (owns then_on false e) x) 0 d.outs)
      (numbered_from-twice _ _ (λ e x. begun_if-twice rested_in (λ y. refl)
      (owns d.registers true e) (owns then_on true e) x) 0 d.ins)

pub begun-twice : (d : State) (first row : List PortState) (wanted : ℕ) (o : Outcome)
    → begun (begun d first wanted o) row wanted o ≡ begun d row wanted o
begun-twice d first row n (takes_configuration c) =
    ap₂ (λ (outs : List OutEnd) (ins : List InEnd).
    record (begun d row n (takes_configuration c)) { outs = outs; ins = ins })
    (each_twice no_out rested_out (λ x. refl) d.outs)
    (each_twice no_in rested_in (λ x. refl) d.ins)
begun-twice d first row n (takes_setting interface setting) =
    setting_twice d first row n interface setting
begun-twice d first row n (halts (BulkOut e)) =
    ap (λ (outs : List OutEnd). record (begun d row n (halts (BulkOut e))) { outs = outs })
    (at_twice no_out (λ x. record x { state = halted x.state }) (λ x. refl) e d.outs)
begun-twice d first row n (halts (BulkIn e)) =
    ap (λ (ins : List InEnd). record (begun d row n (halts (BulkIn e))) { ins = ins })
    (at_twice no_in (λ x. record x { state = halted x.state }) (λ x. refl) e d.ins)
begun-twice d first row n (unhalts (BulkOut e)) =
    ap (λ (outs : List OutEnd). record (begun d row n (unhalts (BulkOut e))) { outs = outs })
    (at_twice no_out rested_out (λ x. refl) e d.outs)
begun-twice d first row n (unhalts (BulkIn e)) =
    ap (λ (ins : List InEnd). record (begun d row n (unhalts (BulkIn e))) { ins = ins })
    (at_twice no_in rested_in (λ x. refl) e d.ins)
begun-twice d first row n o = grind arith
