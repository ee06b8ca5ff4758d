-- What a device makes of a new address, of a configuration and of an interface's setting (9.4.6,
-- 9.4.7, 9.4.10), seen from where it is reachable after them.
use Rattle.std.specs.Prelude.{◌≡◌, ◌⊎◌, ℕ, ◌==◌, ◌&&◌, not, Bool, true, false, List, None, Some}
use Rattle.std.specs.Prelude.{Result, Ok, Err}
use Rattle.usb_port.specs.{PortState}
use Rattle.usb_descriptor.specs.{default_settings, has_setting}
use Rattle.usb_device.specs.{is_value, State, rested, OnlyControl, Ports, full, all_off, Location}
use Rattle.usb_device.specs.{place_on, in_end, out_end, NothingMoved, OnlyStage, items_at}
use Rattle.usb_device.specs.{with_interface, outs_set, ins_set}
use Rattle.usb_world.specs.{World, Course, LeavesPortAlone}
use Rattle.usb_transfer.specs.{Target, is_at, PipeFault, CanEnd, IsNoBusFault, TookItOrLost}
use Rattle.usb_transfer.specs.declared.fault.PipeFault.TheVariants.{Stalled}

-- A device was asked to take an address: nothing of it changed but where its transfer stands, and
-- its address to this one. Where that is done, it
-- took it at the host's ACK, or one loss more is counted; where it failed, neither.
pub record AddressAsked (t : Target) (address : ℕ) (result : Result (Unit {0}) PipeFault)
    (old new : World) (x : Location) (s v : State) : Type 0 where
  pub others : is_at s t ≡ false → v ≡ s
  pub frame : OnlyControl s v
  pub either : (v.registers ≡ s.registers)
      ⊎ (v.registers ≡ record s.registers { address = address })
  pub done : is_at s t ≡ true → result ≡ Ok tt → (s.spec.stalls.address ≡ false)
      × TookItOrLost address old new s v
  pub stalled : is_at s t ≡ true → result ≡ Err Stalled → s.spec.stalls.address ≡ true
  pub failed : is_at s t ≡ true → (why : PipeFault) → result ≡ Err why → IsNoBusFault result
      → (v.registers ≡ s.registers) × (new.losses ≡ old.losses)
  pub could : is_at s t ≡ true → CanEnd s.spec result

-- it has an address, and the value is 0 or that of one of its configurations
abbrev pub takes_value : State → ℕ → Bool
takes_value s value = not (s.registers.address == 0) && is_value s.spec.configs value

-- each interface has setting 0, its endpoints besides endpoint 0 have begun again, and nothing went
-- over them since
pub record IsFresh (v : State) : Type 0 where
  pub settings : v.registers.settings ≡ default_settings
  pub outs : (e : ℕ) → (out_end v e).state ≡ rested
  pub ins : (e : ℕ) → (in_end v e).state ≡ rested
  pub changes : v.changes ≡ rested
  pub held : v.held ≡ None

-- it has this configuration, with each interface at setting 0, and its endpoints have begun again
pub record IsConfigured (value : ℕ) (s v : State) : Type 0 where
  pub registers : v.registers
      ≡ record s.registers { configuration = value; settings = default_settings }
  pub fresh : IsFresh v

-- at a moment of the call all ports of the device there were off, and nothing was asked of any port
-- since
pub record WentOff (new : World) (x : Location) : Type 0 where
  pub now : World
  pub b : PortState
  pub state : State
  pub ports : Ports
  pub off : place_on now.roots x ≡ Some (full b state (all_off ports))
  pub since : (path : List ℕ) → Course (LeavesPortAlone path) now new

-- where its transfer stands, its configuration, the settings of its interfaces and the state of its
-- endpoints: what a configuration may change
pub record OnlySet (s v : State) : Type 0 where
  pub rest : v ≡ record s {
    memory = v.memory;
    naks = v.naks;
    stage = v.stage;
    registers = record s.registers {
      configuration = v.registers.configuration;
      settings = v.registers.settings;
    };
    outs = v.outs;
    ins = v.ins;
    changes = v.changes;
    held = v.held;
  }
  pub moved : NothingMoved s v

-- A device was asked to take a configuration. Where that is done, it has it, and its ports went
-- off; where it failed, it has it or has what it had.
pub record ConfigurationAsked (t : Target) (value : ℕ) (result : Result (Unit {0}) PipeFault)
    (new : World) (x : Location) (s v : State) : Type 0 where
  pub others : is_at s t ≡ false → v ≡ s
  pub frame : OnlySet s v
  pub either : (v.registers ≡ s.registers) ⊎ IsConfigured value s v
  pub done : is_at s t ≡ true → result ≡ Ok tt → (s.spec.stalls.set_config ≡ false)
      × (takes_value s value ≡ true) × IsConfigured value s v × WentOff new x
  pub stalled : is_at s t ≡ true → result ≡ Err Stalled → (s.spec.stalls.set_config ≡ true)
      ⊎ (takes_value s value ≡ false)
  pub could : is_at s t ≡ true → CanEnd s.spec result

-- its configuration has this setting of the interface
abbrev pub offers_setting : State → ℕ → ℕ → Bool
offers_setting s interface setting = has_setting interface setting (items_at s.spec s.registers)

-- its interface has this setting, and each endpoint that the interface has before or after it takes
-- that has begun again; nothing else changed but where its transfer stands
pub record TookSetting (interface setting : ℕ) (s v : State) : Type 0 where
  pub is : v ≡ record s {
    memory = v.memory;
    naks = v.naks;
    stage = v.stage;
    registers = with_interface interface setting s.registers;
    outs = outs_set s interface setting;
    ins = ins_set s interface setting;
  }

-- A device was asked to give an interface a setting. Where that is done, the interface has it.
-- Where it was refused, nothing changed but where the transfer stands. Where it failed else,
-- either.
pub record InterfaceAsked (t : Target) (interface setting : ℕ)
    (result : Result (Unit {0}) PipeFault) (x : Location) (s v : State) : Type 0 where
  pub others : is_at s t ≡ false → v ≡ s
  pub either : OnlyStage s v ⊎ TookSetting interface setting s v
  pub done : is_at s t ≡ true → result ≡ Ok tt → (s.spec.stalls.interface ≡ false)
      × (offers_setting s interface setting ≡ true) × TookSetting interface setting s v
  pub stalled : is_at s t ≡ true → result ≡ Err Stalled → OnlyStage s v
      × ((s.spec.stalls.interface ≡ true) ⊎ (offers_setting s interface setting ≡ false))
  pub could : is_at s t ≡ true → CanEnd s.spec result
