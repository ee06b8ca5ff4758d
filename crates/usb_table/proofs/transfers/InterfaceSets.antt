-- SET_INTERFACE to the device at a path: what it leaves of all devices and pipes.
use Rattle.std.proofs.Common.{arith, ◌≡◌, refl, inl, inr, Bool, true, false, ℕ, ◌<◌, ◌&&◌, not}
use Rattle.std.proofs.Common.{if◌then◌else◌, List, Option, Some, None, Result, Ok, Err, is_some}
use Rattle.std.proofs.lemmas.Bool.{and_parts}
use Rattle.usb_request.specs.{PORT_OUT, SET_FEATURE, set_interface}
use Rattle.usb_descriptor.specs.{settable_in}
use Rattle.usb_device.specs.{Is, Location, State}
use Rattle.usb_world.specs.{EachWas, World, asks_no_port}
use Rattle.usb_world.proofs.Interface.{each_wider}
use Rattle.usb_bus.specs.{StepRun}
use Rattle.usb_transfer.specs.{Target, is_at, PipeFault, write_bound}
use Rattle.usb_transfer.specs.declared.fault.PipeFault.TheVariants as pipe_fault
use Rattle.usb_hub.specs.{KeepsAddresses, Commanded, InterfaceAsked}
use Rattle.usb_enum.specs.{Accepted, configuration_of, target_of}
use Rattle.usb_enum.proofs.Interface.{ends_without_fault}
use Rattle.usb_table.specs.{AreFunctionPipes, ArePipesIf, ArePipesTo, Function, FunctionInSync}
use Rattle.usb_table.specs.{FunctionPipes, GoesThrough, InterfaceSent, InterfaceSentIf}
use Rattle.usb_table.specs.{InterfaceSet, NoInterface, NotTried, OnlySets, Pipes, SameDevice}
use Rattle.usb_table.specs.{SameSettings, SettingLeft, Table, TableFault, TableSetsInterface}
use Rattle.usb_table.specs.{TransferFault, accepted_device_at, function_set, interface_asked}
use Rattle.usb_table.specs.{interface_target, is_below_hub, pipes_at, pipes_set}
use Rattle.usb_table.proofs.TransferLeaves.{told_answer}
use Rattle.usb_table.proofs.levels.FittingPipes.{PipesMove, still_level, EachMoves}
use Rattle.usb_table.proofs.levels.PathCalls.{moved_levels, still_levels}
use Rattle.usb_table.proofs.levels.SetLevels.{loss_kept, loss_level, set_level}
use Rattle.usb_table.proofs.levels.StandingPipes.{in_place}
use Rattle.usb_table.proofs.transfers.DevicesKept.{same_spares}
use Rattle.usb_table.proofs.transfers.PathTransfers.{changes_there}
use Rattle.usb_table.proofs.transfers.PlainRequests.{bus_told}

-- Each device

-- the one that is asked
setting_left : (t : Target) (interface setting : ℕ) (answer : Result (Unit {0}) PipeFault)
    (j : Location) (s v : State) → InterfaceAsked t interface setting answer j s v
    → is_at s t ≡ true → SettingLeft interface setting answer s v
setting_left t interface setting answer j s v x at = grind arith

same_device : (t : Target) (interface setting : ℕ) (answer : Result (Unit {0}) PipeFault)
    (j : Location) (s v : State) → InterfaceAsked t interface setting answer j s v
    → SameDevice j s v
same_device t interface setting answer j s v x = grind arith

-- All devices and ports

module _ (interface setting : ℕ) where
  asks_none : asks_no_port (set_interface interface setting) ≡ true
  unfolding set_interface
  asks_none = refl

  sets_no_port : Is (set_interface interface setting) PORT_OUT SET_FEATURE ≡ false
  unfolding set_interface
  sets_no_port = refl

  sets_only : (t : Target) (answer : Result (Unit {0}) PipeFault) (old new : World)
      → Commanded t (set_interface interface setting) old answer new
      → (new.shared ≡ false → EachWas (InterfaceAsked t interface setting answer) old new)
      → KeepsAddresses old new → OnlySets old new
  sets_only t answer old new is each addresses = record {
    addresses = addresses;
    devices = λ single. each_wider (InterfaceAsked t interface setting answer) SameDevice
        (search same_device) old new (each single);
    rests = grind (arith, asks_none, ends_without_fault);
    backlog = grind (arith, ends_without_fault, sets_no_port);
  }

same_sets : (old new : World) → new ≡ old → OnlySets old new
same_sets old new e =
    let same = same_spares old new e in
    record {
      addresses = same.addresses;
      devices = λ single. each_wider SameSettings SameDevice (grind arith) old new (grind arith);
      rests = same.rests;
      backlog = same.backlog;
    }

-- The pipes to the one that is asked

module _ (device : Accepted) (below_hub : Bool) (interface setting : ℕ) (pipes : FunctionPipes)
    (are : AreFunctionPipes device below_hub pipes) (byte : interface < 256)
    (has : settable_in interface setting (configuration_of device) ≡ true) where
  level_after : (answer : Result (Unit {0}) PipeFault) (j : Location) (s v : State)
      → InterfaceAsked (target_of device below_hub) interface setting answer j s v
      → is_at s (target_of device below_hub) ≡ true → FunctionInSync device pipes s
      → FunctionInSync device (function_set device below_hub interface setting answer pipes) v
  level_after (Ok done) j s v x at f =
      let took = x.done at refl in search (in_place, set_level)
  level_after (Err pipe_fault.Stalled) j s v x at f =
      still_level device (Function pipes) s v (x.stalled at refl).0 f
  level_after (Err _) j s v x at f = elim x.either [
    | inl only ↦ loss_kept device below_hub interface setting pipes v
        (still_level device (Function pipes) s v only f)
    | inr took ↦ loss_level device below_hub interface setting pipes (search in_place) s v took f
  ]

  set_moves : (ends : Type 0) (answer : Result (Unit {0}) PipeFault) (j : Location) (s v : State)
      → InterfaceAsked (target_of device below_hub) interface setting answer j s v
      → PipesMove device device.address ends (Function pipes)
      (Function (function_set device below_hub interface setting answer pipes)) j s v
  set_moves ends answer j s v x = record {
    others = x.others;
    same = grind (arith, same_device);
    itself = search level_after;
  }

-- At a path

module _ (path : List ℕ) (interface setting : ℕ) (byte : interface < 256) (old new : Table)
    (before after : World) (text now : Option (List ℕ)) (goes : GoesThrough path old new)
    (went : StepRun write_bound before text after now) (result : Result (Unit {0}) TableFault) where
  abbrev pub target : Result Target TransferFault
  target = interface_target path interface setting old.entries

  abbrev pub set : Result (Unit {0}) PipeFault → Pipes → Pipes
  set = pipes_set (accepted_device_at path old.entries) (is_below_hub path) interface setting

  abbrev pub Told : Type 0
  Told = TableSetsInterface path interface setting old before text result new after now

  -- it was not sent
  refused : (fault : TransferFault) → target ≡ Err fault
      → NotTried fault (pipes_at path old) before result (pipes_at path new) after → Told
  refused fault asks x = record {
    went = went;
    told = rw x.0 tt;
    did = rw asks x;
    keeps = search (same_sets, still_levels, x.1, x.2);
  }

  -- it was
  module _ (device : Accepted) (found : accepted_device_at path old.entries ≡ Some device)
      (pipes : FunctionPipes) (was : pipes_at path old ≡ Function pipes)
      (are : AreFunctionPipes device (is_below_hub path) pipes)
      (has : settable_in interface setting (configuration_of device) ≡ true)
      (asks : target ≡ Ok (target_of device (is_below_hub path)))
      (x : InterfaceSent (target_of device (is_below_hub path)) interface setting set
      (pipes_at path old) before result (pipes_at path new) after) where
    abbrev left : FunctionPipes
    left = function_set device (is_below_hub path) interface setting x.answer pipes

    left_is : pipes_at path new ≡ Function left
    left_is = grind arith

    moves : EachMoves device device.address (after.fault ≡ None) (Function pipes) (Function left)
        before after
    moves single =
        each_wider
        (InterfaceAsked (target_of device (is_below_hub path)) interface setting x.answer) _
        (search set_moves) before after (x.each single)

    made : InterfaceSet path interface setting old (target_of device (is_below_hub path)) before
        result new after
    made = record {
      answer = x.answer;
      told = x.told;
      is = x.is;
      pipes = x.left_is;
      left = λ held single.
          changes_there path old before held device found device.address refl
          (InterfaceAsked (target_of device (is_below_hub path)) interface setting x.answer)
          (SettingLeft interface setting x.answer) after (λ j s v y. y.others)
          (grind (arith, setting_left)) (x.each single);
    }

    sent : Told
    sent = record {
      went = went;
      told = grind (arith, bus_told, told_answer);
      did = rw asks made;
      keeps = search (left_is, moved_levels, moves, sets_only);
    }

  sent_to : (device : Accepted) → accepted_device_at path old.entries ≡ Some device
      → (pipes : Pipes) → pipes_at path old ≡ pipes → ArePipesTo device (is_below_hub path) pipes
      → (not (is_some device.hub) && settable_in interface setting (configuration_of device)) ≡ true
      → target ≡ Ok (target_of device (is_below_hub path))
      → InterfaceSent (target_of device (is_below_hub path)) interface setting set
      (pipes_at path old) before result (pipes_at path new) after → Told
  sent_to device found pipes was are both asks x = grind (arith, and_parts, sent)

  by_test : (device : Accepted) → accepted_device_at path old.entries ≡ Some device
      → ArePipesTo device (is_below_hub path) (pipes_at path old) → (b : Bool)
      → (not (is_some device.hub) && settable_in interface setting (configuration_of device)) ≡ b
      → target ≡ (if b then Ok (target_of device (is_below_hub path)) else Err NoInterface)
      → InterfaceSentIf (if b then Ok (target_of device (is_below_hub path)) else Err NoInterface)
      interface setting set (pipes_at path old) before result (pipes_at path new) after → Told
  by_test device found are b both asks x = grind (arith, refused, sent_to)

  by_device : (o : Option Accepted) → accepted_device_at path old.entries ≡ o
      → ArePipesIf o (is_below_hub path) (pipes_at path old)
      → target ≡ interface_asked (is_below_hub path) interface setting o
      → InterfaceSentIf (interface_asked (is_below_hub path) interface setting o)
      interface setting set (pipes_at path old) before result (pipes_at path new) after → Told
  by_device o found are asks x = grind (arith, by_test, refused)

  pub table_sets : InterfaceSentIf target interface setting set (pipes_at path old) before result
      (pipes_at path new) after → Told
  table_sets x = grind (arith, by_device)
