-- What a run tells of a transfer is what the device at its path did.
use Rattle.std.proofs.Common.{◌≡◌, ◌≢◌, ◌∙◌, refl, sym, ap, subst, Bool, false, ℕ, List, None}
use Rattle.std.proofs.Common.{Option, Some, Result, Ok, Err, is_ok}
use Rattle.std.specs.Global.{Vec}
use Rattle.arrayvec.specs.ArrayVec.{ArrayVec}
use Rattle.usb_world.specs.{BusFault, World, Write}
use Rattle.usb_table.specs.declared.fault.TableFault.TheVariants as table
use Rattle.usb_table.specs.{TableFault, TransferFault, Pipes, Delivered, Collected, Restarted}
use Rattle.usb_table.specs.{EndpointChoice, InterfaceSet, InterfaceSetIf, Reported, RestartedOf}
use Rattle.usb_table.specs.{interface_target}
use Rattle.usb_table.specs.{bytes_in, control_target, IsHeld, ReadLeft, ReadMade, table_answer}
use Rattle.usb_table.specs.{TransferIf, TransferIs, TransferLeaves, WriteLeft, WriteMade}
use Rattle.usb_table.specs.{write_target}
use Rattle.usb_table.proofs.Interface.{sent_delivers, received_collects, cleared_restarts}
use Rattle.usb_table.proofs.Interface.{done_through, polled_tells, cleared_restarts_of}
use Rattle.usb_host.specs.{HostFault, HostState, claims, HostInvariant, host_told, MovesThrough}
use Rattle.usb_host.specs.{table_in, ClearTells, ReceiveTells, SendTells, ReadTells, WriteTells}
use Rattle.usb_host.specs.{ClearOfTells, ControlsAt, InterfaceTells, Look, LookDid, LookTells}
use Rattle.usb_host.specs.{ReportTells}
use Rattle.usb_host.specs.declared.fault.HostFault.TheVariants as host
use Rattle.usb_transfer.specs.{report_in, Target}
use Rattle.usb_request.specs.{Setup}
use Rattle.usb_run.specs.{as_answer, ControlIfAsked, Knows, LookShows, transfer_ended, sent_count}
use Rattle.usb_run.specs.{InterfaceIfAsked, table_told}
use Rattle.usb_run.specs.Transfers.{Transfers}

-- What is told of an answer of the table's

-- it tells of a fault just where the table did
pub done_told : {A : Type 0} (result : Result A TableFault) (told : Result A TransferFault)
    → transfer_ended (host_told result) ≡ Ok told → is_ok result ≡ is_ok told
done_told (Ok x) told e = let is : told ≡ Ok x = cc e in sym (ap is_ok is)
done_told (Err (table.Transfer why)) told e = let is : told ≡ Err why = cc e in sym (ap is_ok is)
done_told (Err (table.Bus why)) told e = absurd (cc e)
done_told (Err table.Memory) told e = absurd (cc e)

bytes_told : (result : Result (Vec ℕ) TableFault) (told : Result (Vec ℕ) TransferFault)
    → transfer_ended (host_told result) ≡ Ok told → bytes_in result ≡ bytes_in told
bytes_told (Ok x) told e = let is : told ≡ Ok x = cc e in sym (ap bytes_in is)
bytes_told (Err (table.Transfer why)) told e =
    let is : told ≡ Err why = cc e in sym (ap bytes_in is)
bytes_told (Err (table.Bus why)) told e = absurd (cc e)
bytes_told (Err table.Memory) told e = absurd (cc e)

-- what is told is the table's answer
answer_told : {A : Type 0} (result : Result A TableFault) (told : Result A TransferFault)
    → transfer_ended (host_told result) ≡ Ok told → result ≡ table_told told
answer_told (Ok x) told e = let is : told ≡ Ok x = cc e in sym (ap table_told is)
answer_told (Err (table.Transfer why)) told e =
    let is : told ≡ Err why = cc e in sym (ap table_told is)
answer_told (Err (table.Bus why)) told e = absurd (cc e)
answer_told (Err table.Memory) told e = absurd (cc e)

-- with the same packet
pub report_told : (told : Result (Option (ArrayVec ℕ)) TransferFault)
    → report_in (table_told told) ≡ report_in told
report_told (Ok None) = refl
report_told (Ok (Some packet)) = refl
report_told (Err fault) = refl

-- after a fault of the bus none is told
pub no_bus_fault : {A : Type 0} (result : Result A TableFault) (told : Result A TransferFault)
    → transfer_ended (host_told result) ≡ Ok told → (why : BusFault) → result ≢ Err (table.Bus why)
no_bus_fault result told e why is = let none = sym (ap (λ r. transfer_ended (host_told r)) is)
    ∙ e in cc none

-- A control transfer, by whether there is a target

control_told : {A : Type 0} (Is : TransferIs A) (Leaves : TransferLeaves A) (path : List ℕ)
    (old new : HostState) (told : Result A TransferFault) (answer : Result A TableFault)
    → IsHeld (table_in old) old.world → new.world.shared ≡ false
    → transfer_ended (host_told answer) ≡ Ok told → (asked : Result Target TransferFault)
    → TransferIf Is Leaves path (table_in old) asked old.world answer new.world
    → ControlIfAsked Is Leaves path asked old.world told new.world
control_told Is Leaves path old new told answer held single e (Ok target) made =
    let ended = ap (λ r. transfer_ended (host_told r)) (sym made.told) ∙ e in
    record {
      answer = made.answer;
      is = ended;
      made = made.is;
      each = made.left held single;
      there = λ done. made.there held single (done_through made.answer
          (table_answer made.answer) refl ∙ done_told (table_answer made.answer) told ended ∙ done);
    }
control_told Is Leaves path old new told answer held single e (Err fault) refused =
    let is = ap (λ r. transfer_ended (host_told r)) (sym refused.0) ∙ e in
    (cc is, refused.1)

-- An interface's setting, by whether there is a target

interface_told : (path : List ℕ) (interface setting : ℕ) (old new : HostState)
    (told : Result (Unit {0}) TransferFault) (answer : Result (Unit {0}) TableFault)
    → IsHeld (table_in old) old.world → new.world.shared ≡ false
    → transfer_ended (host_told answer) ≡ Ok told → (asked : Result Target TransferFault)
    → InterfaceSetIf path interface setting (table_in old) asked old.world answer (table_in new)
    new.world → InterfaceIfAsked path interface setting asked old told new
interface_told path interface setting old new told answer held single e (Ok target) set =
    let same : InterfaceSet path interface setting (table_in old) target old.world (table_told told)
    (table_in new) new.world =
    subst (λ (r : Result (Unit {0}) TableFault). InterfaceSet path interface setting (table_in old)
    target old.world r (table_in new) new.world) (answer_told answer told e) set in
    record { set = same; each = same.left held single }
interface_told path interface setting old new told answer held single e (Err fault) refused =
    let is = ap (λ r. transfer_ended (host_told r)) (sym refused.0) ∙ e in
    (cc is, refused.1, refused.2)

-- A look

-- what ended the run is not told
as_told : (answer : Result Look HostFault) (told : Result Look TransferFault)
    → transfer_ended answer ≡ Ok told → answer ≡ as_answer told
as_told (Ok look) told e = let is : told ≡ Ok look = cc e in sym (ap as_answer is)
as_told (Err (host.Transfer fault)) told e =
    let is : told ≡ Err fault = cc e in sym (ap as_answer is)
as_told (Err (host.Bus fault)) told e = absurd (cc e)
as_told (Err host.Stopped) told e = absurd (cc e)
as_told (Err host.Memory) told e = absurd (cc e)

-- By a host that goes on, and whose bus is at work

module _ (path : List ℕ) (old new : HostState) (sound : HostInvariant old) (still : old.world.fault
    ≡ None) (running : old.stopped ≡ false) where
  -- no address was held twice
  single : {A : Type 0} {Moves : Pipes → World → Result A TableFault → Pipes → World → Type 0}
      {result : Result A HostFault} → MovesThrough path Moves old result new
      → new.world.shared ≡ false
  single x = (x.keeps.worlds.addresses.kept (claims old.entries) sound.owned).single

  ended : {A : Type 0} {Moves : Pipes → World → Result A TableFault → Pipes → World → Type 0}
      {result : Result A HostFault} (told : Result A TransferFault)
      → (x : MovesThrough path Moves old result new) → transfer_ended result ≡ Ok told
      → transfer_ended (host_told x.answer) ≡ Ok told
  ended told x e = sym (ap transfer_ended x.told) ∙ e

  pub told_sent : (choice : EndpointChoice) (bytes : List ℕ)
      (told : Result (Unit {0}) TransferFault)
      → Transfers (SendTells path choice bytes) old told new
      → Delivered path choice (is_ok told) bytes (table_in old) old.world (table_in new) new.world
  told_sent choice bytes told x =
      let h = x.call.did running in
      subst (λ (b : Bool). Delivered path choice b bytes (table_in old) old.world (table_in new)
      new.world) (done_told h.answer told (ended told h x.tells))
      (sent_delivers path bytes (table_in old) (table_in new) old.world new.world choice h.answer
      (sound.owned.so still) (sound.level still path) (single h) h.through.fits h.moves)

  pub told_received : (choice : EndpointChoice) (packets : ℕ)
      (told : Result (Vec ℕ) TransferFault)
      → Transfers (ReceiveTells path choice packets) old told new
      → Collected path choice (is_ok told) packets (bytes_in told) (table_in old) old.world
      (table_in new) new.world
  told_received choice packets told x =
      let h = x.call.did running in
      let e : transfer_ended (host_told h.answer) ≡ Ok told = ended told h x.tells in
      subst (λ (b : Bool). Collected path choice b packets (bytes_in told) (table_in old) old.world
      (table_in new) new.world) (done_told h.answer told e)
      (subst (λ (bytes : List ℕ). Collected path choice (is_ok h.answer) packets bytes
      (table_in old) old.world (table_in new) new.world)
      (bytes_told h.answer told e)
      (received_collects path packets (table_in old) (table_in new) old.world new.world choice
      h.answer (no_bus_fault h.answer told e) (sound.owned.so still) (sound.level still path)
      (single h) h.through.fits h.moves))

  pub told_cleared : (told : Result (Unit {0}) TransferFault)
      → Transfers (ClearTells path) old told new
      → Restarted path (is_ok told) (table_in old) old.world (table_in new) new.world
  told_cleared told x =
      let h = x.call.did running in
      let e : transfer_ended (host_told h.answer) ≡ Ok told = ended told h x.tells in
      subst (λ (b : Bool). Restarted path b (table_in old) old.world (table_in new) new.world)
      (done_told h.answer told e)
      (cleared_restarts path (table_in old) old.world new.world (table_in new) h.answer
      (no_bus_fault h.answer told e) (sound.owned.so still) (sound.level still path)
      (single h) h.through.fits h.moves)

  pub told_reported : (endpoint : ℕ) (told : Result (Option (ArrayVec ℕ)) TransferFault)
      → Transfers (ReportTells path endpoint) old told new
      → Reported path endpoint (table_told told) (table_in old) old.world (table_in new) new.world
  told_reported endpoint told x =
      let h = x.call.did running in
      let e : transfer_ended (host_told h.answer) ≡ Ok told = ended told h x.tells in
      subst (λ (r : Result (Option (ArrayVec ℕ)) TableFault). Reported path endpoint r
      (table_in old) old.world (table_in new) new.world) (answer_told h.answer told e)
      (polled_tells path (table_in old) (table_in new) old.world new.world endpoint h.answer
      (no_bus_fault h.answer told e) (sound.owned.so still) (sound.level still path)
      (single h) h.through.fits h.moves)

  pub told_cleared_of : (endpoint : ℕ) (told : Result (Unit {0}) TransferFault)
      → Transfers (ClearOfTells path endpoint) old told new
      → RestartedOf path endpoint (is_ok told) (table_in old) old.world (table_in new) new.world
  told_cleared_of endpoint told x =
      let h = x.call.did running in
      let e : transfer_ended (host_told h.answer) ≡ Ok told = ended told h x.tells in
      subst (λ (b : Bool). RestartedOf path endpoint b (table_in old) old.world (table_in new)
      new.world) (done_told h.answer told e)
      (cleared_restarts_of path (table_in old) old.world new.world endpoint (table_in new) h.answer
      (no_bus_fault h.answer told e) (sound.owned.so still) (sound.level still path)
      (single h) h.through.fits h.moves)

  pub told_interface : (interface setting : ℕ) (told : Result (Unit {0}) TransferFault)
      → Transfers (InterfaceTells path interface setting) old told new
      → InterfaceIfAsked path interface setting
      (interface_target path interface setting old.entries) old told new
  told_interface interface setting told x =
      let h = x.call.did running in
      interface_told path interface setting old new told h.answer (sound.owned.so still)
      ((h.keeps.worlds.addresses.kept (claims old.entries) sound.owned).single)
      (sym (ap transfer_ended h.told) ∙ x.tells)
      (interface_target path interface setting old.entries) h.did

  control_ended : {A : Type 0} {Is : TransferIs A} {Leaves : TransferLeaves A}
      {target : Result Target TransferFault} {result : Result A HostFault}
      (told : Result A TransferFault) → ControlsAt Is Leaves path target old result new
      → transfer_ended result ≡ Ok told
      → ControlIfAsked Is Leaves path target old.world told new.world
  control_ended {A} {Is} {Leaves} {target} told h e =
      control_told Is Leaves path old new told h.answer (sound.owned.so still)
      ((h.keeps.worlds.addresses.kept (claims old.entries) sound.owned).single)
      (sym (ap transfer_ended h.told) ∙ e) target h.did

  pub told_read : (request : Setup) (told : Result (Vec ℕ) TransferFault)
      → Transfers (ReadTells path request) old told new
      → ControlIfAsked (ReadMade request) (ReadLeft request) path
      (control_target path old.entries) old.world told new.world
  told_read request told x = control_ended told (x.call.did running) x.tells

  pub told_written : (write : Write) (told : Result (Unit {0}) TransferFault)
      → Transfers (WriteTells path write.setup write.bytes) old told new
      → ControlIfAsked (WriteMade write.setup write.bytes) (WriteLeft write.setup write.bytes) path
      (write_target path write.setup old.entries) old.world told new.world
  told_written write told x = control_ended told (x.call.did running) x.tells

  pub told_look : (told : Result Look TransferFault) → Transfers (LookTells path) old told new
      → Knows new → LookShows path old told new
  told_look told x knows = record {
    did = subst (λ (r : Result Look HostFault). LookDid path old r new)
        (as_told x.answer told x.tells) (x.call.did running);
    knows = knows;
  }

-- how many bytes were sent

pub count_done : (n : ℕ) (sent : Result (Unit {0}) TransferFault)
    → is_ok sent ≡ is_ok (sent_count n sent)
count_done n (Ok done) = refl
count_done n (Err why) = refl
