-- What is known of ports and devices stays so as an event comes.
use Rattle.std.proofs.Common.{arith, ◌≡◌, List, [], ℕ, refl, ◌∙◌, sym}
use Rattle.usb_port.specs.{Addresses}
use Rattle.usb_device.specs.{path_to}
use Rattle.usb_world.specs.{resets, step_keeps_pending, EachWas, leaves_step, LeavesPortAlone}
use Rattle.usb_world.specs.{event, after, Course, here, step, World, roots_of}
use Rattle.usb_world.proofs.Interface.{course_wider, each_wider, taken_state, unreset_reach}
use Rattle.usb_enum.proofs.Interface.{course_later}
use Rattle.usb_table.specs.{Entries, AllInSync, Table, SameDevice}
use Rattle.usb_host.specs.{PortsListed, DevicesAccurate, RefusalsJustified, Accounted}
use Rattle.usb_host.proofs.knowledge.Places.{known_each, truthful_stays, causes_stay}
use Rattle.usb_enum.specs.{HostOptions}

-- an event asks nothing of any port
pub event_calm : (path : List ℕ) (w : World) → Course (LeavesPortAlone path) w (after event w)
unfolding step_keeps_pending resets leaves_step
event_calm path w = step event (grind arith)
    (here (after event w))

-- each device that is reached after it is just as it was
pub event_same : (w : World) → EachWas (λ x s v. v ≡ s) w (after event w)
unfolding resets after
event_same w j s on stands = record {
  before = s;
  on = (unreset_reach event w (path_to j) refl on).0;
  stands = sym (taken_state w.fault w (path_to j) on) ∙ stands;
  so = refl;
}

-- so pipes are as far as they were
pub level_event : (table : Table) (w : World) → AllInSync table w → AllInSync table (after event w)
unfolding resets after
level_event table w level path = record {
  level = λ device s at on stands. (level path).level device s at
      (unreset_reach event w path refl on).0 (sym (taken_state w.fault w path on) ∙ stands);
}

pub known_event : (w : World) (entries : Entries) → PortsListed w entries
    → PortsListed (after event w) entries
known_event w entries known = known_each w (after event w) entries
    (course_later (event_calm [] w)).roots (λ path _. event_calm path w) known

pub truthful_event : {options : HostOptions} (w : World) (entries : Entries)
    → DevicesAccurate options w entries → DevicesAccurate options (after event w) entries
truthful_event w entries told = truthful_stays w (after event w) entries
    (each_wider (λ x s v. v ≡ s) SameDevice (grind arith) w (after event w)
    (event_same w)) told

pub causes_event : {options : HostOptions} (w : World) {entries : Entries} {addresses : Addresses}
    → Accounted options (roots_of w) entries addresses → PortsListed w entries
    → RefusalsJustified options w entries
    → RefusalsJustified options (after event w) entries
causes_event w accounted known caused =
    causes_stay w (after event w) accounted known
    (λ path _. course_wider (λ s u x. x.spares) (event_calm path w)) caused
