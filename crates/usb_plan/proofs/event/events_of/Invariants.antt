use Rattle.std.proofs.Common.{◌≡◌, ◌+◌, [], map, drop, true}
use Rattle.toml.specs.View.{view}
use Rattle.usb_plan.specs.{ports_said, scene_after, events_from}
use Rattle.usb_world.specs.{events_fit}
use Rattle.usb_plan.proofs.event.events_of.Given as goal

abbrev pub invariant-loop-i : goal.invariant-loop-i
invariant-loop-i l = record {
  so_far : events_from l.roots l.wide l.devices (map ports_said (map view l.tables))
      (l.i + 1) l.done (map view (drop l.i l.values))
      ≡ events_from l.roots l.wide l.devices (map ports_said (map view l.tables)) 1 []
      (map view l.values);
  fit : events_fit l.roots l.devices [] l.done ≡ true;
  scene : l.scene ≡ scene_after l.roots l.wide l.devices
      (map ports_said (map view l.tables)) l.done;
}
