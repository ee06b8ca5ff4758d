-- The world that a simulated bus stands for, what has the lines of its trace, and their text.
use Rattle.std.specs.Prelude.{ℕ, List, Option}
use Rattle.usb_sim.specs.declared.tracer.Trace.{Ghosts}
use Rattle.usb_sim.specs.declared.tracer.Tracer.{Tracer}
use Rattle.usb_device.specs.{Plugged, device_there}
use Rattle.usb_watch.specs.{Watched}
use Rattle.usb_sim.specs.declared.sim.SimBus.{SimBus}
use Rattle.usb_sim.specs.Tracer.{writer_in}
use Rattle.usb_world.specs.{World}

abbrev pub world_of : {T : Type 0} {g : Ghosts T} → SimBus T g → World
world_of s = record {
  roots = s.roots;
  devices = s.devices;
  left = s.left.items;
  taken = s.taken;
  attempts = s.attempts;
  attempts_then = s.attempts_then;
  limit = s.limit;
  damages = s.damages.items;
  losses = s.losses;
  shared = s.shared;
  fault = s.fault;
}

-- what the lines of the trace go to
abbrev pub tracer_of : {T : Type 0} {g : Ghosts T} → SimBus T g → T
tracer_of s = s.tracer

-- the writer of a bus that is traced
abbrev pub writer_of : {W : Type 0} {g : Ghosts (Tracer W)} → SimBus (Tracer W) g → Watched W
writer_of s = writer_in (tracer_of s)

-- the text of the trace, where it is known
abbrev pub trace_of : {T : Type 0} {g : Ghosts T} → SimBus T g → Option (List ℕ)
trace_of {T} {g} s = g.text (tracer_of s)

-- the device at a path
abbrev pub device_at : {T : Type 0} {g : Ghosts T} → SimBus T g → List ℕ → Option Plugged
device_at s path = device_there s.roots path

-- a device's address and configuration
abbrev pub registers_of : Plugged → ℕ × ℕ
registers_of d = (d.own.registers.address, d.own.registers.configuration)
