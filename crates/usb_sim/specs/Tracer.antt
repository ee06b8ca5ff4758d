-- The writer that the lines of a trace go to.
use Rattle.usb_watch.specs.{Watched}
use Rattle.usb_sim.specs.declared.tracer.Tracer.{Tracer}

abbrev pub writer_in : {W : Type 0} → Tracer W → Watched W
writer_in t = t.writer
