-- The output that the lines of a trace go to.
use Rattle.usb_serve.specs.declared.output.Output.{Output}
use Rattle.usb_serve.specs.declared.tracing.OutputTracer.{OutputTracer}

abbrev pub output_in : {W : Type 0} → OutputTracer W → Output W
output_in t = t.output
