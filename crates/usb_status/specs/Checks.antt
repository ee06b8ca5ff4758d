-- What a look at a plan comes to.
use Rattle.std.specs.Prelude.{Result, Ok, Err}
use Rattle.usb_diagnosis.specs.declared.checking.Verdict.{Verdict}
use Rattle.usb_diagnosis.specs.declared.checking.Verdict.TheVariants as verdict
use Rattle.usb_diagnosis.specs.declared.checking.CheckFault.{CheckFault}
use Rattle.usb_diagnosis.specs.declared.checking.CheckFault.TheVariants as check
use Rattle.usb_serve.specs.declared.serving.ServeFault.TheVariants as serve
use Rattle.usb_status.specs.declared.fault.Fault.{Fault}
use Rattle.usb_status.specs.declared.fault.Fault.TheVariants as fault

abbrev pub checked : Result Verdict CheckFault → Result (Unit {0}) Fault
checked (Ok verdict.Plan) = Ok tt
checked (Ok (verdict.Refused why)) = Err fault.Refused
checked (Err check.Write) = Err (fault.Serve serve.Write)
checked (Err check.Memory) = Err (fault.Serve serve.Memory)
