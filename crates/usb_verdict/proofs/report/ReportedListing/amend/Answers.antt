use Rattle.std.proofs.Common.{refl, rules}
use Rattle.usb_verdict.proofs.Amends.{none_last, refused_last}
use Rattle.usb_verdict.proofs.report.ReportedListing.amend.Goals as goal
use Rattle.usb_verdict.proofs.report.ReportedListing.amend.Goals.{in-Some}
use Rattle.usb_verdict.proofs.report.ReportedListing.amend.Goals.{in-None+in-Configuration-1}
use Rattle.usb_verdict.proofs.report.ReportedListing.amend.Goals.{in-None+in-Ports-1}

pub returns-clause-fault : goal.returns-clause-fault
returns-clause-fault c = elim c.match-last_mut.branch [
  | in-Some w ↦ rw w.result-is
      (refused_last c.args.path.now _ c.args.self.now _ w.in-Some.port.now _
      (search rules) (w.in-Some.ensures.variant.0 refl) (search rules) w.amend_port.ensures.fault)
  | in-None+in-Configuration-1 w ↦ rw w.result-is (search (rules, none_last))
  | in-None+in-Ports-1 w ↦ rw w.result-is (search (rules, none_last))
]
