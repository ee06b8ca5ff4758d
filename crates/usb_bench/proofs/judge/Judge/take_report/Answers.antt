use Rattle.usb_sim.specs.{world_of}
use Rattle.usb_far.specs.{played_of}
use Rattle.usb_bench.specs.{report_view}
use Rattle.usb_bench.proofs.Receiving.{on_ok, report_line}
use Rattle.usb_bench.proofs.judge.Judge.take_report.Goals as goal

pub returns-in_ok-path-in-Some-clause-taken : goal.returns-in_ok-path-in-Some-clause-taken
returns-in_ok-path-in-Some-clause-taken g c = on_ok c.keep.result
    (report_line c.args.line.now c.in_ok-path-in-Some.path (report_view c.in-Some.report)
    (world_of c.bus.result.now) c.as_slice-receipts.result.now c.in_ok-path-in-Some.after
    c.args.self.now c.keep.new.self (played_of c.args.far.now) (played_of c.keep.new.far)
    c.in-Some.ensures c.bus.ensures.world c.as_slice-receipts.ensures.value
    c.in_ok-path-in-Some.ensures.path c.in_ok-path-in-Some.ensures.after)
    c.keep.ensures.kept
