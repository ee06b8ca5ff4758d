use Rattle.std.proofs.Common.{◌≡◌, true}
use Rattle.std.proofs.lemmas.Result.{err_from_is_err_and}
use Rattle.usb_transfer.proofs.TransactionRows.{OutsBegun, out_fits, out_is, outs_cut, outs_gone}
use Rattle.usb_transfer.proofs.TransactionRows.{outs_kept, outs_whole}
use Rattle.usb_transfer.proofs.transaction_rows.data_out_row.Given as given
use Rattle.usb_transfer.proofs.transaction_rows.data_out_row.Goals as goal
use Rattle.usb_transfer.proofs.transaction_rows.data_out_row.Goals.{After-toggle_behind}

-- the row, as the bus tells it
begun : (g : given.Over) (c : goal.After-toggle_behind g) → g.B.Bus.modelled ≡ true
    → OutsBegun c.args.target c.args.ep c.args.toggle.now c.args.bytes.now
    (g.B.Bus.world c.args.bus.now) (g.B.Bus.trace c.args.bus.now) c.attempt_outs-moved.result
    (g.B.Bus.world c.attempt_outs-moved.new.self) (g.B.Bus.trace c.attempt_outs-moved.new.self)
    c.toggle_behind.result
begun g c known = let d = c.destination.ensures in record {
  to = c.destination.result;
  max = d.max;
  is = out_is c.args.target c.args.ep c.destination.result d.address d.number d.low d.pre d.max;
  fits = out_fits c.args.target c.args.ep c.requires.endpoint.0 c.requires.endpoint.1;
  least = c.requires.endpoint.0.max_least;
  settled = g.met.B.Bus.settled known c.args.bus.now;
  turned = c.toggle_behind.ensures;
  made = c.attempt_outs-moved.ensures.attempts known;
}

pub returns-in-Whole-clause-steps : goal.returns-in-Whole-clause-steps
returns-in-Whole-clause-steps g c known =
    (outs_whole (begun g (goal.at.returns-in-Whole-clause-steps g c).After-toggle_behind known)
    c.in-Whole.is c.requires.row.0).1

pub returns-in-Whole-clause-sends : goal.returns-in-Whole-clause-sends
returns-in-Whole-clause-sends g c known =
    (outs_whole (begun g (goal.at.returns-in-Whole-clause-sends g c).After-toggle_behind known)
    c.in-Whole.is c.requires.row.0).0

pub returns-in-Faulted-clause-steps : goal.returns-in-Faulted-clause-steps
returns-in-Faulted-clause-steps g c known =
    (outs_cut (begun g (goal.at.returns-in-Faulted-clause-steps g c).After-toggle_behind known)
    c.in-Faulted.is).1

pub returns-in-Faulted-clause-sends : goal.returns-in-Faulted-clause-sends
returns-in-Faulted-clause-sends g c known =
    (outs_cut (begun g (goal.at.returns-in-Faulted-clause-sends g c).After-toggle_behind known)
    c.in-Faulted.is).0

pub returns-in_err-data_out_from-in-Answered-clause-steps :
    goal.returns-in_err-data_out_from-in-Answered-clause-steps
returns-in_err-data_out_from-in-Answered-clause-steps g c known =
    let told = err_from_is_err_and c.from_residual.result c.from_residual.ensures.1 in
    rw told.1 (outs_kept (begun g (goal.at.returns-in_err-data_out_from-in-Answered-clause-steps g
    c).After-toggle_behind known) c.in-Answered.is
    c.packet_behind-packet.ensures (c.in_err-data_out_from-in-Answered.ensures.sends known)
    c.in_err-data_out_from-in-Answered.ensures.toggle).1

pub returns-in_err-data_out_from-in-Answered-clause-sends :
    goal.returns-in_err-data_out_from-in-Answered-clause-sends
returns-in_err-data_out_from-in-Answered-clause-sends g c known =
    let told = err_from_is_err_and c.from_residual.result c.from_residual.ensures.1 in
    rw (told.1, told.2) (outs_kept (begun g
    (goal.at.returns-in_err-data_out_from-in-Answered-clause-sends g c).After-toggle_behind known)
    c.in-Answered.is
    c.packet_behind-packet.ensures (c.in_err-data_out_from-in-Answered.ensures.sends known)
    c.in_err-data_out_from-in-Answered.ensures.toggle).0

pub returns-in_ok-data_out_from-in-Answered-clause-steps :
    goal.returns-in_ok-data_out_from-in-Answered-clause-steps
returns-in_ok-data_out_from-in-Answered-clause-steps g c known =
    (outs_gone (begun g (goal.at.returns-in_ok-data_out_from-in-Answered-clause-steps g
    c).After-toggle_behind known) c.in-Answered.is
    c.packet_behind-packet.ensures (c.in_ok-data_out_from-in-Answered.ensures.sends known)
    c.in_ok-data_out_from-in-Answered.ensures.toggle).1

pub returns-in_ok-data_out_from-in-Answered-clause-sends :
    goal.returns-in_ok-data_out_from-in-Answered-clause-sends
returns-in_ok-data_out_from-in-Answered-clause-sends g c known =
    (outs_gone (begun g (goal.at.returns-in_ok-data_out_from-in-Answered-clause-sends g
    c).After-toggle_behind known) c.in-Answered.is
    c.packet_behind-packet.ensures (c.in_ok-data_out_from-in-Answered.ensures.sends known)
    c.in_ok-data_out_from-in-Answered.ensures.toggle).0
