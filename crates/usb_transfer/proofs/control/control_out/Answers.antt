use Rattle.std.proofs.Common.{arith, rules, Ok, ◌≤◌, ◌+◌, ◌*◌, length}
use Rattle.std.specs.Int.{div_ceil}
use Rattle.usb_bus.proofs.Interface.{went_then, went_wider}
use Rattle.usb_transfer.specs.{transaction_bound, control_bound}
use Rattle.usb_transfer.proofs.Bounds.{packets_fit}
use Rattle.usb_transfer.proofs.DataWriteLeaves.{put_told}
use Rattle.usb_transfer.proofs.DataWrites.{put_whole}
use Rattle.usb_transfer.proofs.control.control_out.Given as given
use Rattle.usb_transfer.proofs.control.control_out.Goals as goal
use Rattle.usb_transfer.proofs.control.control_out.Goals.{After-send_packets}

-- What it tells

pub returns-in_err-setup-clause-transfer : goal.returns-in_err-setup-clause-transfer
returns-in_err-setup-clause-transfer g c known =
    put_told c.args.target c.args.setup c.args.bytes.now c.to_bytes-first.result _
    c.from_residual.result (omega (arith, c.requires.target.max_least)) c.requires.writes
    c.requires.some c.requires.all c.to_bytes-first.ensures.bytes c.to_bytes-first.ensures.fields
    (g.met.B.Bus.settled known c.args.bus.now) (search rules) (search rules) (search rules)

pub returns-in_err-send_packets-clause-transfer : goal.returns-in_err-send_packets-clause-transfer
returns-in_err-send_packets-clause-transfer g c known =
    put_told c.args.target c.args.setup c.args.bytes.now c.to_bytes-first.result _
    c.from_residual-in_err-send_packets.result (omega (arith, c.requires.target.max_least))
    c.requires.writes c.requires.some c.requires.all c.to_bytes-first.ensures.bytes
    c.to_bytes-first.ensures.fields (g.met.B.Bus.settled known c.args.bus.now) (search rules)
    (search rules) (search rules)

pub returns-in_err-data_in-clause-transfer : goal.returns-in_err-data_in-clause-transfer
returns-in_err-data_in-clause-transfer g c known =
    put_told c.args.target c.args.setup c.args.bytes.now c.to_bytes-first.result _
    c.from_residual-in_err-data_in.result (omega (arith, c.requires.target.max_least))
    c.requires.writes c.requires.some c.requires.all c.to_bytes-first.ensures.bytes
    c.to_bytes-first.ensures.fields (g.met.B.Bus.settled known c.args.bus.now) (search rules)
    (search rules) (search rules)

pub returns-clause-transfer : goal.returns-clause-transfer
returns-clause-transfer g c known =
    put_told c.args.target c.args.setup c.args.bytes.now c.to_bytes-first.result _ (Ok tt)
    (omega (arith, c.requires.target.max_least)) c.requires.writes c.requires.some c.requires.all
    c.to_bytes-first.ensures.bytes c.to_bytes-first.ensures.fields
    (g.met.B.Bus.settled known c.args.bus.now) (search rules) (search rules)
    (put_whole c.args.target c.args.setup c.args.bytes.now c.to_bytes-first.result
    c.in_ok-setup.field-0 c.in_ok-data_in.field-0 c.to_bytes-first.ensures.bytes
    (c.in_ok-setup.ensures.sets_up known).nothing (c.in_ok-setup.ensures.sets_up known).heard
    (c.in_ok-send_packets.ensures.sent known).moves (c.in_ok-data_in.ensures.asks known).heard)

-- How many attempts

fits : (g : given.Over) (c : goal.After-send_packets g)
    → 3 + transaction_bound * div_ceil (length c.args.bytes.now) c.args.target.max
    + transaction_bound ≤ control_bound c.args.target.max c.args.setup.length
fits g c = rw c.requires.all (packets_fit c.args.target.max (length c.args.bytes.now)
    c.requires.target.max_least)

pub returns-in_err-send_packets-clause-any_bus : goal.returns-in_err-send_packets-clause-any_bus
returns-in_err-send_packets-clause-any_bus g c =
    let least =
    fits g (goal.at.returns-in_err-send_packets-clause-any_bus g c).After-send_packets in (
      (
        omega (
          arith,
          c.setup.ensures.any_bus.0.0,
          c.send_packets.ensures.any_bus.0.0,
          least,
        ),
        search rules,
      ),
      search rules,
    )

pub returns-in_err-data_in-clause-any_bus : goal.returns-in_err-data_in-clause-any_bus
returns-in_err-data_in-clause-any_bus g c =
    let least = fits g (goal.at.returns-in_err-data_in-clause-any_bus g c).After-send_packets in (
      (
        omega (
          arith,
          c.setup.ensures.any_bus.0.0,
          c.send_packets.ensures.any_bus.0.0,
          c.data_in.ensures.any_bus.0.0,
          least,
        ),
        search rules,
      ),
      search rules,
    )

pub returns-clause-any_bus : goal.returns-clause-any_bus
returns-clause-any_bus g c =
    let least = fits g (goal.at.returns-clause-any_bus g c).After-send_packets in (
      (
        omega (
          arith,
          c.setup.ensures.any_bus.0.0,
          c.send_packets.ensures.any_bus.0.0,
          c.data_in.ensures.any_bus.0.0,
          least,
        ),
        search rules,
      ),
      tt,
    )

pub returns-in_err-send_packets-clause-steps : goal.returns-in_err-send_packets-clause-steps
returns-in_err-send_packets-clause-steps g c known =
    let least = fits g (goal.at.returns-in_err-send_packets-clause-steps g c).After-send_packets in
    went_wider _ _ (went_then _ _ (c.setup.ensures.steps known) (c.send_packets.ensures.steps
    known)) (omega (arith, least))

pub returns-in_err-data_in-clause-steps : goal.returns-in_err-data_in-clause-steps
returns-in_err-data_in-clause-steps g c known =
    let least = fits g (goal.at.returns-in_err-data_in-clause-steps g c).After-send_packets in
    went_wider _ _ (went_then _ _ (went_then _ _ (c.setup.ensures.steps known)
    (c.send_packets.ensures.steps known)) (c.data_in.ensures.steps known)) (omega (arith, least))

pub returns-clause-steps : goal.returns-clause-steps
returns-clause-steps g c known =
    let least = fits g (goal.at.returns-clause-steps g c).After-send_packets in
    went_wider _ _ (went_then _ _ (went_then _ _ (c.setup.ensures.steps known)
    (c.send_packets.ensures.steps known)) (c.data_in.ensures.steps known)) (omega (arith, least))
