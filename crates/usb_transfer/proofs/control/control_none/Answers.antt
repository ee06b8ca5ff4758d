use Rattle.std.proofs.Common.{arith, ◌+◌, ◌≡◌, true, rules, Ok}
use Rattle.usb_bus.proofs.Interface.{went_then, went_wider}
use Rattle.usb_transfer.specs.{transaction_bound, write_bound, Writes}
use Rattle.usb_transfer.proofs.ControlTransfers.{write_at_status, write_told}
use Rattle.usb_transfer.proofs.control.control_none.Given as given
use Rattle.usb_transfer.proofs.control.control_none.Goals as goal
use Rattle.usb_transfer.proofs.control.control_none.Goals.{After-from_residual-in_err-data_in}

-- Where the request ended

at_status : (g : given.Over) (c : goal.After-from_residual-in_err-data_in g)
    → g.B.Bus.modelled ≡ true → Writes c.args.target c.args.setup (g.B.Bus.world c.args.bus.now)
    c.from_residual-in_err-data_in.result (g.B.Bus.world c.data_in.new.bus)
at_status g c known =
    let told = c.from_residual-in_err-data_in.ensures in
    write_at_status c.args.target c.args.setup _ c.in_err-data_in.field-0.0 c.to_bytes.result
    c.in_ok-setup.field-0 c.from_residual-in_err-data_in.result c.to_bytes.ensures.bytes
    (c.in_ok-setup.ensures.sets_up known).nothing told.0 told.1
    (c.in_ok-setup.ensures.sets_up known).heard (c.in_err-data_in.ensures.asks known).heard

-- What it tells

pub returns-in_err-setup-clause-transfer : goal.returns-in_err-setup-clause-transfer
returns-in_err-setup-clause-transfer g c known =
    write_told c.args.target c.args.setup _ c.to_bytes.result c.from_residual.result c.requires.none
    c.to_bytes.ensures.bytes c.to_bytes.ensures.fields (g.met.B.Bus.settled known
    c.args.bus.now) (search rules) (search rules) (search rules)

pub returns-in_err-data_in-clause-transfer : goal.returns-in_err-data_in-clause-transfer
returns-in_err-data_in-clause-transfer g c known =
    let stages = at_status g (goal.at.returns-in_err-data_in-clause-transfer g
    c).After-from_residual-in_err-data_in known in
    write_told c.args.target c.args.setup _ c.to_bytes.result c.from_residual-in_err-data_in.result
    c.requires.none c.to_bytes.ensures.bytes c.to_bytes.ensures.fields
    (g.met.B.Bus.settled known c.args.bus.now) (search rules) (search rules) stages

pub returns-clause-transfer : goal.returns-clause-transfer
returns-clause-transfer g c known =
    write_told c.args.target c.args.setup _ c.to_bytes.result (Ok tt) c.requires.none
    c.to_bytes.ensures.bytes c.to_bytes.ensures.fields (g.met.B.Bus.settled known
    c.args.bus.now) (search rules) (search rules) (search rules)

-- What went

pub returns-in_err-data_in-clause-steps : goal.returns-in_err-data_in-clause-steps
returns-in_err-data_in-clause-steps g c known =
    went_wider (3 + transaction_bound) write_bound
    (went_then 3 transaction_bound (c.setup.ensures.steps known) (c.data_in.ensures.steps known))
    (omega arith)

pub returns-clause-steps : goal.returns-clause-steps
returns-clause-steps g c known = went_wider (3 + transaction_bound) write_bound
    (went_then 3 transaction_bound (c.setup.ensures.steps known) (c.data_in.ensures.steps known))
    (omega arith)
