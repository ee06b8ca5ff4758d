use Rattle.std.proofs.Common.{arith, rules, Ok, ◌≡◌, true}
use Rattle.usb_bus.proofs.Interface.{went_then, went_wider}
use Rattle.usb_transfer.specs.{control_bound, Reads}
use Rattle.usb_transfer.proofs.ControlTransfers.{read_at_status, control_read_done, read_told}
use Rattle.usb_transfer.proofs.control.control_in.Given as given
use Rattle.usb_transfer.proofs.control.control_in.Goals as goal
use Rattle.usb_transfer.proofs.control.control_in.Goals.{After-from_residual-in_err-data_out}
use Rattle.usb_transfer.proofs.control.control_in.Goals.{In_ok-data_out}

-- Where the read ended

at_status : (g : given.Over) (c : goal.After-from_residual-in_err-data_out g)
    → g.B.Bus.modelled ≡ true → Reads c.args.target c.args.setup (g.B.Bus.world c.args.bus.now)
    c.from_residual-in_err-data_out.result (g.B.Bus.world c.data_out.new.bus)
at_status g c known =
    let told = c.from_residual-in_err-data_out.ensures in
    read_at_status c.args.target c.args.setup _ c.in_err-data_out.field-0.0
    c.to_bytes-request.result c.in_ok-setup.field-0 c.in_ok-bytes.bytes
    c.from_residual-in_err-data_out.result c.to_bytes-request.ensures.bytes
    (c.in_ok-setup.ensures.sets_up known).nothing told.0 told.1
    (c.in_ok-setup.ensures.sets_up known).heard (c.in_ok-bytes.ensures.packets known)
    (c.in_err-data_out.ensures.sends known).heard

done : (g : given.Over) (c : goal.In_ok-data_out g) → g.B.Bus.modelled ≡ true
    → Reads c.args.target c.args.setup (g.B.Bus.world c.args.bus.now) (Ok c.in_ok-bytes.bytes)
    (g.B.Bus.world c.data_out.new.bus)
done g c known =
    control_read_done c.args.target c.args.setup c.to_bytes-request.result c.in_ok-setup.field-0
    c.in_ok-data_out.field-0 c.in_ok-bytes.bytes c.to_bytes-request.ensures.bytes
    (c.in_ok-setup.ensures.sets_up known).nothing (c.in_ok-data_out.ensures.sends known).nothing
    (c.in_ok-setup.ensures.sets_up known).heard (c.in_ok-bytes.ensures.packets known)
    (c.in_ok-data_out.ensures.sends known).heard

-- What it tells

pub returns-in_err-setup-clause-transfer : goal.returns-in_err-setup-clause-transfer
returns-in_err-setup-clause-transfer g c known =
    read_told c.args.target c.args.setup _ c.to_bytes-request.result c.from_residual.result
    c.requires.reads c.requires.some c.to_bytes-request.ensures.bytes
    c.to_bytes-request.ensures.fields (g.met.B.Bus.settled known c.args.bus.now) (search rules)
    (search rules) (search rules)

pub returns-in_err-bytes-clause-transfer : goal.returns-in_err-bytes-clause-transfer
returns-in_err-bytes-clause-transfer g c known =
    read_told c.args.target c.args.setup _ c.to_bytes-request.result
    c.from_residual-in_err-bytes.result c.requires.reads c.requires.some
    c.to_bytes-request.ensures.bytes c.to_bytes-request.ensures.fields
    (g.met.B.Bus.settled known c.args.bus.now) (search rules) (search rules) (search rules)

pub returns-in_err-data_out-clause-transfer : goal.returns-in_err-data_out-clause-transfer
returns-in_err-data_out-clause-transfer g c known =
    let stages = at_status g (goal.at.returns-in_err-data_out-clause-transfer g
    c).After-from_residual-in_err-data_out known in
    read_told c.args.target c.args.setup _ c.to_bytes-request.result
    c.from_residual-in_err-data_out.result c.requires.reads c.requires.some
    c.to_bytes-request.ensures.bytes c.to_bytes-request.ensures.fields
    (g.met.B.Bus.settled known c.args.bus.now) (search rules) (search rules) stages

pub returns-clause-transfer : goal.returns-clause-transfer
returns-clause-transfer g c known =
    let stages = done g (goal.at.returns-clause-transfer g c).In_ok-data_out known in
    read_told c.args.target c.args.setup _ c.to_bytes-request.result (Ok c.in_ok-bytes.bytes)
    c.requires.reads c.requires.some c.to_bytes-request.ensures.bytes
    c.to_bytes-request.ensures.fields (g.met.B.Bus.settled known c.args.bus.now) (search rules)
    (search rules) stages

-- What went

pub returns-in_err-bytes-clause-steps : goal.returns-in_err-bytes-clause-steps
unfolding control_bound
returns-in_err-bytes-clause-steps g c known =
    went_wider _ _ (went_then _ _ (c.setup.ensures.steps known) (c.data_stage.ensures.steps known))
    (omega arith)

pub returns-in_err-data_out-clause-steps : goal.returns-in_err-data_out-clause-steps
unfolding control_bound
returns-in_err-data_out-clause-steps g c known =
    went_wider _ _ (went_then _ _ (went_then _ _ (c.setup.ensures.steps known)
    (c.data_stage.ensures.steps known)) (c.data_out.ensures.steps known)) (omega arith)

pub returns-clause-steps : goal.returns-clause-steps
unfolding control_bound
returns-clause-steps g c known = went_wider _ _
    (went_then _ _ (went_then _ _ (c.setup.ensures.steps known) (c.data_stage.ensures.steps known))
    (c.data_out.ensures.steps known)) (omega arith)
