use Rattle.std.proofs.Common.{◌+◌, ◌∙◌, sym, Ok, Err}
use Rattle.toml.specs.Data.{as_table}
use Rattle.toml.specs.View.{view}
use Rattle.usb_plan.specs.declared.fault.Place.TheVariants as place
use Rattle.usb_plan.specs.declared.fault.PlanFault.TheVariants as fault
use Rattle.usb_plan.specs.{Memory, EqualUnless, device_in}
use Rattle.usb_plan.proofs.Parts.{device_in_ok, entry_at_ok}
use Rattle.usb_plan.proofs.MemoryRefusals.{entry_at_told, entry_at_read, unless_handed}
use Rattle.usb_plan.proofs.Growth.{devices_from-next, devices_from-end}
use Rattle.usb_plan.proofs.device.devices_of.Goals as goal

pub returns-in_err-device : goal.returns-in_err-device
returns-in_err-device c =
    let v = c.index-values-i.result in
    let spelled = device_in c.args.wide c.loop-i.done (as_table (view v)) in
    let same : EqualUnless Memory c.device_in-read.result spelled =
    rw c.as_table.ensures at c.device_in-read.ensures in
    let why = c.in_err-device.field-0.0 in
    unless_handed fault.Memory c.from_residual.result _ why c.from_residual.ensures.1
    (λ ne. sym c.loop-i.invariant
    ∙ devices_from-next c.args.wide c.loop-i.done c.args.values.now c.loop-i.i v
    (Err why) c.loop-i-test.true c.index-values-i.is (entry_at_told (place.Device (c.loop-i.i + 1))
    c.device_in-read.result spelled c.entry_at.result why same c.entry_at.ensures
    c.in_err-device.was ne))

pub push-requires : goal.push-requires
push-requires c =
    let v = c.index-values-i.result in
    let spelled = device_in c.args.wide c.loop-i.done (as_table (view v)) in
    let same : EqualUnless Memory c.device_in-read.result spelled =
    rw c.as_table.ensures at c.device_in-read.ensures in
    let joins = device_in_ok c.args.wide c.loop-i.done (as_table (view v)) c.in_ok-device.device
    (entry_at_ok _ spelled c.in_ok-device.device (entry_at_read (place.Device (c.loop-i.i + 1))
    c.device_in-read.result spelled c.entry_at.result c.in_ok-device.device same c.entry_at.ensures
    c.in_ok-device.was)) in
    record { room = joins.room; name = joins.new }

pub loop-i-preserved : goal.loop-i-preserved
loop-i-preserved c =
    let v = c.index-values-i.result in
    let spelled = device_in c.args.wide c.loop-i.done (as_table (view v)) in
    let same : EqualUnless Memory c.device_in-read.result spelled =
    rw c.as_table.ensures at c.device_in-read.ensures in
    rw c.in_ok-push.ensures.ok
    (sym (devices_from-next c.args.wide c.loop-i.done c.args.values.now c.loop-i.i v
    (Ok c.in_ok-device.device) c.loop-i-test.true c.index-values-i.is
    (entry_at_read (place.Device (c.loop-i.i + 1)) c.device_in-read.result spelled c.entry_at.result
    c.in_ok-device.device same c.entry_at.ensures c.in_ok-device.was)) ∙ c.loop-i.invariant)

pub returns : goal.returns
returns c = sym c.loop-i.invariant ∙ devices_from-end c.args.wide (c.loop-i.i + 1) c.loop-i.done
    c.args.values.now c.loop-i.i c.loop-i-test.false
