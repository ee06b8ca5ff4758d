use Rattle.std.proofs.Common.{List, OnErr, sym, subst, ap, ◌∙◌}
use Rattle.usb_function.specs.declared.ports.Place.{Place as Kept}
use Rattle.usb_device.specs.{Plugged, before, standing, Stopped, StoppedDevice}
use Rattle.usb_function.specs.{ports_kept, stood}
use Rattle.usb_device.proofs.packets.StoppedPackets.{stopped_on_err, stopped_first}
use Rattle.usb_device.proofs.packets.StoppedPackets.{stopped_further}
use Rattle.usb_device.proofs.packets.StoppedPackets.{stopped_at, stopped_place}
use Rattle.usb_function.proofs.+deliver.Goals as goal

pub delivery::deliver_all-returns-in_err-deliver-in-Some-clause-stopped :
    goal.delivery::deliver_all-returns-in_err-deliver-in-Some-clause-stopped
delivery::deliver_all-returns-in_err-deliver-in-Some-clause-stopped t c =
    let P : List Kept → Type 0 = λ l. Stopped c.args.sent.now c.args.deep (ports_kept l)
    (before (stood c.deliver.new.self) (ports_kept c.in-Some.rest.now)) in
    stopped_on_err c.from_residual.result (subst P (sym c.in-Some.ensures.cases.0)
    (stopped_first _ _ _ _ _ c.in_err-deliver-in-Some.ensures.stopped))

pub delivery::deliver_all-returns-in_ok-deliver-in-Some-clause-stopped :
    goal.delivery::deliver_all-returns-in_ok-deliver-in-Some-clause-stopped
delivery::deliver_all-returns-in_ok-deliver-in-Some-clause-stopped t c =
    let P : List Kept → Type 0 = λ l. OnErr c.deliver_all.result
    (Stopped c.args.sent.now c.args.deep (ports_kept l)
    (before (stood c.deliver.new.self) (ports_kept c.deliver_all.new.places))) in
    subst P (sym c.in-Some.ensures.cases.0)
    (stopped_further c.deliver_all.result _ _ _ _ _ _
    (ap (λ x. x.1) c.in_ok-deliver-in-Some.ensures.ok) c.deliver_all.ensures.stopped)

pub device::Device::deliver-returns-clause-stopped :
    goal.device::Device::deliver-returns-clause-stopped
device::Device::deliver-returns-clause-stopped t c =
    let P : Plugged → Type 0 = λ x. OnErr c.take_sent.result
    (StoppedDevice c.args.sent.now c.args.deep x c.take_sent.new.self) in
    subst P c.self.view_is (stopped_at c.take_sent.result _ _ _ c.take_sent.new.self c.pass.new.self
    (ap (λ x. x.1) c.in_ok-pass.ensures.ok) c.take_sent.ensures.err
    c.take_sent.ensures.refused)

pub ports::Place::deliver-returns-in-Some-clause-stopped :
    goal.ports::Place::deliver-returns-in-Some-clause-stopped
ports::Place::deliver-returns-in-Some-clause-stopped t c =
    stopped_place c.deliver.result _ _ c.args.self.now.port c.in-Some.device c.deliver.new.self
    (stood c.args.self.now)
    (ap (λ o. standing c.args.self.now.port o) c.in-Some.is) (sym c.is_enabled.ensures
    ∙ c.if-is_enabled.true) c.deliver.ensures.stopped
