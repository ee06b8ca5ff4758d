use Rattle.std.proofs.Common.{◌≡◌, ◌≢◌, ◌∙◌, ap, subst, Some}
use Rattle.usb_world.specs.declared.types.BusFault.TheVariants as bus
use Rattle.usb_world.specs.{World}
use Rattle.usb_run.specs.{HostState}
use Rattle.usb_serve.proofs.ServedThrough.{caused_untraced}
use Rattle.usb_serve.proofs.serving.next_untraced.Goals as goal

pub returns-clause-next : goal.returns-clause-next
returns-clause-next c = λ knows. c.next_item-item.ensures.next knows

pub returns-clause-caused : goal.returns-clause-caused
returns-clause-caused c =
    let same : c.bus.result.now.fault ≡ c.next_item-item.new.self.host.world.fault =
    ap (λ (w : World). w.fault) c.bus.ensures.world
    ∙ ap (λ (h : HostState). h.world.fault) c.host.ensures in
    caused_untraced c.next_item-item.result c.next_item-item.new.self.host.world
    c.next_item-item.ensures.caused (subst (λ f. f ≢ Some bus.Failed) same
    c.untraced_fault.ensures)
