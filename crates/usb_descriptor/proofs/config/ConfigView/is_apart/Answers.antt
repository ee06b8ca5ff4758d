use Rattle.std.proofs.Common.{◌≡◌, false, sym, arith}
use Rattle.usb_descriptor.specs.{is_apart_at, items_of}
use Rattle.usb_descriptor.proofs.Apart.{is_apart-false, is_apart-true}
use Rattle.usb_descriptor.proofs.config.ConfigView.is_apart.Goals as goal

pub returns-then-not-is_apart_at : goal.returns-then-not-is_apart_at
returns-then-not-is_apart_at c =
    let shared : is_apart_at c.args.interface (items_of c.args.self.now) c.loop-number.number
    ≡ false = cc in
    sym (is_apart-false c.args.interface (items_of c.args.self.now) c.loop-number.number
    (omega arith) shared)

pub returns : goal.returns
returns c = sym (is_apart-true c.args.interface (items_of c.args.self.now)
    (λ e small. c.loop-number.invariant e (omega arith)))
