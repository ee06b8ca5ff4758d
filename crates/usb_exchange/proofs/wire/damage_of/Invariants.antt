use Rattle.std.proofs.Common.{◌≡◌, drop}
use Rattle.usb_world.specs.{damage_of}
use Rattle.usb_exchange.proofs.wire.damage_of.Given as goal

-- the damages so far are to other attempts
abbrev pub invariant-damages : goal.invariant-damages
invariant-damages l = damage_of l.fn.damages l.attempt
    ≡ damage_of (drop l.damage-index l.fn.damages) l.attempt
