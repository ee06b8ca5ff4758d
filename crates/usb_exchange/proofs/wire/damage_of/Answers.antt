use Rattle.usb_world.proofs.addresses.AddressLosses.{damage_here, damage_later, damage_none}
use Rattle.usb_exchange.proofs.wire.damage_of.Goals as goal

pub returns-then-damage-attempt : goal.returns-then-damage-attempt
returns-then-damage-attempt c = damage_here _ _ _ _ c.damages.invariant c.damages-test.true
    c.if-damage-attempt.true

pub damages-preserved : goal.damages-preserved
damages-preserved c = damage_later _ _ _ _ c.damages.invariant c.damages-test.true
    c.if-damage-attempt.false

pub returns : goal.returns
returns c = damage_none _ _ _ c.damages.invariant c.damages-test.false
