-- What is heard of the answers, as packets.
use Rattle.usb_device.specs.{Heard, packet_of}
use Rattle.usb_device.specs.declared.delivery.Heard.TheVariants as below
use Rattle.usb_world.specs.declared.exchange.ExchangeAnswer.{ExchangeAnswer}
use Rattle.usb_world.specs.declared.exchange.ExchangeAnswer.TheVariants.{Nothing, One, Collision}

abbrev pub heard_above : Heard → ExchangeAnswer
heard_above below.NoAnswer = Nothing
heard_above (below.One x) = One (packet_of x)
heard_above below.Collision = Collision
