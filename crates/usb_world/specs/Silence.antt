-- An attempt that no device hears.
use Rattle.std.specs.Prelude.{false, Option, None}
use Rattle.usb_world.specs.PlainAttempts.{Attempt}
use Rattle.usb_world.specs.declared.damage.Damage.{Damage}
use Rattle.usb_world.specs.declared.exchange.Exchange.{Exchange}
use Rattle.usb_world.specs.declared.exchange.ExchangeAnswer.TheVariants.{Nothing}
use Rattle.usb_world.specs.declared.wire.Mark.TheVariants.{Whole}
use Rattle.usb_world.specs.Wire.{marked}
use Rattle.usb_world.specs.Exchanges.{token_of, payload_in}

-- the host's token and data, and nothing else
abbrev pub silent_exchange : Attempt → Option Damage → Exchange
silent_exchange a damage = record {
  token = marked damage 1 a.pre (token_of a);
  payload = payload_in a damage;
  answer = Nothing;
  answer_mark = Whole;
  reply = None;
  address_lost = false;
  change_cleared = false;
}
