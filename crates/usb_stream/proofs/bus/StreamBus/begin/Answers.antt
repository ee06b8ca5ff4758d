use Rattle.std.proofs.Common.{refl}
use Rattle.usb_stream.specs.{kept_of}
use Rattle.usb_stream.proofs.bus.StreamBus.begin.Goals as goal

pub returns : goal.returns
returns g c = rw (c.greet.ensures.reader, c.greet.ensures.writer) (record {
  result = c.ask-answer.result;
  mid = kept_of c.ask-answer.new.self;
  asked = c.ask-answer.ensures.asks refl;
  kept = c.greet.ensures.kept;
})
