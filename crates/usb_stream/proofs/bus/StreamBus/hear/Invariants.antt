use Rattle.std.proofs.Common.{◌≡◌}
use Rattle.usb_stream.specs.{kept_of, unread_of}
use Rattle.usb_stream.proofs.Hearing.{ToldSo}
use Rattle.usb_stream.proofs.bus.StreamBus.hear.Given as goal

-- the statuses so far are kept
abbrev pub invariant-lines : goal.invariant-lines
invariant-lines g l = record {
  told : ToldSo l.asked l.counter (unread_of g.R.Read.remaining l.fn.self)
      (unread_of g.R.Read.remaining l.self) (kept_of l.fn.self) (kept_of l.self);
  same : kept_of l.self
      ≡ record (kept_of l.fn.self) { statuses = l.self.statuses; lines = l.self.lines };
  writer : l.self.writer ≡ l.fn.self.writer;
}
