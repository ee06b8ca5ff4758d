use Rattle.std.proofs.Common.{sym, arith}
use Rattle.usb_stream.specs.{kept_of, unread_of, written_of}
use Rattle.usb_live.specs.{live_host}
use Rattle.usb_live.proofs.Courses.{opens}
use Rattle.usb_live.proofs.bus.CourseBus.open.Goals as goal

pub invariant_of-result : goal.invariant_of-result
invariant_of-result g c =
    rw (sym c.requires.host, sym c.requires.unread, sym c.requires.before) (record {
      bounded = omega arith;
      course = ∣ opens {host = live_host c.args.wide_hubs c.args.limit} _
          (unread_of g.R.Read.remaining c.stream.result) _
          (written_of g.W.Write.contents c.stream.result) (kept_of c.stream.result)
          c.stream.ensures ∣₁;
    })
