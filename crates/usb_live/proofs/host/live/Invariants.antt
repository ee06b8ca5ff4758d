use Rattle.usb_watch.specs.{out_pipe_of, pipe_of}
use Rattle.usb_live.specs.{live_host}
use Rattle.usb_live.proofs.host.live.Given as goal

-- the course begins here
abbrev pub ghosts-course : goal.ghosts-course
ghosts-course g a = record {
  host = live_host a.wide_hubs a.limit;
  unread = pipe_of g.R.Read.remaining a.reader;
  before = out_pipe_of g.W.Write.contents a.writer;
}
