use Rattle.std.proofs.Common.{refl}
use Rattle.usb_run.specs.{Tree}
use Rattle.usb_run.specs.declared.mode.Mode.TheVariants.{Run}
use Rattle.usb_serve.specs.{unread}
use Rattle.usb_serve.proofs.ServedThrough.{marks_tree, reads_failed, served_plan, unwritten_reader}
use Rattle.usb_serve.proofs.serving.serve_to.Goals as goal

pub returns-in-Err-clause-serves : goal.returns-in-Err-clause-serves
returns-in-Err-clause-serves g c = record {
  reads = reads_failed c.in-Err.fault c.in-Err.ensures.reads;
  writer = unwritten_reader _ c.args.mode c.in-Err.fault c.in-Err.ensures.unread;
  served = unread c.in-Err.fault refl c.in-Err.ensures.unread refl;
}

pub returns-in-Tree-clause-serves : goal.returns-in-Tree-clause-serves
returns-in-Tree-clause-serves g c =
    let written = c.serve_tree.ensures.written in
    served_plan Tree c.in-Tree.is c.in-Ok.plan c.in-Ok.ensures.reads c.in-Ok.ensures.plan
    c.serve_tree.ensures.reader
    (marks_tree c.serve_tree.result.0 c.serve_tree.ensures.writer c.requires.unfailed written)
    written

pub returns-clause-serves : goal.returns-clause-serves
returns-clause-serves g c =
    served_plan Run c.in-Run.is c.in-Ok.plan c.in-Ok.ensures.reads c.in-Ok.ensures.plan
    c.serve_run.ensures.reader c.serve_run.ensures.writer c.serve_run.ensures.written
