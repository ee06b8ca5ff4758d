use Rattle.usb_drawing.proofs.DrawingLaws as laws
use Rattle.usb_drawing.proofs.OneLines as lines
use Rattle.usb_drawing.proofs.listing.drawing_laws.Goals as goal

pub returns : goal.returns
returns c = record {
  count = laws.drawing_lines-length;
  order = laws.order;
  whole = lines.drawing_lines-unbroken;
}
