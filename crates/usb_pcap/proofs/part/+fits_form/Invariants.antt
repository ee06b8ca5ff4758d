use Rattle.std.proofs.Common.{length}
use Rattle.usb_pcap.proofs.part.+fits_form.Given as goal

abbrev pub decreases-fits_form : goal.decreases-fits_form
decreases-fits_form l = length l.form.now
