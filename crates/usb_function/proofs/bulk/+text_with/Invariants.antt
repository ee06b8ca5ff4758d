use Rattle.std.proofs.Common.{length}
use Rattle.usb_function.proofs.bulk.+text_with.Given as goal

abbrev pub decreases-text_with : goal.decreases-text_with
decreases-text_with l = length l.configs.now
