use Rattle.usb_explain.proofs.known.+place_path.Given as goal

abbrev pub decreases-place_path : goal.decreases-place_path
decreases-place_path l = l.depth
