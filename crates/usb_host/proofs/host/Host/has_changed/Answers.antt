use Rattle.usb_host.proofs.host.Host.has_changed.Goals as goal

pub root_status-status-requires : goal.root_status-status-requires
root_status-status-requires g c =
    let there = c.has_root.ensures.there c.if-not-has_root.false in
    record { least = there.0; most = there.1 }
