use Rattle.std.proofs.Common.{rules}
use Rattle.usb_hub.proofs.Devices.{port_status_keeps}
use Rattle.usb_hub.proofs.external.hub_port_status.Goals as goal

pub returns-in_err-bytes-clause-told : goal.returns-in_err-bytes-clause-told
returns-in_err-bytes-clause-told g c known = search rules

pub returns-in_err-bytes-clause-devices : goal.returns-in_err-bytes-clause-devices
returns-in_err-bytes-clause-devices g c known =
    port_status_keeps _ _ _ _ _ (returns-in_err-bytes-clause-told g c known)

pub returns-clause-told : goal.returns-clause-told
returns-clause-told g c known = search rules

pub returns-clause-devices : goal.returns-clause-devices
returns-clause-devices g c known = port_status_keeps _ _ _ _ _ (returns-clause-told g c known)
