use Rattle.std.proofs.Common.{rules}
use Rattle.usb_hub.proofs.ToldBytes.{status_asked, device_status_why}
use Rattle.usb_hub.proofs.requests.get_status.Goals as goal

pub returns-in_err-bytes-clause-told : goal.returns-in_err-bytes-clause-told
returns-in_err-bytes-clause-told g c known = search rules

pub returns-in_err-bytes-clause-what : goal.returns-in_err-bytes-clause-what
returns-in_err-bytes-clause-what g c known =
    status_asked _ _ _ _ (returns-in_err-bytes-clause-told g c known)

pub returns-in_err-bytes-clause-why : goal.returns-in_err-bytes-clause-why
returns-in_err-bytes-clause-why g c known =
    device_status_why _ _ _ _ (returns-in_err-bytes-clause-told g c known)

pub returns-clause-told : goal.returns-clause-told
returns-clause-told g c known = search rules

pub returns-clause-what : goal.returns-clause-what
returns-clause-what g c known = status_asked _ _ _ _ (returns-clause-told g c known)

pub returns-clause-why : goal.returns-clause-why
returns-clause-why g c known = device_status_why _ _ _ _ (returns-clause-told g c known)
