use Rattle.std.proofs.Common.{◌∙◌, ap, sym}
use Rattle.usb_world.specs.{Send, Receive, Clear, SendTo}
use Rattle.usb_run.proofs.items.AskedItems.{listing_asked, listing_refused, transfer_asked}
use Rattle.usb_run.proofs.items.AskedItems.{transfer_failed}
use Rattle.usb_run.proofs.asked.asked_item.Goals as goal

pub returns-in_ok-listing-in-Show-clause-on : goal.returns-in_ok-listing-in-Show-clause-on
returns-in_ok-listing-in-Show-clause-on g c =
    listing_asked _ _ _ _ c.in-Show.is c.in_ok-listing-in-Show.ensures.item c.requires.running

pub returns-in_err-listing-in-Show-clause-on : goal.returns-in_err-listing-in-Show-clause-on
returns-in_err-listing-in-Show-clause-on g c =
    listing_refused _ _ _ _ _ c.in-Show.is c.from_residual.ensures.1
    c.in_err-listing-in-Show.ensures.fault

pub returns-in_ok-send-in-Send-clause-on : goal.returns-in_ok-send-in-Send-clause-on
returns-in_ok-send-in-Send-clause-on g c =
    transfer_asked _ (Send c.in-Send.path c.as_slice.result.now) _ _ _ (c.in-Send.is
    ∙ ap (λ bytes. Send c.in-Send.path bytes) (sym c.as_slice.ensures))
    c.in_ok-send-in-Send.ensures.on

pub returns-in_err-send-in-Send-clause-on : goal.returns-in_err-send-in-Send-clause-on
returns-in_err-send-in-Send-clause-on g c =
    transfer_failed _ (Send c.in-Send.path c.as_slice.result.now) _ _ _ _ (c.in-Send.is
    ∙ ap (λ bytes. Send c.in-Send.path bytes) (sym c.as_slice.ensures))
    c.from_residual-in_err-send-in-Send.ensures.1 c.in_err-send-in-Send.ensures.on

pub returns-in_ok-receive-in-Receive-clause-on : goal.returns-in_ok-receive-in-Receive-clause-on
returns-in_ok-receive-in-Receive-clause-on g c =
    transfer_asked _ (Receive c.in-Receive.path c.in-Receive.packets) _ _ _ c.in-Receive.is
    c.in_ok-receive-in-Receive.ensures.on

pub returns-in_err-receive-in-Receive-clause-on : goal.returns-in_err-receive-in-Receive-clause-on
returns-in_err-receive-in-Receive-clause-on g c =
    transfer_failed _ (Receive c.in-Receive.path c.in-Receive.packets) _ _ _ _ c.in-Receive.is
    c.from_residual-in_err-receive-in-Receive.ensures.1 c.in_err-receive-in-Receive.ensures.on

pub returns-in_ok-clear-in-Clear-clause-on : goal.returns-in_ok-clear-in-Clear-clause-on
returns-in_ok-clear-in-Clear-clause-on g c =
    transfer_asked _ (Clear c.in-Clear.path) _ _ _ c.in-Clear.is c.in_ok-clear-in-Clear.ensures.on

pub returns-in_err-clear-in-Clear-clause-on : goal.returns-in_err-clear-in-Clear-clause-on
returns-in_err-clear-in-Clear-clause-on g c = transfer_failed _ (Clear c.in-Clear.path) _ _ _ _
    c.in-Clear.is c.from_residual-in_err-clear-in-Clear.ensures.1 c.in_err-clear-in-Clear.ensures.on

pub returns-in_ok-send_to-in-SendTo-clause-on : goal.returns-in_ok-send_to-in-SendTo-clause-on
returns-in_ok-send_to-in-SendTo-clause-on g c =
    transfer_asked _
    (SendTo c.in-SendTo.path c.in-SendTo.endpoint c.as_slice-in-SendTo.result.now) _ _ _
    (c.in-SendTo.is ∙ ap (λ bytes. SendTo c.in-SendTo.path c.in-SendTo.endpoint bytes)
    (sym c.as_slice-in-SendTo.ensures))
    c.in_ok-send_to-in-SendTo.ensures.on

pub returns-in_err-send_to-in-SendTo-clause-on : goal.returns-in_err-send_to-in-SendTo-clause-on
returns-in_err-send_to-in-SendTo-clause-on g c =
    transfer_failed _
    (SendTo c.in-SendTo.path c.in-SendTo.endpoint c.as_slice-in-SendTo.result.now) _ _ _ _
    (c.in-SendTo.is ∙ ap (λ bytes. SendTo c.in-SendTo.path c.in-SendTo.endpoint bytes)
    (sym c.as_slice-in-SendTo.ensures))
    c.from_residual-in_err-send_to-in-SendTo.ensures.1 c.in_err-send_to-in-SendTo.ensures.on
