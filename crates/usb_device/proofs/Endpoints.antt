-- Bytes that are no configuration have no endpoints.
use Rattle.std.proofs.Common.{◌≡◌, ℕ, List, Bool, true, false, None, Err, ap}
use Rattle.std.specs.Option.{option_or}
use Rattle.usb_descriptor.specs.{DescriptorFault, config_of, in_config, bulk_in_of, bulk_out_of}
use Rattle.usb_descriptor.specs.{bulk_in_at, bulk_out_at, interrupt_in_at, status_at}
use Rattle.usb_descriptor.specs.{status_endpoint_of}
use Rattle.usb_descriptor.proofs.Interface.{usable_under-no_text}

pub no_bulk_in : (bytes : List ℕ) (fault : DescriptorFault) → config_of bytes ≡ Err fault
    → bulk_in_of bytes ≡ None
unfolding bulk_in_of
no_bulk_in bytes fault h = ap (in_config bulk_in_at) h

pub no_bulk_out : (bytes : List ℕ) (fault : DescriptorFault) → config_of bytes ≡ Err fault
    → bulk_out_of bytes ≡ None
unfolding bulk_out_of
no_bulk_out bytes fault h = ap (in_config bulk_out_at) h

pub no_status : (wide : Bool) (bytes : List ℕ) (fault : DescriptorFault)
    → config_of bytes ≡ Err fault → status_endpoint_of wide bytes ≡ None
unfolding status_endpoint_of
no_status true bytes fault h =
    ap (λ text. option_or (in_config status_at text) (in_config interrupt_in_at text)) h
no_status false bytes fault h = ap (λ text. option_or (in_config status_at text) None) h

pub ruleset endpoints = (no_bulk_in, no_bulk_out, no_status, usable_under-no_text)
