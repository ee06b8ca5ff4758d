use Rattle.std.proofs.Common.{◌+◌, ◌<◌, ◌++◌, ◌∷◌, [], sym, arith, subst, length}
use Rattle.std.proofs.lemmas.Result.{err_from_is_err_and}
use Rattle.usb_descriptor.specs.{configuration_count}
use Rattle.usb_entry.proofs.Readings.{next_fault, read_so_far_zero, read_so_far_more, ReadSoFar}
use Rattle.usb_entry.proofs.reading.entry_of.Goals as goal

pub configs-init : goal.configs-init
configs-init c =
    subst (λ configs. ReadSoFar c.args.bytes.now c.in_ok-device.device configs 18)
    (sym c.new-configs.ensures.items)
    (read_so_far_zero c.args.bytes.now c.in_ok-device.device c.in_ok-device.ensures.ok)

pub returns-in_err-config-clause-err : goal.returns-in_err-config-clause-err
returns-in_err-config-clause-err c =
    let p = err_from_is_err_and c.from_residual-in_err-config.result
    c.from_residual-in_err-config.ensures.1 in
    let room = subst (λ d. length c.configs.configs.items < configuration_count d) c.view.ensures
    (omega arith) in
    rw (p.1, p.2)
    (next_fault c.args.bytes.now c.in_ok-device.device c.configs.configs.items c.configs.offset
    c.in_err-config.field-0.0
    c.configs.invariant room c.in_err-config.ensures.err)

pub configs-preserved : goal.configs-preserved
configs-preserved c =
    let room = subst (λ d. length c.configs.configs.items < configuration_count d) c.view.ensures
    (omega arith) in
    let more = read_so_far_more c.args.bytes.now c.in_ok-device.device c.configs.configs.items
    c.configs.offset c.in_ok-config.config c.configs.invariant c.in_ok-config.ensures.ok room in
    subst (λ configs. ReadSoFar c.args.bytes.now c.in_ok-device.device configs
    (c.configs.offset + length c.as_slice.result.now)) (sym c.in_ok-push.ensures.items)
    (subst (λ config. ReadSoFar c.args.bytes.now c.in_ok-device.device
    (c.configs.configs.items ++ c.in_ok-config.config ∷ [])
    (c.configs.offset + length config)) (sym c.as_slice.ensures) more)
