use Rattle.std.proofs.Common.{◌≡◌, ◌++◌, flat_map, take, string_bytes}
use Rattle.usb_diagnosis.proofs.others.push_texts.Given as goal

-- the lines so far are written
abbrev pub invariant-texts : goal.invariant-texts
invariant-texts l = string_bytes l.out ≡ string_bytes l.fn.out
    ++ flat_map string_bytes (take l.text-index l.texts)
