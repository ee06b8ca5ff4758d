-- What a listed device says it is, and how many ports a hub has.
use Rattle.std.specs.Prelude.{ℕ, ◌==◌, List, [], ◌++◌, Option, None, Some, codes, decimal}
use Rattle.std.specs.Prelude.{if◌then◌else◌}
use Rattle.usb_descriptor.specs.{device_class, ClassCodes, device_codes, text_codes}
use Rattle.usb_enum.specs.{Accepted, HubFacts, configuration_of}

-- the device's own, or where its class is 0 those of its configuration's first interface
abbrev pub codes_of : Accepted → ClassCodes
codes_of d = if device_class d.bytes == 0 then text_codes (configuration_of d) else device_codes
    d.bytes

-- how many ports a hub has
abbrev pub ports_text : Option HubFacts → List ℕ
ports_text None = []
ports_text (Some facts) = if facts.ports == 1 then codes ", 1 port" else codes ", " ++ decimal
    facts.ports ++ codes " ports"
