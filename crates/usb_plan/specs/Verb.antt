-- The key `do` of an event: its words, and of each the keys that go with it, and what it does.
use Rattle.std.specs.Prelude.{ℕ, codes, List, Option, Result, Ok, Err, if◌then◌else◌}
use Rattle.std.specs.Str.{bytes_eq}
use Rattle.toml.specs.Data.{Data}
use Rattle.usb_plan.specs.declared.action.OtherKeys.{OtherKeys}
use Rattle.usb_plan.specs.declared.action.OtherKeys.TheVariants.{Alone, Path, PathDevice, PathBytes}
use Rattle.usb_plan.specs.declared.action.OtherKeys.TheVariants.{PathPackets, PathSetup}
use Rattle.usb_plan.specs.declared.action.OtherKeys.TheVariants.{PathEndpoint, PathSetting, Said}
use Rattle.usb_plan.specs.declared.entry_fault.EntryFault.{EntryFault}
use Rattle.usb_plan.specs.declared.entry_fault.EntryFault.TheVariants.{BadValue}
use Rattle.usb_plan.specs.declared.verb.Verb.{Verb}
use Rattle.usb_plan.specs.declared.verb.Verb.TheVariants.{Plug, Unplug, Show, Send, Receive, Clear}
use Rattle.usb_plan.specs.declared.verb.Verb.TheVariants.{Control, Look, News, Interrupt}
use Rattle.usb_plan.specs.declared.verb.Verb.TheVariants.{Interface}
use Rattle.usb_plan.specs.Action.{plug_of, unplug_of, send_of, receive_of, clear_of, control_of}
use Rattle.usb_plan.specs.Action.{look_of, interrupt_of, interface_of, show_of}
use Rattle.usb_plan.specs.EntryFault.{◌>>=◌}
use Rattle.usb_plan.specs.EventMembers.{EventValues}
use Rattle.usb_plan.specs.Scene.{SceneData}
use Rattle.usb_plan.specs.Value.{read_text}
use Rattle.usb_world.specs.{Action}
use Rattle.usb_world.specs.declared.event.Action.TheVariants.{Ask}
use Rattle.usb_world.specs.declared.event.Ask.TheVariants as ask

unfoldable pub verb_named : List ℕ → Result Verb EntryFault
verb_named text =
    if bytes_eq text (codes "plug") then Ok Plug
    else if bytes_eq text (codes "unplug") then Ok Unplug
    else if bytes_eq text (codes "show") then Ok Show
    else if bytes_eq text (codes "send") then Ok Send
    else if bytes_eq text (codes "receive") then Ok Receive
    else if bytes_eq text (codes "clear") then Ok Clear
    else if bytes_eq text (codes "control") then Ok Control
    else if bytes_eq text (codes "look") then Ok Look
    else if bytes_eq text (codes "news") then Ok News
    else if bytes_eq text (codes "interrupt") then Ok Interrupt
    else if bytes_eq text (codes "interface") then Ok Interface
    else Err BadValue

-- the key `do`
unfoldable pub verb_at : Option Data → Result Verb EntryFault
verb_at d = read_text d >>= verb_named

-- the keys that go with `do` and `after`
unfoldable pub other_keys : Verb → OtherKeys
other_keys Plug = PathDevice
other_keys Unplug = Path
other_keys Show = Said
other_keys Send = PathBytes
other_keys Receive = PathPackets
other_keys Clear = PathEndpoint
other_keys Control = PathSetup
other_keys Look = Path
other_keys News = Alone
other_keys Interrupt = PathEndpoint
other_keys Interface = PathSetting

-- what an event with these values does in the scene
unfoldable pub action_of : Verb → SceneData → EventValues → Result Action EntryFault
action_of Plug scene v = plug_of scene v
action_of Unplug scene v = unplug_of scene v
action_of Show scene v = show_of v
action_of Send scene v = send_of scene v
action_of Receive scene v = receive_of scene v
action_of Clear scene v = clear_of scene v
action_of Control scene v = control_of scene v
action_of Look scene v = look_of scene v
action_of News scene v = Ok (Ask ask.News)
action_of Interrupt scene v = interrupt_of scene v
action_of Interface scene v = interface_of scene v
