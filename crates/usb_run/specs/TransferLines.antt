-- The printed lines of tasks and of news.
use Rattle.std.specs.Prelude.{ℕ, List, [], ◌∷◌, ◌++◌, Option, None, Some, Result, Ok, Err, codes}
use Rattle.std.specs.Prelude.{decimal, map}
use Rattle.std.specs.Global.{Vec}
use Rattle.arrayvec.specs.ArrayVec.{ArrayVec}
use Rattle.usb_packet.specs.{hex_text}
use Rattle.usb_port.specs.{path_text}
use Rattle.usb_host.specs.{Look, News}
use Rattle.usb_host.specs.{Arrived, Empty, Found, Left}
use Rattle.usb_host.specs.declared.look.Look.TheVariants.{Refused}
use Rattle.usb_table.specs.{TransferFault, NoDevice, NoEndpoint, NoInterface, NoPort, Reserved}
use Rattle.usb_table.specs.declared.fault.TransferFault.TheVariants.{Stalled as EndpointStalled}
use Rattle.usb_table.specs.declared.fault.TransferFault.TheVariants.{Busy as EndpointBusy, NoAnswer}
use Rattle.usb_table.specs.declared.fault.TransferFault.TheVariants.{Broken}
use Rattle.usb_table.specs.{EndpointChoice, FirstBulk, At}
use Rattle.usb_text.specs.{cause_text}
use Rattle.usb_run.specs.declared.item.Task.{Task}
use Rattle.usb_run.specs.declared.item.Task.TheVariants as task
use Rattle.usb_run.specs.declared.item.TaskEnd.{TaskEnd}
use Rattle.usb_run.specs.declared.item.TaskEnd.TheVariants.{Sent, Received, Done, Polled, Looked}

-- why a transfer was not done
abbrev pub fault_word : TransferFault → List ℕ
fault_word NoDevice = codes "no device"
fault_word NoPort = codes "no port"
fault_word Reserved = codes "reserved"
fault_word NoInterface = codes "no interface"
fault_word NoEndpoint = codes "no endpoint"
fault_word EndpointStalled = codes "stalled"
fault_word EndpointBusy = codes "busy"
fault_word NoAnswer = codes "no answer"
fault_word Broken = codes "broken"

abbrev pub failed_end : TransferFault → List ℕ
failed_end fault = codes " failed " ++ fault_word fault

-- how many bytes were sent
abbrev pub sent_end : Result ℕ TransferFault → List ℕ
sent_end (Ok count) = codes " done " ++ decimal count
sent_end (Err fault) = failed_end fault

-- the bytes that were received
abbrev pub received_end : Result (Vec ℕ) TransferFault → List ℕ
received_end (Ok bytes) = codes " done " ++ hex_text bytes.items
received_end (Err fault) = failed_end fault

-- that it is done
abbrev pub done_end : Result (Unit {0}) TransferFault → List ℕ
done_end (Ok done) = codes " done"
done_end (Err fault) = failed_end fault

-- an endpoint's address in two digits, behind a path
abbrev pub endpoint_text : ℕ → List ℕ
endpoint_text endpoint = codes " " ++ hex_text (endpoint ∷ [])

-- the first bulk endpoint is not named
abbrev pub choice_text : EndpointChoice → List ℕ
choice_text FirstBulk = []
choice_text (At endpoint) = endpoint_text endpoint

-- the packet that an endpoint gave, or that it had none
abbrev pub polled_end : Result (Option (ArrayVec ℕ)) TransferFault → List ℕ
polled_end (Ok (Some packet)) = codes " done " ++ hex_text packet.items
polled_end (Ok None) = codes " nothing"
polled_end (Err fault) = failed_end fault

-- an interface's number and that of its alternate setting, behind a path
abbrev pub setting_text : ℕ → ℕ → List ℕ
setting_text interface setting = codes " " ++ decimal interface ++ codes " " ++ decimal setting

-- what is listed at a port after a look
abbrev pub look_end : Result Look TransferFault → List ℕ
look_end (Ok Empty) = codes " empty"
look_end (Ok Found) = codes " found"
look_end (Ok (Refused cause)) = codes " refused " ++ cause_text cause
look_end (Err fault) = failed_end fault

-- how a task ended
abbrev pub end_text : TaskEnd → List ℕ
end_text (Sent sent) = sent_end sent
end_text (Received received) = received_end received
end_text (Done done) = done_end done
end_text (Polled polled) = polled_end polled
end_text (Looked looked) = look_end looked

-- the word of a task
abbrev pub task_word : Task → List ℕ
task_word (task.Send choice) = codes "send "
task_word (task.Receive choice) = codes "receive "
task_word task.Clear = codes "clear "
task_word (task.ClearOf endpoint) = codes "clear "
task_word (task.Poll endpoint) = codes "interrupt "
task_word (task.SetInterface interface setting) = codes "interface "
task_word task.ControlIn = codes "control "
task_word task.ControlOut = codes "control "
task_word task.Look = codes "look "

-- what is named behind the path: an endpoint by its address, an interface with its setting, or the
-- direction of a control transfer
abbrev pub place_text : Task → List ℕ
place_text (task.Send choice) = choice_text choice
place_text (task.Receive choice) = choice_text choice
place_text task.Clear = []
place_text (task.ClearOf endpoint) = endpoint_text endpoint
place_text (task.Poll endpoint) = endpoint_text endpoint
place_text (task.SetInterface interface setting) = setting_text interface setting
place_text task.ControlIn = codes " in"
place_text task.ControlOut = codes " out"
place_text task.Look = []

-- the word of a task, its path, the place there, and how it ended
unfoldable pub answer_line : List ℕ → Task → TaskEnd → List ℕ
answer_line path t end = task_word t ++ path_text path ++ place_text t ++ end_text end

-- left PATH, or arrived PATH
abbrev pub one_news_line : News → List ℕ
one_news_line (Left path) = codes "left " ++ path_text path
one_news_line (Arrived path) = codes "arrived " ++ path_text path

-- news, a line for each device that left or arrived, end
unfoldable pub news_lines : List News → List (List ℕ)
news_lines news = codes "news" ∷ map one_news_line news ++ codes "end" ∷ []
