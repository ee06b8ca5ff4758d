-- The answer to a row of INs: the bytes of the full packets that came first, as answers.
use Rattle.std.specs.Prelude.{◌≡◌, ◌≢◌, ℕ, ◌*◌, ◌%◌, ◌<◌, ◌≤◌, List, [], ◌∷◌, ◌++◌, length, ⊤}
use Rattle.std.specs.Prelude.{Option, Some, None}
use Rattle.usb_packet.specs.{Toggle, flips}
use Rattle.usb_world.specs.{Destination}
use Rattle.usb_world.specs.declared.types.Outcome.TheVariants.{Payload}
use Rattle.usb_dialogue.specs.declared.answer.Answer.{Answer}
use Rattle.usb_dialogue.specs.declared.fault.DriverFault.{DriverFault}
use Rattle.usb_dialogue.specs.declared.fault.DriverFault.TheVariants as fault
use Rattle.usb_dialogue.specs.declared.question.Question.{Question}
use Rattle.usb_dialogue.specs.declared.question.Question.TheVariants.{Ins}

-- a packet as an answer to an IN
abbrev pub packet_answer : Toggle → List ℕ → List (List ℕ) → Answer
packet_answer toggle packet statuses = record {
  outcome = Payload toggle (record { items = packet });
  statuses = statuses;
}

-- these bytes as answers, a full packet each, with toggles by turns from `first`
pub data ArePackets (first : Toggle) (max : ℕ) (statuses : List (List ℕ)) :
    List ℕ → List Answer → Type 0 where
  no_packet : ArePackets first max statuses [] []
  one_packet : {bytes : List ℕ} {answers : List Answer} (packet : List ℕ)
      → ArePackets first max statuses bytes answers → length packet ≡ max
      → ArePackets first max statuses (bytes ++ packet)
      (answers ++ packet_answer (flips (length answers) first) packet statuses ∷ [])

-- what came before the last attempt that was made: nothing, or packets of a row, fewer than it has
pub data CameFirst (statuses : List (List ℕ)) : Question → List ℕ → List Answer → Type 0 where
  nothing_first : {q : Question} → CameFirst statuses q [] []
  packets_first : {to : Destination} {toggle : Toggle} {most : ℕ} {before : List ℕ}
      {answers : List Answer} → ArePackets toggle to.max statuses before answers
      → length before < most * to.max → CameFirst statuses (Ins to toggle most) before answers

-- no row of INs was asked for
abbrev pub IsNoRow : Question → Type 0
IsNoRow (Ins to toggle most) = ⊥
IsNoRow other = ⊤

-- the bytes are no full packets, or no fewer than the row has
abbrev pub HasOddLength : List ℕ → Question → Type 0
HasOddLength before (Ins to toggle most) = length before % to.max ≢ 0
HasOddLength before other = ⊥

abbrev pub FillsRow : List ℕ → Question → Type 0
FillsRow before (Ins to toggle most) = most * to.max ≤ length before
FillsRow before other = ⊥

-- why these bytes cannot have come before the last attempt
abbrev pub FirstFault : Question → List ℕ → DriverFault → Type 0
FirstFault q before fault.OutOfTurn = (before ≢ []) × IsNoRow q
FirstFault q before fault.Length = HasOddLength before q
FirstFault q before fault.TooMuch = FillsRow before q
FirstFault q before fault.Memory = ⊤
FirstFault q before fault.Kind = ⊥
FirstFault q before fault.Roots = ⊥
FirstFault q before fault.Number = ⊥

-- the maximum packet of the row that waits for an answer
abbrev pub row_max : Option Question → ℕ
row_max (Some (Ins to toggle most)) = to.max
row_max other = 0
