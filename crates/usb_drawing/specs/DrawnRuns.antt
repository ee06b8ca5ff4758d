-- What drawing a plan's run wrote.
use Rattle.std.specs.Prelude.{◌≡◌, ℕ, List, Option, Bool, Result, Ok, Err, IfSome}
use Rattle.usb_world.specs.{PlanData}
use Rattle.usb_serve.specs.{Answer, IsOfRun, IsUnread, Item, ItemsWritten, Listing, MarksWrite}
use Rattle.usb_serve.specs.{News, ServeFault, item_lines, tree_after}
use Rattle.usb_plan.specs.{spelled_plan}
use Rattle.usb_drawing.specs.declared.art.Style.{Style}
use Rattle.usb_drawing.specs.Drawings.{drawing_lines}

-- the lines of an item of a plan's run, all but those of a listing as in mode Tree; the number is
-- that of a listing
abbrev pub drawn_lines : Style → PlanData → ℕ → Item → List (List ℕ)
drawn_lines style plan number (Listing entries taken said) = drawing_lines style number plan.wide
    (tree_after plan taken) entries
drawn_lines style plan number (News news) = item_lines number (News news)
drawn_lines style plan number (Answer path task end) = item_lines number (Answer path task end)

-- the drawings of a run of a plan, whose trace is thrown away; each of its items is right when it
-- is made
abbrev pub RunDrawn : Style → PlanData → Option (List ℕ) → Result (Unit {0}) ServeFault
    → Option (List ℕ) → Type 0
RunDrawn style plan before result now =
    ItemsWritten plan (drawn_lines style plan) before result now

-- what drawing a text wrote: nothing, where no plan was read; else the drawings of a run of the
-- plan that the text spells, and then no fault is the text's or the reader's
pub data IsDrawn (style : Style) (text before : Option (List ℕ))
    (result : Result (Unit {0}) ServeFault) (now : Option (List ℕ)) : Type 0 where
  unread : (fault : ServeFault) → result ≡ Err fault → IsUnread text fault → now ≡ before
      → IsDrawn style text before result now
  of_plan : (plan : PlanData) → IfSome text (λ t. spelled_plan t ≡ Ok plan) → IsOfRun result
      → RunDrawn style plan before result now → IsDrawn style text before result now

-- where a writer is told to have failed it has, and else its mark is as it was
abbrev pub MarksDrawing : Result (Unit {0}) ServeFault → Bool → Bool → Type 0
MarksDrawing result before now = MarksWrite result before now
