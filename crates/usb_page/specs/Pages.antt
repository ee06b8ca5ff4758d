-- The page of a run.
use Rattle.std.specs.Prelude.{ℕ, List, ◌++◌}
use Rattle.usb_page.specs.declared.markup.TheConstants.{HEAD, MIDDLE}
use Rattle.usb_page.specs.declared.script.TheConstants.{TAIL}
use Rattle.usb_page.specs.Escape.{escaped}

-- the page of a text: constants around the name and the text, both escaped
unfoldable pub page_text : List ℕ → List ℕ → List ℕ
page_text name text =
    HEAD.now ++ (escaped name ++ (MIDDLE.now ++ (escaped text ++ TAIL.now)))
