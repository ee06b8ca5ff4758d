-- The lines of items.
use Rattle.std.specs.Prelude.{ℕ, ◌+◌, List, [], ◌∷◌}
use Rattle.usb_run.specs.declared.item.Item.{Item}
use Rattle.usb_run.specs.declared.item.Item.TheVariants.{Listing, News, Answer}
use Rattle.usb_run.specs.TransferLines.{answer_line, news_lines}
use Rattle.usb_text.specs.{listing_lines}

-- the lines of an item; the number is that of a listing
abbrev pub item_lines : ℕ → Item → List (List ℕ)
item_lines number (Listing entries taken said) = listing_lines number entries said
item_lines number (News news) = news_lines news.items
item_lines number (Answer path task end) = answer_line path task end ∷ []

-- listings alone are numbered
abbrev pub number_of : Item → ℕ → ℕ
number_of (Listing entries taken said) number = number + 1
number_of (News news) number = number
number_of (Answer path task end) number = number
