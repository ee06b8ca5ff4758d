-- What the lines of a run are made of, and how a text is read by it.
use Rattle.std.specs.Prelude.{◌⊎◌, ◌≡◌, ◌≢◌, ℕ, ◌*◌, ◌+◌, ◌^◌, ◌<◌, zero, suc, ◌==◌, ◌&&◌, not}
use Rattle.std.specs.Prelude.{nat_le, ◌≤◌, Bool, true, false, List, [], ◌∷◌, ◌++◌, length, map}
use Rattle.std.specs.Prelude.{Option, take, Some, None, option_map, codes, decimal, if◌then◌else◌}
use Rattle.std.specs.Prelude.{drop, slice_index, position, unwrap_or}
use Rattle.std.specs.Char.{is_ascii_digit}
use Rattle.usb_pcap.specs.declared.item.Item.{Item}
use Rattle.usb_pcap.specs.declared.item.Item.TheVariants.{Byte, Letter}
use Rattle.usb_pcap.specs.declared.part.Part.{Part}
use Rattle.usb_pcap.specs.declared.part.Part.TheVariants as part
use Rattle.usb_packet.specs.{hex_text}
use Rattle.usb_port.specs.{IsPath, path_of, path_text}
use Rattle.usb_request.specs.{is_endpoint_address}
use Rattle.usb_pcap.specs.Text.{decimal_in, if_found, is_digit, strip, strip_any, value_of}

-- ---- the grammar

-- a character of a string that stands for itself: printable, and neither a quotation mark nor a
-- backslash
abbrev pub is_plain : ℕ → Bool
is_plain c = nat_le 32 c && nat_le c 126 && not (c == 34) && not (c == 92)

-- four digits of a unit that has no character of its own
abbrev pub is_escape : ℕ → ℕ → ℕ → ℕ → Bool
is_escape a b c d = is_digit a && is_digit b && is_digit c && is_digit d &&
    not (a == 48 && b == 48 && is_plain (value_of c * 16 + value_of d))

-- two digits; a character of a string, or \uXXXX
abbrev pub IsUnit : Item → List ℕ → Type 0
IsUnit Byte item = (h : ℕ) × (l : ℕ) × ((is_digit h && is_digit l) ≡ true) × (item ≡ h ∷ l ∷ [])
IsUnit Letter item =
    ((c : ℕ) × (is_plain c ≡ true) × (item ≡ c ∷ []))
    ⊎ ((a : ℕ) × (b : ℕ) × (c : ℕ) × (d : ℕ) × (is_escape a b c d ≡ true)
    × (item ≡ 92 ∷ 117 ∷ a ∷ b ∷ c ∷ d ∷ []))

-- at most n items, one behind the other
abbrev pub AreUnits : Item → ℕ → List ℕ → Type 0
AreUnits kind zero text = text ≡ []
AreUnits kind (suc n) text = (text ≡ []) ⊎ ((item : List ℕ) × (more : List ℕ) × IsUnit kind item
    × AreUnits kind n more × (text ≡ item ++ more))

abbrev pub IsOneOf : List (List ℕ) → List ℕ → Type 0
IsOneOf [] text = ⊥
IsOneOf (w ∷ ws) text = (text ≡ w) ⊎ IsOneOf ws text

-- a piece of a line
pub data Piece : Type 0 where
  word : List ℕ → Piece
  one_of : List (List ℕ) → Piece
  path : Piece
  endpoint : Piece
  number : Piece
  bytes : Piece
  string : Piece
  name : Piece

-- the texts of a piece; a path begins at a root port, of which there are at most 7
abbrev pub IsPiece : Piece → List ℕ → Type 0
IsPiece (Piece.word w) text = text ≡ w
IsPiece (Piece.one_of words) text = IsOneOf words text
IsPiece Piece.path text = (p : List ℕ) × IsPath p × (slice_index p 0 ≤ 7) × (text ≡ path_text p)
IsPiece Piece.endpoint text = (a : ℕ) × (is_endpoint_address a ≡ true) × (text ≡ hex_text (a ∷ []))
IsPiece Piece.number text = (n : ℕ) × (n < 2 ^ 64) × (text ≡ decimal n)
IsPiece Piece.bytes text =
    (text ≡ codes "-")
    ⊎ ((n : ℕ) × (first : List ℕ) × (more : List ℕ) × IsUnit Byte first × AreUnits Byte n more
    × (text ≡ first ++ more))
IsPiece Piece.string text = (n : ℕ) × AreUnits Letter n text
IsPiece Piece.name text = text ≢ []

-- the texts of a row of pieces
abbrev pub IsForm : List Piece → List ℕ → Type 0
IsForm [] text = text ≡ []
IsForm (piece ∷ form) text = (first : List ℕ) × (more : List ℕ) × IsPiece piece first
    × IsForm form more × (text ≡ first ++ more)

-- ---- reading

abbrev pub behind_byte : List ℕ → Option (List ℕ)
behind_byte [] = None
behind_byte (h ∷ []) = None
behind_byte (h ∷ l ∷ text) = if is_digit h && is_digit l then Some text else None

abbrev pub behind_escape : List ℕ → Option (List ℕ)
behind_escape (u ∷ a ∷ b ∷ c ∷ d ∷ text) = if u == 117 && is_escape a b c d then Some text else None
behind_escape _ = None

abbrev pub behind_letter : List ℕ → Option (List ℕ)
behind_letter [] = None
behind_letter (c ∷ text) = if is_plain c then Some text else if c == 92 then behind_escape text
    else None

-- what stands behind an item
unfoldable pub behind_item : Item → List ℕ → Option (List ℕ)
behind_item Byte text = behind_byte text
behind_item Letter text = behind_letter text

-- what stands behind as many items as there are, up to n
unfoldable pub behind_items : Item → ℕ → List ℕ → List ℕ
behind_items kind zero text = text
behind_items kind (suc n) text = elim (behind_item kind text) [
  | None ↦ text
  | Some rest ↦
      behind_items kind n rest
]

-- neither a digit nor a dot
abbrev pub ends_path : ℕ → Bool
ends_path c = not (is_ascii_digit c) && not (c == 46)

-- a root hub has at most 7 ports
abbrev pub is_from_root : Option (List ℕ) → Bool
is_from_root None = false
is_from_root (Some p) = nat_le (slice_index p 0) 7

-- where the digits and dots at the front end
abbrev pub path_end : List ℕ → ℕ
path_end text = unwrap_or (position ends_path text) (length text)

abbrev pub behind_path : List ℕ → Option (List ℕ)
behind_path text = if is_from_root (path_of (take (path_end text) text)) then Some
    (drop (path_end text) text) else None

-- two upper-case digits of an endpoint's address (9.6.6)
abbrev pub is_endpoint : ℕ → ℕ → Bool
is_endpoint h l = is_digit h && is_digit l && is_endpoint_address (value_of h * 16 + value_of l)

abbrev pub behind_endpoint : List ℕ → Option (List ℕ)
behind_endpoint [] = None
behind_endpoint (h ∷ []) = None
behind_endpoint (h ∷ l ∷ text) = if is_endpoint h l then Some text else None

abbrev pub behind_bytes : List ℕ → Option (List ℕ)
behind_bytes text = if_found (strip (codes "-") text) Some
    (option_map (λ rest. behind_items Byte (length rest) rest) (behind_item Byte text))

abbrev pub behind_name : List ℕ → Option (List ℕ)
behind_name [] = None
behind_name (c ∷ text) = Some []

-- what stands behind a piece
unfoldable pub behind_piece : Piece → List ℕ → Option (List ℕ)
behind_piece (Piece.word w) text = strip w text
behind_piece (Piece.one_of words) text = strip_any words text
behind_piece Piece.path text = behind_path text
behind_piece Piece.endpoint text = behind_endpoint text
behind_piece Piece.number text = option_map (λ n. n.1) (decimal_in text)
behind_piece Piece.bytes text = behind_bytes text
behind_piece Piece.string text = Some (behind_items Letter (length text) text)
behind_piece Piece.name text = behind_name text

-- whether a text is of a row of pieces
unfoldable pub fits_form : List Piece → List ℕ → Bool
fits_form [] text = length text == 0
fits_form (piece ∷ form) text = elim (behind_piece piece text) [
  | None ↦ false
  | Some rest ↦
      fits_form form rest
]

-- a part, as the grammar has it
abbrev pub piece_of : Part → Piece
piece_of (part.Word w) = Piece.word w.now
piece_of (part.OneOf words) = Piece.one_of (map (λ w. w.now) words.now)
piece_of part.Path = Piece.path
piece_of part.Endpoint = Piece.endpoint
piece_of part.Number = Piece.number
piece_of part.Bytes = Piece.bytes
piece_of part.Text = Piece.string
piece_of part.Name = Piece.name
