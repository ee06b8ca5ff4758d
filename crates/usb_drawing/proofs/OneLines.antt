-- No line of a drawing has a newline.
use Rattle.std.proofs.Common.{◌≡◌, ◌≢◌, ◌∙◌, refl, sym, subst, arith, ℕ, zero, suc, ◌+◌, ◌<◌, Bool}
use Rattle.std.proofs.Common.{true, false, List, [], ◌∷◌, append-nil, flat_map, get_or, length}
use Rattle.std.proofs.Common.{Option, None, Some, nat_lt, cond, encode_utf8, All}
use Rattle.std.specs.Char.Utf16.{lone_unit_char, surrogate_pair_char}
use Rattle.std.specs.List.{AllByRecursion}
use Rattle.std.proofs.lemmas.List.Elements.{All-from_recursion}
use Rattle.std.proofs.lemmas.Str.{inside_one}
use Rattle.usb_port.specs.{number_text, path_text}
use Rattle.usb_enum.specs.{Cause, Stalled, Request, Accepted, Finding, HubFacts, Strings}
use Rattle.usb_enum.specs.{BadConfiguration, NoPower}
use Rattle.usb_enum.specs.declared.cause.Request.TheVariants as request
use Rattle.usb_enum.specs.declared.finding.Finding.TheVariants.{Device, Refused}
use Rattle.usb_serve.specs.{Entries, SpecTree}
use Rattle.usb_text.specs.{escaped_text, is_plain_unit, unit_text}
use Rattle.usb_drawing.specs.{Style, Lines, Ascii, art, branch, trunk, trunks, ports_text}
use Rattle.usb_drawing.specs.{cause_number, cause_words, device_text, drawing_lines, drawn_entries}
use Rattle.usb_drawing.specs.{entry_line, finding_text, gap, heading, heading_end, identity_text}
use Rattle.usb_drawing.specs.{is_shown, labelled_text, power_text, shown_or_escaped, shown_units}
use Rattle.usb_drawing.specs.{stall_words, string_text, strings_text, supply_text}
use Rattle.usb_descriptor.specs.{ClassCodes, class_text, class_word, word_or_number}
use Rattle.usb_drawing.proofs.NoLineFeeds.{HasNoLineFeed, choice, no_line_feed-cons}
use Rattle.usb_drawing.proofs.NoLineFeeds.{one_no_line_feed, unbroken}
use Rattle.usb_drawing.proofs.RuleLines.{rule_unbroken}

port_number : (n : ℕ) → HasNoLineFeed (number_text n)
unfolding number_text
port_number n = choice (nat_lt n 10) _ _ (one_no_line_feed (48 + n) (λ e. omega (arith, e)))
    (one_no_line_feed (38 + n) (λ e. omega (arith, e)))

path : (numbers : List ℕ) → HasNoLineFeed (path_text numbers)
unfolding path_text
path [] = refl
path (n ∷ []) = port_number n
path (n ∷ m ∷ ns) = search (unbroken, port_number, path (m ∷ ns))

-- Art

trunk_unbroken : (style : Style) (on : Bool) → HasNoLineFeed (trunk style on)
trunk_unbroken Lines true = refl
trunk_unbroken Lines false = refl
trunk_unbroken Ascii true = refl
trunk_unbroken Ascii false = refl

branch_unbroken : (style : Style) (on : Bool) → HasNoLineFeed (branch style on)
branch_unbroken Lines true = refl
branch_unbroken Lines false = refl
branch_unbroken Ascii true = refl
branch_unbroken Ascii false = refl

trunks_unbroken : (style : Style) (path : List ℕ) (behind : Entries) (levels : ℕ)
    → HasNoLineFeed (trunks style path behind levels)
trunks_unbroken style path behind zero = refl
trunks_unbroken style path behind (suc level) =
    search (unbroken, trunk_unbroken, trunks_unbroken style path behind level)

art_unbroken : (style : Style) (path : List ℕ) (behind : Entries)
    → HasNoLineFeed (art style path behind)
unfolding art
art_unbroken style path behind = search (unbroken, trunks_unbroken, branch_unbroken)

gap_unbroken : (blanks : ℕ) → HasNoLineFeed (gap blanks)
gap_unbroken zero = refl
gap_unbroken (suc blanks) = search (unbroken, gap_unbroken blanks)

-- Strings

no_line_feed_each : (xs : List ℕ) → ((k : ℕ) → k < length xs → get_or xs k 0 ≢ 10)
    → HasNoLineFeed xs
no_line_feed_each [] h = refl
no_line_feed_each (x ∷ xs) h = no_line_feed-cons x xs (h 0 (omega arith))
    (no_line_feed_each xs (λ k lt. h (suc k) (omega (arith, lt))))

-- a byte below 128 is a character of its own
utf8 : (c : ℕ) → c ≢ 10 → HasNoLineFeed (encode_utf8 c)
utf8 c differs = no_line_feed_each (encode_utf8 c)
    (λ k lt e. differs (inside_one c [] (encode_utf8 c) k (sym (append-nil (encode_utf8 c))) lt
    (omega (arith, e)) ∙ e))

escaped : (high low : ℕ) → HasNoLineFeed (escaped_text high low)
escaped high low = search unbroken

shown_other : (c : ℕ) → is_shown c ≡ true → c ≢ 10
shown_other c p e = cc (subst (λ x. is_shown x ≡ true) e p)

plain_other : (c : ℕ) → is_plain_unit c ≡ true → c ≢ 10
plain_other c p e = cc (subst (λ x. is_plain_unit x ≡ true) e p)

-- what is chosen only where this is so
choice_by : (b : Bool) (xs ys : List ℕ) → (b ≡ true → HasNoLineFeed xs) → HasNoLineFeed ys
    → HasNoLineFeed (cond b xs ys)
choice_by true xs ys p q = p refl
choice_by false xs ys p q = q

char_or_escaped : (o : Option ℕ) (u : ℕ) → HasNoLineFeed (shown_or_escaped o u)
char_or_escaped None u = search escaped
char_or_escaped (Some c) u =
    choice_by (is_shown c) _ _ (λ p. utf8 c (shown_other c p)) (search escaped)

pair : (u v : ℕ) → HasNoLineFeed (encode_utf8 (surrogate_pair_char u v))
pair u v = utf8 (surrogate_pair_char u v) (λ e. omega (arith, e))

units_unbroken : (units : List ℕ) → HasNoLineFeed (shown_units units)
unfolding shown_units
units_unbroken [] = refl
units_unbroken (u ∷ []) = char_or_escaped (lone_unit_char u) u
units_unbroken (u ∷ v ∷ us) =
    search (unbroken, pair, char_or_escaped, units_unbroken us, units_unbroken (v ∷ us))

plain_unit : (u : ℕ) → HasNoLineFeed (unit_text u)
plain_unit u =
    choice_by (is_plain_unit u) _ _ (λ p. one_no_line_feed u (plain_other u p)) (search escaped)

plain_units : (units : List ℕ) → HasNoLineFeed (flat_map unit_text units)
plain_units [] = refl
plain_units (u ∷ us) = search (unbroken, plain_unit, plain_units us)

string : (style : Style) (units : List ℕ) → HasNoLineFeed (string_text style units)
string Lines units = units_unbroken units
string Ascii units = plain_units units

labelled : (style : Style) (label : List ℕ) (units : Option (List ℕ)) → HasNoLineFeed label
    → HasNoLineFeed (labelled_text style label units)
labelled style label None p = refl
labelled style label (Some units) p = search (unbroken, string)

-- Classes

abbrev IsWordOrNone : Option (List ℕ) → Type 0
IsWordOrNone None = Unit {0}
IsWordOrNone (Some word) = HasNoLineFeed word

words : (b : Bool) (x y : Option (List ℕ)) → IsWordOrNone x → IsWordOrNone y
    → IsWordOrNone (cond b x y)
words true x y p q = p
words false x y p q = q

class_is_word : (c : ClassCodes) → IsWordOrNone (class_word c)
unfolding class_word
class_is_word c = search (words, choice) depth 24

word_unbroken : (word : Option (List ℕ)) (class : ℕ) → IsWordOrNone word
    → HasNoLineFeed (word_or_number word class)
word_unbroken (Some word) class p = p
word_unbroken None class p = search unbroken

class_unbroken : (c : ClassCodes) → HasNoLineFeed (class_text c)
class_unbroken c = word_unbroken (class_word c) c.class (class_is_word c)

ports : (hub : Option HubFacts) → HasNoLineFeed (ports_text hub)
ports None = refl
ports (Some facts) = search unbroken

-- What was found

power_unbroken : (granted : Option ℕ) (drawn : ℕ) → HasNoLineFeed (power_text granted drawn)
power_unbroken None drawn = search unbroken
power_unbroken (Some granted) drawn = search unbroken

identity_unbroken : (d : Accepted) → HasNoLineFeed (identity_text d)
unfolding identity_text
identity_unbroken d = search (unbroken, class_unbroken, ports) depth 12

strings_unbroken : (style : Style) (strings : Strings) → HasNoLineFeed (strings_text style strings)
unfolding strings_text
strings_unbroken style strings = search (unbroken, labelled)

device_unbroken : (style : Style) (granted : Option ℕ) (d : Accepted)
    → HasNoLineFeed (device_text style granted d)
device_unbroken style granted d =
    search (unbroken, identity_unbroken, strings_unbroken, power_unbroken)

stall_unbroken : (r : Request) → HasNoLineFeed (stall_words r)
stall_unbroken request.Device = refl
stall_unbroken _ = refl

words_unbroken : (cause : Cause) → HasNoLineFeed (cause_words cause)
words_unbroken (Stalled r) = stall_unbroken r
words_unbroken _ = refl

supply_unbroken : (granted : Option ℕ) → HasNoLineFeed (supply_text granted)
supply_unbroken None = refl
supply_unbroken (Some granted) = search unbroken

number_unbroken : (granted : Option ℕ) (cause : Cause) → HasNoLineFeed (cause_number granted cause)
number_unbroken granted (BadConfiguration index) = search unbroken
number_unbroken granted NoPower = supply_unbroken granted
number_unbroken granted _ = refl

finding_unbroken : (style : Style) (granted : Option ℕ) (finding : Finding)
    → HasNoLineFeed (finding_text style granted finding)
finding_unbroken style granted (Device d) = device_unbroken style granted d
finding_unbroken style granted (Refused cause) = search (unbroken, words_unbroken, number_unbroken)

-- Lines

entries_unbroken : (style : Style) (wide : Bool) (tree : SpecTree) (all entries : Entries)
    → AllByRecursion HasNoLineFeed (drawn_entries style wide tree all entries)
unfolding entry_line
entries_unbroken style wide tree all [] = tt
entries_unbroken style wide tree all (e ∷ behind) = (
  search (unbroken, art_unbroken, path, gap_unbroken, finding_unbroken, rule_unbroken) depth 8,
  entries_unbroken style wide tree all behind,
)

heading_end_unbroken : (entries : Entries) → HasNoLineFeed (heading_end entries)
heading_end_unbroken [] = refl
heading_end_unbroken (e ∷ entries) = refl

heading_unbroken : (n : ℕ) (entries : Entries) → HasNoLineFeed (heading n entries)
unfolding heading
heading_unbroken n entries = search (unbroken, heading_end_unbroken)

pub drawing_lines-unbroken : (style : Style) (n : ℕ) (wide : Bool) (tree : SpecTree)
    (entries : Entries) → All HasNoLineFeed (drawing_lines style n wide tree entries)
unfolding drawing_lines
drawing_lines-unbroken style n wide tree entries =
    All-from_recursion HasNoLineFeed (heading n entries
    ∷ drawn_entries style wide tree entries entries) (
      heading_unbroken n entries,
      entries_unbroken style wide tree entries entries,
    )
