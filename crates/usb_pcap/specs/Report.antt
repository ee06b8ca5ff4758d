-- The lines of a run that are of no attempt.
use Rattle.std.specs.Prelude.{◌⊎◌, ℕ, ◌||◌, Bool, false, List, [], ◌∷◌, codes}
use Rattle.usb_pcap.specs.Grammar.{IsForm, Piece, fits_form}
use Rattle.usb_pcap.specs.Grammar.Piece.{word, one_of, path, endpoint, number, bytes, string, name}

-- why a device was refused
abbrev pub causes : List (List ℕ)
causes =
    codes "silent" ∷ codes "busy" ∷ codes "stalled device" ∷ codes "stalled address" ∷
    codes "stalled config" ∷ codes "stalled set config"
    ∷ codes "bad device" ∷ codes "too deep" ∷ codes "too large" ∷ codes "no power" ∷
    codes "bad hub" ∷ codes "lost" ∷ codes "no address" ∷ []

-- why a transfer was not done
abbrev pub failures : List (List ℕ)
failures = codes "no device" ∷ codes "no endpoint" ∷ codes "stalled" ∷ codes "busy" ∷
    codes "no answer" ∷ codes "broken" ∷ []

-- plug PATH NAME
abbrev pub plug_form : List Piece
plug_form = word (codes "plug ") ∷ path ∷ word (codes " ") ∷ name ∷ []

-- an unplug, the lines of a listing, the lines of transfers, looks and news, a bound
abbrev pub report_forms : List (List Piece)
report_forms =
    (word (codes "unplug ") ∷ path ∷ [])
    ∷ (word (codes "listing ") ∷ number ∷ [])
    ∷ (word (codes "end") ∷ [])
    ∷ (path ∷ word (codes " address ") ∷ number ∷ one_of (codes " full " ∷ codes " low " ∷ []) ∷
    bytes ∷ [])
    ∷ (path ∷ word (codes " config ") ∷ number ∷ word (codes " ") ∷ bytes ∷ [])
    ∷ (path ∷ word (codes " config ") ∷ number ∷ word (codes " ") ∷ bytes ∷ word (codes " *") ∷ [])
    ∷ (path ∷ word (codes " hub ") ∷ number ∷ word (codes " ports ") ∷ number ∷ word (codes " mA") ∷
    [])
    ∷ (path ∷ one_of (codes " manufacturer \"" ∷ codes " product \"" ∷ codes " serial \"" ∷ []) ∷
    string ∷ word (codes "\"") ∷ [])
    ∷ (path ∷ word (codes " refused ") ∷ one_of causes ∷ [])
    ∷ (path ∷ word (codes " refused bad configuration ") ∷ number ∷ [])
    ∷ (path ∷ word (codes " said ") ∷ bytes ∷ [])
    ∷ (word (codes "send ") ∷ path ∷ word (codes " done ") ∷ number ∷ [])
    ∷ (word (codes "receive ") ∷ path ∷ word (codes " done ") ∷ bytes ∷ [])
    ∷ (word (codes "clear ") ∷ path ∷ word (codes " done") ∷ [])
    ∷ (one_of (codes "send " ∷ codes "receive " ∷ codes "clear " ∷ []) ∷ path ∷
    word (codes " failed ") ∷ one_of failures ∷ [])
    ∷ (word (codes "send ") ∷ path ∷ word (codes " ") ∷ endpoint ∷ word (codes " done ") ∷ number ∷
    [])
    ∷ (one_of (codes "receive " ∷ codes "interrupt " ∷ []) ∷ path ∷ word (codes " ") ∷ endpoint ∷
    word (codes " done ") ∷ bytes ∷ [])
    ∷ (word (codes "interrupt ") ∷ path ∷ word (codes " ") ∷ endpoint
    ∷ word (codes " nothing") ∷ [])
    ∷ (word (codes "clear ") ∷ path ∷ word (codes " ") ∷ endpoint ∷ word (codes " done") ∷ [])
    ∷ (one_of (codes "send " ∷ codes "receive " ∷ codes "interrupt " ∷ codes "clear " ∷ []) ∷ path ∷
    word (codes " ") ∷ endpoint ∷ word (codes " failed ") ∷ one_of failures ∷ [])
    ∷ (word (codes "interface ") ∷ path ∷ word (codes " ") ∷ number ∷ word (codes " ") ∷ number ∷
    one_of (codes " done" ∷ codes " failed no interface" ∷ []) ∷ [])
    ∷ (word (codes "interface ") ∷ path ∷ word (codes " ") ∷ number ∷ word (codes " ") ∷ number ∷
    word (codes " failed ") ∷ one_of failures ∷ [])
    ∷ (word (codes "control ") ∷ path ∷ word (codes " in done ") ∷ bytes ∷ [])
    ∷ (word (codes "control ") ∷ path ∷ one_of (codes " in failed " ∷ codes " out failed " ∷ []) ∷
    one_of failures ∷ [])
    ∷ (word (codes "control ") ∷ path ∷ word (codes " out done ") ∷ number ∷ [])
    ∷ (word (codes "control ") ∷ path ∷ word (codes " out failed reserved") ∷ [])
    ∷ (word (codes "look ") ∷ path ∷ one_of (codes " found" ∷ codes " empty" ∷ []) ∷ [])
    ∷ (word (codes "look ") ∷ path ∷ word (codes " refused ") ∷ one_of causes ∷ [])
    ∷ (word (codes "look ") ∷ path ∷ word (codes " refused bad configuration ") ∷ number ∷ [])
    ∷ (word (codes "look ") ∷ path ∷ word (codes " failed no port") ∷ [])
    ∷ (word (codes "news") ∷ [])
    ∷ (one_of (codes "left " ∷ codes "arrived " ∷ []) ∷ path ∷ [])
    ∷ (word (codes "bound ") ∷ number ∷ [])
    ∷ []

-- a line of one of the forms
abbrev pub HasForm : List (List Piece) → List ℕ → Type 0
HasForm [] line = ⊥
HasForm (form ∷ forms) line = IsForm form line ⊎ HasForm forms line

abbrev pub IsPlug : List ℕ → Type 0
IsPlug line = IsForm plug_form line

abbrev pub IsReport : List ℕ → Type 0
IsReport line = HasForm report_forms line

-- ---- reading

abbrev pub has_form : List (List Piece) → List ℕ → Bool
has_form [] line = false
has_form (form ∷ forms) line = fits_form form line || has_form forms line
