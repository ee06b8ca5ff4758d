-- Text that no browser reads as markup.
use Rattle.std.specs.Prelude.{◌≢◌, ℕ, ◌==◌, List, [], ◌∷◌, ◌++◌, codes, flat_map}
use Rattle.std.specs.Prelude.{if◌then◌else◌}

-- a byte that HTML reads as itself: no " & ' < >
pub record IsPlain (c : ℕ) : Type 0 where
  pub quote : c ≢ 34
  pub ampersand : c ≢ 38
  pub apostrophe : c ≢ 39
  pub less : c ≢ 60
  pub greater : c ≢ 62

-- what a browser shows of HTML with no markup in it: plain bytes, and five entities
pub data Shows : List ℕ → List ℕ → Type 0 where
  nothing : Shows [] []
  plain : (c : ℕ) {source text : List ℕ} → IsPlain c → Shows source text
      → Shows (c ∷ source) (c ∷ text)
  quote : {source text : List ℕ} → Shows source text → Shows (codes "&quot;" ++ source) (34 ∷ text)
  ampersand : {source text : List ℕ} → Shows source text
      → Shows (codes "&amp;" ++ source) (38 ∷ text)
  apostrophe : {source text : List ℕ} → Shows source text
      → Shows (codes "&#39;" ++ source) (39 ∷ text)
  less : {source text : List ℕ} → Shows source text → Shows (codes "&lt;" ++ source) (60 ∷ text)
  greater : {source text : List ℕ} → Shows source text → Shows (codes "&gt;" ++ source) (62 ∷ text)

-- the entity of a byte that HTML reads as markup, or the byte
abbrev pub shown_byte : ℕ → List ℕ
shown_byte c = if c == 34 then codes "&quot;" else if c == 38 then codes "&amp;"
    else if c == 39 then codes "&#39;" else if c == 60 then codes "&lt;"
    else if c == 62 then codes "&gt;" else c ∷ []

abbrev pub escaped : List ℕ → List ℕ
escaped text = flat_map shown_byte text
