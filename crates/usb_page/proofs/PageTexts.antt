-- The parts of a page.
use Rattle.std.proofs.Common.{◌≡◌, ◌∙◌, ap, ℕ, List, [], ◌++◌, append-nil}
use Rattle.usb_page.specs.{escaped, page_text}
use Rattle.usb_page.specs.declared.markup.TheConstants.{HEAD, MIDDLE}
use Rattle.usb_page.specs.declared.script.TheConstants.{TAIL}

both : {a b c d : List ℕ} → a ≡ c → b ≡ d → a ++ b ≡ c ++ d
both {a} {b} {c} {d} first second = ap (λ l. a ++ l) second ∙ ap (λ l. l ++ d) first

-- the five parts that are written
pub parts_joined : (name text : List ℕ) {a b c d e : List ℕ} → a ≡ HEAD.now → b ≡ escaped name
    → c ≡ MIDDLE.now → d ≡ escaped text → e ≡ TAIL.now
    → a ++ (b ++ (c ++ (d ++ (e ++ [])))) ≡ page_text name text
unfolding page_text
parts_joined name text {e = e} ia ib ic id ie =
    both ia (both ib (both ic (both id (append-nil e ∙ ie))))
