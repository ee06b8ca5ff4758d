-- The parts of a send.
use Rattle.std.specs.Prelude.{min, if◌then◌else◌}
use Rattle.std.proofs.Common.{◌≡◌, ◌∙◌, ℕ, Bool, false, List, length, take, drop, Some, ap, ap₂}
use Rattle.std.proofs.Common.{refl}
use Rattle.std.proofs.lemmas.List.{drop_min, take_min}
use Rattle.usb_wire.specs.{Answer}
use Rattle.usb_far.specs.{ToSend, Wanted, fits_line, part_wanted, send_answer}

else_of : (b : Bool) (x y : Wanted) → b ≡ false → y ≡ (if b then x else y)
else_of b x y over = rw over refl

pub first_part : (s left : ToSend) (answer : Answer) (count : ℕ) (rest : List ℕ)
    → fits_line s ≡ false → rest ≡ s.bytes → count ≡ min 448 (length rest)
    → answer ≡ send_answer s.path s.endpoint (take count rest)
    → left ≡ record s { bytes = drop count s.bytes }
    → ◌≡◌ {A = Wanted} (record { answer = answer; sending = Some left }) (part_wanted s)
first_part s left answer count rest over all is asks behind =
    let head : take count rest ≡ take 448 s.bytes =
    ap (λ k. take k rest) is ∙ take_min 448 rest ∙ ap (take 448) all in
    let size : count ≡ min 448 (length s.bytes) = is ∙ ap (λ l. min 448 (length l)) all in
    let tail : drop count s.bytes ≡ drop 448 s.bytes =
    ap (λ k. drop k s.bytes) size ∙ drop_min 448 s.bytes in
    ap₂ (λ (a : Answer) (t : ToSend). record { answer = a; sending = Some t })
    (asks ∙ ap (send_answer s.path s.endpoint) head)
    (behind ∙ ap (λ (b : List ℕ). record s { bytes = b }) tail)
    ∙ else_of (fits_line s) _ _ over
