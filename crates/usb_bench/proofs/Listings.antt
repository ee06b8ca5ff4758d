-- A line of a listing or of news, by what is was.
use Rattle.std.proofs.Common.{◌≡◌, ◌⊎◌, inl, inr, ℕ, true, false, List, [], ◌∷◌, subst}
use Rattle.std.specs.Str.{IsUtf8}
use Rattle.std.proofs.Common.{map, Ok, Err}
use Rattle.usb_far.specs.{Played}
use Rattle.usb_judge.specs.declared.listed.ListedPort.{ListedPort}
use Rattle.usb_verdict.specs.declared.fault.ListingFault.{ListingFault}
use Rattle.usb_verdict.specs.declared.fault.ListingFault.TheVariants.{Memory}
use Rattle.usb_verdict.specs.{counted, fault_line_text, line_joined, with_wrong}
use Rattle.usb_verdict.specs.Reports.{port_said}
use Rattle.usb_verdict.specs.declared.tally.Tally.{Tally}
use Rattle.usb_bench.specs.declared.judge.Block.{Block}
use Rattle.usb_bench.specs.declared.judge.Block.TheVariants as block
use Rattle.usb_bench.specs.{IsFaultOf, LineTaken, ListingJudged, Says, Taken, is_end}

pub taken_judged : (line : List ℕ) (old new : Played) (t next : Tally) (b : Block)
    (ports same : List ListedPort) (count : ℕ) → b ≡ block.Listing ports → is_end line ≡ true
    → same ≡ ports → next ≡ counted count t → ListingJudged same old count new
    → Taken line old t b (next, block.Outside) new
taken_judged line old new t next b ports same count was over is to judged =
    rw (was, to)
    (Taken.judged over (subst (λ (ps : List ListedPort). ListingJudged ps old count new) is judged))

pub taken_listed : (line : List ℕ) (old new : Played) (t : Tally) (b more : Block)
    (ports : List ListedPort) → b ≡ block.Listing ports → is_end line ≡ false
    → LineTaken ports line old more new → Taken line old t b (t, more) new
taken_listed line old new t b more ports was over taken = rw was (Taken.listed over taken)

pub taken_broken : (line : List ℕ) (p : Played) (t next : Tally) (b : Block) → b ≡ block.Broken
    → is_end line ≡ true → next ≡ with_wrong t → Taken line p t b (next, block.Outside) p
taken_broken line p t next b was over to = rw (was, to) (Taken.broken over)

pub taken_skipped : (line : List ℕ) (p : Played) (t : Tally) (b : Block) → b ≡ block.Broken
    → is_end line ≡ false → Taken line p t b (t, block.Broken) p
taken_skipped line p t b was over = rw was (Taken.skipped over)

pub taken_told : (line : List ℕ) (p : Played) (t : Tally) (b : Block) → b ≡ block.News
    → is_end line ≡ true → Taken line p t b (t, block.Outside) p
taken_told line p t b was over = rw was (Taken.told over)

pub taken_tells : (line : List ℕ) (p : Played) (t : Tally) (b : Block) → b ≡ block.News
    → is_end line ≡ false → Taken line p t b (t, block.News) p
taken_tells line p t b was over = rw was (Taken.tells over)

pub taken_outside : (line : List ℕ) (p : Played) (t : Tally) (b : Block) → b ≡ block.Outside
    → Taken line p t b (t, block.Outside) p
taken_outside line p t b was = rw was Taken.outside

-- a line of a listing that names ports
pub line_joins : (line text : List ℕ) (old : Played) (ports more : List ListedPort)
    → text ≡ line → IsUtf8 line → line_joined text (map port_said ports) ≡ Ok (map port_said more)
    → LineTaken ports line old (block.Listing more) old
line_joins line text old ports more same utf8 taken =
    LineTaken.joined utf8
    (subst (λ l. line_joined l (map port_said ports) ≡ Ok (map port_said more)) same taken)

-- one that says nothing
pub line_breaks : (line said : List ℕ) (old new : Played) (ports : List ListedPort)
    (f : ListingFault) → IsFaultOf ports line f
    → said ≡ fault_line_text old.far.world.attempts f → Says old (said ∷ []) new
    → LineTaken ports line old block.Broken new
line_breaks line said old new ports f why is says =
    LineTaken.broken f why (subst (λ l. Says old (l ∷ []) new) is says)

-- its fault, if it is a text
pub fault_of_text : (line text : List ℕ) (ports : List ListedPort) (f : ListingFault)
    → text ≡ line → IsUtf8 line
    → (f ≡ Memory) ⊎ (line_joined text (map port_said ports) ≡ Err f) → (f ≡ Memory → ⊥)
    → IsFaultOf ports line f
fault_of_text line text ports f same utf8 (inl memory) other = absurd (other memory)
fault_of_text line text ports f same utf8 (inr said) other =
    inl (utf8, subst (λ l. line_joined l (map port_said ports) ≡ Err f) same said)
