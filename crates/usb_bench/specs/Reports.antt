-- The listings that a host reports, and what the judge says of them.
use Rattle.std.specs.Prelude.{◌≡◌, ◌⊎◌, ℕ, Bool, true, false, List, [], ◌∷◌, ◌++◌, length}
use Rattle.std.specs.Prelude.{codes, flat_map, map, if◌then◌else◌, Option, None, Some, Ok, Err}
use Rattle.std.specs.Str.{IsUtf8, bytes_eq}
use Rattle.usb_far.specs.{Played, begins_with}
use Rattle.usb_judge.specs.{Judges, RisesByPath, scene_of}
use Rattle.usb_judge.specs.declared.judgement.Judgement.{Judgement}
use Rattle.usb_judge.specs.declared.listed.Claim.{Claim}
use Rattle.usb_judge.specs.declared.listed.Claim.TheVariants.{Device, Refused}
use Rattle.usb_judge.specs.declared.listed.ListedPort.{ListedPort}
use Rattle.usb_verdict.specs.declared.fault.ListingFault.{ListingFault}
use Rattle.usb_verdict.specs.declared.fault.ListingFault.TheVariants.{NoLine}
use Rattle.usb_verdict.specs.{counted, fault_line_text, judgement_text, line_joined, refusal_text}
use Rattle.usb_verdict.specs.{with_wrong}
use Rattle.usb_verdict.specs.Reports.{port_said}
use Rattle.usb_verdict.specs.declared.tally.Tally.{Tally}
use Rattle.usb_bench.specs.declared.judge.Block.{Block}
use Rattle.usb_bench.specs.declared.judge.Block.TheVariants as block
use Rattle.usb_bench.specs.Said.{Says}

-- the last line of a listing, and of news
abbrev pub is_end : List ℕ → Bool
is_end line = bytes_eq line (codes "end")

-- what a line begins where none is open
abbrev pub opened : List ℕ → Option Block
opened line = if begins_with line (codes "listing ") then Some (block.Listing [])
    else if bytes_eq line (codes "news") then Some block.News
    else None

-- why a line says nothing of a port: it is no text, or as usb_verdict reads it
abbrev pub IsFaultOf : List ListedPort → List ℕ → ListingFault → Type 0
IsFaultOf ports line f =
    (IsUtf8 line × (line_joined line (map port_said ports) ≡ Err f))
    ⊎ ((IsUtf8 line → ⊥) × (f ≡ NoLine))

-- a line more of a listing: it names ports, or its fault goes to the trace
pub data LineTaken (ports : List ListedPort) (line : List ℕ) (old : Played) : Block → Played
    → Type 0 where
  joined : {more : List ListedPort} → IsUtf8 line
      → line_joined line (map port_said ports) ≡ Ok (map port_said more)
      → LineTaken ports line old (block.Listing more) old
  broken : {new : Played} (f : ListingFault) → IsFaultOf ports line f
      → Says old (fault_line_text old.far.world.attempts f ∷ []) new
      → LineTaken ports line old block.Broken new

-- a note of a device that is refused
abbrev pub claim_lines : ℕ → List ℕ → Claim → List (List ℕ)
claim_lines attempts path (Device listed) = []
claim_lines attempts path Refused = refusal_text attempts path ∷ []

abbrev pub refusal : ℕ → ListedPort → List (List ℕ)
refusal attempts port = claim_lines attempts port.path port.claim

abbrev pub judgement_said : ℕ → Judgement → List ℕ
judgement_said attempts j = judgement_text attempts j.path j.cause

-- all that is wrong with the listing in the world as it is goes to the trace, in the order of
-- paths, behind the notes
pub record ListingJudged (ports : List ListedPort) (old : Played) (count : ℕ) (new : Played) :
    Type 0 where
  pub judgements : List Judgement
  pub judged : Judges (scene_of old.far.world) ports judgements
  pub order : RisesByPath judgements
  pub said : Says old (flat_map (refusal old.far.world.attempts) ports
      ++ map (judgement_said old.far.world.attempts) judgements) new
  pub counted : count ≡ length judgements

-- a line of a listing or of news
pub data Taken (line : List ℕ) (old : Played) : Tally → Block → Tally × Block → Played
    → Type 0 where
  judged : {t : Tally} {ports : List ListedPort} {count : ℕ} {new : Played} → is_end line ≡ true
      → ListingJudged ports old count new
      → Taken line old t (block.Listing ports) (counted count t, block.Outside) new
  listed : {t : Tally} {ports : List ListedPort} {b : Block} {new : Played} → is_end line ≡ false
      → LineTaken ports line old b new → Taken line old t (block.Listing ports) (t, b) new
  broken : {t : Tally} → is_end line ≡ true
      → Taken line old t block.Broken (with_wrong t, block.Outside) old
  skipped : {t : Tally} → is_end line ≡ false → Taken line old t block.Broken (t, block.Broken) old
  told : {t : Tally} → is_end line ≡ true → Taken line old t block.News (t, block.Outside) old
  tells : {t : Tally} → is_end line ≡ false → Taken line old t block.News (t, block.News) old
  outside : {t : Tally} → Taken line old t block.Outside (t, block.Outside) old
