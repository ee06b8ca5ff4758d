-- What keeps the world and the judge's places: lines that report, and what is said.
use Rattle.std.proofs.Common.{◌≡◌, ◌∙◌, ap, refl, ℕ, List, Option, None, Some}
use Rattle.usb_port.specs.{PortCall}
use Rattle.usb_port.specs.declared.call.PortCall.TheVariants as port
use Rattle.usb_wire.specs.{Question}
use Rattle.usb_wire.specs.declared.question.Question.TheVariants.{Hello, Setup, Out, In, Port}
use Rattle.usb_wire.specs.declared.question.Question.TheVariants.{Ins, Outs, Restart, Wait}
use Rattle.usb_judge.specs.declared.window.Window.{Window}
use Rattle.usb_judge.specs.declared.listed.ListedPort.{ListedPort}
use Rattle.usb_far.specs.{Came, Far, Played, Scene}
use Rattle.usb_verdict.specs.declared.tally.Tally.{Tally}
use Rattle.usb_bench.specs.declared.judge.Judge.{Judge}
use Rattle.usb_bench.specs.declared.judge.Block.{Block}
use Rattle.usb_bench.specs.declared.judge.Block.TheVariants as block
use Rattle.usb_bench.specs.{AloneTaken, CallNoted, EmptyNoted, Foreseen, Judged, Kept, LineTaken}
use Rattle.usb_bench.specs.{OpenTaken, Report, ReportTaken, Taken, TakenIn, ToldOne, opened}
use Rattle.usb_bench.specs.{path_in}

-- the far end's world and the places are as before
pub record Keeps (j : Judge) (old : Played) (new_judge : Judge) (new : Played) : Type 0 where
  pub places : new_judge.places ≡ j.places
  pub far : new.far ≡ old.far

-- Lines that report

of_kept : (path : List ℕ) (j : Judge) (old : Played) (after : Option Window) (new_judge : Judge)
    (new : Played) → Kept path j old after new_judge new → Keeps j old new_judge new
of_kept path j old (Some w) new_judge new kept = record {
  places = ap (λ (x : Judge). x.places) kept.0.rest;
  far = ap (λ (x : Played). x.far) kept.2;
}
of_kept path j old None new_judge new kept = record {
  places = ap (λ (x : Judge). x.places) kept.0.rest;
  far = kept.2.same;
}

of_report : (read : Option Report) (j : Judge) (old : Played) (new_judge : Judge) (new : Played)
    → ReportTaken read j old new_judge new → Keeps j old new_judge new
of_report None j old new_judge new taken = record {
  places = ap (λ (x : Judge). x.places) taken.0;
  far = ap (λ (x : Played). x.far) taken.1;
}
of_report (Some report) j old new_judge new taken =
    of_kept (path_in report) j old taken.0 new_judge new taken.2

of_alone : (line : List ℕ) (b : Option Block) (j : Judge) (old : Played) (new_judge : Judge)
    (new : Played) → AloneTaken line b j old new_judge new → Keeps j old new_judge new
of_alone line (Some b) j old new_judge new taken = record {
  places = ap (λ (x : Judge). x.places) taken.0;
  far = ap (λ (x : Played). x.far) taken.1;
}
of_alone line None j old new_judge new taken =
    of_report taken.read j old new_judge new taken.taken

of_line : {ports : List ListedPort} {line : List ℕ} {old new : Played} {b : Block}
    → LineTaken ports line old b new → new.far ≡ old.far
of_line (LineTaken.joined text is) = refl
of_line (LineTaken.broken f is said) = said.same

of_taken : {line : List ℕ} {old new : Played} {t : Tally} {b : Block} {next : Tally × Block}
    → Taken line old t b next new → new.far ≡ old.far
of_taken (Taken.judged ends judged) = judged.said.same
of_taken (Taken.listed ends taken) = of_line taken
of_taken (Taken.broken ends) = refl
of_taken (Taken.skipped ends) = refl
of_taken (Taken.told ends) = refl
of_taken (Taken.tells ends) = refl
of_taken Taken.outside = refl

of_open : (line : List ℕ) (j : Judge) (old : Played) (new_judge : Judge) (new : Played)
    → OpenTaken line j old new_judge new → Keeps j old new_judge new
of_open line j old new_judge new taken = record {
  places = ap (λ (x : Judge). x.places) taken.judge;
  far = of_taken taken.taken;
}

of_block : (b : Block) (line : List ℕ) (j : Judge) (old : Played) (new_judge : Judge)
    (new : Played) → TakenIn b line j old new_judge new → Keeps j old new_judge new
of_block block.Outside line j old new_judge new taken =
    of_alone line (opened line) j old new_judge new taken
of_block (block.Listing ports) line j old new_judge new taken =
    of_open line j old new_judge new taken
of_block block.Broken line j old new_judge new taken = of_open line j old new_judge new taken
of_block block.News line j old new_judge new taken = of_open line j old new_judge new taken

pub told_places : (j : Judge) (old : Scene) (new_judge : Judge) (new : Scene)
    → ToldOne j old new_judge new → new_judge.places ≡ j.places
told_places j old new_judge new told =
    (of_block j.block told.front j told.read.played new_judge new.played told.judged).places

pub told_far : (j : Judge) (old : Scene) (new_judge : Judge) (new : Scene)
    → (told : ToldOne j old new_judge new) → new.played.far ≡ told.read.played.far
told_far j old new_judge new told =
    (of_block j.block told.front j told.read.played new_judge new.played told.judged).far

pub told_world : (j : Judge) (old : Scene) (new_judge : Judge) (new : Scene)
    → ToldOne j old new_judge new → new.played.far.world ≡ old.played.far.world
told_world j old new_judge new told =
    ap (λ (f : Far). f.world) (told_far j old new_judge new told)
    ∙ ap (λ (p : Played). p.far.world) told.reads.moved

-- What is said before a question is answered, and behind it

of_call : (number : ℕ) (call : PortCall) (old new : Played) → CallNoted number call old new
    → new.far ≡ old.far
of_call number port.SetReset old new noted = noted.said.same
of_call number port.SetPower old new noted = ap (λ (p : Played). p.far) noted
of_call number port.ClearEnable old new noted = ap (λ (p : Played). p.far) noted
of_call number port.ClearPower old new noted = ap (λ (p : Played). p.far) noted
of_call number port.ClearConnectionChange old new noted = ap (λ (p : Played). p.far) noted
of_call number port.ClearEnableChange old new noted = ap (λ (p : Played). p.far) noted
of_call number port.ClearResetChange old new noted = ap (λ (p : Played). p.far) noted

of_noted : (q : Question) (old new : Played) → EmptyNoted q old new → new.far ≡ old.far
of_noted (Port number call) old new noted = of_call number call old new noted
of_noted Hello old new noted = ap (λ (p : Played). p.far) noted
of_noted (Setup speed endpoint setup) old new noted = ap (λ (p : Played). p.far) noted
of_noted (Out speed endpoint sent) old new noted = ap (λ (p : Played). p.far) noted
of_noted (In speed endpoint most) old new noted = ap (λ (p : Played). p.far) noted
of_noted (Ins speed endpoint most toggle packets) old new noted = ap (λ (p : Played). p.far) noted
of_noted (Outs speed endpoint most toggle bytes) old new noted = ap (λ (p : Played). p.far) noted
of_noted (Restart endpoint is_in) old new noted = ap (λ (p : Played). p.far) noted
of_noted Wait old new noted = ap (λ (p : Played). p.far) noted

pub foreseen_keeps : (last : ℕ) (q : Question) (j : Judge) (old : Played) (c : Option _)
    (new_judge : Judge) (new : Played) → Foreseen last q j old c new_judge new
    → Keeps j old new_judge new
foreseen_keeps last q j old None new_judge new seen = record {
  places = ap (λ (x : Judge). x.places) seen.1;
  far = of_noted q old new seen.2;
}
foreseen_keeps last q j old (Some c) new_judge new seen = record {
  places = ap (λ (x : Judge). x.places) seen.2.judge;
  far = seen.2.said.same;
}

pub judged_keeps : (c : Option _) (came : Came) (j : Judge) (old : Played)
    (new_judge : Judge) (new : Played) → Judged c came j old new_judge new
    → Keeps j old new_judge new
judged_keeps None came j old new_judge new judged = record {
  places = ap (λ (x : Judge). x.places) judged.0;
  far = ap (λ (x : Played). x.far) judged.1;
}
judged_keeps (Some c) came j old new_judge new judged = record {
  places = ap (λ (x : Judge). x.places) judged.judge;
  far = judged.said.same;
}
