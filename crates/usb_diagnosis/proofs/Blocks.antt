-- One fault more is listed.
use Rattle.std.proofs.Common.{◌<◌, ◌≡◌, ℕ, List, [], ◌∷◌, ◌++◌, length, String, string_bytes, arith}
use Rattle.std.proofs.Common.{Some}
use Rattle.std.specs.Global.{Global}
use Rattle.std.proofs.lemmas.List.{length_push}
use Rattle.std.proofs.lemmas.List.Elements.{All-push}
use Rattle.toml.specs.Data.{Members}
use Rattle.usb_plan.specs.{PlanFault}
use Rattle.usb_plan.specs.declared.fault.Place.{Place}
use Rattle.usb_diagnosis.specs.declared.trouble.Trouble.{Trouble}
use Rattle.usb_diagnosis.specs.{AreBlocks, BeginsWith, IsBlock, IsTroubleOf, entry_in, place_of}

pub blocks_more : (file text : List ℕ) (document : Members) (blocks : List (String Global))
    (block : String Global) (fault : PlanFault) (place : Place) (entry : Members)
    (trouble : Trouble) → AreBlocks file text document blocks → length blocks < 19
    → place_of fault ≡ Some place → entry_in document place ≡ Some entry
    → IsTroubleOf place entry trouble → BeginsWith file text fault (string_bytes block)
    → AreBlocks file text document (blocks ++ block ∷ [])
blocks_more file text document blocks block fault place entry trouble h room of there holds begins =
    record {
      few = omega (arith, length_push blocks block, room);
      each = All-push (λ b. IsBlock file text document (string_bytes b)) blocks block h.each
          (record {
            fault = fault;
            place = place;
            entry = entry;
            trouble = trouble;
            of = of;
            there = there;
            holds = holds;
            begins = begins;
          });
    }
