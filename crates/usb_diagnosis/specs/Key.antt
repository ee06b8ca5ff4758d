-- The keys of a plan.
use Rattle.std.specs.Prelude.{ℕ, List}
use Rattle.usb_diagnosis.specs.declared.key.PlanKey.{PlanKey}

-- the key as a plan spells it
abbrev pub key_name : PlanKey → List ℕ
key_name key = key.name.now
