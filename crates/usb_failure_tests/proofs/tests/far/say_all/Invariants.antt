use Rattle.usb_wire.specs.{IsQuestion}
use Rattle.usb_failure_tests.proofs.tests.far.say_all.Given as goal

-- a question is left
abbrev pub invariant-attempts : goal.invariant-attempts
invariant-attempts l = IsQuestion l.asked
