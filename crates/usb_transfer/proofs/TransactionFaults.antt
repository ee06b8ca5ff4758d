-- The fault of a transfer is that of its last transaction.
use Rattle.std.proofs.Common.{◌≡◌, arith, List, ℕ, Result, Err}
use Rattle.usb_device.specs.{Spec}
use Rattle.usb_transfer.specs.{TransFault, CanAnswer, CanAccept, PipeFault, as_pipe_fault, CanEnd}

abbrev pub FailsWith : (A : Type 0) → PipeFault → PipeFault → Type 0
FailsWith A why fault = ◌≡◌ {A = Result A PipeFault} (Err why) (Err fault)

abbrev pub Fell : TransFault → TransFault → Type 0
Fell why fault = ◌≡◌ {A = Result (List ℕ) TransFault} (Err why) (Err fault)

pub fell_same_fault : (A : Type 0) (why : PipeFault) (fault other : TransFault)
    → why ≡ as_pipe_fault fault → FailsWith A why (as_pipe_fault other) → Fell fault other
fell_same_fault A why fault other told e = grind arith

pub fell : {A : Type 0} (fault other : TransFault)
    → FailsWith A (as_pipe_fault fault) (as_pipe_fault other) → Fell fault other
fell fault other e = grind (arith, fell_same_fault)

-- a device that can answer a transaction so can end the transfer so

abbrev pub CanFail : (A : Type 0) → Spec → PipeFault → Type 0
CanFail A spec why = CanEnd {A = A} spec (Err why)

pub could_answer : (A : Type 0) (spec : Spec) (why : PipeFault) (fault : TransFault)
    → why ≡ as_pipe_fault fault → CanAnswer {A = List ℕ} spec (Err fault) → CanFail A spec why
could_answer A spec why fault told c = grind arith

pub could_accept : (A : Type 0) (spec : Spec) (why : PipeFault) (fault : TransFault)
    → why ≡ as_pipe_fault fault → CanAccept {A = List ℕ} spec (Err fault) → CanFail A spec why
could_accept A spec why fault told c = grind arith
