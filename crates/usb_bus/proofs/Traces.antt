-- How what went between states of a bus joins.
use Rattle.std.proofs.Common.{◌≡◌, ℕ, ◌+◌, ◌≤◌, List, Option, sym, subst}
use Rattle.usb_port.specs.{PortCall, set_call, clear_call, IsSetFeature, IsClearFeature}
use Rattle.usb_port.proofs.Interface.{call_is}
use Rattle.usb_world.specs.{World, SetsRoot, ClearsRoot, after, root_call}
use Rattle.usb_world.proofs.Interface.{spends_none, spends_then, spends_wider}
use Rattle.usb_bus.specs.{Traced, still, attempted, called, StepRun}

pub traced_then : {a b : World} {t r : Option (List ℕ)} {c : World} {s : Option (List ℕ)}
    → Traced a t b r → Traced b r c s → Traced a t c s
traced_then x still = x
traced_then x (attempted at result fits before made) =
    attempted at result fits (traced_then x before) made
traced_then x (called call port before) = called call port (traced_then x before)

pub went_none : {a : World} {t : Option (List ℕ)} → StepRun 0 a t a t
went_none {a} = record { spends = spends_none a; traced = still }

pub went_then : (m n : ℕ) {a b c : World} {t r s : Option (List ℕ)} → StepRun m a t b r
    → StepRun n b r c s → StepRun (m + n) a t c s
went_then m n {a} {b} {c} p q = record {
  spends = spends_then m n a b c p.spends q.spends;
  traced = traced_then p.traced q.traced;
}

pub went_wider : (m n : ℕ) {a b : World} {t s : Option (List ℕ)} → StepRun m a t b s → m ≤ n
    → StepRun n a t b s
went_wider m n {a} {b} p le = record {
  spends = spends_wider m n a b p.spends le;
  traced = p.traced;
}

-- one root call more
called_as : {a b c : World} {t r s : Option (List ℕ)} (call : PortCall) (port : ℕ) → Traced a t b r
    → c ≡ after (root_call call port) b → s ≡ r → Traced a t c s
called_as {a} {b} {c} {t} {r} {s} call port before is silent =
    let P : World → Type 0 = λ w. Traced a t w s in
    let Q : Option (List ℕ) → Type 0 = λ x. Traced a t (after (root_call call port) b) x in
    subst P (sym is) (subst Q (sym silent) (called call port before))

pub traced_set : (port feature : ℕ) {a b c : World} {t r s : Option (List ℕ)} → IsSetFeature feature
    → Traced a t b r → SetsRoot port feature b c → s ≡ r → Traced a t c s
traced_set port feature {a} {b} named before sets silent =
    let (call, found) = call_is (set_call feature) named in
    called_as call port before (sets.step call found) silent

pub traced_cleared : (port feature : ℕ) {a b c : World} {t r s : Option (List ℕ)}
    → IsClearFeature feature → Traced a t b r → ClearsRoot port feature b c → s ≡ r → Traced a t c s
traced_cleared port feature {a} {b} named before clears silent =
    let (call, found) = call_is (clear_call feature) named in
    called_as call port before (clears.step call found) silent
