use Rattle.std.proofs.Common.{subst}
use Rattle.usb_judge.specs.{Scene, Judges}
use Rattle.usb_bench_laws.proofs.RightListings.{right_in}
use Rattle.usb_bench_laws.proofs.listing_laws.own_listings_stand.Goals as goal

-- scenes that are the same path by path are one
pub returns : goal.returns
returns c options w entries sane paths m listing says plugged same judgements h =
    (subst (λ (scene : Scene). Judges scene listing judgements) (λ i path. same path i) h).right.1
    (right_in options w entries sane paths m listing says)
