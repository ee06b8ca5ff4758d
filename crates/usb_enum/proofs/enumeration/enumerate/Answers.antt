use Rattle.std.proofs.Common.{◌≡◌, arith, inl, inr, refl, subst, rules}
use Rattle.usb_enum.specs.declared.finding.Finding.TheVariants.{Device}
use Rattle.usb_enum.proofs.stops.PlainStops.{fits_found, said_given, said_without, without_found}
use Rattle.usb_enum.proofs.stops.PlainStops.{stopped_works}
use Rattle.usb_enum.proofs.devices.SaidBytes.{said_found, said_on}
use Rattle.usb_bus.proofs.Interface.{went_wider}
use Rattle.usb_hub.proofs.Interface.{is_asked_stays}
use Rattle.usb_enum.proofs.courses.Courses.{went_on_more, went_steps}
use Rattle.usb_port.specs.{HasAddresses, IsFull}
use Rattle.usb_enum.proofs.stops.Endings.{zero_untaken, zero_before, free_untaken, enumerated}
use Rattle.usb_enum.proofs.stops.Endings.{found_true, device_placed, few_made, few_unaddressed}
use Rattle.usb_enum.proofs.stops.Endings.{stopped_ends}
use Rattle.usb_enum.specs.{unaddressed_fault, whole_fault}
use Rattle.usb_enum.proofs.refusals.Warrants.{unaddressed_right, whole_right}
use Rattle.usb_enum.proofs.stops.Stops.{given_told, gives_reason, stopped_reasoned, stopped_without}
use Rattle.usb_enum.proofs.stops.Stops.{without_reasoned}
use Rattle.std.proofs.lemmas.Result.{MatchResult-from_both}
use Rattle.usb_enum.proofs.enumeration.enumerate.Goals as goal

pub returns-in_default : goal.returns-in_default
returns-in_default g c =
    let pool = c.args.pool.now in
    let zero = zero_untaken pool
    (subst HasAddresses c.in_default.ensures.none.1 c.take.ensures.range) in
    record {
      uses = record {
        spends = search rules;
        told = c.give_up.ensures.uses.told c.without_address-stop.ensures.part.gone.told;
        steps = λ known. went_on_more _ (c.without_address-stop.ensures.part.gone.steps known).run
            (c.give_up.ensures.uses.steps known) (omega arith);
      };
      told = λ known.
          let stops = c.without_address-stop.ensures.part.ends known in
          let closing = went_steps (c.give_up.ensures.uses.steps known) in
          let told = stopped_without _ _ _ _ stops.stops.told in
          MatchResult-from_both c.give_up.result _ _ (said_found c.args.pool.now
          c.give_up.result (said_given c.without_address-stop.result c.give_up.result _
          c.give_up.ensures.hands
          (said_without c.without_address-stop.result _ c.without_address-stop.ensures.without)) (
            0,
            (inl refl, said_on (rw c.clear.ensures at stops.said) closing.led),
          )) (given_told _ _ _ _ c.give_up.result (λ why is. rw is at told)
          (c.give_up.ensures.left known).left);
      pool = search rules;
      found = without_found c.args.pool.now c.args.place.options c.args.place.tier
          c.args.place.supply c.without_address-stop.result c.give_up.result
          c.in_default.ensures.none.0 c.give_up.ensures.hands
          c.without_address-stop.ensures.without;
      ends = λ known.
          let steps = c.without_address-stop.ensures.part.gone.steps known in
          let stops = (c.without_address-stop.ensures.part.ends known).stops in
          let closed = c.give_up.ensures.uses.steps known in
          let closing = went_steps closed in
          let left = (c.give_up.ensures.left known).left in
          stopped_ends _ pool 0 zero zero unaddressed_fault _ _ _ _ _ _ _ _ steps.went closing
          steps.keeps stops.so ((c.give_up.ensures.left known).closes 0) left
          (unaddressed_right (IsFull pool) c.in_default.ensures.none.0 _ _ _) (gives_reason _ pool _
          _ _ c.without_address-stop.result c.give_up.result steps.went.led
          closing.led (without_reasoned _ pool _ _ _ c.without_address-stop.result _ _
          c.in_default.ensures.none.0 stops.told) left)
          (few_unaddressed _ pool steps.run closed) (stopped_works
          c.without_address-stop.result c.give_up.result (g.B.Bus.world c.args.bus.now)
          (g.B.Bus.world c.without_address-stop.new.bus) (g.B.Bus.world c.give_up.new.bus)
          c.give_up.ensures.hands (c.without_address-stop.ensures.part.gone.works known)
          (c.give_up.ensures.works known));
    }

pub returns-in-Ok : goal.returns-in-Ok
returns-in-Ok g c =
    let port = c.args.port in
    let pool = c.args.pool.now in
    let a = c.in-Some.address in
    let zero = zero_before _ _ _ c.in-Some.ensures.some c.take.ensures.range in
    let free = free_untaken _ _ _ c.in-Some.ensures.some in
    record {
      uses = record {
        spends = search rules;
        told = tt;
        steps = λ known. went_wider _ _ (c.examine.ensures.part.gone.steps known).run (omega arith);
      };
      told = λ known. record {
        whole = c.in-Ok.ensures.whole.2;
        read = (
          c.in-Some.address,
          (
            inr c.in-Some.ensures.some.free,
            rw c.clear.ensures at (c.in-Ok.ensures.made known).said,
          ),
        );
      };
      pool = search rules;
      found = c.in-Ok.ensures.whole.1;
      ends = λ known.
          let examined = c.in-Ok.ensures.part in
          let found = examined.ends known in
          record {
            addresses = enumerated port pool a zero free _ c.in-Ok.ensures.whole.0 found.takes
                (examined.gone.steps known).keeps.only;
            own = found_true port pool a zero free _ _ _ _ found.own;
            places = device_placed port pool a zero free _ found.reaches
                (λ f p is t order occupied none. found.below f p is t order none);
            warrants = record {
              cause = λ f p fair cause s e. absurd cc;
              parent = λ f p fair e. absurd cc;
            };
            ended = tt;
            few = few_made port pool a zero free _ (c.examine.ensures.made known).few (omega arith);
            strings = λ other e.
                let same : other ≡ c.in-Ok.device = cc in
                rw same found.strings;
            left = λ finding e.
                let same : finding ≡ Device c.in-Ok.device = cc in
                rw same found.served;
            works = examined.gone.works known tt;
          };
    }

pub returns-in-Err : goal.returns-in-Err
returns-in-Err g c =
    let pool = c.args.pool.now in
    let taken = c.in-Some.ensures.some in
    let zero = zero_before _ _ _ taken c.take.ensures.range in
    let free = free_untaken _ _ _ taken in
    record {
      uses = record {
        spends = search rules;
        told = c.give_up-finding.ensures.uses.told c.in-Err.ensures.part.gone.told;
        steps = λ known. went_on_more _ (c.examine.ensures.part.gone.steps known).run
            (c.give_up-finding.ensures.uses.steps known) (omega arith);
      };
      told = λ known.
          let closing = went_steps (c.give_up-finding.ensures.uses.steps known) in
          MatchResult-from_both c.give_up-finding.result _ _ (said_found c.args.pool.now
          c.give_up-finding.result (said_given c.in-Err.stop c.give_up-finding.result _
          c.give_up-finding.ensures.hands c.in-Err.ensures.whole.1) (
            c.in-Some.address,
            (
              inr c.in-Some.ensures.some.free,
              said_on (rw c.clear.ensures at (c.in-Err.ensures.made known).said) closing.led,
            ),
          )) (given_told _ c.in-Err.stop _ _ c.give_up-finding.result
          (λ why is. rw is at (c.in-Err.ensures.part.ends known).told.fits)
          (c.give_up-finding.ensures.left known).left);
      pool = search rules;
      found = fits_found c.args.pool.now c.args.place.options c.args.place.tier c.args.place.supply
          c.in-Err.stop c.give_up-finding.result c.give_up-finding.ensures.hands
          c.in-Err.ensures.whole.0;
      ends = λ known.
          let examined = c.in-Err.ensures.part in
          let steps = examined.gone.steps known in
          let stops = examined.ends known in
          let closed = c.give_up-finding.ensures.uses.steps known in
          let closing = went_steps closed in
          let left = (c.give_up-finding.ensures.left known).left in
          stopped_ends _ pool _ zero free (whole_fault _ _ _) _ _ _ _ _ _ _ _ steps.went closing
          steps.keeps stops.so ((c.give_up-finding.ensures.left known).closes _) left
          (whole_right (IsFull pool) _ _ _) (gives_reason _ pool _ _ _ c.in-Err.stop
          c.give_up-finding.result steps.went.led closing.led
          (stopped_reasoned _ pool _ _ _ _ c.in-Err.stop _ _ taken.free stops.told.because) left)
          (few_made _ pool _ zero free _ (c.examine.ensures.made known).few closed.spends.most)
          (stopped_works c.in-Err.stop c.give_up-finding.result (g.B.Bus.world c.args.bus.now)
          (g.B.Bus.world c.examine.new.bus) (g.B.Bus.world c.give_up-finding.new.bus)
          c.give_up-finding.ensures.hands (examined.gone.works known)
          (c.give_up-finding.ensures.works known));
    }

pub give_up-requires : goal.give_up-requires
give_up-requires g c =
    is_asked_stays _ _ _ _ _
    (λ known. (c.without_address-stop.ensures.part.gone.steps known).run.spends) c.requires.port

pub give_up-finding-requires : goal.give_up-finding-requires
give_up-finding-requires g c =
    is_asked_stays _ _ _ _ _ (λ known. (c.examine.ensures.part.gone.steps known).run.spends)
    c.requires.port
