use Rattle.usb_enum.specs.{IsStarted, Stalled, CauseAllowedAtStart, lacks_power, TellsPorts}
use Rattle.usb_enum.specs.{strings_by, texts_bound, hub_bound, strings_bound, configured_by}
use Rattle.usb_enum.proofs.stops.PlainStops.{answered_plain, deep_stop_fits, hub_stop_fits}
use Rattle.usb_enum.proofs.stops.PlainStops.{plain_stop_fits, deep_is}
use Rattle.std.proofs.Common.{◌∙◌, ◌≢◌, ◌<◌, ℕ, ◌+◌, ◌≤◌, ap, arith, refl, subst, sym, rules}
use Rattle.usb_enum.proofs.readings.SettingValues.{text_at}
use Rattle.usb_descriptor.specs.{configuration_value}
use Rattle.usb_enum.proofs.refusals.Refusals.{answered_ok, failed}
use Rattle.usb_enum.proofs.readings.Settings.{deep_refused, read_refused, power_refused}
use Rattle.usb_enum.proofs.readings.Settings.{set_refused, hub_refused, strings_refused}
use Rattle.usb_enum.proofs.readings.Settings.{set_learned, set_then, set_wider}
use Rattle.usb_bus.proofs.Interface.{went_then}
use Rattle.usb_enum.proofs.devices.Frames.{sets_asked, sets_at, sets_told}
use Rattle.usb_enum.proofs.Parts.{gone_as, gone_joined, gone_none, gone_set, gone_stopped}
use Rattle.usb_enum.proofs.Parts.{gone_then, gone_wider, setting}
use Rattle.usb_enum.proofs.courses.Courses.{went_steps}
use Rattle.usb_enum.proofs.ports.Powers.{configured_below}
use Rattle.usb_enum.proofs.readings.TextLengths.{few_then, few_wider}
use Rattle.usb_enum.specs.declared.cause.Request.TheVariants.{SetConfig}
use Rattle.usb_enum.proofs.stops.Reasons.{told_after, write_stop_told}
use Rattle.usb_enum.proofs.stops.Stops.{fits_stop, hub_stops, stops_by, texts_stops}
use Rattle.usb_transfer.specs.{write_bound}
use Rattle.usb_enum.proofs.enumeration.configure.Goals as goal

all_within : (most : ℕ) → texts_bound most + (write_bound + hub_bound + strings_bound)
    ≤ configured_by most
all_within most = omega arith

pub returns-in_err-fits_tier : goal.returns-in_err-fits_tier
returns-in_err-fits_tier g c =
    let device = c.args.device in
    let deep = sym c.in_err-fits_tier.ensures in
    rw (failed c.from_residual.result c.from_residual.ensures.1) (record {
      whole = deep_stop_fits _ device.bytes _ deep;
      part = record {
        gone = gone_stopped (gone_none _ (setting _)) (rw (deep_is _ device.bytes _ deep).0 tt);
        ends = λ known. record {
          told = fits_stop _ _ _ _ _ _ _ deep;
          so = deep_refused device.target c.args.place.options c.args.place.tier
              c.args.place.supply device.bytes c.in_err-fits_tier.field-0.0
              (g.B.Bus.world c.args.bus.now) deep;
        };
      };
      few = search rules;
    })

pub returns-in_err-configs : goal.returns-in_err-configs
returns-in_err-configs g c =
    let device = c.args.device in
    let read = c.in_err-configs.ensures.read in
    rw (failed c.from_residual-in_err-configs.result c.from_residual-in_err-configs.ensures.1)
    (record {
      whole = plain_stop_fits _ _ c.in_err-configs.ensures.all;
      part = record {
        gone = gone_wider (gone_as (sets_asked _) read.gone) (omega arith);
        ends = λ known. record {
          told = texts_stops _ _ _ _ _ _ _ _ (read.ends known).told;
          so = read_refused device.target c.args.place.options c.args.place.tier
              c.args.place.supply device.bytes (sym c.in_ok-fits_tier.ensures) _
              c.in_err-configs.field-0.0 (g.B.Bus.world c.args.bus.now)
              (g.B.Bus.world c.read_configurations.new.bus) c.configurations.ensures
              (read.ends known).so;
        };
      };
      few = λ known. few_wider _ (c.read_configurations.ensures.few known) (λ most. omega arith);
    })

pub returns-in_default : goal.returns-in_default
returns-in_default g c =
    let device = c.args.device in
    let none = sym c.choose_configuration.ensures.chosen ∙ c.in_default.is in
    let read = c.in_ok-configs.ensures.read in
    record {
      whole = search rules;
      part = record {
        gone = gone_stopped (gone_wider (gone_as (sets_asked _) read.gone) (omega arith)) tt;
        ends = λ known. record {
          told = record {
            fits = tt;
            because = lacks_power _ (record {
              asked = (read.ends known).told;
              all = c.in_ok-configs.ensures.all.0 ∙ c.configurations.ensures;
            }) none;
          };
          so = power_refused device.target c.args.place.options c.args.place.tier
              c.args.place.supply device.bytes (sym c.in_ok-fits_tier.ensures) _
              (g.B.Bus.world c.args.bus.now) (g.B.Bus.world c.read_configurations.new.bus) none
              (rw c.configurations.ensures at (read.ends known).so);
        };
      };
      few = λ known. few_wider _ (c.read_configurations.ensures.few known) (λ most. omega arith);
    }

pub returns-in_err-answered_or : goal.returns-in_err-answered_or
returns-in_err-answered_or g c =
    let device = c.args.device in
    let t = device.target in
    let set = c.set_configuration.ensures in
    let inside = rw c.in-Some.is at c.choose_configuration.ensures.inside in
    let chosen = text_at _ _ _ _ c.index-as_slice-chosen.is c.as_slice.ensures inside in
    let read = c.in_ok-configs.ensures.read in
    rw
    (failed c.from_residual-in_err-answered_or.result c.from_residual-in_err-answered_or.ensures.1)
    (record {
      whole = plain_stop_fits _ _
          (answered_plain (Stalled SetConfig) _ _ tt c.in_err-answered_or.ensures);
      part = record {
        gone = gone_as (sets_at c.requires) (gone_then (setting t.addr)
            (gone_as (sets_asked _) read.gone) (gone_set _ c.in_err-answered_or.ensures set.uses
            set.ordered set.what set.keeps) (omega arith));
        ends = λ known.
            let went = (read.gone.steps known).went in
            record {
              told = stops_by _ _ _ _ _ _ _ _ (told_after _ t _ went.led
                  (write_stop_told SetConfig _ (c.value-value.result, refl)
                  c.in_err-answered_or.ensures (set.ordered known)));
              so = set_refused t c.args.place.options c.args.place.tier c.args.place.supply
                  device.bytes (sym c.in_ok-fits_tier.ensures) _ c.in-Some.chosen
                  (sym c.choose_configuration.ensures.chosen ∙ c.in-Some.is) c.value-value.result
                  inside (c.value-value.ensures ∙ ap configuration_value chosen) (omega arith)
                  (λ z. omega (arith, z, c.requires)) c.set_configuration.result _
                  (rw c.configurations.ensures at (read.ends known).so) went
                  (went_steps (set.uses.steps known)) c.in_err-answered_or.ensures (set.what known)
                  (set.why known);
            };
      };
      few = λ known. few_then _ (c.read_configurations.ensures.few known)
          (set.uses.steps known) (λ most. omega arith);
    })

pub returns-in_err-hub : goal.returns-in_err-hub
returns-in_err-hub g c =
    let device = c.args.device in
    let t = device.target in
    let stop = c.in_err-hub.field-0.0 in
    let byte : c.value-value.result < 256 = omega arith in
    let some : t.addr ≢ 0 = λ z. omega (arith, z, c.requires) in
    let within : (most : ℕ) → texts_bound most + (write_bound + hub_bound) ≤ configured_by most =
    λ most. omega arith in
    let configs = c.in_ok-configs.configs in
    let fits = sym c.in_ok-fits_tier.ensures in
    let choice = sym c.choose_configuration.ensures.chosen ∙ c.in-Some.is in
    let set = rw (answered_ok _ c.in_ok-answered_or.ensures) at c.set_configuration.ensures in
    let inside = rw c.in-Some.is at c.choose_configuration.ensures.inside in
    let chosen = text_at _ _ _ _ c.index-as_slice-chosen.is c.as_slice.ensures inside in
    let same_text = text_at _ _ _ _ c.index-as_slice-chosen-2.is c.as_slice-2.ensures inside in
    let old = g.B.Bus.world c.args.bus.now in
    let mid = g.B.Bus.world c.read_configurations.new.bus in
    let before = g.B.Bus.world c.set_configuration.new.bus in
    let asked = g.B.Bus.world c.hub_facts.new.bus in
    let read = c.in_ok-configs.ensures.read in
    let hub = c.in_err-hub.ensures.part in
    let is_hub = c.in_err-hub.ensures.hub.0 in
    let gone = gone_joined (setting t.addr) (gone_as (sets_asked _) read.gone)
    (gone_set (Stalled SetConfig) refl set.uses set.ordered set.what set.keeps) in
    rw (failed c.from_residual-in_err-hub.result c.from_residual-in_err-hub.ensures.1) (record {
      whole = hub_stop_fits _ device.bytes _ fits is_hub c.in_err-hub.ensures.hub.1;
      part = record {
        gone = gone_as (sets_at c.requires) (gone_then (setting t.addr) gone
            (gone_as (sets_told _) hub.gone) (omega arith));
        ends = λ known. record {
          told = hub_stops t device.bytes c.args.place.options c.args.place.tier
              c.args.place.supply stop asked fits is_hub (record {
                asked = (read.ends known).told;
                all = c.in_ok-configs.ensures.all.0 ∙ c.configurations.ensures;
              }) c.in-Some.chosen choice (read.gone.steps known).went.led
              (went_steps (set.uses.steps known)).led (subst (λ text. CauseAllowedAtStart
              c.args.place.options.wide_hubs t text stop before asked) same_text
              (hub.ends known).told);
          so = hub_refused t c.args.place.options c.args.place.tier c.args.place.supply
              device.bytes fits configs c.in-Some.chosen choice c.value-value.result inside
              (c.value-value.ensures ∙ ap configuration_value chosen) byte some _
              stop is_hub (set_learned (rw c.configurations.ensures at (read.ends known).so)
              (went_steps (set.uses.steps known)) (set.what known))
              (gone.steps known).went (hub.gone.steps known).went same_text (hub.ends known).so;
        };
      };
      few = λ known. few_then _ (c.read_configurations.ensures.few known) (went_then _ _
          (set.uses.steps known) (hub.gone.steps known).run) within;
    })

pub returns-in_err-strings : goal.returns-in_err-strings
returns-in_err-strings g c =
    let old = g.B.Bus.world c.args.bus.now in
    let mid = g.B.Bus.world c.read_configurations.new.bus in
    let before = g.B.Bus.world c.set_configuration.new.bus in
    let asked = g.B.Bus.world c.hub_facts.new.bus in
    let device = c.args.device in
    let t = device.target in
    let set = rw (answered_ok _ c.in_ok-answered_or.ensures) at c.set_configuration.ensures in
    let read = c.in_ok-configs.ensures.read in
    let hub = c.in_ok-hub.ensures.part in
    let strings = c.in_err-strings.ensures.read in
    let gone = gone_joined (setting t.addr) (gone_joined (setting t.addr)
    (gone_as (sets_asked _) read.gone)
    (gone_set (Stalled SetConfig) refl set.uses set.ordered set.what set.keeps))
    (gone_as (sets_told _) hub.gone) in
    rw (failed c.from_residual-in_err-strings.result c.from_residual-in_err-strings.ensures.1)
    (record {
      whole = plain_stop_fits _ _ c.in_err-strings.ensures.plain;
      part = record {
        gone = gone_as (sets_at c.requires) (gone_then (setting t.addr) gone
            (gone_as (sets_asked _) strings.gone) (omega arith));
        ends = λ known.
            let went = (gone.steps known).went in
            record {
              told = stops_by _ _ _ _ _ _ _ _ (told_after _ t _ went.led (strings.ends known).told);
              so = strings_refused t c.args.place.options c.args.place.tier c.args.place.supply
                  device.bytes _ (set_then
                  (set_learned (read.ends known).so (went_steps (set.uses.steps known))
                  (set.what known)) (hub.gone.steps known).went (hub.ends known).learned)
                  went (strings.gone.steps known).went (strings.ends known).so;
            };
      };
      few = λ known. few_then _ (c.read_configurations.ensures.few known) (went_then _ _
          (went_then _ _ (set.uses.steps known) (hub.gone.steps known).run)
          (strings.gone.steps known).run) all_within;
    })

pub returns : goal.returns
returns g c =
    let t = c.args.device.target in
    let set = rw (answered_ok _ c.in_ok-answered_or.ensures) at c.set_configuration.ensures in
    let inside = rw c.in-Some.is at c.choose_configuration.ensures.inside in
    let chosen = text_at _ _ _ _ c.index-as_slice-chosen.is c.as_slice.ensures inside in
    let same_text = text_at _ _ _ _ c.index-as_slice-chosen-2.is c.as_slice-2.ensures inside in
    let read = c.in_ok-configs.ensures.read in
    let hub = c.in_ok-hub.ensures.part in
    let strings = c.in_ok-strings.ensures.read in
    let gone = gone_joined (setting t.addr) (gone_joined (setting t.addr)
    (gone_as (sets_asked _) read.gone)
    (gone_set (Stalled SetConfig) refl set.uses set.ordered set.what set.keeps))
    (gone_as (sets_told _) hub.gone) in
    record {
      whole = search rules;
      part = record {
        gone = gone_as (sets_at c.requires) (gone_then (setting t.addr) gone
            (gone_as (sets_asked _) strings.gone) (omega arith));
        ends = λ known.
            let first = read.gone.steps known in
            let started = hub.ends known in
            let last = strings.gone.steps known in
            record {
              address = sym c.requires;
              low = refl;
              bytes = refl;
              fits = sym c.in_ok-fits_tier.ensures;
              served = subst (λ a. IsStarted a c.in_ok-hub.hub) c.requires started.served;
              learned = set_wider (g.B.Bus.world c.read_strings.new.bus)
                  (set_then (set_then (set_learned
                  (rw c.configurations.ensures at (read.ends known).so)
                  (went_steps (set.uses.steps known)) (set.what known))
                  (hub.gone.steps known).went started.learned) last.went (strings.ends known).so)
                  (c.value-value.ensures ∙ ap configuration_value chosen) (λ spec so max. record {
                    configs = so.0.0.0 max;
                    allowed = so.0.0.1;
                    ports = subst (λ text. TellsPorts c.args.place.options.wide_hubs text
                        c.in_ok-hub.hub spec) same_text (so.0.1 max);
                    strings = so.1 max ∙ ap (strings_by spec) c.string_indexes.ensures;
                  });
              below = record {
                empty = configured_below _ _ first.went first.keeps.addresses
                    (went_steps (set.uses.steps known)) (set.ordered known) (set.what known)
                    (set.keeps known) started.started last.keeps;
              };
              strings = record {
                before = g.B.Bus.world c.hub_facts.new.bus;
                led = (gone.steps known).went.led;
                read = rw c.string_indexes.ensures at (strings.ends known).told;
              };
            };
      };
      few = λ known. few_then _ (c.read_configurations.ensures.few known) (went_then _ _
          (went_then _ _ (set.uses.steps known) (hub.gone.steps known).run)
          (strings.gone.steps known).run) all_within;
    }
