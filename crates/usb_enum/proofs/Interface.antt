-- The lemmas that crates above cite. All others are for this crate alone.
pub use Rattle.usb_enum.proofs.readings.SettingValues.{AcceptsChosen, HasChosen, accepts}
pub use Rattle.usb_enum.proofs.readings.SettingValues.{chosen_some, has_chosen}
pub use Rattle.usb_enum.proofs.courses.Courses.{orderly_on, regular_order, sound_before}
pub use Rattle.usb_enum.proofs.courses.Courses.{traced_faulted, traced_in_order, went_course}
pub use Rattle.usb_enum.proofs.courses.Courses.{went_in_order, went_sound, went_three}
pub use Rattle.usb_enum.proofs.devices.Frames.{ends_without_fault}
pub use Rattle.usb_enum.proofs.courses.Losses.{IsWorse, course_later, few_before, step_later}
pub use Rattle.usb_enum.proofs.courses.Losses.{worse_steps}
pub use Rattle.usb_enum.proofs.devices.ReachedDevices.{disabled_known, pends_there, some_of}
pub use Rattle.usb_enum.proofs.readings.Readings.{devices_then}
pub use Rattle.usb_enum.proofs.refusals.Refusals.{each_joint}
pub use Rattle.usb_enum.proofs.stops.PlainStops.{at_port_works, ports_reported}
pub use Rattle.usb_enum.proofs.Targets.{device_fits, enumeration_most, order_most, status_most}
pub use Rattle.usb_enum.proofs.readings.Truths.{ruled_there}
pub use Rattle.usb_enum.proofs.verdicts.VerdictExamples.{examples, small, two_ports}
pub use Rattle.usb_enum.proofs.verdicts.VerdictRows.{row_silent}
