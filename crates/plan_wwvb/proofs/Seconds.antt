-- The minute in which a segment is sent, the one after it, and the leap second.
use Rattle.std.proofs.Common.{◌≡◌, ◌≢◌, ℕ, ◌+◌, ◌%◌, ◌<◌, ◌≤◌, Some, None, false, arith}
use Rattle.std.specs.Prelude.{if◌then◌else◌}
use Rattle.frame_rules.proofs.Meanings.{found_is}
use Rattle.civil_frame.specs.Seconds.{IsDated}
use Rattle.plan_wwvb.specs.Fields.{sent_start}
use Rattle.plan_wwvb.specs.Rules.{names_minute}
use Rattle.plan_wwvb.specs.declared.fields.OrdinalTime.{OrdinalTime}

sent_start-whole : (ordinal : OrdinalTime) → sent_start ordinal % 60 ≡ 0
unfolding sent_start
sent_start-whole ordinal = omega arith

pub sent-whole : (ordinal : OrdinalTime) (second : ℕ) → Some second ≡ (if names_minute ordinal then Some (sent_start ordinal) else None) → second % 60 ≡ 0
sent-whole ordinal second e =
    let found = found_is (names_minute ordinal) (sent_start ordinal) second e in
    omega (arith, sent_start-whole ordinal, found.1)

-- the minute after one of the years 2000 to 2099
pub dated : (second leap_at : ℕ) → second % 60 ≡ 0 → (3155673600 ≤ second) × (second < 6311433600) → (leap_at ≢ 0 → (second + 60 ≤ leap_at) × (leap_at ≤ 6311433600)) → IsDated 3155673660 6311433660 (record { minute = second + 60; leap_at = leap_at; summer = false })
dated second leap_at whole within leap = record {
  whole = omega (arith, whole);
  from = omega (arith, within);
  below = omega (arith, within);
  leap = leap;
}
