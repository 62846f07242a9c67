-- DCF77 as a code plan (PTB). Each second has one reduction, and no rule concerns the closing mark.
use Rattle.std.specs.Prelude.{false}
use Rattle.frame_rules.specs.Codes.{Code}
use Rattle.plan_dcf.specs.Fields.{coded}
use Rattle.plan_dcf.specs.Marks.{symbol_of, begins_minute, has_leap_second}
use Rattle.plan_dcf.specs.Rules.{first, rules}

abbrev pub dcf_code : Code
dcf_code = record {
  symbol = symbol_of;
  has_parts = false;
  are_parts = λ r next. false;
  begins_minute = begins_minute;
  has_leap_second = has_leap_second;
  rules = λ marks close. rules marks;
  first = λ marks close. first marks;
  coded = coded;
}
