-- WWVB as a code plan (NIST SP 432). Each second has one reduction, and no segment a mark more for a leap second.
use Rattle.std.specs.Prelude.{false}
use Rattle.frame_rules.specs.Codes.{Code}
use Rattle.plan_wwvb.specs.Fields.{coded}
use Rattle.plan_wwvb.specs.Marks.{symbol_of, begins_minute}
use Rattle.plan_wwvb.specs.Rules.{first, rules}

abbrev pub wwvb_code : Code
wwvb_code = record {
  symbol = symbol_of;
  has_parts = false;
  are_parts = λ r next. false;
  begins_minute = begins_minute;
  has_leap_second = λ marks. false;
  rules = rules;
  first = first;
  coded = coded;
}
