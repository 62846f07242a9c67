-- MSF as a code plan (NPL). It announces no leap second.
use Rattle.std.specs.Prelude.{false, true}
use Rattle.frame_rules.specs.Codes.{Code}
use Rattle.plan_msf.specs.Fields.{coded}
use Rattle.plan_msf.specs.Marks.{symbol_of, are_parts, begins_minute}
use Rattle.plan_msf.specs.Rules.{first, rules}

abbrev pub msf_code : Code
msf_code = record {
  symbol = symbol_of;
  has_parts = true;
  are_parts = are_parts;
  begins_minute = begins_minute;
  has_leap_second = λ marks. false;
  rules = rules;
  first = first;
  coded = coded;
}
