-- What the search leaves open of `whole::whole_number`.
use Rattle.std.proofs.Common.{None}
use Rattle.decimal_text.proofs.WholeLaws.{every_none, every_some, said_all, small_all, value_is}
use Rattle.decimal_text.proofs.whole.whole_number.Goals as goal

pub returns-in-Some : goal.returns-in-Some
returns-in-Some c =
    let begins = c.in-Some.ensures.number in
    let all_said = said_all c.args.text.now c.args.most c.in-Some.number c.all_of.result begins c.all_of.ensures in
    let all_small = small_all c.args.text.now c.args.most c.in-Some.number c.all_of.result begins c.all_of.ensures in
    record {
      said = all_said;
      small = all_small;
      every = λ n less e. every_some c.args.text.now c.args.most n c.first_number.result c.in-Some.number c.all_of.result c.first_number.ensures.every c.in-Some.is c.all_of.ensures less e;
      value = value_is c.args.text.now c.args.most c.all_of.result c.requires all_said all_small (λ n less e. every_some c.args.text.now c.args.most n c.first_number.result c.in-Some.number c.all_of.result c.first_number.ensures.every c.in-Some.is c.all_of.ensures less e);
    }

pub returns-in-None : goal.returns-in-None
returns-in-None c = record {
  said = tt;
  small = tt;
  every = λ n less e. every_none c.args.text.now c.args.most n c.first_number.result None c.first_number.ensures.every c.in-None.is less e;
  value = value_is c.args.text.now c.args.most None c.requires tt tt (λ n less e. every_none c.args.text.now c.args.most n c.first_number.result None c.first_number.ensures.every c.in-None.is less e);
}
