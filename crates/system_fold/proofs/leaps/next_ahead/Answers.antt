-- What the search leaves open of `leaps::next_ahead`.
use Rattle.std.proofs.Common.{◌∙◌, ap, sym, rules}
use Rattle.std.specs.Prelude.{Option, nat_lt}
use Rattle.system_fold.specs.Leaps.{ahead_of, leap_of}
use Rattle.system_fold.specs.KeptFold.{best_with}
use Rattle.system_fold.specs.declared.leaps.Leap.{Leap}
use Rattle.system_fold.proofs.LeapLaws.{armed-more}
use Rattle.system_fold.proofs.leaps.next_ahead.Goals as goal

pub loop-word-preserved : goal.loop-word-preserved
loop-word-preserved c =
    c.sooner-next.ensures
    ∙ ap (λ (o : Option Leap). best_with (λ y x. nat_lt y.moment x.moment) o c.ahead.result) c.loop-word.invariant
    ∙ ap (best_with (λ y x. nat_lt y.moment x.moment) _) (c.ahead.ensures ∙ ap (ahead_of c.args.now) (c.leap_named.ensures ∙ ap (leap_of c.args.verdict.now) c.word-item.is))
    ∙ sym (armed-more c.args.now c.args.verdict.now c.args.words.now c.loop-word.word-index c.word-item.result (search rules))
