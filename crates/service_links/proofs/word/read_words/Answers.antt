-- The texts so far are the first ones between spaces; each step's text is the next of those.
use Rattle.std.proofs.Common.{◌+◌, length, take, lit<, subst, sym, rules}
use Rattle.std.proofs.lemmas.List.{length_push}
use Rattle.std.proofs.lemmas.Iterator.Consumers.{YieldsList-turn, YieldsList-end}
use Rattle.std.proofs.lemmas.Iterator.Splits.{YieldsList-from_str_split}
use Rattle.service_links.specs.Words.{AreWords, Follows, IsBad, texts_in}
use Rattle.service_links.proofs.WordLaws.{next_word, next_bad, all_words}
use Rattle.service_links.proofs.word.read_words.Goals as goal

pub loop-part-preserved : goal.loop-part-preserved
loop-part-preserved c =
    let turn = YieldsList-turn (YieldsList-from_str_split 32 c.args.text.now (lit< tt) (cc) (cc) (cc)) c.loop-part.yielded _ c.loop-part.yielded_by _ _ c.in-Some.part c.in-Some.is c.next.ensures.steps in
    let follows : Follows c.loop-part.words.items c.in-Ok.word c.in-Some.part.now = search rules in
    record {
      texts = c.loop-part.invariant.texts;
      words = subst (λ n. AreWords c.args.words.items (take n (texts_in c.args.text.now)) c.push.new.self.items) (sym (length_push c.loop-part.yielded c.in-Some.part))
          (subst (λ ws. AreWords c.args.words.items (take (length c.loop-part.yielded + 1) (texts_in c.args.text.now)) ws) (sym c.in_ok-push-in-Ok.ensures.items)
          (next_word _ _ _ _ _ c.in-Ok.word _ c.loop-part.invariant.texts turn c.loop-part.invariant.words follows));
    }

pub returns-in-Err : goal.returns-in-Err
returns-in-Err c =
    let turn = YieldsList-turn (YieldsList-from_str_split 32 c.args.text.now (lit< tt) (cc) (cc) (cc)) c.loop-part.yielded _ c.loop-part.yielded_by _ _ c.in-Some.part c.in-Some.is c.next.ensures.steps in
    let bad : IsBad c.loop-part.words.items c.in-Some.part.now c.in-Err.fault = search rules in
    next_bad _ _ _ _ _ _ _ c.loop-part.invariant.texts turn c.loop-part.invariant.words bad

pub returns : goal.returns
returns c =
    let end = YieldsList-end (YieldsList-from_str_split 32 c.args.text.now (lit< tt) (cc) (cc) (cc)) c.loop-part.yielded _ c.loop-part.yielded_by _ _ c.in-None.is c.next.ensures.steps in
    all_words _ _ _ _ _ c.loop-part.invariant.texts end.1 c.loop-part.invariant.words
