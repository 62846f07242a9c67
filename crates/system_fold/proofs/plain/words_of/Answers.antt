-- What the search leaves open of `plain::words_of`.
use Rattle.std.proofs.Common.{◌∙◌, arith}
use Rattle.std.proofs.lemmas.List.{length-set}
use Rattle.system_fold.proofs.PlainLaws.{words-all, words-more}
use Rattle.system_fold.proofs.plain.words_of.Goals as goal

pub loop-feed-preserved : goal.loop-feed-preserved
loop-feed-preserved c =
    let sixteen = c.loop-feed.invariant.0 in (
      length-set c.loop-feed.words c.loop-feed.feed c.word_of.result ∙ c.loop-feed.invariant.0,
      words-more c.args.journal.now c.loop-feed.words c.loop-feed.feed c.word_of.result (omega arith) c.loop-feed.invariant.1 c.word_of.ensures,
    )

pub returns : goal.returns
returns c = words-all c.args.journal.now c.loop-feed.words c.loop-feed.feed c.loop-feed.invariant.0 (omega arith) c.loop-feed.invariant.1
