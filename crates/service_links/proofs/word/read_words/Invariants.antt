-- What stays true in the loops of `word::read_words`.
use Rattle.std.proofs.Common.{◌≡◌, ◌==◌, length, take}
use Rattle.std.specs.List.{slice_split}
use Rattle.service_links.specs.Words.{AreWords, texts_in}
use Rattle.service_links.proofs.word.read_words.Given as goal

-- the texts so far are words, each of which may follow those before it
abbrev pub invariant-loop-part : goal.invariant-loop-part
invariant-loop-part l = record {
  texts : texts_in l.fn.text ≡ slice_split (λ b. b == 32) l.fn.text;
  words : AreWords l.fn.words.items (take (length l.yielded) (texts_in l.fn.text)) l.words.items;
}
