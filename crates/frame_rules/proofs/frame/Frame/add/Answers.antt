-- What the proof of `frame::Frame::add` needs.
use Rattle.std.proofs.Common.{ap, not, ◌∙◌, ◌||◌}
use Rattle.frame_rules.specs.Fields.{has_a, has_b}
use Rattle.tick_units.specs.Marks.{is_long}
use Rattle.frame_rules.proofs.AddingLaws.{after_full, after_kept, count_full, count_kept, last_added, spacing_added, width_added, word_full, word_kept}
use Rattle.frame_rules.proofs.frame.Frame.add.Goals as goal

pub returns-then-self-lt-KEPT_PLACES : goal.returns-then-self-lt-KEPT_PLACES
returns-then-self-lt-KEPT_PLACES g c = λ marks h.
    let frame = c.args.self.now in
    let mark = c.args.mark in
    let lt = c.if-self-lt-KEPT_PLACES.true in
    let count = count_kept frame marks mark h lt in
    record {
      count = count;
      bits_a = word_kept frame marks mark h lt has_a _ _ _ h.bits_a c.with_bit-self.ensures c.is_in.ensures;
      bits_b = word_kept frame marks mark h lt has_b _ _ _ h.bits_b c.with_bit-self-then-self-lt-KEPT_PLACES.ensures c.is_in-then-self-lt-KEPT_PLACES.ensures;
      longs = word_kept frame marks mark h lt is_long _ _ _ h.longs c.with_bit-self-then-self-lt-KEPT_PLACES-2.ensures c.is_long-long.ensures;
      long_after = after_kept frame marks mark h lt;
      spacing = spacing_added frame marks mark h _ _ _ (c.last.ensures marks h) (ap not c.is_near-far.ensures) c.raise.ensures;
      width = width_added frame marks mark h _ _ c.is_odd.ensures c.raise-2.ensures;
      last = last_added _ marks mark count;
    }

pub returns-else-self-lt-KEPT_PLACES : goal.returns-else-self-lt-KEPT_PLACES
returns-else-self-lt-KEPT_PLACES g c = λ marks h.
    let frame = c.args.self.now in
    let mark = c.args.mark in
    let le = c.if-self-lt-KEPT_PLACES.false in
    let count = count_full frame marks mark h le in
    record {
      count = count;
      bits_a = word_full frame marks mark h le has_a _ h.bits_a;
      bits_b = word_full frame marks mark h le has_b _ h.bits_b;
      longs = word_full frame marks mark h le is_long _ h.longs;
      long_after = after_full frame marks mark h le _ (c.raise-else-self-lt-KEPT_PLACES.ensures ∙ ap (λ b. frame.long_after || b) c.is_long-long.ensures);
      spacing = spacing_added frame marks mark h _ _ _ (c.last.ensures marks h) (ap not c.is_near-far.ensures) c.raise.ensures;
      width = width_added frame marks mark h _ _ c.is_odd.ensures c.raise-2.ensures;
      last = last_added _ marks mark count;
    }
