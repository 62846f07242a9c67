-- What the proof of `reader::LineReader::end_line` needs.
use Rattle.std.proofs.Common.{◌≡◌, ℕ, ◌+◌, ◌∙◌, None, refl, sym, ap, arith}
use Rattle.tick_units.specs.Log.{lines_of, pulses, reduction_of}
use Rattle.pulse_log.specs.Reading.{least_after}
use Rattle.pulse_log.proofs.ValidLaws.{at_least, at_least_none, at_least_low}
use Rattle.pulse_log.proofs.ReaderLaws.{ends_badly, ends_well, line_says, least_is}
use Rattle.pulse_log.proofs.reader.LineReader.end_line.Goals as goal

pub returns-in_default : goal.returns-in_default
returns-in_default c = λ bytes h.
    let line = line_says c.args.self.now bytes h c.requires in
    let says : None ≡ reduction_of (lines_of bytes).unfinished = c.in_default.ensures (lines_of bytes).unfinished line in
    ends_badly c.args.self.now c.stop.new.self bytes c.stop.result h c.requires (at_least_none (least_after (pulses bytes)) (reduction_of (lines_of bytes).unfinished) (sym says)) c.stop.ensures.bad c.stop.ensures.line

pub returns-then-at-self : goal.returns-then-at-self
returns-then-at-self c = λ bytes h.
    let line = line_says c.args.self.now bytes h c.requires in
    let says = c.in-Some.ensures (lines_of bytes).unfinished line in
    let least = least_is c.args.self.now bytes h c.requires in
    let at = c.get-at.ensures.value in
    let low = at_least_low (least_after (pulses bytes)) c.in-Some.found (omega arith) in
    ends_badly c.args.self.now c.stop-then-at-self.new.self bytes c.stop-then-at-self.result h c.requires (ap (at_least (least_after (pulses bytes))) (sym says) ∙ low) c.stop-then-at-self.ensures.bad c.stop-then-at-self.ensures.line

pub returns : goal.returns
returns c = λ bytes h.
    let line = line_says c.args.self.now bytes h c.requires in
    let says = c.in-Some.ensures (lines_of bytes).unfinished line in
    let at = c.get-at.ensures.value in
    ends_well c.args.self.now _ bytes c.in-Some.found h c.requires (sym says) (omega arith) c.new-self.ensures refl (ap (λ (n : ℕ). n + 1) at) c.requires
