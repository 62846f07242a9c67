-- What the proof of `line::Line::add_digit` needs.
use Rattle.std.proofs.Common.{◌<◌, ◌≤◌, ◌+◌, ◌*◌, ◌^◌, ℕ, List, [], ◌∷◌, ◌++◌, sym, ap, subst, arith}
use Rattle.pulse_log.specs.Lines.{IsDead}
use Rattle.pulse_log.proofs.PrefixLaws.{start_push, zero_push, width_push, start_dead, zero_dead, width_dead}
use Rattle.pulse_log.proofs.line.Line.add_digit.Goals as goal
use Rattle.pulse_log.proofs.line.Line.add_digit.Goals.{else-start-gt0-via-then-start-gt0+else-start-lt-STARTS, else-start-gt0-via-else-start-gt0, else-width-ge-NARROWEST-via-then-width-ge-NARROWEST+else-width-le-WIDEST, else-width-ge-NARROWEST-via-else-width-ge-NARROWEST}

pub returns-then-start-lt-STARTS-clause-part : goal.returns-then-start-lt-STARTS-clause-part
returns-then-start-lt-STARTS-clause-part c = λ text h.
    let line = c.args.self.now in
    let ends = rw c.in-Start.is at h in
    let taken = c.from.ensures in
    rw c.in-Start.is (ends.0, start_push line.start c.args.digit (line.start * 10 + c.from.result) text line.start_bounded c.requires (omega arith) c.if-start-gt0.true ends.1)

pub returns-then-start-eq0-clause-part : goal.returns-then-start-eq0-clause-part
returns-then-start-eq0-clause-part c = λ text h.
    let line = c.args.self.now in
    let ends = rw c.in-Start.is at h in
    let taken = c.from.ensures in
    let none = zero_push line.start c.args.digit text (omega arith) ends.1 in
    (ends.0, none.0, none.1)

pub returns-else-start-eq0-clause-part : goal.returns-else-start-eq0-clause-part
returns-else-start-eq0-clause-part c = λ text h.
    let line = c.args.self.now in
    let ends = rw c.in-Start.is at h in
    let taken = c.from.ensures in
    let large : 2 ^ 50 ≤ line.start * 10 + c.args.digit = elim c.else-start-gt0.branch [
      | else-start-gt0-via-then-start-gt0+else-start-lt-STARTS w ↦ omega arith
      | else-start-gt0-via-else-start-gt0 w ↦ absurd (omega arith)
    ] in
    let dead = start_dead line.start (48 + c.args.digit) line.start_bounded (λ space _. absurd (omega arith)) (λ _ low. absurd (omega arith)) in
    subst IsDead (ap (λ (t : List ℕ). t ++ (48 + c.args.digit) ∷ []) (sym ends.1)) dead

pub returns-then-width-le-WIDEST-clause-part : goal.returns-then-width-le-WIDEST-clause-part
returns-then-width-le-WIDEST-clause-part c = λ text h.
    let line = c.args.self.now in
    let ends = rw c.in-Width.is at h in
    let taken = c.from-in-Width.ensures in
    let narrow = line.width_bounded in
    rw c.in-Width.is (width_push line.start line.width c.args.digit (line.width * 10 + c.from-in-Width.result) text (omega arith) c.requires (omega arith) c.if-width-ge-NARROWEST.true ends)

pub returns-else-width-ge-NARROWEST-clause-part : goal.returns-else-width-ge-NARROWEST-clause-part
returns-else-width-ge-NARROWEST-clause-part c = λ text h.
    let line = c.args.self.now in
    let ends = rw c.in-Width.is at h in
    let taken = c.from-in-Width.ensures in
    let out : 0 < line.width * 10 + c.args.digit → line.width * 10 + c.args.digit ≤ 2000000 → ⊥ = λ some most. elim c.else-width-ge-NARROWEST.branch [
      | else-width-ge-NARROWEST-via-then-width-ge-NARROWEST+else-width-le-WIDEST w ↦ omega arith
      | else-width-ge-NARROWEST-via-else-width-ge-NARROWEST w ↦ omega arith
    ] in
    let dead = width_dead line.start line.width (48 + c.args.digit) line.start_bounded line.width_bounded (λ _ some most. out (omega arith) (omega arith)) in
    subst IsDead (ap (λ (t : List ℕ). t ++ (48 + c.args.digit) ∷ []) (sym ends)) dead

pub returns-in-Zero-clause-part : goal.returns-in-Zero-clause-part
returns-in-Zero-clause-part c = λ text h.
    let ends = rw c.in-Zero.is at h in
    let dead = zero_dead (48 + c.args.digit) (λ space. omega arith) in
    subst IsDead (ap (λ (t : List ℕ). t ++ (48 + c.args.digit) ∷ []) (sym ends.2)) dead
