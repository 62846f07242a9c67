-- What is written of a log grows second by second.
use Rattle.std.proofs.Common.{◌≡◌, ℕ, suc, ◌+◌, List, [], ◌∷◌, ◌++◌, length, refl, sym, ap, ◌∙◌, subst, arith, append_assoc}
use Rattle.std.proofs.lemmas.List.{append-nil, length-append}
use Rattle.std.proofs.lemmas.List.Concat.{flat_map-append}
use Rattle.outside_traits.specs.States.{SinkState}
use Rattle.pulse_log.specs.Writing.{line_of}
use Rattle.tick_units.specs.declared.marks.Plan.{Plan}
use Rattle.tick_units.specs.declared.marks.Reduction.{Reduction}
use Rattle.drill_day.specs.Made.{number_after, number_from, start_of, parts_of, reductions_from, reductions_of, text_of}
use Rattle.drill_day.specs.Progress.{text_from, HasWritten, HasStopped}
use Rattle.outside_traits.specs.Writing.{WritesAll, WritesPrefix}
use Rattle.drill_day.specs.declared.seconds.Second.{Second}
use Rattle.drill_day.specs.declared.writer.LogWriter.{LogWriter}
use Rattle.outside_traits.proofs.WritingLaws.{writes_more, writes_prefix, prefix_of_both}

-- the reductions of some seconds and of those after them
pub reductions_append : (plan : Plan) (start j n : ℕ) (xs ys : List Second) → n ≡ j + length xs
    → reductions_from plan start j (xs ++ ys) ≡ reductions_from plan start j xs ++ reductions_from plan start n ys
reductions_append plan start j n [] ys e = let same : j ≡ n = omega (arith, e) in ap (λ k. reductions_from plan start k ys) same
reductions_append plan start j n (x ∷ xs) ys e =
    let first = parts_of plan (start_of x.index (number_from start j)) x.symbol in
    ap (λ l. first ++ l) (reductions_append plan start (suc j) n xs ys (omega (arith, e)))
    ∙ sym (append_assoc first (reductions_from plan start (suc j) xs) (reductions_from plan start n ys))

pub text_append : (xs ys : List Reduction) → text_of (xs ++ ys) ≡ text_of xs ++ text_of ys
text_append xs ys = flat_map-append (λ r. line_of r ++ 10 ∷ []) xs ys

-- the parts of the second that comes next
abbrev next_parts : Plan → ℕ → List Second → Second → List Reduction
next_parts plan start seconds second = parts_of plan (start_of second.index (number_from start (suc (length seconds)))) second.symbol

pub reductions_push : (plan : Plan) (start : ℕ) (seconds : List Second) (second : Second)
    → reductions_of plan start (seconds ++ second ∷ []) ≡ reductions_of plan start seconds ++ next_parts plan start seconds second
reductions_push plan start seconds second =
    reductions_append plan start 1 (suc (length seconds)) seconds (second ∷ []) (omega arith)
    ∙ ap (λ l. reductions_of plan start seconds ++ l) (append-nil (next_parts plan start seconds second))

pub text_push : (plan : Plan) (start : ℕ) (seconds : List Second) (second : Second)
    → text_from plan start (seconds ++ second ∷ []) ≡ text_from plan start seconds ++ text_of (next_parts plan start seconds second)
text_push plan start seconds second =
    ap text_of (reductions_push plan start seconds second) ∙ text_append (reductions_of plan start seconds) (next_parts plan start seconds second)

-- the parts that a writer gives to the next second are those
parts_same : (plan by : Plan) (start number now : ℕ) (seconds : List Second) (second : Second) → by ≡ plan → number ≡ number_from start (length seconds) → now ≡ number_after number
    → parts_of by (start_of second.index now) second.symbol ≡ next_parts plan start seconds second
parts_same plan by start number now seconds second p n e =
    ap (λ q. parts_of q (start_of second.index now) second.symbol) p
    ∙ ap (λ k. parts_of plan (start_of second.index k) second.symbol) (e ∙ ap number_after n)

length_push : (xs : List Second) (x : Second) → length (xs ++ x ∷ []) ≡ suc (length xs)
length_push [] x = refl
length_push (y ∷ ys) x = ap suc (length_push ys x)

-- one more second was written
pub written_push : (plan : Plan) (start : ℕ) (begin out out_now : SinkState) (log log_now : LogWriter) (seconds : List Second) (second : Second)
    → log_now.plan ≡ log.plan → log_now.number ≡ number_after log.number
    → log_now.lines ≡ log.lines + length (parts_of log.plan (start_of second.index log_now.number) second.symbol)
    → WritesAll out out_now (text_of (parts_of log.plan (start_of second.index log_now.number) second.symbol))
    → HasWritten plan start begin log out seconds → HasWritten plan start begin log_now out_now (seconds ++ second ∷ [])
written_push plan start begin out out_now log log_now seconds second by number lines text h =
    let same = parts_same plan log.plan start log.number log_now.number seconds second h.by h.number number in
    record {
      by = by ∙ h.by;
      number = number ∙ ap number_after h.number ∙ ap (number_from start) (sym (length_push seconds second));
      lines = lines ∙ ap (λ n. n + length (parts_of log.plan (start_of second.index log_now.number) second.symbol)) h.lines
          ∙ ap (λ (l : List Reduction). length (reductions_of plan start seconds) + length l) same
          ∙ sym (length-append (reductions_of plan start seconds) (next_parts plan start seconds second))
          ∙ ap length (sym (reductions_push plan start seconds second));
      text = subst (λ t. WritesAll begin out_now t) (sym (text_push plan start seconds second))
          (writes_more begin out out_now (text_from plan start seconds) (text_of (next_parts plan start seconds second)) h.text
          (subst (λ (l : List Reduction). WritesAll out out_now (text_of l)) same text));
    }

-- a write of it failed
pub stopped_push : (plan : Plan) (start now : ℕ) (begin out out_now : SinkState) (log : LogWriter) (seconds : List Second) (second : Second)
    → now ≡ number_after log.number
    → WritesPrefix out out_now (text_of (parts_of log.plan (start_of second.index now) second.symbol))
    → HasWritten plan start begin log out seconds → HasStopped plan start begin out_now (seconds ++ second ∷ [])
stopped_push plan start now begin out out_now log seconds second number text h =
    subst (λ t. WritesPrefix begin out_now t) (sym (text_push plan start seconds second))
    (writes_prefix begin out out_now (text_from plan start seconds) (text_of (next_parts plan start seconds second)) h.text
    (subst (λ (l : List Reduction). WritesPrefix out out_now (text_of l)) (parts_same plan log.plan start log.number now seconds second h.by h.number number) text))

-- a beginning of the text of some seconds is one of the text of more of them
pub stopped_more : (plan : Plan) (start : ℕ) (begin out_now : SinkState) (xs ys : List Second) → HasStopped plan start begin out_now xs → HasStopped plan start begin out_now (xs ++ ys)
stopped_more plan start begin out_now xs ys h =
    let later = reductions_from plan start (suc (length xs)) ys in
    subst (λ t. WritesPrefix begin out_now t)
    (sym (ap text_of (reductions_append plan start 1 (suc (length xs)) xs ys (omega arith)) ∙ text_append (reductions_of plan start xs) later))
    (prefix_of_both begin out_now (text_from plan start xs) (text_of later) h)
