-- What one line more does to what is read off the lines.
use Rattle.std.proofs.Common.{◌≡◌, ◌∙◌, ℕ, true, false, not, Some, None, List, [], ◌∷◌, ◌++◌, reverse, sym, ap, cond}
use Rattle.std.proofs.lemmas.List.{append-nil, append_assoc, reverse-append}
use Rattle.std.proofs.lemmas.List.Sums.{take_while-cons}
use Rattle.std.specs.List.{take_while}
use Rattle.std.specs.Option.{option_to_list}
use Rattle.tick_units.specs.declared.marks.Reduction.{Reduction}
use Rattle.station_values.specs.Station.{StationFields}
use Rattle.script_line.specs.declared.line.ScriptLine.{ScriptLine}
use Rattle.replay_command.specs.Replay.{after_swap, due, due_to, each_after, is_swap_of, pulse_in, pulses_of, reductions_of}
use Rattle.station_gear.proofs.ListLaws.{reverse-push}
use Rattle.replay_command.proofs.ListLaws.{filter_map-none, filter_map-some}

pub after_swap-other : (feed : ℕ) (lines : List ScriptLine) (line : ScriptLine) → is_swap_of feed line ≡ false → after_swap feed (lines ++ line ∷ []) ≡ after_swap feed lines ++ line ∷ []
after_swap-other feed lines line other =
    ap (λ ls. reverse (take_while (λ l. not (is_swap_of feed l)) ls)) (reverse-push lines line)
    ∙ ap reverse (take_while-cons (λ l. not (is_swap_of feed l)) line (reverse lines))
    ∙ ap (λ b. reverse (cond (not b) (line ∷ take_while (λ l. not (is_swap_of feed l)) (reverse lines)) [])) other
    ∙ reverse-append (line ∷ []) (take_while (λ l. not (is_swap_of feed l)) (reverse lines))

pub after_swap-swap : (feed : ℕ) (lines : List ScriptLine) (line : ScriptLine) → is_swap_of feed line ≡ true → after_swap feed (lines ++ line ∷ []) ≡ []
after_swap-swap feed lines line swap =
    ap (λ ls. reverse (take_while (λ l. not (is_swap_of feed l)) ls)) (reverse-push lines line)
    ∙ ap reverse (take_while-cons (λ l. not (is_swap_of feed l)) line (reverse lines))
    ∙ ap (λ b. reverse (cond (not b) (line ∷ take_while (λ l. not (is_swap_of feed l)) (reverse lines)) [])) swap

pub reductions-other : (feed : ℕ) (lines : List ScriptLine) (line : ScriptLine) → pulse_in feed line ≡ None → is_swap_of feed line ≡ false → reductions_of feed (lines ++ line ∷ []) ≡ reductions_of feed lines
reductions-other feed lines line none other =
    ap (pulses_of feed) (after_swap-other feed lines line other) ∙ filter_map-none (pulse_in feed) (after_swap feed lines) line none

pub reductions-more : (feed : ℕ) (lines : List ScriptLine) (line : ScriptLine) (r : Reduction) → pulse_in feed line ≡ Some r → is_swap_of feed line ≡ false → reductions_of feed (lines ++ line ∷ []) ≡ reductions_of feed lines ++ r ∷ []
reductions-more feed lines line r some other =
    ap (pulses_of feed) (after_swap-other feed lines line other) ∙ filter_map-some (pulse_in feed) (after_swap feed lines) line r some

pub reductions-swap : (feed : ℕ) (lines : List ScriptLine) (line : ScriptLine) → is_swap_of feed line ≡ true → reductions_of feed (lines ++ line ∷ []) ≡ []
reductions-swap feed lines line swap = ap (pulses_of feed) (after_swap-swap feed lines line swap)

pub each_after-push : {X A : Type 0} (f : List X → X → List A) (before lines : List X) (line : X) → each_after f before (lines ++ line ∷ []) ≡ each_after f before lines ++ f (before ++ lines) line
each_after-push f before [] line = append-nil (f before line) ∙ ap (λ b. f b line) (sym (append-nil before))
each_after-push f before (l ∷ more) line =
    ap (λ xs. f before l ++ xs) (each_after-push f (before ++ l ∷ []) more line)
    ∙ ap (λ b. f before l ++ (each_after f (before ++ l ∷ []) more ++ f b line)) (append_assoc before (l ∷ []) more)
    ∙ sym (append_assoc (f before l) (each_after f (before ++ l ∷ []) more) (f (before ++ l ∷ more) line))

pub due_push : (station : StationFields) (lines : List ScriptLine) (line : ScriptLine) → due station (lines ++ line ∷ []) ≡ due station lines ++ option_to_list (due_to station lines line)
due_push station lines line = each_after-push (λ before l. option_to_list (due_to station before l)) [] lines line
