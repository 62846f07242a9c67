-- What the search leaves open of `cutter::LineCutter::take`.
use Rattle.std.proofs.Common.{ℕ, List, ◌++◌, take, refl, ap, sym, ◌∙◌}
use Rattle.line_files.proofs.CuttingLaws.{takes_all, takes_line, takes_too_much, too_much_of_line, too_much_of_piece}
use Rattle.line_files.proofs.cutter.LineCutter.take.Goals as goal
use Rattle.line_files.proofs.cutter.LineCutter.take.Goals.{in_default-via-in-Some+else-place-self, in_default-via-in-None+else-piece-self}

pub returns-in-Some-clause-taken : goal.returns-in-Some-clause-taken
returns-in-Some-clause-taken c = λ too_long bytes h.
    takes_line c.args.self.now _ too_long bytes c.args.piece.now c.in-Some.place h (sym c.first_line_feed.ensures ∙ c.in-Some.is) c.put.ensures.same
    (c.put.ensures.line ∙ ap (λ (t : List ℕ). t ++ take c.in-Some.place c.args.piece.now) c.held-held.ensures.line) refl

pub returns-in-None-clause-taken : goal.returns-in-None-clause-taken
returns-in-None-clause-taken c = λ too_long bytes h.
    takes_all c.args.self.now _ too_long bytes c.args.piece.now h (sym c.first_line_feed.ensures ∙ c.in-None.is) c.put-in-None.ensures.same
    (c.put-in-None.ensures.line ∙ ap (λ (t : List ℕ). t ++ c.args.piece.now) c.held-held.ensures.line) refl

pub returns-in_default-clause-taken : goal.returns-in_default-clause-taken
returns-in_default-clause-taken c = λ too_long bytes h. elim c.in_default.branch [
  | in_default-via-in-Some+else-place-self w ↦ (let much = too_much_of_line c.args.piece.now c.args.self.now.too_long w.in-Some.place c.held-held.result (sym c.first_line_feed.ensures ∙ w.in-Some.is) w.if-place-self.false in
      takes_too_much c.args.self.now too_long bytes c.args.piece.now c.held-held.result h c.held-held.ensures.value c.held-held.ensures.short much.0 much.1)
  | in_default-via-in-None+else-piece-self w ↦ (let much = too_much_of_piece c.args.piece.now c.args.self.now.too_long c.held-held.result (sym c.first_line_feed.ensures ∙ w.in-None.is) w.if-piece-self.false in
      takes_too_much c.args.self.now too_long bytes c.args.piece.now c.held-held.result h c.held-held.ensures.value c.held-held.ensures.short much.0 much.1)
]
