-- What the proof of `rules::has_stray_marker` needs.
use Rattle.std.proofs.Common.{drop, sym, ◌∙◌, arith}
use Rattle.frame_rules.specs.Words.{has_long}
use Rattle.plan_wwvb.specs.Rules.{has_stray_marker}
use Rattle.plan_wwvb.proofs.MarkerLaws.{is_stray, strays_kept, place_found, place_passed, places_passed}
use Rattle.plan_wwvb.proofs.rules.has_stray_marker.Goals as goal

pub loop-place-init : goal.loop-place-init
loop-place-init g c = λ marks h. strays_kept marks 61 (omega arith)

pub returns-then-strays : goal.returns-then-strays
returns-then-strays g c = λ marks h.
    place_found (is_stray marks) c.loop-place.place 61 (has_long (drop 61 marks)) (has_stray_marker marks) (c.loop-place.invariant marks h) (omega arith) (sym (c.strays.ensures marks h) ∙ c.if-strays.true)

pub loop-place-preserved : goal.loop-place-preserved
loop-place-preserved g c = λ marks h.
    place_passed (is_stray marks) c.loop-place.place 61 (has_long (drop 61 marks)) (has_stray_marker marks) (c.loop-place.invariant marks h) (omega arith) (sym (c.strays.ensures marks h) ∙ c.if-strays.false)

pub returns : goal.returns
returns g c = λ marks h.
    c.has_long_after.ensures marks h ∙ places_passed (is_stray marks) c.loop-place.place 61 (has_long (drop 61 marks)) (has_stray_marker marks) (c.loop-place.invariant marks h) (omega arith)
