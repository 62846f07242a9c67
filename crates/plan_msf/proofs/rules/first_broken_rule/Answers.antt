-- What the proof of `rules::first_broken_rule` needs.
use Rattle.std.proofs.Common.{[], ◌∷◌, sym, ◌∙◌}
use Rattle.frame_rules.proofs.FirstLaws.{AreUnbroken-from_none, false_from_unbroken}
use Rattle.civil_frame.proofs.NamedMinute.{names_minute-kept}
use Rattle.plan_msf.proofs.rules.first_broken_rule.Goals as goal

pub returns-clause-named : goal.returns-clause-named
returns-clause-named g c = λ none.
    let h = AreUnbroken-from_none (c.new.result ∷ c.new-2.result ∷ c.new-3.result ∷ c.new-4.result ∷ c.new-5.result ∷ c.new-6.result ∷ c.new-7.result ∷ c.new-8.result ∷ c.new-9.result ∷ c.new-10.result ∷ c.new-11.result ∷ c.new-12.result ∷ c.new-13.result ∷ c.new-14.result ∷ c.new-15.result ∷ c.new-16.result ∷ []) (sym c.first_broken.ensures ∙ none) in
    let from = h.1.1.1.1.1.1.1.1 in
    names_minute-kept c.args.civil.now
    (false_from_unbroken _ _ _ c.new-9.ensures c.breaks_minute_range.ensures from.0)
    (false_from_unbroken _ _ _ c.new-10.ensures c.breaks_hour_range.ensures from.1.0)
    (false_from_unbroken _ _ _ c.new-11.ensures c.breaks_day_range.ensures from.1.1.0)
    (false_from_unbroken _ _ _ c.new-12.ensures c.breaks_weekday_range.ensures from.1.1.1.0)
    (false_from_unbroken _ _ _ c.new-13.ensures c.breaks_month_range.ensures from.1.1.1.1.0)
    (false_from_unbroken _ _ _ c.new-14.ensures c.breaks_year_range.ensures from.1.1.1.1.1.0)
    (false_from_unbroken _ _ _ c.new-15.ensures c.breaks_date.ensures from.1.1.1.1.1.1.0)
