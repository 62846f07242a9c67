-- What the search leaves open of `drill::text::write_feed_line`.
use Rattle.std.proofs.Common.{◌≡◌, [], ◌∷◌, ◌++◌, ap, rules, ◌∙◌, take}
use Rattle.std.specs.Prelude.{codes, decimal}
use Rattle.journal_entry.specs.Writing.{room_of, text_in}
use Rattle.page_cell.specs.Claims.{of_feed}
use Rattle.station_report.specs.Drilling.{feed_line, is_differing, is_lone, is_refused, is_verdict, times}
use Rattle.station_report.proofs.EachLaws.{back, from_none, run_on, run_on-spaced}
use Rattle.station_report.proofs.drill_text.write_feed_line.Goals as goal

pub returns-clause-text : goal.returns-clause-text
unfolding feed_line
returns-clause-text c =
    let counts = c.counts_of-counts.result in
    let counted = c.counts_of-counts.ensures in
    let entries = of_feed c.args.feed c.args.journal.now.entries in
    let start = text_in c.new-text.result in
    let end = text_in c.add-2.new.self in
    let t1 = text_in c.add.new.self in
    let t2 = text_in c.number.new.self in
    let t3 = text_in c.field.new.self in
    let t4 = text_in c.number-2.new.self in
    let t5 = text_in c.field-2.new.self in
    let t6 = text_in c.number-3.new.self in
    let t7 = text_in c.field-3.new.self in
    let t8 = text_in c.number-4.new.self in
    let t9 = text_in c.field-4.new.self in
    let t10 = text_in c.number-5.new.self in
    let e1 : t1 ≡ start ++ codes "feed" = c.add.ensures.text in
    let e2 : t2 ≡ t1 ++ 32 ∷ decimal c.args.feed = c.number.ensures.text.text in
    let e3 : t3 ≡ t2 ++ 32 ∷ codes "verdict" = c.field.ensures.text in
    let e4 : t4 ≡ t3 ++ 32 ∷ decimal (times is_verdict entries) = c.number-2.ensures.text.text ∙ ap (λ n. t3 ++ 32 ∷ decimal n) counted.verdict in
    let e5 : t5 ≡ t4 ++ 32 ∷ codes "lone" = c.field-2.ensures.text in
    let e6 : t6 ≡ t5 ++ 32 ∷ decimal (times is_lone entries) = c.number-3.ensures.text.text ∙ ap (λ n. t5 ++ 32 ∷ decimal n) counted.lone in
    let e7 : t7 ≡ t6 ++ 32 ∷ codes "differs" = c.field-3.ensures.text in
    let e8 : t8 ≡ t7 ++ 32 ∷ decimal (times is_differing entries) = c.number-4.ensures.text.text ∙ ap (λ n. t7 ++ 32 ∷ decimal n) counted.differs in
    let e9 : t9 ≡ t8 ++ 32 ∷ codes "refused" = c.field-4.ensures.text in
    let e10 : t10 ≡ t9 ++ 32 ∷ decimal (times is_refused entries) = c.number-5.ensures.text.text ∙ ap (λ n. t9 ++ 32 ∷ decimal n) counted.refused in
    let e11 : end ≡ t10 ++ codes "\n" = c.add-2.ensures.text in
    let from-9 = back t9 t10 end _ _ e11 e10 in
    let from-8 = back t8 t9 end _ _ from-9 e9 in
    let from-7 = back t7 t8 end _ _ from-8 e8 in
    let from-6 = back t6 t7 end _ _ from-7 e7 in
    let from-5 = back t5 t6 end _ _ from-6 e6 in
    let from-4 = back t4 t5 end _ _ from-5 e5 in
    let from-3 = back t3 t4 end _ _ from-4 e4 in
    let from-2 = back t2 t3 end _ _ from-3 e3 in
    let from-1 = back t1 t2 end _ _ from-2 e2 in
    let from-0 = back start t1 end _ _ from-1 e1 in
    let none : start ≡ [] = ap (λ n. take n (room_of c.new-text.result)) c.new-text.ensures.length in
    let fields = decimal c.args.feed ∷ codes "verdict" ∷ decimal (times is_verdict entries) ∷ codes "lone" ∷ decimal (times is_lone entries) ∷ codes "differs" ∷ decimal (times is_differing entries) ∷ codes "refused" ∷ decimal (times is_refused entries) ∷ [] in
    let text : end ≡ codes "feed" ++ run_on fields (codes "\n") = from_none start end _ from-0 none in
    let line : end ≡ feed_line c.args.feed entries = text ∙ ap (λ l. codes "feed" ++ l) (run_on-spaced fields (codes "\n")) in
    search rules
