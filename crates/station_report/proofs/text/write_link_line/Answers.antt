-- What the search leaves open of `serve::text::write_link_line`.
use Rattle.std.proofs.Common.{◌≡◌, [], ◌∷◌, ◌++◌, ap, rules, ◌∙◌, take}
use Rattle.std.specs.Prelude.{codes, decimal}
use Rattle.journal_entry.specs.Writing.{room_of, text_in}
use Rattle.station_report.specs.Crewing.{line_by, line_of_work}
use Rattle.station_report.specs.Headline.{end_word}
use Rattle.station_report.proofs.EachLaws.{back, from_none, run_on, run_on-spaced}
use Rattle.station_report.proofs.text.write_link_line.Goals as goal

pub returns-clause-text : goal.returns-clause-text
returns-clause-text c =
    let totals = c.totals_of-totals.result in
    let start = text_in c.new-text.result in
    let end = text_in c.add-2.new.self in
    let t1 = text_in c.add.new.self in
    let t2 = text_in c.number.new.self in
    let t3 = text_in c.field.new.self in
    let t4 = text_in c.number-2.new.self in
    let t5 = text_in c.field-2.new.self in
    let t6 = text_in c.number-3.new.self in
    let t7 = text_in c.field-3.new.self in
    let t8 = text_in c.number-4.new.self in
    let t9 = text_in c.field-4.new.self in
    let t10 = text_in c.number-5.new.self in
    let t11 = text_in c.field-5.new.self in
    let t12 = text_in c.number-6.new.self in
    let t13 = text_in c.field-6.new.self in
    let t14 = text_in c.field-7.new.self in
    let e1 : t1 ≡ start ++ codes "link" = c.add.ensures.text in
    let e2 : t2 ≡ t1 ++ 32 ∷ decimal c.args.number = c.number.ensures.text.text in
    let e3 : t3 ≡ t2 ++ 32 ∷ codes "answered" = c.field.ensures.text in
    let e4 : t4 ≡ t3 ++ 32 ∷ decimal totals.answered = c.number-2.ensures.text.text in
    let e5 : t5 ≡ t4 ++ 32 ∷ codes "dropped" = c.field-2.ensures.text in
    let e6 : t6 ≡ t5 ++ 32 ∷ decimal totals.dropped = c.number-3.ensures.text.text in
    let e7 : t7 ≡ t6 ++ 32 ∷ codes "again" = c.field-3.ensures.text in
    let e8 : t8 ≡ t7 ++ 32 ∷ decimal totals.again = c.number-4.ensures.text.text in
    let e9 : t9 ≡ t8 ++ 32 ∷ codes "kissed" = c.field-4.ensures.text in
    let e10 : t10 ≡ t9 ++ 32 ∷ decimal totals.kissed = c.number-5.ensures.text.text in
    let e11 : t11 ≡ t10 ++ 32 ∷ codes "unkept" = c.field-5.ensures.text in
    let e12 : t12 ≡ t11 ++ 32 ∷ decimal totals.unkept = c.number-6.ensures.text.text in
    let e13 : t13 ≡ t12 ++ 32 ∷ codes "end" = c.field-6.ensures.text in
    let e14 : t14 ≡ t13 ++ 32 ∷ end_word totals.end = c.field-7.ensures.text ∙ ap (λ w. t13 ++ 32 ∷ w) c.end_word.ensures.text in
    let e15 : end ≡ t14 ++ codes "\n" = c.add-2.ensures.text in
    let from-13 = back t13 t14 end _ _ e15 e14 in
    let from-12 = back t12 t13 end _ _ from-13 e13 in
    let from-11 = back t11 t12 end _ _ from-12 e12 in
    let from-10 = back t10 t11 end _ _ from-11 e11 in
    let from-9 = back t9 t10 end _ _ from-10 e10 in
    let from-8 = back t8 t9 end _ _ from-9 e9 in
    let from-7 = back t7 t8 end _ _ from-8 e8 in
    let from-6 = back t6 t7 end _ _ from-7 e7 in
    let from-5 = back t5 t6 end _ _ from-6 e6 in
    let from-4 = back t4 t5 end _ _ from-5 e5 in
    let from-3 = back t3 t4 end _ _ from-4 e4 in
    let from-2 = back t2 t3 end _ _ from-3 e3 in
    let from-1 = back t1 t2 end _ _ from-2 e2 in
    let from-0 = back start t1 end _ _ from-1 e1 in
    let none : start ≡ [] = ap (λ n. take n (room_of c.new-text.result)) c.new-text.ensures.length in
    let fields = decimal c.args.number ∷ codes "answered" ∷ decimal totals.answered ∷ codes "dropped" ∷ decimal totals.dropped ∷ codes "again" ∷ decimal totals.again
    ∷ codes "kissed" ∷ decimal totals.kissed ∷ codes "unkept" ∷ decimal totals.unkept ∷ codes "end" ∷ end_word totals.end ∷ [] in
    let text : end ≡ codes "link" ++ run_on fields (codes "\n") = from_none start end _ from-0 none in
    let spaced-text : end ≡ line_by c.args.number totals = text ∙ ap (λ l. codes "link" ++ l) (run_on-spaced fields (codes "\n")) in
    let line : end ≡ line_of_work c.args.number c.args.work.now = spaced-text ∙ ap (line_by c.args.number) c.totals_of-totals.ensures in
    search rules
