-- The word decides which fields follow it.
use Rattle.std.proofs.Common.{◌≡◌, [], ◌∷◌, Some, codes, decimal, ap, subst}
use Rattle.journal_entry.specs.Reading.{HasFields}
use Rattle.tick_units.specs.declared.verdicts.Kind.TheVariants.{Verdict, Lone, Differs, Refused}
use Rattle.journal_entry.specs.declared.entry.What.TheVariants.{Heard, Sample, Declined, Notice}
use Rattle.journal_entry.proofs.WordLaws.{word_of, numbers_of, word_first, no_space_in_word, same_word, other_word, of_verdict, of_lone, of_differs, of_refused, of_sample, of_declined, of_notice, one_of_words}
use Rattle.journal_entry.proofs.read.read_what.Goals as goal

pub returns-then-eq : goal.returns-then-eq
returns-then-eq c = λ w ok h.
    let read = c.next-word.ensures (word_of w) (numbers_of w) (no_space_in_word w) (subst (HasFields c.args.fields.now) (word_first w) h) in
    let word = same_word c.next-word.result.now w (codes "verdict") c.eq.result c.eq.ensures c.if-eq.true read.0 in
    of_verdict (λ w. HasFields c.next-word.new.self (numbers_of w) → Some (Heard (Verdict c.next_u64.result c.next_u64-then-eq.result)) ≡ Some w) w ok word
    (λ second leap_at small_second small_leap_at rest.
    let second_is = c.next_u64.ensures second (decimal leap_at ∷ []) small_second rest in
    let leap_at_is = c.next_u64-then-eq.ensures leap_at [] small_leap_at second_is.1 in
    λ i. Some (Heard (Verdict (second_is.0 i) (leap_at_is.0 i))))
    read.1

pub returns-then-eq-2 : goal.returns-then-eq-2
returns-then-eq-2 c = λ w ok h.
    let read = c.next-word.ensures (word_of w) (numbers_of w) (no_space_in_word w) (subst (HasFields c.args.fields.now) (word_first w) h) in
    let word = same_word c.next-word.result.now w (codes "lone") c.eq-else-eq.result c.eq-else-eq.ensures c.if-eq-2.true read.0 in
    of_lone (λ w. HasFields c.next-word.new.self (numbers_of w) → Some (Heard (Lone c.next_u64-then-eq-2.result)) ≡ Some w) w ok word
    (λ second small_second rest.
    let second_is = c.next_u64-then-eq-2.ensures second [] small_second rest in
    λ i. Some (Heard (Lone (second_is.0 i))))
    read.1

pub returns-then-eq-3 : goal.returns-then-eq-3
returns-then-eq-3 c = λ w ok h.
    let read = c.next-word.ensures (word_of w) (numbers_of w) (no_space_in_word w) (subst (HasFields c.args.fields.now) (word_first w) h) in
    let word = same_word c.next-word.result.now w (codes "differs") c.eq-else-eq-2.result c.eq-else-eq-2.ensures c.if-eq-3.true read.0 in
    of_differs (λ w. HasFields c.next-word.new.self (numbers_of w) → Some (Heard (Differs c.next_u64-then-eq-3.result c.next_u64-then-eq-3-2.result c.next_u64-then-eq-3-3.result)) ≡ Some w) w ok word
    (λ before now apart small_before small_now small_apart rest.
    let before_is = c.next_u64-then-eq-3.ensures before (decimal now ∷ decimal apart ∷ []) small_before rest in
    let now_is = c.next_u64-then-eq-3-2.ensures now (decimal apart ∷ []) small_now before_is.1 in
    let apart_is = c.next_u64-then-eq-3-3.ensures apart [] small_apart now_is.1 in
    λ i. Some (Heard (Differs (before_is.0 i) (now_is.0 i) (apart_is.0 i))))
    read.1

pub returns-then-eq-4 : goal.returns-then-eq-4
returns-then-eq-4 c = λ w ok h.
    let read = c.next-word.ensures (word_of w) (numbers_of w) (no_space_in_word w) (subst (HasFields c.args.fields.now) (word_first w) h) in
    let word = same_word c.next-word.result.now w (codes "refused") c.eq-else-eq-3.result c.eq-else-eq-3.ensures c.if-eq-4.true read.0 in
    of_refused (λ w. HasFields c.next-word.new.self (numbers_of w) → Some (Heard (Refused c.next_u8.result)) ≡ Some w) w ok word
    (λ rule small_rule rest.
    let rule_is = c.next_u8.ensures rule [] small_rule rest in
    λ i. Some (Heard (Refused (rule_is.0 i))))
    read.1

pub returns-then-eq-5 : goal.returns-then-eq-5
returns-then-eq-5 c = λ w ok h.
    let read = c.next-word.ensures (word_of w) (numbers_of w) (no_space_in_word w) (subst (HasFields c.args.fields.now) (word_first w) h) in
    let word = same_word c.next-word.result.now w (codes "sample") c.eq-else-eq-4.result c.eq-else-eq-4.ensures c.if-eq-5.true read.0 in
    of_sample (λ w. HasFields c.next-word.new.self (numbers_of w) → Some (Sample c.read_sample.result) ≡ Some w) w ok word
    (λ s small_s rest.
    ap (λ s. Some (Sample s)) (c.read_sample.ensures s small_s rest))
    read.1

pub returns-then-eq-6 : goal.returns-then-eq-6
returns-then-eq-6 c = λ w ok h.
    let read = c.next-word.ensures (word_of w) (numbers_of w) (no_space_in_word w) (subst (HasFields c.args.fields.now) (word_first w) h) in
    let word = same_word c.next-word.result.now w (codes "declined") c.eq-else-eq-5.result c.eq-else-eq-5.ensures c.if-eq-6.true read.0 in
    of_declined (λ w. HasFields c.next-word.new.self (numbers_of w) → Some (Declined c.next_u8-then-eq-6.result) ≡ Some w) w ok word
    (λ code small_code rest.
    let code_is = c.next_u8-then-eq-6.ensures code [] small_code rest in
    λ i. Some (Declined (code_is.0 i)))
    read.1

pub returns-then-eq-7 : goal.returns-then-eq-7
returns-then-eq-7 c = λ w ok h.
    let read = c.next-word.ensures (word_of w) (numbers_of w) (no_space_in_word w) (subst (HasFields c.args.fields.now) (word_first w) h) in
    let word = same_word c.next-word.result.now w (codes "notice") c.eq-else-eq-6.result c.eq-else-eq-6.ensures c.if-eq-7.true read.0 in
    of_notice (λ w. HasFields c.next-word.new.self (numbers_of w) → Some (Notice c.next_u64-then-eq-7.result) ≡ Some w) w ok word
    (λ leap_at small_leap_at rest.
    let leap_at_is = c.next_u64-then-eq-7.ensures leap_at [] small_leap_at rest in
    λ i. Some (Notice (leap_at_is.0 i)))
    read.1

pub returns-else-eq-7 : goal.returns-else-eq-7
returns-else-eq-7 c = λ w ok h.
    let read = c.next-word.ensures (word_of w) (numbers_of w) (no_space_in_word w) (subst (HasFields c.args.fields.now) (word_first w) h) in
    absurd (one_of_words w
    (other_word c.next-word.result.now w (codes "verdict") c.eq.result c.eq.ensures c.if-eq.false read.0)
    (other_word c.next-word.result.now w (codes "lone") c.eq-else-eq.result c.eq-else-eq.ensures c.if-eq-2.false read.0)
    (other_word c.next-word.result.now w (codes "differs") c.eq-else-eq-2.result c.eq-else-eq-2.ensures c.if-eq-3.false read.0)
    (other_word c.next-word.result.now w (codes "refused") c.eq-else-eq-3.result c.eq-else-eq-3.ensures c.if-eq-4.false read.0)
    (other_word c.next-word.result.now w (codes "sample") c.eq-else-eq-4.result c.eq-else-eq-4.ensures c.if-eq-5.false read.0)
    (other_word c.next-word.result.now w (codes "declined") c.eq-else-eq-5.result c.eq-else-eq-5.ensures c.if-eq-6.false read.0)
    (other_word c.next-word.result.now w (codes "notice") c.eq-else-eq-6.result c.eq-else-eq-6.ensures c.if-eq-7.false read.0))
