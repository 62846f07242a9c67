-- What the search leaves open of `reading::read_words`.
use Rattle.std.proofs.Common.{rules, ◌≡◌, ◌∙◌, ℕ, List, sym, ap, subst, inl, inr, map, option_map, true, false, [], Bool, None, is_some}
use Rattle.std.proofs.lemmas.Bool.{true≢false}
use Rattle.std.proofs.lemmas.Option.{same_Some}
use Rattle.clap.specs.Words.{App, fault_of, is_simple, is_simple_and_free, app_of, matches_of, kind_of, HasKind, IsAmong, rows_of, found_of}
use Rattle.command_words.specs.Commands.{asked}
use Rattle.command_words.specs.Matches.{AreFor, app}
use Rattle.command_words.specs.declared.commands.WordsFault.{WordsFault}
use Rattle.command_words.specs.declared.commands.WordsFault.TheVariants.{Usage, Memory}
use Rattle.command_words.proofs.Answered.{every, taken}
use Rattle.command_words.proofs.Faultless.{faultless}
use Rattle.command_words.proofs.reading.read_words.Goals as goal
use Rattle.command_words.proofs.reading.read_words.Goals.{in-OutOfMemory, in_default-kind}

abbrev is_memory : WordsFault → Bool
is_memory Memory = true
is_memory (Usage fault) = false

pub refusal-requires : goal.refusal-requires
refusal-requires c none =
    let app_is : app_of c.in-Ok.grammar ≡ app = c.in-Ok.ensures in
    let words : List (List ℕ) = map (λ w. w.now) c.args.words.now in
    let error = c.in-Err.error in
    let has : HasKind (fault_of app words) error =
    subst (λ (b : App). HasKind (fault_of b words) error) app_is (c.in-Err.ensures.kinds (ap is_simple_and_free app_is)) in
    let right = faultless words none in
    elim has [
      | inl memory ↦ absurd (search (rules, c.in_default-kind, memory, c.kind.ensures))
      | inr among ↦ subst (IsAmong (kind_of error)) (every words right.command right.ask).none among
    ]

pub refusal-requires-in-None : goal.refusal-requires-in-None
refusal-requires-in-None c none =
    let app_is : app_of c.in-Ok.grammar ≡ app = c.in-Ok.ensures in
    let words : List (List ℕ) = map (λ w. w.now) c.args.words.now in
    let rows = c.in-Ok-try_get_matches_from.ensures.matches (ap is_simple app_is) in
    let right = faultless words none in
    let for : AreFor (rows_of (found_of c.in-Ok-try_get_matches_from.matches)) right.command =
    subst (λ r. AreFor r right.command) (sym (rows.0 ∙ ap (λ (b : App). matches_of b words) app_is)) (every words right.command right.ask).are in
    let no_command : option_map asked c.command.result ≡ None = ap (option_map asked) c.in-None.is in
    true≢false (sym (ap is_some (sym no_command ∙ c.command.ensures.every right.command for)))

pub returns-in-Err-clause-usage : goal.returns-in-Err-clause-usage
returns-in-Err-clause-usage c fault usage a asks =
    let app_is : app_of c.in-Ok.grammar ≡ app = c.in-Ok.ensures in
    let words : List (List ℕ) = map (λ w. w.now) c.args.words.now in
    let error = c.in-Err.error in
    let has : HasKind (fault_of app words) error =
    subst (λ (b : App). HasKind (fault_of b words) error) app_is (c.in-Err.ensures.kinds (ap is_simple_and_free app_is)) in
    elim c.match-kind.branch [
      | in-OutOfMemory w ↦ let same : c.match-kind.result ≡ Memory = w.result-is in absurd (true≢false (ap is_memory (sym same ∙ usage)))
      | in_default-kind w ↦ elim has [
        | inl memory ↦ absurd (search (rules, w.in_default-kind, memory, c.kind.ensures))
        | inr among ↦ subst (IsAmong (kind_of error)) (every words a asks).none among
      ]
    ]

pub returns-in-Some-clause-asked : goal.returns-in-Some-clause-asked
returns-in-Some-clause-asked c =
    let app_is : app_of c.in-Ok.grammar ≡ app = c.in-Ok.ensures in
    let words : List (List ℕ) = map (λ w. w.now) c.args.words.now in
    let rows = c.in-Ok-try_get_matches_from.ensures.matches (ap is_simple app_is) in
    let none : fault_of app words ≡ [] = ap (λ (b : App). fault_of b words) (sym app_is) ∙ c.in-Ok-try_get_matches_from.ensures.kinds (ap is_simple_and_free app_is) in
    taken words (asked c.in-Some.command) none
    (subst (λ r. AreFor r (asked c.in-Some.command)) (rows.0 ∙ ap (λ (b : App). matches_of b words) app_is) c.in-Some.ensures.asked)

pub returns-in-Some-clause-only : goal.returns-in-Some-clause-only
returns-in-Some-clause-only c a asks =
    let app_is : app_of c.in-Ok.grammar ≡ app = c.in-Ok.ensures in
    let words : List (List ℕ) = map (λ w. w.now) c.args.words.now in
    let rows = c.in-Ok-try_get_matches_from.ensures.matches (ap is_simple app_is) in
    let for : AreFor (rows_of (found_of c.in-Ok-try_get_matches_from.matches)) a =
    subst (λ r. AreFor r a) (sym (rows.0 ∙ ap (λ (b : App). matches_of b words) app_is)) (every words a asks).are in
    same_Some _ _ (sym (ap (option_map asked) c.in-Some.is) ∙ c.command.ensures.every a for)

pub returns-clause-usage : goal.returns-clause-usage
returns-clause-usage c fault usage a asks =
    let app_is : app_of c.in-Ok.grammar ≡ app = c.in-Ok.ensures in
    let words : List (List ℕ) = map (λ w. w.now) c.args.words.now in
    let rows = c.in-Ok-try_get_matches_from.ensures.matches (ap is_simple app_is) in
    let for : AreFor (rows_of (found_of c.in-Ok-try_get_matches_from.matches)) a =
    subst (λ r. AreFor r a) (sym (rows.0 ∙ ap (λ (b : App). matches_of b words) app_is)) (every words a asks).are in
    let none : option_map asked c.command.result ≡ None = ap (option_map asked) c.in-None.is in
    true≢false (sym (ap is_some (sym none ∙ c.command.ensures.every a for)))
