-- What the search leaves open of `arguments::first`.
use Rattle.std.proofs.Common.{rules, ◌≡◌, ◌∙◌, Some, None, true, false, sym, bytes_eq, [], ◌∷◌, option_map}
use Rattle.clap.specs.Lexer.{long_of}
use Rattle.command_words.specs.Faults.{names_option, read_after}
use Rattle.command_words.proofs.ReadLaws.{named_value, named_waits, read_by, read_mark, unknown_named}
use Rattle.command_words.proofs.arguments.first.Goals as goal

pub returns-then-eq : goal.returns-then-eq
returns-then-eq c = λ rest.
    let mark : bytes_eq c.args.text.now (45 ∷ 45 ∷ []) ≡ true = search rules in
    sym (read_mark c.args.text.now rest mark)

pub returns-in_default : goal.returns-in_default
returns-in_default c = λ rest.
    let none : bytes_eq c.args.text.now (45 ∷ 45 ∷ []) ≡ false = search rules in
    let long : long_of c.args.text.now ≡ None = search rules in
    c.single.ensures rest ∙ sym (read_by c.args.text.now rest None none long)

pub returns-then-not-is_option : goal.returns-then-not-is_option
returns-then-not-is_option c = λ rest.
    let none : bytes_eq c.args.text.now (45 ∷ 45 ∷ []) ≡ false = search rules in
    let long : long_of c.args.text.now ≡ Some (c.in-Some.option.now, option_map (λ s. s.now) c.in-Some.joined) = search rules in
    let unknown : names_option c.in-Some.option.now ≡ false = search rules in
    sym (read_by c.args.text.now rest _ none long
    ∙ unknown_named c.in-Some.option.now (option_map (λ s. s.now) c.in-Some.joined) c.args.text.now (λ name. read_after name rest) unknown)

pub returns-in-Some-joined : goal.returns-in-Some-joined
returns-in-Some-joined c = λ rest.
    let none : bytes_eq c.args.text.now (45 ∷ 45 ∷ []) ≡ false = search rules in
    let long : long_of c.args.text.now ≡ Some (c.in-Some.option.now, Some c.in-Some-joined.value.now) = search rules in
    let known : names_option c.in-Some.option.now ≡ true = search rules in
    c.valued.ensures rest ∙ sym (read_by c.args.text.now rest _ none long
    ∙ named_value c.in-Some.option.now c.in-Some-joined.value.now c.args.text.now (λ name. read_after name rest) known)

pub returns-in-None : goal.returns-in-None
returns-in-None c = λ rest.
    let none : bytes_eq c.args.text.now (45 ∷ 45 ∷ []) ≡ false = search rules in
    let long : long_of c.args.text.now ≡ Some (c.in-Some.option.now, None) = search rules in
    let known : names_option c.in-Some.option.now ≡ true = search rules in
    sym (read_by c.args.text.now rest _ none long ∙ named_waits c.in-Some.option.now c.args.text.now (λ name. read_after name rest) known)
