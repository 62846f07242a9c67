-- What arguments are read as, by the first of them.
use Rattle.std.proofs.Common.{◌≡◌, ◌∙◌, ◌≤◌, inl, inr, ℕ, true, false, List, [], ◌∷◌, ◌++◌, ap, drop, length, map, Option, Some, None, Ok, Err, refl, subst, sym, bytes_eq, Bor}
use Rattle.std.proofs.lemmas.List.{append-nil, append_assoc, drop_all}
use Rattle.std.specs.Prelude.{◌⊎◌}
use Rattle.clap.specs.Lexer.{long_of}
use Rattle.command_words.specs.CommandLine.{Text}
use Rattle.command_words.specs.Faults.{Part, Reading, Wrong, before, names_option, no_arguments, no_value, read_after, read_named, trailing_part, unknown_option, valued, wrong}
use Rattle.command_words.specs.Reading.{after, rest_of}
use Rattle.command_words.specs.declared.arguments.Before.{Before}
use Rattle.command_words.specs.declared.arguments.Before.TheVariants.{Nothing, Option as AfterOption, Mark}
use Rattle.command_words.specs.declared.commands.Fault.{Fault}
use Rattle.command_words.specs.declared.commands.WordsFault.{WordsFault}
use Rattle.command_words.specs.declared.commands.WordsFault.TheVariants.{Memory, Usage}

pub read_mark : (text : Text) (rest : List Text) → bytes_eq text (45 ∷ 45 ∷ []) ≡ true → read_after None (text ∷ rest) ≡ Ok (map trailing_part rest)
unfolding read_after
read_mark text rest e = rw e refl

pub read_by : (text : Text) (rest : List Text) (long : Option (Text × Option Text)) → bytes_eq text (45 ∷ 45 ∷ []) ≡ false → long_of text ≡ long
    → read_after None (text ∷ rest) ≡ read_named long text (λ name. read_after name rest)
unfolding read_after
read_by text rest long e l = rw (e, l) refl

pub read_value : (name text : Text) (rest : List Text) → read_after (Some name) (text ∷ rest) ≡ before (valued name text) (read_after None rest)
unfolding read_after
read_value name text rest = refl

pub read_last : (name : Text) → read_after (Some name) [] ≡ Err (no_value name [])
unfolding read_after
read_last name = refl

pub read_end : read_after None [] ≡ Ok []
unfolding read_after
read_end = refl

pub named_value : (name joined text : Text) (rest : Option Text → Reading) → names_option name ≡ true
    → read_named (Some (name, Some joined)) text rest ≡ before (valued name joined) (rest None)
named_value name joined text rest h = rw h refl

pub named_waits : (name text : Text) (rest : Option Text → Reading) → names_option name ≡ true → read_named (Some (name, None)) text rest ≡ rest (Some name)
named_waits name text rest h = rw h refl

pub unknown_named : (name : Text) (joined : Option Text) (text : Text) (rest : Option Text → Reading) → names_option name ≡ false
    → read_named (Some (name, joined)) text rest ≡ Err (unknown_option text)
unknown_named name None text rest h = rw h refl
unknown_named name (Some joined) text rest h = rw h refl

-- ---- one part more, and the end of all arguments

pub after_before : (parts : List Part) (p : Part) (rest : Reading) → after parts (before (Ok p) rest) ≡ after (parts ++ p ∷ []) rest
after_before parts p (Err fault) = refl
after_before parts p (Ok more) = ap Ok (sym (append_assoc parts (p ∷ []) more))

pub all_read : (parts : List Part) (b : Before) (texts : List (Bor Text)) (i : ℕ) (all : Reading) → length texts ≤ i
    → after parts (rest_of b (map (λ t. t.now) (drop i texts))) ≡ all → after parts (rest_of b []) ≡ all
all_read parts b texts i all past h = subst (λ (rest : List (Bor Text)). after parts (rest_of b (map (λ t. t.now) rest)) ≡ all) (drop_all i texts past) h

nothing_waits : (b : Before) → (b ≡ Nothing) ⊎ (b ≡ Mark) → rest_of b [] ≡ Ok []
nothing_waits b (inl is) = ap (λ c. rest_of c []) is ∙ read_end
nothing_waits b (inr is) = ap (λ c. rest_of c []) is

pub none_waits : (parts : List Part) (b : Before) (all : Reading) → (b ≡ Nothing) ⊎ (b ≡ Mark) → after parts (rest_of b []) ≡ all → all ≡ Ok parts
none_waits parts b all is e = sym e ∙ ap (after parts) (nothing_waits b is) ∙ ap Ok (append-nil parts)

pub one_waits : (parts : List Part) (b : Before) (o : Bor Text) (all : Reading) → b ≡ AfterOption o → after parts (rest_of b []) ≡ all → all ≡ Err (no_value o.now [])
one_waits parts b o all is e = sym e ∙ ap (λ c. after parts (rest_of c [])) is ∙ ap (after parts) (read_last o.now)

-- ---- a fault that was handed on

abbrev said : WordsFault → Wrong
said (Usage fault) = wrong fault
said Memory = no_arguments

pub same_fault : (e : Fault) (f : Fault) → Usage e ≡ Usage f → wrong e ≡ wrong f
same_fault e f same = ap said same
