-- A command is known by its word: what holds of each command with this word holds of every command that has it.
use Rattle.std.proofs.Common.{◌≡◌, ℕ, get_or, codes, ap, arith}
use Rattle.tick_units.specs.declared.marks.Plan.{Plan}
use Rattle.command_words.specs.CommandLine.{Text}
use Rattle.command_words.specs.Commands.{Asked, decode, drill, migrate, name_of, replay, serve}

-- two letters of a word distinguish the commands
abbrev first : Text → ℕ
first text = get_or text 0 0

abbrev second : Text → ℕ
second text = get_or text 1 0

pub of_decode : (P : Asked → Type 0) (a : Asked) → name_of a ≡ codes "decode" → ((plan : Plan) (log : Text) → P (decode plan log)) → P a
of_decode P (decode plan log) named each = each plan log
of_decode P (drill seed limit) named each = (let letter = ap second named in absurd (omega arith))
of_decode P (replay station script limit) named each = (let letter = ap first named in absurd (omega arith))
of_decode P (serve station during after limit) named each = (let letter = ap first named in absurd (omega arith))
of_decode P (migrate station journal) named each = (let letter = ap first named in absurd (omega arith))

pub of_replay : (P : Asked → Type 0) (a : Asked) → name_of a ≡ codes "replay" → ((station script : Text) (limit : ℕ) → P (replay station script limit)) → P a
of_replay P (replay station script limit) named each = each station script limit
of_replay P (decode plan log) named each = (let letter = ap first named in absurd (omega arith))
of_replay P (drill seed limit) named each = (let letter = ap first named in absurd (omega arith))
of_replay P (serve station during after limit) named each = (let letter = ap first named in absurd (omega arith))
of_replay P (migrate station journal) named each = (let letter = ap first named in absurd (omega arith))

pub of_serve : (P : Asked → Type 0) (a : Asked) → name_of a ≡ codes "serve"
    → ((station : Text) (during after limit : ℕ) → P (serve station during after limit)) → P a
of_serve P (serve station during after limit) named each = each station during after limit
of_serve P (decode plan log) named each = (let letter = ap first named in absurd (omega arith))
of_serve P (drill seed limit) named each = (let letter = ap first named in absurd (omega arith))
of_serve P (replay station script limit) named each = (let letter = ap first named in absurd (omega arith))
of_serve P (migrate station journal) named each = (let letter = ap first named in absurd (omega arith))

pub of_migrate : (P : Asked → Type 0) (a : Asked) → name_of a ≡ codes "migrate" → ((station journal : Text) → P (migrate station journal)) → P a
of_migrate P (migrate station journal) named each = each station journal
of_migrate P (decode plan log) named each = (let letter = ap first named in absurd (omega arith))
of_migrate P (drill seed limit) named each = (let letter = ap first named in absurd (omega arith))
of_migrate P (replay station script limit) named each = (let letter = ap first named in absurd (omega arith))
of_migrate P (serve station during after limit) named each = (let letter = ap first named in absurd (omega arith))

pub of_drill : (P : Asked → Type 0) (a : Asked) → name_of a ≡ codes "drill" → ((seed limit : ℕ) → P (drill seed limit)) → P a
of_drill P (drill seed limit) named each = each seed limit
of_drill P (decode plan log) named each = (let letter = ap second named in absurd (omega arith))
of_drill P (replay station script limit) named each = (let letter = ap first named in absurd (omega arith))
of_drill P (serve station during after limit) named each = (let letter = ap first named in absurd (omega arith))
of_drill P (migrate station journal) named each = (let letter = ap first named in absurd (omega arith))
