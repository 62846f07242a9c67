-- Scaffolding, which the fold uses: a word that plainly names no leap second.
use Rattle.std.specs.Prelude.{◌==◌, Bool, true, Option, None, Some}
use Rattle.system_fold.specs.declared.leaps.Word.{Word}
use Rattle.system_fold.specs.declared.leaps.Word.TheVariants.{Verified, Announced}

-- it names none, whatever the last Verdict is
abbrev pub names_none : Option Word → Bool
names_none None = true
names_none (Some (Verified at second leap_at)) = leap_at == 0
names_none (Some (Announced leap_at)) = leap_at == 0
