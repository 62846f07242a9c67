-- The lines of a journal as its hub keeps them are those of its text.
use Rattle.std.proofs.Common.{◌≡◌, ℕ, List, [], ◌∷◌, ◌++◌, ap, length, refl, suc, ◌∙◌}
use Rattle.std.specs.Prelude.{codes}
use Rattle.std.specs.List.{flat_map}
use Rattle.journal_entry.specs.Numbers.{numbered_text}
use Rattle.journal_entry.specs.declared.entry.Entry.{Entry}
use Rattle.journal_entry.specs.declared.numbered.Numbered.{Numbered}
use Rattle.feed_workers.proofs.JournalLaws.{numbered-same}
use Rattle.system_fold.specs.Numbered.{numbered_after}
use Rattle.system_fold.specs.Settings.{SettingsFields}
use Rattle.verdict_journal.specs.Journals.{numbered_of}
use Rattle.line_files.specs.Texts.{journal_text}

abbrev pub line_of : Numbered → List ℕ
line_of n = numbered_text n ++ codes "\n"

after-length : (s : SettingsFields) (before more : List Entry) → length (numbered_after s before more) ≡ length more
after-length s before [] = refl
after-length s before (e ∷ more) = ap suc (after-length s (before ++ e ∷ []) more)

pub lines-length : (s : SettingsFields) (journal : List Entry) → length (numbered_of s journal) ≡ length journal
lines-length s journal = ap (λ (l : List Numbered). length l) (numbered-same s journal) ∙ after-length s [] journal

pub lines-text : (s : SettingsFields) (journal : List Entry) → flat_map line_of (numbered_of s journal) ≡ journal_text s journal
lines-text s journal = ap (flat_map line_of) (numbered-same s journal)
