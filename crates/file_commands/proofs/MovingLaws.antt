-- The lines of a journal: each text says one, and they are short.
use Rattle.std.proofs.Common.{◌≡◌, ℕ, ◌+◌, ◌<◌, Bool, true, false, Option, None, Some, List, [], ◌∷◌, ◌++◌, length, take, codes, append_assoc, refl, ap, sym, ◌∙◌, subst, arith}
use Rattle.std.proofs.lemmas.List.{append-nil, length-map, map-append}
use Rattle.std.proofs.lemmas.List.FromFn.{length-enumerate_from}
use Rattle.std.specs.List.{enumerate_from, flat_map}
use Rattle.clock_page.specs.Page.{PageFields}
use Rattle.journal_entry.specs.Valid.{IsValid}
use Rattle.journal_entry.specs.Lines.{IsLineText, entry_of, form_of}
use Rattle.journal_entry.specs.declared.line.Form.{Form}
use Rattle.system_fold.specs.KeptFold.{FoldFields, StandsForJournal}
use Rattle.system_fold.specs.Page.{page_of}
use Rattle.journal_entry.specs.Numbers.{numbered_text}
use Rattle.journal_entry.specs.declared.entry.Entry.{Entry}
use Rattle.journal_entry.specs.declared.numbered.Numbered.{Numbered as NumberedEntry}
use Rattle.journal_entry.specs.declared.line.JournalLine.{JournalLine}
use Rattle.journal_entry.proofs.LengthLaws.{short_text}
use Rattle.journal_entry.proofs.SameLaws.{same_line}
use Rattle.system_fold.specs.Numbered.{numbered, numbered_after, numbered_next}
use Rattle.station_values.specs.Station.{StationFields, settings_of}
use Rattle.system_fold.specs.Settings.{SettingsFields}
use Rattle.line_files.proofs.LineTakingLaws.{limit_within}
use Rattle.line_files.specs.LineTaking.{LineTexts, TakesLine}
use Rattle.file_commands.specs.Moving.{HasMoved, IsFormOf, IsMoving, MoverFields, MovesLine, journal_way}
use Rattle.file_commands.specs.Migrating.{HasFormOf, StatesNumber, entries_of, journal_line_limit, most_lines, says_line}
use Rattle.line_files.specs.Texts.{journal_text}

pub one_line : (settings : SettingsFields) (before : List JournalLine) (text : List ℕ) (x y : JournalLine) → says_line settings before text x → says_line settings before text y → x ≡ y
one_line settings before text x y h k = same_line text x y h.0 k.0

pub short_line : (settings : SettingsFields) (before : List JournalLine) (text : List ℕ) (x : JournalLine) → says_line settings before text x → length text < journal_line_limit (length before)
short_line settings before text x h = (let short = short_text text x h.0 in let limit = limit_within 300 (Some most_lines) (length before) h.1.room in omega arith)

-- one line more of a journal in the second form
numbered_push : (settings : SettingsFields) (before entries : List Entry) (e : Entry) →
    numbered_after settings before (entries ++ e ∷ []) ≡ numbered_after settings before entries ++ numbered_next settings (before ++ entries) e ∷ []
numbered_push settings before [] e = ap (λ (b : List Entry). numbered_next settings b e ∷ []) (sym (append-nil before))
numbered_push settings before (x ∷ entries) e =
    ap (λ (ns : List NumberedEntry). numbered_next settings before x ∷ ns) (numbered_push settings (before ++ x ∷ []) entries e
    ∙ ap (λ (b : List Entry). numbered_after settings (before ++ x ∷ []) entries ++ numbered_next settings b e ∷ []) (append_assoc before (x ∷ []) entries))

lines_push : (ns : List NumberedEntry) (n : NumberedEntry) →
    flat_map (λ n. numbered_text n ++ codes "\n") (ns ++ n ∷ []) ≡ flat_map (λ n. numbered_text n ++ codes "\n") ns ++ (numbered_text n ++ codes "\n")
lines_push [] n = append-nil (numbered_text n ++ codes "\n")
lines_push (m ∷ ns) n = ap (λ (t : List ℕ). (numbered_text m ++ codes "\n") ++ t) (lines_push ns n) ∙ sym (append_assoc (numbered_text m ++ codes "\n") (flat_map (λ n. numbered_text n ++ codes "\n") ns) (numbered_text n ++ codes "\n"))

journal_more : (settings : SettingsFields) (lines : List JournalLine) (line : JournalLine) →
    journal_text settings (entries_of (lines ++ line ∷ [])) ≡ journal_text settings (entries_of lines) ++ (numbered_text (numbered_next settings (entries_of lines) (entry_of line)) ++ codes "\n")
journal_more settings lines line =
    ap (journal_text settings) (map-append entry_of lines (line ∷ []))
    ∙ ap (λ (ns : List NumberedEntry). flat_map (λ n. numbered_text n ++ codes "\n") ns) (numbered_push settings [] (entries_of lines) (entry_of line))
    ∙ lines_push (numbered settings (entries_of lines)) (numbered_next settings (entries_of lines) (entry_of line))

-- a text that says a line which was moved, or which may not stand there, or none
pub takes_moved : (of : StationFields) (before : List JournalLine) (now : MoverFields) (number size : ℕ) (texts : LineTexts) (line : JournalLine) (n : NumberedEntry) → IsLineText texts.text line →
    MovesLine now (settings_of of) before line number (Some n) → take size texts.given ≡ numbered_text n ++ codes "\n" → TakesLine (journal_way of) now before texts (Some size)
takes_moved of before now number size texts line n says moves given =
    let text = ap (λ (m : NumberedEntry). numbered_text m ++ codes "\n") moves.2 in
    (line, (says, moves.0), moves.1, journal_more (settings_of of) before line ∙ ap (λ (t : List ℕ). journal_text (settings_of of) (entries_of before) ++ t) (sym (given ∙ text)))

-- ---- one line more of a mover

-- it has the form of the first
form_push : (before : List JournalLine) (line : JournalLine) → HasFormOf before line → IsFormOf (Some (form_of line)) (before ++ line ∷ [])
form_push [] line h = refl
form_push (first ∷ before) line h = h

-- a fold has as many feeds as its settings
pub feeds_count : (fold : FoldFields) (sources : ℕ) → IsMoving fold sources → length fold.feeds ≡ sources
feeds_count fold sources h = ap length h.stands.feeds ∙ length-map (enumerate_from 0 h.settings.sources) _ ∙ length-enumerate_from 0 h.settings.sources ∙ sym h.count

-- the line in the second form is that of its place
pub number_is : (settings : SettingsFields) (before : List JournalLine) (line : JournalLine) (number : ℕ) (e : Entry) (page : PageFields) (n : NumberedEntry) → number ≡ length before + 1 → e ≡ entry_of line →
    page ≡ page_of settings (entries_of before ++ e ∷ []) → n ≡ record { length = number; rate = page.rate; entry = e } → n ≡ numbered_next settings (entries_of before) (entry_of line)
number_is settings before line number e page n count entry_is page_is is =
    let length_is : number ≡ length (entries_of before) + 1 = count ∙ ap (λ k. k + 1) (sym (length-map before entry_of)) in
    let rate_is : page.rate ≡ (page_of settings (entries_of before ++ entry_of line ∷ [])).rate = ap (λ (p : PageFields). p.rate) page_is ∙ ap (λ (x : Entry). (page_of settings (entries_of before ++ x ∷ [])).rate) entry_is in
    is ∙ (λ i. record { length = length_is i; rate = rate_is i; entry = entry_is i })

-- a line that names another place
pub refuses_place : (settings : SettingsFields) (before : List JournalLine) (line : JournalLine) (number : ℕ) (m now : MoverFields) (n : NumberedEntry) (reported : Bool) → HasMoved m settings before None → now.page ≡ m.page →
    n ≡ numbered_next settings (entries_of before) (entry_of line) → (StatesNumber line n → reported ≡ true) → reported ≡ false → MovesLine now settings before line number None
refuses_place settings before line number m now n reported h same is reports not = (
  λ may. (let yes = reports (subst (StatesNumber line) (sym is) may.place) in let wrong : true ≡ false = sym yes ∙ not in cc),
  record { page = same ∙ h.page; going = λ none. absurd (let e : ◌≡◌ {A = Option ℕ} (Some number) None = none in cc) },
)

-- a line that is moved
pub moves_on : (settings : SettingsFields) (before : List JournalLine) (line : JournalLine) (number : ℕ) (now : MoverFields) (e : Entry) (n : NumberedEntry) → length before < 4194304 →
    HasFormOf before line → IsValid (length settings.sources) (entry_of line) → StatesNumber line n → n ≡ numbered_next settings (entries_of before) (entry_of line) → e ≡ entry_of line →
    now.page ≡ page_of settings (entries_of before ++ e ∷ []) → StandsForJournal now.fold settings (entries_of before ++ e ∷ []) → now.form ≡ Some (form_of line) → now.sources ≡ length settings.sources →
    MovesLine now settings before line number (Some n)
moves_on settings before line number now e n room form valid reports is entry_is page fold form_is sources =
    let entries : entries_of before ++ e ∷ [] ≡ entries_of (before ++ line ∷ []) = ap (λ (x : Entry). entries_of before ++ x ∷ []) entry_is ∙ sym (map-append entry_of before (line ∷ [])) in (
      record { room = room; form = form; valid = valid; place = subst (StatesNumber line) is reports },
      record {
        page = page ∙ ap (page_of settings) entries;
        going = λ none. record {
          fold = subst (StandsForJournal now.fold settings) entries fold;
          form = subst (λ (o : Option Form). IsFormOf o (before ++ line ∷ [])) (sym form_is) (form_push before line form);
          sources = sources;
        };
      },
      is,
    )
