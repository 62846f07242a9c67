use Rattle.std.proofs.Common.{◌≡◌, List, sym, ◌∙◌, subst}
use Rattle.std.specs.Prelude.{All}
use Rattle.std.proofs.lemmas.List.Elements.{All-push}
use Rattle.verdict_journal.proofs.Downs.{all_prefix}
use Rattle.journal_entry.specs.declared.entry.Entry.{Entry}
use Rattle.system_fold.specs.Settings.{SettingsFields}
use Rattle.page_cell.specs.Passes.{KnownReader, key_of}
use Rattle.verdict_journal.specs.Journals.{HasRead}
use Rattle.verdict_journal.proofs.hub.gather_readers.Goals as goal

pub loop-r-preserved : goal.loop-r-preserved
loop-r-preserved c =
    let i = c.loop-r.invariant in
    let e = c.gather_reader.ensures in
    let items = c.in-Some.ensures.items in
    let T : KnownReader → Type 0 = λ f. f.table ≡ c.args.cell.now.table in
    let Q : KnownReader → Type 0 = λ f. HasRead (key_of c.args.baton.now.view) c.args.baton.now.view.list f.view in
    let first : HasRead (key_of c.loop-r.baton.view) c.loop-r.baton.view.list c.in-Some.r.view = record { readings = e.readings; tally = e.tally; seen = e.seen } in
    let now : Q c.in-Some.r = subst (λ (l : List Entry). HasRead (key_of c.args.baton.now.view) l c.in-Some.r.view) i.list (subst (λ (s : SettingsFields). HasRead s c.loop-r.baton.view.list c.in-Some.r.view) i.key first) in
    record {
      table = e.cell ∙ i.table;
      key = e.settings ∙ i.key;
      list = e.list ∙ i.list;
      own = all_prefix T c.loop-r.readers.items c.pop.new.self.items c.in-Some.r items i.own;
      rest = (λ (h : All Q c.pop.new.self.items). i.rest (subst (All Q) (sym items) (All-push Q c.pop.new.self.items c.in-Some.r h now)));
    }
