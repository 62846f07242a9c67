-- What the proof of `reader::LeapReader::end_line` needs.
use Rattle.std.proofs.Common.{rules, ◌∙◌, refl, sym, ap}
use Rattle.tick_units.specs.Log.{lines_of}
use Rattle.leap_file.specs.declared.part.LeapLine.TheVariants.{Bad}
use Rattle.leap_file.specs.declared.reader.LeapReader.{LeapReader}
use Rattle.leap_file.proofs.ReaderLaws.{ends_nothing, ends_badly, ends_numbers}
use Rattle.leap_file.proofs.reader.LeapReader.end_line.Goals as goal

pub returns-in-Nothing : goal.returns-in-Nothing
returns-in-Nothing c = record {
  taken = λ bytes h.
      ends_nothing c.args.self.now _ bytes h c.requires (sym c.in-Nothing.is ∙ c.says-said.ensures.value (lines_of bytes).unfinished (h.line c.requires)) c.new-self.ensures c.one_more-self.ensures refl c.requires;
  reported = search rules;
}

pub returns-in-Bad : goal.returns-in-Bad
returns-in-Bad c = record {
  taken = λ bytes h.
      ends_badly c.args.self.now c.stop.new.self bytes Bad c.stop.result h c.requires (sym c.in-Bad.is ∙ c.says-said.ensures.value (lines_of bytes).unfinished (h.line c.requires)) refl refl
      (ap (λ (r : LeapReader). r.bad) c.stop.ensures.bad) (c.stop.ensures.line ∙ c.one_more-self.ensures);
  reported = search rules;
}

pub returns-in-Numbers : goal.returns-in-Numbers
returns-in-Numbers c = record {
  taken = λ bytes h.
      ends_numbers c.args.self.now (record { line = c.new-self.result; lines = c.one_more-self.result; before = c.args.self.now.before; bad = c.args.self.now.bad }) c.add_row.new.self bytes
      c.in-Numbers.row c.add_row.result h c.requires
      (sym c.in-Numbers.is ∙ c.says-said.ensures.value (lines_of bytes).unfinished (h.line c.requires)) c.new-self.ensures c.one_more-self.ensures refl c.requires c.add_row.ensures.row;
  reported = search rules;
}
