-- What the proof of `reader::LeapReader::take` needs.
use Rattle.std.proofs.Common.{rules, refl}
use Rattle.std.proofs.lemmas.Bool.{ne_eqb}
use Rattle.leap_file.proofs.ReaderLaws.{stays_bad, line_on}
use Rattle.leap_file.proofs.reader.LeapReader.take.Goals as goal

pub returns-in-Some : goal.returns-in-Some
returns-in-Some c = record { taken = λ bytes h. stays_bad c.args.self.now bytes c.args.byte c.in-Some.bad h c.in-Some.is; reported = search rules }

pub returns : goal.returns
returns c = record { taken = λ bytes h. line_on c.args.self.now _ bytes c.args.byte h c.in_default.is (ne_eqb c.args.byte 10 c.if-byte-eq10.false) c.add.ensures refl refl c.in_default.is; reported = search rules }
