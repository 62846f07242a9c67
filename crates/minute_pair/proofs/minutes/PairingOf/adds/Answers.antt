-- What the proof of `minutes::PairingOf::adds` needs.
use Rattle.std.proofs.Common.{false, refl, ap, sym, ◌∙◌, None}
use Rattle.std.specs.List.{last_or}
use Rattle.minute_pair.proofs.KeptLaws.{begins_is, heard_added, same_added}
use Rattle.minute_pair.specs.Pairing.{before_of}
use Rattle.minute_pair.proofs.minutes.PairingOf.adds.Goals as goal

pub returns-clause-added : goal.returns-clause-added
returns-clause-added g c = λ marks h yes.
    let code = g.C.CodePlan.code in
    let mark = c.args.mark.now in
    let b = begins_is c.args.self.now code marks mark _ false h.kept (c.last.ensures h.kept.current h.kept.read) c.if-begins_minute.ensures in
    record {
      kept = heard_added c.args.self.now _ code mark marks b h.kept (c.add.ensures h.kept.current h.kept.read) refl;
      before = h.before ∙ ap (λ segments. before_of code (last_or None segments)) (sym (same_added c.args.self.now code mark marks b h.kept));
    }

pub returns-clause-same : goal.returns-clause-same
returns-clause-same g c = λ marks h yes.
    let code = g.C.CodePlan.code in
    let b = begins_is c.args.self.now code marks c.args.mark.now _ false h.kept (c.last.ensures h.kept.current h.kept.read) c.if-begins_minute.ensures in
    same_added c.args.self.now code c.args.mark.now marks b h.kept
