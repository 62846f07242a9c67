-- A log without a fault is decoded whole.
use Rattle.std.proofs.Common.{◌≡◌, ℕ, List, ap, sym, ◌∙◌, subst, inl, inr}
use Rattle.outside_traits.specs.Faults.{Rose, RoseByOne}
use Rattle.outside_traits.specs.States.{SourceState, SinkState}
use Rattle.tick_units.specs.declared.marks.Plan.{Plan}
use Rattle.file_commands.specs.Decoding.{Decodes, HasGoodLog, RunsDecode}
use Rattle.line_files.specs.GoodLogs.{IsGoodLog}
use Rattle.command_ends.specs.Effects.{Effect}
use Rattle.command_ends.specs.Endings.{status_of, ending_at}
use Rattle.command_ends.specs.declared.ending.status.Status.{Status}
use Rattle.command_ends.specs.declared.ending.status.Status.TheVariants.{Done}
use Rattle.command_ends.specs.declared.ending.subject.Subject.TheVariants.{Feed}
use Rattle.file_reader.specs.declared.log_end.LogEnd.{LogEnd}
use Rattle.command_ends.proofs.OpeningLaws.{one_opened, one_failed}
use Rattle.line_files.proofs.PrefixLaws.{rose_by_one}
use Rattle.line_files.proofs.GoodLogLaws.{good_reach}

good_done : (plan : Plan) (opened back : SourceState) (out out_now : SinkState) (result : Status) →
    Decodes plan opened back out out_now result → IsGoodLog opened back → (Rose out.faults out_now.faults → ⊥) → result ≡ Done
good_done plan opened back out out_now result d good no_write = elim d [
  | inr stopped ↦ absurd (no_write (rose_by_one out.faults out_now.faults (subst (λ (n : ℕ). RoseByOne n out_now.faults) stopped.lines.1 stopped.failed.3)))
  | inl h ↦ elim h.written [
    | inr failed ↦ absurd (no_write (rose_by_one out.faults out_now.faults (subst (λ (n : ℕ). RoseByOne n out_now.faults) h.lines.1 failed.1.3)))
    | inl all ↦ all.0 ∙ ap (λ (r : LogEnd). status_of (ending_at (Feed 0) r)) (good_reach opened back good h.bytes h.due h.read)
  ]
]

pub log_done : (plan : Plan) (name : List ℕ) (effect : Effect) → HasGoodLog name effect.outside effect.outside_now → (Rose effect.out.faults effect.out_now.faults → ⊥) →
    RunsDecode plan name effect → effect.status ≡ Done
log_done plan name effect p no_write did = elim did [
  | inl not ↦ absurd (one_failed effect.outside effect.outside_now p.before p.were name p.opened p.back p.are not.opens)
  | inr h ↦ (let same = one_opened effect.outside effect.outside_now p.before p.were name p.opened p.back p.are h.opened h.back h.opens in
      good_done plan h.opened h.back effect.out effect.out_now effect.status h.decodes (subst (λ (s : SourceState). IsGoodLog s h.back) (sym same.0) (subst (λ (s : SourceState). IsGoodLog p.opened s) (sym same.1) p.good)) no_write)
]
