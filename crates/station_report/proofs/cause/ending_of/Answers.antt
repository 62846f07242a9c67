-- What the search leaves open of `serve::cause::ending_of`.
use Rattle.std.proofs.Common.{◌≡◌, List, [], ◌++◌, ap, append_assoc, length, refl, sym, ◌∙◌, subst}
use Rattle.std.specs.Prelude.{◌+◌, unwrap_or}
use Rattle.std.specs.Option.{option_to_list}
use Rattle.feed_workers.specs.declared.work.LogWork.{LogWork}
use Rattle.feed_workers.specs.declared.work.PollWork.{PollWork}
use Rattle.feed_workers.specs.declared.crew.LinkWork.{LinkWork}
use Rattle.station_report.specs.Crewing.{any_full, causes_left, end_of}
use Rattle.station_report.specs.Headline.{IsReported, each_cause, full_cause, link_cause, log_cause, poll_cause}
use Rattle.command_ends.specs.declared.ending.Ending.{Ending}
use Rattle.command_ends.specs.declared.ending.Ending.TheVariants.{Whole}
use Rattle.station_report.proofs.CauseLaws.{reported_or_whole}
use Rattle.station_report.proofs.cause.ending_of.Goals as goal

five : (a b c d e v w x y z : List Ending) → a ≡ v → b ≡ w → c ≡ x → d ≡ y → e ≡ z → (((a ++ b) ++ c) ++ d) ++ e ≡ v ++ (w ++ (x ++ (y ++ z)))
five a b c d e v w x y z p q r s t =
    append_assoc ((a ++ b) ++ c) d e ∙ append_assoc (a ++ b) c (d ++ e) ∙ append_assoc a b (c ++ (d ++ e))
    ∙ ap (λ l. l ++ (b ++ (c ++ (d ++ e)))) p ∙ ap (λ l. v ++ (l ++ (c ++ (d ++ e)))) q ∙ ap (λ l. v ++ (w ++ (l ++ (d ++ e)))) r ∙ ap (λ l. v ++ (w ++ (x ++ (l ++ e)))) s ∙ ap (λ l. v ++ (w ++ (x ++ (y ++ l)))) t

pub returns : goal.returns
returns c =
    let done = c.args.done.now in
    let limit = c.args.limit in
    let one = c.with_works-found.ensures [] refl in
    let two = c.with_works-found-2.ensures _ one in
    let three = c.with_leap-found.ensures _ two in
    let four = c.with_works-found-3.ensures _ three in
    let all = c.with_next.ensures _ four in
    let reported = reported_or_whole _ c.with_next.result all in
    let radios = ap (each_cause (λ feed (w : LogWork). log_cause feed w.end) 0) c.as_slice.ensures.value in
    let first : c.radios-radios.result ≡ length done.work.radios.items = c.radios-radios.ensures.value ∙ sym c.requires.of_radios in
    let servers = ap (λ n. each_cause (λ feed (w : PollWork). poll_cause feed w.end) n c.as_slice-2.result.now) first ∙ ap (each_cause (λ feed (w : PollWork). poll_cause feed w.end) (length done.work.radios.items)) c.as_slice-2.ensures.value in
    let later : c.leap_feed.result ≡ length done.work.radios.items + length done.work.servers.items = c.leap_feed.ensures ∙ ap (λ n. n + length c.args.station.now.servers) (sym c.requires.of_radios) ∙ ap (λ n. length done.work.radios.items + n) (sym c.requires.of_servers) in
    let leap = ap (λ n. each_cause (λ feed (w : LogWork). log_cause feed w.end) n (option_to_list done.work.leap)) later in
    let links = ap (each_cause (λ number (w : LinkWork). link_cause number (end_of w)) 0) c.as_slice-3.ensures.value in
    let lost = c.is_full-full.ensures ∙ ap (λ l. any_full l c.as_slice-5.result.now done.work.leap) c.as_slice-4.ensures.value ∙ ap (λ l. any_full done.work.radios.items l done.work.leap) c.as_slice-5.ensures.value in
    let full = ap option_to_list c.full_cause.ensures ∙ ap (λ b. option_to_list (full_cause limit b)) lost in
    subst (λ e. IsReported (causes_left limit done) e) (sym c.unwrap_or.ensures) (subst (λ l. IsReported l (unwrap_or c.with_next.result Whole)) (five _ _ _ _ _ _ _ _ _ _ radios servers leap links full) reported)
