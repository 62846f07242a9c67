-- Each text stands after those before it, and the line's four texts are the line.
use Rattle.std.proofs.Common.{◌≡◌, ℕ, ◌+◌, List, [], ◌∷◌, ◌++◌, length, take, drop, drop-drop, decimal, refl, ap, ◌∙◌, append_assoc, arith}
use Rattle.std.proofs.lemmas.List.{length-append}
use Rattle.std.proofs.Math.Seq.{take-append_seam, drop-append-add}
use Rattle.pulse_log.proofs.LineLaws.{says, spells}
use Rattle.pulse_log.proofs.writer.write_line.Goals as goal

put_after : (out prefix text before after : List ℕ) (place end : ℕ) → place ≡ length prefix → before ≡ prefix ++ drop place out →
    after ≡ (take place before ++ text) ++ drop end before → end ≡ place + length text → after ≡ (prefix ++ text) ++ drop end out
put_after out prefix text before after place end place_is before_is after_is end_is =
    let prefixes : take place before ≡ prefix = ap (λ (k : ℕ). take k before) place_is ∙ ap (take (length prefix)) before_is ∙ take-append_seam prefix (drop place out) in
    let ends : end ≡ length prefix + length text = omega arith in
    let rest : drop end before ≡ drop end out =
    ap (λ (k : ℕ). drop k before) ends ∙ ap (drop (length prefix + length text)) before_is ∙ drop-append-add prefix (drop place out) (length text)
    ∙ drop-drop (length text) place out ∙ ap (λ (k : ℕ). drop k out) (let sum : place + length text ≡ end = omega arith in sum) in
    after_is ∙ ap (λ (t : List ℕ). (t ++ text) ++ drop end before) prefixes ∙ ap (λ (t : List ℕ). (prefix ++ text) ++ t) rest

pub returns-clause-line : goal.returns-clause-line
returns-clause-line c =
    let r = c.args.r in
    let below = c.get.ensures.below in
    let at = c.get.ensures.value in
    record {
      spells = record { text = refl; at = omega arith; least = c.requires.some; most = c.requires.most };
      says = says r.at r.width (omega arith) c.requires.some c.requires.most;
      only = λ other e. (spells other r e).text;
    }

pub returns-clause-text : goal.returns-clause-text
returns-clause-text c =
    let out = c.args.out.now in
    let at = c.as_bytes.result.now in
    let width = c.as_bytes-2.result.now in
    let at_is : at ≡ decimal c.args.r.at = c.as_bytes.ensures.value ∙ c.format.ensures.text ∙ ap decimal c.get.ensures.value in
    let width_is : width ≡ decimal c.args.r.width = c.as_bytes-2.ensures.value ∙ c.format-2.ensures.text in
    let space = c.put-space.ensures.place in
    let first : c.put-space.new.out ≡ at ++ drop c.put-space.result out = put_after out [] at out c.put-space.new.out 0 c.put-space.result refl refl c.put-space.ensures.text space in
    let later = c.put-width.ensures.place in
    let second = put_after out at (32 ∷ []) c.put-space.new.out c.put-width.new.out c.put-space.result c.put-width.result (omega arith) first c.put-width.ensures.text (omega arith) in
    let feed = c.put-feed.ensures.place in
    let third = put_after out (at ++ 32 ∷ []) width c.put-width.new.out c.put-feed.new.out c.put-width.result c.put-feed.result (omega (arith, length-append at (32 ∷ []))) second c.put-feed.ensures.text feed in
    let all = c.put.ensures.place in
    let fourth = put_after out ((at ++ 32 ∷ []) ++ width) (10 ∷ []) c.put-feed.new.out c.put.new.out c.put-feed.result c.put.result (omega (arith, length-append at (32 ∷ []), length-append (at ++ 32 ∷ []) width)) third c.put.ensures.text (omega arith) in
    let line : (at ++ 32 ∷ []) ++ width ≡ decimal c.args.r.at ++ 32 ∷ decimal c.args.r.width =
    append_assoc at (32 ∷ []) width ∙ ap (λ (t : List ℕ). t ++ 32 ∷ width) at_is ∙ ap (λ (t : List ℕ). decimal c.args.r.at ++ 32 ∷ t) width_is in
    fourth ∙ ap (λ (t : List ℕ). (t ++ 10 ∷ []) ++ drop c.put.result out) line
