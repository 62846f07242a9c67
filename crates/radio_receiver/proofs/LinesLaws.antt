-- Lines that give no entry, and one more after them.
use Rattle.std.proofs.Common.{◌≤◌, ◌≡◌, ◌<◌, ◌+◌, ℕ, Option, Some, None, Result, Ok, Err, List, [], ◌++◌, length, map, take, drop, ap, sym, ◌∙◌, subst, arith, append_assoc}
use Rattle.std.specs.Option.{option_to_list}
use Rattle.std.proofs.Math.Seq.{take-add}
use Rattle.std.proofs.lemmas.List.{append-nil}
use Rattle.tick_units.specs.Log.{bad_line, pulses}
use Rattle.tick_units.specs.declared.marks.Plan.{Plan}
use Rattle.tick_units.specs.declared.marks.Reduction.{Reduction}
use Rattle.tick_units.specs.declared.verdicts.Heard.{Heard}
use Rattle.journal_entry.specs.declared.entry.Entry.{Entry}
use Rattle.pulse_log.specs.declared.reader.BadLine.{BadLine}
use Rattle.pulse_log.specs.Reading.{HasRead, TakesPrefix}
use Rattle.pulse_log.specs.declared.reader.LineReader.{LineReader}
use Rattle.radio_receiver.specs.Histories.{History, answers_of, least_after, with_reduction}
use Rattle.radio_receiver.specs.Decoding.{DecodesPrefix, FindsEntry, HasDecoded, IsReady, history_of, radio_log}
use Rattle.radio_receiver.specs.Due.{due_log, entry_of}
use Rattle.radio_receiver.specs.declared.decoder.LogDecoder.{LogDecoder}
use Rattle.radio_receiver.proofs.StepLaws.{due_more, due_same, least_on, may_receive}

-- a beginning was taken that gave no entry
pub record GoesOn {B : Type 0} (stands : B → History → Type 0) (decoder : LogDecoder B) (feed : ℕ) (plan : Plan) (delay : ℕ) (bytes prefix : List ℕ) : Type 0 where
  pub decoded : HasDecoded stands decoder feed plan delay (bytes ++ prefix)
  pub good : 0 < length prefix → bad_line (bytes ++ prefix) ≡ None
  pub due : due_log feed plan delay (bytes ++ prefix) ≡ due_log feed plan delay bytes

-- of the bytes that are left, the reader of a decoder has taken up to the end of a line, which says this reduction
pub record TakesLine {B : Type 0} (old now : LogDecoder B) (left : List ℕ) (before after : ℕ) (r : Reduction) : Type 0 where
  pub more : ℕ
  pub within : more ≤ length left
  pub count : after ≡ before + more
  pub receiver : now.receiver ≡ old.receiver
  pub feed : now.feed ≡ old.feed
  pub taken : (bytes : List ℕ) → HasRead old.reader bytes → TakesPrefix now.reader bytes (take more left) (Ok (Some r))

-- its receiver may receive that
pub line_may : {B : Type 0} (least : B → ℕ) (old now : LogDecoder B) (left : List ℕ) (before after : ℕ) (r : Reduction) → IsReady least old → TakesLine old now left before after r → least now.receiver ≤ r.at
line_may least old now left before after r ready line =
    subst (λ b. least b ≤ r.at) (sym line.receiver) (may_receive _ _ _ _ r ready.rises (line.taken ready.bytes ready.read))

-- and once it has, it can take more
pub line_ready : {B : Type 0} (least : B → ℕ) (old now new : LogDecoder B) (left : List ℕ) (before after : ℕ) (r : Reduction) → IsReady least old → TakesLine old now left before after r →
    new.reader ≡ now.reader → least new.receiver ≡ r.at + 1 → IsReady least new
line_ready least old now new left before after r ready line same is =
    let taken = line.taken ready.bytes ready.read in
    let longer = ready.bytes ++ take line.more left in
    record {
      bytes = longer;
      read = subst (λ (reader : LineReader). HasRead reader longer) (sym same) taken.read;
      rises = least_on (least new.receiver) ready.bytes longer r is taken.found.1;
    }

-- and has decoded the line
pub line_decoded : {B : Type 0} (stands : B → History → Type 0) (old now new : LogDecoder B) (feed : ℕ) (plan : Plan) (delay : ℕ) (bytes left : List ℕ) (before after : ℕ) (r : Reduction)
    (heard : Option Heard) (entry : Option Entry) (line : TakesLine old now left before after r) → HasDecoded stands old feed plan delay bytes → new.reader ≡ now.reader → new.feed ≡ now.feed →
    (stands now.receiver (history_of plan delay bytes) → stands new.receiver (with_reduction (history_of plan delay bytes) r)) →
    (stands now.receiver (history_of plan delay bytes) → answers_of (with_reduction (history_of plan delay bytes) r) ≡ answers_of (history_of plan delay bytes) ++ option_to_list heard) →
    map (entry_of now.feed) (option_to_list heard) ≡ option_to_list entry → DecodesPrefix stands new (radio_log feed plan delay) bytes (take line.more left) (Ok entry)
line_decoded stands old now new feed plan delay bytes left before after r heard entry line decoded same kept stood answered is =
    let takes = line.taken bytes decoded.read in
    let longer = bytes ++ take line.more left in
    let of_feed = line.feed ∙ decoded.of_feed in
    let stood_for = subst (λ b. stands b (history_of plan delay bytes)) (sym line.receiver) decoded.heard in
    record {
      decoded = record {
        of_feed = kept ∙ of_feed;
        read = subst (λ (reader : LineReader). HasRead reader longer) (sym same) takes.read;
        heard = subst (λ (rs : List Reduction). stands new.receiver (record { plan = plan; delay = delay; reductions = rs })) (sym takes.found.1) (stood stood_for);
      };
      finds = subst (λ (n : ℕ). FindsEntry n plan delay bytes longer (Ok entry)) of_feed
          (takes.found.0, due_more now.feed plan delay bytes longer r heard entry takes.found.1 (answered stood_for) is);
    }

-- bytes that add no reduction
adds_none : {B : Type 0} (stands : B → History → Type 0) (old now : LogDecoder B) (feed : ℕ) (plan : Plan) (delay : ℕ) (before prefix : List ℕ) (found : Result (Option Entry) BadLine) → HasDecoded stands old feed plan delay before →
    now.receiver ≡ old.receiver → now.feed ≡ old.feed → HasRead now.reader (before ++ prefix) → pulses (before ++ prefix) ≡ pulses before → FindsEntry feed plan delay before (before ++ prefix) found →
    DecodesPrefix stands now (radio_log feed plan delay) before prefix found
adds_none stands old now feed plan delay before prefix found decoded same kept read more finds = record {
  decoded = record {
    of_feed = kept ∙ decoded.of_feed;
    read = read;
    heard = subst (λ b. stands b (history_of plan delay (before ++ prefix))) (sym same) (subst (λ (rs : List Reduction). stands old.receiver (record { plan = plan; delay = delay; reductions = rs })) (sym more) decoded.heard);
  };
  finds = finds;
}

-- bytes in which no line ends
pub rests : {B : Type 0} (stands : B → History → Type 0) (old now : LogDecoder B) (feed : ℕ) (plan : Plan) (delay : ℕ) (before prefix : List ℕ) → HasDecoded stands old feed plan delay before →
    now.receiver ≡ old.receiver → now.feed ≡ old.feed → TakesPrefix now.reader before prefix (Ok None) → DecodesPrefix stands now (radio_log feed plan delay) before prefix (Ok None)
rests stands old now feed plan delay before prefix decoded same kept takes =
    let more : pulses (before ++ prefix) ≡ pulses before = takes.found.1 ∙ append-nil (pulses before) in
    adds_none stands old now feed plan delay before prefix (Ok None) decoded same kept takes.read more
    (takes.found.0, due_same feed plan delay before (before ++ prefix) more ∙ sym (append-nil (due_log feed plan delay before)))

pub rests_ready : {B : Type 0} (least : B → ℕ) (old now : LogDecoder B) (before prefix : List ℕ) → least old.receiver ≤ least_after (pulses before) → now.receiver ≡ old.receiver →
    TakesPrefix now.reader before prefix (Ok None) → IsReady least now
rests_ready least old now before prefix rises same takes =
    let more : pulses (before ++ prefix) ≡ pulses before = takes.found.1 ∙ append-nil (pulses before) in
    record {
      bytes = before ++ prefix;
      read = takes.read;
      rises = subst (λ (rs : List Reduction). least now.receiver ≤ least_after rs) (sym more) (subst (λ b. least b ≤ least_after (pulses before)) (sym same) rises);
    }

-- bytes with the first bad line
pub fails : {B : Type 0} (stands : B → History → Type 0) (old now : LogDecoder B) (feed : ℕ) (plan : Plan) (delay : ℕ) (before prefix : List ℕ) (bad : BadLine) → HasDecoded stands old feed plan delay before →
    now.receiver ≡ old.receiver → now.feed ≡ old.feed → TakesPrefix now.reader before prefix (Err bad) → DecodesPrefix stands now (radio_log feed plan delay) before prefix (Err bad)
fails stands old now feed plan delay before prefix bad decoded same kept takes =
    adds_none stands old now feed plan delay before prefix (Err bad) decoded same kept takes.read takes.found.1
    (takes.found.0, due_same feed plan delay before (before ++ prefix) takes.found.1)

module _ {B : Type 0} (stands : B → History → Type 0) (feed : ℕ) (plan : Plan) (delay : ℕ) (bytes : List ℕ) where
  pub none_yet : (decoder : LogDecoder B) → HasDecoded stands decoder feed plan delay bytes → GoesOn stands decoder feed plan delay bytes []
  none_yet decoder h = record {
    decoded = subst (HasDecoded stands decoder feed plan delay) (sym (append-nil bytes)) h;
    good = λ some. absurd (omega (arith, some));
    due = ap (due_log feed plan delay) (append-nil bytes);
  }

  -- the next bytes after a beginning
  regroup : (all : List ℕ) (count more : ℕ) → (bytes ++ take count all) ++ take more (drop count all) ≡ bytes ++ take (count + more) all
  regroup all count more = append_assoc bytes (take count all) (take more (drop count all)) ∙ ap (λ (t : List ℕ). bytes ++ t) (sym (take-add count more all))

  pub ends : (before now : LogDecoder B) (all : List ℕ) (count more : ℕ) (found : Result (Option Entry) BadLine) → GoesOn stands before feed plan delay bytes (take count all) →
      DecodesPrefix stands now (radio_log feed plan delay) (bytes ++ take count all) (take more (drop count all)) found → DecodesPrefix stands now (radio_log feed plan delay) bytes (take (count + more) all) found
  ends before now all count more (Ok entry) goes takes = record {
    decoded = subst (HasDecoded stands now feed plan delay) (regroup all count more) takes.decoded;
    finds = (
      ap bad_line (sym (regroup all count more)) ∙ takes.finds.0,
      ap (due_log feed plan delay) (sym (regroup all count more)) ∙ takes.finds.1 ∙ ap (λ (es : List Entry). es ++ option_to_list entry) goes.due,
    );
  }
  ends before now all count more (Err bad) goes takes = record {
    decoded = subst (HasDecoded stands now feed plan delay) (regroup all count more) takes.decoded;
    finds = (ap bad_line (sym (regroup all count more)) ∙ takes.finds.0, ap (due_log feed plan delay) (sym (regroup all count more)) ∙ takes.finds.1 ∙ goes.due);
  }

  pub goes_on : (before now : LogDecoder B) (all : List ℕ) (count more : ℕ) (found : Result (Option Entry) BadLine) → found ≡ Ok None → GoesOn stands before feed plan delay bytes (take count all) →
      DecodesPrefix stands now (radio_log feed plan delay) (bytes ++ take count all) (take more (drop count all)) found → GoesOn stands now feed plan delay bytes (take (count + more) all)
  goes_on before now all count more found none goes takes =
      let both = ends before now all count more (Ok None) goes (subst (DecodesPrefix stands now (radio_log feed plan delay) (bytes ++ take count all) (take more (drop count all))) none takes) in
      record { decoded = both.decoded; good = λ _. both.finds.0; due = both.finds.1 ∙ append-nil (due_log feed plan delay bytes) }

  pub gives_none : (now : LogDecoder B) (prefix : List ℕ) → 0 < length prefix → GoesOn stands now feed plan delay bytes prefix → DecodesPrefix stands now (radio_log feed plan delay) bytes prefix (Ok None)
  gives_none now prefix some goes = record { decoded = goes.decoded; finds = (goes.good some, goes.due ∙ sym (append-nil (due_log feed plan delay bytes))) }
