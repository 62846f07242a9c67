-- What a piece does to something that takes the lines of a file.
use Rattle.std.proofs.Common.{◌≡◌, ℕ, ◌+◌, ◌<◌, ◌≤◌, Bool, true, false, eqb, nat_eq, Option, None, Some, Ok, Err, List, [], ◌∷◌, ◌++◌, length, take, refl, ap, sym, ◌∙◌, subst, inr, arith, cond}
use Rattle.std.proofs.lemmas.Bool.{eq-eqb, eqb-true}
use Rattle.std.proofs.lemmas.List.{append-nil, length_push}
use Rattle.line_files.proofs.ItemLaws.{complete_count, same_items, too_long_line, next_item, bad_line, no_items, short_unfinished}
use Rattle.line_files.specs.Cutting.{HasTaken, TakesPiece, IsCut, line_in}
use Rattle.line_files.specs.declared.by_line.ByLine.{ByLine}
use Rattle.line_files.specs.declared.cutter.Cut.{Cut}
use Rattle.line_files.specs.declared.cutter.Cut.TheVariants.{More, Line, TooLong}
use Rattle.line_files.specs.declared.cutter.LineCutter.{LineCutter}
use Rattle.pulse_log.specs.declared.taken.Taken.{Taken}
use Rattle.pulse_log.proofs.LogLaws.{lines_more, lines_end}
use Rattle.tick_units.specs.Log.{Lines, lines_of, has_tail}
use Rattle.line_files.specs.LineFiles.{HasItemsOf}
use Rattle.line_files.specs.LineTaking.{GivesLine, HasRoom, IsTakenBy, IsWay, LineWay, limit_of, line_texts}
use Rattle.line_files.specs.Reading.{bad_in_the_end}
use Rattle.line_files.specs.Taking.{Gives, given, bad_of}

tail_by : (b : Bool) (n : ℕ) → b ≡ true → ◌≡◌ {A = Option ℕ} (cond b (Some n) None) (Some n)
tail_by true n e = refl
tail_by false n e = cc

limit_by : (too_long lines most : ℕ) (same : Bool) → nat_eq lines most ≡ same → lines < most → cond same 1 too_long ≡ too_long
limit_by too_long lines most true e less = (let is = eqb-true lines most e in absurd (omega arith))
limit_by too_long lines most false e less = refl

pub limit_within : (too_long : ℕ) (most : Option ℕ) (lines : ℕ) → HasRoom most lines → limit_of too_long most lines ≡ too_long
limit_within too_long None lines room = refl
limit_within too_long (Some most) lines less = limit_by too_long lines most (nat_eq lines most) refl less

some_by : (too_long : ℕ) (same : Bool) → 0 < too_long → 0 < cond same 1 too_long
some_by too_long true some = omega arith
some_by too_long false some = some

some_limit : (too_long : ℕ) (most : Option ℕ) (lines : ℕ) → 0 < too_long → 0 < limit_of too_long most lines
some_limit too_long None lines some = some
some_limit too_long (Some most) lines some = some_by too_long (nat_eq lines most) some

module _ {T : Type 0} (room : ℕ) (most : Option ℕ) (way : LineWay T) (is_way : IsWay room most way) (old : ByLine T) where
  abbrev Took : ByLine T → List ℕ → List ℕ → Option ℕ → Type 0
  Took = IsTakenBy room way

  pub took_nothing : 0 < room → old.count ≡ 0 → HasTaken old.cutter room [] → way.stands old.taker [] None → Took old [] [] None
  took_nothing some count cut taken =
      let limit = is_way.limit 0 in
      let least = some_limit room most 0 some in
      record { items = []; said = no_items way.file.says way.file.too_long (omega arith); text_is = sym is_way.none; taken = taken; cut = λ _. cut; count = λ _. count }

  -- the end, with bytes after the last line feed
  pub tail_bad : (bytes text : List ℕ) (found : Bool) → Took old bytes text None → ((b : List ℕ) → HasTaken old.cutter room b → found ≡ has_tail b) → found ≡ true →
      bad_in_the_end None bytes ≡ Some (old.count + 1)
  tail_bad bytes text found h tail is =
      let count = h.count refl in
      let whole = complete_count way.file.says way.file.too_long bytes h.items h.said in
      tail_by (has_tail bytes) (length (lines_of bytes).complete + 1) (sym (tail bytes (h.cut refl)) ∙ is) ∙ ap (λ n. Some (n + 1)) (whole ∙ sym count)

  module _ (before text : List ℕ) (h : Took old before text None) where
    -- the next line is bad
    module _ (new : ByLine T) (longer : List ℕ) (said : HasItemsOf way.file longer h.items (Some (length h.items + 1))) where
      took_bad : (number : ℕ) → number ≡ length h.items + 1 → way.stands new.taker h.items (Some number) → Took new longer (text ++ []) (Some number)
      took_bad number is taken = record {
        items = h.items;
        said = subst (λ (n : ℕ). HasItemsOf way.file longer h.items (Some n)) (sym is) said;
        text_is = append-nil text ∙ h.text_is;
        taken = taken;
        cut = λ none. absurd (let e : ◌≡◌ {A = Option ℕ} (Some number) None = none in cc);
        count = λ none. absurd (let e : ◌≡◌ {A = Option ℕ} (Some number) None = none in cc);
      }

      -- and it was not taken
      ended : new.taker ≡ old.taker → Took new longer (text ++ []) (Some (old.count + 1))
      ended same = took_bad (old.count + 1) (ap (λ n. n + 1) (h.count refl)) (is_way.ends new.taker h.items (old.count + 1) (subst (λ (t : T). way.stands t h.items None) (sym same) h.taken))

    -- after the last line that there may be any byte makes a bad one
    pub took_none : (bytes : List ℕ) → 0 < length bytes → most ≡ Some old.count → Took old (before ++ take 1 bytes) (text ++ []) (Some (old.count + 1))
    took_none [] more full = absurd (omega arith)
    took_none (byte ∷ bytes) more full = ended old (before ++ byte ∷ []) (by_byte (eqb byte 10) refl) refl
      where
        is_full : most ≡ Some (length h.items)
        is_full = full ∙ ap Some (h.count refl)

        one : way.file.too_long (length h.items) ≡ 1
        one = is_way.limit (length h.items) ∙ ap (λ (m : Option ℕ). limit_of room m (length h.items)) is_full ∙ ap (λ (same : Bool). cond same 1 room) (eq-eqb (length h.items) (length h.items) refl)

        none : (item : way.file.Item) → way.file.says h.items (lines_of before).unfinished item → ⊥
        none item says = (let less : length h.items < length h.items = subst (λ (m : Option ℕ). HasRoom m (length h.items)) is_full (is_way.room h.items (lines_of before).unfinished item says) in absurd (omega arith))

        by_byte : (feed : Bool) → eqb byte 10 ≡ feed → HasItemsOf way.file (before ++ byte ∷ []) h.items (Some (length h.items + 1))
        by_byte true feed = bad_line way.file.says way.file.too_long before h.items h.said (before ++ byte ∷ []) (lines_of before).unfinished (ap (λ (l : Lines). l.complete) (lines_end before byte feed)) (inr none)
        by_byte false feed =
            let len = length_push (lines_of before).unfinished byte in
            let long : way.file.too_long (length h.items) ≤ length (lines_of (before ++ byte ∷ [])).unfinished = rw (lines_more before byte feed) (omega (arith, one)) in
            too_long_line way.file.says way.file.too_long before h.items h.said (before ++ byte ∷ []) (ap (λ (l : Lines). l.complete) (lines_more before byte feed)) long

    -- this many bytes were cut, in this way
    module _ (bytes : List ℕ) (taken : Taken Cut) (cutter_now : LineCutter) (takes : (b : List ℕ) → HasTaken old.cutter room b → TakesPiece cutter_now room b bytes taken) where
      cut_by : (cut : Cut) → taken.found ≡ cut → IsCut cut cutter_now room before bytes (take taken.count bytes)
      cut_by cut is = subst (λ (k : Cut). IsCut k cutter_now room before bytes (take taken.count bytes)) is (takes before (h.cut refl)).cut

      module _ (less : HasRoom most old.count) where
        limit : way.file.too_long (length h.items) ≡ room
        limit = ap way.file.too_long (sym (h.count refl)) ∙ is_way.limit old.count ∙ limit_within room most old.count less

        pub took_more : taken.found ≡ More → Took (record old { cutter = cutter_now }) (before ++ take taken.count bytes) (text ++ []) None
        took_more is =
            let cut = cut_by More is in
            let short = short_unfinished cutter_now room (before ++ take taken.count bytes) cut.0 in
            record {
              items = h.items;
              said = same_items way.file.says way.file.too_long before h.items h.said (before ++ take taken.count bytes) cut.2 (omega (arith, limit));
              text_is = append-nil text ∙ h.text_is;
              taken = h.taken;
              cut = λ _. cut.0;
              count = h.count;
            }

        pub took_long : taken.found ≡ TooLong → Took (record old { cutter = cutter_now }) (before ++ take taken.count bytes) (text ++ []) (Some (old.count + 1))
        took_long is =
            let cut = cut_by TooLong is in
            let long = cut.1 in
            ended (record old { cutter = cutter_now }) (before ++ take taken.count bytes)
            (too_long_line way.file.says way.file.too_long before h.items h.said (before ++ take taken.count bytes) cut.2 (omega (arith, limit))) refl

      pub took_line : (new : ByLine T) (line : List ℕ) (gives : Gives) → taken.found ≡ Line → new.cutter ≡ cutter_now → new.count ≡ old.count + 1 →
          ((items : List way.file.Item) → old.count ≡ length items → way.stands old.taker items None → GivesLine way new.taker items (line_texts (line_in cutter_now) line) gives) →
          Took new (before ++ take taken.count bytes) (text ++ given gives line) (bad_of gives)
      took_line new line gives is same count gives_line = by gives (gives_line h.items (h.count refl) h.taken)
        where
          longer : List ℕ
          longer = before ++ take taken.count bytes

          cut : IsCut Line cutter_now room before bytes (take taken.count bytes)
          cut = cut_by Line is

          by : (gives : Gives) → GivesLine way new.taker h.items (line_texts (line_in cutter_now) line) gives → Took new longer (text ++ given gives line) (bad_of gives)
          by (Ok None) p = absurd p
          by (Ok (Some n)) p =
              let item = p.0 in
              let none = ap length cut.1 in
              let short = short_unfinished cutter_now room longer cut.0 in
              let least = some_limit room most (length (h.items ++ item ∷ [])) (omega arith) in
              let limit = is_way.limit (length (h.items ++ item ∷ [])) in
              record {
                items = h.items ++ item ∷ [];
                said = next_item way.file.says way.file.too_long before h.items h.said longer (line_in cutter_now) item cut.2 (omega arith) p.1;
                text_is = ap (λ (t : List ℕ). t ++ take n line) h.text_is ∙ sym p.3;
                taken = p.2;
                cut = λ _. subst (λ (k : LineCutter). HasTaken k room longer) (sym same) cut.0;
                count = λ _. count ∙ ap (λ (k : ℕ). k + 1) (h.count refl) ∙ sym (length_push h.items item);
              }
          by (Err bad) p = took_bad new longer (bad_line way.file.says way.file.too_long before h.items h.said longer (line_in cutter_now) cut.2 (inr p.1.0)) bad.line p.0 (subst (λ (n : ℕ). way.stands new.taker h.items (Some n)) (sym p.0) p.1.1)
