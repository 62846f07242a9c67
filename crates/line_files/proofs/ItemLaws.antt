-- The items of a file with more bytes.
use Rattle.std.proofs.Common.{◌≡◌, ℕ, suc, ◌+◌, ◌<◌, ◌≤◌, Bool, true, false, cond, eqb, Option, None, Some, List, [], ◌∷◌, ◌++◌, length, refl, ap, sym, ◌∙◌, subst, inl, inr, arith, append_assoc}
use Rattle.std.proofs.lemmas.List.{append-nil, length_push, length-take}
use Rattle.std.proofs.lemmas.Bool.{le-leb, lt-leb, leb-true}
use Rattle.std.specs.Prelude.{nat_le, if◌then◌else◌}
use Rattle.pulse_log.proofs.LogLaws.{lines_more, lines_end}
use Rattle.tick_units.specs.Log.{lines_of}
use Rattle.line_files.specs.Cutting.{HasTaken, line_in}
use Rattle.line_files.specs.Items.{Saying, AreItems, IsBad, IsFirstBad, HasItems}
use Rattle.line_files.specs.declared.cutter.LineCutter.{LineCutter}

-- an unfinished line that is shorter is not bad, and another one is
unfinished_good : (most : ℕ) (u : List ℕ) (n : ℕ) → length u < most → ◌≡◌ {A = Option ℕ} None (if nat_le most (length u) then Some n else None)
unfinished_good most u n lt = rw (lt-leb most (length u) lt) refl

unfinished_bad : (most : ℕ) (u : List ℕ) (n : ℕ) → most ≤ length u → ◌≡◌ {A = Option ℕ} (Some n) (if nat_le most (length u) then Some n else None)
unfinished_bad most u n le = rw (le-leb most (length u) le) refl

bad_is_long : (b : Bool) (n m : ℕ) → ◌≡◌ {A = Option ℕ} (Some n) (cond b (Some m) None) → b ≡ true
bad_is_long true n m e = refl
bad_is_long false n m e = cc

module _ {Item : Type 0} (says : Saying Item) where
  items_push : (before : List Item) (texts : List (List ℕ)) (items : List Item) (text : List ℕ) (item : Item) →
      AreItems says before texts items → says (before ++ items) text item → AreItems says before (texts ++ text ∷ []) (items ++ item ∷ [])
  items_push before [] [] text item h is = (subst (λ (b : List Item). says b text item) (append-nil before) is, tt)
  items_push before [] (x ∷ items) text item h is = absurd h
  items_push before (t ∷ texts) [] text item h is = absurd h
  items_push before (t ∷ texts) (x ∷ items) text item h is =
      (h.0, items_push (before ++ x ∷ []) texts items text item h.1 (subst (λ (b : List Item). says b text item) (sym (append_assoc before (x ∷ []) items)) is))

  items_length : (before : List Item) (texts : List (List ℕ)) (items : List Item) → AreItems says before texts items → length texts ≡ length items
  items_length before [] [] h = refl
  items_length before [] (x ∷ items) h = absurd h
  items_length before (t ∷ texts) [] h = absurd h
  items_length before (t ∷ texts) (x ∷ items) h = ap suc (items_length (before ++ x ∷ []) texts items h.1)

module _ {Item : Type 0} (says : Saying Item) (too_long : ℕ → ℕ) where
  pub no_items : 0 < too_long 0 → HasItems says too_long [] [] None
  no_items some = record { texts = []; left = []; all = refl; said = tt; first = unfinished_good (too_long 0) [] 1 some }

  -- where no line is bad, none is left
  pub none_left : (items : List Item) (left : List (List ℕ)) (unfinished : List ℕ) → IsFirstBad says too_long items left unfinished None → left ≡ []
  none_left items [] unfinished h = refl
  none_left items (text ∷ more) unfinished h = absurd (let e : ◌≡◌ {A = Option ℕ} None (Some (length items + 1)) = h.1 in cc)

  module _ (bytes : List ℕ) (items : List Item) (h : HasItems says too_long bytes items None) where
    pub whole : (lines_of bytes).complete ≡ h.texts
    whole = h.all ∙ ap (λ (l : List (List ℕ)). h.texts ++ l) (none_left items h.left (lines_of bytes).unfinished h.first) ∙ append-nil h.texts

    pub complete_count : length (lines_of bytes).complete ≡ length items
    complete_count = ap length whole ∙ items_length says [] h.texts items h.said

    -- more bytes that end no line
    pub same_items : (longer : List ℕ) → (lines_of longer).complete ≡ (lines_of bytes).complete → length (lines_of longer).unfinished < too_long (length items) → HasItems says too_long longer items None
    same_items longer same short = record {
      texts = h.texts;
      left = [];
      all = same ∙ whole ∙ sym (append-nil h.texts);
      said = h.said;
      first = unfinished_good (too_long (length items)) (lines_of longer).unfinished (length items + 1) short;
    }

    -- more bytes that make the line too long
    pub too_long_line : (longer : List ℕ) → (lines_of longer).complete ≡ (lines_of bytes).complete → too_long (length items) ≤ length (lines_of longer).unfinished → HasItems says too_long longer items (Some (length items + 1))
    too_long_line longer same long = record {
      texts = h.texts;
      left = [];
      all = same ∙ whole ∙ sym (append-nil h.texts);
      said = h.said;
      first = unfinished_bad (too_long (length items)) (lines_of longer).unfinished (length items + 1) long;
    }

    -- more bytes that end a line, which says an item or is bad
    pub next_item : (longer text : List ℕ) (item : Item) → (lines_of longer).complete ≡ (lines_of bytes).complete ++ text ∷ [] → length (lines_of longer).unfinished < too_long (length (items ++ item ∷ [])) →
        says items text item → HasItems says too_long longer (items ++ item ∷ []) None
    next_item longer text item more short is = record {
      texts = h.texts ++ text ∷ [];
      left = [];
      all = more ∙ ap (λ (ts : List (List ℕ)). ts ++ text ∷ []) whole ∙ sym (append-nil (h.texts ++ text ∷ []));
      said = items_push says [] h.texts items text item h.said is;
      first = unfinished_good (too_long (length (items ++ item ∷ []))) (lines_of longer).unfinished (length (items ++ item ∷ []) + 1) short;
    }

    pub bad_line : (longer text : List ℕ) → (lines_of longer).complete ≡ (lines_of bytes).complete ++ text ∷ [] → IsBad says too_long items text → HasItems says too_long longer items (Some (length items + 1))
    bad_line longer text more bad = record {
      texts = h.texts;
      left = text ∷ [];
      all = more ∙ ap (λ (ts : List (List ℕ)). ts ++ text ∷ []) whole;
      said = h.said;
      first = (bad, refl);
    }

  -- a bad line stays the first one
  first_push : (items : List Item) (bytes : List ℕ) (byte number : ℕ) (texts left : List (List ℕ)) → (lines_of bytes).complete ≡ texts ++ left → AreItems says [] texts items →
      IsFirstBad says too_long items left (lines_of bytes).unfinished (Some number) → (feed : Bool) → eqb byte 10 ≡ feed → HasItems says too_long (bytes ++ byte ∷ []) items (Some number)
  first_push items bytes byte number texts [] all said first true feed =
      let most = too_long (length items) in
      let long = leb-true most (length (lines_of bytes).unfinished) (bad_is_long (nat_le most (length (lines_of bytes).unfinished)) number (length items + 1) first) in
      let is : ◌≡◌ {A = Option ℕ} (Some number) (Some (length items + 1)) = first ∙ sym (unfinished_bad most (lines_of bytes).unfinished (length items + 1) long) in
      record {
        texts = texts;
        left = (lines_of bytes).unfinished ∷ [];
        all = rw (lines_end bytes byte feed) (ap (λ (ts : List (List ℕ)). ts ++ (lines_of bytes).unfinished ∷ []) (all ∙ append-nil texts));
        said = said;
        first = (inl long, is);
      }
  first_push items bytes byte number texts [] all said first false feed =
      let most = too_long (length items) in
      let long = leb-true most (length (lines_of bytes).unfinished) (bad_is_long (nat_le most (length (lines_of bytes).unfinished)) number (length items + 1) first) in
      let is : ◌≡◌ {A = Option ℕ} (Some number) (Some (length items + 1)) = first ∙ sym (unfinished_bad most (lines_of bytes).unfinished (length items + 1) long) in
      let len = length_push (lines_of bytes).unfinished byte in
      record {
        texts = texts;
        left = [];
        all = rw (lines_more bytes byte feed) all;
        said = said;
        first = rw (lines_more bytes byte feed) (is ∙ unfinished_bad most ((lines_of bytes).unfinished ++ byte ∷ []) (length items + 1) (omega arith));
      }
  first_push items bytes byte number texts (text ∷ more) all said first true feed = record {
    texts = texts;
    left = text ∷ (more ++ (lines_of bytes).unfinished ∷ []);
    all = rw (lines_end bytes byte feed) (ap (λ (ts : List (List ℕ)). ts ++ (lines_of bytes).unfinished ∷ []) all ∙ append_assoc texts (text ∷ more) ((lines_of bytes).unfinished ∷ []));
    said = said;
    first = first;
  }
  first_push items bytes byte number texts (text ∷ more) all said first false feed = record {
    texts = texts;
    left = text ∷ more;
    all = rw (lines_more bytes byte feed) all;
    said = said;
    first = first;
  }

  pub bad_stays : (items : List Item) (number : ℕ) (bytes more : List ℕ) → HasItems says too_long bytes items (Some number) → HasItems says too_long (bytes ++ more) items (Some number)
  bad_stays items number bytes [] h = subst (λ (b : List ℕ). HasItems says too_long b items (Some number)) (sym (append-nil bytes)) h
  bad_stays items number bytes (byte ∷ more) h = subst (λ (b : List ℕ). HasItems says too_long b items (Some number)) (append_assoc bytes (byte ∷ []) more)
      (bad_stays items number (bytes ++ byte ∷ []) more (first_push items bytes byte number h.texts h.left h.all h.said h.first (eqb byte 10) refl))

  -- where a text says at most one item, and none that is too long, the items of bytes without a bad line are all that there are
  module _ (one : (before : List Item) (text : List ℕ) (x y : Item) → says before text x → says before text y → x ≡ y)
      (short : (before : List Item) (text : List ℕ) (x : Item) → says before text x → length text < too_long (length before)) where
    not_bad : (items : List Item) (text : List ℕ) (item : Item) → IsBad says too_long items text → says items text item → ⊥
    not_bad items text item (inl long) is = (let less = short items text item is in absurd (omega arith))
    not_bad items text item (inr none) is = none item is

    all_items : (before : List Item) (unfinished : List ℕ) (a left b : List (List ℕ)) (xs ys : List Item) (bad : Option ℕ) → a ++ left ≡ b →
        AreItems says before a xs → AreItems says before b ys → IsFirstBad says too_long (before ++ xs) left unfinished bad → IsFirstBad says too_long (before ++ ys) [] unfinished None → (xs ≡ ys) × (bad ≡ None)
    all_items before unfinished [] [] [] [] [] bad e ha hb fa fb = (refl, fa ∙ sym fb)
    all_items before unfinished [] left [] [] (y ∷ ys) bad e ha hb fa fb = absurd hb
    all_items before unfinished [] (l ∷ left) [] [] [] bad e ha hb fa fb = cc
    all_items before unfinished [] left (t ∷ b) [] [] bad e ha hb fa fb = absurd hb
    all_items before unfinished [] [] (t ∷ b) [] (y ∷ ys) bad e ha hb fa fb = cc
    all_items before unfinished [] (l ∷ left) (t ∷ b) [] (y ∷ ys) bad e ha hb fa fb =
        let same : l ≡ t = cc in
        absurd (not_bad before l y (subst (λ (p : List Item). IsBad says too_long p l) (append-nil before) fa.0) (subst (λ (u : List ℕ). says before u y) (sym same) hb.0))
    all_items before unfinished [] left b (x ∷ xs) ys bad e ha hb fa fb = absurd ha
    all_items before unfinished (s ∷ a) left b [] ys bad e ha hb fa fb = absurd ha
    all_items before unfinished (s ∷ a) left [] (x ∷ xs) ys bad e ha hb fa fb = cc
    all_items before unfinished (s ∷ a) left (t ∷ b) (x ∷ xs) [] bad e ha hb fa fb = absurd hb
    all_items before unfinished (s ∷ a) left (t ∷ b) (x ∷ xs) (y ∷ ys) bad e ha hb fa fb =
        let same : s ≡ t = cc in
        let rest : a ++ left ≡ b = cc in
        let item = one before s x y ha.0 (subst (λ (u : List ℕ). says before u y) (sym same) hb.0) in
        let more = all_items (before ++ x ∷ []) unfinished a left b xs ys bad rest ha.1
        (subst (λ (l : Item). AreItems says (before ++ l ∷ []) b ys) (sym item) hb.1)
        (subst (λ (p : List Item). IsFirstBad says too_long p left unfinished bad) (sym (append_assoc before (x ∷ []) xs)) fa)
        (subst (λ (p : List Item). IsFirstBad says too_long p [] unfinished None) (ap (λ (l : Item). before ++ l ∷ ys) (sym item) ∙ sym (append_assoc before (x ∷ []) ys)) fb) in
        (ap (λ (l : Item). l ∷ xs) item ∙ ap (λ (r : List Item). y ∷ r) more.0, more.1)

    pub one_reading : (bytes : List ℕ) (items good : List Item) (bad : Option ℕ) → HasItems says too_long bytes items bad → HasItems says too_long bytes good None → (items ≡ good) × (bad ≡ None)
    one_reading bytes items good bad h g =
        let none = none_left good g.left (lines_of bytes).unfinished g.first in
        all_items [] (lines_of bytes).unfinished h.texts h.left g.texts items good bad (sym h.all ∙ whole bytes good g) h.said g.said h.first
        (subst (λ (l : List (List ℕ)). IsFirstBad says too_long good l (lines_of bytes).unfinished None) none g.first)

-- a line that is kept is short
short_line : (cutter : LineCutter) → length (line_in cutter) < cutter.too_long
short_line cutter = let short = cutter.short in omega (arith, length-take cutter.length cutter.room)

short_by : (ended : Bool) (line : List ℕ) (most : ℕ) → length line < most → length (cond ended [] line) < most
short_by true line most lt = omega arith
short_by false line most lt = lt

pub short_unfinished : (cutter : LineCutter) (most : ℕ) (bytes : List ℕ) → HasTaken cutter most bytes → length (lines_of bytes).unfinished < most
short_unfinished cutter most bytes h = subst (λ (u : List ℕ). length u < most) h.unfinished (subst (λ n. length (cond cutter.ended [] (line_in cutter)) < n) h.limit (short_by cutter.ended (line_in cutter) cutter.too_long (short_line cutter)))
