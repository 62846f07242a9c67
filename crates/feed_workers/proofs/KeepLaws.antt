-- What is kept of the entries that are due, as one more is due.
use Rattle.std.proofs.Common.{◌≡◌, ℕ, List, [], ◌∷◌, ◌++◌, take, length, Bool, true, false, refl, sym, ap, ◌∙◌, arith, length-append}
use Rattle.std.proofs.lemmas.List.{append-nil, append_assoc, take-append-le}
use Rattle.std.proofs.lemmas.Bool.{true≢false}
use Rattle.std.proofs.Math.Seq.{take-length}
use Rattle.journal_entry.specs.declared.entry.Entry.{Entry}
use Rattle.page_cell.specs.Passes.{Known, claim_of}
use Rattle.page_cell.specs.declared.view.Claim.{Claim}
use Rattle.verdict_journal.specs.Journals.{Appends, FindsFull, IsSamePass}
use Rattle.feed_workers.specs.Keeping.{Keeps, share_of}

take_whole : {X : Type 0} (xs : List X) (n : ℕ) → n ≡ length xs → take n xs ≡ xs
take_whole xs n same = ap (λ m. take m xs) same ∙ take-length xs

pub keeps_none : (claim : Claim) (limit : ℕ) → Keeps (record { begun = claim; claim = claim; limit = limit; full = false }) []
keeps_none claim limit = record { count = 0; most = omega arith; own = sym (append-nil claim.own); number = refl; whole = (λ _. refl); lost = (λ e. absurd (true≢false (sym e))) }

-- an entry was appended: then the journal was never found full
pub keeps_one : (start : Claim) (f g : Known) (limit n : ℕ) (e : Entry) (due : List Entry) (full : Bool) → Keeps (share_of start f limit full) due →
    IsSamePass f g → Appends e n limit f g → Keeps (share_of start g limit full) (due ++ e ∷ [])
keeps_one start f g limit n e due true k same a =
    let more = length-append (claim_of f.view).seen a.earlier.0 in
    let before = ap (λ (l : List Entry). length l) a.earlier.1 in
    let seen = ap (λ (l : List Entry). length l) a.seen in
    absurd (omega (arith, (k.lost refl).1, more, before, seen, length-append a.before (e ∷ []), a.length, a.within))
keeps_one start f g limit n e due false k same a =
    let all = k.whole refl in
    record {
      count = length (due ++ e ∷ []);
      most = omega arith;
      own = a.own ∙ ap (λ (l : List Entry). l ++ e ∷ []) (k.own ∙ ap (λ (l : List Entry). start.own ++ l) (take_whole due k.count all)) ∙ append_assoc start.own due (e ∷ [])
          ∙ ap (λ (l : List Entry). start.own ++ l) (sym (take_whole (due ++ e ∷ []) (length (due ++ e ∷ [])) refl));
      number = same.number ∙ k.number;
      whole = (λ _. refl);
      lost = (λ h. absurd (true≢false (sym h)));
    }

-- there was no room for an entry
pub keeps_less : (start : Claim) (f g : Known) (limit : ℕ) (e : Entry) (due : List Entry) (full : Bool) → Keeps (share_of start f limit full) due →
    IsSamePass f g → FindsFull limit f g → Keeps (share_of start g limit true) (due ++ e ∷ [])
keeps_less start f g limit e due full k same found =
    record {
      count = k.count;
      most = omega (arith, length-append due (e ∷ []), k.most);
      own = found.own ∙ k.own ∙ ap (λ (l : List Entry). start.own ++ l) (sym (take-append-le k.count due (e ∷ []) k.most));
      number = same.number ∙ k.number;
      whole = (λ h. absurd (true≢false h));
      lost = (λ _. (omega (arith, length-append due (e ∷ []), k.most), found.length));
    }
