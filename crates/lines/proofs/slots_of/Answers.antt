-- `lines::slots_of` meets its contract: by the first word that is no slot, or by all of them.
use Rattle.std.proofs.Common.{◌≡◌, ℕ, ◌+◌, ◌<◌, List, length, get_or, refl, sym, ap, ◌∙◌, arith, Option, Some, None, Ok, Err, ok_or, is_none, unwrap_or, lt-ltb}
use Rattle.std.proofs.lemmas.Result.{err_from_is_err_and}
use Rattle.laws.proofs.First.{first_is, first_none}
use Rattle.laws.proofs.Tables.{table_cong, table_self}
use Rattle.lines.specs.declared.Mistake.{Mistake}
use Rattle.lines.specs.declared.Mistake.TheVariants as mistake
use Rattle.lines.specs.declared.Parameter.TheVariants as parameter
use Rattle.lines.specs.Lines.{number8, slots_of}
use Rattle.lines.proofs.slots_of.Goals as goal

-- a number that is told to be wrong is none
none_told : (n : Option ℕ) (m e : Mistake) → Err e ≡ ok_or n m → (n ≡ None) × (m ≡ e)
none_told None m e h = (refl, cc)
none_told (Some x) m e h = cc

module _ (text l : List ℕ) where
  missing : (k : ℕ) → k < 8 → number8 (k + 2) text ≡ None → ((j : ℕ) → j < k → number8 (j + 2) text ≡ Some (get_or l j 0)) → slots_of text ≡ Err (mistake.Number (parameter.Slot k))
  unfolding slots_of
  missing k h none known =
      let wrong = first_is 8 (λ i. is_none (number8 (i + 2) text)) k h (rw none) (λ j g. rw (known j g)) in
      rw (wrong, lt-ltb k 8 h)

  all_there : length l ≡ 8 → ((j : ℕ) → j < 8 → number8 (j + 2) text ≡ Some (get_or l j 0)) → slots_of text ≡ Ok l
  unfolding slots_of
  all_there e known =
      let right = first_none 8 (λ i. is_none (number8 (i + 2) text)) (λ j g. rw (known j g)) in
      let values = table_cong 8 (λ i. unwrap_or (number8 (i + 2) text) 0) (λ i. get_or l i 0) (λ j g. rw (known j g)) in
      rw right (ap Ok (values ∙ table_self 8 l 0 e))

pub returns-in_err-slot : goal.returns-in_err-slot
returns-in_err-slot c =
    let n = none_told _ _ _ c.in_err-slot.ensures in
    let e = missing c.args.text.now _ c.loop-k.k (omega arith) n.0 c.loop-k.invariant.1 in
    let p = err_from_is_err_and c.from_residual.result c.from_residual.ensures.1 in
    cc (e, n.1, p.1, p.2)

pub returns : goal.returns
returns c = sym (all_there _ _ c.loop-k.invariant.0 (λ j h. c.loop-k.invariant.1 j (omega arith)))
