-- `lines::command_of` meets its contract: the table of the code has the words and the commands of the definition's.
use Rattle.std.proofs.Common.{◌≡◌, ℕ, Bool, List, [], ◌∷◌, map, rules, tests, refl, ap, ◌∙◌, bytes_eq, option_map, find, Option, Some, None, Bor, MatchOption, IsSomeAnd}
use Rattle.std.proofs.lemmas.Iterator.{YieldsList-from_slice}
use Rattle.std.proofs.lemmas.Iterator.Search.{find_from_yields_List}
use Rattle.laws.specs.Letters.{letters}
use Rattle.laws.proofs.Tests.{by_test}
use Rattle.std.specs.Slice.Iter.{iter_rest}
use Rattle.lines.specs.declared.Command.{Command}
use Rattle.lines.specs.Lines.{commands}
use Rattle.lines.proofs.command_of.Goals as goal

-- what `map` gives of what a reference holds, by what its closure does
mapped : {A B : Type 0} (g : A → B) (o : Option (Bor A)) (r : Option B) (Q : Bor A → B → Type 0) → ((x : Bor A) (y : B) → Q x y → y ≡ g x.now)
    → MatchOption o (r ≡ None) (λ x. IsSomeAnd r (Q x)) → r ≡ option_map g (option_map (λ x. x.now) o)
mapped g None r Q e h = h
mapped g (Some x) None Q e h = absurd h
mapped g (Some x) (Some y) Q e h = ap Some (e x y h)

-- a search among references finds what a search among the words does
command : {A : Type 0} → A × Command → Command
command e = e.1

named : Bor (List ℕ) × Command → List ℕ × Command
named e = (e.0.now, e.1)

viewed : (p : List ℕ → Bool) (l : List (Bor (List ℕ) × Command)) → option_map command (find (λ e. p e.0.now) l) ≡ option_map command (find (λ e. p e.0) (map named l))
unfolding command named
viewed p [] = refl
viewed p (e ∷ l) = by_test (p e.0.now) (λ t. rw t) (λ t. rw t (viewed p l))

pub returns : goal.returns
unfolding letters commands command named
returns c =
    let p = λ (name : List ℕ). bytes_eq name c.args.word.now in
    let rest = iter_rest c.iter.result in
    let found = find_from_yields_List (λ e. p e.0.now) _ _ c.find.result c.find.ensures.ran (YieldsList-from_slice rest refl) (λ x b q k. search (rules, tests)) in
    mapped command c.find.result c.map.result _ (λ x y h. search rules) c.map.ensures.cases
    ∙ (ap (option_map command) found ∙ (viewed p rest ∙ ap (λ l. option_map command (find (λ e. p e.0) (map named l))) c.iter.ensures.rest))
