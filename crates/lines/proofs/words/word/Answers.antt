-- `lines::words::word` meets its contract: by the words that `split` gives.
use Rattle.std.proofs.Common.{◌≡◌, ℕ, List, [], rules, tests, refl, Option, Some, None, Bor, option_map, unwrap_or, slice_get}
use Rattle.std.proofs.lemmas.Iterator.Consumers.{nth_from_yields_List}
use Rattle.std.proofs.lemmas.Iterator.Splits.{YieldsList-from_slice_split}
use Rattle.std.proofs.lemmas.Option.{unwrap_or-slice_get}
use Rattle.lines.specs.Words.{words}
use Rattle.lines.proofs.words.word.Goals as goal

-- what a reference holds that was found, or the other one
now_of : (r : Option (Bor (List ℕ))) (d : Bor (List ℕ)) → (unwrap_or r d).now ≡ unwrap_or (option_map (λ x. x.now) r) d.now
now_of None d = refl
now_of (Some x) d = refl

pub returns : goal.returns
returns c =
    let found : option_map (λ x. x.now) c.nth.result ≡ slice_get (words c.args.text.now) c.args.k
    = nth_from_yields_List _ _ c.args.k c.nth.ensures.ran (YieldsList-from_slice_split _ _ c.args.text.now c.split.ensures.rest c.split.ensures.done c.split.ensures.closure (λ x b q k. search (rules, tests)))
    in
    rw (c.unwrap_or.ensures, now_of, found) (unwrap_or-slice_get (words c.args.text.now) c.args.k [])
