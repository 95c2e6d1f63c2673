-- Whether the word stands anywhere. Assumes nothing.
use Rattle.std.proofs.Common.{rules, tests, ◌≡◌, ℕ, zero, suc, ◌+◌, ◌-◌, ◌||◌, List, length, take, drop, sym, refl, ap, ◌∙◌, arith}
use Rattle.std.specs.List.{list_any, range_with_len}
use Rattle.std.proofs.lemmas.List.{take_rest, drop_more, drop_all}
use Rattle.std.proofs.lemmas.Iterator.{YieldsList-from_range}
use Rattle.std.proofs.lemmas.Iterator.Search.{any_from_yields_List}
use Rattle.lines.specs.Names.{and_here, has_and}
use Rattle.lines.proofs.holds_and.Goals as goal

-- the word at one of the places from i on
found : (bs : List ℕ) (n i : ℕ) → i + n ≡ length bs → list_any (λ at. and_here (take (length bs - at) (drop at bs))) (range_with_len i n) ≡ has_and (drop i bs)
unfolding has_and
found bs zero i e = sym (ap has_and (drop_all i bs (omega arith)))
found bs (suc n) i e =
    let d = drop_more bs i 0 (omega arith) in
    (λ k. and_here (take_rest bs i k) || found bs n (i + 1) (omega arith) k) ∙ (ap (λ (b : List ℕ). and_here b || has_and (drop (i + 1) bs)) d ∙ sym (ap has_and d))

pub returns : goal.returns
returns c = let bs = c.args.bytes.now in
    let any = any_from_yields_List (λ at. and_here (take (length bs - at) (drop at bs))) _ _ c.any.result c.any.ensures.ran (YieldsList-from_range 0 (length bs) (length bs) refl (omega arith)) (λ x b q k. search (rules, tests)) in record { value = any ∙ found bs (length bs) 0 (omega arith) }
