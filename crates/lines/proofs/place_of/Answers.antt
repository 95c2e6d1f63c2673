-- The first place of a word. Assumes nothing.
use Rattle.std.proofs.Common.{rules, tests, ◌≡◌, ℕ, ◌-◌, ◌<◌, ◌≤◌, Bool, true, false, List, length, take, drop, Some, None, MatchOption, Option, sym, refl, ap, ◌∙◌, arith}
use Rattle.std.proofs.lemmas.List.{take_rest}
use Rattle.std.proofs.lemmas.Iterator.{first_from_Range}
use Rattle.std.proofs.lemmas.Bool.Decides.{Decides-eqb}
use Rattle.std.proofs.lemmas.Slice.Eq.{starts_is}
use Rattle.std.specs.Str.{bytes_eq}
use Rattle.lines.proofs.Cuts.{begins_is}
use Rattle.lines.specs.Words.{begins, StandsNowhere, StandsFirst}
use Rattle.lines.proofs.place_of.Goals as goal

-- the test at a place, as the code makes it on the part of the slice from there on
here : List ℕ → List ℕ → ℕ → Bool
here w bs at = bytes_eq w (take (length w) (take (length bs - at) (drop at bs)))

here_begins : (w bs : List ℕ) (at : ℕ) → begins w (drop at bs) ≡ here w bs at
unfolding here
here_begins w bs at =
    let part = take (length bs - at) (drop at bs) in
    sym (begins_is part w (here w bs at) (starts_is Decides-eqb part w (here w bs at) refl) ∙ ap (begins w) (take_rest bs at))

first_place :
    (w bs : List ℕ) (r : Option ℕ) →
    MatchOption r ((k : ℕ) → 0 ≤ k → k < length bs → here w bs k ≡ false) (λ i. (0 ≤ i) × (i < length bs) × (here w bs i ≡ true) × ((k : ℕ) → 0 ≤ k → k < i → here w bs k ≡ false)) →
    MatchOption r (StandsNowhere w bs) (λ at. StandsFirst w bs at)
first_place w bs None h = λ k l. here_begins w bs k ∙ h k (omega arith) l
first_place w bs (Some at) h =
    record {
      inside = h.1;
      here = here_begins w bs at ∙ h.2;
      before = λ k l. here_begins w bs k ∙ h.3 k (omega arith) l;
    }

pub returns : goal.returns
unfolding here
returns c =
    let w = c.args.word.now in
    let bs = c.args.text.now in
    record {
      cases =
          first_place w bs c.find.result
          (first_from_Range _ _ _ c.find.result (λ at. here w bs at ≡ true) (λ at. here w bs at ≡ false) c.find.ensures.ran
          (λ x q k. search (rules, tests)) (λ x q k. search (rules, tests)));
    }
